-- Bindings of types: their right sides, read one after the other.
use Rattle.std.proofs.Common.{◌≡◌, ℕ, suc, List, [], ◌∷◌, ◌++◌, length, None, refl, ap, subst, ◌∙◌}
use Rattle.sml_lex.specs.Faults.{Fault}
use Rattle.sml_lex.specs.declared.fault.Place.{Place}
use Rattle.sml_tree.specs.Expressions.{TypBind}
use Rattle.sml_tree.specs.Withtype.{unlisted}
use Rattle.sml_objects.specs.Initial.{Name}
use Rattle.sml_objects.specs.Maps.{Map, lookup, put}
use Rattle.sml_objects.specs.Objects.{MlType, bound}
use Rattle.sml_rules.specs.Answers.{Answer, accepted, refused}
use Rattle.sml_core_rules.specs.Answers.{give, ◌>>=◌}
use Rattle.sml_core_rules.specs.Datatypes.{listed, read_type_binds}
use Rattle.sml_core_rules.specs.Objects.{Env, TyStr}
use Rattle.sml_core_rules.specs.Types.{read_ty}
use Rattle.sml_types.specs.Bindings.{AreSpelt, put_types, read_sides, type_str_of}
use Rattle.sml_types.specs.Sides.{answer_map}
use Rattle.sml_types.proofs.Sequences.{read-next, read-stop}

abbrev Types : Type 0
Types = List (MlType Name)

-- what is accepted is so many types
abbrev Counted : ℕ → Answer Place Types → Type 0
Counted n (refused f) = Unit {0}
Counted n (accepted ts) = length ts ≡ n

counted-next : (n : ℕ) (a : Answer Place (MlType Name)) (b : Answer Place Types) → Counted n b → Counted (suc n) (a >>= (λ t. b >>= (λ ts. give (t ∷ ts))))
unfolding ◌>>=◌
counted-next n (refused f) b h = tt
counted-next n (accepted t) (refused f) h = tt
counted-next n (accepted t) (accepted ts) h = ap suc h

module _ (C : Env Name) where
  abbrev read-side : TypBind Place → Answer Place (MlType Name)
  read-side b = read_ty C (listed bound 0 b.variables) b.ty

  more : (b : TypBind Place) (bs : List (TypBind Place)) → read_sides C (b ∷ bs) ≡ (read-side b >>= (λ t. read_sides C bs >>= (λ ts. give (t ∷ ts))))
  unfolding read_sides
  more b bs = refl

  pub no-side-read : read_sides {P = Place} C [] ≡ accepted []
  unfolding read_sides
  no-side-read = refl

  -- one right side more
  pub sides-next : (bs : List (TypBind Place)) (b : TypBind Place) (ts : Types) (t : MlType Name) → read_sides C bs ≡ accepted ts
      → read_ty C (listed bound 0 b.variables) b.ty ≡ accepted t → read_sides C (bs ++ b ∷ []) ≡ accepted (ts ++ t ∷ [])
  sides-next = read-next read-side (λ b t. t) (read_sides C) no-side-read more

  -- the first that is refused
  pub sides-stop : (bs cs : List (TypBind Place)) (b : TypBind Place) (ts : Types) (f : Fault Place) → read_sides C bs ≡ accepted ts
      → read_ty C (listed bound 0 b.variables) b.ty ≡ refused f → read_sides C (bs ++ b ∷ cs) ≡ refused f
  sides-stop = read-stop read-side (λ b t. t) (read_sides C) no-side-read more

  counted : (bs : List (TypBind Place)) → Counted (length bs) (read_sides C bs)
  unfolding read_sides
  counted [] = refl
  counted (b ∷ bs) = counted-next (length bs) (read_ty C (listed bound 0 b.variables) b.ty) (read_sides C bs) (counted bs)

  pub sides-count : (bs : List (TypBind Place)) (ts : Types) → read_sides C bs ≡ accepted ts → length ts ≡ length bs
  sides-count bs ts e = subst (Counted (length bs)) e (counted bs)

  -- bindings are answered as their right sides are
  pub binds-read : (m : Map (TyStr Name)) (bs : List (TypBind Place)) → read_type_binds C m bs ≡ answer_map (put_types m bs) (read_sides C bs)
  unfolding read_type_binds read_sides ◌>>=◌
  binds-read m [] = refl
  binds-read m (b ∷ bs) =
      (λ i. read_ty C (listed bound 0 b.variables) b.ty >>= (λ t. binds-read (put b.name.id (type_str_of b t) m) bs i))
      ∙ go (read_ty C (listed bound 0 b.variables) b.ty) (read_sides C bs)
    where
      go : (a : Answer Place (MlType Name)) (s : Answer Place Types) → (a >>= (λ t. answer_map (put_types (put b.name.id (type_str_of b t) m) bs) s))
          ≡ answer_map (put_types m (b ∷ bs)) (a >>= (λ t. s >>= (λ ts. give (t ∷ ts))))
      go (refused f) s = refl
      go (accepted t) (refused f) = refl
      go (accepted t) (accepted ts) = refl

-- a binding among those that list no variable which no source spells
pub spelt-there : (bs cs : List (TypBind Place)) (b : TypBind Place) → AreSpelt (bs ++ b ∷ cs) → lookup unlisted (listed {N = Name} bound 0 b.variables) ≡ None
spelt-there [] cs b h = h.0
spelt-there (c ∷ bs) cs b h = spelt-there bs cs b h.1
