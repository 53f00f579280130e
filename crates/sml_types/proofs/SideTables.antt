-- Right sides by their type constructors, one binding after the other; of two of a name the first stays.
use Rattle.std.proofs.Common.{◌≡◌, ◌⊎◌, inl, inr, Bool, true, false, cond, if◌then◌else◌, Option, Some, None, List, [], ◌∷◌, ◌++◌, ℕ, zero, suc, ◌<◌, length, map, get_or, refl, ap, sym, subst, ◌∙◌, arith}
use Rattle.std.specs.Option.{is_some, option_map, option_or}
use Rattle.std.specs.List.{AllByRecursion}
use Rattle.std.specs.Str.{bytes_eq}
use Rattle.std.proofs.lemmas.Bool.{true≢false}
use Rattle.sml_lex.specs.declared.fault.Place.{Place}
use Rattle.sml_tree.specs.Trees.{Id}
use Rattle.sml_tree.specs.Expressions.{TypBind}
use Rattle.sml_tree.specs.Withtype.{bound}
use Rattle.sml_tree.proofs.Idents.{id_tells}
use Rattle.sml_objects.specs.Initial.{Name}
use Rattle.sml_objects.specs.Maps.{Map, lookup, put}
use Rattle.sml_objects.proofs.Puts.{lookup-put}
use Rattle.sml_core_rules.specs.Objects.{Env}
use Rattle.sml_types.specs.Sides.{IsSide, IsSideOf}
use Rattle.sml_types.specs.declared.sides.RightSide.{RightSide}
use Rattle.sml_types.proofs.Listing.{by-bytes}

abbrev Binding : Type 0
Binding = TypBind Place

or-if : (t : Bool) (b : Binding) (o p : Option Binding) → (if t then Some b else option_or o p) ≡ option_or (if t then Some b else o) p
or-if true b o p = refl
or-if false b o p = refl

-- one binding more
bound-push : (x : Id) (bs : List Binding) (b : Binding) → bound x (bs ++ b ∷ []) ≡ option_or (bound x bs) (if bytes_eq x b.name.id then Some b else None)
bound-push x [] b = refl
bound-push x (c ∷ bs) b =
    ap (λ o. if bytes_eq x c.name.id then Some c else o) (bound-push x bs b) ∙ or-if (bytes_eq x c.name.id) c (bound x bs) (if bytes_eq x b.name.id then Some b else None)

module _ (C : Env Name) where
  -- none is bound where there is no right side, and one is where there is one
  none-there : (o : Option Binding) (s : Option RightSide) → IsSideOf C o s → is_some s ≡ false → o ≡ None
  none-there None s h e = refl
  none-there (Some b) None h e = absurd h
  none-there (Some b) (Some r) h e = absurd (true≢false e)

  or-kept : (o p : Option Binding) (s : Option RightSide) → IsSideOf C o s → (is_some s ≡ true) ⊎ (p ≡ None) → IsSideOf C (option_or o p) s
  or-kept (Some b) p s h e = h
  or-kept None p None h (inl e) = absurd (true≢false (sym e))
  or-kept None p None h (inr e) = subst (λ p. IsSideOf C p None) (sym e) tt
  or-kept None p (Some r) h e = absurd h

  module _ (bs : List Binding) (b : Binding) (m : Map RightSide) (has : (x : Id) → IsSideOf C (bound x bs) (lookup x m)) where
    abbrev last : Id → Option Binding
    last x = if bytes_eq x b.name.id then Some b else None

    -- its name was bound already
    pub sides-stay : is_some (lookup b.name.id m) ≡ true → (x : Id) → IsSideOf C (bound x (bs ++ b ∷ [])) (lookup x m)
    sides-stay there x =
        subst (λ o. IsSideOf C o (lookup x m)) (sym (bound-push x bs b))
        (or-kept (bound x bs) (last x) (lookup x m) (has x) (elim (id_tells x b.name.id) [
          | inl y ↦ inl (ap (λ z. is_some (lookup z m)) y.1 ∙ there)
          | inr y ↦ inr (ap (λ t. if t then Some b else None) y.0)
        ]))

    -- it is new
    pub side-put : (r : RightSide) → is_some (lookup b.name.id m) ≡ false → IsSide C b r → (x : Id) → IsSideOf C (bound x (bs ++ b ∷ [])) (lookup x (put b.name.id r m))
    side-put r new is x =
        subst (IsSideOf C (bound x (bs ++ b ∷ []))) (sym (lookup-put x b.name.id r m ∙ by-bytes x b.name.id (lookup x m) (Some r)))
        (subst (λ o. IsSideOf C o (cond (bytes_eq x b.name.id) (Some r) (lookup x m))) (sym (bound-push x bs b))
        (elim (id_tells x b.name.id) [
          | inl y ↦ subst (λ t. IsSideOf C (option_or (bound x bs) (if t then Some b else None)) (cond t (Some r) (lookup x m))) (sym y.0)
              (subst (λ o. IsSideOf C (option_or o (Some b)) (Some r)) (sym (none-there (bound x bs) (lookup x m) (has x) (ap (λ z. is_some (lookup z m)) y.1 ∙ new))) is)
          | inr y ↦ subst (λ t. IsSideOf C (option_or (bound x bs) (if t then Some b else None)) (cond t (Some r) (lookup x m))) (sym y.0)
              (or-kept (bound x bs) None (lookup x m) (has x) (inr refl))
        ]))

pub all-at : {A B : Type 0} (F : B → Type 0) (g : A → B) (xs : List A) (i : ℕ) (x : A) → AllByRecursion F (map g xs) → i < length xs → x ≡ get_or xs i x → F (g x)
all-at F g [] i x h l e = absurd (omega (arith, l))
all-at F g (y ∷ xs) zero x h l e = subst (λ z. F (g z)) (sym e) h.0
all-at F g (y ∷ xs) (suc i) x h l e = all-at F g xs i x h.1 (omega (arith, l)) e

pub is-there : {A B : Type 0} (f : A → B) (o : Option A) (m : Option B) → option_map f o ≡ m → is_some m ≡ is_some o
is-there f None m e = ap is_some (sym e)
is-there f (Some a) m e = ap is_some (sym e)

-- nothing is bound where there is no right side
pub none-kept : (C : Env Name) (x : Id) (o : Option RightSide) → o ≡ None → IsSideOf C (bound x []) o
none-kept C x o e = subst (IsSideOf C None) (sym e) tt
