-- The map that bindings of types give, one after the other.
use Rattle.std.proofs.Common.{◌≡◌, ◌<◌, ◌+◌, ℕ, zero, suc, List, [], ◌∷◌, ◌++◌, length, map, min, take, get_or, refl, ap, sym, ◌∙◌, arith}
use Rattle.std.proofs.lemmas.List.{length-map, length-take-le, take-map}
use Rattle.sml_lex.specs.declared.fault.Place.{Place}
use Rattle.sml_tree.specs.Trees.{Id}
use Rattle.sml_tree.specs.Expressions.{TypBind}
use Rattle.sml_objects.specs.Initial.{Name}
use Rattle.sml_objects.specs.Maps.{Map, put}
use Rattle.sml_objects.specs.Objects.{MlType}
use Rattle.sml_core_rules.specs.Objects as O
use Rattle.sml_core_rules.specs.Objects.{TyStr}
use Rattle.sml_types.specs.Bindings.{put_types, type_str_of}
use Rattle.sml_types.proofs.SideArguments.{mapped-next}

abbrev Types : Type 0
Types = List (MlType Name)

abbrev Binds : Type 0
Binds = List (TypBind Place)

-- one binding more
pub put-next : (m : Map (TyStr Name)) (bs : Binds) (ts : Types) (b : TypBind Place) (t : MlType Name) → length ts ≡ length bs
    → put_types m (bs ++ b ∷ []) (ts ++ t ∷ []) ≡ put b.name.id (type_str_of b t) (put_types m bs ts)
put-next m [] [] b t e = refl
put-next m [] (u ∷ ts) b t e = absurd (omega (arith, e))
put-next m (c ∷ bs) [] b t e = absurd (omega (arith, e))
put-next m (c ∷ bs) (u ∷ ts) b t e = put-next (put c.name.id (type_str_of c u) m) bs ts b t (omega (arith, e))

-- as many as there are pairs
pub put-all : (m : Map (TyStr Name)) (bs : Binds) (ts : Types) (n : ℕ) → n ≡ min (length bs) (length ts)
    → put_types m (take n bs) (take n ts) ≡ put_types m bs ts
put-all m [] ts zero e = refl
put-all m [] ts (suc n) e = refl
put-all m (b ∷ bs) [] zero e = refl
put-all m (b ∷ bs) [] (suc n) e = refl
put-all m (b ∷ bs) (t ∷ ts) zero e = absurd (omega (arith, e))
put-all m (b ∷ bs) (t ∷ ts) (suc n) e = put-all (put b.name.id (type_str_of b t) m) bs ts n (omega (arith, e))

module _ {A B : Type 0} (f : A → TypBind Place) (g : B → MlType Name) (xs : List A) (ys : List B) where
  -- one pair more
  pub puts-next : (k : ℕ) (a : A) (b : B) → k < length xs → k < length ys → a ≡ get_or xs k a → b ≡ get_or ys k b → (n : ℕ) → n ≡ k + 1
      → put_types [] (map f (take n xs)) (map g (take n ys)) ≡ put (f a).name.id (type_str_of (f a) (g b)) (put_types [] (map f (take k xs)) (map g (take k ys)))
  puts-next k a b l r at is n e =
      ap (λ n. put_types [] (map f (take n xs)) (map g (take n ys))) e
      ∙ (λ i. put_types [] (mapped-next f xs k a l at i) (mapped-next g ys k b r is i))
      ∙ put-next [] (map f (take k xs)) (map g (take k ys)) (f a) (g b) same
    where
      lefts : length (map f (take k xs)) ≡ k
      lefts = length-map (take k xs) f ∙ length-take-le k xs (omega (arith, l))

      same : length (map g (take k ys)) ≡ length (map f (take k xs))
      same = length-map (take k ys) g ∙ length-take-le k ys (omega (arith, r)) ∙ sym lefts

  -- all pairs
  pub puts-all : (n : ℕ) → n ≡ min (length xs) (length ys) → put_types [] (map f (take n xs)) (map g (take n ys)) ≡ put_types [] (map f xs) (map g ys)
  puts-all n e =
      (λ i. put_types [] (sym (take-map f n xs) i) (sym (take-map g n ys) i))
      ∙ put-all [] (map f xs) (map g ys) n (e ∙ (λ i. min (sym (length-map xs f) i) (sym (length-map ys g) i)))

-- an environment with a type structure more
abbrev pub with_type : O.Env Name → Id → TyStr Name → O.Env Name
with_type E x t = O.maps (O.structures E) (put x t (O.types E)) (O.values E)
