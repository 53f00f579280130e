-- Where the types that are meant admit equality, variant by variant.
use Rattle.std.proofs.Common.{◌≡◌, ◌<◌, ◌≤◌, ℕ, zero, suc, ◌+◌, Bool, true, false, ◌&&◌, ◌||◌, List, [], ◌∷◌, ◌++◌, length, map, take, drop, get_or, refl, ap, ◌∙◌, sym, subst, Vec, Global, Result, Ok, Err, IfOk, arith}
use Rattle.std.proofs.Math.Seq.{drop-cons}
use Rattle.std.proofs.lemmas.List.{drop_all, length-map, take_all}
use Rattle.std.specs.declared.rc.Rc.{Rc}
use Rattle.sml_objects.specs.Objects as O
use Rattle.sml_objects.specs.Initial.{Name, attributes_of}
use Rattle.sml_objects.specs.Equality.{is_reference_name}
use Rattle.sml_objects.specs.Objects.{types_of}
use Rattle.sml_objects.specs.Types.{applied, argument, argument_or, replace_type, replace_types}
use Rattle.sml_objects.specs.Views.{name_of, scheme_of, type_of}
use Rattle.sml_objects.specs.declared.labels.Labels.{Labels}
use Rattle.sml_objects.specs.declared.objects.TyName.{TyName}
use Rattle.sml_objects.specs.declared.objects.MlType.{MlType}
use Rattle.sml_objects.specs.declared.objects.Scheme.{Scheme}
use Rattle.sml_objects.proofs.EnvViews.{map-map}
use Rattle.sml_type_maps.specs.Functions.{admits_where, all_admit_where, by_attributes}
use Rattle.sml_types.specs.Meant.{all_meant, meant}
use Rattle.sml_types.specs.declared.written.Written.{Written}
use Rattle.sml_types.specs.declared.written.Written.TheViews as V
use Rattle.sml_types.proofs.Meanings.{meanings, meant-made, meant-row, meant-arrow, meant-name, meant-applied, meant-side}

pub ok-same : {E : Type 0} (r : Result Bool E) (x y : Bool) → x ≡ y → IfOk r (λ b. b ≡ x) → IfOk r (λ b. b ≡ y)
ok-same (Ok b) x y e h = h ∙ e
ok-same (Err f) x y e h = h

module _ (w : ℕ → Bool) where
  pub admits-row : (ls : Rc Labels Global) (ws : Vec (Rc Written Global) Global) → admits_where w (meant (V.Row ls ws)) ≡ all_admit_where w (all_meant ws.items)
  unfolding admits_where
  admits-row ls ws = ap (admits_where w) (meant-row ls ws)

  pub admits-arrow : (v u : Rc Written Global) → admits_where w (meant (V.Arrow v u)) ≡ false
  unfolding admits_where
  admits-arrow v u = ap (admits_where w) (meant-arrow v u)

  pub admits-name : (n : TyName) (ws : Vec (Rc Written Global) Global)
      → admits_where w (meant (V.Name n ws)) ≡ is_reference_name (name_of n) || ((attributes_of (name_of n)).equality && all_admit_where w (all_meant ws.items))
  unfolding admits_where
  admits-name n ws = ap (admits_where w) (meant-name n ws)

  pub all-admit-next : (x : Rc Written Global) (xs : List (Rc Written Global))
      → all_admit_where w (all_meant (x ∷ xs)) ≡ admits_where w (meant x.value) && all_admit_where w (all_meant xs)
  unfolding all_admit_where
  all-admit-next x xs = refl

  -- those from one on
  pub all-admit-from : (xs : List (Rc Written Global)) (i : ℕ) (x : Rc Written Global) → i < length xs → x ≡ get_or xs i x
      → all_admit_where w (all_meant (drop i xs)) ≡ admits_where w (meant x.value) && all_admit_where w (all_meant (drop (suc i) xs))
  all-admit-from xs i x l at =
      ap (λ ys. all_admit_where w (all_meant ys)) (drop-cons xs i x l ∙ ap (λ y. y ∷ drop (suc i) xs) (sym at)) ∙ all-admit-next x (drop (suc i) xs)

  pub all-admit-none : all_admit_where w (all_meant []) ≡ true
  unfolding all_admit_where
  all-admit-none = refl

  -- a type with others in the place of its variables
  module _ (given : ℕ → Bool) (stands : ℕ → O.MlType Name) (same : (k : ℕ) → given k ≡ admits_where w (stands k)) where
    mutual
      unfolding admits_where all_admit_where replace_type replace_types

      pub admits-replaced : (t : O.MlType Name) → admits_where given t ≡ admits_where w (replace_type stands O.free t)
      admits-replaced (O.bound k) = same k
      admits-replaced (O.free v) = refl
      admits-replaced (O.app O.arrow ts) = refl
      admits-replaced (O.app (O.row ls) ts) = all-admit-replaced ts
      admits-replaced (O.app (O.name n) ts) = ap (λ b. is_reference_name n || ((attributes_of n).equality && b)) (all-admit-replaced ts)

      pub all-admit-replaced : (ts : O.MlTypes Name) → all_admit_where given ts ≡ all_admit_where w (replace_types stands O.free ts)
      all-admit-replaced O.no_type = refl
      all-admit-replaced (O.and_type t ts) = λ i. admits-replaced t i && all-admit-replaced ts i

-- The attributes of arguments, and of the variables past them.
at-argument : (f : O.MlType Name → Bool) (ts : List (O.MlType Name)) (qs : List Bool) (k : ℕ) (d : O.MlType Name) → get_or qs k false ≡ f d
    → get_or (map f ts ++ drop (length ts) qs) k false ≡ f (argument_or d (types_of ts) k)
at-argument f [] qs k d h = h
at-argument f (t ∷ ts) qs zero d h = refl
at-argument f (t ∷ ts) [] (suc k) d h =
    ap (λ l. get_or (map f ts ++ l) k false) (sym (drop_all (length ts) [] (omega arith))) ∙ at-argument f ts [] k d h
at-argument f (t ∷ ts) (a ∷ qs) (suc k) d h = at-argument f ts qs k d h

pub each-argument : (qs all before rest : List Bool) (ws : List (Rc Written Global)) (i : ℕ) → before ≡ map (λ v. admits_where (by_attributes qs) (meant v.value)) (take i ws)
    → length ws ≤ i → all ≡ before ++ rest → rest ≡ drop (length ws) qs → (k : ℕ) → by_attributes all k ≡ admits_where (by_attributes qs) (argument (all_meant ws) k)
unfolding admits_where
each-argument qs all before rest ws i so_far l joined others k =
    let f : O.MlType Name → Bool = admits_where (by_attributes qs) in
    let seen : Rc Written Global → O.MlType Name = λ v. meant v.value in
    let first : before ≡ map f (meanings ws) = so_far ∙ ap (map (λ v. f (seen v))) (take_all i ws l) ∙ sym (map-map f seen ws) in
    let past : rest ≡ drop (length (meanings ws)) qs = others ∙ ap (λ n. drop n qs) (sym (length-map ws seen)) in
    let whole : all ≡ map f (meanings ws) ++ drop (length (meanings ws)) qs = joined ∙ (λ j. first j ++ past j) in
    ap (λ l. get_or l k false) whole ∙ at-argument f (meanings ws) qs k (O.bound k) refl
