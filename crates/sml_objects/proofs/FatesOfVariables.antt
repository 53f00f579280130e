-- What stands for the variables of a type, fate by fate.
use Rattle.std.proofs.Common.{◌≡◌, ℕ, zero, suc, ◌+◌, ◌<◌, ◌≤◌, List, [], ◌∷◌, ◌++◌, length, map, get_or, Option, Some, None, sym, ◌∙◌, ap, refl, arith, Global}
use Rattle.std.proofs.lemmas.List.{map-append, length-map, get_or_past}
use Rattle.std.specs.Prelude.{Bool}
use Rattle.std.specs.declared.rc.Rc.{Rc}
use Rattle.sml_objects.specs.Fates.{attributes, substitutes, type_or, standing_for, close_as, seen_type}
use Rattle.sml_objects.specs.Types.{assign, replace_type, replace_types, variables_after, index_among}
use Rattle.sml_objects.specs.declared.objects.MlType.{MlType}
use Rattle.sml_objects.specs.Initial.{Name, initial}
use Rattle.sml_objects.specs.Names.{int}
use Rattle.sml_objects.specs.Sizes.{type_size, types_size}
use Rattle.sml_objects.specs.Objects as O
use Rattle.sml_objects.specs.declared.fates.Fate.{Fate}
use Rattle.sml_objects.specs.declared.fates.Fate.TheVariants.{Bind, Keep, Default}

pub attributes-append : (fs gs : List Fate) → attributes (fs ++ gs) ≡ attributes fs ++ attributes gs
attributes-append [] gs = refl
attributes-append (Bind e ∷ fs) gs = ap (λ bs. e ∷ bs) (attributes-append fs gs)
attributes-append (Keep ∷ fs) gs = attributes-append fs gs
attributes-append (Default ∷ fs) gs = attributes-append fs gs

pub substitutes-append : (u : O.MlType Name) (k : ℕ) (fs gs : List Fate) → substitutes u k (fs ++ gs) ≡ substitutes u k fs ++ substitutes u (k + length (attributes fs)) gs
substitutes-append u k [] gs = ap (λ n. substitutes u n gs) (let e : k ≡ k + 0 = omega arith in e)
substitutes-append u k (Bind e ∷ fs) gs =
    ap (λ ts. Some (O.bound k) ∷ ts) (substitutes-append u (suc k) fs gs ∙ ap (λ n. substitutes u (suc k) fs ++ substitutes u n gs) (let e : suc k + length (attributes fs) ≡ k + suc (length (attributes fs)) = omega arith in e))
substitutes-append u k (Keep ∷ fs) gs = ap (λ ts. None ∷ ts) (substitutes-append u k fs gs)
substitutes-append u k (Default ∷ fs) gs = ap (λ ts. Some u ∷ ts) (substitutes-append u k fs gs)

-- reading what stands for a variable

get-seen : (ts : List (Option (Rc MlType Global))) (p : ℕ) (x : Option (Rc MlType Global)) → p < length ts → x ≡ get_or ts p x → get_or (map seen_type ts) p None ≡ seen_type x
get-seen [] p x h e = absurd (omega (arith, h))
get-seen (t ∷ ts) zero x h e = ap seen_type (sym e)
get-seen (t ∷ ts) (suc p) x h e = get-seen ts p x (omega (arith, h)) e

pub standing-at : (ks : List ℕ) (ts : List (Option (Rc MlType Global))) (v p : ℕ) (x : Option (Rc MlType Global)) → p ≡ index_among v ks → p < length ts → x ≡ get_or ts p x → standing_for ks (map seen_type ts) v ≡ type_or (O.free v) (seen_type x)
standing-at ks ts v p x q h e = ap (type_or (O.free v)) (ap (λ n. get_or (map seen_type ts) n None) (sym q) ∙ get-seen ts p x h e)

pub standing-past : (ks : List ℕ) (ts : List (Option (Rc MlType Global))) (v p : ℕ) → p ≡ index_among v ks → length ts ≤ p → standing_for ks (map seen_type ts) v ≡ O.free v
standing-past ks ts v p q h =
    let n : length (map seen_type ts) ≡ length ts = length-map ts seen_type in
    ap (type_or (O.free v)) (ap (λ n. get_or (map seen_type ts) n None) (sym q) ∙ get_or_past (map seen_type ts) p None (omega (arith, n, h)))

-- one fate more

pub next-attributes : (fs gs : List Fate) (f : Fate) (bs : List Bool) → bs ≡ attributes fs → gs ≡ fs ++ f ∷ [] → bs ++ attributes (f ∷ []) ≡ attributes gs
next-attributes fs gs f bs e g = ap (λ xs. xs ++ attributes (f ∷ [])) e ∙ sym (ap attributes g ∙ attributes-append fs (f ∷ []))

pub next-substitutes : (u : O.MlType Name) (fs gs : List Fate) (f : Fate) (ts us : List (Option (Rc MlType Global))) (n : ℕ) (x : Option (Rc MlType Global)) → map seen_type ts ≡ substitutes u 0 fs → gs ≡ fs ++ f ∷ [] → us ≡ ts ++ x ∷ [] → n ≡ length (attributes fs) → seen_type x ∷ [] ≡ substitutes u n (f ∷ []) → map seen_type us ≡ substitutes u 0 gs
next-substitutes u fs gs f ts us n x e g h m s =
    let m : n ≡ 0 + length (attributes fs) = omega (arith, m) in
    ap (map seen_type) h ∙ (map-append seen_type ts (x ∷ []) ∙ ((λ i. e i ++ s i) ∙ (ap (λ k. substitutes u 0 fs ++ substitutes u k (f ∷ [])) m ∙ sym (ap (substitutes u 0) g ∙ substitutes-append u 0 fs (f ∷ [])))))

pub closed-as : (u : O.MlType Name) (fs : List Fate) (bs : List Bool) (ts : List (Option (O.MlType Name))) (ks : List ℕ) (t body : O.MlType Name) → bs ≡ attributes fs → ts ≡ substitutes u 0 fs → ks ≡ variables_after [] t → body ≡ assign (standing_for ks ts) t → ◌≡◌ {A = O.Scheme Name} (record { variables = bs; body = body }) (close_as u fs t)
unfolding close_as
closed-as u fs bs ts ks t body b e k h = λ i. record {
  variables = b i;
  body = (h ∙ (λ j. assign (standing_for (k j) (e j)) t)) i;
}

-- the size of a scheme's body

substitute-size : (u : O.MlType Name) (k : ℕ) (fs : List Fate) (p v : ℕ) → type_size u ≡ 1 → type_size (type_or (O.free v) (get_or (substitutes u k fs) p None)) ≡ 1
unfolding type_size
substitute-size u k [] p v e = refl
substitute-size u k (Bind b ∷ fs) zero v e = refl
substitute-size u k (Keep ∷ fs) zero v e = refl
substitute-size u k (Default ∷ fs) zero v e = e
substitute-size u k (Bind b ∷ fs) (suc p) v e = substitute-size u (suc k) fs p v e
substitute-size u k (Keep ∷ fs) (suc p) v e = substitute-size u k fs p v e
substitute-size u k (Default ∷ fs) (suc p) v e = substitute-size u k fs p v e

mutual
  unfolding type_size types_size replace_type replace_types

  assigned-size : (f : ℕ → O.MlType Name) (t : O.MlType Name) → ((v : ℕ) → type_size (f v) ≡ 1) → type_size (assign f t) ≡ type_size t
  assigned-size f (O.bound k) e = refl
  assigned-size f (O.free v) e = e v
  assigned-size f (O.app h ts) e = ap suc (assigned-sizes f ts e)

  assigned-sizes : (f : ℕ → O.MlType Name) (ts : O.MlTypes Name) → ((v : ℕ) → type_size (f v) ≡ 1) → types_size (replace_types O.bound f ts) ≡ types_size ts
  assigned-sizes f O.no_type e = refl
  assigned-sizes f (O.and_type t ts) e = λ i. assigned-size f t e i + assigned-sizes f ts e i

int-size : type_size (O.named (initial int)) ≡ 1
unfolding type_size types_size
int-size = refl

pub closed-size : (fs : List Fate) (t : O.MlType Name) → type_size (close_as (O.named (initial int)) fs t).body ≡ type_size t
unfolding close_as
closed-size fs t = assigned-size (standing_for (variables_after [] t) (substitutes (O.named (initial int)) 0 fs)) t (λ v. substitute-size (O.named (initial int)) 0 fs (index_among v (variables_after [] t)) v int-size)
