-- Closing over the free variables of a type, by their places in the order of their first appearance.
use Rattle.std.proofs.Common.{◌≡◌, ◌+◌, ℕ, zero, suc, Bool, true, false, cond, not, nat_eq, nat_lt, Option, Some, None, List, [], ◌∷◌, length, map, slice_index_or, refl, ap, sym, ◌∙◌, arith}
use Rattle.std.proofs.lemmas.Bool.{le-ltb, lt-ltb, ltb-false, ltb-true}
use Rattle.std.specs.List.{prefix_len}
use Rattle.std.specs.Option.{option_map}
use Rattle.sml_objects.specs.Objects as O
use Rattle.sml_objects.specs.Initial.{Name}
use Rattle.sml_objects.specs.Types.{index_among, replace_type, variables_after}
use Rattle.sml_objects.specs.Fates.{attributes, close_as, standing_for, substitutes, type_or}
use Rattle.sml_objects.specs.declared.fates.Fate.{Fate}
use Rattle.sml_objects.specs.declared.fates.Fate.TheVariants.{Bind}
use Rattle.sml_core_rules.specs.Datatypes.{constructor_scheme}
use Rattle.sml_type_maps.specs.Mapped.{closed_at, mapped}
use Rattle.sml_type_maps.proofs.Orders.{names-stay}

-- variables with these attributes are all bound
abbrev bindings : (ℕ → Bool) → List ℕ → List Fate
bindings g ks = map (λ v. Bind (g v)) ks

bound-attributes : (g : ℕ → Bool) (ks : List ℕ) → attributes (bindings g ks) ≡ map g ks
bound-attributes g [] = refl
bound-attributes g (k ∷ ks) = ap (λ l. g k ∷ l) (bound-attributes g ks)

-- what stands at a place, from k on
substitute-at : (u : O.MlType Name) (g : ℕ → Bool) (k j : ℕ) (ks : List ℕ)
    → slice_index_or (substitutes u k (bindings g ks)) j None ≡ cond (nat_lt j (length ks)) (Some (O.bound (k + j))) None
substitute-at u g k j [] = ap (λ b. cond b (Some (O.bound (k + j))) None) (sym (le-ltb j 0 (omega (arith))))
substitute-at u g k zero (v ∷ ks) = λ i. cond (sym (lt-ltb 0 (suc (length ks)) (omega (arith))) i) (Some (O.bound (same i))) None
  where
    same : k ≡ k + 0
    same = omega (arith)
substitute-at u g k (suc j) (v ∷ ks) =
    substitute-at u g (suc k) j ks ∙ (λ i. cond (shift i) (Some (O.bound (next i))) None)
  where
    shift : nat_lt j (length ks) ≡ nat_lt (suc j) (suc (length ks))
    shift = go (nat_lt j (length ks)) refl
      where
        go : (b : Bool) → nat_lt j (length ks) ≡ b → b ≡ nat_lt (suc j) (suc (length ks))
        go true h = sym (lt-ltb (suc j) (suc (length ks)) (omega (arith, ltb-true j (length ks) h)))
        go false h = sym (le-ltb (suc j) (suc (length ks)) (omega (arith, ltb-false j (length ks) h)))

    next : suc k + j ≡ k + suc j
    next = omega (arith)

-- the place of a variable is how many stand before it
place-is : (v : ℕ) (ks : List ℕ) → index_among v ks ≡ prefix_len (λ w. not (nat_eq v w)) ks
unfolding index_among
place-is v [] = refl
place-is v (w ∷ ks) = go (nat_eq v w) (place-is v ks)
  where
    go : (b : Bool) → index_among v ks ≡ prefix_len (λ w. not (nat_eq v w)) ks
        → cond b 0 (suc (index_among v ks)) ≡ cond (not b) (1 + prefix_len (λ w. not (nat_eq v w)) ks) 0
    go true h = refl
    go false h = omega (arith, h)

pub stands-at : (u : O.MlType Name) (g : ℕ → Bool) (ks : List ℕ) (v : ℕ) → standing_for ks (substitutes u 0 (bindings g ks)) v ≡ closed_at ks v
stands-at u g ks v =
    let j : ℕ = prefix_len (λ w. not (nat_eq v w)) ks in
    ap (type_or (O.free v))
    (ap (λ i. slice_index_or (substitutes u 0 (bindings g ks)) i None) (place-is v ks) ∙ substitute-at u g 0 j ks ∙ go (nat_lt j (length ks)) j)
  where
    go : (b : Bool) (j : ℕ) → ◌≡◌ {A = Option (O.MlType Name)} (cond b (Some (O.bound (0 + j))) None) (option_map (λ (i : ℕ). O.bound i) (cond b (Some j) None))
    go true j = ap (λ i. Some (O.bound i)) (omega (arith))
    go false j = refl

-- the scheme of these attributes and this body, if they are those of the free variables and of what they become
pub constructor-scheme-as : (qs : List Bool) (t : O.MlType Name) (flags : List Bool) (body : O.MlType Name) (ks : List ℕ) → ks ≡ variables_after [] t
    → flags ≡ map (λ k. slice_index_or qs k false) ks → body ≡ mapped O.bound (closed_at ks) (λ n ts. O.app (O.name n) ts) t
    → ◌≡◌ {A = O.Scheme Name} (record { variables = flags; body = body }) (constructor_scheme qs t)
unfolding close_as
constructor-scheme-as qs t flags body ks k a b =
    let g : ℕ → Bool = λ v. slice_index_or qs v false in
    let vs : List ℕ = variables_after [] t in
    let same : (v : ℕ) → closed_at ks v ≡ standing_for vs (substitutes t 0 (bindings g vs)) v =
    λ v. ap (λ l. closed_at l v) k ∙ sym (stands-at t g vs v) in
    λ i. record {
      variables = (a ∙ ap (map g) k ∙ sym (bound-attributes g vs)) i;
      body = (b ∙ names-stay O.bound (closed_at ks) t ∙ (λ j. replace_type O.bound (λ v. same v j) t)) i;
    }
