-- The variables of types in the order of their first appearance.
use Rattle.std.proofs.Common.{◌≡◌, ℕ, zero, suc, ◌+◌, ◌-◌, nat_lt, Some, None, Bool, true, false, cond, not, ◌||◌, arith, List, [], ◌∷◌, ◌++◌, length, take, nat_eq, refl, ap, ◌∙◌, sym, subst, Vec, Global, replicate}
use Rattle.std.proofs.lemmas.List.{map-append}
use Rattle.std.proofs.lemmas.List.Folds.{list_any-append}
use Rattle.std.proofs.lemmas.List.Sums.{prefix_len-le-length}
use Rattle.std.proofs.lemmas.Bool.{eq-eqb, ltb-false}
use Rattle.std.specs.List.{list_any, position, position_or_len}
use Rattle.std.specs.declared.rc.Rc.{Rc}
use Rattle.sml_objects.specs.Objects as O
use Rattle.sml_objects.specs.Initial.{Name}
use Rattle.sml_objects.specs.Types.{variables_after, variables_after_all, index_among, replace_type, replace_types, assign, close}
use Rattle.sml_objects.specs.Objects.{types_of}
use Rattle.sml_objects.specs.Views.{type_of}
use Rattle.sml_objects.specs.declared.labels.Labels.{Labels}
use Rattle.sml_objects.specs.declared.objects.TyName.{TyName}
use Rattle.sml_objects.specs.declared.objects.MlType.{MlType, Bound, Free}
use Rattle.sml_objects.specs.declared.objects.MlType.TheViews as V
use Rattle.sml_objects.proofs.TypeViews.{parts_of, type_of-bound, type_of-free, type_of-row, type_of-arrow, type_of-name}

-- a variable among others

among-more : (v : ℕ) (ws us : List ℕ) → list_any (nat_eq v) ws ≡ true → list_any (nat_eq v) (ws ++ us) ≡ true
among-more v ws us h = list_any-append (nat_eq v) ws us ∙ ap (λ b. b || list_any (nat_eq v) us) h

among-last : (v : ℕ) (ws : List ℕ) → list_any (nat_eq v) (ws ++ v ∷ []) ≡ true
among-last v [] = ap (λ b. b || false) (eq-eqb v v refl)
among-last v (w ∷ ws) = either (nat_eq v w) (among-last v ws)
  where
    either : (b : Bool) → list_any (nat_eq v) (ws ++ v ∷ []) ≡ true → (b || list_any (nat_eq v) (ws ++ v ∷ [])) ≡ true
    either true h = refl
    either false h = h

still-among : (v : ℕ) (seen us : List ℕ) (b : Bool) → list_any (nat_eq v) seen ≡ true → list_any (nat_eq v) (cond b seen (seen ++ us)) ≡ true
still-among v seen us true h = h
still-among v seen us false h = among-more v seen us h

pub here-among : (v : ℕ) (seen : List ℕ) (b : Bool) → list_any (nat_eq v) seen ≡ b → list_any (nat_eq v) (cond b seen (seen ++ v ∷ [])) ≡ true
here-among v seen true e = e
here-among v seen false e = among-last v seen

mutual
  unfolding variables_after variables_after_all

  stays-among : {N : Type 0} (v : ℕ) (seen : List ℕ) (t : O.MlType N) → list_any (nat_eq v) seen ≡ true → list_any (nat_eq v) (variables_after seen t) ≡ true
  stays-among v seen (O.bound k) h = h
  stays-among v seen (O.free w) h = still-among v seen (w ∷ []) (list_any (nat_eq w) seen) h
  stays-among v seen (O.app g ts) h = all-stay-among v seen ts h

  pub all-stay-among : {N : Type 0} (v : ℕ) (seen : List ℕ) (ts : O.MlTypes N) → list_any (nat_eq v) seen ≡ true → list_any (nat_eq v) (variables_after_all seen ts) ≡ true
  all-stay-among v seen O.no_type h = h
  all-stay-among v seen (O.and_type t ts) h = all-stay-among v (variables_after seen t) ts (stays-among v seen t h)

pub index_among-position : (v : ℕ) (ws : List ℕ) → index_among v ws ≡ position_or_len (nat_eq v) ws
unfolding index_among
index_among-position v [] = refl
index_among-position v (w ∷ ws) =
    elim (nat_eq v w) as (λ b. cond b 0 (suc (index_among v ws)) ≡ cond (not b) (1 + position_or_len (nat_eq v) ws) 0) [
      | true ↦ refl
      | false ↦ omega (arith, index_among-position v ws)
    ]

-- variant by variant

pub variables-bound : (seen : List ℕ) (k : ℕ) → variables_after seen (type_of (Bound k)) ≡ seen
unfolding variables_after
variables-bound seen k = ap (variables_after seen) (type_of-bound k)

pub variables-free : (seen : List ℕ) (v : ℕ) → variables_after seen (type_of (Free v)) ≡ cond (list_any (nat_eq v) seen) seen (seen ++ v ∷ [])
unfolding variables_after
variables-free seen v = ap (variables_after seen) (type_of-free v)

pub variables-row : (seen : List ℕ) (ls : Rc Labels Global) (ts : Vec (Rc MlType Global) Global)
    → variables_after seen (type_of (V.Row ls ts)) ≡ variables_after_all seen (types_of (parts_of ts.items))
unfolding variables_after
variables-row seen ls ts = ap (variables_after seen) (type_of-row ls ts)

pub variables-arrow : (seen : List ℕ) (t u : Rc MlType Global)
    → variables_after seen (type_of (V.Arrow t u)) ≡ variables_after (variables_after seen (type_of t.value)) (type_of u.value)
unfolding variables_after variables_after_all
variables-arrow seen t u = ap (variables_after seen) (type_of-arrow t u)

pub variables-name : (seen : List ℕ) (n : TyName) (ts : Vec (Rc MlType Global) Global)
    → variables_after seen (type_of (V.Name n ts)) ≡ variables_after_all seen (types_of (parts_of ts.items))
unfolding variables_after
variables-name seen n ts = ap (variables_after seen) (type_of-name n ts)

pub variables-none : (seen : List ℕ) → variables_after_all {N = Name} seen O.no_type ≡ seen
unfolding variables_after_all
variables-none seen = refl

all-push : (seen : List ℕ) (ts : List (O.MlType Name)) (t : O.MlType Name)
    → variables_after_all seen (types_of (ts ++ (t ∷ []))) ≡ variables_after (variables_after_all seen (types_of ts)) t
unfolding variables_after_all
all-push seen [] t = refl
all-push seen (u ∷ ts) t = all-push (variables_after seen u) ts t

pub variables-push : (seen : List ℕ) (ts : List (Rc MlType Global)) (t : Rc MlType Global)
    → variables_after_all seen (types_of (parts_of (ts ++ (t ∷ [])))) ≡ variables_after (variables_after_all seen (types_of (parts_of ts))) (type_of t.value)
variables-push seen ts t =
    ap (λ l. variables_after_all seen (types_of l)) (map-append (λ t. type_of t.value) ts (t ∷ []))
    ∙ all-push seen (parts_of ts) (type_of t.value)

-- a type without free variables

grown : (b : Bool) (w : ℕ) (ws : List ℕ) (v : ℕ) → cond b (w ∷ ws) ((w ∷ ws) ++ (v ∷ [])) ≡ [] → (w ∷ ws) ≡ []
grown true w ws v h = h
grown false w ws v h = cc

mutual
  unfolding variables_after variables_after_all

  none-before : {N : Type 0} (seen : List ℕ) (t : O.MlType N) → variables_after seen t ≡ [] → seen ≡ []
  none-before [] t h = refl
  none-before (w ∷ ws) (O.bound k) h = h
  none-before (w ∷ ws) (O.free v) h = grown (list_any (nat_eq v) (w ∷ ws)) w ws v h
  none-before (w ∷ ws) (O.app g ts) h = none-before-all (w ∷ ws) ts h

  none-before-all : {N : Type 0} (seen : List ℕ) (ts : O.MlTypes N) → variables_after_all seen ts ≡ [] → seen ≡ []
  none-before-all seen O.no_type h = h
  none-before-all seen (O.and_type t ts) h = none-before seen t (none-before-all (variables_after seen t) ts h)

mutual
  unfolding variables_after variables_after_all replace_type replace_types

  pub assign-closed : {N : Type 0} (f : ℕ → O.MlType N) (t : O.MlType N) → variables_after [] t ≡ [] → assign f t ≡ t
  assign-closed f (O.bound k) h = refl
  assign-closed f (O.free v) h = cc
  assign-closed f (O.app g ts) h = ap (O.app g) (assign-closed-all f ts h)

  assign-closed-all : {N : Type 0} (f : ℕ → O.MlType N) (ts : O.MlTypes N) → variables_after_all [] ts ≡ [] → replace_types O.bound f ts ≡ ts
  assign-closed-all f O.no_type h = refl
  assign-closed-all f (O.and_type t ts) h =
      let e : variables_after [] t ≡ [] = none-before-all (variables_after [] t) ts h in
      λ i. O.and_type (assign-closed f t e i) (assign-closed-all f ts (subst (λ s. variables_after_all s ts ≡ []) e h) i)

-- the scheme of these variables, by their places
pub close-by : (ws : List ℕ) (bs : List Bool) (t body : O.MlType Name) → ws ≡ variables_after [] t → bs ≡ replicate (length ws) false
    → body ≡ assign (λ v. O.bound (index_among v ws)) t → ◌≡◌ {A = O.Scheme Name} (record { variables = bs; body = body }) (close t)
unfolding close
close-by ws bs t body e b h = λ i. record {
  variables = (b ∙ ap (λ l. replicate (length l) false) e) i;
  body = (h ∙ ap (λ l. assign (λ v. O.bound (index_among v l)) t) e) i;
}

pub filled : (n m : ℕ) (old new : List Bool) (k : ℕ) → old ≡ [] → k ≡ 0 → new ≡ take n old ++ replicate (n - k) false → n ≡ m → new ≡ replicate m false
filled n m old new k o z h e =
    h
    ∙ (λ i. take n (o i) ++ replicate (n - z i) false)
    ∙ from-none n
    ∙ ap (λ l. replicate l false) (left n ∙ e)
  where
    from-none : (n : ℕ) → take n [] ++ replicate (n - 0) false ≡ replicate (n - 0) false
    from-none zero = refl
    from-none (suc n) = refl

    left : (n : ℕ) → n - 0 ≡ n
    left n = omega arith

pub place-found : (v : ℕ) (ws : List ℕ) (i : ℕ) → Some i ≡ position (nat_eq v) ws → i ≡ index_among v ws
place-found v ws i h =
    (elim (nat_lt (position_or_len (nat_eq v) ws) (length ws)) as
    (λ b. Some i ≡ cond b (Some (position_or_len (nat_eq v) ws)) None → i ≡ position_or_len (nat_eq v) ws) [
      | true ↦ λ e. cc
      | false ↦ λ e. cc
    ]) h
    ∙ sym (index_among-position v ws)

pub place-missing : (v : ℕ) (ws : List ℕ) → None ≡ position (nat_eq v) ws → length ws ≡ index_among v ws
place-missing v ws h = missing (nat_lt (position_or_len (nat_eq v) ws) (length ws)) refl h ∙ sym (index_among-position v ws)
  where
    missing : (b : Bool) → nat_lt (position_or_len (nat_eq v) ws) (length ws) ≡ b → None ≡ cond b (Some (position_or_len (nat_eq v) ws)) None
        → length ws ≡ position_or_len (nat_eq v) ws
    missing true e h = cc
    missing false e h = omega (arith, ltb-false _ _ e, prefix_len-le-length (λ w. not (nat_eq v w)) ws)
