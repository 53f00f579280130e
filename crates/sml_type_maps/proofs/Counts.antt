-- What was added to counts.
use Rattle.std.proofs.Common.{inl, inr, ◌≡◌, ◌≤◌, ◌<◌, ℕ, suc, ◌+◌, ◌*◌, min, cond, nat_eq, nat_lt, true, List, [], ◌∷◌, ◌++◌, length, get_or, refl, ap, ◌∙◌, sym, subst, arith, Vec, Global, vec_len, slice_index}
use Rattle.std.proofs.lemmas.Bool.{ltb-true}
use Rattle.std.proofs.lemmas.Bool.Decides.{nat_tests, eqb_tells}
use Rattle.std.proofs.lemmas.List.{map-append, get_or-set_same, get_or-set_other}
use Rattle.std.proofs.Math.ListN.{set}
use Rattle.std.specs.Vec.{with_item}
use Rattle.std.specs.declared.rc.Rc.{Rc}
use Rattle.sml_objects.specs.Objects as O
use Rattle.sml_objects.specs.Initial.{Name}
use Rattle.sml_objects.specs.Objects.{types_of}
use Rattle.sml_objects.specs.Views.{type_of}
use Rattle.sml_objects.specs.declared.objects.MlType.{MlType}
use Rattle.sml_type_maps.specs.Mapped.{seen}
use Rattle.sml_type_maps.specs.declared.sizes.Count.{Count}
use Rattle.sml_type_maps.specs.Counted.{HasAdded, HasAddedType, HasAddedAbove, nodes_past, all_nodes_past, uses_in, uses_in_all}

-- a large count stays as it is
pub large-stays : (a : Count) (m : ℕ) (f : ℕ → ℕ) → nat_lt 10000 a.nodes ≡ true → HasAdded a a m f
large-stays a m f h =
    let large : 10000 < a.nodes = ltb-true _ _ h in
    record {
      variables = refl;
      nodes = omega arith;
      each = λ small k l. absurd (omega arith);
    }

-- nodes alone
pub nodes-added : (a b : Count) (n m : ℕ) (f : ℕ → ℕ) → b.nodes ≡ min (a.nodes + n) 4294967295 → b.uses ≡ a.uses
    → m ≡ n → ((k : ℕ) → k < vec_len a.uses → f k ≡ 0) → HasAdded a b m f
nodes-added a b n m f h same e none = record {
  variables = ap vec_len same;
  nodes = omega arith;
  each = λ small k l. omega (arith, none k l, ap (λ (u : Vec ℕ Global). slice_index u.items k) same);
}

-- one after the other
pub then-added : (a b c : Count) (m n k : ℕ) (f g h : ℕ → ℕ) → HasAdded a b m f → HasAdded b c n g
    → k ≡ m + n → ((i : ℕ) → h i ≡ f i + g i) → HasAdded a c k h
then-added a b c m n k f g h one other e both = record {
  variables = other.variables ∙ one.variables;
  nodes = omega (arith, one.nodes, other.nodes);
  each = λ small i l.
      omega (
        arith,
        one.each (omega (arith, one.nodes, other.nodes)) i l,
        other.each small i (omega (arith, one.variables)),
        both i,
      );
}

-- a type after something else
pub and-type : (a b c : Count) (times : ℕ) (t : O.MlType Name) (m k : ℕ) (f h : ℕ → ℕ) → HasAdded a b m f → HasAddedType b c times t
    → k ≡ m + times * nodes_past (vec_len a.uses) t → ((i : ℕ) → h i ≡ f i + times * uses_in t i) → HasAdded a c k h
and-type a b c times t m k f h one other e both =
    then-added a b c m (times * nodes_past (vec_len b.uses) t) k f (λ i. times * uses_in t i) h one other
    (e ∙ ap (λ l. m + times * nodes_past l t) (sym one.variables)) both

pub free-added : (a b : Count) (times v : ℕ) (t : O.MlType Name) → t ≡ O.free v → b.nodes ≡ min (a.nodes + times) 4294967295 → b.uses ≡ a.uses
    → HasAddedType a b times t
unfolding nodes_past uses_in
free-added a b times v t is h same =
    subst (HasAddedType a b times) (sym is) (nodes-added a b times _ _ h same (omega arith) (λ k _. omega arith))

pub parts-added : (a b : Count) (times : ℕ) (h : O.Head Name) (ts us : List (O.MlType Name)) (t : O.MlType Name) → us ≡ ts
    → t ≡ O.app h (types_of ts) → HasAddedAbove a b times (types_of us) → HasAddedType a b times t
unfolding nodes_past uses_in
parts-added a b times h ts us t same is added =
    subst (HasAddedType a b times) (sym is) (subst (λ l. HasAddedAbove a b times (types_of l)) same added)

pub arrow-added : (a b c d : Count) (times : ℕ) (t u whole : O.MlType Name) → whole ≡ O.arrow_of t u → b.nodes ≡ min (a.nodes + times) 4294967295
    → b.uses ≡ a.uses → HasAddedType b c times t → HasAddedType c d times u → HasAddedType a d times whole
unfolding nodes_past all_nodes_past uses_in uses_in_all
arrow-added a b c d times t u whole is h same one other =
    let n = vec_len a.uses in
    let head : HasAdded a b times (λ _. 0) = nodes-added a b times times (λ _. 0) h same refl (λ k _. refl) in
    let left : HasAdded a c (times + times * nodes_past n t) (λ i. times * uses_in t i) =
    and-type a b c times t times _ (λ _. 0) _ head one refl (λ i. omega arith) in
    subst (HasAddedType a d times) (sym is)
    (and-type a c d times u _ _ (λ i. times * uses_in t i) _ left other (omega arith) (λ i. omega arith))

pub none-added : (a b : Count) (times : ℕ) → b.nodes ≡ min (a.nodes + times) 4294967295 → b.uses ≡ a.uses → HasAddedAbove a b times O.no_type
unfolding all_nodes_past uses_in_all
none-added a b times h same = nodes-added a b times _ _ h same (omega arith) (λ k _. omega arith)

nodes-push : (n : ℕ) (ts : List (O.MlType Name)) (t : O.MlType Name)
    → all_nodes_past n (types_of (ts ++ (t ∷ []))) ≡ all_nodes_past n (types_of ts) + nodes_past n t
unfolding all_nodes_past
nodes-push n [] t = omega arith
nodes-push n (u ∷ ts) t = omega (arith, nodes-push n ts t)

uses-push : (k : ℕ) (ts : List (O.MlType Name)) (t : O.MlType Name)
    → uses_in_all (types_of (ts ++ (t ∷ []))) k ≡ uses_in_all (types_of ts) k + uses_in t k
unfolding uses_in_all
uses-push k [] t = omega arith
uses-push k (u ∷ ts) t = omega (arith, uses-push k ts t)

-- one more of the types
pub more-added : (a b c : Count) (times : ℕ) (ts us : List (O.MlType Name)) (u : O.MlType Name) → us ≡ ts ++ (u ∷ [])
    → HasAddedAbove a b times (types_of ts) → HasAddedType b c times u → HasAddedAbove a c times (types_of us)
more-added a b c times ts us u more one other =
    subst (λ l. HasAddedAbove a c times (types_of l)) (sym more)
    (and-type a b c times u _ _ _ _ one other
    (ap (λ x. times * suc x) (nodes-push (vec_len a.uses) ts u) ∙ omega arith)
    (λ i. ap (λ x. times * x) (uses-push i ts u) ∙ omega arith))

pub push-added : (a b c : Count) (times : ℕ) (ts us : List (Rc MlType Global)) (t : Rc MlType Global) (u : O.MlType Name)
    → us ≡ ts ++ (t ∷ []) → u ≡ type_of t.value → HasAddedAbove a b times (types_of (seen ts)) → HasAddedType b c times u
    → HasAddedAbove a c times (types_of (seen us))
push-added a b c times ts us t u more is =
    more-added a b c times (seen ts) (seen us) u
    (ap seen more ∙ map-append (λ (t : Rc MlType Global). type_of t.value) ts (t ∷ []) ∙ ap (λ x. seen ts ++ (x ∷ [])) (sym is))

-- a variable that is counted by itself, and one that isn't

pub is-first : (v n x y : ℕ) → v < n → cond (nat_lt v n) x y ≡ x
is-first v n x y h = grind (arith, nat_tests)

pub is-past : (v n x y : ℕ) → n ≤ v → cond (nat_lt v n) x y ≡ y
is-past v n x y h = grind (arith, nat_tests)

is-other : (k v x y : ℕ) → k < v → cond (nat_eq k v) x y ≡ y
is-other k v x y h = grind (arith, nat_tests)

use-at : (xs : List ℕ) (v r old times k : ℕ) → v < length xs → old ≡ get_or xs v 0 → r ≡ min (old + times) 4294967295
    → min (get_or (set xs v r) k 0) 4294967295 ≡ min (get_or xs k 0 + times * cond (nat_eq k v) 1 0) 4294967295
use-at xs v r old times k l is h =
    elim (eqb_tells k v) [
      | inl e ↦
          let here : get_or (set xs v r) k 0 ≡ r = ap (λ j. get_or (set xs v r) j 0) e.1 ∙ get_or-set_same xs v r 0 l in
          let was : get_or xs k 0 ≡ old = ap (λ j. get_or xs j 0) e.1 ∙ sym is in
          let once : times * cond (nat_eq k v) 1 0 ≡ times = ap (λ b. times * cond b 1 0) e.0 ∙ omega arith in
          omega arith
      | inr e ↦
          let here : get_or (set xs v r) k 0 ≡ get_or xs k 0 = get_or-set_other xs v k r 0 e.1 in
          let never : times * cond (nat_eq k v) 1 0 ≡ 0 = ap (λ b. times * cond b 1 0) e.0 ∙ omega arith in
          omega arith
    ]

pub use-added : (a : Count) (times v r old : ℕ) → v < length a.uses.items → old ≡ get_or a.uses.items v 0 → r ≡ min (old + times) 4294967295
    → HasAddedType a (record { nodes = a.nodes; uses = with_item a.uses v r }) times (O.bound v)
unfolding nodes_past uses_in
use-added a times v r old l is h =
    let none : times * cond (nat_lt v (vec_len a.uses)) 0 1 ≡ 0 =
    ap (λ x. times * x) (is-first v (vec_len a.uses) 0 1 (omega (arith, a.uses.ok.0))) ∙ omega arith in
    record {
      variables = refl;
      nodes = omega (arith, none);
      each = λ small k m. use-at a.uses.items v r old times k l is h;
    }

pub bound-added : (a b : Count) (times v : ℕ) → length a.uses.items ≤ v → b.nodes ≡ min (a.nodes + times) 4294967295 → b.uses ≡ a.uses
    → HasAddedType a b times (O.bound v)
unfolding nodes_past uses_in
bound-added a b times v past h same =
    nodes-added a b times _ _ h same
    (ap (λ x. times * x) (is-past v (vec_len a.uses) 0 1 (omega (arith, a.uses.ok.0))) ∙ omega arith)
    (λ k l. ap (λ x. times * x) (is-other k v 1 0 (omega (arith, a.uses.ok.0))) ∙ omega arith)
