-- The nodes that some nodes lead to.
use Rattle.std.proofs.Common.{◌≡◌, ℕ, zero, suc, ◌+◌, ◌<◌, inl, inr, Bool, true, false, List, [], ◌∷◌, ◌++◌, length, map, get_or, set, replicate, Some, sym, ◌∙◌, ap, subst, refl, arith, get_or-set_same, get_or-set_other, length-append}
use Rattle.std.proofs.Math.ListN.{length-set}
use Rattle.std.proofs.lemmas.List.{length-replicate}
use Rattle.std.specs.List.{AllByRecursion}
use Rattle.sml_objects.specs.Appearance.{Stands}
use Rattle.sml_objects.proofs.Standing as Standing
use Rattle.sml_graph.specs.declared.node.Node.{Node}
use Rattle.sml_graph.specs.declared.node.Node.TheVariants.{Unknown, Link, App, Open}
use Rattle.sml_layers.specs.Worlds.{finite}
use Rattle.sml_graph.specs.Worlds.{Assignment}
use Rattle.sml_tree.specs.Trees.{Id}
use Rattle.sml_objects.specs.Initial.{Name}
use Rattle.sml_objects.specs.Maps.{Map, lookup}
use Rattle.sml_objects.specs.Objects.{MlType}
use Rattle.sml_objects.specs.Labels.{with_labels}
use Rattle.sml_layers.specs.Rows.{fields_at}
use Rattle.sml_graph.specs.Rows.{HasFields, kids_of}
use Rattle.sml_graph.specs.Graphs.{node_at, parts, head_over, fields_of, Agrees, IsSound}
use Rattle.sml_schemes.specs.Fixed.{IsMarked, IsFixedBy, IsMarkedBut, IsReach, AreMarks, unmarked}
use Rattle.sml_graph.proofs.Worlding.{app_parts}
use Rattle.sml_graph.proofs.Rowing.{same-some, fields-known}
use Rattle.sml_graph.proofs.Merging.{same_or_not, all-append}
use Rattle.sml_graph.proofs.Interning.{parts-inside}
use Rattle.sml_graph.proofs.Searching.{all-parts}
use Rattle.sml_graph.proofs.Limiting.{front-inside, among-cases, all-among}

not-marked : (n i : ℕ) → IsMarked (replicate n false) i → ⊥
not-marked zero i m = cc
not-marked (suc n) zero m = cc
not-marked (suc n) (suc i) m = not-marked n i m

all-these : (P : ℕ → Type 0) (ks : List ℕ) → ((k : ℕ) → Stands k ks → P k) → AllByRecursion P ks
unfolding Stands
all-these P [] f = tt
all-these P (k ∷ ks) f = (f k (inl refl), all-these P ks (λ j m. f j (inr m)))

same-list : (σ τ : Assignment finite) (ks : List ℕ) → map σ ks ≡ map τ ks → AllByRecursion (λ k. σ k ≡ τ k) ks
same-list σ τ [] e = tt
same-list σ τ (k ∷ ks) e =
    let a : σ k ≡ τ k = cc in
    let b : map σ ks ≡ map τ ks = cc in
    (a, same-list σ τ ks b)

same-fields : (σ τ : Assignment finite) (m : Map (MlType Name)) (fs : List (Id × ℕ)) → AllByRecursion (λ f. lookup f.0 m ≡ Some f.1) (fields_at σ fs) → AllByRecursion (λ f. lookup f.0 m ≡ Some f.1) (fields_at τ fs) → AllByRecursion (λ k. σ k ≡ τ k) (kids_of fs)
same-fields σ τ m [] a b = tt
same-fields σ τ m (f ∷ fs) a b = (same-some (σ f.1) (τ f.1) (sym a.0 ∙ b.0), same-fields σ τ m fs a.1 b.1)

parts-same : (σ τ : Assignment finite) (i : ℕ) (x : Node) → Agrees finite σ i x → Agrees finite τ i x → σ i ≡ τ i → AllByRecursion (λ k. σ k ≡ τ k) (parts x)
parts-same σ τ i Unknown a b e = tt
parts-same σ τ i (Link j) a b e = (sym a ∙ (e ∙ b), tt)
parts-same σ τ i (App h kids) a b e =
    let n = head_over h (length kids.items) in
    same-list σ τ kids.items (app_parts finite (τ i) n n (map σ kids.items) (map τ kids.items) (sym e ∙ a) b)
parts-same σ τ i (Open fs) a b e =
    let gs = fields_of fs.value in
    let a' : HasFields finite (τ i) (fields_at σ gs) = subst (λ t. HasFields finite t (fields_at σ gs)) e a in
    same-fields σ τ (with_labels b.labels b.types) gs (fields-known finite (τ i) (fields_at τ gs) (fields_at σ gs) b a') b.fields

pub parts-fixed : (ns : List Node) (from : List ℕ) (i : ℕ) → IsFixedBy ns from i → AllByRecursion (IsFixedBy ns from) (parts (node_at ns i))
parts-fixed ns from i f =
    all-these (IsFixedBy ns from) (parts (node_at ns i)) (λ k m σ τ a b c.
    all-among (λ k. σ k ≡ τ k) (parts (node_at ns i)) k (parts-same σ τ i (node_at ns i) (a i) (b i) (f σ τ a b c)) m)

pub reach-first : (ns : List Node) (from : List ℕ) (ms : List Bool) (is : List ℕ) (n : ℕ) → AllByRecursion (λ i. i < length ns) from → ms ≡ replicate n false → n ≡ length ns → is ≡ from → IsReach ns from ms is
reach-first ns from ms is n inside e l q =
    let none : (i : ℕ) → IsMarked ms i → ⊥ = λ i m. not-marked n i (rw e at m) in
    record {
      len = ap length e ∙ (length-replicate n false ∙ l);
      inside = rw q inside;
      begun = all-these (IsMarkedBut ms is) from (λ k m. inr (rw q m));
      closed = λ i m. absurd (none i m);
      fixed = λ i m. absurd (none i m);
      left = rw q (all-these (IsFixedBy ns from) from (λ k m σ τ a b c. all-among (λ k. σ k ≡ τ k) from k c m));
    }

module _ (ns : List Node) (from : List ℕ) (ms : List Bool) (is js : List ℕ) (at : ℕ) where
  pub reach-skip : IsReach ns from ms is → is ≡ js ++ at ∷ [] → IsMarked ms at → IsReach ns from ms js
  reach-skip r e m =
      let still : (k : ℕ) → IsMarkedBut ms is k → IsMarkedBut ms js k = λ k b.
      elim b [
        | inl x ↦ inl x
        | inr x ↦ elim (among-cases k js at (rw e at x)) [ inl y ↦ inr y | inr q ↦ inl (rw q m) ]
      ] in
      record {
        len = r.len;
        inside = (front-inside (λ i. i < length ns) js at (rw e at r.inside)).0;
        begun = all-parts (IsMarkedBut ms is) (IsMarkedBut ms js) from still r.begun;
        closed = λ i x. all-parts (IsMarkedBut ms is) (IsMarkedBut ms js) (parts (node_at ns i)) still (r.closed i x);
        fixed = r.fixed;
        left = (front-inside (IsFixedBy ns from) js at (rw e at r.left)).0;
      }

  pub reach-inside : IsReach ns from ms is → is ≡ js ++ at ∷ [] → at < length ns
  reach-inside r e = (front-inside (λ i. i < length ns) js at (rw e at r.inside)).1

  pub reach-mark : (ls : List Bool) (ks : List ℕ) → IsSound ns → IsReach ns from ms is → is ≡ js ++ at ∷ [] → ls ≡ set ms at true → ks ≡ js ++ parts (node_at ns at) → IsReach ns from ls ks
  reach-mark ls ks sound r e f g =
      let inside = reach-inside r e in
      let here : IsMarked ls at = ap (λ xs. get_or xs at false) f ∙ get_or-set_same ms at true false (let z = r.len in omega (arith, z, inside)) in
      let old : (k : ℕ) → IsMarked ms k → IsMarked ls k = λ k m.
      elim (same_or_not k at) [
        | inl q ↦ rw q here
        | inr n ↦ ap (λ xs. get_or xs k false) f ∙ (get_or-set_other ms at k true false n ∙ m)
      ] in
      let still : (k : ℕ) → IsMarkedBut ms is k → IsMarkedBut ls ks k = λ k b.
      elim b [
        | inl x ↦ inl (old k x)
        | inr x ↦ elim (among-cases k js at (rw e at x)) [ inl y ↦ inr (rw g (Standing.left k js (parts (node_at ns at)) y)) | inr q ↦ inl (rw q here) ]
      ] in
      let left = front-inside (IsFixedBy ns from) js at (rw e at r.left) in
      record {
        len = ap length f ∙ (length-set ms at true ∙ r.len);
        inside = rw g (all-append (λ i. i < length ns) js (parts (node_at ns at)) (front-inside (λ i. i < length ns) js at (rw e at r.inside)).0 (parts-inside (length ns) at (node_at ns at) inside (sound at)));
        begun = all-parts (IsMarkedBut ms is) (IsMarkedBut ls ks) from still r.begun;
        closed = λ i x.
            elim (same_or_not i at) [
              | inl q ↦ rw q (all-these (IsMarkedBut ls ks) (parts (node_at ns at)) (λ k m. inr (rw g (Standing.right k js (parts (node_at ns at)) m))))
              | inr n ↦ all-parts (IsMarkedBut ms is) (IsMarkedBut ls ks) (parts (node_at ns i)) still (r.closed i (sym (ap (λ xs. get_or xs i false) f ∙ get_or-set_other ms at i true false n) ∙ x))
            ];
        fixed = λ i x.
            elim (same_or_not i at) [
              | inl q ↦ rw q left.1
              | inr n ↦ r.fixed i (sym (ap (λ xs. get_or xs i false) f ∙ get_or-set_other ms at i true false n) ∙ x)
            ];
        left = rw g (all-append (IsFixedBy ns from) js (parts (node_at ns at)) left.0 (parts-fixed ns from at left.1));
      }

unmarked-set : (ns : List Node) (ms : List Bool) (i : ℕ) → length ms ≡ length ns → i < length ms → get_or ms i false ≡ false → unmarked ns (set ms i true) + suc (length (parts (node_at ns i))) ≡ unmarked ns ms
unmarked-set ns [] i n h e = absurd (omega (arith, h))
unmarked-set [] (m ∷ ms) i n h e = absurd (omega (arith, n))
unmarked-set (x ∷ ns) (m ∷ ms) zero n h e = rw e (omega arith)
unmarked-set (x ∷ ns) (m ∷ ms) (suc i) n h e = let r = unmarked-set ns ms i (omega (arith, n)) (omega (arith, h)) e in omega (arith, r)

pub reach-less : (ns : List Node) (from : List ℕ) (ms ls : List Bool) (is js ks : List ℕ) (at : ℕ) → IsReach ns from ms is → is ≡ js ++ at ∷ [] → get_or ms at false ≡ false → ls ≡ set ms at true → ks ≡ js ++ parts (node_at ns at) → unmarked ns ls + length ks < unmarked ns ms + length is
reach-less ns from ms ls is js ks at r e m f g =
    let inside = reach-inside ns from ms is js at r e in
    let n = r.len in
    let a : unmarked ns ls + suc (length (parts (node_at ns at))) ≡ unmarked ns ms = rw f (unmarked-set ns ms at n (omega (arith, n, inside)) m) in
    let b : length ks ≡ length js + length (parts (node_at ns at)) = ap length g ∙ simp length-append in
    let c : length is ≡ length js + 1 = ap length e ∙ simp length-append in
    omega (arith, a, b, c)

pub among-at : (xs : List ℕ) (i : ℕ) → i < length xs → Stands (get_or xs i 0) xs
unfolding Stands
among-at [] i h = absurd (omega (arith, h))
among-at (x ∷ xs) zero h = inl refl
among-at (x ∷ xs) (suc i) h = inr (among-at xs i (omega (arith, h)))

-- where none is left to do, what was found is all
pub reach-end : (ns : List Node) (from : List ℕ) (ms : List Bool) → IsReach ns from ms [] → AreMarks ns from ms
unfolding Stands
reach-end ns from ms r =
    let found : (i : ℕ) → IsMarkedBut ms [] i → IsMarked ms i = λ i m. elim m [ inl h ↦ h | inr n ↦ absurd n ] in
    record {
      begun = all-parts (IsMarkedBut ms []) (IsMarked ms) from found r.begun;
      closed = λ i m. all-parts (IsMarkedBut ms []) (IsMarked ms) (parts (node_at ns i)) found (r.closed i m);
      fixed = r.fixed;
    }
