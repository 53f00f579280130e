-- Unknowns that are left, told apart by a label that stands nowhere else, and the sizes of types that are read back.
use Rattle.std.proofs.Common.{◌≡◌, ℕ, zero, suc, ◌+◌, ◌<◌, ◌≤◌, inl, inr, List, [], ◌∷◌, ◌++◌, length, map, get_or, Option, Some, None, sym, ◌∙◌, ap, refl, arith}
use Rattle.std.proofs.lemmas.Bool.{cases_lt}
use Rattle.std.proofs.lemmas.List.Sums.{sum_by-cons}
use Rattle.std.specs.Prelude.{Bool}
use Rattle.std.specs.Global.{Global}
use Rattle.std.specs.List.{sum_by}
use Rattle.std.specs.Option.{IfNone}
use Rattle.std.specs.declared.rc.Rc.{Rc}
use Rattle.sml_tree.specs.Trees.{Id}
use Rattle.sml_objects.specs.Initial.{Name}
use Rattle.sml_objects.specs.Maps.{lookup}
use Rattle.sml_objects.specs.Objects as O
use Rattle.sml_objects.specs.Sizes.{type_size, types_size}
use Rattle.sml_objects.specs.Types.{assign, replace_type, replace_types}
use Rattle.sml_objects.specs.Objects.{types_of}
use Rattle.sml_objects.specs.declared.objects.MlType.{MlType}
use Rattle.sml_graph.specs.declared.graph.Graph.{Graph}
use Rattle.sml_graph.specs.declared.node.Node.{Node}
use Rattle.sml_demands.specs.declared.reading.Task.{Task}
use Rattle.sml_demands.specs.declared.reading.Task.TheVariants.{Read}
use Rattle.sml_layers.specs.Worlds.{finite, make, typed}
use Rattle.sml_graph.specs.Worlds.{Assignment}
use Rattle.sml_graph.specs.Graphs.{node_at, head_over, Meets, IsSound, IsLoose, AreOwners}
use Rattle.sml_graph.specs.Interned.{through}
use Rattle.sml_graph.specs.CodeRanks.{HasRank}
use Rattle.sml_demands.specs.Counted.{sizes_at}
use Rattle.sml_graph.specs.Asked.{asked_of}
use Rattle.sml_schemes.specs.Left.{IsMadeOf, AreMadeOf, IsLeft, IsReading}
use Rattle.sml_demands.specs.CodeReads.{IsTypeAt, AreSizes, IsReadingOn}
use Rattle.sml_graph.proofs.Rowing.{components}
use Rattle.sml_demands.proofs.Opening.{fresh_label, fresh-none, IsNone, none-front, none-back, head_labels, component-head, one_row}
use Rattle.sml_demands.proofs.Counting.{positive, size-app}
use Rattle.sml_demands.proofs.Owning.{node_labels, solution-more, permitted, left-loose, choice, choice-is, made-more}
use Rattle.sml_graph.proofs.Ranking.{solution, solution-meets}

-- a field with a label tells which unknown the type is of
abbrev pub IsMark : Id → ℕ → O.MlType Name → Type 0
IsMark l v t = lookup l (components t) ≡ Some (O.free v)

unfoldable mutual
  pub type_labels : O.MlType Name → List Id
  type_labels (O.bound k) = []
  type_labels (O.free v) = []
  type_labels (O.app h ts) = head_labels h ++ types_labels ts

  pub types_labels : O.MlTypes Name → List Id
  types_labels O.no_type = []
  types_labels (O.and_type t ts) = type_labels t ++ types_labels ts

-- the labels of all nodes
pub nodes_labels : List Node → List Id
nodes_labels [] = []
nodes_labels (n ∷ ns) = node_labels n ++ nodes_labels ns

none-at-node : (l : Id) (ns : List Node) (i : ℕ) → IsNone l (nodes_labels ns) → IsNone l (node_labels (node_at ns i))
unfolding nodes_labels
none-at-node l [] zero a = tt
none-at-node l [] (suc i) a = tt
none-at-node l (n ∷ ns) zero a = none-front l (node_labels n) (nodes_labels ns) a
none-at-node l (n ∷ ns) (suc i) a = none-at-node l ns i (none-back l (node_labels n) (nodes_labels ns) a)

-- each unknown that is left may have a mark
module _ (ns : List Node) (us : List ℕ) (o : AreOwners ns us) (h : HasRank ns) (l : Id) (fresh : IsNone l (nodes_labels ns)) where
  abbrev marks : Assignment finite
  marks v = one_row l (O.free v)

  abbrev pub marked : Assignment finite
  marked = solution ns (choice ns us o marks) h.rank

  pub marked-meets : Meets finite ns marked
  marked-meets = solution-meets ns (choice ns us o marks) h.rank h.ranked

  pub marked-is : (v : ℕ) → IsLoose ns us v → IsMark l v (marked (get_or us v 0))
  marked-is v loose =
      let i = get_or us v 0 in
      solution-more ns (choice ns us o marks) h i l (O.free v) (node_at ns i) refl loose.1 (choice-is ns us o marks v loose.0 loose.1) (none-at-node l ns i fresh)

-- Sizes of nodes: those of their types.

sum-sizes : (τ : Assignment finite) (is : List ℕ) → sum_by (λ i. type_size (τ i)) is ≡ sizes_at τ is
sum-sizes τ [] = refl
sum-sizes τ (i ∷ is) = sum_by-cons (λ i. type_size (τ i)) i is ∙ ap (λ n. type_size (τ i) + n) (sum-sizes τ is)

pub type-sizes : (ns : List Node) (τ : Assignment finite) → Meets finite ns τ → AreSizes ns (λ i. type_size (τ i))
type-sizes ns τ m = record {
  same = λ i j s. ap type_size (s finite τ m);
  some = λ i. positive (τ i);
  parts = λ i h kids e.
      let a = size-app ns i i h kids (λ w σ m. refl) e τ m in
      let b = sum-sizes τ kids.items in
      omega (arith, a, b);
}

-- The same, where a row that has a mark counts as one node.

counted : Option (O.MlType Name) → ℕ → ℕ
counted None n = suc n
counted (Some t) n = 1

mutual
  marked_size : Id → O.MlType Name → ℕ
  marked_size l (O.bound k) = 1
  marked_size l (O.free v) = 1
  marked_size l (O.app h ts) = counted (lookup l (components (O.app h ts))) (marked_sizes l ts)

  marked_sizes : Id → O.MlTypes Name → ℕ
  marked_sizes l O.no_type = 0
  marked_sizes l (O.and_type t ts) = marked_size l t + marked_sizes l ts

counted-some : (o : Option (O.MlType Name)) (n : ℕ) → 0 < counted o n
unfolding counted
counted-some None n = omega arith
counted-some (Some t) n = omega arith

marked-some : (l : Id) (t : O.MlType Name) → 0 < marked_size l t
unfolding marked_size
marked-some l (O.bound k) = omega arith
marked-some l (O.free v) = omega arith
marked-some l (O.app h ts) = counted-some (lookup l (components (O.app h ts))) (marked_sizes l ts)

marked-one : (l : Id) (t x : O.MlType Name) → lookup l (components t) ≡ Some x → marked_size l t ≡ 1
unfolding marked_size counted
marked-one l (O.bound k) x e = refl
marked-one l (O.free v) x e = refl
marked-one l (O.app h ts) x e = ap (λ o. counted o (marked_sizes l ts)) e

marked-head : (l : Id) (h : O.Head Name) (ts : O.MlTypes Name) → IsNone l (head_labels h) → marked_size l (O.app h ts) ≡ suc (marked_sizes l ts)
unfolding marked_size counted
marked-head l h ts n = ap (λ o. counted o (marked_sizes l ts)) (component-head l h ts n)

marked-parts : (l : Id) (τ : Assignment finite) (is : List ℕ) → marked_sizes l (types_of (map τ is)) ≡ sum_by (λ i. marked_size l (τ i)) is
unfolding marked_sizes
marked-parts l τ [] = refl
marked-parts l τ (i ∷ is) = ap (λ n. marked_size l (τ i) + n) (marked-parts l τ is) ∙ sym (sum_by-cons (λ i. marked_size l (τ i)) i is)

marked-sizes : (ns : List Node) (l : Id) (τ : Assignment finite) → IsNone l (nodes_labels ns) → Meets finite ns τ → AreSizes ns (λ i. marked_size l (τ i))
marked-sizes ns l τ fresh m = record {
  same = λ i j s. ap (marked_size l) (s finite τ m);
  some = λ i. marked-some l (τ i);
  parts = λ i h kids e.
      let k = head_over h (length kids.items) in
      let a : τ i ≡ make finite k (map τ kids.items) = rw e at (m i) in
      let n : IsNone l (head_labels k) = rw e at (none-at-node l ns i fresh) in
      let b : marked_size l (τ i) ≡ suc (marked_sizes l (types_of (map τ kids.items))) = ap (marked_size l) a ∙ marked-head l k (types_of (map τ kids.items)) n in
      let c = marked-parts l τ kids.items in
      omega (arith, b, c);
}

module _ (P : ℕ → Type 0) (σ : Assignment finite) (l : Id) (marks : (v : ℕ) → P v → IsMark l v (σ v)) where
  mutual
    unfolding IsMadeOf AreMadeOf replace_type replace_types type_labels types_labels marked_sizes type_size types_size

    marked-typed : (t : O.MlType Name) → IsMadeOf P t → IsNone l (type_labels t) → marked_size l (assign σ t) ≡ type_size t
    marked-typed (O.bound k) m n = absurd m
    marked-typed (O.free v) m n = marked-one l (σ v) (O.free v) (marks v m)
    marked-typed (O.app h ts) m n = marked-head l h (replace_types O.bound σ ts) (none-front l (head_labels h) (types_labels ts) n) ∙ ap suc (all-marked-typed ts m (none-back l (head_labels h) (types_labels ts) n))

    all-marked-typed : (ts : O.MlTypes Name) → AreMadeOf P ts → IsNone l (types_labels ts) → marked_sizes l (replace_types O.bound σ ts) ≡ types_size ts
    all-marked-typed O.no_type m n = refl
    all-marked-typed (O.and_type t ts) m n =
        let a = marked-typed t m.0 (none-front l (type_labels t) (types_labels ts) n) in
        let b = all-marked-typed ts m.1 (none-back l (type_labels t) (types_labels ts) n) in
        λ i. a i + b i

-- a type is no larger than what it becomes

module _ (σ : Assignment finite) (l : Id) where
  mutual
    unfolding replace_type replace_types type_labels types_labels marked_size marked_sizes type_size types_size

    least-marked : (t : O.MlType Name) → IsNone l (type_labels t) → type_size t ≤ marked_size l (assign σ t)
    least-marked (O.bound k) n = omega arith
    least-marked (O.free v) n = marked-some l (σ v)
    least-marked (O.app h ts) n =
        let a = marked-head l h (replace_types O.bound σ ts) (none-front l (head_labels h) (types_labels ts) n) in
        let b = all-least-marked ts (none-back l (head_labels h) (types_labels ts) n) in
        omega (arith, a, b)

    all-least-marked : (ts : O.MlTypes Name) → IsNone l (types_labels ts) → types_size ts ≤ marked_sizes l (replace_types O.bound σ ts)
    all-least-marked O.no_type n = omega arith
    all-least-marked (O.and_type t ts) n =
        let a = least-marked t (none-front l (type_labels t) (types_labels ts) n) in
        let b = all-least-marked ts (none-back l (type_labels t) (types_labels ts) n) in
        omega (arith, a, b)

mutual
  unfolding replace_type replace_types type_size types_size

  pub least-size : (σ : Assignment finite) (t : O.MlType Name) → type_size t ≤ type_size (assign σ t)
  least-size σ (O.bound k) = omega arith
  least-size σ (O.free v) = positive (σ v)
  least-size σ (O.app h ts) = let a = least-sizes σ ts in omega (arith, a)

  least-sizes : (σ : Assignment finite) (ts : O.MlTypes Name) → types_size ts ≤ types_size (replace_types O.bound σ ts)
  least-sizes σ O.no_type = omega arith
  least-sizes σ (O.and_type t ts) =
      let a = least-size σ t in
      let b = least-sizes σ ts in
      omega (arith, a, b)

pub least-reading : (u : ℕ) (us : List ℕ) (g : Graph) (b : Bool) (t r : O.MlType Name) → IsSound g.nodes.items → HasRank g.nodes.items → AreOwners g.nodes.items us → IsReading (asked_of u us g b) t r → type_size t ≤ type_size r
unfolding IsReading
least-reading u us g b t r s h o x =
    let ns = g.nodes.items in
    let fresh = fresh-none (nodes_labels ns ++ (type_labels r ++ type_labels t)) in
    let l = fresh_label (nodes_labels ns ++ (type_labels r ++ type_labels t)) in
    let here = none-front l (nodes_labels ns) (type_labels r ++ type_labels t) fresh in
    let there = none-back l (nodes_labels ns) (type_labels r ++ type_labels t) fresh in
    let τ = marked ns us o h l here in
    let σ = through finite us τ in
    let over = made-more (IsLeft (asked_of u us g b)) (IsLoose ns us) r (λ v i. left-loose u us g b v s h o i) x.0 in
    let e : marked_size l (assign σ r) ≡ type_size r = marked-typed (IsLoose ns us) σ l (marked-is ns us o h l here) r over (none-front l (type_labels r) (type_labels t) there) in
    let q : marked_size l (assign σ r) ≡ marked_size l (assign σ t) = ap (marked_size l) (x.1 σ (permitted u us g b τ (marked-meets ns us o h l here))) in
    let a = least-marked σ l t (none-back l (type_labels r) (type_labels t) there) in
    omega (arith, e, q, a)

-- where more nodes were read than the limit, the type is larger
pub too-large : (ns : List Node) (us : List ℕ) (at size limit i : ℕ) (ks : List Task) (ts : List (O.MlType Name)) → AreOwners ns us → HasRank ns → IsReadingOn ns us at size (Read i ∷ ks) ts → limit < size + 1 → (t : O.MlType Name) → IsTypeAt ns us at limit t → ⊥
too-large ns us at size limit i ks ts o h r b t x =
    let fresh = fresh-none (nodes_labels ns ++ type_labels t) in
    let l = fresh_label (nodes_labels ns ++ type_labels t) in
    let here = none-front l (nodes_labels ns) (type_labels t) fresh in
    let there = none-back l (nodes_labels ns) (type_labels t) fresh in
    let τ = marked ns us o h l here in
    let m = marked-meets ns us o h l here in
    let z = r.less (λ i. marked_size l (τ i)) (marked-sizes ns l τ here m) in
    let p = marked-some l (τ i) in
    let e : marked_size l (τ at) ≡ type_size t = ap (marked_size l) (sym (x.same τ m)) ∙ marked-typed (IsLoose ns us) (through finite us τ) l (marked-is ns us o h l here) t x.over there in
    let s = x.small in
    omega (arith, z, p, e, s, b)

pub unread-larger : (u : ℕ) (us : List ℕ) (g : Graph) (b : Bool) (t : O.MlType Name) (at limit : ℕ) (o : Option (Rc MlType Global)) → IsSound g.nodes.items → HasRank g.nodes.items → AreOwners g.nodes.items us → ((τ : Assignment finite) → Meets finite g.nodes.items τ → τ at ≡ typed finite (through finite us τ) t) → IfNone o ((r : O.MlType Name) → IsTypeAt g.nodes.items us at limit r → ⊥) → IfNone o ((r : O.MlType Name) → IsReading (asked_of u us g b) t r → limit < type_size r)
unfolding IsReading
unread-larger u us g b t at limit None s h k back f = λ r x.
    elim (cases_lt limit (type_size r)) [
      | inl l ↦ l
      | inr c ↦
          absurd (f r (record {
            over = made-more (IsLeft (asked_of u us g b)) (IsLoose g.nodes.items us) r (λ v l. left-loose u us g b v s h k l) x.0;
            same = λ τ m. x.1 (through finite us τ) (permitted u us g b τ m) ∙ sym (back τ m);
            small = c;
          }))
    ]
unread-larger u us g b t at limit (Some q) s h k back f = tt
