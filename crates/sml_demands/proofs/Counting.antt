-- Sizes of types that are counted node by node.
use Rattle.std.proofs.Common.{◌≡◌, ℕ, suc, ◌+◌, ◌<◌, ◌≤◌, List, [], ◌∷◌, ◌++◌, length, map, sym, ◌∙◌, ap, refl, arith}
use Rattle.std.specs.Prelude.{Bool}
use Rattle.smallvec.specs.SmallVec.{SmallVec}
use Rattle.sml_objects.specs.Initial.{Name}
use Rattle.sml_objects.specs.Objects as O
use Rattle.sml_objects.specs.Sizes.{type_size, types_size}
use Rattle.sml_objects.specs.Types.{assign}
use Rattle.sml_objects.specs.Objects.{types_of}
use Rattle.sml_graph.specs.declared.graph.Graph.{Graph}
use Rattle.sml_layers.specs.declared.layer.Layer.TheVariants.{Finiteness}
use Rattle.sml_graph.specs.declared.node.Head.{Head}
use Rattle.sml_graph.specs.declared.node.Node.{Node}
use Rattle.sml_graph.specs.declared.node.Node.TheVariants.{Unknown, Link, App, Open}
use Rattle.sml_layers.specs.Worlds.{finite}
use Rattle.sml_graph.specs.Worlds.{Assignment}
use Rattle.sml_graph.specs.Graphs.{node_at, parts, fields_of, Agrees, Meets, IsSame, IsRoot, IsRootNode}
use Rattle.sml_graph.specs.CodeRanks.{HasRank}
use Rattle.sml_graph.specs.Interned.{IsOver, through}
use Rattle.sml_graph.specs.Asked.{asked_of, Permits}
use Rattle.sml_graph.specs.CodeWhole.{IsKept}
use Rattle.sml_demands.specs.Counted.{sizes_at, IsCounting, IsCounted, IsSizeUpTo}
use Rattle.sml_graph.proofs.Ranking.{solution, ints, solution-meets, solution-unknown}
use Rattle.sml_demands.proofs.Opening.{size-open, size-has}
use Rattle.sml_demands.proofs.Owning.{solution-row}
use Rattle.sml_graph.proofs.Interning.{typed-same}
use Rattle.sml_demands.proofs.Demanding.{Grows, grown-forth, grown-back, through-agree}
use Rattle.sml_graph.proofs.Asking.{nothing-asked}

sizes_at-append : (τ : Assignment finite) (is js : List ℕ) → sizes_at τ (is ++ js) ≡ sizes_at τ is + sizes_at τ js
sizes_at-append τ [] js = omega arith
sizes_at-append τ (i ∷ is) js = let r = sizes_at-append τ is js in omega (arith, r)

sizes_at-types : (τ : Assignment finite) (is : List ℕ) → types_size (types_of (map τ is)) ≡ sizes_at τ is
unfolding types_size
sizes_at-types τ [] = refl
sizes_at-types τ (i ∷ is) = ap (λ n. type_size (τ i) + n) (sizes_at-types τ is)

pub positive : (t : O.MlType Name) → 0 < type_size t
unfolding type_size
positive (O.bound k) = omega arith
positive (O.free v) = omega arith
positive (O.app h ts) = omega arith

-- a node is no smaller than its parts
parts-less : (τ : Assignment finite) (i : ℕ) (x : Node) → IsRootNode x → Agrees finite τ i x → suc (sizes_at τ (parts x)) ≤ type_size (τ i)
unfolding type_size
parts-less τ i Unknown r a = let p = positive (τ i) in omega (arith, p)
parts-less τ i (Link j) r a = absurd r
parts-less τ i (App h kids) r a =
    let e = ap type_size a in
    let f = sizes_at-types τ kids.items in
    omega (arith, e, f)
parts-less τ i (Open fs) r a = size-has τ (τ i) (fields_of fs.value) fs.value.distinct a

-- where nothing more is known it is as small
parts-small : (ns : List Node) (h : HasRank ns) (i : ℕ) (x : Node) → IsRootNode x → node_at ns i ≡ x → type_size (solution ns ints h.rank i) ≡ suc (sizes_at (solution ns ints h.rank) (parts x))
unfolding type_size types_size
parts-small ns h i Unknown r e = ap type_size (solution-unknown ns ints h.rank i e)
parts-small ns h i (Link j) r e = absurd r
parts-small ns h i (App f kids) r e =
    let σ = solution ns ints h.rank in
    let a : Agrees finite σ i (App f kids) = rw e at (solution-meets ns ints h.rank h.ranked i) in
    ap type_size a ∙ ap suc (sizes_at-types σ kids.items)
parts-small ns h i (Open fs) r e =
    let σ = solution ns ints h.rank in
    ap type_size (solution-row ns ints h i fs e) ∙ size-open σ (ints i) (fields_of fs.value) refl fs.value.distinct

pub counting-first : (ns : List Node) (root : ℕ) (is : List ℕ) → HasRank ns → is ≡ root ∷ [] → IsCounting ns root 0 is
counting-first ns root is r e = record {
  less = λ τ m. rw e (omega arith);
  types = solution ns ints r.rank;
  meets = solution-meets ns ints r.rank r.ranked;
  small = λ i h. parts-small ns r i (node_at ns i) h refl;
  exact = rw e (omega arith);
}

pub counting-parts : (ns : List Node) (root n : ℕ) (is js ks : List ℕ) (at here : ℕ) → IsCounting ns root n is → is ≡ js ++ at ∷ [] → IsSame ns at here → IsRoot ns here → ks ≡ js ++ parts (node_at ns here) → IsCounting ns root (n + 1) ks
counting-parts ns root n is js ks at here c e s r f =
    let ps = parts (node_at ns here) in
    let split : (τ : Assignment finite) → sizes_at τ is ≡ sizes_at τ js + (type_size (τ at) + 0) = λ τ. ap (sizes_at τ) e ∙ sizes_at-append τ js (at ∷ []) in
    let join : (τ : Assignment finite) → sizes_at τ ks ≡ sizes_at τ js + sizes_at τ ps = λ τ. ap (sizes_at τ) f ∙ sizes_at-append τ js ps in
    let lead : (τ : Assignment finite) → Meets finite ns τ → type_size (τ at) ≡ type_size (τ here) = λ τ m. ap type_size (s finite τ m) in
    record {
      less = λ τ m. let x = c.less τ m in let y = split τ in let z = join τ in let w = parts-less τ here (node_at ns here) r (m here) in let v = lead τ m in omega (arith, x, y, z, w, v);
      types = c.types;
      meets = c.meets;
      small = c.small;
      exact = let x = c.exact in let y = split c.types in let z = join c.types in let w = c.small here r in let v = lead c.types c.meets in omega (arith, x, y, z, w, v);
    }

pub size-app : (ns : List Node) (at here : ℕ) (h : Head) (kids : SmallVec ℕ) → IsSame ns at here → node_at ns here ≡ App h kids → (τ : Assignment finite) → Meets finite ns τ → type_size (τ at) ≡ suc (sizes_at τ kids.items)
unfolding type_size
size-app ns at here h kids s e τ m =
    let a = s finite τ m in
    let b = rw e at (m here) in
    ap type_size (a ∙ b) ∙ ap suc (sizes_at-types τ kids.items)

pub counted-more : (ns : List Node) (root limit n : ℕ) (is js : List ℕ) (at : ℕ) → IsCounting ns root n is → is ≡ js ++ at ∷ [] → n ≤ limit → limit < n + 1 → IsCounted ns root limit (n + 1)
counted-more ns root limit n is js at c e l h = record {
  most = omega (arith, l);
  least = λ τ m.
      let x = c.less τ m in
      let y : sizes_at τ is ≡ sizes_at τ js + (type_size (τ at) + 0) = ap (sizes_at τ) e ∙ sizes_at-append τ js (at ∷ []) in
      let w = positive (τ at) in
      omega (arith, x, y, w);
  reached = λ q. absurd (omega (arith, h, q));
}

pub counted-last : (ns : List Node) (root limit n : ℕ) (is : List ℕ) → IsCounting ns root n is → length is ≡ 0 → n ≤ limit → IsCounted ns root limit n
counted-last ns root limit n [] c e l = record {
  most = omega (arith, l);
  least = λ τ m. let x = c.less τ m in omega (arith, x);
  reached = λ q. (c.types, c.meets, let x = c.exact in omega (arith, x));
}
counted-last ns root limit n (i ∷ is) c e l = absurd (omega (arith, e))

pub counted-size : (u : ℕ) (us : List ℕ) (b : Bool) (t : O.MlType Name) (g h : Graph) (r limit n : ℕ) → IsKept u g us → IsOver (length us) t → Grows us t g h r → IsCounted h.nodes.items r limit n → IsSizeUpTo limit (asked_of u us g b) t n
unfolding Permits
counted-size u us b t g h r limit n k o x c = record {
  most = c.most;
  least = λ σ p.
      let y = grown-forth us t g h r u Finiteness x k.whole.full p.0 p.1 p.2 in
      let e = through-agree finite us (length g.nodes.items) p.0 y.0 σ k.owners.inside y.3 p.3 in
      let z = grown-back us t g h r u Finiteness x y.0 y.1 y.2 in
      let s : type_size (y.0 r) ≡ type_size (assign σ t) = ap type_size (z.2 ∙ typed-same finite (through finite us y.0) σ (length us) t e o) in
      let w = c.least y.0 y.1 in
      omega (arith, s, w);
  reached = λ q.
      let y = c.reached q in
      let z = grown-back us t g h r u Finiteness x y.0 y.1 (nothing-asked u h.limits y.0) in
      (through finite us y.0, (y.0, z.0, nothing-asked u g.limits y.0, λ v l. refl), ap type_size (sym z.2) ∙ y.2);
}
