-- Rows with one set of labels.
use Rattle.std.proofs.Common.{◌≡◌, ℕ, ◌<◌, Bool, true, false, Some, List, [], ◌∷◌, ◌++◌, length, map, get_or, sym, ◌∙◌, ap, subst, refl, arith, Box, Global}
use Rattle.sml_tree.specs.Trees.{Id}
use Rattle.sml_objects.specs.Names as N
use Rattle.sml_objects.specs.Initial.{Name, initial, made}
use Rattle.sml_objects.specs.Maps.{lookup}
use Rattle.sml_objects.specs.Objects as O
use Rattle.sml_objects.specs.Objects.{types_of}
use Rattle.sml_objects.specs.Views.{name_of, label_list}
use Rattle.sml_graph.specs.declared.fields.Fields.{Fields}
use Rattle.sml_graph.specs.declared.graph.Graph.{Graph}
use Rattle.sml_layers.specs.declared.layer.Layer.{Layer}
use Rattle.sml_layers.specs.declared.layer.Layer.TheVariants.{Equations, Finiteness, Newness, Locality, Equality, Classes, Rigidity}
use Rattle.sml_graph.specs.declared.limits.Limit.{Limit}
use Rattle.sml_graph.specs.declared.node.Head.{Head}
use Rattle.sml_graph.specs.declared.node.Head.TheVariants.{Arrow, Row, Name as Applied}
use Rattle.sml_graph.specs.declared.node.Node.{Node}
use Rattle.sml_graph.specs.declared.node.Node.TheVariants.{Unknown, Link, App, Open}
use Rattle.sml_graph.specs.declared.variables.Variables.{Variables}
use Rattle.sml_graph.specs.declared.variables.Variables.TheVariants as V
use Rattle.sml_layers.specs.Worlds.{finite, make, typed}
use Rattle.sml_graph.specs.Worlds.{Assignment}
use Rattle.sml_graph.specs.Graphs.{node_at, head_over, Meets, IsSame, IsRootNode, IsKnown}
use Rattle.sml_graph.specs.Interned.{IsOver, through}
use Rattle.sml_graph.specs.Limits.{limit_at, MeetsAt, for_parts, IsFitNode}
use Rattle.sml_graph.specs.Variables.{stand_in}
use Rattle.sml_graph.specs.Asked.{Asked, asked_of, Permits, PermitsSame}
use Rattle.sml_schemes.specs.Left.{HasOneSetOfLabels}
use Rattle.sml_demands.specs.CodeSettled.{is_row, has_labels}
use Rattle.sml_graph.specs.CodeWhole.{IsKept}
use Rattle.sml_graph.proofs.Interning.{typed-same}
use Rattle.sml_graph.proofs.Rowing.{components}
use Rattle.sml_demands.proofs.Opening.{fresh_label, fresh-none, none-front, none-back, component-head, one_row}
use Rattle.sml_graph.proofs.Asking.{int-meets, app-meets, fits-row}
use Rattle.sml_graph.proofs.Ranking.{solution, stand_ins, stands-keep, solution-meets, solution-unknown}
use Rattle.sml_demands.proofs.Owning.{node_labels, solution-more, found-or-not, row-head, through-permitted}
use Rattle.sml_demands.proofs.Overloading.{choice-with, types-with, with-here, with-permits}

-- what is said of the types that are permitted stays where the same are
pub labels-same : (l : Layer) (s r : Asked) (t : O.MlType Name) → PermitsSame s r → HasOneSetOfLabels l r t → HasOneSetOfLabels l s t
unfolding HasOneSetOfLabels PermitsSame
labels-same l s r t p h = (h.0, λ σ q. h.1 σ ((p l σ).1 q))

pub labels-as : (l : Layer) (s r : Asked) (t : O.MlType Name) → PermitsSame s r → HasOneSetOfLabels l s t → HasOneSetOfLabels l r t
unfolding HasOneSetOfLabels PermitsSame
labels-as l s r t p h = (h.0, λ σ q. h.1 σ ((p l σ).0 q))

-- heads of rows

row-labels : (h : Head) (n : ℕ) → is_row h ≡ true → (ls : List Id) × (head_over h n ≡ O.row ls)
row-labels Arrow n e = cc
row-labels (Row ls) n e = (label_list ls.value, refl)
row-labels (Applied m) n e = cc

no-row : (h : Head) (n : ℕ) (ls : List Id) → is_row h ≡ false → head_over h n ≡ O.row ls → ⊥
no-row Arrow n ls e f = let g : ◌≡◌ {A = O.Head Name} O.arrow (O.row ls) = f in cc
no-row (Row ks) n ls e f = cc
no-row (Applied m) n ls e f = let g : O.name (name_of m) ≡ O.row ls = f in cc

-- a stand-in is no row
stand-named : (v : Variables) → (n : Name) × (stand_in v ≡ O.named n)
stand-named V.Any = (initial N.int, refl)
stand-named (V.One x) = (made 0 x.number 0 x.equality, refl)
stand-named V.Several = (initial N.int, refl)

named-no-row : (n : Name) (ls : List Id) (ts : O.MlTypes Name) → O.named n ≡ O.app (O.row ls) ts → ⊥
named-no-row n ls ts e = let f : O.app (O.name n) O.no_type ≡ O.app (O.row ls) ts = e in cc

-- a row of one int is as anything asks of rows

part-int : (l : Layer) (u : ℕ) (a : Limit) → MeetsAt l u (for_parts (O.row []) a) (O.named (initial N.int))
part-int Equations u a = tt
part-int Finiteness u a = tt
part-int Newness u a = int-meets Newness u (for_parts (O.row []) a) (omega arith)
part-int Locality u a = int-meets Locality u (for_parts (O.row []) a) (omega arith)
part-int Equality u a = int-meets Equality u (for_parts (O.row []) a) (omega arith)
part-int Classes u a = tt
part-int Rigidity u a = tt

one-meets : (l : Layer) (u : ℕ) (a : Limit) (fs : Box Fields Global) (k : Id) → IsFitNode l u a (Open fs) → MeetsAt l u a (one_row k (O.named (initial N.int)))
one-meets l u a fs k f = app-meets l u a (O.row (k ∷ [])) (O.named (initial N.int) ∷ []) (fits-row l u a (k ∷ []) 1 f) (part-int l u a, tt)

module _ (u : ℕ) (us : List ℕ) (g : Graph) (b : Bool) (k : IsKept u g us) (d : 0 ≡ u → ⊥) (t : O.MlType Name) (over : IsOver (length us) t) (at : ℕ) (back : (τ : Assignment finite) → Meets finite g.nodes.items τ → τ at ≡ typed finite (through finite us τ) t) (r : ℕ) (same : IsSame g.nodes.items at r) where
  abbrev ns : List Node
  ns = g.nodes.items

  abbrev s : Asked
  s = asked_of u us g b

  leads : (τ : Assignment finite) → Meets finite ns τ → typed finite (through finite us τ) t ≡ τ r
  leads τ m = sym (back τ m) ∙ same finite τ m

  pub one-set : (x : Node) → node_at ns r ≡ x → has_labels x ≡ true → HasOneSetOfLabels Finiteness s t
  unfolding HasOneSetOfLabels
  one-set Unknown e h = cc
  one-set (Link j) e h = cc
  one-set (App f kids) e h =
      let w = row-labels f (length kids.items) h in (
        w.0,
        λ σ p.
            let q = through-permitted u us g b σ p in
            let a : q.0 r ≡ make finite (head_over f (length kids.items)) (map q.0 kids.items) = rw e at (q.1 r) in
            (map q.0 kids.items, sym (typed-same finite (through finite us q.0) σ (length us) t q.2 over) ∙ (leads q.0 q.1 ∙ (a ∙ ap (λ h. make finite h (map q.0 kids.items)) w.1))),
      )
  one-set (Open fs) e h = cc

  -- types of the unknowns by which the type is no row with these labels
  Others : List Id → Type 0
  Others ls = (τ : Assignment finite) × Meets finite ns τ × Permits Rigidity s (through finite us τ) × ((ts : O.MlTypes Name) → τ r ≡ O.app (O.row ls) ts → ⊥)

  stands-permit : Permits Rigidity s (through finite us (solution ns (stand_ins g.limits) k.whole.rank.rank))
  unfolding Permits
  stands-permit =
      let w = k.whole in
      (solution ns (stand_ins g.limits) w.rank.rank, solution-meets ns (stand_ins g.limits) w.rank.rank w.rank.ranked, λ l p. stands-keep l u ns g.limits w.rank.rank d w.rank.ranked w.closed w.fit, λ v l. refl)

  others : (x : Node) (ls : List Id) → node_at ns r ≡ x → IsRootNode x → r < length ns → has_labels x ≡ false → Others ls
  unfolding Others
  others Unknown ls e f i h =
      let w = k.whole in
      let n = stand-named (limit_at g.limits r).variables in
      let σ = solution ns (stand_ins g.limits) w.rank.rank in
      (σ, solution-meets ns (stand_ins g.limits) w.rank.rank w.rank.ranked, stands-permit, λ ts q. named-no-row n.0 ls ts (sym n.1 ∙ (sym (solution-unknown ns (stand_ins g.limits) w.rank.rank r e) ∙ q)))
  others (Link j) ls e f i h = absurd f
  others (App a kids) ls e f i h =
      let w = k.whole in
      let σ = solution ns (stand_ins g.limits) w.rank.rank in
      let m = solution-meets ns (stand_ins g.limits) w.rank.rank w.rank.ranked in
      let q : σ r ≡ make finite (head_over a (length kids.items)) (map σ kids.items) = rw e at (m r) in
      (σ, m, stands-permit, λ ts z. no-row a (length kids.items) ls h (row-head (head_over a (length kids.items)) ls (types_of (map σ kids.items)) ts (sym q ∙ z)))
  others (Open fs) ls e f i h =
      let w = k.whole in
      let o = k.owners.owned r i (λ z. subst IsKnown e z) in
      let l = fresh_label (node_labels (Open fs) ++ ls) in
      let fresh = fresh-none (node_labels (Open fs) ++ ls) in
      let q = one_row l (O.named (initial N.int)) in
      let here : IsSame ns (get_or us o.0 0) r = λ v σ m. ap σ o.2 in
      let c = choice-with u us g b k d o.0 o.1 r here q in
      let σ = types-with u us g b k d o.0 o.1 r here q in
      let more : lookup l (components (σ r)) ≡ Some (O.named (initial N.int)) = solution-more ns c w.rank r l (O.named (initial N.int)) (Open fs) e (λ z. z) (with-here u us g b k d o.0 o.1 r here q) (none-front l (node_labels (Open fs)) ls fresh) in (
        σ,
        solution-meets ns c w.rank.rank w.rank.ranked,
        with-permits u us g b k d o.0 o.1 r here q (λ j. one-meets j u (limit_at g.limits r) fs l (subst (IsFitNode j u (limit_at g.limits r)) e (w.fit j r))),
        λ ts z. found-or-not l (O.app (O.row ls) ts) (σ r) (O.named (initial N.int)) (sym z) (component-head l (O.row ls) ts (none-back l (node_labels (Open fs)) ls fresh)) more,
      )

  pub several : IsRootNode (node_at ns r) → r < length ns → has_labels (node_at ns r) ≡ false → HasOneSetOfLabels Rigidity s t → ⊥
  unfolding HasOneSetOfLabels Others
  several f i h o =
      let w = others (node_at ns r) o.0 refl f i h in
      let x = o.1 (through finite us w.0) w.2 in
      w.3 (types_of x.0) (sym (leads w.0 w.1) ∙ x.1)
