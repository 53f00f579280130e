-- Unknowns that may be one of several initial names.
use Rattle.std.proofs.Common.{◌≡◌, ◌≢◌, ℕ, ◌<◌, ◌⊎◌, inl, inr, Bool, true, false, ◌&&◌, ◌||◌, not, Option, Some, None, List, [], ◌∷◌, length, map, get_or, sym, ◌∙◌, ap, subst, refl}
use Rattle.std.specs.Bool.{OnTrue, OnFalse}
use Rattle.smallvec.specs.SmallVec.{SmallVec}
use Rattle.sml_objects.specs.Names as N
use Rattle.sml_objects.specs.Initial.{Name, initial, naming}
use Rattle.sml_objects.specs.Equality.{admits, all_admit_by}
use Rattle.sml_objects.specs.Objects as O
use Rattle.sml_objects.specs.Objects.{types_of}
use Rattle.sml_layers.specs.declared.class.Names.{Names}
use Rattle.sml_graph.specs.declared.graph.Graph.{Graph}
use Rattle.sml_layers.specs.declared.layer.Layer.{Layer}
use Rattle.sml_layers.specs.declared.layer.Layer.TheVariants.{Equations, Finiteness, Newness, Locality, Equality, Classes, Rigidity}
use Rattle.sml_graph.specs.declared.limits.Limit.{Limit}
use Rattle.sml_graph.specs.declared.node.Head.{Head}
use Rattle.sml_graph.specs.declared.node.Node.{Node}
use Rattle.sml_graph.specs.declared.node.Node.TheVariants.{Unknown, Link, App, Open}
use Rattle.sml_graph.specs.declared.variables.Variables.{Variables}
use Rattle.sml_graph.specs.declared.variables.Variables.TheVariants as V
use Rattle.sml_layers.specs.Worlds.{finite, make}
use Rattle.sml_graph.specs.Worlds.{Assignment}
use Rattle.sml_graph.specs.Graphs.{node_at, head_over, Agrees, Meets, IsSame, IsRootNode}
use Rattle.sml_graph.specs.Interned.{through}
use Rattle.sml_graph.specs.Bounds.{IsWithin, AreWithin}
use Rattle.sml_layers.specs.Classes.{allows, has_several}
use Rattle.sml_graph.specs.Limits.{limit_at, MeetsBound, MeetsEquality, MeetsClass, MeetsAt, KeepsAt, IsFitNode}
use Rattle.sml_graph.specs.Variables.{MeetsVariables, IsPossible, stand_in}
use Rattle.sml_graph.specs.Asked.{asked_of, Permits}
use Rattle.sml_demands.specs.Overloaded.{IsOverloaded, is_several}
use Rattle.sml_graph.specs.CodeWhole.{IsKept}
use Rattle.sml_graph.proofs.Merging.{same_or_not}
use Rattle.sml_graph.proofs.Asking.{and-left, and-right, admits-named, row-admits, bound-initial, stands-meets}
use Rattle.sml_graph.proofs.Ranking.{solution, solution-meets, solution-unknown, solution-keeps, loose-possible}
use Rattle.sml_graph.proofs.Wholeness.{last}

-- the names that are left

pub or-cases : (a b : Bool) → (a || b) ≡ true → (a ≡ true) ⊎ (b ≡ true)
or-cases true b e = inl refl
or-cases false b e = inr e

pub or-neither : (a b : Bool) → (a || b) ≡ false → (a ≡ false) × (b ≡ false)
or-neither true b e = cc
or-neither false b e = (refl, e)

is-off : (e : Bool) → not e ≡ true → e ≡ false
is-off true q = cc
is-off false q = refl

pub int-admits : (e : Bool) → MeetsEquality e (O.named (initial N.int))
unfolding all_admit_by
int-admits false = tt
int-admits true = admits-named (initial N.int) [] ∙ refl

word-admits : (e : Bool) → MeetsEquality e (O.named (initial N.word))
unfolding all_admit_by
word-admits false = tt
word-admits true = admits-named (initial N.word) [] ∙ refl

string-admits : (e : Bool) → MeetsEquality e (O.named (initial N.string))
unfolding all_admit_by
string-admits false = tt
string-admits true = admits-named (initial N.string) [] ∙ refl

real-admits-not : admits naming (O.named (initial N.real)) ≡ true → ⊥
unfolding all_admit_by
real-admits-not e = let f : false ≡ true = sym (admits-named (initial N.real) []) ∙ e in cc

another : (c : Names) (e : Bool) → has_several (Some c) e ≡ true → (k : N.Initial) × (allows c k ≡ true) × MeetsEquality e (O.named (initial k)) × (N.int ≢ k)
another c e h =
    elim (or-cases c.word (c.text || (c.real && not e)) h) [
      | inl p ↦ (N.word, p, word-admits e, λ q. cc)
      | inr p ↦
          elim (or-cases c.text (c.real && not e) p) [
            | inl q ↦ (N.string, q, string-admits e, λ q. cc)
            | inr q ↦ (N.real, and-left c.real (not e) q, subst (λ b. MeetsEquality b (O.named (initial N.real))) (sym (is-off e (and-right c.real (not e) q))) tt, λ q. cc)
          ]
    ]

no-real : (r e : Bool) → (r && not e) ≡ false → r ≡ true → MeetsEquality e (O.named (initial N.real)) → ⊥
no-real true true h p w = real-admits-not w
no-real true false h p w = cc
no-real false e h p w = cc

pub only-int : (c : Names) (e : Bool) (k : N.Initial) → has_several (Some c) e ≡ false → allows c k ≡ true → MeetsEquality e (O.named (initial k)) → k ≡ N.int
only-int c e N.int h p w = refl
only-int c e N.word h p w = let n = (or-neither c.word (c.text || (c.real && not e)) h).0 in let z : false ≡ true = sym n ∙ p in cc
only-int c e N.char h p w = let n = (or-neither c.text (c.real && not e) (or-neither c.word (c.text || (c.real && not e)) h).1).0 in let z : false ≡ true = sym n ∙ p in cc
only-int c e N.string h p w = let n = (or-neither c.text (c.real && not e) (or-neither c.word (c.text || (c.real && not e)) h).1).0 in let z : false ≡ true = sym n ∙ p in cc
only-int c e N.bool h p w = let z : false ≡ true = p in cc
only-int c e N.exn h p w = let z : false ≡ true = p in cc
only-int c e N.real h p w = absurd (no-real c.real e (or-neither c.text (c.real && not e) (or-neither c.word (c.text || (c.real && not e)) h).1).1 p w)
only-int c e N.list h p w = let z : false ≡ true = p in cc
only-int c e N.ref h p w = let z : false ≡ true = p in cc

-- types that are as asked

no-variables : (v : Variables) (e : Bool) (c : Names) (t : O.MlType Name) → IsPossible v e (Some c) → MeetsVariables v t
no-variables V.Any e c t p = tt
no-variables (V.One x) e c t p = absurd p
no-variables V.Several e c t p = absurd p

name-meets : (l : Layer) (u : ℕ) (a : Limit) (c : Names) (k : N.Initial) → a.class ≡ Some c → IsPossible a.variables a.equality a.class → allows c k ≡ true → MeetsEquality a.equality (O.named (initial k)) → MeetsAt l u a (O.named (initial k))
name-meets Equations u a c k e p q w = tt
name-meets Finiteness u a c k e p q w = tt
name-meets Newness u a c k e p q w = bound-initial u a.newness k
name-meets Locality u a c k e p q w = bound-initial u a.locality k
name-meets Equality u a c k e p q w = w
name-meets Classes u a c k e p q w = rw e (k, q, refl)
name-meets Rigidity u a c k e p q w = no-variables a.variables a.equality c (O.named (initial k)) (rw e at p)

abbrev pub unit : O.MlType Name
unit = O.app (O.row []) O.no_type

pub bound-unit : (u : ℕ) (a : Option ℕ) → MeetsBound u a unit
unfolding IsWithin AreWithin
bound-unit u None = tt
bound-unit u (Some n) = (tt, tt)

pub equality-unit : (e : Bool) → MeetsEquality e unit
unfolding all_admit_by
equality-unit false = tt
equality-unit true = row-admits [] [] ∙ refl

unit-meets : (l : Layer) (u : ℕ) (a : Limit) → a.class ≡ None → a.variables ≡ V.Any → MeetsAt l u a unit
unit-meets Equations u a e f = tt
unit-meets Finiteness u a e f = tt
unit-meets Newness u a e f = bound-unit u a.newness
unit-meets Locality u a e f = bound-unit u a.locality
unit-meets Equality u a e f = equality-unit a.equality
unit-meets Classes u a e f = rw e tt
unit-meets Rigidity u a e f = rw f tt

-- an unknown with a type, and all others with types that are as asked

module _ (u : ℕ) (us : List ℕ) (g : Graph) (b : Bool) (k : IsKept u g us) (d : 0 ≡ u → ⊥) (v : ℕ) (h : v < length us) (r : ℕ) (same : IsSame g.nodes.items (get_or us v 0) r) where
  abbrev pub choice-with : O.MlType Name → Assignment finite
  choice-with t i = elim (same_or_not i r) [ inl _ ↦ t | inr _ ↦ stand_in (limit_at g.limits i).variables ]

  pub with-here : (t : O.MlType Name) → choice-with t r ≡ t
  with-here t = elim (same_or_not r r) as (λ s. elim s as (λ _. O.MlType Name) [ inl _ ↦ t | inr _ ↦ stand_in (limit_at g.limits r).variables ] ≡ t) [ inl _ ↦ refl | inr n ↦ absurd (n refl) ]

  pub with-there : (t : O.MlType Name) (i : ℕ) → i ≢ r → choice-with t i ≡ stand_in (limit_at g.limits i).variables
  with-there t i n = elim (same_or_not i r) as (λ s. elim s as (λ _. O.MlType Name) [ inl _ ↦ t | inr _ ↦ stand_in (limit_at g.limits i).variables ] ≡ stand_in (limit_at g.limits i).variables) [ inl e ↦ absurd (n e) | inr _ ↦ refl ]

  abbrev pub types-with : O.MlType Name → Assignment finite
  types-with t = solution g.nodes.items (choice-with t) k.whole.rank.rank

  pub with-keeps : (t : O.MlType Name) → ((l : Layer) → MeetsAt l u (limit_at g.limits r) t) → (l : Layer) → KeepsAt l u g.limits (types-with t)
  with-keeps t m l =
      let w = k.whole in
      solution-keeps l u g.nodes.items g.limits (choice-with t) w.rank.rank w.rank.ranked w.closed (w.fit l) (λ i e.
      elim (same_or_not i r) [
        | inl q ↦ subst (λ i. MeetsAt l u (limit_at g.limits i) (choice-with t i)) (sym q) (rw (with-here t) (m l))
        | inr n ↦ rw (with-there t i n) (stands-meets l u (limit_at g.limits i) d (loose-possible u (limit_at g.limits i) (node_at g.nodes.items i) e (w.fit Rigidity i)))
      ])

  pub with-permits : (t : O.MlType Name) → ((l : Layer) → MeetsAt l u (limit_at g.limits r) t) → Permits Rigidity (asked_of u us g b) (through finite us (types-with t))
  unfolding Permits
  with-permits t m = (types-with t, solution-meets g.nodes.items (choice-with t) k.whole.rank.rank k.whole.rank.ranked, λ l p. with-keeps t m l, λ v l. refl)

  pub with-type : (t : O.MlType Name) → node_at g.nodes.items r ≡ Unknown → through finite us (types-with t) v ≡ t
  with-type t e = same finite (types-with t) (solution-meets g.nodes.items (choice-with t) k.whole.rank.rank k.whole.rank.ranked) ∙ (solution-unknown g.nodes.items (choice-with t) k.whole.rank.rank r e ∙ with-here t)

  type-of : (σ : Assignment finite) → Permits Rigidity (asked_of u us g b) σ → (τ : Assignment finite) × Meets finite g.nodes.items τ × ((l : Layer) → MeetsAt l u (limit_at g.limits r) (τ r)) × (σ v ≡ τ r)
  unfolding Permits
  type-of σ p = (p.0, p.1, λ l. p.2 l (last l) r, sym (p.3 v h) ∙ same finite p.0 p.1)

  -- a name other than int
  pub two-names : (c : Option Names) → (limit_at g.limits r).class ≡ c → node_at g.nodes.items r ≡ Unknown → has_several c (limit_at g.limits r).equality ≡ true
      → (j : N.Initial) × (N.int ≢ j) × ((l : Layer) → MeetsAt l u (limit_at g.limits r) (O.named (initial N.int))) × ((l : Layer) → MeetsAt l u (limit_at g.limits r) (O.named (initial j)))
  two-names None q e s = cc
  two-names (Some c) q e s =
      let a = limit_at g.limits r in
      let p : IsPossible a.variables a.equality a.class = subst (IsFitNode Rigidity u a) e (k.whole.fit Rigidity r) in
      let o = another c a.equality s in
      (o.0, o.3, λ l. name-meets l u a c N.int q p refl (int-admits a.equality), λ l. name-meets l u a c o.0 q p o.1 o.2)

  pub with-apart : (j : N.Initial) → N.int ≢ j → node_at g.nodes.items r ≡ Unknown → through finite us (types-with (O.named (initial N.int))) v ≢ through finite us (types-with (O.named (initial j))) v
  with-apart j n e z =
      let f : O.named (initial N.int) ≡ O.named (initial j) = sym (with-type (O.named (initial N.int)) e) ∙ (z ∙ with-type (O.named (initial j)) e) in
      let y : N.int ≡ j = cc in
      n y

  several-yes : (c : Option Names) → (limit_at g.limits r).class ≡ c → node_at g.nodes.items r ≡ Unknown → has_several c (limit_at g.limits r).equality ≡ true → IsOverloaded (asked_of u us g b) v
  several-yes None q e s = cc
  several-yes (Some c) q e s =
      let o = two-names (Some c) q e s in
      record {
        named_so = λ σ y. let t = type-of σ y in let w : MeetsClass (Some c) (t.0 r) = rw q at (t.2 Classes) in (w.0, t.3 ∙ w.2);
        one = through finite us (types-with (O.named (initial N.int)));
        other = through finite us (types-with (O.named (initial o.0)));
        may_be_one = with-permits (O.named (initial N.int)) o.2;
        may_be_other = with-permits (O.named (initial o.0)) o.3;
        apart = with-apart o.0 o.1 e;
      }

  -- Where no more than one name is left, no two types that are permitted differ as names, though the unknown could be the empty row if it may be anything.
  module _ (one other : Assignment finite) (p : Permits Rigidity (asked_of u us g b) one) (q : Permits Rigidity (asked_of u us g b) other) (apart : one v ≢ other v) (named_so : (j : N.Initial) × (one v ≡ O.named (initial j))) where
    unknown-apart : (c : Option Names) (x : Variables) → (limit_at g.limits r).class ≡ c → (limit_at g.limits r).variables ≡ x → node_at g.nodes.items r ≡ Unknown → has_several c (limit_at g.limits r).equality ≡ false
        → (Permits Rigidity (asked_of u us g b) (through finite us (types-with unit)) → (j : N.Initial) × (through finite us (types-with unit) v ≡ O.named (initial j))) → ⊥
    unknown-apart None V.Any y z e s f =
        let m : (l : Layer) → MeetsAt l u (limit_at g.limits r) unit = (λ l. unit-meets l u (limit_at g.limits r) y z) in
        let n = f (with-permits unit m) in
        let w : unit ≡ O.named (initial n.0) = sym (with-type unit e) ∙ n.1 in
        cc
    unknown-apart None (V.One x) y z e s f =
        let t = type-of one p in
        let w : MeetsVariables (V.One x) (t.0 r) = rw z at (t.2 Rigidity) in
        let n : O.named (initial named_so.0) ≡ _ = sym named_so.1 ∙ (t.3 ∙ w) in
        cc
    unknown-apart None V.Several y z e s f = let t = type-of one p in rw z at (t.2 Rigidity)
    unknown-apart (Some c) x y z e s f =
        let a = limit_at g.limits r in
        let ints : (σ : Assignment finite) → Permits Rigidity (asked_of u us g b) σ → σ v ≡ O.named (initial N.int) = (λ σ p.
        let t = type-of σ p in
        let w : MeetsClass (Some c) (t.0 r) = rw y at (t.2 Classes) in
        let f = only-int c a.equality w.0 s w.1 (subst (MeetsEquality a.equality) w.2 (t.2 Equality)) in
        t.3 ∙ (w.2 ∙ ap (λ k. O.named (initial k)) f)) in
        apart (ints one p ∙ sym (ints other q))

    app-apart : (x : Head) (kids : SmallVec ℕ) → node_at g.nodes.items r ≡ App x kids → ⊥
    app-apart x kids e =
        let t = type-of one p in
        let z = type-of other q in
        let f : t.0 r ≡ make finite (head_over x (length kids.items)) (map t.0 kids.items) = rw e at (t.1 r) in
        let y : z.0 r ≡ make finite (head_over x (length kids.items)) (map z.0 kids.items) = rw e at (z.1 r) in
        let w : O.app (head_over x (length kids.items)) (types_of (map t.0 kids.items)) ≡ O.app (O.name (initial named_so.0)) O.no_type = sym f ∙ (sym t.3 ∙ named_so.1) in
        let j : types_of (map t.0 kids.items) ≡ O.no_type = cc in
        apart (t.3 ∙ (f ∙ (ap (λ ts. O.app (head_over x (length kids.items)) ts) (none-alike t.0 z.0 kids.items j) ∙ (sym y ∙ sym z.3)))) where
          none-alike : (σ τ : Assignment finite) (is : List ℕ) → types_of (map σ is) ≡ O.no_type → types_of (map σ is) ≡ types_of (map τ is)
          none-alike σ τ [] q = refl
          none-alike σ τ (i ∷ is) q = cc

    pub node-apart : (x : Node) → node_at g.nodes.items r ≡ x → IsRootNode x → is_several x (limit_at g.limits r) ≡ false
        → (Permits Rigidity (asked_of u us g b) (through finite us (types-with unit)) → (j : N.Initial) × (through finite us (types-with unit) v ≡ O.named (initial j))) → ⊥
    node-apart Unknown e root s f = unknown-apart (limit_at g.limits r).class (limit_at g.limits r).variables refl refl e s f
    node-apart (Link j) e root s f = absurd root
    node-apart (App x kids) e root s f = app-apart x kids e
    node-apart (Open fs) e root s f =
        let t = type-of one p in
        let a : Agrees finite t.0 r (Open fs) = rw e at (t.1 r) in
        let w : O.app (O.row a.labels) (types_of a.types) ≡ O.app (O.name (initial named_so.0)) O.no_type = sym a.is_row ∙ (sym t.3 ∙ named_so.1) in
        cc

  pub overloaded-yes : (x : Node) → node_at g.nodes.items r ≡ x → is_several x (limit_at g.limits r) ≡ true → IsOverloaded (asked_of u us g b) v
  overloaded-yes Unknown e s = several-yes (limit_at g.limits r).class refl e s
  overloaded-yes (Link j) e s = cc
  overloaded-yes (App x kids) e s = cc
  overloaded-yes (Open fs) e s = cc

  pub overloaded-no : IsRootNode (node_at g.nodes.items r) → is_several (node_at g.nodes.items r) (limit_at g.limits r) ≡ false → IsOverloaded (asked_of u us g b) v → ⊥
  overloaded-no root s o = node-apart o.one o.other o.may_be_one o.may_be_other o.apart (o.named_so o.one o.may_be_one) (node_at g.nodes.items r) refl root s (o.named_so (through finite us (types-with unit)))

  pub overloaded-if : (s : Bool) → s ≡ is_several (node_at g.nodes.items r) (limit_at g.limits r) → OnTrue s (IsOverloaded (asked_of u us g b) v)
  overloaded-if true e = overloaded-yes (node_at g.nodes.items r) refl (sym e)
  overloaded-if false e = tt

  pub overloaded-only-if : (s : Bool) → IsRootNode (node_at g.nodes.items r) → s ≡ is_several (node_at g.nodes.items r) (limit_at g.limits r) → OnFalse s (IsOverloaded (asked_of u us g b) v → ⊥)
  overloaded-only-if true root e = tt
  overloaded-only-if false root e = overloaded-no root (sym e)
