-- Two answers to one script differ in the names that were made, and in nothing else.
use Rattle.std.specs.Prelude.{◌≡◌, ◌++◌, ℕ, Bool, true, false, cond, List, [], ◌∷◌, length, drop}
use Rattle.std.specs.List.{AllByRecursion}
use Rattle.std.proofs.Common.{arith}
use mathlib.Core.Path.{refl, sym, ap, subst, ◌∙◌}
use mathlib.Core.Logic.{inl, inr}
use mathlib.Core.List.{map}
use std.Path.{PathP, to_path_p}
use Rattle.sml_tree.specs.Expressions.{DatBind}
use Rattle.sml_objects.specs.Equality.{has_equality}
use Rattle.sml_objects.specs.Appearance.{Stands}
use Rattle.sml_objects.specs.Names.{Naming, Attributes, Initial, int}
use Rattle.sml_objects.specs.Objects.{MlType, Scheme, free}
use Rattle.sml_layers.specs.declared.layer.Layer.TheVariants.{Finiteness, Rigidity}
use Rattle.sml_layers.specs.declared.variable.Variable.{Variable}
use Rattle.sml_layers.specs.Demands.{CanBeMet}
use Rattle.sml_layers.specs.Layers.{code_of}
use Rattle.sml_lex.specs.Faults.{Fault}
use Rattle.sml_objects.proofs.Standing.{left, right}
use Rattle.sml_rules.specs.Answers.{Answer, refused, accepted, fault}
use Rattle.sml_core_rules.specs.Objects.{Env, names_env, empty}
use Rattle.sml_core_rules.specs.States.{Scope, State, words, AreMade, with_unknowns, with_made, with_demand, with_window, with_judged, opened, afresh}
use Rattle.sml_core_rules.specs.Solutions.{Meets, IsScheme, IsAlways}
use Rattle.sml_core_rules.specs.Datatypes.{Arguments, AreNew, AdmitAsManyAsCan, with_names, arguments_of}
use Rattle.sml_core_rules.specs.Scripts.{Script, give, refuse, tests, either, makes_unknowns, requires, sees, sets_window, stays_open, judges, starts_anew, requires_or, closes, determines, makes_names, makes_datatypes, IsAnswer}
use Rattle.sml_core_rules.proofs.Accepted.{met-afresh}
use Rattle.sml_core_rules.proofs.Along.{Become, become-list, become-left, become-right, become-known}
use Rattle.sml_core_rules.proofs.Flags.{value_of, same-fault, not-both, becomes, become-others, follows, equal-lists, equal-kinds, new-count, same-count}
use Rattle.sml_core_rules.proofs.Lower.{lower, can-lower, one-layer}
use Rattle.sml_core_rules.proofs.Schemes.{one-scheme}
use Rattle.sml_core_rules.proofs.Swap.{Apart, IsPlain, swap, plain-step, scope-step}

-- what is chosen where a script goes on: whether a condition holds, a scheme, a type, names, and the arguments of constructors
pub record Choice (N : Type 0) : Type 0 where
  pub holds : Bool
  pub scheme : Scheme N
  pub type : MlType N
  pub names : List N
  pub arguments : List (Arguments N)

abbrev pub nothing : {N : Type 0} → Choice N
nothing = record { holds = true; scheme = record { variables = []; body = free 0 }; type = free 0; names = []; arguments = [] }

module _ {P N X : Type 0} where
  unfoldable pub next : Choice N → Script P N X → State P N → Script P N X
  next c (give x) s = give x
  next c (refuse f) s = refuse f
  next c (tests C f k) s = k
  next c (either C k j) s = cond c.holds k j
  next c (makes_unknowns n k) s = k s.made
  next c (requires d p k) s = k
  next c (sees k) s = k s
  next c (sets_window w k) s = k
  next c (stays_open k) s = k
  next c (judges j k) s = k
  next c (starts_anew k) s = k
  next c (requires_or d f k) s = k
  next c (closes n x t k) s = k c.scheme
  next c (determines t f k) s = k c.type
  next c (makes_names ws k) s = k c.names
  next c (makes_datatypes C ds k) s = k c.names c.arguments

  later : Choice N → Script P N X → State P N → State P N
  later c (give x) s = s
  later c (refuse f) s = s
  later c (tests C f k) s = s
  later c (either C k j) s = s
  later c (makes_unknowns n k) s = with_unknowns n s
  later c (requires d p k) s = with_demand d s
  later c (sees k) s = s
  later c (sets_window w k) s = with_window w s
  later c (stays_open k) s = opened s
  later c (judges j k) s = with_judged j s
  later c (starts_anew k) s = afresh s
  later c (requires_or d f k) s = with_demand d s
  later c (closes n x t k) s = s
  later c (determines t f k) s = s
  later c (makes_names ws k) s = with_made c.names s
  later c (makes_datatypes C ds k) s = with_made c.names s

  -- what a script closes or determines, and the datatypes that it makes

  closing : Script P N X → ℕ × Bool × MlType N
  closing (give x) = (0, false, free 0)
  closing (refuse f) = (0, false, free 0)
  closing (tests C f k) = (0, false, free 0)
  closing (either C k j) = (0, false, free 0)
  closing (makes_unknowns n k) = (0, false, free 0)
  closing (requires d p k) = (0, false, free 0)
  closing (sees k) = (0, false, free 0)
  closing (sets_window w k) = (0, false, free 0)
  closing (stays_open k) = (0, false, free 0)
  closing (judges j k) = (0, false, free 0)
  closing (starts_anew k) = (0, false, free 0)
  closing (requires_or d f k) = (0, false, free 0)
  closing (closes n x t k) = (n, x, t)
  closing (determines t f k) = (0, false, t)
  closing (makes_names ws k) = (0, false, free 0)
  closing (makes_datatypes C ds k) = (0, false, free 0)

  unfoldable pub making : Script P N X → Env N × List (DatBind P)
  making (give x) = (empty, [])
  making (refuse f) = (empty, [])
  making (tests C f k) = (empty, [])
  making (either C k j) = (empty, [])
  making (makes_unknowns n k) = (empty, [])
  making (requires d p k) = (empty, [])
  making (sees k) = (empty, [])
  making (sets_window w k) = (empty, [])
  making (stays_open k) = (empty, [])
  making (judges j k) = (empty, [])
  making (starts_anew k) = (empty, [])
  making (requires_or d f k) = (empty, [])
  making (closes n x t k) = (empty, [])
  making (determines t f k) = (empty, [])
  making (makes_names ws k) = (empty, [])
  making (makes_datatypes C ds k) = (C, ds)

  -- what it goes on with, where it makes these names
  abbrev pub chosen : Script P N X → List N → Choice N
  chosen k ns = record nothing { names = ns; arguments = value_of (arguments_of (making k).0 (making k).1 ns) }

-- new names are apart, and plain

made-apart : {N : Type 0} (scope : Scope N) (ws : List Attributes) (old ns : List N) → AreMade scope old ws ns → Apart old ns
unfolding AreMade Apart
made-apart scope [] old ns h = subst (Apart old) (sym h) tt
made-apart scope (w ∷ ws) old ns (n, rest, o, i, a, h, e) = subst (Apart old) (sym e) (o, made-apart scope ws (n ∷ old) rest h)

made-kinds : {N : Type 0} (scope : Scope N) (ws : List Attributes) (old more ns ms : List N) → AreMade scope old ws ns → AreMade scope more ws ms
    → map scope.names.attributes ns ≡ map scope.names.attributes ms
unfolding AreMade
made-kinds scope [] old more ns ms h k = ap (map scope.names.attributes) (h ∙ sym k)
made-kinds scope (w ∷ ws) old more ns ms (n, rest, o, i, a, h, e) (m, others, o', i', a', k, f) =
    let one = a ∙ sym a' in
    let all = made-kinds scope ws (n ∷ old) (m ∷ more) rest others h k in
    ap (map scope.names.attributes) e ∙ ((λ j. one j ∷ all j) ∙ sym (ap (map scope.names.attributes) f))

new-apart : {P N : Type 0} (names : Naming N) (ds : List (DatBind P)) (old ns : List N) → AreNew names old ds ns → Apart old ns
unfolding AreNew Apart
new-apart names [] old ns h = subst (Apart old) (sym h) tt
new-apart names (d ∷ ds) old ns (n, rest, o, i, a, c, h, e) = subst (Apart old) (sym e) (o, new-apart names ds (n ∷ old) rest h)

module _ {P N : Type 0} (scope : Scope N) (far : (x : Variable) → ¬ ((scope.names.attributes (scope.variable x)).maker ≡ scope.unit)) where
  new-plain : (ds : List (DatBind P)) (old ns : List N) → AreNew scope.names old ds ns → AllByRecursion (λ n. (scope.names.attributes n).maker ≡ scope.unit) ns
      → AllByRecursion (IsPlain scope) ns
  unfolding AreNew
  new-plain [] old ns h m = subst (AllByRecursion (IsPlain scope)) (sym h) tt
  new-plain (d ∷ ds) old ns (n, rest, o, i, a, c, h, e) m =
      let m' = subst (AllByRecursion (λ n. (scope.names.attributes n).maker ≡ scope.unit)) e m in
      subst (AllByRecursion (IsPlain scope)) (sym e) ((i, (λ x f. far x (ap (λ k. (scope.names.attributes k).maker) f ∙ m'.0))), new-plain ds (n ∷ old) rest h m'.1)

module _ {N : Type 0} (scope : Scope N) (far : (x : Variable) → ¬ ((scope.names.attributes (scope.variable x)).maker ≡ scope.unit)) where
  made-plain : (ws : List Attributes) (old ns : List N) → AreMade scope old ws ns → AllByRecursion (IsPlain scope) ns
  unfolding AreMade
  made-plain [] old ns h = subst (AllByRecursion (IsPlain scope)) (sym h) tt
  made-plain (w ∷ ws) old ns (n, rest, o, i, a, h, e) =
      subst (AllByRecursion (IsPlain scope)) (sym e) ((i, (λ x f. far x (ap (λ k. (scope.names.attributes k).maker) f ∙ ap (λ w. w.maker) a))), made-plain ws (n ∷ old) rest h)

only-first : {N : Type 0} (scope : Scope N) (ns : List N) → AllByRecursion (IsPlain scope) ns → AllByRecursion (λ n. ¬ (scope.names.initial int ≡ n)) ns
only-first scope [] h = tt
only-first scope (n ∷ ns) h = (h.0.0 int, only-first scope ns h.1)

one-kind : {N : Type 0} (ns ms : List N) → length ns ≡ length ms → map (λ _. tt) ns ≡ map {B = Unit {0}} (λ _. tt) ms
one-kind [] [] e = refl
one-kind [] (m ∷ ms) e = absurd (omega (arith, e))
one-kind (n ∷ ns) [] e = absurd (omega (arith, e))
one-kind (n ∷ ns) (m ∷ ms) e = let f : length ns ≡ length ms = omega (arith, e) in ap (λ l. tt ∷ l) (one-kind ns ms f)

-- Two choices of names for the same datatypes, where what is asked of them is answered. One becomes the other, whatever their
-- attributes, and these turn out to be the same.
module _ {P N : Type 0} (scope : Scope N) (far : (x : Variable) → ¬ ((scope.names.attributes (scope.variable x)).maker ≡ scope.unit)) (C : Env N) (ds : List (DatBind P))
    (old : List N) (inside : (n : N) → Stands n (names_env C) → Stands n old) (initials : (j : Initial) → Stands (scope.names.initial j) old) (ns ms : List N)
    (new : AreNew scope.names old ds ns) (also : AreNew scope.names old ds ms) (made : AllByRecursion (λ n. (scope.names.attributes n).maker ≡ scope.unit) ns)
    (done : AllByRecursion (λ n. (scope.names.attributes n).maker ≡ scope.unit) ms) where
  plain : ◌≡◌ {A = (M : Type 0) × M × (List M × List M)} (N, scope.names.initial int, (old, ns)) (N, scope.names.initial int, (old, ms))
  plain =
      swap scope.names (λ M. M) (scope.names.initial int) (λ M m. m) (λ _. tt) (λ n. ¬ (scope.names.initial int ≡ n)) (plain-step scope.names (λ _. tt)) old ns ms
      (new-apart scope.names ds old ns new) (new-apart scope.names ds old ms also) (one-kind ns ms (new-count scope.names ds old ns new ∙ sym (new-count scope.names ds old ms also)))
      (only-first scope ns (new-plain scope far ds old ns new made)) (only-first scope ms (new-plain scope far ds old ms also done))

  pub faults-same : (f g : Fault P) → arguments_of C ds ns ≡ refused f → arguments_of C ds ms ≡ refused g → f ≡ g
  faults-same f g h k = same-fault scope.names C ds old inside initials ns ms plain f g h k

  pub never-both : (f : Fault P) (gs : List (Arguments N)) → arguments_of C ds ns ≡ refused f → arguments_of C ds ms ≡ accepted gs → ⊥
  never-both f gs h k = not-both scope.names C ds old inside initials ns ms plain f gs h k

  pub choices-along : (gs hs : List (Arguments N)) → arguments_of C ds ns ≡ accepted gs → arguments_of C ds ms ≡ accepted hs → AdmitAsManyAsCan scope.names (with_names ns gs)
      → AdmitAsManyAsCan scope.names (with_names ms hs) → ◌≡◌ {A = (M : Type 0) × Scope M × (List M × List M)} (N, scope, (old, ns)) (N, scope, (old, ms))
  choices-along gs hs e f a b =
      let flags =
      equal-lists (has_equality scope.names) (becomes scope.names C ds old inside initials ns ms plain) (becomes scope.names C ds old inside initials ms ns (sym plain)) ns ms
      (become-others scope.names C ds old inside initials ns ms plain) (become-others scope.names C ds old inside initials ms ns (sym plain))
      (follows scope.names C ds old inside initials ns ms plain gs hs (same-count scope.names C ds old ns gs new e) e f a b)
      (follows scope.names C ds old inside initials ms ns (sym plain) hs gs (same-count scope.names C ds old ms hs also f) f e b a) in
      swap scope.names Scope scope (λ M x. x.names.initial int) scope.names.attributes (IsPlain scope) (scope-step scope) old ns ms (new-apart scope.names ds old ns new)
      (new-apart scope.names ds old ms also) (equal-kinds scope.names scope.unit ds old old ns ms new also made done flags) (new-plain scope far ds old ns new made) (new-plain scope far ds old ms also done)

-- two choices of names of which just this may be seen
pub names-along : {N : Type 0} (scope : Scope N) → ((x : Variable) → ¬ ((scope.names.attributes (scope.variable x)).maker ≡ scope.unit)) → (ws : List Attributes) (old ns ms : List N)
    → AreMade scope old ws ns → AreMade scope old ws ms → ◌≡◌ {A = (M : Type 0) × Scope M × (List M × List M)} (N, scope, (old, ns)) (N, scope, (old, ms))
names-along scope far ws old ns ms new also =
    swap scope.names Scope scope (λ M x. x.names.initial int) scope.names.attributes (IsPlain scope) (scope-step scope) old ns ms (made-apart scope ws old ns new) (made-apart scope ws old ms also)
    (made-kinds scope ws old old ns ms new also) (made-plain scope far ws old ns new) (made-plain scope far ws old ms also)

pub dropped : {N : Type 0} (ms ns : List N) → drop (length ms) (ms ++ ns) ≡ ns
dropped [] ns = refl
dropped (m ∷ ms) ns = dropped ms ns

module _ {P : Type 0} (F : Type 0 → Type 0) {N : Type 0} (scope : Scope N) (far : (x : Variable) → ¬ ((scope.names.attributes (scope.variable x)).maker ≡ scope.unit)) where
  -- A path that leaves what may be seen of names, and these, leaves the script and the state. The initial names are known, and the
  -- demands can be met.
  pub record Settled (k : Script P N (F N)) (s : State P N) : Type 1 where
    pub script : (p : N ≡ N) → PathP (λ i. Scope (p i)) scope scope → Become p s.names s.names → PathP (λ i. Script P (p i) (F (p i))) k k
    pub state : (p : N ≡ N) → PathP (λ i. Scope (p i)) scope scope → Become p s.names s.names → PathP (λ i. State P (p i)) s s
    pub initials : (j : Initial) → Stands (scope.names.initial j) s.names
    pub met : CanBeMet (words scope) Rigidity s.demands

  abbrev pub Same : List N → Answer P (F N × State P N) → Answer P (F N × State P N) → Type 1
  Same ns o q = ◌≡◌ {A = (M : Type 0) × Scope M × List M × Answer P (F M × State P M)} (N, scope, ns, o) (N, scope, ns, q)

  shorter : (ms ns : List N) (o q : Answer P (F N × State P N)) → Same (ms ++ ns) o q → Same ns o q
  shorter ms ns o q h =
      let there : Same (drop (length ms) (ms ++ ns)) o q = λ i. ((h i).0, (h i).1, drop {A = (h i).0} (length ms) ((h i).2), (h i).3) in
      subst (λ l. Same l o q) (dropped ms ns) there

  finitely : (s : State P N) (m : CanBeMet (words scope) Rigidity s.demands) → Meets scope s Finiteness m.0
  finitely s m = lower (words scope) Finiteness Rigidity (omega arith) m.0 s.demands m.1

  before : (C : Env N) (s : State P N) (n : N) → Stands n (names_env C) → Stands n (names_env C ++ s.names)
  before C s n j = left n (names_env C) s.names j

  after : (C : Env N) {k : Script P N (F N)} (s : State P N) → Settled k s → (j : Initial) → Stands (scope.names.initial j) (names_env C ++ s.names)
  after C s h j = right (scope.names.initial j) (names_env C) s.names (h.initials j)

  -- what comes after new names is left by what leaves these too

  after-datatypes : (C : Env N) (ds : List (DatBind P)) (k : List N → List (Arguments N) → Script P N (F N)) (s : State P N) → Settled (makes_datatypes C ds k) s → (ms : List N)
      → Settled (k ms (value_of (arguments_of C ds ms))) (with_made ms s)
  unfolding next later making
  after-datatypes C ds k s h ms = record {
    script = λ p u v.
        let K = h.script p u (become-right p ms s.names v) in
        let S = h.state p u (become-right p ms s.names v) in
        let l = become-list p ms ms (become-left p ms s.names v) in λ i. next (chosen (K i) (l i)) (K i) (S i);
    state = λ p u v.
        let K = h.script p u (become-right p ms s.names v) in
        let S = h.state p u (become-right p ms s.names v) in
        let l = become-list p ms ms (become-left p ms s.names v) in λ i. later (chosen (K i) (l i)) (K i) (S i);
    initials = λ j. right (scope.names.initial j) ms s.names (h.initials j);
    met = h.met;
  }

  after-names : (ws : List Attributes) (k : List N → Script P N (F N)) (s : State P N) → Settled (makes_names ws k) s → (ms : List N) → Settled (k ms) (with_made ms s)
  unfolding next later making
  after-names ws k s h ms = record {
    script = λ p u v.
        let K = h.script p u (become-right p ms s.names v) in
        let S = h.state p u (become-right p ms s.names v) in
        let l = become-list p ms ms (become-left p ms s.names v) in λ i. next (chosen (K i) (l i)) (K i) (S i);
    state = λ p u v.
        let K = h.script p u (become-right p ms s.names v) in
        let S = h.state p u (become-right p ms s.names v) in
        let l = become-list p ms ms (become-left p ms s.names v) in λ i. later (chosen (K i) (l i)) (K i) (S i);
    initials = λ j. right (scope.names.initial j) ms s.names (h.initials j);
    met = h.met;
  }

  -- an answer after some new names becomes one after others
  carried : (k : Script P N (F N)) (s : State P N) → Settled k s → (old ns ms : List N) → ((n : N) → Stands n s.names → Stands n old)
      → ◌≡◌ {A = (M : Type 0) × Scope M × (List M × List M)} (N, scope, (old, ns)) (N, scope, (old, ms))
      → (o : Answer P (F N × State P N)) → IsAnswer scope (next (chosen k ns) k s) (later (chosen k ns) k s) o
      → (q : Answer P (F N × State P N)) × Same s.names o q × IsAnswer scope (next (chosen k ms) k s) (later (chosen k ms) k s) q
  carried k s h old ns ms inside ρ o a =
      let p : N ≡ N = λ i. (ρ i).0 in
      let u : PathP (λ i. Scope (p i)) scope scope = λ i. (ρ i).1 in
      let v : Become p s.names s.names = become-known p (scope.names.initial int) (scope.names.initial int) (λ i. (u i).names.initial int) old (λ i. (ρ i).2.0) s.names inside in
      let K = h.script p u v in
      let S = h.state p u v in
      let q : Answer P (F N × State P N) = coe 0 1 (j. Answer P (F (p j) × State P (p j))) o in
      let same : Same s.names o q = λ i. (p i, u i, (S i).names, coe 0 i (j. Answer P (F (p j) × State P (p j))) o) in
      let moved : IsAnswer scope (next (chosen k ms) k s) (later (chosen k ms) k s) q =
      coe 0 1
      (i. IsAnswer (u i) (next (chosen (K i) ((ρ i).2.1)) (K i) (S i)) (later (chosen (K i) ((ρ i).2.1)) (K i) (S i)) (coe 0 i (j. Answer P (F (p j) × State P (p j))) o)) a in
      (q, same, moved)

  pub agree : (k : Script P N (F N)) (s : State P N) → Settled k s → (o q : Answer P (F N × State P N)) → IsAnswer scope k s o → IsAnswer scope k s q → Same s.names o q
  unfolding IsAnswer IsAlways next later closing making
  agree (give x) s h o q a b = λ i. (N, scope, s.names, (a ∙ sym b) i)
  agree (refuse f) s h o q a b = λ i. (N, scope, s.names, (a ∙ sym b) i)
  agree (tests C f k) s h o q (inl a) (inl b) =
      agree k s (record { script = λ p u v i. next nothing (h.script p u v i) (h.state p u v i); state = h.state; initials = h.initials; met = h.met }) o q a.1 b.1
  agree (tests C f k) s h o q (inl a) (inr b) = absurd (b.0 a.0)
  agree (tests C f k) s h o q (inr a) (inl b) = absurd (a.0 b.0)
  agree (tests C f k) s h o q (inr a) (inr b) = λ i. (N, scope, s.names, (a.1 ∙ sym b.1) i)
  agree (either C k j) s h o q (inl a) (inl b) =
      agree k s (record { script = λ p u v i. next nothing (h.script p u v i) (h.state p u v i); state = h.state; initials = h.initials; met = h.met }) o q a.1 b.1
  agree (either C k j) s h o q (inl a) (inr b) = absurd (b.0 a.0)
  agree (either C k j) s h o q (inr a) (inl b) = absurd (a.0 b.0)
  agree (either C k j) s h o q (inr a) (inr b) =
      agree j s (record { script = λ p u v i. next (record nothing { holds = false }) (h.script p u v i) (h.state p u v i); state = h.state; initials = h.initials; met = h.met }) o q a.1 b.1
  agree (makes_unknowns n k) s h o q a b =
      agree (k s.made) (with_unknowns n s)
      (record { script = λ p u v i. next nothing (h.script p u v i) (h.state p u v i); state = λ p u v i. later nothing (h.script p u v i) (h.state p u v i); initials = h.initials; met = h.met }) o q a b
  agree (requires d p k) s h o q (inl a) (inl b) =
      agree k (with_demand d s)
      (record {
        script = λ r u v i. next nothing (h.script r u v i) (h.state r u v i);
        state = λ r u v i. later nothing (h.script r u v i) (h.state r u v i);
        initials = h.initials;
        met = a.0;
      }) o q a.1 b.1
  agree (requires d p k) s h o q (inl a) (inr b) = absurd (b.1.0 (can-lower (words scope) b.0 (d ∷ s.demands) a.0))
  agree (requires d p k) s h o q (inr a) (inl b) = absurd (a.1.0 (can-lower (words scope) a.0 (d ∷ s.demands) b.0))
  agree (requires d p k) s h o q (inr a) (inr b) =
      let e = one-layer (words scope) a.0 b.0 (d ∷ s.demands) a.1 b.1 in
      λ i. (N, scope, s.names, (a.2 ∙ (ap (λ l. refused (fault (code_of l) p)) e ∙ sym b.2)) i)
  agree (sees k) s h o q a b =
      agree (k s) s (record { script = λ p u v i. next nothing (h.script p u v i) (h.state p u v i); state = h.state; initials = h.initials; met = h.met }) o q a b
  agree (sets_window w k) s h o q a b =
      agree k (with_window w s)
      (record { script = λ p u v i. next nothing (h.script p u v i) (h.state p u v i); state = λ p u v i. later nothing (h.script p u v i) (h.state p u v i); initials = h.initials; met = h.met }) o q a b
  agree (stays_open k) s h o q a b =
      agree k (opened s)
      (record { script = λ p u v i. next nothing (h.script p u v i) (h.state p u v i); state = λ p u v i. later nothing (h.script p u v i) (h.state p u v i); initials = h.initials; met = h.met }) o q a b
  agree (judges j k) s h o q a b =
      agree k (with_judged j s)
      (record { script = λ p u v i. next nothing (h.script p u v i) (h.state p u v i); state = λ p u v i. later nothing (h.script p u v i) (h.state p u v i); initials = h.initials; met = h.met }) o q a b
  agree (starts_anew k) s h o q a b =
      agree k (afresh s)
      (record {
        script = λ p u v i. next nothing (h.script p u v i) (h.state p u v i);
        state = λ p u v i. later nothing (h.script p u v i) (h.state p u v i);
        initials = h.initials;
        met = met-afresh scope s h.met;
      }) o q a b
  agree (closes n x t k) s h o q (σ, a, c) (τ, b, d) =
      let e : σ ≡ τ = one-scheme scope s h.met.0 (finitely s h.met) n x t σ τ a b in
      agree (k σ) s
      (record { script = λ p u v i. next (record nothing { scheme = scheme-along p u v i }) (h.script p u v i) (h.state p u v i); state = h.state; initials = h.initials; met = h.met })
      o q c (subst (λ τ. IsAnswer scope (k τ) s q) (sym e) d)
    where
      scheme-along : (p : N ≡ N) → PathP (λ i. Scope (p i)) scope scope → Become p s.names s.names → PathP (λ i. Scheme (p i)) σ σ
      scheme-along p u v =
          let K = h.script p u v in
          let S = h.state p u v in
          let moved : IsScheme scope s n x t (coe 0 1 (i. Scheme (p i)) σ) =
          coe 0 1 (i. IsScheme (u i) (S i) (closing (K i)).0 (closing (K i)).1 (closing (K i)).2 (coe 0 i (j. Scheme (p j)) σ)) a in
          to_path_p (λ i. Scheme (p i)) (one-scheme scope s h.met.0 (finitely s h.met) n x t _ σ moved a)
  agree (makes_datatypes C ds k) s h o q (ns, new, made, inl a) (ms, also, done, inl b) =
      let e = faults-same scope far C ds (names_env C ++ s.names) (before C s) (after C s h) ns ms new also made done a.0 b.0 a.1 b.1 in λ i. (N, scope, s.names, (a.2 ∙ (ap refused e ∙ sym b.2)) i)
  agree (makes_datatypes C ds k) s h o q (ns, new, made, inl a) (ms, also, done, inr b) =
      absurd (never-both scope far C ds (names_env C ++ s.names) (before C s) (after C s h) ns ms new also made done a.0 b.0 a.1 b.1)
  agree (makes_datatypes C ds k) s h o q (ns, new, made, inr a) (ms, also, done, inl b) =
      absurd (never-both scope far C ds (names_env C ++ s.names) (before C s) (after C s h) ms ns also new done made b.0 a.0 b.1 a.1)
  agree (makes_datatypes C ds k) s h o q (ns, new, made, inr (gs, e, a, c)) (ms, also, done, inr (hs, f, b, d)) =
      let old = names_env C ++ s.names in
      let ρ = choices-along scope far C ds old (before C s) (after C s h) ns ms new also made done gs hs e f a b in
      let c' : IsAnswer scope (k ns (value_of (arguments_of C ds ns))) (with_made ns s) o = subst (λ gs. IsAnswer scope (k ns gs) (with_made ns s) o) (sym (ap value_of e)) c in
      let d' : IsAnswer scope (k ms (value_of (arguments_of C ds ms))) (with_made ms s) q = subst (λ gs. IsAnswer scope (k ms gs) (with_made ms s) q) (sym (ap value_of f)) d in
      let r = carried (makes_datatypes C ds k) s h old ns ms (λ n j. right n (names_env C) s.names j) ρ o c' in
      r.1 ∙ shorter ms s.names r.0 q (agree (k ms (value_of (arguments_of C ds ms))) (with_made ms s) (after-datatypes C ds k s h ms) r.0 q r.2 d')
  agree (makes_names ws k) s h o q (ns, new, c) (ms, also, d) =
      let ρ = names-along scope far ws s.names ns ms new also in
      let r = carried (makes_names ws k) s h s.names ns ms (λ n j. j) ρ o c in r.1 ∙ shorter ms s.names r.0 q (agree (k ms) (with_made ms s) (after-names ws k s h ms) r.0 q r.2 d)
  agree (requires_or d f k) s h o q (inl a) (inl b) =
      agree k (with_demand d s)
      (record { script = λ r u v i. next nothing (h.script r u v i) (h.state r u v i); state = λ r u v i. later nothing (h.script r u v i) (h.state r u v i); initials = h.initials; met = a.0 }) o q a.1 b.1
  agree (requires_or d f k) s h o q (inl a) (inr b) = absurd (b.0 a.0)
  agree (requires_or d f k) s h o q (inr a) (inl b) = absurd (a.0 b.0)
  agree (requires_or d f k) s h o q (inr a) (inr b) = λ i. (N, scope, s.names, (a.1 ∙ sym b.1) i)
  agree (determines t f k) s h o q (inl (x, a, c)) (inl (y, b, d)) =
      let e : x ≡ y = sym (a h.met.0 h.met.1) ∙ b h.met.0 h.met.1 in
      agree (k x) s
      (record { script = λ p u v i. next (record nothing { type = type-along p u v i }) (h.script p u v i) (h.state p u v i); state = h.state; initials = h.initials; met = h.met })
      o q c (subst (λ y. IsAnswer scope (k y) s q) (sym e) d)
    where
      type-along : (p : N ≡ N) → PathP (λ i. Scope (p i)) scope scope → Become p s.names s.names → PathP (λ i. MlType (p i)) x x
      type-along p u v =
          let K = h.script p u v in
          let S = h.state p u v in
          let moved : IsAlways scope s t (coe 0 1 (i. MlType (p i)) x) = coe 0 1 (i. IsAlways (u i) (S i) (closing (K i)).2 (coe 0 i (j. MlType (p j)) x)) a in
          to_path_p (λ i. MlType (p i)) (sym (moved h.met.0 h.met.1) ∙ a h.met.0 h.met.1)
  agree (determines t f k) s h o q (inl (x, a, c)) (inr b) = absurd (b.0 x a)
  agree (determines t f k) s h o q (inr a) (inl (y, b, d)) = absurd (a.0 y b)
  agree (determines t f k) s h o q (inr a) (inr b) = λ i. (N, scope, s.names, (a.1 ∙ sym b.1) i)
