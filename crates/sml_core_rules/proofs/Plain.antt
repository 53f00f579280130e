-- Scripts that ask nothing of unknown types: what they are answered doesn't hang on what was asked before.
use Rattle.std.specs.Prelude.{◌≡◌, ◌++◌, false, List, [], ◌∷◌, length, drop}
use mathlib.Core.Path.{sym, ap, subst, ◌∙◌}
use mathlib.Core.Logic.{inl, inr}
use std.Path.{PathP}
use Rattle.sml_tree.specs.Expressions.{DatBind}
use Rattle.sml_objects.specs.Appearance.{Stands}
use Rattle.sml_objects.specs.Names.{Naming, Attributes, Initial, int}
use Rattle.sml_objects.specs.Objects.{Outside}
use Rattle.sml_objects.proofs.Standing.{left, right}
use Rattle.sml_layers.specs.declared.variable.Variable.{Variable}
use Rattle.sml_rules.specs.Answers.{Answer, refused}
use Rattle.sml_rules.proofs.Settled.{outside-left, outside-right, outside-append}
use Rattle.sml_core_rules.specs.Objects.{Env, names_env}
use Rattle.sml_core_rules.specs.States.{Scope, State, AreMade, with_made, no_window}
use Rattle.sml_core_rules.specs.Datatypes.{Arguments, AreNew, arguments_of}
use Rattle.sml_core_rules.specs.Scripts.{Script, give, refuse, tests, either, makes_unknowns, requires, sees, sets_window, stays_open, judges, starts_anew, requires_or, closes, determines, makes_names, makes_datatypes, ◌>>=◌, result, IsAnswer}
use Rattle.sml_core_rules.proofs.Along.{Become, become-list, become-left, become-right, become-known}
use Rattle.sml_core_rules.proofs.Agree.{nothing, next, making, chosen, faults-same, never-both, choices-along, names-along, dropped}
use Rattle.sml_core_rules.proofs.Flags.{value_of}

unfoldable pub IsPlain : {P N X : Type 0} → Script P N X → Type 0
IsPlain (give x) = Unit {0}
IsPlain (refuse f) = Unit {0}
IsPlain (tests C f k) = IsPlain k
IsPlain (either C k j) = IsPlain k × IsPlain j
IsPlain (makes_unknowns n k) = ⊥
IsPlain (requires d p k) = ⊥
IsPlain (sees k) = ⊥
IsPlain (sets_window w k) = ⊥
IsPlain (stays_open k) = ⊥
IsPlain (judges j k) = ⊥
IsPlain (starts_anew k) = ⊥
IsPlain (requires_or d f k) = ⊥
IsPlain (closes n x t k) = ⊥
IsPlain (determines t f k) = ⊥
IsPlain {N = N} (makes_names ws k) = (ns : List N) → IsPlain (k ns)
IsPlain {N = N} (makes_datatypes C ds k) = (ns : List N) (gs : List (Arguments N)) → IsPlain (k ns gs)

pub plain-bind : {P N X Y : Type 0} (m : Script P N X) (f : X → Script P N Y) → IsPlain m → ((x : X) → IsPlain (f x)) → IsPlain (m >>= f)
unfolding IsPlain ◌>>=◌
plain-bind (give x) f h k = k x
plain-bind (refuse e) f h k = tt
plain-bind (tests C e m) f h k = plain-bind m f h k
plain-bind (either C m n) f h k = (plain-bind m f h.0 k, plain-bind n f h.1 k)
plain-bind (makes_unknowns n m) f h k = absurd h
plain-bind (requires d p m) f h k = absurd h
plain-bind (sees m) f h k = absurd h
plain-bind (sets_window w m) f h k = absurd h
plain-bind (stays_open m) f h k = absurd h
plain-bind (judges j m) f h k = absurd h
plain-bind (starts_anew m) f h k = absurd h
plain-bind (requires_or d e m) f h k = absurd h
plain-bind (closes n x t m) f h k = absurd h
plain-bind (determines t e m) f h k = absurd h
plain-bind (makes_names ws m) f h k = λ ns. plain-bind (m ns) f (h ns) k
plain-bind (makes_datatypes C ds m) f h k = λ ns gs. plain-bind (m ns gs) f (h ns gs) k

-- names that are new where there were more

pub fewer-made : {N : Type 0} (scope : Scope N) (ws : List Attributes) (old more ns : List N) → ((n : N) → Outside n more → Outside n old) → AreMade scope more ws ns → AreMade scope old ws ns
unfolding AreMade Outside
fewer-made scope [] old more ns f h = h
fewer-made scope (w ∷ ws) old more ns f (n, rest, o, i, a, h, e) = (n, rest, f n o, i, a, fewer-made scope ws (n ∷ old) (n ∷ more) rest (λ m k. (k.0, f m k.1)) h, e)

pub fewer-new : {P N : Type 0} (names : Naming N) (ds : List (DatBind P)) (old more ns : List N) → ((n : N) → Outside n more → Outside n old) → AreNew names more ds ns → AreNew names old ds ns
unfolding AreNew Outside
fewer-new names [] old more ns f h = h
fewer-new names (d ∷ ds) old more ns f (n, rest, o, i, a, c, h, e) = (n, rest, f n o, i, a, c, fewer-new names ds (n ∷ old) (n ∷ more) rest (λ m k. (k.0, f m k.1)) h, e)

no_state : {P N : Type 0} → State P N
no_state = record { made = 0; names = []; demands = []; window = no_window; is_open = false; judged = [] }

module _ {P : Type 0} (F : Type 0 → Type 0) {N : Type 0} (scope : Scope N) (far : (x : Variable) → ¬ ((scope.names.attributes (scope.variable x)).maker ≡ scope.unit)) where
  -- a path that leaves what may be seen of names, and these, leaves the script; the initial names are among them
  pub record Fixed (old : List N) (k : Script P N (F N)) : Type 1 where
    pub script : (p : N ≡ N) → PathP (λ i. Scope (p i)) scope scope → Become p old old → PathP (λ i. Script P (p i) (F (p i))) k k
    pub initials : (j : Initial) → Stands (scope.names.initial j) old

  abbrev pub SameResult : List N → Answer P (F N × State P N) → Answer P (F N × State P N) → Type 1
  SameResult old o q = ◌≡◌ {A = (M : Type 0) × Scope M × List M × Answer P (F M)} (N, scope, old, result o) (N, scope, old, result q)

  abbrev Covers : List N → State P N → Type 0
  Covers old s = (n : N) → Outside n s.names → Outside n old

  fewer : (ms old : List N) (o q : Answer P (F N × State P N)) → SameResult (ms ++ old) o q → SameResult old o q
  fewer ms old o q h =
      let there : SameResult (drop (length ms) (ms ++ old)) o q = λ i. ((h i).0, (h i).1, drop {A = (h i).0} (length ms) ((h i).2), (h i).3) in
      subst (λ l. SameResult l o q) (dropped ms old) there

  covers-more : (ns old : List N) (s : State P N) → Covers old s → Covers (ns ++ old) (with_made ns s)
  covers-more ns old s h n o = outside-append n ns old (outside-left n ns s.names o) (h n (outside-right n ns s.names o))

  -- an answer after some new names becomes one after others, from some state with as many names
  carried : (k : Script P N (F N)) (old : List N) → Fixed old k → (more ns ms : List N) → ((n : N) → Stands n old → Stands n more)
      → ◌≡◌ {A = (M : Type 0) × Scope M × (List M × List M)} (N, scope, (more, ns)) (N, scope, (more, ms))
      → (s : State P N) → Covers (ns ++ old) s → (o : Answer P (F N × State P N)) → IsAnswer scope (next (chosen k ns) k no_state) s o
      → (t : State P N) × (q : Answer P (F N × State P N)) × Covers (ms ++ old) t × SameResult old o q × IsAnswer scope (next (chosen k ms) k no_state) t q
  unfolding no_state
  carried k old h more ns ms inside ρ s c o a =
      let p : N ≡ N = λ i. (ρ i).0 in
      let u : PathP (λ i. Scope (p i)) scope scope = λ i. (ρ i).1 in
      let v : Become p old old = become-known p (scope.names.initial int) (scope.names.initial int) (λ i. (u i).names.initial int) more (λ i. (ρ i).2.0) old inside in
      let l = become-list p old old v in
      let K = h.script p u v in
      let t : State P N = coe 0 1 (j. State P (p j)) s in
      let q : Answer P (F N × State P N) = coe 0 1 (j. Answer P (F (p j) × State P (p j))) o in
      let covers : Covers (ms ++ old) t = coe 0 1 (i. (n : p i) → Outside n (coe 0 i (j. State P (p j)) s).names → Outside n ((ρ i).2.1 ++ l i)) c in
      let same : SameResult old o q = λ i. (p i, u i, l i, result (coe 0 i (j. Answer P (F (p j) × State P (p j))) o)) in
      let moved : IsAnswer scope (next (chosen k ms) k no_state) t q =
      coe 0 1
      (i. IsAnswer (u i) (next (chosen (K i) ((ρ i).2.1)) (K i) no_state) (coe 0 i (j. State P (p j)) s) (coe 0 i (j. Answer P (F (p j) × State P (p j))) o)) a in
      (t, q, covers, same, moved)

  after-names : (ws : List Attributes) (k : List N → Script P N (F N)) (old : List N) → Fixed old (makes_names ws k) → (ms : List N) → Fixed (ms ++ old) (k ms)
  unfolding next making
  after-names ws k old h ms = record {
    script = λ p u v.
        let K = h.script p u (become-right p ms old v) in
        let l = become-list p ms ms (become-left p ms old v) in λ i. next (chosen (K i) (l i)) (K i) no_state;
    initials = λ j. right (scope.names.initial j) ms old (h.initials j);
  }

  after-datatypes : (C : Env N) (ds : List (DatBind P)) (k : List N → List (Arguments N) → Script P N (F N)) (old : List N) → Fixed old (makes_datatypes C ds k) → (ms : List N)
      → Fixed (ms ++ old) (k ms (value_of (arguments_of C ds ms)))
  unfolding next making
  after-datatypes C ds k old h ms = record {
    script = λ p u v.
        let K = h.script p u (become-right p ms old v) in
        let l = become-list p ms ms (become-left p ms old v) in λ i. next (chosen (K i) (l i)) (K i) no_state;
    initials = λ j. right (scope.names.initial j) ms old (h.initials j);
  }

  newer : (C : Env N) (ds : List (DatBind P)) (old : List N) (s : State P N) → Covers old s → (ns : List N) → AreNew scope.names (names_env C ++ s.names) ds ns
      → AreNew scope.names (names_env C ++ old) ds ns
  newer C ds old s c ns h =
      fewer-new scope.names ds (names_env C ++ old) (names_env C ++ s.names) ns
      (λ n o. outside-append n (names_env C) old (outside-left n (names_env C) s.names o) (c n (outside-right n (names_env C) s.names o))) h

  -- two answers, from any states in which these names were made
  pub agree-plain : (k : Script P N (F N)) → IsPlain k → (old : List N) → Fixed old k → (s t : State P N) → Covers old s → Covers old t → (o q : Answer P (F N × State P N))
      → IsAnswer scope k s o → IsAnswer scope k t q → SameResult old o q
  unfolding IsPlain IsAnswer next making
  agree-plain (give x) e old h s t c d o q a b = λ i. (N, scope, old, (ap result a ∙ sym (ap result b)) i)
  agree-plain (refuse f) e old h s t c d o q a b = λ i. (N, scope, old, (ap result a ∙ sym (ap result b)) i)
  agree-plain (tests C f k) e old h s t c d o q (inl a) (inl b) =
      agree-plain k e old (record { script = λ p u v i. next nothing (h.script p u v i) no_state; initials = h.initials }) s t c d o q a.1 b.1
  agree-plain (tests C f k) e old h s t c d o q (inl a) (inr b) = absurd (b.0 a.0)
  agree-plain (tests C f k) e old h s t c d o q (inr a) (inl b) = absurd (a.0 b.0)
  agree-plain (tests C f k) e old h s t c d o q (inr a) (inr b) = λ i. (N, scope, old, (ap result a.1 ∙ sym (ap result b.1)) i)
  agree-plain (either C k j) e old h s t c d o q (inl a) (inl b) =
      agree-plain k e.0 old (record { script = λ p u v i. next nothing (h.script p u v i) no_state; initials = h.initials }) s t c d o q a.1 b.1
  agree-plain (either C k j) e old h s t c d o q (inl a) (inr b) = absurd (b.0 a.0)
  agree-plain (either C k j) e old h s t c d o q (inr a) (inl b) = absurd (a.0 b.0)
  agree-plain (either C k j) e old h s t c d o q (inr a) (inr b) =
      agree-plain j e.1 old (record { script = λ p u v i. next (record nothing { holds = false }) (h.script p u v i) no_state; initials = h.initials }) s t c d o q a.1 b.1
  agree-plain (makes_unknowns n k) e old h s t c d o q a b = absurd e
  agree-plain (requires x p k) e old h s t c d o q a b = absurd e
  agree-plain (sees k) e old h s t c d o q a b = absurd e
  agree-plain (sets_window w k) e old h s t c d o q a b = absurd e
  agree-plain (stays_open k) e old h s t c d o q a b = absurd e
  agree-plain (judges j k) e old h s t c d o q a b = absurd e
  agree-plain (starts_anew k) e old h s t c d o q a b = absurd e
  agree-plain (requires_or x f k) e old h s t c d o q a b = absurd e
  agree-plain (closes n x u k) e old h s t c d o q a b = absurd e
  agree-plain (determines u f k) e old h s t c d o q a b = absurd e
  agree-plain (makes_names ws k) e old h s t c d o q (ns, new, a) (ms, also, b) =
      let ρ = names-along scope far ws old ns ms (fewer-made scope ws old s.names ns c new) (fewer-made scope ws old t.names ms d also) in
      let r = carried (makes_names ws k) old h old ns ms (λ n j. j) ρ (with_made ns s) (covers-more ns old s c) o a in
      r.3 ∙ fewer ms old r.1 q (agree-plain (k ms) (e ms) (ms ++ old) (after-names ws k old h ms) r.0 (with_made ms t) r.2 (covers-more ms old t d) r.1 q r.4 b)
  agree-plain (makes_datatypes C ds k) e old h s t c d o q (ns, new, made, inl a) (ms, also, done, inl b) =
      let f =
      faults-same scope far C ds (names_env C ++ old) (λ n j. left n (names_env C) old j) (λ j. right (scope.names.initial j) (names_env C) old (h.initials j)) ns ms
      (newer C ds old s c ns new) (newer C ds old t d ms also) made done a.0 b.0 a.1 b.1 in
      λ i. (N, scope, old, (ap result a.2 ∙ (ap refused f ∙ sym (ap result b.2))) i)
  agree-plain (makes_datatypes C ds k) e old h s t c d o q (ns, new, made, inl a) (ms, also, done, inr b) =
      absurd (never-both scope far C ds (names_env C ++ old) (λ n j. left n (names_env C) old j) (λ j. right (scope.names.initial j) (names_env C) old (h.initials j)) ns ms
      (newer C ds old s c ns new) (newer C ds old t d ms also) made done a.0 b.0 a.1 b.1)
  agree-plain (makes_datatypes C ds k) e old h s t c d o q (ns, new, made, inr a) (ms, also, done, inl b) =
      absurd (never-both scope far C ds (names_env C ++ old) (λ n j. left n (names_env C) old j) (λ j. right (scope.names.initial j) (names_env C) old (h.initials j)) ms ns
      (newer C ds old t d ms also) (newer C ds old s c ns new) done made b.0 a.0 b.1 a.1)
  agree-plain (makes_datatypes C ds k) e old h s t c d o q (ns, new, made, inr (gs, f, x, a)) (ms, also, done, inr (hs, g, y, b)) =
      let ρ =
      choices-along scope far C ds (names_env C ++ old) (λ n j. left n (names_env C) old j) (λ j. right (scope.names.initial j) (names_env C) old (h.initials j)) ns ms
      (newer C ds old s c ns new) (newer C ds old t d ms also) made done gs hs f g x y in
      let a' : IsAnswer scope (k ns (value_of (arguments_of C ds ns))) (with_made ns s) o = subst (λ gs. IsAnswer scope (k ns gs) (with_made ns s) o) (sym (ap value_of f)) a in
      let b' : IsAnswer scope (k ms (value_of (arguments_of C ds ms))) (with_made ms t) q = subst (λ gs. IsAnswer scope (k ms gs) (with_made ms t) q) (sym (ap value_of g)) b in
      let r = carried (makes_datatypes C ds k) old h (names_env C ++ old) ns ms (λ n j. right n (names_env C) old j) ρ (with_made ns s) (covers-more ns old s c) o a' in
      r.3
      ∙ fewer ms old r.1 q
      (agree-plain (k ms (value_of (arguments_of C ds ms))) (e ms (value_of (arguments_of C ds ms))) (ms ++ old) (after-datatypes C ds k old h ms) r.0 (with_made ms t) r.2 (covers-more ms old t d) r.1 q r.4 b')
