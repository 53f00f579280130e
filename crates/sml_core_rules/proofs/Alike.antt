-- Any two answers to a declaration differ in the names that were made.
use Rattle.std.specs.Prelude.{◌≡◌, List, [], ◌∷◌}
use mathlib.Core.Path.{sym, subst, ◌∙◌}
use mathlib.Core.Logic.{inl, inr}
use std.Path.{from_path_p}
use Rattle.sml_objects.specs.Alike.{Renaming}
use Rattle.sml_objects.specs.Appearance.{Stands}
use Rattle.sml_objects.specs.Names.{int}
use Rattle.sml_objects.specs.Objects.{app, row, no_type}
use Rattle.sml_rules.proofs.Worlds.{Named}
use Rattle.sml_core_rules.specs.Objects.{Env, rename_env, names_env}
use Rattle.sml_rules.specs.Answers.{Answer}
use Rattle.sml_core_rules.specs.States.{Scope, State}
use Rattle.sml_core_rules.specs.Expressions.{read_dec, at_first}
use Rattle.sml_core_rules.specs.Statements.{ReadingsAgree, rename_answer}
use Rattle.sml_core_rules.proofs.Along.{Become, become-list, become-known, env-along}
use Rattle.sml_core_rules.proofs.Agree.{Settled, agree}
use Rattle.sml_core_rules.proofs.Moves.{answer-id}
use Rattle.sml_core_rules.proofs.Renaming.{env-id}

-- a path between two answers, as a renaming
pub alike : {P N : Type 0} {F : Type 0 → Type 0} (named : Named F) (scope : Scope N) (ns : List N) (o q : Answer P (F N × State P N))
    → ◌≡◌ {A = (M : Type 0) × Scope M × List M × Answer P (F M × State P M)} (N, scope, ns, o) (N, scope, ns, q)
    → (f : Renaming scope.names) × ((n : N) → Stands n ns → f.to n ≡ n) × (q ≡ rename_answer (named.rename f.to) f.to o)
unfolding Become Stands
alike {N = N} named scope ns o q π = (
  record {
    to = λ n. coe 0 1 (i. p i) n;
    from = λ n. coe 1 0 (i. p i) n;
    to-from = λ n k. coe k 1 (i. p i) (coe 1 k (i. p i) n);
    from-to = λ n. sym (λ k. coe k 0 (i. p i) (coe 0 k (i. p i) n));
    keeps = λ n i. (π i).1.names.attributes (coe 0 i (j. p j) n);
    initial = λ k i. coe i 1 (j. p j) ((π i).1.names.initial k);
  },
  (λ n s.
      let m =
      become-known p (scope.names.initial int) (scope.names.initial int) (λ i. (π i).1.names.initial int) ns (λ i. (π i).2) (n ∷ []) (λ m. elim [ inl e ↦ subst (λ n. Stands n ns) (sym e) s | inr h ↦ absurd h ]) in
      from_path_p (λ i. p i) m.0),
  sym ((λ i. rename_answer (named.rename (λ n. coe i 1 (j. p j) n)) (λ n. coe i 1 (j. p j) n) ((π i).3)) ∙ answer-id (named.rename (λ n. n)) named.rename-id q),
)
  where
    p : N ≡ N
    p i = (π i).0

env_named : Named Env
env_named = record { rename = rename_env; rename-id = env-id }

pub readings-agree : {N : Type 0} (scope : Scope N) → ReadingsAgree scope
unfolding env_named
readings-agree {N} scope far C ns inside initials d o q a b = alike env_named scope ns o q (agree Env scope far (read_dec scope C [] d) (at_first ns) settled o q a b)
  where
    settled : Settled Env scope far (read_dec scope C [] d) (at_first ns)
    settled = record {
      script = λ p u v.
          let l = become-list p ns ns v in
          let E = env-along p C (become-known p (scope.names.initial int) (scope.names.initial int) (λ i. (u i).names.initial int) ns l (names_env C) inside) in λ i. read_dec (u i) (E i) [] d;
      state = λ p u v. let l = become-list p ns ns v in λ i. at_first (l i);
      initials = initials;
      met = ((λ v. app (row []) no_type), tt);
    }
