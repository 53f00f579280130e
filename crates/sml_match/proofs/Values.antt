-- Values at a path, and the next of a map after those that are as specified.
use Rattle.std.proofs.Common.{◌≡◌, ℕ, List, [], ◌∷◌, ◌++◌, length, ap, sym, subst, ◌∙◌, Option, Some, None, Ok, Err, Bor}
use Rattle.std.specs.Map as stored
use Rattle.std.specs.BTreeMap.{is_at}
use Rattle.std.specs.Option.{option_map, option_copied}
use Rattle.std.specs.declared.cmp.Ordering.{Ordering}
use Rattle.std.specs.declared.cmp.Ordering.TheVariants.{Less, Equal, Greater}
use Rattle.sml_lex.specs.declared.fault.Code.TheVariants.{M1}
use Rattle.sml_lex.specs.declared.fault.Place.{Place}
use Rattle.sml_tree.specs.Trees.{Id, LongId}
use Rattle.sml_tree.specs.Views.{ident_of}
use Rattle.sml_objects.specs.Initial.{Name}
use Rattle.sml_objects.specs.Maps.{Map, lookup, by_order, order_of}
use Rattle.sml_objects.specs.Views.{entries_of}
use Rattle.sml_rules.specs.Answers.{fault_at, refused}
use Rattle.sml_rules.specs.Lookups.{entry, found, no_entry}
use Rattle.sml_core_rules.specs.Lookups.{find_at, found_in, value_at}
use Rattle.sml_core_rules.specs.Objects.{Env, Value, find_structure, structures, values}
use Rattle.sml_core_rules.specs.Scopes.{run_scope}
use Rattle.sml_core_rules.specs.States.{State}
use Rattle.sml_graph.specs.Interned.{IsBodyOver}
use Rattle.sml_module_rules.specs.Lines.{a_value, at_path, value_lines}
use Rattle.sml_bases.specs.Views.{env_of, value_of}
use Rattle.sml_bases.specs.declared.objects.Env as P
use Rattle.sml_bases.specs.declared.objects.Value as V
use Rattle.sml_bases.specs.declared.objects.Env.TheViews.{out-Env}
use Rattle.sml_bases.proofs.EnvViews.{env_of-out}
use Rattle.sml_types.specs.Answered.{env_at}
use Rattle.sml_types.proofs.Entries.{looked}
use Rattle.sml_match.specs.Mismatches.{IsMismatch}
use Rattle.sml_match.specs.Required.{AreClosedValues, HasRequired, answers}
use Rattle.sml_match.specs.declared.mismatch.Mismatch.{Mismatch}
use Rattle.sml_match.specs.declared.mismatch.Mismatch.TheVariants.{Memory, Fault}
use Rattle.sml_match.proofs.Refusals.{unmet}
use Rattle.sml_match.proofs.Requiring.{Outcome, no-such-value}
use Rattle.sml_match.proofs.Walks.{Key, Lines}

picked : {X : Type 0} (pick : Env Name → Option X) (seen path : List Id) (E F : Env Name) → find_at (λ E. Some E) seen path E ≡ found F → find_at pick seen path E ≡ entry (pick F)
unfolding find_at
picked pick seen [] E F h = let e : E ≡ F = cc in ap (λ D. entry (pick D)) e
picked pick seen (s ∷ path) E F h =
    elim (find_structure s (structures E)) as (λ o. found_in (seen ++ s ∷ []) (find_at (λ E. Some E) (seen ++ s ∷ []) path) o ≡ found F → found_in (seen ++ s ∷ []) (find_at pick (seen ++ s ∷ []) path) o ≡ entry (pick F)) [
      | None ↦ λ k. let q : ⊥ = cc in absurd q
      | Some D ↦ λ k. picked pick (seen ++ s ∷ []) path D F k
    ] h

value-long : (E F : Env Name) (x : LongId) → env_at E x.path ≡ found F → value_at E x ≡ entry (lookup x.last (values F))
unfolding value_at
value-long E F x h = picked (λ E. lookup x.last (values E)) [] x.path E F h

pub found-value : (E F : Env Name) (x : LongId) (v : Value Name) → env_at E x.path ≡ found F → lookup x.last (values F) ≡ Some v → value_at E x ≡ found v
found-value E F x v h k = value-long E F x h ∙ ap entry k

no-value : (E F : Env Name) (x : LongId) → env_at E x.path ≡ found F → lookup x.last (values F) ≡ None → value_at E x ≡ no_entry
no-value E F x h k = value-long E F x h ∙ ap entry k

pub value-read : (e : P.Env) (k : Key) (r : Option (Bor V.Value)) → option_copied r ≡ stored.lookup (is_at (λ x. order_of (ident_of k) (ident_of x))) (out-Env e).values.entries → option_map (λ v. value_of v.now) r ≡ lookup (ident_of k) (values (env_of e))
value-read e k r h = looked value_of (out-Env e).values.entries k r h ∙ ap (λ E. lookup (ident_of k) (values E)) (sym (env_of-out e))

pub closed-at : (x : Id) (vs : Map (Value Name)) (v : Value Name) → AreClosedValues vs → lookup x vs ≡ Some v → IsBodyOver (length v.scheme.variables) 0 v.scheme.body
closed-at x [] v h e = let f : None ≡ Some v = e in absurd cc
closed-at x (d ∷ vs) v h e = go (order_of x d.0) e (λ e. closed-at x vs v h.1 e)
  where
    go : (o : Ordering) → by_order o (lookup x vs) (Some d.1) (lookup x vs) ≡ Some v → (lookup x vs ≡ Some v → IsBodyOver (length v.scheme.variables) 0 v.scheme.body) → IsBodyOver (length v.scheme.variables) 0 v.scheme.body
    go Less e k = k e
    go Equal e k = let f : Some d.1 ≡ Some v = e in let g : d.1 ≡ v = cc in subst (λ v. IsBodyOver (length v.scheme.variables) 0 v.scheme.body) g h.0
    go Greater e k = k e

abbrev pub values-left : List Id → List (Key × V.Value) → Lines
values-left path es = value_lines path (entries_of value_of es)

module _ (unit : ℕ) (s : State Place Name) (p : Place) (E F : Env Name) (path : List Id) (all rest u : List (Key × V.Value)) (k : Key) (a : V.Value)
    (first : rest ≡ (k, a) ∷ u) (way : List Id) (e : way ≡ path ++ ident_of k ∷ []) (h : env_at E path ≡ found F)
    (so-far : (more : Lines) (o : Outcome) → answers (run_scope unit) s p E (values-left path rest ++ more) o → answers (run_scope unit) s p E (values-left path all ++ more) o) where
  from-next : (more : Lines) (o : Outcome) → answers (run_scope unit) s p E (values-left path ((k, a) ∷ u) ++ more) o → answers (run_scope unit) s p E (values-left path all ++ more) o
  from-next more o g = so-far more o (subst (λ l. answers (run_scope unit) s p E (values-left path l ++ more) o) (sym first) g)

  pub next-missing : (U : Type 0) (m : Mismatch) → lookup (ident_of k) (values F) ≡ None → IsMismatch m M1 way → HasRequired (run_scope unit) s p E {U = U} (values-left path all) (Err m)
  next-missing U m n i =
      unmet U (run_scope unit) s p E (values-left path all) m M1 way i
      (λ more. from-next more (refused (fault_at M1 p way))
      (subst (λ q. answers (run_scope unit) s p E (values-left path ((k, a) ∷ u) ++ more) (refused (fault_at M1 p q))) (sym e)
      (no-such-value unit s p E (at_path path (ident_of k)) (value_of a) (values-left path u ++ more) (no-value E F (at_path path (ident_of k)) h n))))

  pub next-unmet : (U : Type 0) (m : Mismatch) → HasRequired (run_scope unit) s p E {U = U} ((at_path path (ident_of k), a_value (value_of a)) ∷ []) (Err m)
      → HasRequired (run_scope unit) s p E {U = U} (values-left path all) (Err m)
  next-unmet U Memory g = tt
  next-unmet U (Fault c text) g = λ more. from-next more _ (g (values-left path u ++ more))

  pub next-met : (U : Type 0) (v : U) → HasRequired (run_scope unit) s p E ((at_path path (ident_of k), a_value (value_of a)) ∷ []) (Ok v)
      → (more : Lines) (o : Outcome) → answers (run_scope unit) s p E (values-left path u ++ more) o → answers (run_scope unit) s p E (values-left path all ++ more) o
  next-met U v g more o r = from-next more o (g (values-left path u ++ more) o r)
