use Rattle.std.proofs.Common.{◌≡◌, ◌∷◌, [], ◌++◌, ap, sym, subst, ◌∙◌, Some, None, Ok, Err}
use Rattle.std.proofs.lemmas.Map.Iter.{rest_all, rest_more}
use Rattle.std.specs.Map.Iter.{deref_pair}
use Rattle.sml_tree.specs.Views.{ident_of}
use Rattle.sml_objects.specs.Views.{entries_of}
use Rattle.sml_rules.specs.Lookups.{found}
use Rattle.sml_core_rules.specs.Scopes.{run_scope}
use Rattle.sml_module_rules.specs.Lines.{lines}
use Rattle.sml_bases.specs.Views.{env_of, structures_of}
use Rattle.sml_bases.specs.declared.objects.Env.TheViews.{out-Env}
use Rattle.sml_types.specs.Answered.{env_at}
use Rattle.sml_types.proofs.Entries.{structure-read}
use Rattle.sml_match.specs.Paths.{path_in}
use Rattle.sml_match.specs.Required.{HasRequired, HaveKnownValues, answers}
use Rattle.sml_match.proofs.Held.{held-inside, left}
use Rattle.sml_match.proofs.Refusals.{not-met}
use Rattle.sml_match.proofs.Structures.{asked-of, none-left, env-lines, closed-found, closed-values, known-next, known-parts, required-not, required-then, structure-has, structure-missed, structure-unmet}
use Rattle.sml_match.proofs.Values.{values-left}
use Rattle.sml_match.proofs.Walks.{structures-left, types-left}
use Rattle.sml_match.proofs.enrich.+enriches.Goals as goal

pub env_enriches-returns-in_err-structures_enrich-clause-required : goal.env_enriches-returns-in_err-structures_enrich-clause-required
env_enriches-returns-in_err-structures_enrich-clause-required t c = λ unit s p E h o n.
    let path = path_in c.args.way.now in
    let asked = c.args.specified.now in
    let m = c.in_err-structures_enrich.field-0.0 in
    not-met (run_scope unit) s p E (lines path (env_of asked)) c.from_residual.result m c.from_residual.ensures.1
    (subst (λ l. HasRequired (run_scope unit) s p E {U = Unit {0}} l (Err m)) (sym (env-lines path asked))
    (required-not (run_scope unit) s p E (Unit {0}) (structures-left path (out-Env asked).structures.entries) (types-left path (out-Env asked).types.entries ++ values-left path (out-Env asked).values.entries) m
    (c.in_err-structures_enrich.ensures.required unit s p E h o (known-parts asked n).0)))

pub env_enriches-returns-in_err-types_enrich-clause-required : goal.env_enriches-returns-in_err-types_enrich-clause-required
env_enriches-returns-in_err-types_enrich-clause-required t c = λ unit s p E h o n.
    let path = path_in c.args.way.now in
    let asked = c.args.specified.now in
    let types = (out-Env asked).types.entries in
    let m = c.in_err-types_enrich.field-0.0 in
    let same = c.in_ok-structures_enrich.ensures.path in
    not-met (run_scope unit) s p E (lines path (env_of asked)) c.from_residual-in_err-types_enrich.result m c.from_residual-in_err-types_enrich.ensures.1
    (subst (λ l. HasRequired (run_scope unit) s p E {U = Unit {0}} l (Err m)) (sym (env-lines path asked))
    (required-then (run_scope unit) s p E (structures-left path (out-Env asked).structures.entries) (types-left path types ++ values-left path (out-Env asked).values.entries) (Err m)
    (c.in_ok-structures_enrich.ensures.required unit s p E h o (known-parts asked n).0)
    (required-not (run_scope unit) s p E (Unit {0}) (types-left path types) (values-left path (out-Env asked).values.entries) m
    (subst (λ q. HasRequired (run_scope unit) s p E {U = Unit {0}} (types-left q types) (Err m)) same
    (c.in_err-types_enrich.ensures.required (run_scope unit) s p E (subst (λ q. env_at E q ≡ found (env_of c.args.env.now)) (sym same) h))))))

pub env_enriches-returns-clause-required : goal.env_enriches-returns-clause-required
env_enriches-returns-clause-required t c = λ unit s p E h o n.
    let path = path_in c.args.way.now in
    let asked = c.args.specified.now in
    let types = (out-Env asked).types.entries in
    let values = (out-Env asked).values.entries in
    let same = c.in_ok-structures_enrich.ensures.path in
    let again = c.in_ok-types_enrich.ensures.path ∙ same in
    subst (λ l. HasRequired (run_scope unit) s p E l c.values_enrich.result) (sym (env-lines path asked))
    (required-then (run_scope unit) s p E (structures-left path (out-Env asked).structures.entries) (types-left path types ++ values-left path values) c.values_enrich.result
    (c.in_ok-structures_enrich.ensures.required unit s p E h o (known-parts asked n).0)
    (required-then (run_scope unit) s p E (types-left path types) (values-left path values) c.values_enrich.result
    (subst (λ q. HasRequired (run_scope unit) s p E {U = Unit {0}} (types-left q types) (Ok tt)) same
    (c.in_ok-types_enrich.ensures.required (run_scope unit) s p E (subst (λ q. env_at E q ≡ found (env_of c.args.env.now)) (sym same) h)))
    (subst (λ q. HasRequired (run_scope unit) s p E (values-left q values) c.values_enrich.result) again
    (c.values_enrich.ensures.required unit s p E (subst (λ q. env_at E q ≡ found (env_of c.args.env.now)) (sym again) h) (closed-values (env_of c.args.env.now) o) (known-parts asked n).1))))

pub structures_enrich-returns-in-None-get-clause-required : goal.structures_enrich-returns-in-None-get-clause-required
structures_enrich-returns-in-None-get-clause-required t c = λ unit s p E h o n.
    let i = c.loop-name.invariant in
    let path = path_in c.args.way.now in
    let x = ident_of c.in-Some.name.now in
    let first = rest_more deref_pair c.loop-name.name-iterator c.next.new.self c.next.result (c.in-Some.name, c.in-Some.structure) c.in-Some.is c.next.ensures.steps in
    let e = c.in_ok-enter.ensures ∙ ap (λ q. q ++ x ∷ []) i.path in
    structure-missed unit s p E (env_of c.args.env.now) path c.args.specified.now.entries c.loop-name.name-iterator c.next.new.self c.in-Some.name.now c.in-Some.structure.now first
    (path_in c.enter.new.self) e h (i.left unit s p E h o n) (Unit {0}) c.in_ok-fault-in-None-get.field-0
    (sym (structure-read c.args.env.now c.in-Some.name.now None c.in-None-get.ensures.value)) c.in_ok-fault-in-None-get.ensures

pub structures_enrich-returns-in_err-env_enriches-in-Some-get-clause-required : goal.structures_enrich-returns-in_err-env_enriches-in-Some-get-clause-required
structures_enrich-returns-in_err-env_enriches-in-Some-get-clause-required t c = λ unit s p E h o n.
    let i = c.loop-name.invariant in
    let path = path_in c.args.way.now in
    let x = ident_of c.in-Some.name.now in
    let first = rest_more deref_pair c.loop-name.name-iterator c.next.new.self c.next.result (c.in-Some.name, c.in-Some.structure) c.in-Some.is c.next.ensures.steps in
    let e = c.in_ok-enter.ensures ∙ ap (λ q. q ++ x ∷ []) i.path in
    let there = sym (structure-read c.args.env.now c.in-Some.name.now (Some c.in-Some-get.found) c.in-Some-get.ensures.value) in
    let known = known-next c.in-Some.name.now c.in-Some.structure.now c.next.new.self (subst (λ es. HaveKnownValues (structures_of (entries_of (λ s. env_of s.value) es))) first (i.known n)) in
    let arm = c.in_err-env_enriches-in-Some-get in
    not-met (run_scope unit) s p E (structures-left path c.args.specified.now.entries) c.from_residual-in_err-env_enriches-in-Some-get.result arm.field-0.0
    c.from_residual-in_err-env_enriches-in-Some-get.ensures.1
    (structure-unmet unit s p E (env_of c.args.env.now) path c.args.specified.now.entries c.loop-name.name-iterator c.next.new.self c.in-Some.name.now c.in-Some.structure.now first
    (path_in c.enter.new.self) e h (i.left unit s p E h o n) (env_of c.in-Some-get.found.now.value) there (Unit {0}) arm.field-0.0
    (asked-of unit s p E (path_in c.enter.new.self) c.deref.result.now c.in-Some-get.found.now.value c.deref-in-Some-get.result.now c.in-Some.structure.now.value (Err arm.field-0.0) c.deref.ensures c.deref-in-Some-get.ensures
    (subst (λ q. env_at E q ≡ found (env_of c.in-Some-get.found.now.value)) (sym e) (held-inside E (env_of c.args.env.now) (env_of c.in-Some-get.found.now.value) path x h there))
    (closed-found x (env_of c.args.env.now) (env_of c.in-Some-get.found.now.value) o there) known.0 (arm.ensures.required unit s p E)))

pub structures_enrich-loop-name-preserved : goal.structures_enrich-loop-name-preserved
structures_enrich-loop-name-preserved t c =
    let i = c.loop-name.invariant in
    let path = path_in c.args.way.now in
    let x = ident_of c.in-Some.name.now in
    let first = rest_more deref_pair c.loop-name.name-iterator c.next.new.self c.next.result (c.in-Some.name, c.in-Some.structure) c.in-Some.is c.next.ensures.steps in
    let e = c.in_ok-enter.ensures ∙ ap (λ q. q ++ x ∷ []) i.path in
    let there = sym (structure-read c.args.env.now c.in-Some.name.now (Some c.in-Some-get.found) c.in-Some-get.ensures.value) in
    record {
      path = c.leave.ensures ∙ left path (path_in c.env_enriches.new.way) x (c.in_ok-env_enriches-in-Some-get.ensures.path ∙ e);
      known = λ n. (known-next c.in-Some.name.now c.in-Some.structure.now c.next.new.self (subst (λ es. HaveKnownValues (structures_of (entries_of (λ s. env_of s.value) es))) first (i.known n))).1;
      left = λ unit s p E h o n.
          let known = known-next c.in-Some.name.now c.in-Some.structure.now c.next.new.self (subst (λ es. HaveKnownValues (structures_of (entries_of (λ s. env_of s.value) es))) first (i.known n)) in
          structure-has unit s p E (env_of c.args.env.now) path c.args.specified.now.entries c.loop-name.name-iterator c.next.new.self c.in-Some.name.now c.in-Some.structure.now first
          (path_in c.enter.new.self) e h (i.left unit s p E h o n) (env_of c.in-Some-get.found.now.value) there (Unit {0}) tt
          (asked-of unit s p E (path_in c.enter.new.self) c.deref.result.now c.in-Some-get.found.now.value c.deref-in-Some-get.result.now c.in-Some.structure.now.value (Ok tt) c.deref.ensures c.deref-in-Some-get.ensures
          (subst (λ q. env_at E q ≡ found (env_of c.in-Some-get.found.now.value)) (sym e) (held-inside E (env_of c.args.env.now) (env_of c.in-Some-get.found.now.value) path x h there))
          (closed-found x (env_of c.args.env.now) (env_of c.in-Some-get.found.now.value) o there) known.0 (c.in_ok-env_enriches-in-Some-get.ensures.required unit s p E));
    }

pub structures_enrich-returns-clause-required : goal.structures_enrich-returns-clause-required
structures_enrich-returns-clause-required t c = λ unit s p E h o n more r a.
    let path = path_in c.args.way.now in
    c.loop-name.invariant.left unit s p E h o n more r
    (subst (λ l. answers (run_scope unit) s p E (l ++ more) r) (sym (none-left path c.loop-name.name-iterator (rest_all deref_pair c.loop-name.name-iterator c.next.new.self c.next.result c.in-None.is c.next.ensures.steps))) a)
