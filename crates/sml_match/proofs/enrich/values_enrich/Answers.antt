use Rattle.std.proofs.Common.{◌∷◌, [], ◌++◌, ap, sym, subst, ◌∙◌, Some, None}
use Rattle.std.proofs.lemmas.Map.Iter.{rest_more}
use Rattle.std.specs.Map.Iter.{deref_pair}
use Rattle.sml_tree.specs.Views.{ident_of}
use Rattle.sml_objects.specs.Views.{entries_of}
use Rattle.sml_core_rules.specs.Objects.{values}
use Rattle.sml_core_rules.specs.Scopes.{run_scope}
use Rattle.sml_bases.specs.Views.{env_of, value_of}
use Rattle.sml_module_rules.specs.Lines.{at_path}
use Rattle.sml_match.specs.Paths.{path_in}
use Rattle.sml_match.specs.Required.{AreKnownValues}
use Rattle.sml_match.proofs.Held.{left}
use Rattle.sml_match.proofs.Refusals.{not-met}
use Rattle.sml_match.proofs.Values.{values-left, value-read, found-value, closed-at, next-missing, next-unmet, next-met}
use Rattle.sml_match.proofs.enrich.values_enrich.Goals as goal

pub returns-in-None-get-clause-required : goal.returns-in-None-get-clause-required
returns-in-None-get-clause-required c = λ unit s p E h o n.
    let i = c.loop-name.invariant in
    let path = path_in c.args.way.now in
    let x = ident_of c.in-Some.name.now in
    let first = rest_more deref_pair c.loop-name.name-iterator c.next.new.self c.next.result (c.in-Some.name, c.in-Some.value) c.in-Some.is c.next.ensures.steps in
    let e = c.in_ok-enter.ensures ∙ ap (λ q. q ++ x ∷ []) i.path in
    next-missing unit s p E (env_of c.args.env.now) path c.args.specified.now.entries c.loop-name.name-iterator c.next.new.self c.in-Some.name.now c.in-Some.value.now first
    (path_in c.enter.new.self) e h (i.left unit s p E h o n) (Unit {0}) c.in_ok-fault-in-None-get.field-0
    (sym (value-read c.args.env.now c.in-Some.name.now None c.in-None-get.ensures.value)) c.in_ok-fault-in-None-get.ensures

pub returns-in_err-value_enriches-in-Some-get-clause-required : goal.returns-in_err-value_enriches-in-Some-get-clause-required
returns-in_err-value_enriches-in-Some-get-clause-required c = λ unit s p E h o n.
    let i = c.loop-name.invariant in
    let path = path_in c.args.way.now in
    let x = ident_of c.in-Some.name.now in
    let first = rest_more deref_pair c.loop-name.name-iterator c.next.new.self c.next.result (c.in-Some.name, c.in-Some.value) c.in-Some.is c.next.ensures.steps in
    let e = c.in_ok-enter.ensures ∙ ap (λ q. q ++ x ∷ []) i.path in
    let there = sym (value-read c.args.env.now c.in-Some.name.now (Some c.in-Some-get.found) c.in-Some-get.ensures.value) in
    let known = subst (λ es. AreKnownValues (entries_of value_of es)) first (i.known n) in
    let arm = c.in_err-value_enriches-in-Some-get in
    not-met (run_scope unit) s p E (values-left path c.args.specified.now.entries) c.from_residual-in_err-value_enriches-in-Some-get.result arm.field-0.0
    c.from_residual-in_err-value_enriches-in-Some-get.ensures.1
    (next-unmet unit s p E (env_of c.args.env.now) path c.args.specified.now.entries c.loop-name.name-iterator c.next.new.self c.in-Some.name.now c.in-Some.value.now first
    (path_in c.enter.new.self) e h (i.left unit s p E h o n) (Unit {0}) arm.field-0.0
    (arm.ensures unit s p E (at_path path x) (sym e) (found-value E (env_of c.args.env.now) (at_path path x) (value_of c.in-Some-get.found.now) h there)
    (closed-at x (values (env_of c.args.env.now)) (value_of c.in-Some-get.found.now) o there) known.0))

pub loop-name-preserved : goal.loop-name-preserved
loop-name-preserved c =
    let i = c.loop-name.invariant in
    let path = path_in c.args.way.now in
    let x = ident_of c.in-Some.name.now in
    let first = rest_more deref_pair c.loop-name.name-iterator c.next.new.self c.next.result (c.in-Some.name, c.in-Some.value) c.in-Some.is c.next.ensures.steps in
    let e = c.in_ok-enter.ensures ∙ ap (λ q. q ++ x ∷ []) i.path in
    let there = sym (value-read c.args.env.now c.in-Some.name.now (Some c.in-Some-get.found) c.in-Some-get.ensures.value) in
    record {
      path = c.leave.ensures ∙ left path (path_in c.enter.new.self) x e;
      known = λ n. (subst (λ es. AreKnownValues (entries_of value_of es)) first (i.known n)).1;
      left = λ unit s p E h o n.
          let known = subst (λ es. AreKnownValues (entries_of value_of es)) first (i.known n) in
          next-met unit s p E (env_of c.args.env.now) path c.args.specified.now.entries c.loop-name.name-iterator c.next.new.self c.in-Some.name.now c.in-Some.value.now first
          (path_in c.enter.new.self) e h (i.left unit s p E h o n) (Unit {0}) tt
          (c.in_ok-value_enriches-in-Some-get.ensures unit s p E (at_path path x) (sym e) (found-value E (env_of c.args.env.now) (at_path path x) (value_of c.in-Some-get.found.now) h there)
          (closed-at x (values (env_of c.args.env.now)) (value_of c.in-Some-get.found.now) o there) known.0);
    }
