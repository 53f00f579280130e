use Rattle.std.proofs.Common.{◌∷◌, [], ◌++◌, ap, sym, ◌∙◌, Some, None}
use Rattle.std.proofs.lemmas.Map.Iter.{rest_more}
use Rattle.std.specs.Map.Iter.{deref_pair}
use Rattle.sml_tree.specs.Views.{ident_of}
use Rattle.sml_bases.specs.Views.{env_of, ty_str_of}
use Rattle.sml_types.proofs.Entries.{type-read}
use Rattle.sml_module_rules.specs.Lines.{at_path}
use Rattle.sml_match.specs.Paths.{path_in}
use Rattle.sml_match.proofs.Held.{left}
use Rattle.sml_match.proofs.Refusals.{found-type, not-met}
use Rattle.sml_match.proofs.Unmet.{next-missing, next-unmet, next-met}
use Rattle.sml_match.proofs.Walks.{types-left}
use Rattle.sml_match.proofs.enrich.types_enrich.Goals as goal

pub returns-in-None-get-clause-required : goal.returns-in-None-get-clause-required
returns-in-None-get-clause-required c = λ scope s p E h.
    let i = c.loop-name.invariant in
    let path = path_in c.args.way.now in
    let x = ident_of c.in-Some.name.now in
    let first = rest_more deref_pair c.loop-name.name-iterator c.next.new.self c.next.result (c.in-Some.name, c.in-Some.ty) c.in-Some.is c.next.ensures.steps in
    let e = c.in_ok-enter.ensures ∙ ap (λ q. q ++ x ∷ []) i.path in
    next-missing scope s p E (env_of c.args.env.now) path c.args.specified.now.entries c.loop-name.name-iterator c.next.new.self c.in-Some.name.now c.in-Some.ty.now first
    (path_in c.enter.new.self) e h (i.left scope s p E h) (Unit {0}) c.in_ok-fault-in-None-get.field-0
    (sym (type-read c.args.env.now c.in-Some.name.now None c.in-None-get.ensures.value)) c.in_ok-fault-in-None-get.ensures

pub returns-in_err-type_enriches-in-Some-get-clause-required : goal.returns-in_err-type_enriches-in-Some-get-clause-required
returns-in_err-type_enriches-in-Some-get-clause-required c = λ scope s p E h.
    let i = c.loop-name.invariant in
    let path = path_in c.args.way.now in
    let x = ident_of c.in-Some.name.now in
    let first = rest_more deref_pair c.loop-name.name-iterator c.next.new.self c.next.result (c.in-Some.name, c.in-Some.ty) c.in-Some.is c.next.ensures.steps in
    let e = c.in_ok-enter.ensures ∙ ap (λ q. q ++ x ∷ []) i.path in
    let there = sym (type-read c.args.env.now c.in-Some.name.now (Some c.in-Some-get.found) c.in-Some-get.ensures.value) in
    let arm = c.in_err-type_enriches-in-Some-get in
    not-met scope s p E (types-left path c.args.specified.now.entries) c.from_residual-in_err-type_enriches-in-Some-get.result arm.field-0.0
    c.from_residual-in_err-type_enriches-in-Some-get.ensures.1
    (next-unmet scope s p E (env_of c.args.env.now) path c.args.specified.now.entries c.loop-name.name-iterator c.next.new.self c.in-Some.name.now c.in-Some.ty.now first
    (path_in c.enter.new.self) e h (i.left scope s p E h) (Unit {0}) arm.field-0.0
    (arm.ensures scope s p E (at_path path x) (sym e) (found-type E (env_of c.args.env.now) (at_path path x) (ty_str_of c.in-Some-get.found.now) h there)))

pub loop-name-preserved : goal.loop-name-preserved
loop-name-preserved c =
    let i = c.loop-name.invariant in
    let path = path_in c.args.way.now in
    let x = ident_of c.in-Some.name.now in
    let first = rest_more deref_pair c.loop-name.name-iterator c.next.new.self c.next.result (c.in-Some.name, c.in-Some.ty) c.in-Some.is c.next.ensures.steps in
    let e = c.in_ok-enter.ensures ∙ ap (λ q. q ++ x ∷ []) i.path in
    let there = sym (type-read c.args.env.now c.in-Some.name.now (Some c.in-Some-get.found) c.in-Some-get.ensures.value) in
    record {
      path = c.leave.ensures ∙ left path (path_in c.enter.new.self) x e;
      left = λ scope s p E h.
          next-met scope s p E (env_of c.args.env.now) path c.args.specified.now.entries c.loop-name.name-iterator c.next.new.self c.in-Some.name.now c.in-Some.ty.now first
          (path_in c.enter.new.self) e h (i.left scope s p E h) (Unit {0}) tt
          (c.in_ok-type_enriches-in-Some-get.ensures scope s p E (at_path path x) (sym e) (found-type E (env_of c.args.env.now) (at_path path x) (ty_str_of c.in-Some-get.found.now) h there));
    }
