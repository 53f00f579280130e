use Rattle.std.proofs.Common.{ap, sym, ◌∙◌, [], ◌∷◌, Bor, Global}
use Rattle.std.specs.declared.rc.Rc.{Rc}
use Rattle.sml_lex.specs.declared.fault.Code.TheVariants.{M1, M2}
use Rattle.sml_tree.specs.Views.{ident_of}
use Rattle.sml_objects.specs.declared.objects.Scheme.{Scheme}
use Rattle.sml_objects.specs.Views.{env_of, scheme_of}
use Rattle.sml_rules.specs.Answers.{fault_at}
use Rattle.sml_piece.proofs.Answering.{refused_by}
use Rattle.sml_piece.proofs.Matches.{name_there, name_arity, name_missing}
use Rattle.sml_piece.proofs.matching.type_function.Goals as goal

abbrev unit : Bor (Rc Scheme Global) → Unit {0}
unit f = tt

pub returns-then-len-clause-answer : goal.returns-then-len-clause-answer
returns-then-len-clause-answer c =
    let mine = c.in-Some.function.now.value.variables.ok.0 in
    let theirs = c.args.specified.now.variables.ok.0 in
    name_there c.args.place (env_of c.args.structure.now) (ident_of c.args.name.now, scheme_of c.args.specified.now) (scheme_of c.in-Some.function.now.value) (sym c.in-Some.ensures)
    (sym mine ∙ ap (λ s. s.variables.len) (sym c.deref.ensures) ∙ sym c.len.ensures ∙ c.if-len.true ∙ c.len-in-Some.ensures ∙ theirs)

pub returns-else-len-clause-answer : goal.returns-else-len-clause-answer
returns-else-len-clause-answer c =
    let x = ident_of c.args.name.now in
    refused_by unit _ c.fault_of.result (fault_at M2 c.args.place (x ∷ [])) c.fault_of.ensures
    (name_arity c.args.place (env_of c.args.structure.now) (x, scheme_of c.args.specified.now) (scheme_of c.in-Some.function.now.value) (sym c.in-Some.ensures) (λ e.
    let mine = c.in-Some.function.now.value.variables.ok.0 in
    let theirs = c.args.specified.now.variables.ok.0 in
    c.if-len.false (c.len.ensures ∙ ap (λ s. s.variables.len) c.deref.ensures ∙ mine ∙ e ∙ sym theirs ∙ sym c.len-in-Some.ensures)))

pub returns-in-None-clause-answer : goal.returns-in-None-clause-answer
returns-in-None-clause-answer c =
    let x = ident_of c.args.name.now in
    refused_by unit _ c.fault_of-in-None.result (fault_at M1 c.args.place (x ∷ [])) c.fault_of-in-None.ensures
    (name_missing c.args.place (env_of c.args.structure.now) (x, scheme_of c.args.specified.now) (sym c.in-None.ensures))
