use Rattle.std.proofs.Common.{◌≡◌, ap, sym, subst, ◌∙◌, [], ◌∷◌}
use Rattle.sml_lex.specs.declared.fault.Code.TheVariants.{M1, M6}
use Rattle.sml_tree.specs.Views.{ident_of}
use Rattle.sml_objects.specs.Views.{env_of, scheme_of, type_of}
use Rattle.sml_rules.specs.Answers.{fault_at}
use Rattle.sml_rules.specs.Matching.{realise_type}
use Rattle.sml_rules.specs.Rules.{IsOpen, IsInstance}
use Rattle.sml_piece.specs.CodeMatched.{sends, Decides}
use Rattle.sml_piece.proofs.Answering.{refused_by}
use Rattle.sml_piece.proofs.Matches.{value_there, value_not, value_missing}
use Rattle.sml_piece.proofs.matching.value_agrees.Goals as goal

pub returns-in_default : goal.returns-in_default
returns-in_default c = λ o.
    let x = ident_of c.args.name.now in
    refused_by (λ u. u) _ c.fault_of.result (fault_at M1 c.args.place (x ∷ [])) c.fault_of.ensures
    (value_missing c.args.place (env_of c.args.structure.now) (x, scheme_of c.args.specified.now) (sends c.args.realisation.now.functions.entries) (sym c.in_default.ensures))

pub returns-in-Ok-true : goal.returns-in-Ok-true
returns-in-Ok-true c = λ o.
    let φ = sends c.args.realisation.now.functions.entries in
    let σ = scheme_of c.in-Some.scheme.now.value in
    let same : type_of c.in-Ok.realised.value ≡ realise_type φ (type_of c.args.specified.now.body.value) = c.in-Ok.ensures ∙ ap (λ u. realise_type φ (type_of u)) c.deref.ensures in
    let right = subst (λ b. Decides (IsInstance (scheme_of c.deref-2.result.now) (type_of c.in-Ok.realised.value)) b) c.in-Ok-true.field-0-test (c.in-Ok-true.ensures (subst IsOpen (sym same) o)) in
    value_there c.args.place (env_of c.args.structure.now) (ident_of c.args.name.now, scheme_of c.args.specified.now) φ σ (sym c.in-Some.ensures)
    (subst (IsInstance σ) same (subst (λ s. IsInstance (scheme_of s) (type_of c.in-Ok.realised.value)) c.deref-2.ensures right))

pub returns-in-Ok-false : goal.returns-in-Ok-false
returns-in-Ok-false c = λ o.
    let φ = sends c.args.realisation.now.functions.entries in
    let x = ident_of c.args.name.now in
    let σ = scheme_of c.in-Some.scheme.now.value in
    let same : type_of c.in-Ok.realised.value ≡ realise_type φ (type_of c.args.specified.now.body.value) = c.in-Ok.ensures ∙ ap (λ u. realise_type φ (type_of u)) c.deref.ensures in
    let right = subst (λ b. Decides (IsInstance (scheme_of c.deref-2.result.now) (type_of c.in-Ok.realised.value)) b) c.in-Ok-false.field-0-test (c.in-Ok-false.ensures (subst IsOpen (sym same) o)) in
    refused_by (λ u. u) _ c.fault_of-in-Ok-false.result (fault_at M6 c.args.place (x ∷ [])) c.fault_of-in-Ok-false.ensures
    (value_not c.args.place (env_of c.args.structure.now) (x, scheme_of c.args.specified.now) φ σ (sym c.in-Some.ensures)
    (λ i. right (subst (λ s. IsInstance (scheme_of s) (type_of c.in-Ok.realised.value)) (sym c.deref-2.ensures) (subst (IsInstance σ) (sym same) i))))
