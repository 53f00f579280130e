use Rattle.std.proofs.Common.{◌≡◌, refl, ap, sym, ◌∙◌, [], ◌∷◌, Some}
use Rattle.std.proofs.lemmas.Option.{none-some}
use Rattle.std.proofs.lemmas.Bool.{true≢false}
use Rattle.std.proofs.lemmas.Slice.Eq.{slice_eq-Decides}
use Rattle.std.specs.Cmp.{booleans_Decides}
use Rattle.sml_lex.specs.declared.fault.Code.TheVariants.{M4}
use Rattle.sml_tree.specs.Views.{ident_of}
use Rattle.sml_objects.specs.Views.{scheme_of, type_of}
use Rattle.sml_rules.specs.Answers.{fault_at}
use Rattle.sml_rules.specs.Matching.{realise_scheme, realise_type}
use Rattle.sml_piece.specs.CodeMatched.{sends}
use Rattle.sml_piece.proofs.Answering.{refused_by, passes, fails}
use Rattle.sml_piece.proofs.Matches.{some_same}
use Rattle.sml_piece.proofs.matching.type_agrees.Goals as goal
use Rattle.sml_piece.proofs.matching.type_agrees.Goals.{else-eq-via-then-eq+else-same_type, else-eq-via-else-eq}

pub returns-then-same_type : goal.returns-then-same_type
returns-then-same_type c =
    let φ = sends c.args.realisation.now.functions.entries in
    let f = c.in-Some.function.now.value in
    let σ = c.args.specified.now in
    let same : f.variables.items ≡ σ.variables.items =
    ap (λ s. s.variables.items) (sym c.deref-in-Some.ensures) ∙ (slice_eq-Decides booleans_Decides _ _ c.eq.result c.eq.ensures).0 c.if-eq.true in
    let body : type_of f.body.value ≡ realise_type φ (type_of σ.body.value) =
    ap type_of (sym (c.deref-then-eq-2.ensures ∙ ap (λ s. s.body.value) c.deref-then-eq.ensures)) ∙ c.if-same_type.ensures.yes refl ∙ ap type_of c.deref-then-eq-3.ensures ∙ c.in-Ok.ensures ∙ ap (λ u. realise_type φ (type_of u)) c.deref.ensures in
    passes _ _ (sym c.in-Some.ensures ∙ (λ i. Some (record { variables = same i; body = body i })))

pub returns-in-Some : goal.returns-in-Some
returns-in-Some c =
    let φ = sends c.args.realisation.now.functions.entries in
    let f = c.in-Some.function.now.value in
    let σ = c.args.specified.now in
    refused_by (λ u. u) _ c.fault_of.result (fault_at M4 c.args.place (ident_of c.args.name.now ∷ [])) c.fault_of.ensures (fails _ _ (λ h.
    let e : scheme_of f ≡ realise_scheme φ (scheme_of σ) = some_same _ _ (c.in-Some.ensures ∙ h) in
    elim c.else-eq.branch [
      | else-eq-via-then-eq+else-same_type w ↦ w.if-same_type.ensures.no refl
          (ap type_of (w.deref-then-eq-2.ensures ∙ ap (λ s. s.body.value) w.deref-then-eq.ensures) ∙ ap (λ s. s.body) e
          ∙ sym (ap type_of w.deref-then-eq-3.ensures ∙ c.in-Ok.ensures ∙ ap (λ u. realise_type φ (type_of u)) c.deref.ensures))
      | else-eq-via-else-eq w ↦ true≢false (sym ((slice_eq-Decides booleans_Decides _ _ c.eq.result c.eq.ensures).1 (ap (λ s. s.variables.items) c.deref-in-Some.ensures ∙ ap (λ s. s.variables) e)) ∙ w.if-eq.false)
    ]))

pub returns : goal.returns
returns c =
    refused_by (λ u. u) _ c.fault_of-in-None.result (fault_at M4 c.args.place (ident_of c.args.name.now ∷ [])) c.fault_of-in-None.ensures (fails _ _ (λ h. none-some _ (c.in-None.ensures ∙ h)))
