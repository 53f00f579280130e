use Rattle.std.proofs.Common.{◌≡◌, ap, sym, subst, ◌∙◌, IfOk, Global, map, Some, None}
use Rattle.std.proofs.lemmas.List.{take_all}
use Rattle.std.specs.Option.{option_map}
use Rattle.std.specs.declared.rc.Rc.{Rc}
use Rattle.sml_objects.specs.Objects as O
use Rattle.sml_objects.specs.Initial.{Name}
use Rattle.sml_objects.specs.Types.{applied}
use Rattle.sml_objects.specs.Objects.{types_of}
use Rattle.sml_objects.specs.Views.{type_of, scheme_of, name_of, label_list}
use Rattle.sml_objects.specs.declared.objects.MlType.{Bound, Free}
use Rattle.sml_objects.specs.declared.objects.MlType.TheViews as V
use Rattle.sml_objects.specs.declared.objects.Scheme.{Scheme}
use Rattle.sml_objects.proofs.TypeViews.{parts_of}
use Rattle.sml_objects.proofs.TypeCopies.{shared-type}
use Rattle.sml_rules.specs.Matching.{realise_type, realise_types}
use Rattle.sml_piece.specs.CodeMatched.{sends}
use Rattle.sml_piece.proofs.Realising.{realised_bound, realised_free, realised_row, realised_arrow, realised_name, realised_by_function, all_realised, looked_up}
use Rattle.sml_piece.proofs.realisations.Realisation.+realising.Goals as goal

pub realised-returns-in-Bound : goal.realised-returns-in-Bound
realised-returns-in-Bound t c =
    let φ = sends c.args.self.now.functions.entries in
    shared-type c.shared.result (Bound c.in-Bound.variable) _ (realised_bound φ c.in-Bound.variable ∙ ap (λ u. realise_type φ (type_of u)) (sym c.in-Bound.is)) c.shared.ensures

pub realised-returns-in-Free : goal.realised-returns-in-Free
realised-returns-in-Free t c =
    let φ = sends c.args.self.now.functions.entries in
    shared-type c.shared-in-Free.result (Free c.in-Free.variable) _ (realised_free φ c.in-Free.variable ∙ ap (λ u. realise_type φ (type_of u)) (sym c.in-Free.is)) c.shared-in-Free.ensures

pub realised-returns-in_ok-parts-in-Row : goal.realised-returns-in_ok-parts-in-Row
realised-returns-in_ok-parts-in-Row t c =
    let φ = sends c.args.self.now.functions.entries in
    shared-type c.shared-in-Row.result (V.Row c.in_ok-labels-in-Row.labels c.in_ok-parts-in-Row.parts) _
    (realised_row φ c.in-Row.labels c.in_ok-labels-in-Row.labels c.in-Row.parts c.in_ok-parts-in-Row.parts (ap label_list c.in_ok-labels-in-Row.ensures.cases) (c.in_ok-parts-in-Row.ensures ∙ ap (λ l. realise_types φ (types_of (parts_of l))) c.deref.ensures.value)
    ∙ ap (λ u. realise_type φ (type_of u)) (sym c.in-Row.is)) c.shared-in-Row.ensures

pub realised-returns-in_ok-to-in-Arrow : goal.realised-returns-in_ok-to-in-Arrow
realised-returns-in_ok-to-in-Arrow t c =
    let φ = sends c.args.self.now.functions.entries in
    shared-type c.shared-in-Arrow.result (V.Arrow c.in_ok-from-in-Arrow.from c.in_ok-to-in-Arrow.to) _
    (realised_arrow φ c.in-Arrow.from c.in-Arrow.to c.in_ok-from-in-Arrow.from c.in_ok-to-in-Arrow.to
    (c.in_ok-from-in-Arrow.ensures ∙ ap (λ u. realise_type φ (type_of u)) c.deref-in-Arrow.ensures)
    (c.in_ok-to-in-Arrow.ensures ∙ ap (λ u. realise_type φ (type_of u)) c.deref-in-Arrow-2.ensures)
    ∙ ap (λ u. realise_type φ (type_of u)) (sym c.in-Arrow.is)) c.shared-in-Arrow.ensures

abbrev see : Rc Scheme Global → O.Scheme Name
see s = scheme_of s.value

pub realised-returns-in-Some : goal.realised-returns-in-Some
realised-returns-in-Some t c =
    let es = c.args.self.now.functions.entries in
    let φ = sends es in
    let n = c.in-Name.name in
    let θ = scheme_of c.in-Some.function.now.value in
    let us = c.in_ok-arguments-in-Name.arguments in
    let same : types_of (parts_of us.items) ≡ realise_types φ (types_of (parts_of c.in-Name.arguments.items)) =
    c.in_ok-arguments-in-Name.ensures ∙ ap (λ l. realise_types φ (types_of (parts_of l))) c.deref-in-Name.ensures.value in
    let some : φ (name_of n) ≡ Some θ = sym (looked_up es n) ∙ ap (option_map see) (sym c.in-Some.ensures.value) in
    subst (λ u. IfOk c.apply.result (λ t. type_of t.value ≡ u))
    ((λ i. applied (scheme_of (c.deref-in-Some.ensures i)) (types_of (parts_of (c.deref-in-Some-2.ensures.value i))))
    ∙ realised_by_function φ n c.in-Name.arguments us θ same some ∙ ap (λ u. realise_type φ (type_of u)) (sym c.in-Name.is))
    c.apply.ensures

pub realised-returns-in-None : goal.realised-returns-in-None
realised-returns-in-None t c =
    let es = c.args.self.now.functions.entries in
    let φ = sends es in
    let n = c.in-Name.name in
    let us = c.in_ok-arguments-in-Name.arguments in
    let same : types_of (parts_of us.items) ≡ realise_types φ (types_of (parts_of c.in-Name.arguments.items)) =
    c.in_ok-arguments-in-Name.ensures ∙ ap (λ l. realise_types φ (types_of (parts_of l))) c.deref-in-Name.ensures.value in
    let none : φ (name_of n) ≡ None = sym (looked_up es n) ∙ ap (option_map see) (sym c.in-None.ensures.value) in
    shared-type c.shared-in-None.result (V.Name n us) _ (realised_name φ n c.in-Name.arguments us same none ∙ ap (λ u. realise_type φ (type_of u)) (sym c.in-Name.is)) c.shared-in-None.ensures

pub all_realised-returns : goal.all_realised-returns
all_realised-returns t c =
    let φ = sends c.args.self.now.functions.entries in
    ap types_of (c.loop-ty.invariant ∙ ap (λ l. map (realise_type φ) (parts_of l)) (take_all c.loop-ty.ty-index c.args.types.now c.loop-ty-test.false))
    ∙ all_realised φ (parts_of c.args.types.now)
