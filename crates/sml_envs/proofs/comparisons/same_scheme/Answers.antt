use Rattle.std.proofs.Common.{◌≡◌, true, ap, sym, ◌∙◌}
use Rattle.std.proofs.lemmas.Slice.Eq.{slice_eq-Decides}
use Rattle.std.specs.Cmp.{booleans_Decides}
use Rattle.sml_objects.specs.Initial.{Name}
use Rattle.sml_objects.specs.Objects as O
use Rattle.sml_objects.specs.Views.{type_of}
use Rattle.sml_envs.proofs.comparisons.same_scheme.Goals as goal

pub returns-then-eq-clause-yes : goal.returns-then-eq-clause-yes
returns-then-eq-clause-yes c = λ h.
    let v : c.args.one.now.variables.items ≡ c.args.other.now.variables.items =
    sym c.as_slice.ensures.value ∙ (slice_eq-Decides booleans_Decides _ _ _ c.eq.ensures).0 c.if-eq.true ∙ c.as_slice-2.ensures.value in
    let b : type_of c.args.one.now.body.value ≡ type_of c.args.other.now.body.value =
    ap type_of (sym c.deref.ensures) ∙ c.same_type.ensures.yes h ∙ ap type_of c.deref-then-eq.ensures in
    λ i. record { variables = v i; body = b i }

pub returns-else-eq-clause-no : goal.returns-else-eq-clause-no
returns-else-eq-clause-no c = λ h e.
    let t : c.eq.result ≡ true =
    (slice_eq-Decides booleans_Decides _ _ _ c.eq.ensures).1 (c.as_slice.ensures.value ∙ ap (λ (s : O.Scheme Name). s.variables) e ∙ sym c.as_slice-2.ensures.value) in
    cc
