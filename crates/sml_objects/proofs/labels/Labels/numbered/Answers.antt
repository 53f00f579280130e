use Rattle.std.proofs.Common.{ap, sym, subst, ◌∙◌, arith, ◌++◌, ◌∷◌, ◌+◌, [], map}
use Rattle.std.proofs.lemmas.List.{map-append}
use Rattle.sml_tree.specs.Views.{ident_of}
use Rattle.sml_objects.specs.Labels.{AreRising}
use Rattle.sml_objects.proofs.DecimalLabels.{numbers-rise, numbers-push}
use Rattle.sml_objects.proofs.labels.Labels.numbered.Goals as goal

pub invariant_of-result : goal.invariant_of-result
invariant_of-result c =
    record { rising = subst AreRising (sym c.loop-index.invariant) (numbers-rise 1 c.loop-index.index (omega arith) (omega (arith, c.ranges.count, c.loop-index-test.false, c.loop-index.auto.index-end))) }

pub loop-index-preserved : goal.loop-index-preserved
loop-index-preserved c =
    ap (map ident_of) c.in_ok-push.ensures.items
    ∙ map-append ident_of c.loop-index.list.items (c.in_ok-decimal_label.field-0 ∷ [])
    ∙ (λ i. c.loop-index.invariant i ++ (c.in_ok-decimal_label.ensures i ∷ []))
    ∙ numbers-push 1 c.loop-index.index (c.loop-index.index + 1) (c.loop-index.index + 1) (omega arith) (omega arith)
