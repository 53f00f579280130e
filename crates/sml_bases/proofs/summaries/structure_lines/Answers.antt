use Rattle.std.proofs.Common.{◌+◌, ap, sym, ◌∙◌, map}
use Rattle.std.specs.Map.Iter.{deref_pair}
use Rattle.sml_objects.specs.Views.{entries_of}
use Rattle.sml_bases.specs.Entries.{capped, total}
use Rattle.sml_bases.specs.Summaries.{kept_lines}
use Rattle.sml_bases.proofs.Totals.{capped-more, total-more}
use Rattle.sml_bases.proofs.summaries.structure_lines.Goals as goal

pub loop-structure-preserved : goal.loop-structure-preserved
loop-structure-preserved c =
    let before = total (λ n. n + 1) (entries_of (λ s. kept_lines s.value) (map deref_pair c.loop-structure.yielded)) in
    c.saturating_add-lines.ensures
    ∙ (λ i. capped (c.loop-structure.invariant i + (kept_lines (c.deref.ensures i) + 1)))
    ∙ capped-more before (kept_lines c.in-Some.structure.now.value + 1)
    ∙ ap capped (sym (total-more (λ s. kept_lines s.value) (λ n. n + 1) c.loop-structure.yielded c.in-Some.field-0-0 c.in-Some.structure))
