use Rattle.std.proofs.Common.{rules}
use Rattle.sml_tree.specs.TypeViews.{name_of}
use Rattle.sml_tree.specs.Patterns.{pat_field}
use Rattle.sml_tree.specs.declared.patterns.Pat.TheFolds.{fold-roll-PatField}
use Rattle.sml_pat_sequences.specs.LowViews.{low_pat_of}
use Rattle.sml_bare_pats.proofs.PatternFields.{field_pushed, field_heights}
use Rattle.sml_bare_pats.proofs.pattern_parts.and_field.Goals as goal

pub returns : goal.returns
returns c = field_pushed _ _ _ (pat_field (name_of c.args.label) (low_pat_of c.args.pat)) c.in_ok-push.ensures.items (search (rules, fold-roll-PatField))

pub invariant_of-result-clause-measured : goal.invariant_of-result-clause-measured
invariant_of-result-clause-measured c =
    field_heights _ _ (name_of c.args.label) (low_pat_of c.args.pat) _ _ _
    (field_pushed _ _ _ (pat_field (name_of c.args.label) (low_pat_of c.args.pat)) c.in_ok-push.ensures.items (search (rules, fold-roll-PatField)))
    c.args.pat.measured c.args.fields.measured c.max-height.ensures
