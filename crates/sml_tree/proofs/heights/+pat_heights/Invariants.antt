use Rattle.std.proofs.Common.{◌≡◌, map, take}
use Rattle.sml_tree.specs.Height.{counted}
use Rattle.sml_tree.specs.Heights.{pats_height, pat_fields_height}
use Rattle.sml_tree.specs.PatternViews.{pats_of, pat_of, pat_fields_of, pat_field_of}
use Rattle.sml_tree.proofs.heights.+pat_heights.Given as goal

abbrev pub invariant-height_of_pats-loop-pat : goal.invariant-height_of_pats-loop-pat
invariant-height_of_pats-loop-pat l = l.most ≡ counted (pats_height (pats_of (map pat_of (take l.pat-index l.pats))))

abbrev pub invariant-height_of_pat_fields-loop-field : goal.invariant-height_of_pat_fields-loop-field
invariant-height_of_pat_fields-loop-field l = l.most ≡ counted (pat_fields_height (pat_fields_of (map pat_field_of (take l.field-index l.fields))))
