use Rattle.std.proofs.Common.{◌≡◌, map, take}
use Rattle.sml_tree.specs.Views.{spec_of}
use Rattle.sml_tree.specs.Height.{specs_height, counted}
use Rattle.sml_tree.proofs.height.height_of_specs.Given as goal

abbrev pub invariant-loop-spec : goal.invariant-loop-spec
invariant-loop-spec l = l.most ≡ counted (specs_height (map spec_of (take l.spec-index l.specs)))
