use Rattle.std.proofs.Common.{◌≡◌, map, take}
use Rattle.sml_tree.specs.Height.{counted}
use Rattle.sml_tree.specs.Heights.{highest, val_desc_height}
use Rattle.sml_tree.specs.SignatureViews.{val_desc_of}
use Rattle.sml_tree.proofs.heights.height_of_val_descs.Given as goal

abbrev pub invariant-loop-desc : goal.invariant-loop-desc
invariant-loop-desc l = l.most ≡ counted (highest val_desc_height (map val_desc_of (take l.desc-index l.descs)))
