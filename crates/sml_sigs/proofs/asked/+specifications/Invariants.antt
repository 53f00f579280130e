use Rattle.std.proofs.Common.{◌≡◌, map, take}
use Rattle.sml_tree.specs.SignatureViews.{spec_of, specs_of, str_desc_of, str_descs_of}
use Rattle.sml_sigs.specs.Asked.{how_much, specs_ask, str_descs_ask}
use Rattle.sml_sigs.proofs.asked.+specifications.Given as goal

abbrev pub invariant-asked_by_specs-loop-spec : goal.invariant-asked_by_specs-loop-spec
invariant-asked_by_specs-loop-spec l = how_much l.asked ≡ specs_ask (specs_of (map spec_of (take l.spec-index l.specs)))

abbrev pub invariant-asked_by_structures-loop-desc : goal.invariant-asked_by_structures-loop-desc
invariant-asked_by_structures-loop-desc l = how_much l.asked ≡ str_descs_ask (str_descs_of (map str_desc_of (take l.desc-index l.descs)))
