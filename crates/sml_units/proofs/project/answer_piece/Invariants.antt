use Rattle.std.proofs.Common.{◌≡◌, ◌≤◌, List, [], true, length, map, take}
use Rattle.std.specs.List.{list_all}
use Rattle.sml_tree.specs.Views.{dec_of}
use Rattle.sml_objects.specs.Objects as O
use Rattle.sml_objects.specs.Initial.{Name, naming}
use Rattle.sml_objects.specs.Views.{env_of, maker_of}
use Rattle.sml_piece.specs.Elaborated.{IsBasisOf}
use Rattle.sml_units.specs.Checked.{Answered, AreNumbered, AreRepliesTo}
use Rattle.sml_rules.specs.Readings.{is_specified}
use Rattle.sml_units.specs.Runs.{Run, exports, nothing}
use Rattle.sml_units.proofs.Replying.{after_all}
use Rattle.sml_units.proofs.project.answer_piece.Given as goal

abbrev pub invariant-loop-dec : goal.invariant-loop-dec
invariant-loop-dec l =
    (list_all is_specified (map dec_of (take l.dec-index l.declarations)) ≡ true) × (length l.replies.items ≡ l.dec-index) × (l.dec-index ≤ length l.declarations)
    × ((B : O.Basis Name) → IsBasisOf l.fn.basis B → (os : List Answered) × Run naming (maker_of l.fn.basis.unit) B (map dec_of (take l.dec-index l.declarations)) os
    × AreRepliesTo 1 os l.replies.items × IsBasisOf l.basis (after_all B os) × (l.basis.unit ≡ l.fn.basis.unit) × (env_of l.bound.env ≡ (exports nothing os).body))
    × AreNumbered 1 l.replies.items
