use Rattle.std.proofs.Common.{◌≡◌, map, take}
use Rattle.sml_tree.specs.Views.{ident_of}
use Rattle.sml_rules.specs.Answers.{dotted}
use Rattle.sml_types.proofs.scope.dotted_text.Given as goal

abbrev pub invariant-loop-index : goal.invariant-loop-index
invariant-loop-index l = l.text.items ≡ dotted (map ident_of (take l.index l.idents))
