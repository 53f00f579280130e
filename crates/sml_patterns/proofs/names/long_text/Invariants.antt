use Rattle.std.proofs.Common.{◌≡◌, ◌++◌, ◌∷◌, [], map, take}
use Rattle.std.specs.Prelude.{flat_map}
use Rattle.sml_tree.specs.Views.{ident_of}
use Rattle.sml_patterns.proofs.names.long_text.Given as goal

abbrev pub invariant-loop-part : goal.invariant-loop-part
invariant-loop-part l = l.text.items ≡ flat_map (λ s. s ++ 46 ∷ []) (map ident_of (take l.part-index l.long.path.items))
