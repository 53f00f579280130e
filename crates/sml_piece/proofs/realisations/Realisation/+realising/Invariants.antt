use Rattle.std.proofs.Common.{◌≡◌, map, take}
use Rattle.sml_objects.proofs.TypeViews.{parts_of}
use Rattle.sml_rules.specs.Matching.{realise_type}
use Rattle.sml_piece.specs.CodeMatched.{sends}
use Rattle.sml_piece.proofs.realisations.Realisation.+realising.Given as goal

abbrev pub invariant-all_realised-loop-ty : goal.invariant-all_realised-loop-ty
invariant-all_realised-loop-ty l =
    parts_of l.made.items ≡ map (realise_type (sends l.self.functions.entries)) (parts_of (take l.ty-index l.types))
