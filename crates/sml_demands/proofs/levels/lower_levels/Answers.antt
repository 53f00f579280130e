use Rattle.std.proofs.Common.{◌≡◌, ◌+◌, ◌∷◌, [], ◌++◌, take, get_or}
use Rattle.std.proofs.lemmas.List.{get_or_default}
use Rattle.sml_demands.specs.CodeLevels.{level_of}
use Rattle.sml_graph.proofs.Interning.{take-next}
use Rattle.sml_demands.proofs.Levelling.{levels-then}
use Rattle.sml_demands.proofs.levels.lower_levels.Goals as goal

pub loop-part-preserved : goal.loop-part-preserved
loop-part-preserved c =
    let ks = c.args.parts.now in
    let i = c.loop-part.part-index in
    let next : take (i + 1) ks ≡ take i ks ++ get_or ks i 0 ∷ [] = take-next ks i (get_or ks i 0) c.loop-part-test.true (get_or_default ks i 0 (get_or ks i 0) c.loop-part-test.true) in
    rw next (levels-then c.args.levels.now.items c.loop-part.levels.items c.lower_level.new.levels.items c.args.pending.now.items c.loop-part.pending.items c.lower_level.new.pending.items (take i ks) (get_or ks i 0 ∷ []) (level_of c.args.level) c.loop-part.invariant c.in_ok-lower_level.ensures)
