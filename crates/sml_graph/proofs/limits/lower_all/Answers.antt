use Rattle.std.proofs.Common.{◌≡◌, ◌+◌, ◌∷◌, [], ◌++◌, take, get_or}
use Rattle.std.proofs.lemmas.List.{get_or_default}
use Rattle.sml_graph.proofs.Interning.{take-next}
use Rattle.sml_graph.proofs.Limiting.{lowers-then}
use Rattle.sml_graph.proofs.limits.lower_all.Goals as goal

pub loop-part-preserved : goal.loop-part-preserved
loop-part-preserved c =
    let ks = c.args.parts.now in
    let i = c.loop-part.part-index in
    let next : take (i + 1) ks ≡ take i ks ++ get_or ks i 0 ∷ [] = take-next ks i (get_or ks i 0) c.loop-part-test.true (get_or_default ks i 0 (get_or ks i 0) c.loop-part-test.true) in
    rw next (lowers-then c.args.limits.now c.loop-part.limits c.lower.new.limits c.args.pending.now.items c.loop-part.pending.items c.lower.new.pending.items (take i ks) (get_or ks i 0 ∷ []) c.args.limit c.loop-part.invariant c.in_ok-lower.ensures)
