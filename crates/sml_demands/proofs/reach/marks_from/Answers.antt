use Rattle.sml_demands.proofs.Reaching.{reach-end}
use Rattle.sml_demands.proofs.reach.marks_from.Goals as goal

pub returns : goal.returns
returns c = reach-end c.args.nodes.now c.args.from.now c.in_ok-marks.marks.items c.in_ok-marks.ensures
