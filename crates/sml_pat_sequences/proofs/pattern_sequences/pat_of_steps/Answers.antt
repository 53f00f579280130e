use Rattle.std.proofs.Common.{get_or}
use Rattle.sml_pat_sequences.proofs.PatternSequences.{step_fails, steps-next-height, all_to_build}
use Rattle.sml_pat_sequences.specs.PatternSequences.{step}
use Rattle.sml_pat_sequences.specs.LowViews.{building_of}
use Rattle.sml_fixity.specs.declared.sequences.Step.TheVariants.{Push}
use Rattle.sml_pat_sequences.proofs.pattern_sequences.pat_of_steps.Goals as goal

pub loop-next-init : goal.loop-next-init
loop-next-init c = all_to_build c.args.steps.now c.args.atoms.trees.items c.reverse.new.self.items c.new.result.items c.reverse.ensures.items c.new.ensures.items

pub returns-in_err-building : goal.returns-in_err-building
returns-in_err-building c =
    step_fails (step (get_or c.args.steps.now c.loop-next.next-index (Push 0)) (building_of c.loop-next.building)) _ c.in_err-building.field-0.0 c.from_residual.result c.in_err-building.ensures c.from_residual.ensures.1
    (steps-next-height c.args.steps.now c.loop-next.next-index (Push 0) (building_of c.loop-next.building) _ c.loop-next-test.true c.loop-next.invariant)
