use Rattle.std.proofs.Common.{◌≡◌, map, drop}
use Rattle.sml_bare_exps.specs.ExpressionSequences.{exp_of_steps, starting}
use Rattle.sml_bare_exps.specs.ExpressionViews.{building_of, low_exp_of}
use Rattle.sml_bare_exps.proofs.expression_sequences.exp_of_steps.Given as goal

abbrev pub invariant-loop-step : goal.invariant-loop-step
invariant-loop-step l =
    exp_of_steps l.fn.steps (starting (map low_exp_of l.fn.atoms.items)) ≡ exp_of_steps (drop l.step-index l.steps) (building_of l.building)
