use Rattle.sml_lex.specs.declared.fault.Place.{Place}
use Rattle.sml_tree.specs.PatternViews.{pat_of}
use Rattle.sml_tree.specs.declared.expressions.Rule.{out-Rule}
use Rattle.sml_objects.specs.Initial.{Name}
use Rattle.sml_core_rules.specs.Patterns.{pattern_place}
use Rattle.sml_core_rules.specs.States.{State}
use Rattle.sml_core.specs.Patterns.{AreBoundIn}
use Rattle.sml_core.proofs.Opening.{IsBinding, bindings-left}
use Rattle.sml_core.proofs.context.Context.rule_pattern.Given as goal

abbrev pub invariant-loop-name : goal.invariant-loop-name
invariant-loop-name l =
    ((s : State Place Name) → AreBoundIn s (bindings-left l.initial.name-iterator) → AreBoundIn s (bindings-left l.name-iterator))
    × IsBinding l.initial.self (pattern_place (pat_of (out-Rule l.fn.rule).pat)) (bindings-left l.initial.name-iterator) (bindings-left l.name-iterator) l.self
