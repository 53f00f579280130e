use Rattle.std.proofs.Common.{◌≡◌}
use Rattle.sml_objects.specs.Views.{entries_of}
use Rattle.sml_bases.specs.Views.{value_of}
use Rattle.sml_core_rules.specs.Objects.{of_values}
use Rattle.sml_core.proofs.Entering.{IsEntering}
use Rattle.sml_core.proofs.context.Context.bind_values.Given as goal

abbrev pub invariant-loop-name : goal.invariant-loop-name
invariant-loop-name l = record {
  entering : IsEntering l.fn.self.scopes l.self.scopes (of_values (entries_of value_of l.fn.values.entries)) (of_values (entries_of value_of l.name-iterator));
  same : l.self ≡ record l.fn.self { scopes = l.self.scopes; exports = l.self.exports };
}
