use Rattle.std.proofs.Common.{◌≡◌}
use Rattle.sml_objects.specs.Views.{entries_of}
use Rattle.sml_bases.specs.Views.{ty_str_of}
use Rattle.sml_core_rules.specs.Objects.{of_types}
use Rattle.sml_core.proofs.Entering.{IsEntering}
use Rattle.sml_core.proofs.context.Context.bind_types.Given as goal

abbrev pub invariant-loop-name : goal.invariant-loop-name
invariant-loop-name l = record {
  entering : IsEntering l.fn.self.scopes l.self.scopes (of_types (entries_of ty_str_of l.fn.types.entries)) (of_types (entries_of ty_str_of l.name-iterator));
  same : l.self ≡ record l.fn.self { scopes = l.self.scopes; exports = l.self.exports; recorder = l.self.recorder };
  wanted : l.self.recorder.wanted ≡ l.fn.self.recorder.wanted;
}
