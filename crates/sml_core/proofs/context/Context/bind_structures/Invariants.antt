use Rattle.std.proofs.Common.{◌≡◌}
use Rattle.sml_objects.specs.Views.{entries_of}
use Rattle.sml_bases.specs.Views.{env_of, structures_of}
use Rattle.sml_core.proofs.Entering.{IsEntering, of_structures}
use Rattle.sml_core.proofs.context.Context.bind_structures.Given as goal

abbrev pub invariant-loop-name : goal.invariant-loop-name
invariant-loop-name l = record {
  entering : IsEntering l.fn.self.scopes l.self.scopes (of_structures (structures_of (entries_of (λ s. env_of s.value) l.fn.structures.entries))) (of_structures (structures_of (entries_of (λ s. env_of s.value) l.name-iterator)));
  same : l.self ≡ record l.fn.self { scopes = l.self.scopes; exports = l.self.exports; recorder = l.self.recorder };
  wanted : l.self.recorder.wanted ≡ l.fn.self.recorder.wanted;
}
