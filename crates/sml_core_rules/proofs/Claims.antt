-- What is claimed of readings that ask nothing of unknown types.
use Rattle.std.specs.Prelude.{[]}
use Rattle.sml_core_rules.specs.Objects.{empty}
use Rattle.sml_core_rules.specs.States.{Scope}
use Rattle.sml_core_rules.specs.Statements.{ReadingsDerive}
use Rattle.sml_core_rules.proofs.Derived.{ty-to, ty-from, type-binds-to, type-binds-from, all-arguments-to, all-arguments-from, exceptions-to, exceptions-from, opened-to, opened-from}
use Rattle.sml_core_rules.proofs.Datatypes.{datatypes-derive}

pub readings-derive : {N : Type 0} (scope : Scope N) → ReadingsDerive scope
readings-derive scope = record {
  types = λ C vs u t. (ty-to C vs u t, ty-from C vs u t);
  type_bindings = λ C bs ts. (type-binds-to C [] bs ts, type-binds-from C [] bs ts);
  arguments = λ C ds gs. (all-arguments-to C ds gs, all-arguments-from C ds gs);
  exceptions = λ C vs bs xs. (exceptions-to scope C vs [] bs xs, exceptions-from scope C vs [] bs xs);
  datatypes = datatypes-derive scope;
  opened = λ C ss E. (opened-to scope C empty ss E, opened-from scope C empty ss E);
}
