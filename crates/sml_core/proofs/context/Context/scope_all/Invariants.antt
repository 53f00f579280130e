use Rattle.sml_closing.specs.Gathered.{ids_of}
use Rattle.sml_core.proofs.Scoping.{IsScoping}
use Rattle.sml_core.proofs.context.Context.scope_all.Given as goal

abbrev pub invariant-loop-name : goal.invariant-loop-name
invariant-loop-name l = IsScoping l.fn.self (ids_of l.fn.names.keys) l.scoped.items (ids_of l.name-iterator) l.self
