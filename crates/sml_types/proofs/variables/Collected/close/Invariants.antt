use Rattle.std.proofs.Common.{◌≡◌, ℕ, map, Vec, Global}
use Rattle.std.specs.Map.Iter.{deref}
use Rattle.std.specs.declared.rc.Rc.{Rc}
use Rattle.sml_tree.specs.Views.{ident_of}
use Rattle.sml_core_rules.specs.Datatypes.{is_equality}
use Rattle.sml_types.proofs.variables.Collected.close.Given as goal

abbrev pub invariant-loop-name : goal.invariant-loop-name
invariant-loop-name l = l.equality.items ≡ map is_equality (map ident_of (map (deref {X = Rc (Vec ℕ Global) Global}) l.yielded))
