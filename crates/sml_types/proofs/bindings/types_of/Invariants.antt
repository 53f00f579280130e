use Rattle.std.proofs.Common.{◌≡◌, [], length, map, take}
use Rattle.sml_tree.specs.BindingViews.{typ_bind_of}
use Rattle.sml_bases.specs.Views.{env_of}
use Rattle.sml_core_rules.specs.Objects.{of_types}
use Rattle.sml_types.specs.Bindings.{put_types}
use Rattle.sml_types.proofs.Meanings.{meanings}
use Rattle.sml_types.proofs.bindings.types_of.Given as goal

abbrev pub invariant-loop-bind : goal.invariant-loop-bind
invariant-loop-bind l =
    env_of l.env ≡ of_types (put_types [] (map typ_bind_of (take (length l.yielded) l.binds)) (meanings (take (length l.yielded) l.sides)))
