use Rattle.std.proofs.Common.{◌≡◌, map, take}
use Rattle.sml_objects.specs.Canonical.{renumber}
use Rattle.sml_objects.specs.Views.{maker_of, name_of}
use Rattle.sml_envs.proofs.canonical.Numbering.names.Given as goal

abbrev pub invariant-loop-name : goal.invariant-loop-name
invariant-loop-name l =
    map name_of l.numbered.items
    ≡ map (λ n. renumber (maker_of l.self.unit) l.self.count (map name_of l.self.names.now.keys) (name_of n)) (take l.name-index l.names)
