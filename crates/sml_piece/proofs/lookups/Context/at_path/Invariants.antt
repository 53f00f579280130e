use Rattle.std.proofs.Common.{◌≡◌, [], map, take, drop}
use Rattle.std.specs.Prelude.{Option}
use Rattle.sml_tree.specs.Views.{ident_of}
use Rattle.sml_objects.specs.Objects.{Env, Scheme}
use Rattle.sml_objects.specs.Initial.{Name}
use Rattle.sml_objects.specs.Views.{env_of}
use Rattle.sml_rules.specs.Lookups.{find_at}
use Rattle.sml_piece.specs.Elaborated.{Shows, Numbers}
use Rattle.sml_piece.proofs.lookups.Context.at_path.Given as goal

-- what is left of the path leads on from here
abbrev pub invariant-loop-index : goal.invariant-loop-index
invariant-loop-index l =
    (locals : Numbers) (C : Env Name) → Shows locals (env_of l.self.outer.now) (env_of l.self.inner.now) C → (pick : Env Name → Option (Scheme Name))
    → find_at pick (take l.index (map ident_of l.long.path.items)) (drop l.index (map ident_of l.long.path.items)) (env_of l.env)
    ≡ find_at pick [] (map ident_of l.long.path.items) C
