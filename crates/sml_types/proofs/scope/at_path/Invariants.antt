use Rattle.std.proofs.Common.{◌≡◌, Some, map, take, drop}
use Rattle.sml_tree.specs.Views.{ident_of}
use Rattle.sml_objects.specs.Initial.{Name}
use Rattle.sml_core_rules.specs.Lookups.{find_at}
use Rattle.sml_core_rules.specs.Objects.{Env}
use Rattle.sml_bases.specs.Views.{env_of}
use Rattle.sml_types.specs.Answered.{TellsOf, env_at}
use Rattle.sml_types.proofs.scope.at_path.Given as goal

-- what is left of the path leads on from here
abbrev pub invariant-loop-index : goal.invariant-loop-index
invariant-loop-index g l =
    (C : Env Name) → TellsOf (g.S.Scope.says_structure l.scope) (g.S.Scope.says_type l.scope) C
    → find_at (λ E. Some E) (take l.index (map ident_of l.long.path.items)) (drop l.index (map ident_of l.long.path.items)) (env_of l.env.value)
    ≡ env_at C (map ident_of l.long.path.items)
