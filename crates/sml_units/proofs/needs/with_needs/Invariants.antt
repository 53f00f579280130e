use Rattle.std.proofs.Common.{◌≡◌, Bool, true, List, [], take}
use Rattle.std.specs.List.{list_all}
use Rattle.sml_objects.specs.Objects.{Sig}
use Rattle.sml_objects.specs.Initial.{Name, initial_basis}
use Rattle.sml_objects.specs.Views.{env_of}
use Rattle.sml_units.specs.CodeUnits.{AreExported}
use Rattle.sml_units.specs.Runs.{needed, flag_at}
use Rattle.sml_units.proofs.needs.with_needs.Given as goal

abbrev pub invariant-loop-need : goal.invariant-loop-need
invariant-loop-need l =
    ((fs : List Bool) (Ss : List (Sig Name)) → AreExported fs Ss l.exports → env_of l.fn.basis.env ≡ initial_basis.body
    → (list_all (flag_at fs) (take l.need-index l.needs) ≡ true) × ((needed initial_basis Ss (take l.need-index l.needs)).body ≡ env_of l.basis.env))
    × (l.basis.names.items ≡ l.fn.basis.names.items) × (l.basis.unit ≡ l.fn.basis.unit)
