-- Names of a project as those of another one, in which units stand at other places.
use Rattle.std.specs.Prelude.{ℕ, ◌-◌, List, slice_index_or, Option, Some, None}
use Rattle.sml_objects.specs.Initial.{Name, initial, made}
use Rattle.sml_objects.specs.Views.{maker_of}
use Rattle.sml_objects.specs.declared.objects.UnitId.{UnitId}

-- the unit at its place in the other project, if it stands there
abbrev pub moved_to : ℕ → Option UnitId → ℕ
moved_to u None = u
moved_to u (Some p) = maker_of p

abbrev pub moved_name : List (Option UnitId) → Name → Name
moved_name ps (initial k) = initial k
moved_name ps (made u n a q) = made (moved_to u (slice_index_or ps (u - 1) None)) n a q
