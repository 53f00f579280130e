-- The names that a signature binds.
use Rattle.std.specs.Prelude.{cond, List, Option, Some, None}
use Rattle.sml_objects.specs.Initial.{Name, naming}
use Rattle.sml_objects.specs.Appearance.{stands}

-- the name that there is, where it stands among these
abbrev pub bound_as : List Name → Option Name → Option Name
bound_as ns None = None
bound_as ns (Some n) = cond (stands naming n ns) (Some n) None
