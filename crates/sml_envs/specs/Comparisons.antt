-- Type functions that are equal (the Definition, section 4.4).
use Rattle.std.specs.Prelude.{◌≡◌, length}
use Rattle.sml_objects.specs.Objects.{Scheme}

-- They take as many types and give the same for them. The equality attributes of their variables have no effect.
abbrev pub AreSameFunction : {N : Type 0} → Scheme N → Scheme N → Type 0
AreSameFunction θ η = (length θ.variables ≡ length η.variables) × (θ.body ≡ η.body)
