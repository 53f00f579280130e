-- What is kept of a pattern between two roles.
use Rattle.std.specs.Prelude.{ℕ, Bool, true, false, cond, Option, Some, None, unwrap_or, option_map, List, [], ◌∷◌}
use Rattle.sml_fixity.specs.declared.roles.Role.{Role}
use Rattle.sml_fixity.specs.declared.roles.Role.TheVariants.{Atom, Infix}
use Rattle.sml_fixity.specs.declared.patterns.Run.{Run}
use Rattle.sml_fixity.specs.declared.patterns.Run.TheVariants.{Start, Name, Whole}

abbrev pub next_run : (ℕ → Bool) → Role → Run → Option Run
next_run names (Infix q) r = Some Start
next_run names (Atom a) Start = cond (names a) (Some Name) (Some Whole)
next_run names (Atom a) Name = Some Whole
next_run names (Atom a) Whole = None

abbrev pub runs : (ℕ → Bool) → List Role → Run → Bool
runs names [] r = true
runs names (x ∷ xs) r = unwrap_or (option_map (runs names xs) (next_run names x r)) false
