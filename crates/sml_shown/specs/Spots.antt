-- Places in a file, from places in a declaration: line 1 is the line of its first token, where columns count from that
-- token; on later lines they count from the line's start.
use Rattle.std.specs.Prelude.{ℕ, zero, suc, ◌+◌, ◌-◌, List}
use Rattle.sml_lex.specs.declared.fault.Place.{Place}
use Rattle.sml_reach.specs.Places.{place_from}
use Rattle.sml_shown.specs.declared.spots.Spot.{Spot}

-- the line in the file of a place on this line of a declaration, whose first token stands on the line `start`
abbrev pub line_in_file : ℕ → ℕ → ℕ
line_in_file start line = start + (line - 1)

-- the column in the file of a place on this line and in this column of a declaration, whose first token stands in the
-- column `start`
abbrev pub column_in_file : ℕ → ℕ → ℕ → ℕ
column_in_file start zero column = start + (column - 1)
column_in_file start (suc zero) column = start + (column - 1)
column_in_file start (suc (suc line)) column = column

-- the spot of a place that is counted from the file's first byte
abbrev pub spot_of : Place → Spot
spot_of place = record { line = place.line; column = place.column }

-- the spot of a byte of a unit in its file
abbrev pub spot_from : List ℕ → ℕ → Spot
spot_from unit at = spot_of (place_from unit 0 at)
