-- The program's declarations before they are made, as those of the definitions.
use Rattle.std.specs.Prelude.{map}
use Rattle.sml_bare.specs.declared.source.Source as P
use Rattle.sml_reach.specs.Fits.{fit_of}
use Rattle.sml_bare.specs.Derivations.{Source}

abbrev pub source_of : P.Source → Source
source_of s = record { unit = s.unit.now; tokens = s.tokens.now; begun = s.begun; fits = map fit_of s.fits.now }
