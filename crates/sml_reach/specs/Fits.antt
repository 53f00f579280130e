-- What sequences of atomic phrases stand for, by declaration.
use Rattle.std.specs.Prelude.{ℕ, List, map}
use Rattle.sml_fixity.specs.Shapes.{Shape, shape_of}
use Rattle.sml_reach.specs.declared.fitted.Fit as F
use Rattle.sml_reach.specs.declared.fitted.Fitted as D

-- a sequence, by its first token
pub record Fit : Type 0 where
  pub token : ℕ
  pub shape : Shape

-- a declaration, by its first token, with its sequences in the order of the text
pub record Fitted : Type 0 where
  pub begun : ℕ
  pub fits : List Fit

-- the program's values as these
abbrev pub fit_of : F.Fit → Fit
fit_of f = record { token = f.token; shape = shape_of f.shape }

abbrev pub fitted_of : D.Fitted → Fitted
fitted_of d = record { begun = d.begun; fits = map fit_of d.fits.items }
