-- Units of sources that are alike.
use Rattle.std.specs.Prelude.{List, [], ◌∷◌, map}
use Rattle.std.proofs.Common.{inl, inr}
use Rattle.sml_lex.specs.declared.fault.Place.{Place}
use Rattle.sml_lex.specs.Faults.{first_place}
use Rattle.sml_tree.specs.Structures.{TopDec}
use Rattle.sml_places.specs.Likeness.{AreDeclarationsAlike}
use Rattle.sml_places.specs.Units.{Placed, AreAlike}
use Rattle.sml_run_rules.specs.Seals.{SourcesMakeUnits}

abbrev placed : TopDec Place → Placed
placed d = (first_place, d)

placed-alike : (ds es : List (TopDec Place)) → AreDeclarationsAlike ds es → AreAlike (map placed ds) (map placed es)
placed-alike [] [] h = tt
placed-alike [] (e ∷ es) h = absurd h
placed-alike (d ∷ ds) [] h = absurd h
placed-alike (d ∷ ds) (e ∷ es) (inl s, h) = (inl (λ i. (first_place, s i)), placed-alike ds es h)
placed-alike (d ∷ ds) (e ∷ es) (inr g, h) = (inr g, placed-alike ds es h)

pub sources-make-units : SourcesMakeUnits
sources-make-units [] [] h = tt
sources-make-units [] (t ∷ ts) h = absurd h
sources-make-units (s ∷ ss) [] h = absurd h
sources-make-units (s ∷ ss) (t ∷ ts) h = ((h.0.1, h.0.2, placed-alike s.declarations t.declarations h.0.4), sources-make-units ss ts h.1)
