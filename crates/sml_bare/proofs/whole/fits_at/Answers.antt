use Rattle.std.proofs.Common.{map, length, sym, ap, refl, ◌∙◌}
use Rattle.std.proofs.lemmas.Bool.{ltb-true, ltb-false}
use Rattle.std.proofs.lemmas.Option.{slice_get_read}
use Rattle.sml_reach.specs.Fits.{fit_of}
use Rattle.sml_bare.proofs.Making.{fits_of_some, fits_of_none}
use Rattle.sml_bare.proofs.whole.fits_at.Goals as goal

pub returns-in-Some : goal.returns-in-Some
returns-in-Some c =
    let all = c.args.fitted.now in
    ap (map fit_of) c.deref.ensures.value
    ∙ fits_of_some all c.args.count c.in-Some.fitted.now (slice_get_read all (length all) c.args.count c.in-Some.fitted.now refl (ltb-true _ _ (sym c.in-Some.ensures.lookup.0)) c.in-Some.ensures.lookup.1)

pub returns-in-None : goal.returns-in-None
returns-in-None c = fits_of_none c.args.fitted.now c.args.count (ltb-false _ _ (sym c.in-None.ensures.lookup.0))
