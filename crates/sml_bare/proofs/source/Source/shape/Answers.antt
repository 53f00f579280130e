use Rattle.std.proofs.Common.{◌+◌, map, length, sym, ap, refl, ◌∙◌}
use Rattle.std.proofs.lemmas.Bool.{ltb-true, ltb-false}
use Rattle.std.specs.Option.{option_map}
use Rattle.std.proofs.lemmas.Option.{slice_get_read, slice_get_past}
use Rattle.sml_fixity.specs.Shapes.{shape_of}
use Rattle.sml_reach.specs.declared.fitted.Fit.{Fit}
use Rattle.sml_reach.specs.Fits.{fit_of}
use Rattle.sml_bare.proofs.Sourcing.{none_from, shape_of_index}
use Rattle.sml_bare.proofs.source.Source.shape.Goals as goal

pub returns-in-Some-get : goal.returns-in-Some-get
returns-in-Some-get c =
    let fits = c.args.self.now.fits.now in
    let k = c.in-Some.index in
    let fit = c.in-Some-get.fit.now in
    sym (shape_of_index fits (c.args.self.now.begun + c.args.n) k (sym c.in-Some.ensures)
    ∙ ap (option_map (λ (f : Fit). shape_of f.shape)) (slice_get_read fits (length fits) k fit refl (ltb-true _ _ (sym c.in-Some-get.ensures.lookup.0)) c.in-Some-get.ensures.lookup.1))

pub returns-in-None-get : goal.returns-in-None-get
returns-in-None-get c =
    let fits = c.args.self.now.fits.now in
    let k = c.in-Some.index in
    sym (shape_of_index fits (c.args.self.now.begun + c.args.n) k (sym c.in-Some.ensures)
    ∙ ap (option_map (λ (f : Fit). shape_of f.shape)) (slice_get_past fits k (ltb-false _ _ (sym c.in-None-get.ensures.lookup.0))))

pub returns-in-None : goal.returns-in-None
returns-in-None c =
    sym (none_from 0 (map fit_of c.args.self.now.fits.now) (c.args.self.now.begun + c.args.n) (sym c.in-None.ensures))
