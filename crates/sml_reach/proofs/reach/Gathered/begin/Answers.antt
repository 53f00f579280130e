use Rattle.std.proofs.Common.{map, ap, ◌∙◌}
use Rattle.sml_reach.specs.Fits.{fitted_of}
use Rattle.sml_reach.specs.Reach.{declarations_in}
use Rattle.sml_reach.proofs.Gathering.{begun_gathered}
use Rattle.sml_reach.proofs.reach.Gathered.begin.Goals as goal

pub returns : goal.returns
returns c = λ os h. begun_gathered os c.args.begun (map fitted_of c.end.new.self.declarations.items) c.end.new.self.fits.items c.end.new.self.misfits.items (c.in_ok-end.ensures.all (declarations_in os) h.0) c.in_ok-end.ensures.none (ap (λ ms. ms.items) c.in_ok-end.ensures.misfits ∙ h.1)
