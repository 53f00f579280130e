use Rattle.std.proofs.Common.{Ok, Err, refl}
use Rattle.sml_units.specs.Written.{IsOutcome}
use Rattle.sml_units.specs.declared.run.RunFault.TheVariants.{Write}
use Rattle.sml_units.proofs.Written.{outcome, printed-as}
use Rattle.sml_units.proofs.run.run.Goals as goal

pub returns-in-Ok-write_to : goal.returns-in-Ok-write_to
returns-in-Ok-write_to g c = outcome _ _ _ _ _ _ (Ok c.in-Ok-write_to.summary) c.in-Ok.checked.replies c.in-Ok.ensures.replies (printed-as _ _ _ _ _ _ _ refl c.in-Ok-write_to.ensures.printed) c.in-Ok-write_to.ensures.counted tt

pub returns-in-Ok : goal.returns-in-Ok
returns-in-Ok g c = outcome _ _ _ _ _ _ (Err Write) c.in-Ok.checked.replies c.in-Ok.ensures.replies (printed-as _ _ _ _ _ _ _ refl c.in-Err-write_to.ensures.printed) tt refl

pub returns : goal.returns
unfolding IsOutcome
returns g c = (refl, refl)
