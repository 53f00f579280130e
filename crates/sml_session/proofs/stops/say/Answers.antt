use Rattle.std.proofs.Common.{refl}
use Rattle.sml_reply.proofs.Sinks.{prints_then, prints_stop}
use Rattle.sml_session.proofs.stops.say.Goals as goal

pub returns-in-Ok : goal.returns-in-Ok
returns-in-Ok g c = prints_then _ _ _ _ _ _ _ _ _ _ _ c.in-Ok.ensures c.say_reason.ensures refl

pub returns-in-Err : goal.returns-in-Err
returns-in-Err g c = prints_stop _ _ _ _ _ _ _ _ _ _ c.in-Err.ensures refl
