use Rattle.std.proofs.Common.{refl}
use Rattle.sml_session.proofs.Ending.{request_answered, request_stopped}
use Rattle.sml_session.proofs.session.check_and_answer.Goals as goal

pub returns-in-Ok : goal.returns-in-Ok
returns-in-Ok g c = request_answered _ c.args.request.now _ _ c.in-Ok.status c.in-Ok.ensures (refl, refl)

pub returns-in-Err : goal.returns-in-Err
returns-in-Err g c = request_stopped _ c.args.request.now _ _ c.in-Err.stop c.report.result c.report.ensures.said c.report.ensures.status
