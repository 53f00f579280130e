use Rattle.std.proofs.Common.{refl, subst}
use Rattle.sml_reply.specs.Sinks.{Prints}
use Rattle.sml_session.specs.declared.stops.Stop.TheVariants.{Write, Memory}
use Rattle.sml_session.proofs.Ending.{of_request, stopped, helped, words_refused}
use Rattle.sml_session.proofs.session.session.Goals as goal

pub returns-in-Check : goal.returns-in-Check
returns-in-Check g c = of_request _ _ c.in-Check.request _ _ c.check_and_answer.result c.in-Check.ensures c.check_and_answer.ensures

pub returns-in-Ok : goal.returns-in-Ok
returns-in-Ok g c = helped _ _ _ _ _ _ _ c.in-Help.text c.in-Ok.field-0 c.in-Help.ensures (subst (Prints _ _ _ _ _) c.as_bytes.ensures.value c.in-Ok.ensures) (refl, refl)

pub returns-in-Help : goal.returns-in-Help
returns-in-Help g c = stopped _ _ _ _ Write c.report.result c.report.ensures.said c.report.ensures.status

pub returns-in-Refused : goal.returns-in-Refused
returns-in-Refused g c =
    words_refused _ _ _ _ c.in-Refused.text c.in-Refused.ensures (c.write_all-in-Refused.result, subst (Prints _ _ _ _ _) c.as_bytes-in-Refused.ensures.value c.write_all-in-Refused.ensures) (refl, refl)

pub returns : goal.returns
returns g c = stopped _ _ _ _ Memory c.report-in-Memory.result c.report-in-Memory.ensures.said c.report-in-Memory.ensures.status
