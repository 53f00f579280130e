use Rattle.sml_session.proofs.Answering.{run_answers}
use Rattle.sml_session.proofs.session.answer_first.Goals as goal

pub returns : goal.returns
returns g c = run_answers _ c.args.form _ _ _ _ c.in_ok-summary.summary c.status_after.result c.in_ok-summary.ensures c.status_after.ensures
