use Rattle.sml_projects.specs.Orders.{unit_texts}
use Rattle.sml_units.specs.Complete.{AreAllComplete}
use Rattle.sml_units.proofs.Complete.{made_whole}
use Rattle.sml_session.proofs.Answering.{check_answers}
use Rattle.sml_session.proofs.session.answer_second.Goals as goal

pub returns : goal.returns
returns g c =
    let second = c.args.second.now in
    let checked = c.in_ok-checked.checked in
    let made = c.in_ok-checked.ensures.complete (unit_texts c.args.project.now) c.in_ok-old.ensures.complete in
    check_answers (λ rs. AreAllComplete (unit_texts second) rs.units.items) c.args.form checked.replies (made_whole second checked made c.in_ok-checked.ensures.done)
    _ _ _ _ c.in_ok-summary.summary c.status_after.result c.in_ok-summary.ensures.printed c.in_ok-summary.ensures.counted c.status_after.ensures
