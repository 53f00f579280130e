use Rattle.std.proofs.Common.{subst}
use Rattle.sml_session.specs.Files.{IsRead}
use Rattle.sml_session.proofs.Answering.{first_answers, second_answers}
use Rattle.sml_session.proofs.Reading.{read_before}
use Rattle.sml_session.proofs.session.answer.Goals as goal

pub returns-in-None : goal.returns-in-None
returns-in-None g c =
    let Gives = g.S.Source.gives c.args.source.now in
    let read = subst (λ path. IsRead Gives path c.in_ok-listed.listed) c.deref.ensures c.in_ok-listed.ensures.read in
    first_answers Gives _ _ c.in_ok-listed.listed c.args.request.now.form _ c.answer_first.result c.projects_have_own_places.ensures c.in-None.is read c.answer_first.ensures

pub returns : goal.returns
returns g c =
    let Gives = g.S.Source.gives c.args.source.now in
    let Later = g.S.Source.gives c.read_project.new.source in
    let read = subst (λ path. IsRead Gives path c.in_ok-listed.listed) c.deref.ensures c.in_ok-listed.ensures.read in
    let later = subst (λ path. IsRead Later path c.in_ok-second-in-Some.second) c.deref-in-Some.ensures c.in_ok-second-in-Some.ensures.read in
    let again = read_before Gives Later _ c.in_ok-second-in-Some.second c.read_project.ensures.stays later in
    second_answers Gives _ _ c.in-Some.path c.in_ok-listed.listed c.in_ok-second-in-Some.second c.args.request.now.form _ c.answer_second.result c.in-Some.is read again c.answer_second.ensures
