use Rattle.sml_lex.specs.Faults.{first_place}
use Rattle.sml_tree.specs.Views.{dec_of}
use Rattle.sml_objects.specs.Initial.{naming}
use Rattle.sml_objects.specs.Views.{maker_of, sig_of}
use Rattle.sml_rules.specs.Answers.{accepted}
use Rattle.sml_rules.proofs.Open.{read_top_open}
use Rattle.sml_units.specs.Checked.{IsReplyTo}
use Rattle.sml_units.proofs.Replying.{accepted_step, unwarned}
use Rattle.sml_units.proofs.project.answer.Goals as goal

pub returns-in-Ok-clause-step : goal.returns-in-Ok-clause-step
returns-in-Ok-clause-step c = λ B basis.
    let own = c.in-Ok.own in
    let d = dec_of c.args.dec.now in
    let reading = c.in-Ok.ensures.reading B basis in
    let opened = read_top_open naming first_place (maker_of c.args.basis.now.unit) B d (sig_of own) basis.opened reading in
    accepted_step c.args.basis.now c.accept.new.basis c.args.bound.now c.accept.new.bound own B d c.args.number c.accept.result basis reading
    (unwarned c.accept.result _ (λ r. IsReplyTo c.args.number (accepted (sig_of own)) r) c.in-Ok.ensures.no_warnings c.accept.ensures.reply)
    (c.accept.ensures.basis B basis (c.in-Ok.ensures.own B basis) opened) c.accept.ensures.unit c.accept.ensures.bound
