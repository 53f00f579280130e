use Rattle.sml_phrases.specs.Phrases.{of_sig_binds, sig_wheres_in, sig_binds_in}
use Rattle.sml_phrases.specs.PhraseViews.{seen}
use Rattle.sml_phrases.proofs.Answers.{puts_same}
use Rattle.sml_phrases.proofs.Drops.{two_off}
use Rattle.sml_bare_mods.proofs.Pushes.{where_pushed}
use Rattle.sml_bare_mods.proofs.signature_rules.sig_bind_where.Goals as goal

pub returns : goal.returns
returns c =
    let v = seen c.args.stack.now in
    let a = seen c.pop_where_type.new.stack in
    let p = c.in_ok-equation.ensures.rest in
    let popped = c.pop_sig_binds-equations.ensures in
    puts_same _ _ 2 v _ _ c.put.result
    (where_pushed of_sig_binds sig_wheres_in sig_binds_in v a _ _ c.in_ok-equation.equation _ p c.in_ok-push.ensures.items c.in_ok-equation.ensures.value popped.wheres popped.binds)
    (two_off v a _ p popped.rest)
    c.put.ensures
