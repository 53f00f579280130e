use Rattle.sml_phrases.specs.Phrases.{of_fun_binds, fun_wheres_in, fun_constraints_in, fun_binds_in}
use Rattle.sml_phrases.specs.PhraseViews.{seen}
use Rattle.sml_phrases.proofs.Answers.{puts_same}
use Rattle.sml_phrases.proofs.Drops.{two_off}
use Rattle.sml_bare_mods.proofs.Pushes.{where_pushed_two}
use Rattle.sml_bare_mods.proofs.functor_rules.where_fun_bind.Goals as goal

pub returns : goal.returns
returns c =
    let v = seen c.args.stack.now in
    let a = seen c.pop_where_type.new.stack in
    let p = c.in_ok-equation.ensures.rest in
    let popped = c.pop_fun_binds-equations.ensures in
    puts_same _ _ 2 v _ _ c.put_fun_binds.result
    (where_pushed_two of_fun_binds fun_wheres_in fun_constraints_in fun_binds_in v a _ _ c.in_ok-equation.equation _ _ p c.in_ok-push.ensures.items c.in_ok-equation.ensures.value popped.wheres popped.constraints popped.binds)
    (two_off v a _ p popped.rest)
    c.put_fun_binds.ensures
