use Rattle.sml_phrases.specs.Phrases.{of_constraints, constraint_wheres_in, constraints_in}
use Rattle.sml_phrases.specs.PhraseViews.{seen}
use Rattle.sml_phrases.proofs.Answers.{puts_same}
use Rattle.sml_phrases.proofs.Drops.{two_off}
use Rattle.sml_bare_mods.proofs.Pushes.{where_pushed}
use Rattle.sml_bare_mods.proofs.structure_rules.and_where_str.Goals as goal

pub returns : goal.returns
returns c =
    let v = seen c.args.stack.now in
    let a = seen c.pop_where_type.new.stack in
    let p = c.in_ok-equation.ensures.rest in
    let popped = c.pop_constraints-equations.ensures in
    puts_same _ _ 2 v _ _ c.put_constraints.result
    (where_pushed of_constraints constraint_wheres_in constraints_in v a _ _ c.in_ok-equation.equation _ p c.in_ok-push.ensures.items c.in_ok-equation.ensures.value popped.wheres popped.constraints)
    (two_off v a _ p popped.rest)
    c.put_constraints.ensures
