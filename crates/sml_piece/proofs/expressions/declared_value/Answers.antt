use Rattle.std.proofs.Common.{subst, Err}
use Rattle.sml_lex.specs.declared.fault.Code.TheVariants.{E7}
use Rattle.sml_objects.specs.Views.{type_of}
use Rattle.sml_rules.specs.Answers.{test, fault, accepted}
use Rattle.sml_rules.specs.Readings.{read_core, IsSmall}
use Rattle.sml_piece.specs.Elaborated.{Answers, typed_of, component_of}
use Rattle.sml_piece.proofs.Contexts.{shows_same}
use Rattle.sml_piece.proofs.Answering.{first_ends, second, made_so, gives}
use Rattle.sml_piece.proofs.expressions.declared_value.Goals as goal

pub returns-in-Err : goal.returns-in-Err
unfolding read_core
returns-in-Err c = λ C shows.
    first_ends typed_of component_of _ _ c.in-Err.fault (c.in-Err.ensures.answer C (shows_same _ _ _ _ C c.new-locals.ensures shows))

pub returns-in-Ok-small : goal.returns-in-Ok-small
unfolding read_core
returns-in-Ok-small c = λ C shows.
    let t = typed_of c.in-Ok.value in
    second component_of _ _ t c.closed_value.result (c.in-Ok.ensures.answer C (shows_same _ _ _ _ C c.new-locals.ensures shows))
    (second component_of _ _ tt c.closed_value.result (subst (λ u. test (IsSmall (type_of u)) (fault E7 c.args.place) (accepted tt)) c.deref.ensures c.in-Ok-small.ensures)
    (made_so _ component_of c.closed_value.result _ c.closed_value.ensures (gives _)))

pub returns : goal.returns
unfolding read_core
returns c = λ C shows.
    let t = typed_of c.in-Ok.value in
    second component_of _ _ t (Err c.in-Err-small.fault) (c.in-Ok.ensures.answer C (shows_same _ _ _ _ C c.new-locals.ensures shows))
    (first_ends (λ u. u) component_of _ _ c.in-Err-small.fault (subst (λ u. Answers (λ u. u) (Err c.in-Err-small.fault) (test (IsSmall (type_of u)) (fault E7 c.args.place))) c.deref.ensures c.in-Err-small.ensures))
