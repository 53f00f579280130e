use Rattle.std.proofs.Common.{subst, Err, Global}
use Rattle.std.specs.declared.rc.Rc.{Rc}
use Rattle.sml_lex.specs.declared.fault.Code.TheVariants.{E7}
use Rattle.sml_objects.specs.Objects as O
use Rattle.sml_objects.specs.Initial.{Name}
use Rattle.sml_objects.specs.Views.{type_of}
use Rattle.sml_objects.specs.declared.objects.MlType.{MlType}
use Rattle.sml_rules.specs.Answers.{test, fault, accepted}
use Rattle.sml_rules.specs.Readings.{read_core, IsSmall}
use Rattle.sml_piece.specs.Elaborated.{Answers, component_of, no_local}
use Rattle.sml_piece.proofs.Answering.{first_ends, second, made_so, gives}
use Rattle.sml_piece.proofs.expressions.declared_type.Goals as goal

abbrev type_view : Rc MlType Global → O.MlType Name
type_view t = type_of t.value

pub returns-in-Err : goal.returns-in-Err
unfolding read_core
returns-in-Err c = λ C shows.
    first_ends type_view component_of _ _ c.in-Err.fault (c.in-Err.ensures no_local C shows)

pub returns-in-Ok-small : goal.returns-in-Ok-small
unfolding read_core
returns-in-Ok-small c = λ C shows.
    second component_of _ _ (type_view c.in-Ok.ty) c.type_component.result (c.in-Ok.ensures no_local C shows)
    (second component_of _ _ tt c.type_component.result (subst (λ u. test (IsSmall (type_of u)) (fault E7 c.args.place) (accepted tt)) c.deref.ensures c.in-Ok-small.ensures)
    (made_so _ component_of c.type_component.result _ c.type_component.ensures (gives _)))

pub returns-in-Err-small : goal.returns-in-Err-small
unfolding read_core
returns-in-Err-small c = λ C shows.
    second component_of _ _ (type_view c.in-Ok.ty) (Err c.in-Err-small.fault) (c.in-Ok.ensures no_local C shows)
    (first_ends (λ u. u) component_of _ _ c.in-Err-small.fault (subst (λ u. Answers (λ u. u) (Err c.in-Err-small.fault) (test (IsSmall (type_of u)) (fault E7 c.args.place))) c.deref.ensures c.in-Err-small.ensures))
