use Rattle.std.proofs.Common.{◌≡◌, ◌+◌, [], Vec, Global, List, map, take, drop, not, nat_lt, Err, ap, sym, subst, ◌∙◌}
use Rattle.std.proofs.lemmas.List.{take_all}
use Rattle.std.specs.declared.rc.Rc.{Rc}
use Rattle.sml_lex.specs.declared.fault.Code.TheVariants.{E7}
use Rattle.sml_tree.specs.BindingViews.{typ_bind_of}
use Rattle.sml_objects.specs.Initial.{Name}
use Rattle.sml_objects.specs.Objects.{MlType}
use Rattle.sml_objects.specs.Sizes.{type_size}
use Rattle.sml_rules.specs.Answers.{accepted, fault}
use Rattle.sml_core_rules.specs.Answers.{check}
use Rattle.sml_core_rules.specs.Objects.{of_types}
use Rattle.sml_types.specs.Answered.{IsAnswer}
use Rattle.sml_types.specs.Bindings.{put_types}
use Rattle.sml_types.specs.Meant.{meant}
use Rattle.sml_types.specs.declared.written.Written.{Written}
use Rattle.sml_types.proofs.Meanings.{meanings}
use Rattle.sml_types.proofs.Readings.{one-meant}
use Rattle.sml_types.proofs.SideArguments.{mapped-next, mapped-split}
use Rattle.sml_types.proofs.TypeSizes.{AllSmall, small-next, size-fits, types-given, types-large, types-stop, types-through}
use Rattle.sml_types.proofs.bindings.types.Goals as goal

abbrev sides-meant : Vec (Rc Written Global) Global → List (MlType Name)
sides-meant ws = map one-meant ws.items

pub returns-in_err-sides : goal.returns-in_err-sides
returns-in_err-sides g c = λ C tells sides spelt apart.
    types-through c.from_residual.result c.in_err-sides.field-0.0 c.args.place _ c.from_residual.ensures.1
    (types-stop C c.args.place (map typ_bind_of c.args.binds.now) sides-meant c.in_err-sides.field-0.0 (c.in_err-sides.ensures C tells sides spelt))

pub returns-in_err-small : goal.returns-in_err-small
returns-in_err-small g c = λ C tells sides spelt apart.
    let i = c.loop-side.side-index in
    let ws = c.deref-side-items.result.now in
    let w = c.side-item.result in
    let p = c.args.place in
    types-through c.from_residual-in_err-small.result c.in_err-small.field-0.0 p _ c.from_residual-in_err-small.ensures.1
    (types-large C p (map typ_bind_of c.args.binds.now) (meanings c.in_ok-sides.sides.items) (c.in_ok-sides.ensures C tells sides spelt) apart
    (meanings (take i ws)) (meanings (drop (i + 1) ws)) (meant w.value)
    (sym (ap meanings c.deref-side-items.ensures.value) ∙ mapped-split one-meant ws i w c.loop-side-test.true c.side-item.is) (λ (u : Unit {0}). tt) c.in_err-small.field-0.0
    (subst (λ w. IsAnswer {X = Unit {0}} (λ _. tt) (Err c.in_err-small.field-0.0) (check (not (nat_lt 10000 (type_size (meant w)))) (fault E7 p))) c.deref.ensures c.in_err-small.ensures))

pub loop-side-init : goal.loop-side-init
loop-side-init g c = tt

pub loop-side-preserved : goal.loop-side-preserved
loop-side-preserved g c =
    let i = c.loop-side.side-index in
    let ws = c.deref-side-items.result.now in
    let w = c.side-item.result in
    subst AllSmall (sym (mapped-next one-meant ws i w c.loop-side-test.true c.side-item.is))
    (small-next (meanings (take i ws)) (meant w.value) c.loop-side.invariant (size-fits 10000 (type_size (meant w.value)) (fault E7 c.args.place)
    (subst (λ w. check (not (nat_lt 10000 (type_size (meant w)))) (fault E7 c.args.place) ≡ accepted tt) c.deref.ensures c.in_ok-small.ensures)))

pub returns : goal.returns
returns g c = λ C tells sides spelt apart.
    let ws = c.deref-side-items.result.now in
    types-given C c.args.place (map typ_bind_of c.args.binds.now) (meanings c.in_ok-sides.sides.items) (c.in_ok-sides.ensures C tells sides spelt)
    (subst (λ ws. AllSmall (meanings ws)) (take_all c.loop-side.side-index ws c.loop-side-test.false ∙ c.deref-side-items.ensures.value) c.loop-side.invariant)
    c.in_ok-types_of.field-0
    (c.in_ok-types_of.ensures ∙ ap (λ ws. of_types (put_types [] (map typ_bind_of c.args.binds.now) (meanings ws))) c.deref-2.ensures.value)
