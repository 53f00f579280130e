use Rattle.std.proofs.Common.{◌≡◌, ◌++◌, ◌∷◌, ◌+◌, [], None, Option, Vec, Global, length, map, take, drop, ap, sym, subst, ◌∙◌, arith}
use Rattle.std.proofs.lemmas.List.{length-take-le, length_push, map-append, take_all}
use Rattle.std.specs.declared.rc.Rc.{Rc}
use Rattle.sml_types.specs.declared.written.Written.{Written}
use Rattle.sml_tree.specs.BindingViews.{dat_bind_of}
use Rattle.sml_tree.specs.Withtype.{dat_replaced, unlisted}
use Rattle.sml_objects.specs.Initial.{Name}
use Rattle.sml_objects.specs.Maps.{lookup}
use Rattle.sml_objects.specs.Objects as O
use Rattle.sml_rules.specs.Answers.{accepted}
use Rattle.sml_core_rules.specs.Datatypes.{listed, read_all_arguments}
use Rattle.sml_types.specs.Datatypes.{HaveAll, all_with_idents, meant_argument, with_idents}
use Rattle.sml_types.proofs.ArgumentBinds.{groups-next, groups-push, groups-stop, has-push, no-group-read}
use Rattle.sml_types.proofs.Readings.{through}
use Rattle.sml_types.proofs.SideArguments.{mapped-next, mapped-split}
use Rattle.sml_types.proofs.SideTables.{all-at}
use Rattle.sml_types.proofs.Taken.{taken-next}
use Rattle.sml_types.proofs.datatypes.arguments_of.Goals as goal

pub loop-bind-init : goal.loop-bind-init
loop-bind-init g c = (ap length c.new-all.ensures.items, subst (HaveAll []) (sym c.new-all.ensures.items) tt, λ C bs tells sides spelt. no-group-read C)

pub returns-in_err-arguments_in-clause-answer : goal.returns-in_err-arguments_in-clause-answer
returns-in_err-arguments_in-clause-answer g c = λ C bs tells sides spelt.
    let i = c.loop-bind.bind-index in
    let ds = c.args.binds.now in
    let d = c.bind-item.result in
    let before = map (dat_replaced bs) (map dat_bind_of (take i ds)) in
    let after = map (dat_replaced bs) (map dat_bind_of (drop (i + 1) ds)) in
    let split : map (dat_replaced bs) (map dat_bind_of ds) ≡ before ++ dat_replaced bs (dat_bind_of d) ∷ after =
    ap (map (dat_replaced bs)) (mapped-split dat_bind_of ds i d c.loop-bind-test.true c.bind-item.is)
    ∙ map-append (dat_replaced bs) (map dat_bind_of (take i ds)) (dat_bind_of d ∷ map dat_bind_of (drop (i + 1) ds)) in
    through {X = Vec (Option (Rc Written Global)) Global} (λ ws. with_idents d.constructors.items (map meant_argument ws.items)) (λ all. all_with_idents ds all.items) c.from_residual.result c.in_err-arguments_in.field-0.0 _ _
    c.from_residual.ensures.1
    (c.in_err-arguments_in.ensures.answer C bs tells sides (all-at (λ d. lookup unlisted (listed {N = Name} O.free 0 d.variables) ≡ None) dat_bind_of ds i d spelt c.loop-bind-test.true c.bind-item.is))
    (λ f r. ap (read_all_arguments C) split
    ∙ groups-stop C before after (dat_replaced bs (dat_bind_of d)) (all_with_idents (take i ds) c.loop-bind.all.items) f (c.loop-bind.invariant.2 C bs tells sides spelt) r)

pub loop-bind-preserved : goal.loop-bind-preserved
loop-bind-preserved g c =
    let i = c.loop-bind.bind-index in
    let ds = c.args.binds.now in
    let d = c.bind-item.result in
    let w = c.in_ok-arguments_in.field-0 in
    let gs = c.loop-bind.all.items in
    let has = c.loop-bind.invariant in
    let front : take (i + 1) ds ≡ take i ds ++ d ∷ [] = taken-next ds i d d c.loop-bind-test.true c.bind-item.is in
    let sized : length gs ≡ length (take i ds) = has.0 ∙ sym (length-take-le i ds (omega (arith, c.loop-bind-test.true))) in (
      ap length c.in_ok-push.ensures.items ∙ length_push gs w ∙ ap (λ n. n + 1) has.0,
      subst (λ l. HaveAll l c.push.new.self.items) (sym front) (subst (HaveAll (take i ds ++ d ∷ [])) (sym c.in_ok-push.ensures.items) (has-push (take i ds) gs d w has.1 c.in_ok-arguments_in.ensures.fits)),
      λ C bs tells sides spelt.
          (λ j. read_all_arguments C (map (dat_replaced bs) (mapped-next dat_bind_of ds i d c.loop-bind-test.true c.bind-item.is j)))
          ∙ ap (read_all_arguments C) (map-append (dat_replaced bs) (map dat_bind_of (take i ds)) (dat_bind_of d ∷ []))
          ∙ groups-next C (map (dat_replaced bs) (map dat_bind_of (take i ds))) (dat_replaced bs (dat_bind_of d)) (all_with_idents (take i ds) gs) (with_idents d.constructors.items (map meant_argument w.items))
          (has.2 C bs tells sides spelt)
          (c.in_ok-arguments_in.ensures.answer C bs tells sides (all-at (λ d. lookup unlisted (listed {N = Name} O.free 0 d.variables) ≡ None) dat_bind_of ds i d spelt c.loop-bind-test.true c.bind-item.is))
          ∙ ap accepted (sym ((λ j. all_with_idents (front j) (c.in_ok-push.ensures.items j)) ∙ groups-push (take i ds) gs d w sized)),
    )

pub returns-clause-fits : goal.returns-clause-fits
returns-clause-fits g c = subst (λ l. HaveAll l c.loop-bind.all.items) (take_all c.loop-bind.bind-index c.args.binds.now c.loop-bind-test.false) c.loop-bind.invariant.1
