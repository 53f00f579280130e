use Rattle.std.proofs.Common.{◌≡◌, ◌++◌, ◌∷◌, ◌+◌, ◌<◌, [], length, map, take, drop, get_or, ap, sym, subst, ◌∙◌, arith}
use Rattle.std.proofs.lemmas.List.{length-map, length-take-le, length_push, map-append, take_all}
use Rattle.sml_tree.specs.BindingViews.{con_bind_of}
use Rattle.sml_tree.specs.TypeViews.{names_of}
use Rattle.sml_tree.specs.Withtype.{con_replaced}
use Rattle.sml_objects.specs.Initial.{Name}
use Rattle.sml_objects.specs.Maps.{Map}
use Rattle.sml_objects.specs.Objects as O
use Rattle.sml_rules.specs.Answers.{accepted}
use Rattle.sml_core_rules.specs.Datatypes.{listed, read_arguments}
use Rattle.sml_types.specs.Datatypes.{meant_argument, with_idents}
use Rattle.sml_types.specs.Variables.{AreListed}
use Rattle.sml_types.proofs.ArgumentBinds.{arguments-next, arguments-stop, idents-push, no-argument-read}
use Rattle.sml_types.proofs.Readings.{through}
use Rattle.sml_types.proofs.SideArguments.{mapped-next, mapped-split}
use Rattle.sml_types.proofs.Taken.{taken-next}
use Rattle.sml_types.proofs.datatypes.arguments_in.Goals as goal

pub loop-constructor-init : goal.loop-constructor-init
loop-constructor-init g c =
    let vs : Map (O.MlType Name) = listed O.free 0 (names_of c.args.bind.now.variables.items) in
    let first : AreListed c.in_ok-listed.listed vs =
    subst (λ ns. AreListed c.in_ok-listed.listed (listed {N = Name} O.free 0 (names_of ns))) c.deref.ensures.value c.in_ok-listed.ensures in
    (ap length c.new-arguments.ensures.items, first, λ C bs tells sides spelt. no-argument-read C vs)

pub returns-in_err-written_argument-clause-answer : goal.returns-in_err-written_argument-clause-answer
returns-in_err-written_argument-clause-answer g c = λ C bs tells sides spelt.
    let i = c.loop-constructor.constructor-index in
    let cs = c.args.bind.now.constructors.items in
    let con = c.constructor-item.result in
    let vs : Map (O.MlType Name) = listed O.free 0 (names_of c.args.bind.now.variables.items) in
    let e = c.deref-constructor-items.ensures.value in
    let lt : i < length cs = subst (λ l. i < length l) e c.loop-constructor-test.true in
    let at : con ≡ get_or cs i con = c.constructor-item.is ∙ ap (λ l. get_or l i con) e in
    let has = c.loop-constructor.invariant in
    let before = map (con_replaced bs) (map con_bind_of (take i cs)) in
    let after = map (con_replaced bs) (map con_bind_of (drop (i + 1) cs)) in
    let split : map (con_replaced bs) (map con_bind_of cs) ≡ before ++ con_replaced bs (con_bind_of con) ∷ after =
    ap (map (con_replaced bs)) (mapped-split con_bind_of cs i con lt at) ∙ map-append (con_replaced bs) (map con_bind_of (take i cs)) (con_bind_of con ∷ map con_bind_of (drop (i + 1) cs)) in
    through meant_argument (λ ws. with_idents cs (map meant_argument ws.items)) c.from_residual-in_err-written_argument.result c.in_err-written_argument.field-0.0 _ _
    c.from_residual-in_err-written_argument.ensures.1
    (c.in_err-written_argument.ensures.answer C bs vs tells sides (c.in_err-written_argument.ensures.stays vs has.1) spelt)
    (λ f r. ap (read_arguments C vs) split
    ∙ arguments-stop C vs before after (con_replaced bs (con_bind_of con)) (with_idents (take i cs) (map meant_argument c.loop-constructor.arguments.items)) f (has.2 C bs tells sides spelt) r)

pub loop-constructor-preserved : goal.loop-constructor-preserved
loop-constructor-preserved g c =
    let i = c.loop-constructor.constructor-index in
    let cs = c.args.bind.now.constructors.items in
    let con = c.constructor-item.result in
    let as-written = c.loop-constructor.arguments.items in
    let w = c.in_ok-written_argument.field-0 in
    let vs : Map (O.MlType Name) = listed O.free 0 (names_of c.args.bind.now.variables.items) in
    let e = c.deref-constructor-items.ensures.value in
    let lt : i < length cs = subst (λ l. i < length l) e c.loop-constructor-test.true in
    let at : con ≡ get_or cs i con = c.constructor-item.is ∙ ap (λ l. get_or l i con) e in
    let has = c.loop-constructor.invariant in
    let stays : AreListed c.written_argument.new.listed vs = c.in_ok-written_argument.ensures.stays vs has.1 in
    let sized : length (map meant_argument as-written) ≡ length (take i cs) = length-map as-written meant_argument ∙ has.0 ∙ sym (length-take-le i cs (omega (arith, lt))) in (
      ap length c.in_ok-push.ensures.items ∙ length_push as-written w ∙ ap (λ n. n + 1) has.0,
      stays,
      λ C bs tells sides spelt.
          (λ j. read_arguments C vs (map (con_replaced bs) (mapped-next con_bind_of cs i con lt at j)))
          ∙ ap (read_arguments C vs) (map-append (con_replaced bs) (map con_bind_of (take i cs)) (con_bind_of con ∷ []))
          ∙ arguments-next C vs (map (con_replaced bs) (map con_bind_of (take i cs))) (con_replaced bs (con_bind_of con)) (with_idents (take i cs) (map meant_argument as-written)) (meant_argument w)
          (has.2 C bs tells sides spelt) (c.in_ok-written_argument.ensures.answer C bs vs tells sides stays spelt)
          ∙ ap accepted (sym ((λ j. with_idents (taken-next cs i con con lt at j) ((ap (map meant_argument) c.in_ok-push.ensures.items ∙ map-append meant_argument as-written (w ∷ [])) j))
          ∙ idents-push (take i cs) (map meant_argument as-written) con (meant_argument w) sized)),
    )

pub returns-clause-answer : goal.returns-clause-answer
returns-clause-answer g c = λ C bs tells sides spelt.
    let i = c.loop-constructor.constructor-index in
    let cs = c.args.bind.now.constructors.items in
    let vs : Map (O.MlType Name) = listed O.free 0 (names_of c.args.bind.now.variables.items) in
    let e = c.deref-constructor-items.ensures.value in
    let all : take i cs ≡ cs = take_all i cs (omega (arith, c.loop-constructor-test.false, ap length e)) in
    sym (ap (λ l. read_arguments C vs (map (con_replaced bs) (map con_bind_of l))) all)
    ∙ c.loop-constructor.invariant.2 C bs tells sides spelt
    ∙ ap (λ l. accepted (with_idents l (map meant_argument c.loop-constructor.arguments.items))) all
