use Rattle.std.proofs.Common.{◌+◌, [], ◌∷◌, Vec, Global, List, map, take, drop, ap, sym, subst, ◌∙◌}
use Rattle.std.proofs.lemmas.List.{map-append}
use Rattle.std.specs.declared.rc.Rc.{Rc}
use Rattle.sml_tree.specs.BindingViews.{typ_bind_of}
use Rattle.sml_tree.specs.TypeViews.{names_of, ty_of}
use Rattle.sml_objects.specs.Initial.{Name}
use Rattle.sml_objects.specs.Objects.{MlType, bound}
use Rattle.sml_rules.specs.Answers.{accepted}
use Rattle.sml_core_rules.specs.Datatypes.{listed}
use Rattle.sml_core_rules.specs.Types.{read_ty}
use Rattle.sml_types.specs.Bindings.{AreSpelt, read_sides}
use Rattle.sml_types.specs.Meant.{meant}
use Rattle.sml_types.specs.Variables.{AreListed}
use Rattle.sml_types.specs.declared.written.Written.{Written}
use Rattle.sml_types.proofs.Meanings.{meanings}
use Rattle.sml_types.proofs.Readings.{one-meant, through}
use Rattle.sml_types.proofs.SideArguments.{mapped-next, mapped-split}
use Rattle.sml_types.proofs.TypeBinds.{no-side-read, sides-next, sides-stop, spelt-there}
use Rattle.sml_types.proofs.TyViews.{none_replaced}
use Rattle.sml_types.proofs.bindings.right_sides.Goals as goal

abbrev sides-meant : Vec (Rc Written Global) Global → List (MlType Name)
sides-meant ws = map one-meant ws.items

pub loop-bind-init : goal.loop-bind-init
loop-bind-init g c = λ C tells sides spelt. no-side-read C ∙ ap (λ ws. accepted (map one-meant ws)) (sym c.new-sides.ensures.items)

pub returns-in_err-written_type : goal.returns-in_err-written_type
returns-in_err-written_type g c = λ C tells sides spelt.
    let b = c.bind-item.result in
    let i = c.loop-bind.bind-index in
    let before = map typ_bind_of (take i c.args.binds.now) in
    let after = map typ_bind_of (drop (i + 1) c.args.binds.now) in
    let split = mapped-split typ_bind_of c.args.binds.now i b c.loop-bind-test.true c.bind-item.is in
    let vs = listed {N = Name} bound 0 (names_of b.variables.items) in
    let first : AreListed c.in_ok-listed.listed vs = subst (λ ns. AreListed c.in_ok-listed.listed (listed {N = Name} bound 0 (names_of ns))) c.deref.ensures.value c.in_ok-listed.ensures in
    through one-meant sides-meant c.from_residual-in_err-written_type.result c.in_err-written_type.field-0.0 _ _ c.from_residual-in_err-written_type.ensures.1
    (c.in_err-written_type.ensures.answer C [] vs tells sides (c.in_err-written_type.ensures.stays vs first) (spelt-there before after (typ_bind_of b) (subst AreSpelt split spelt)))
    (λ f r. ap (read_sides C) split ∙ sides-stop C before after (typ_bind_of b) (meanings c.loop-bind.sides.items) f (c.loop-bind.invariant C tells sides spelt) (ap (read_ty C vs) (sym (none_replaced (ty_of b.ty))) ∙ r))

pub loop-bind-preserved : goal.loop-bind-preserved
loop-bind-preserved g c = λ C tells sides spelt.
    let b = c.bind-item.result in
    let i = c.loop-bind.bind-index in
    let w = c.in_ok-written_type.field-0 in
    let before = map typ_bind_of (take i c.args.binds.now) in
    let after = map typ_bind_of (drop (i + 1) c.args.binds.now) in
    let split = mapped-split typ_bind_of c.args.binds.now i b c.loop-bind-test.true c.bind-item.is in
    let vs = listed {N = Name} bound 0 (names_of b.variables.items) in
    let first : AreListed c.in_ok-listed.listed vs = subst (λ ns. AreListed c.in_ok-listed.listed (listed {N = Name} bound 0 (names_of ns))) c.deref.ensures.value c.in_ok-listed.ensures in
    ap (read_sides C) (mapped-next typ_bind_of c.args.binds.now i b c.loop-bind-test.true c.bind-item.is)
    ∙ sides-next C before (typ_bind_of b) (meanings c.loop-bind.sides.items) (meant w.value) (c.loop-bind.invariant C tells sides spelt)
    (ap (read_ty C vs) (sym (none_replaced (ty_of b.ty)))
    ∙ c.in_ok-written_type.ensures.answer C [] vs tells sides (c.in_ok-written_type.ensures.stays vs first) (spelt-there before after (typ_bind_of b) (subst AreSpelt split spelt)))
    ∙ ap accepted (sym (ap (map one-meant) c.in_ok-push.ensures.items ∙ map-append one-meant c.loop-bind.sides.items (w ∷ [])))
