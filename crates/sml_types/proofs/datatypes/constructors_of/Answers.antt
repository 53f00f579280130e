use Rattle.std.proofs.Common.{◌≡◌, ◌+◌, ◌-◌, ◌<◌, ◌∷◌, Bool, List, drop, ap, sym, ◌∙◌, length, map, arith}
use Rattle.sml_tree.specs.Views.{ident_of}
use Rattle.sml_tree.specs.TypeViews.{names_of}
use Rattle.sml_objects.specs.Initial.{Name}
use Rattle.sml_objects.specs.Maps.{put}
use Rattle.sml_objects.specs.Objects as O
use Rattle.sml_objects.specs.Views.{name_of, scheme_of, schemes_of, type_of}
use Rattle.sml_objects.proofs.EnvViews.{entries-put}
use Rattle.sml_core_rules.specs.Datatypes as read
use Rattle.sml_types.specs.Losses.{losing_argument, losing_arguments}
use Rattle.sml_types.proofs.Losing.{least, losing-end, losing-next}
use Rattle.sml_types.proofs.datatypes.constructors_of.Goals as goal

pub loop-index-init : goal.loop-index-init
loop-index-init c =
    ap schemes_of c.new-constructors.ensures.empty
    ∙ sym (ap (read.constructors_of _ _) (losing-end c.args.by.now.run c.args.by.now.lost.now c.args.bind.now.constructors.items c.args.arguments.now c.min-count.result
    (least c.min-count.result (length c.args.bind.now.constructors.items) (length c.args.arguments.now) (omega (arith, c.min-count.ensures, c.len-2.ensures, c.args.bind.now.constructors.ok.0)))))

pub loop-index-preserved : goal.loop-index-preserved
loop-index-preserved c =
    let r = c.args.by.now.run in
    let lost = c.args.by.now.lost.now in
    let cs = c.args.bind.now.constructors.items in
    let ts = c.args.arguments.now in
    let vs = c.args.bind.now.variables.items in
    let k = c.loop-index.index in
    let j = k - 1 in
    let con = c.index.result.now in
    let t = c.index-arguments-index.result in
    let whole : O.MlType Name = O.app (O.name (name_of c.args.name)) (read.types_from O.free 0 (length vs)) in
    let flags : List Bool = map (λ x. read.is_equality x.id) (names_of vs) in
    let left : j < length cs = omega (arith, c.loop-index-test.true, c.loop-index.auto.index, c.min-count.ensures, c.len-2.ensures, c.args.bind.now.constructors.ok.0) in
    let right : j < length ts = omega (arith, c.loop-index-test.true, c.loop-index.auto.index, c.min-count.ensures, c.len-2.ensures, c.args.bind.now.constructors.ok.0) in
    let next : j + 1 ≡ k = omega (arith, c.loop-index-test.true) in
    let parts : losing_arguments r lost (drop j cs) (drop j ts) ≡ (ident_of con.name.ident, losing_argument r lost t) ∷ losing_arguments r lost (drop k cs) (drop k ts) =
    losing-next r lost cs ts j con t left right c.index.ensures c.index-arguments-index.is
    ∙ ap (λ n. (ident_of con.name.ident, losing_argument r lost t) ∷ losing_arguments r lost (drop n cs) (drop n ts)) next in
    let key : ident_of c.in_ok-name.name ≡ ident_of con.name.ident = ap (λ v. v.items) c.in_ok-name.ensures.cases in
    let applied : type_of c.in_ok-whole.whole.value ≡ whole =
    c.in_ok-whole.ensures ∙ ap (λ n. O.app (O.name (name_of c.args.name)) (read.types_from O.free 0 n)) (c.len.ensures ∙ c.args.bind.now.variables.ok.0) in
    let equality : c.deref-in-loop-index.result.now ≡ flags = c.deref-in-loop-index.ensures.value ∙ c.in_ok-equality.ensures ∙ ap (λ l. map (λ x. read.is_equality x.id) (names_of l)) c.deref.ensures.value in
    let ty : type_of c.in_ok-ty.ty.value ≡ read.constructor_type whole (losing_argument r lost t) = c.in_ok-ty.ensures ∙ ap (λ w. read.constructor_type w (losing_argument r lost t)) applied in
    let scheme : scheme_of c.in_ok-scheme.scheme.value ≡ read.constructor_scheme flags (read.constructor_type whole (losing_argument r lost t)) =
    ap scheme_of c.in_ok-scheme.ensures.ok ∙ c.in_ok-closed.ensures ∙ (λ i. read.constructor_scheme (equality i) (ty i)) in
    ap schemes_of c.in_ok-insert.ensures.entries
    ∙ entries-put (λ s. scheme_of s.value) c.loop-index.constructors.entries c.in_ok-name.name c.in_ok-scheme.scheme
    ∙ (λ i. put (key i) (scheme i) (c.loop-index.invariant i))
    ∙ sym (ap (read.constructors_of whole flags) parts)
