use Rattle.std.proofs.Common.{◌≡◌, ◌+◌, ◌∷◌, ℕ, [], map, drop, length, ap, ◌∙◌, sym, subst, Err, Vec, Global, arith, List, ◌<◌, get_or}
use Rattle.std.specs.declared.rc.Rc.{Rc}
use Rattle.std.proofs.lemmas.List.{drop_more, map-append}
use Rattle.std.proofs.Math.ListN.{drop_of_length-le}
use Rattle.sml_tree.specs.Views.{ty_of, tys_of}
use Rattle.sml_tree.specs.declared.bare.Ty.{Ty}
use Rattle.sml_tree.proofs.TreeViews.{ty_of-constructor, ty_of-tuple, ty_of-arrow, ty_of-bracket}
use Rattle.sml_objects.specs.Objects as O
use Rattle.sml_objects.specs.Initial.{Name}
use Rattle.sml_objects.specs.Objects.{types_of}
use Rattle.sml_objects.specs.Views.{type_of}
use Rattle.sml_objects.specs.declared.objects.MlType.{MlType}
use Rattle.sml_rules.specs.Answers.{accepted}
use Rattle.sml_rules.specs.Readings.{read_ty, read_tys}
use Rattle.sml_piece.specs.Elaborated.{Answers}
use Rattle.sml_piece.proofs.Answering.{first_ends, second, made_so, gives, refusal, refuses}
use Rattle.sml_piece.proofs.TypeAnswers.{Carries, carries_all, carries_on, carries_end, carries_fault}
use Rattle.sml_piece.proofs.types.+meaning.Goals as goal

abbrev type_view : Rc MlType Global → O.MlType Name
type_view t = type_of t.value

abbrev types_view : Vec (Rc MlType Global) Global → O.MlTypes Name
types_view v = types_of (map (λ t. type_of t.value) v.items)

pub type_of-returns-in-Constructor : goal.type_of-returns-in-Constructor
type_of-returns-in-Constructor t c = λ locals C shows.
    subst (λ u. Answers type_view c.constructor_type.result (read_ty C u)) (sym (ap ty_of c.in-Constructor.is ∙ ty_of-constructor c.in-Constructor.long)) (c.constructor_type.ensures locals C shows)

pub type_of-returns-in-Err-type_of : goal.type_of-returns-in-Err-type_of
unfolding read_ty
type_of-returns-in-Err-type_of t c = λ locals C shows.
    subst (λ u. Answers type_view (Err c.in-Err-type_of.fault) (read_ty C u)) (sym (ap ty_of c.in-Arrow.is ∙ ty_of-arrow c.in-Arrow.from c.in-Arrow.to))
    (first_ends type_view type_view _ _ c.in-Err-type_of.fault
    (subst (λ u. Answers type_view (Err c.in-Err-type_of.fault) (read_ty C (ty_of u))) c.deref-in-Arrow.ensures (c.in-Err-type_of.ensures locals C shows)))

pub type_of-returns-in-Ok : goal.type_of-returns-in-Ok
unfolding read_ty
type_of-returns-in-Ok t c = λ locals C shows.
    let parts = types_view c.in-Ok.parts in
    subst (λ u. Answers type_view c.row.result (read_ty C u)) (sym (ap ty_of c.in-Tuple.is ∙ ty_of-tuple c.in-Tuple.parts))
    (second type_view _ _ parts c.row.result
    (subst (λ us. read_tys C (tys_of (map ty_of us)) (accepted parts)) c.deref.ensures.value (c.in-Ok.ensures locals C shows))
    (made_so _ type_view c.row.result _ c.row.ensures (gives _)))

pub type_of-returns-in-Err : goal.type_of-returns-in-Err
unfolding read_ty
type_of-returns-in-Err t c = λ locals C shows.
    subst (λ u. Answers type_view (Err c.in-Err.fault) (read_ty C u)) (sym (ap ty_of c.in-Tuple.is ∙ ty_of-tuple c.in-Tuple.parts))
    (first_ends types_view type_view _ _ c.in-Err.fault
    (subst (λ us. Answers types_view (Err c.in-Err.fault) (read_tys C (tys_of (map ty_of us)))) c.deref.ensures.value (c.in-Err.ensures locals C shows)))

pub type_of-returns-in-Ok-type_of-2 : goal.type_of-returns-in-Ok-type_of-2
unfolding read_ty
type_of-returns-in-Ok-type_of-2 t c = λ locals C shows.
    let from = type_of c.in-Ok-type_of.from.value in
    let to = type_of c.in-Ok-type_of-2.to.value in
    subst (λ u. Answers type_view c.arrow.result (read_ty C u)) (sym (ap ty_of c.in-Arrow.is ∙ ty_of-arrow c.in-Arrow.from c.in-Arrow.to))
    (second type_view _ _ from c.arrow.result
    (subst (λ u. read_ty C (ty_of u) (accepted from)) c.deref-in-Arrow.ensures (c.in-Ok-type_of.ensures locals C shows))
    (second type_view _ _ to c.arrow.result
    (subst (λ u. read_ty C (ty_of u) (accepted to)) c.deref-in-Arrow-2.ensures (c.in-Ok-type_of-2.ensures locals C shows))
    (made_so _ type_view c.arrow.result _ c.arrow.ensures (gives _))))

pub type_of-returns-in-Err-type_of-2 : goal.type_of-returns-in-Err-type_of-2
unfolding read_ty
type_of-returns-in-Err-type_of-2 t c = λ locals C shows.
    let from = type_of c.in-Ok-type_of.from.value in
    subst (λ u. Answers type_view (Err c.in-Err-type_of-2.fault) (read_ty C u)) (sym (ap ty_of c.in-Arrow.is ∙ ty_of-arrow c.in-Arrow.from c.in-Arrow.to))
    (second type_view _ _ from (Err c.in-Err-type_of-2.fault)
    (subst (λ u. read_ty C (ty_of u) (accepted from)) c.deref-in-Arrow.ensures (c.in-Ok-type_of.ensures locals C shows))
    (first_ends type_view type_view _ _ c.in-Err-type_of-2.fault
    (subst (λ u. Answers type_view (Err c.in-Err-type_of-2.fault) (read_ty C (ty_of u))) c.deref-in-Arrow-2.ensures (c.in-Err-type_of-2.ensures locals C shows))))

pub type_of-returns-in-Bracket : goal.type_of-returns-in-Bracket
unfolding read_ty
type_of-returns-in-Bracket t c = λ locals C shows.
    subst (λ u. Answers type_view c.type_of-in-Bracket.result (read_ty C u)) (sym (ap ty_of c.in-Bracket.is ∙ ty_of-bracket c.in-Bracket.inner))
    (subst (λ u. Answers type_view c.type_of-in-Bracket.result (read_ty C (ty_of u))) c.deref-in-Bracket.ensures (c.type_of-in-Bracket.ensures locals C shows))

-- the parts from one on: that one, and those after it
rest_at : (xs : List Ty) (i : ℕ) (x : Ty) → i < length xs → x ≡ get_or xs i x → map ty_of (drop i xs) ≡ ty_of x ∷ map ty_of (drop (i + 1) xs)
rest_at xs i x h e = ap (map ty_of) (drop_more xs i x h ∙ ap (λ y. y ∷ drop (i + 1) xs) (sym e))

pub types_of-loop-part-init : goal.types_of-loop-part-init
types_of-loop-part-init t c = λ locals C shows.
    subst (λ ts. Carries C (map ty_of c.args.parts.now) (map ty_of c.args.parts.now) ts) (sym (ap (map (λ t. type_of t.value)) c.new-types.ensures.items)) (carries_all C _)

pub types_of-returns-in-Err : goal.types_of-returns-in-Err
types_of-returns-in-Err t c = λ locals C shows.
    let xs = c.args.parts.now in
    let i = c.loop-part.part-index in
    refuses types_view c.in-Err.fault _ (carries_fault C (map ty_of xs) (ty_of c.part-item.result) (map ty_of (drop (i + 1) xs)) _ c.in-Err.fault
    (refusal type_view c.in-Err.fault _ (c.in-Err.ensures locals C shows))
    (subst (λ us. Carries C (map ty_of xs) us (map (λ t. type_of t.value) c.loop-part.types.items)) (rest_at xs i c.part-item.result c.loop-part-test.true c.part-item.is) (c.loop-part.invariant locals C shows)))

pub types_of-loop-part-preserved : goal.types_of-loop-part-preserved
types_of-loop-part-preserved t c = λ locals C shows.
    let xs = c.args.parts.now in
    let i = c.loop-part.part-index in
    let x = c.part-item.result in
    subst (λ ts. Carries C (map ty_of xs) (map ty_of (drop (i + 1) xs)) ts) (sym (ap (map (λ t. type_of t.value)) c.in-Ok-push.ensures.items ∙ map-append (λ t. type_of t.value) c.loop-part.types.items (c.in-Ok.ty ∷ [])))
    (carries_on C (map ty_of xs) (ty_of x) (map ty_of (drop (i + 1) xs)) _ (type_of c.in-Ok.ty.value) (c.in-Ok.ensures locals C shows)
    (subst (λ us. Carries C (map ty_of xs) us (map (λ t. type_of t.value) c.loop-part.types.items)) (rest_at xs i x c.loop-part-test.true c.part-item.is) (c.loop-part.invariant locals C shows)))

pub types_of-returns : goal.types_of-returns
types_of-returns t c = λ locals C shows.
    let xs = c.args.parts.now in
    let all : drop c.loop-part.part-index xs ≡ [] = drop_of_length-le xs (omega arith) in
    carries_end C (map ty_of xs) _ (subst (λ us. Carries C (map ty_of xs) us (map (λ t. type_of t.value) c.loop-part.types.items)) (ap (map ty_of) all) (c.loop-part.invariant locals C shows))
