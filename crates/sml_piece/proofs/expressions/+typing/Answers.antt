use Rattle.std.proofs.Common.{rules, ◌≡◌, ◌+◌, ◌∷◌, ℕ, zero, suc, [], map, drop, length, ap, ◌∙◌, sym, subst, Err, Some, arith, List, ◌<◌, get_or, refl}
use Rattle.sml_tree.specs.Trees as T
use Rattle.sml_tree.specs.Trees.{Id}
use Rattle.sml_tree.specs.Views.{brackets, ident_of, exp_of, exps_of}
use Rattle.sml_tree.proofs.TreeViews.{exp_of-number, exp_of-brackets}
use Rattle.sml_objects.specs.Objects.{mono, free, one_value, extend_env}
use Rattle.sml_objects.specs.Initial.{naming}
use Rattle.sml_objects.specs.Maps.{order_of}
use Rattle.sml_objects.specs.Views.{type_of}
use Rattle.sml_rules.specs.Answers.{accepted}
use Rattle.sml_rules.specs.Readings.{read_exp, typed}
use Rattle.sml_piece.specs.Elaborated.{NameEnv, Answers, Shows, numbers_in, typed_of, typed_list_of}
use Rattle.sml_piece.proofs.Contexts.{shows_local, shows_same}
use Rattle.sml_objects.proofs.Puts.{at, over, same_at}
use Rattle.sml_piece.proofs.Answering.{first_ends, second, made_so, gives, gives_so, refusal, refuses, then_any, on_ok}
use Rattle.sml_piece.proofs.ExpAnswers.{CarriesExps, exps_all, exps_on, exps_end, exps_fault}
use Rattle.sml_lex.specs.declared.fault.Place.{Place}
use Rattle.sml_tree.specs.declared.bare.Exp.{Exp}
use Rattle.std.proofs.lemmas.List.{drop_more, map-append}
use Rattle.std.proofs.Math.ListN.{drop_of_length-le}
use Rattle.sml_piece.proofs.expressions.+typing.Goals as goal

pub elaborate-returns-in-Number-clause-answer : goal.elaborate-returns-in-Number-clause-answer
unfolding read_exp naming
elaborate-returns-in-Number-clause-answer t c = λ C shows.
    subst (λ e. Answers typed_of c.typed_number.result (read_exp naming c.args.made C e)) (sym (ap exp_of c.in-Number.is ∙ exp_of-number))
    (made_so _ typed_of c.typed_number.result _ c.typed_number.ensures (gives _))

-- an expression in brackets has the readings of what stands in them
bare : (n k : ℕ) (C : NameEnv) (e : T.Exp Place) → read_exp naming k C e ≡ read_exp naming k C (brackets n e)
unfolding read_exp
bare zero k C e = refl
bare (suc n) k C e = bare n k C e

pub elaborate-returns-in-Brackets-clause-answer : goal.elaborate-returns-in-Brackets-clause-answer
elaborate-returns-in-Brackets-clause-answer t c = λ C shows.
    let n = c.in-Brackets.field-1 in
    subst (λ e. Answers typed_of c.elaborate.result (read_exp naming c.args.made C e)) (sym (ap exp_of c.in-Brackets.is ∙ exp_of-brackets c.in-Brackets.inner n))
    (subst (Answers typed_of c.elaborate.result) (bare n c.args.made C _)
    (subst (λ e. Answers typed_of c.elaborate.result (read_exp naming c.args.made C (exp_of e))) c.deref-in-Brackets.ensures (c.elaborate.ensures.answer C shows)))

pub typed_function-returns-in-Err-elaborate-clause-answer : goal.typed_function-returns-in-Err-elaborate-clause-answer
unfolding read_exp
typed_function-returns-in-Err-elaborate-clause-answer t c = λ C shows.
    let x = ident_of c.args.name.now in
    let k = c.args.made in
    let inside = extend_env C (one_value x (mono (free k))) in
    let seen : Shows (numbers_in c.set.new.self) _ _ inside = shows_local (numbers_in c.args.locals.now) _ _ _ C x k c.in-Ok.ensures.set shows in
    let next : c.in-Some.next ≡ suc k = search (rules, c.in-Some.ensures) in
    first_ends typed_of typed_of _ _ c.in-Err-elaborate.fault
    (subst (λ j. Answers typed_of (Err c.in-Err-elaborate.fault) (read_exp naming j inside (exp_of c.args.body.now))) next (c.in-Err-elaborate.ensures.answer inside seen))

pub typed_function-returns-in-Ok-set-clause-answer : goal.typed_function-returns-in-Ok-set-clause-answer
unfolding read_exp
typed_function-returns-in-Ok-set-clause-answer t c = λ C shows.
    let x = ident_of c.args.name.now in
    let k = c.args.made in
    let inside = extend_env C (one_value x (mono (free k))) in
    let seen : Shows (numbers_in c.set.new.self) _ _ inside = shows_local (numbers_in c.args.locals.now) _ _ _ C x k c.in-Ok.ensures.set shows in
    let next : c.in-Some.next ≡ suc k = search (rules, c.in-Some.ensures) in
    second typed_of _ _ (typed_of c.in-Ok-elaborate.body) c.arrow_from.result
    (subst (λ j. read_exp naming j inside (exp_of c.args.body.now) (accepted (typed_of c.in-Ok-elaborate.body))) next (c.in-Ok-elaborate.ensures.answer inside seen))
    (made_so _ typed_of c.arrow_from.result _ c.arrow_from.ensures (gives _))

pub typed_tuple-returns-in-Err-clause-answer : goal.typed_tuple-returns-in-Err-clause-answer
unfolding read_exp
typed_tuple-returns-in-Err-clause-answer t c = λ C shows.
    first_ends typed_list_of typed_of _ _ c.in-Err.fault (c.in-Err.ensures.answer C shows)

pub typed_tuple-returns-in-Ok-row-clause-answer : goal.typed_tuple-returns-in-Ok-row-clause-answer
unfolding read_exp
typed_tuple-returns-in-Ok-row-clause-answer t c = λ C shows.
    let all : T.Exp Place = T.tuple (exps_of (map exp_of c.args.parts.now)) in
    then_any _ _ (typed_list_of c.in-Ok.parts) (accepted (typed_of record { ty = c.in-Ok-row.ty; made = c.in-Ok.parts.made })) (c.in-Ok.ensures.answer C shows)
    (gives_so _ _ (ap (typed c.in-Ok.parts.made) c.in-Ok-row.ensures))

pub typed_function-returns-in-Ok-set-clause-locals : goal.typed_function-returns-in-Ok-set-clause-locals
typed_function-returns-in-Ok-set-clause-locals t c =
    let old = numbers_in c.args.locals.now in
    let x = ident_of c.args.name.now in
    on_ok c.arrow_from.result _ (λ y.
    c.in-Ok-set.ensures.set y
    ∙ ap (at (order_of y x) c.in-Ok.hidden) (c.in-Ok-elaborate.ensures.locals y ∙ c.in-Ok.ensures.set y)
    ∙ sym (over (order_of y x) (old y) (Some c.args.made) c.in-Ok.hidden)
    ∙ ap (λ h. at (order_of y x) h (old y)) c.in-Ok.ensures.hidden ∙ same_at old y x (order_of y x) refl)

-- the parts from one on: that one, and those after it
rest_at : (xs : List Exp) (i : ℕ) (x : Exp) → i < length xs → x ≡ get_or xs i x → map exp_of (drop i xs) ≡ exp_of x ∷ map exp_of (drop (i + 1) xs)
rest_at xs i x h e = ap (map exp_of) (drop_more xs i x h ∙ ap (λ y. y ∷ drop (i + 1) xs) (sym e))

pub typed_parts-returns-in-Err-clause-answer : goal.typed_parts-returns-in-Err-clause-answer
typed_parts-returns-in-Err-clause-answer t c = λ C shows.
    let xs = c.args.parts.now in
    let i = c.loop-part.part-index in
    let v = c.loop-part.invariant in
    refuses typed_list_of c.in-Err.fault _ (exps_fault c.args.made C (map exp_of xs) (exp_of c.part-item.result) (map exp_of (drop (i + 1) xs)) c.loop-part.count _ c.in-Err.fault
    (refusal typed_of c.in-Err.fault _ (c.in-Err.ensures.answer C (shows_same _ _ _ _ C v.0 shows)))
    (subst (λ us. CarriesExps c.args.made C (map exp_of xs) us c.loop-part.count (map (λ t. type_of t.value) c.loop-part.types.items)) (rest_at xs i c.part-item.result c.loop-part-test.true c.part-item.is) (v.1 C shows)))

pub typed_parts-loop-part-preserved : goal.typed_parts-loop-part-preserved
typed_parts-loop-part-preserved t c =
    let xs = c.args.parts.now in
    let i = c.loop-part.part-index in
    let x = c.part-item.result in
    let v = c.loop-part.invariant in (
      (λ y. c.in-Ok.ensures.locals y ∙ v.0 y),
      λ C shows.
          subst (λ ts. CarriesExps c.args.made C (map exp_of xs) (map exp_of (drop (i + 1) xs)) c.in-Ok.part.made ts) (sym (ap (map (λ t. type_of t.value)) c.in-Ok-push.ensures.items ∙ map-append (λ t. type_of t.value) c.loop-part.types.items (c.in-Ok.part.ty ∷ [])))
          (exps_on c.args.made C (map exp_of xs) (exp_of x) (map exp_of (drop (i + 1) xs)) c.loop-part.count c.in-Ok.part.made _ (type_of c.in-Ok.part.ty.value)
          (c.in-Ok.ensures.answer C (shows_same _ _ _ _ C v.0 shows))
          (subst (λ us. CarriesExps c.args.made C (map exp_of xs) us c.loop-part.count (map (λ t. type_of t.value) c.loop-part.types.items)) (rest_at xs i x c.loop-part-test.true c.part-item.is) (v.1 C shows))),
    )

pub typed_parts-loop-part-init : goal.typed_parts-loop-part-init
typed_parts-loop-part-init t c = (
  (λ y. refl),
  λ C shows.
      subst (λ ts. CarriesExps c.args.made C (map exp_of c.args.parts.now) (map exp_of c.args.parts.now) c.args.made ts) (sym (ap (map (λ t. type_of t.value)) c.new-types.ensures.items)) (exps_all c.args.made C _),
)

pub typed_parts-returns-clause-answer : goal.typed_parts-returns-clause-answer
typed_parts-returns-clause-answer t c = λ C shows.
    let xs = c.args.parts.now in
    let all : drop c.loop-part.part-index xs ≡ [] = drop_of_length-le xs (omega arith) in
    exps_end c.args.made C (map exp_of xs) c.loop-part.count _
    (subst (λ us. CarriesExps c.args.made C (map exp_of xs) us c.loop-part.count (map (λ t. type_of t.value) c.loop-part.types.items)) (ap (map exp_of) all) (c.loop-part.invariant.1 C shows))
