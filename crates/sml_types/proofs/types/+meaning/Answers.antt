use Rattle.std.proofs.Common.{◌≡◌, ◌<◌, ◌+◌, ◌++◌, ◌∷◌, [], length, map, take, drop, get_or, set, slice_get, Some, if◌then◌else◌, ap, sym, subst, ◌∙◌, append_assoc, arith, Vec, Global}
use Rattle.std.proofs.lemmas.List.{map-append, take_all}
use Rattle.std.specs.List.{AllByRecursion}
use Rattle.std.specs.declared.rc.Rc.{Rc}
use Rattle.sml_lex.specs.declared.fault.Code.TheVariants.{E4}
use Rattle.sml_tree.specs.Types as T
use Rattle.sml_tree.specs.TypeViews.{long_name_of, name_of, ty_field_of, ty_fields_of, ty_of, tys_of}
use Rattle.sml_tree.specs.Views.{ident_of, long_of}
use Rattle.sml_tree.specs.Withtype as W
use Rattle.sml_tree.specs.Withtype.{all_replaced, field_replaced, replaced}
use Rattle.sml_tree.specs.declared.types.TyField.{out-TyField}
use Rattle.sml_objects.specs.Initial.{Name}
use Rattle.sml_objects.specs.Labels.{label_rank}
use Rattle.sml_objects.specs.Objects as O
use Rattle.sml_objects.specs.Objects.{types_of}
use Rattle.sml_rules.specs.Answers.{accepted, fault}
use Rattle.sml_core_rules.specs.Datatypes.{listed}
use Rattle.sml_core_rules.specs.Types.{put_field, read_fields, read_ty, read_tys, row_of}
use Rattle.sml_types.specs.Answered.{IsAnswer}
use Rattle.sml_types.specs.Meant.{all_meant, meant}
use Rattle.sml_types.specs.Reads.{IfAnswered}
use Rattle.sml_types.specs.Rows.{AreRanked, fields_of}
use Rattle.sml_types.specs.Sides.{IsAcceptedAs, answer_map, answers_of, asked, asked_in_all, asked_in_fields}
use Rattle.sml_types.specs.declared.written.Written.{Written}
use Rattle.sml_types.proofs.Meanings.{meanings, meant-arrow}
use Rattle.sml_types.proofs.ReadLists.{asked-fields-next, asked-fields-stop, asked-next, asked-stop, fields-next, fields-stop, list-next, list-stop}
use Rattle.sml_types.proofs.Readings.{one-meant, list-meant, answered, any-place, arrow-first, arrow-second, asked-arrow, asked-arrow-first, asked-bracket, asked-misapplied, asked-no-field, asked-none, asked-row, asked-tuple, asked-unbound, asked-variable, constructor-refused, fault-answer, misapplied-anywhere, misapplied-read, misapplied-refused, never-side, no-side, noted-stop, noted-through, read-arrow, read-bracket, read-constructor, read-no-field, read-none, read-row, read-tuple, read-variable, some-side, through}
use Rattle.sml_types.proofs.RowFields.{fields-put, ranked-put, written-row}
use Rattle.sml_types.proofs.SideArguments.{answer-here, any-default, argument-missing, argument-read, arguments-stop, count-replaced, differ, length-answers, mapped-next, mapped-split, prefix, same, set-length, side-reads, side-stops}
use Rattle.sml_types.proofs.TyViews.{all_replaced-list, fields_replaced-list, ty_field_of-parts, ty_of-arrow, ty_of-bracket, ty_of-constructor, ty_of-misapplied, ty_of-row, ty_of-tuple, ty_of-variable}
use Rattle.sml_types.proofs.types.+meaning.Goals.{used_arguments-then-index-tys+in_ok-ty, used_arguments-else-index-tys}
use Rattle.sml_types.proofs.types.+meaning.Goals as goal

-- src/types.rt:182:9
pub applied-returns-in-Some-clause-answer : goal.applied-returns-in-Some-clause-answer
applied-returns-in-Some-clause-answer g t c = λ C bs vs tells sides says un.
    some-side C (W.binding (map ident_of c.args.long.now.path.items) (ident_of c.args.long.now.last) bs) c.in-Some.side.now (λ o. IsAnswer one-meant c.replaced.result (read_ty C vs (W.applied c.args.long.now.place (all_replaced bs (tys_of (map ty_of c.args.tys.now))) (long_name_of c.args.long.now) o)))
    (c.in-Some.ensures C bs sides) (c.replaced.ensures.answer C bs vs tells sides says un)

-- src/types.rt:182:9
pub applied-returns-in-Some-clause-noted : goal.applied-returns-in-Some-clause-noted
applied-returns-in-Some-clause-noted g t c = λ C bs vs tells sides says un none xs h.
    absurd (never-side C bs (map ident_of c.args.long.now.path.items) (ident_of c.args.long.now.last) c.in-Some.side.now none (c.in-Some.ensures C bs sides))

-- src/types.rt:184:17
pub applied-returns-in_err-types-clause-answer : goal.applied-returns-in_err-types-clause-answer
applied-returns-in_err-types-clause-answer g t c = λ C bs vs tells sides says un.
    no-side C (W.binding (map ident_of c.args.long.now.path.items) (ident_of c.args.long.now.last) bs) (λ o. IsAnswer one-meant c.from_residual.result (read_ty C vs (W.applied c.args.long.now.place (all_replaced bs (tys_of (map ty_of c.args.tys.now))) (long_name_of c.args.long.now) o)))
    (c.in_default.ensures C bs sides)
    (through list-meant one-meant c.from_residual.result c.in_err-types.field-0.0 (read_tys C vs (all_replaced bs (tys_of (map ty_of c.args.tys.now)))) _ c.from_residual.ensures.1
    (c.in_err-types.ensures.answer C bs vs tells sides says un) (constructor-refused C vs c.args.long.now.place (all_replaced bs (tys_of (map ty_of c.args.tys.now))) (long_name_of c.args.long.now)))

-- src/types.rt:166:1
pub applied-returns-clause-answer : goal.applied-returns-clause-answer
applied-returns-clause-answer g t c = λ C bs vs tells sides says un.
    no-side C (W.binding (map ident_of c.args.long.now.path.items) (ident_of c.args.long.now.last) bs) (λ o. IsAnswer one-meant c.application.result (read_ty C vs (W.applied c.args.long.now.place (all_replaced bs (tys_of (map ty_of c.args.tys.now))) (long_name_of c.args.long.now) o)))
    (c.in_default.ensures C bs sides)
    (answered one-meant c.application.result _ _
    (sym (read-constructor C vs c.args.long.now.place (all_replaced bs (tys_of (map ty_of c.args.tys.now))) (long_name_of c.args.long.now) (all_meant c.in_ok-types.types.items) (c.in_ok-types.ensures.answer C bs vs tells sides says un)))
    (c.application.ensures C tells))

-- src/types.rt:302:5
pub misapplied-returns-in_err-types_of-clause-answer :
    goal.misapplied-returns-in_err-types_of-clause-answer
misapplied-returns-in_err-types_of-clause-answer g t c = λ C bs vs tells sides says un.
    through list-meant one-meant c.from_residual.result c.in_err-types_of.field-0.0 (read_tys C vs (all_replaced bs (tys_of (map ty_of c.args.tys.now)))) _ c.from_residual.ensures.1
    (c.in_err-types_of.ensures.answer C bs vs tells sides says un) (misapplied-refused C vs c.args.long.now.place (all_replaced bs (tys_of (map ty_of c.args.tys.now))) (long_name_of c.args.long.now))

-- src/types.rt:287:1
pub misapplied-returns-clause-answer : goal.misapplied-returns-clause-answer
misapplied-returns-clause-answer g t c = λ C bs vs tells sides says un.
    fault-answer one-meant c.plain_fault.result (fault E4 c.args.long.now.place) _ c.plain_fault.ensures
    (misapplied-read C vs c.args.long.now.place (all_replaced bs (tys_of (map ty_of c.args.tys.now))) (long_name_of c.args.long.now) (all_meant c.in_ok-types_of.field-0.items) (c.in_ok-types_of.ensures.answer C bs vs tells sides says un))

-- src/types.rt:215:9
pub replaced-returns-then-tys-side-clause-answer :
    goal.replaced-returns-then-tys-side-clause-answer
replaced-returns-then-tys-side-clause-answer g t c = λ C bs vs tells sides says un b side.
    let count = count-replaced bs c.args.tys.now in
    subst (λ q. IsAnswer one-meant c.misapplied.result (read_ty C vs (if q then W.instance b.variables (all_replaced bs (tys_of (map ty_of c.args.tys.now))) b.ty else T.ty_misapplied c.args.long.now.place (all_replaced bs (tys_of (map ty_of c.args.tys.now))) (long_name_of c.args.long.now))))
    (sym (differ (length b.variables) (W.count_tys (all_replaced bs (tys_of (map ty_of c.args.tys.now)))) (λ e. c.if-tys-side.true (sym (side.arity ∙ e ∙ count)))))
    (c.misapplied.ensures.answer C bs vs tells sides says un)

-- src/types.rt:217:17
pub replaced-returns-in_err-types-clause-answer : goal.replaced-returns-in_err-types-clause-answer
replaced-returns-in_err-types-clause-answer g t c = λ C bs vs tells sides says un b side.
    let count : W.count_tys (all_replaced bs (tys_of (map ty_of c.args.tys.now))) ≡ length b.variables = count-replaced bs c.args.tys.now ∙ c.if-tys-side.false ∙ side.arity in
    subst (λ q. IsAnswer one-meant c.from_residual.result (read_ty C vs (if q then W.instance b.variables (all_replaced bs (tys_of (map ty_of c.args.tys.now))) b.ty else T.ty_misapplied c.args.long.now.place (all_replaced bs (tys_of (map ty_of c.args.tys.now))) (long_name_of c.args.long.now))))
    (sym (same (length b.variables) (W.count_tys (all_replaced bs (tys_of (map ty_of c.args.tys.now)))) (sym count)))
    (side-stops C vs un b c.args.side.now side (all_replaced bs (tys_of (map ty_of c.args.tys.now))) count c.deref.result.now c.deref.ensures.value c.from_residual.result c.in_err-types.field-0.0 c.from_residual.ensures.1
    (c.in_err-types.ensures.answer C bs vs tells sides says un))

-- src/types.rt:200:1
pub replaced-returns-clause-answer : goal.replaced-returns-clause-answer
replaced-returns-clause-answer g t c = λ C bs vs tells sides says un b side.
    let count : W.count_tys (all_replaced bs (tys_of (map ty_of c.args.tys.now))) ≡ length b.variables = count-replaced bs c.args.tys.now ∙ c.if-tys-side.false ∙ side.arity in
    let arguments = (c.in_ok-types.ensures.answer C bs vs tells sides says un).1 in
    subst (λ q. IsAnswer one-meant c.with.result (read_ty C vs (if q then W.instance b.variables (all_replaced bs (tys_of (map ty_of c.args.tys.now))) b.ty else T.ty_misapplied c.args.long.now.place (all_replaced bs (tys_of (map ty_of c.args.tys.now))) (long_name_of c.args.long.now))))
    (sym (same (length b.variables) (W.count_tys (all_replaced bs (tys_of (map ty_of c.args.tys.now)))) (sym count)))
    (answered one-meant c.with.result _ _
    (sym (side-reads C vs un b c.args.side.now side (all_replaced bs (tys_of (map ty_of c.args.tys.now))) count (meanings c.in_ok-types.types.items)
    (subst (AllByRecursion (λ k. k < length (answers_of C vs (all_replaced bs (tys_of (map ty_of c.args.tys.now)))) → IsAcceptedAs (answers_of C vs (all_replaced bs (tys_of (map ty_of c.args.tys.now)))) (meanings c.in_ok-types.types.items) k)) c.deref.ensures.value arguments)))
    (c.with.ensures (read_ty C (listed {N = Name} O.bound 0 b.variables) b.ty) side.meaning))

-- src/types.rt:158:5
pub row_type-loop-field-init : goal.row_type-loop-field-init
row_type-loop-field-init g t c = record {
  ranked = subst AreRanked (sym c.new-row.ensures.empty) tt;
  kept = λ vs s. s;
  stays = λ vs s. s;
  answer = λ C bs vs tells sides says un. read-no-field C vs ∙ ap (λ es. accepted (fields_of one-meant es)) (sym c.new-row.ensures.empty);
  noted = λ C bs vs tells sides says un none xs h. subst (g.V.TypeVariables.notes c.args.variables.now vs) (sym (asked-no-field C vs xs)) h;
}

-- src/types.rt:159:18
pub row_type-returns-in_err-ty-clause-answer : goal.row_type-returns-in_err-ty-clause-answer
row_type-returns-in_err-ty-clause-answer g t c = λ C bs vs tells sides says un p.
    let before = c.in_err-ty.ensures.kept vs says in
    through one-meant one-meant c.from_residual.result c.in_err-ty.field-0.0 _ _ c.from_residual.ensures.1 (c.in_err-ty.ensures.answer C bs vs tells sides says un)
    (λ f r. read-row C vs p _ ∙ ap (answer_map row_of) (ap (read_fields C vs []) (fields_replaced-list bs c.args.fields.now ∙ ap ty_fields_of (mapped-split (λ f. field_replaced bs (ty_field_of f)) c.args.fields.now c.loop-field.field-index c.field-item.result c.loop-field-test.true c.field-item.is ∙ ap (λ u. (map (λ f. field_replaced bs (ty_field_of f)) (take c.loop-field.field-index c.args.fields.now)) ++ u ∷ (map (λ f. field_replaced bs (ty_field_of f)) (drop (c.loop-field.field-index + 1) c.args.fields.now))) (ap (field_replaced bs) (ty_field_of-parts c.field-item.result))))
    ∙ fields-stop C vs (map (λ f. field_replaced bs (ty_field_of f)) (take c.loop-field.field-index c.args.fields.now)) (map (λ f. field_replaced bs (ty_field_of f)) (drop (c.loop-field.field-index + 1) c.args.fields.now)) (name_of (out-TyField c.field-item.result).label) (replaced bs (ty_of (out-TyField c.field-item.result).ty)) _ f (c.loop-field.invariant.answer C bs vs tells sides before un) r))

-- src/types.rt:159:18
pub row_type-returns-in_err-ty-clause-noted : goal.row_type-returns-in_err-ty-clause-noted
row_type-returns-in_err-ty-clause-noted g t c = λ C bs vs tells sides says un none xs h.
    let before = c.in_err-ty.ensures.kept vs says in
    noted-stop one-meant c.from_residual.result c.in_err-ty.field-0.0 _ _ _ c.from_residual.ensures.1 (c.in_err-ty.ensures.answer C bs vs tells sides says un)
    (c.in_err-ty.ensures.noted C bs vs tells sides says un none (xs ++ asked_in_fields C vs (ty_fields_of (map (λ f. field_replaced bs (ty_field_of f)) (take c.loop-field.field-index c.args.fields.now)))) (c.loop-field.invariant.noted C bs vs tells sides before un none xs h))
    (λ f r. subst (g.V.TypeVariables.notes c.written_type.new.variables vs)
    (append_assoc xs (asked_in_fields C vs (ty_fields_of (map (λ f. field_replaced bs (ty_field_of f)) (take c.loop-field.field-index c.args.fields.now)))) (asked C vs (replaced bs (ty_of (out-TyField c.field-item.result).ty)))
    ∙ ap (λ ys. xs ++ ys) (sym (ap (asked_in_fields C vs) (fields_replaced-list bs c.args.fields.now ∙ ap ty_fields_of (mapped-split (λ f. field_replaced bs (ty_field_of f)) c.args.fields.now c.loop-field.field-index c.field-item.result c.loop-field-test.true c.field-item.is ∙ ap (λ u. (map (λ f. field_replaced bs (ty_field_of f)) (take c.loop-field.field-index c.args.fields.now)) ++ u ∷ (map (λ f. field_replaced bs (ty_field_of f)) (drop (c.loop-field.field-index + 1) c.args.fields.now))) (ap (field_replaced bs) (ty_field_of-parts c.field-item.result))))
    ∙ asked-fields-stop C vs (map (λ f. field_replaced bs (ty_field_of f)) (take c.loop-field.field-index c.args.fields.now)) (map (λ f. field_replaced bs (ty_field_of f)) (drop (c.loop-field.field-index + 1) c.args.fields.now)) (name_of (out-TyField c.field-item.result).label) (replaced bs (ty_of (out-TyField c.field-item.result).ty)) _ f (c.loop-field.invariant.answer C bs vs tells sides before un) r))))

-- src/types.rt:158:5
pub row_type-loop-field-preserved : goal.row_type-loop-field-preserved
row_type-loop-field-preserved g t c = let key = c.in_ok-label_key.field-0 in
    let rank = c.in_ok-label_key.ensures.0 ∙ ap label_rank (sym c.in_ok-label_key.ensures.1) in
    let old = c.loop-field.row.entries in
    let ranked = c.loop-field.invariant.ranked in
    record {
      ranked = subst AreRanked (sym c.in_ok-insert.ensures.entries) (ranked-put old key c.in_ok-ty.ty ranked rank);
      kept = λ vs s. c.loop-field.invariant.kept vs (c.in_ok-ty.ensures.kept vs s);
      stays = λ vs s. c.in_ok-ty.ensures.stays vs (c.loop-field.invariant.stays vs s);
      answer = λ C bs vs tells sides says un.
          ap (λ us. read_fields C vs [] (ty_fields_of us)) (mapped-next (λ f. field_replaced bs (ty_field_of f)) c.args.fields.now c.loop-field.field-index c.field-item.result c.loop-field-test.true c.field-item.is ∙ ap (λ u. (map (λ f. field_replaced bs (ty_field_of f)) (take c.loop-field.field-index c.args.fields.now)) ++ u ∷ []) (ap (field_replaced bs) (ty_field_of-parts c.field-item.result)))
          ∙ fields-next C vs (map (λ f. field_replaced bs (ty_field_of f)) (take c.loop-field.field-index c.args.fields.now)) (name_of (out-TyField c.field-item.result).label) (replaced bs (ty_of (out-TyField c.field-item.result).ty)) (fields_of one-meant old) (meant c.in_ok-ty.ty.value)
          (c.loop-field.invariant.answer C bs vs tells sides (c.in_ok-ty.ensures.kept vs says) un) (c.in_ok-ty.ensures.answer C bs vs tells sides says un)
          ∙ ap accepted (sym (ap (fields_of one-meant) c.in_ok-insert.ensures.entries ∙ fields-put one-meant old key c.in_ok-ty.ty ranked rank
          ∙ ap (λ l. put_field l (meant c.in_ok-ty.ty.value) (fields_of one-meant old)) c.in_ok-label_key.ensures.1));
      noted = λ C bs vs tells sides says un none xs h.
          let before = c.in_ok-ty.ensures.kept vs says in
          subst (g.V.TypeVariables.notes c.written_type.new.variables vs)
          (append_assoc xs (asked_in_fields C vs (ty_fields_of (map (λ f. field_replaced bs (ty_field_of f)) (take c.loop-field.field-index c.args.fields.now)))) (asked C vs (replaced bs (ty_of (out-TyField c.field-item.result).ty)))
          ∙ ap (λ ys. xs ++ ys) (sym (ap (λ us. asked_in_fields C vs (ty_fields_of us)) (mapped-next (λ f. field_replaced bs (ty_field_of f)) c.args.fields.now c.loop-field.field-index c.field-item.result c.loop-field-test.true c.field-item.is ∙ ap (λ u. (map (λ f. field_replaced bs (ty_field_of f)) (take c.loop-field.field-index c.args.fields.now)) ++ u ∷ []) (ap (field_replaced bs) (ty_field_of-parts c.field-item.result)))
          ∙ asked-fields-next C vs (map (λ f. field_replaced bs (ty_field_of f)) (take c.loop-field.field-index c.args.fields.now)) (name_of (out-TyField c.field-item.result).label) (replaced bs (ty_of (out-TyField c.field-item.result).ty)) _ (c.loop-field.invariant.answer C bs vs tells sides before un))))
          (c.in_ok-ty.ensures.noted C bs vs tells sides says un none (xs ++ asked_in_fields C vs (ty_fields_of (map (λ f. field_replaced bs (ty_field_of f)) (take c.loop-field.field-index c.args.fields.now)))) (c.loop-field.invariant.noted C bs vs tells sides before un none xs h));
    }

-- src/types.rt:143:1
pub row_type-returns-clause-answer : goal.row_type-returns-clause-answer
row_type-returns-clause-answer g t c = λ C bs vs tells sides says un p.
    read-row C vs p _ ∙ ap (answer_map row_of) (ap (read_fields C vs []) (fields_replaced-list bs c.args.fields.now ∙ ap (λ ts. ty_fields_of (map (λ f. field_replaced bs (ty_field_of f)) ts)) (sym (take_all c.loop-field.field-index c.args.fields.now c.loop-field-test.false))) ∙ c.loop-field.invariant.answer C bs vs tells sides says un)
    ∙ ap accepted (sym (ap meant c.in_ok-shared.ensures
    ∙ written-row c.loop-field.row.entries c.in_ok-labels.labels c.in_ok-labels.parts c.in_ok-labels.ensures.parts (c.in_ok-labels.ensures.labels c.loop-field.invariant.ranked)))

-- src/types.rt:143:1
pub row_type-returns-clause-noted : goal.row_type-returns-clause-noted
row_type-returns-clause-noted g t c = λ C bs vs tells sides says un none xs h.
    subst (λ ts. g.V.TypeVariables.notes c.loop-field.variables vs (xs ++ asked_in_fields C vs ts)) (sym (fields_replaced-list bs c.args.fields.now ∙ ap (λ ts. ty_fields_of (map (λ f. field_replaced bs (ty_field_of f)) ts)) (sym (take_all c.loop-field.field-index c.args.fields.now c.loop-field-test.false))))
    (c.loop-field.invariant.noted C bs vs tells sides says un none xs h)

-- src/types.rt:137:5
pub types_of-loop-ty-init : goal.types_of-loop-ty-init
types_of-loop-ty-init g t c = record {
  kept = λ vs s. s;
  stays = λ vs s. s;
  answer = λ C bs vs tells sides says un. read-none C vs ∙ ap (λ ws. accepted (all_meant ws)) (sym c.new-types.ensures.items);
  noted = λ C bs vs tells sides says un none xs h. subst (g.V.TypeVariables.notes c.args.variables.now vs) (sym (asked-none C vs xs)) h;
}

-- src/types.rt:138:20
pub types_of-returns-in_err-written_type-clause-answer :
    goal.types_of-returns-in_err-written_type-clause-answer
types_of-returns-in_err-written_type-clause-answer g t c = λ C bs vs tells sides says un.
    let before = c.in_err-written_type.ensures.kept vs says in
    through one-meant list-meant c.from_residual.result c.in_err-written_type.field-0.0 _ _ c.from_residual.ensures.1 (c.in_err-written_type.ensures.answer C bs vs tells sides says un)
    (λ f r. ap (read_tys C vs) (all_replaced-list bs c.args.tys.now ∙ ap tys_of (mapped-split (λ t. replaced bs (ty_of t)) c.args.tys.now c.loop-ty.ty-index c.ty-item.result c.loop-ty-test.true c.ty-item.is))
    ∙ list-stop C vs (map (λ t. replaced bs (ty_of t)) (take c.loop-ty.ty-index c.args.tys.now)) (map (λ t. replaced bs (ty_of t)) (drop (c.loop-ty.ty-index + 1) c.args.tys.now)) (replaced bs (ty_of c.ty-item.result)) _ f (c.loop-ty.invariant.answer C bs vs tells sides before un) r)

-- src/types.rt:138:20
pub types_of-returns-in_err-written_type-clause-noted :
    goal.types_of-returns-in_err-written_type-clause-noted
types_of-returns-in_err-written_type-clause-noted g t c = λ C bs vs tells sides says un none xs h.
    let before = c.in_err-written_type.ensures.kept vs says in
    noted-stop one-meant c.from_residual.result c.in_err-written_type.field-0.0 _ _ _ c.from_residual.ensures.1 (c.in_err-written_type.ensures.answer C bs vs tells sides says un)
    (c.in_err-written_type.ensures.noted C bs vs tells sides says un none (xs ++ asked_in_all C vs (tys_of (map (λ t. replaced bs (ty_of t)) (take c.loop-ty.ty-index c.args.tys.now)))) (c.loop-ty.invariant.noted C bs vs tells sides before un none xs h))
    (λ f r. subst (g.V.TypeVariables.notes c.written_type.new.variables vs)
    (append_assoc xs (asked_in_all C vs (tys_of (map (λ t. replaced bs (ty_of t)) (take c.loop-ty.ty-index c.args.tys.now)))) (asked C vs (replaced bs (ty_of c.ty-item.result)))
    ∙ ap (λ ys. xs ++ ys) (sym (ap (asked_in_all C vs) (all_replaced-list bs c.args.tys.now ∙ ap tys_of (mapped-split (λ t. replaced bs (ty_of t)) c.args.tys.now c.loop-ty.ty-index c.ty-item.result c.loop-ty-test.true c.ty-item.is))
    ∙ asked-stop C vs (map (λ t. replaced bs (ty_of t)) (take c.loop-ty.ty-index c.args.tys.now)) (map (λ t. replaced bs (ty_of t)) (drop (c.loop-ty.ty-index + 1) c.args.tys.now)) (replaced bs (ty_of c.ty-item.result)) _ f (c.loop-ty.invariant.answer C bs vs tells sides before un) r))))

-- src/types.rt:137:5
pub types_of-loop-ty-preserved : goal.types_of-loop-ty-preserved
types_of-loop-ty-preserved g t c = record {
  kept = λ vs s. c.loop-ty.invariant.kept vs (c.in_ok-written_type.ensures.kept vs s);
  stays = λ vs s. c.in_ok-written_type.ensures.stays vs (c.loop-ty.invariant.stays vs s);
  answer = λ C bs vs tells sides says un.
      let w = c.in_ok-written_type.field-0 in
      ap (λ us. read_tys C vs (tys_of us)) (mapped-next (λ t. replaced bs (ty_of t)) c.args.tys.now c.loop-ty.ty-index c.ty-item.result c.loop-ty-test.true c.ty-item.is)
      ∙ list-next C vs (map (λ t. replaced bs (ty_of t)) (take c.loop-ty.ty-index c.args.tys.now)) (replaced bs (ty_of c.ty-item.result)) (meanings c.loop-ty.types.items) (meant w.value)
      (c.loop-ty.invariant.answer C bs vs tells sides (c.in_ok-written_type.ensures.kept vs says) un) (c.in_ok-written_type.ensures.answer C bs vs tells sides says un)
      ∙ ap accepted (sym (ap all_meant c.in_ok-push.ensures.items ∙ ap types_of (map-append one-meant c.loop-ty.types.items (w ∷ []))));
  noted = λ C bs vs tells sides says un none xs h.
      let before = c.in_ok-written_type.ensures.kept vs says in
      subst (g.V.TypeVariables.notes c.written_type.new.variables vs)
      (append_assoc xs (asked_in_all C vs (tys_of (map (λ t. replaced bs (ty_of t)) (take c.loop-ty.ty-index c.args.tys.now)))) (asked C vs (replaced bs (ty_of c.ty-item.result)))
      ∙ ap (λ ys. xs ++ ys) (sym (ap (λ us. asked_in_all C vs (tys_of us)) (mapped-next (λ t. replaced bs (ty_of t)) c.args.tys.now c.loop-ty.ty-index c.ty-item.result c.loop-ty-test.true c.ty-item.is)
      ∙ asked-next C vs (map (λ t. replaced bs (ty_of t)) (take c.loop-ty.ty-index c.args.tys.now)) (replaced bs (ty_of c.ty-item.result)) _ (c.loop-ty.invariant.answer C bs vs tells sides before un))))
      (c.in_ok-written_type.ensures.noted C bs vs tells sides says un none (xs ++ asked_in_all C vs (tys_of (map (λ t. replaced bs (ty_of t)) (take c.loop-ty.ty-index c.args.tys.now)))) (c.loop-ty.invariant.noted C bs vs tells sides before un none xs h));
}

-- src/types.rt:122:1
pub types_of-returns-clause-answer : goal.types_of-returns-clause-answer
types_of-returns-clause-answer g t c = λ C bs vs tells sides says un.
    ap (read_tys C vs) (all_replaced-list bs c.args.tys.now ∙ ap (λ ts. tys_of (map (λ t. replaced bs (ty_of t)) ts)) (sym (take_all c.loop-ty.ty-index c.args.tys.now c.loop-ty-test.false))) ∙ c.loop-ty.invariant.answer C bs vs tells sides says un

-- src/types.rt:122:1
pub types_of-returns-clause-noted : goal.types_of-returns-clause-noted
types_of-returns-clause-noted g t c = λ C bs vs tells sides says un none xs h.
    subst (λ ts. g.V.TypeVariables.notes c.loop-ty.variables vs (xs ++ asked_in_all C vs ts)) (sym (all_replaced-list bs c.args.tys.now ∙ ap (λ ts. tys_of (map (λ t. replaced bs (ty_of t)) ts)) (sym (take_all c.loop-ty.ty-index c.args.tys.now c.loop-ty-test.false))))
    (c.loop-ty.invariant.noted C bs vs tells sides says un none xs h)

-- src/types.rt:239:22
pub used_arguments-returns-in_err-ty-clause-answer :
    goal.used_arguments-returns-in_err-ty-clause-answer
used_arguments-returns-in_err-ty-clause-answer g t c = λ C bs vs tells sides says un.
    let before = c.in_err-ty.ensures.kept vs says in
    arguments-stop (answers_of C vs (all_replaced bs (tys_of (map ty_of c.args.tys.now)))) c.args.used.now c.loop-number.number-index (get_or c.args.used.now c.loop-number.number-index 0) (read_ty C vs (replaced bs (ty_of c.index-tys-index.result))) (meanings c.loop-number.types.items) c.from_residual-in_err-ty.result c.in_err-ty.field-0.0 c.from_residual-in_err-ty.ensures.1
    c.loop-number-test.true (any-default c.args.used.now c.loop-number.number-index 0 (get_or c.args.used.now c.loop-number.number-index 0) c.loop-number-test.true) (c.loop-number.invariant.answer C bs vs tells sides before un)
    (ap (λ us. slice_get (answers_of C vs us) (get_or c.args.used.now c.loop-number.number-index 0)) (all_replaced-list bs c.args.tys.now) ∙ answer-here C vs (λ t. replaced bs (ty_of t)) c.args.tys.now (get_or c.args.used.now c.loop-number.number-index 0) c.index-tys-index.result c.if-index-tys.true c.index-tys-index.is)
    (c.in_err-ty.ensures.answer C bs vs tells sides says un)

-- src/types.rt:236:5
pub used_arguments-loop-number-preserved : goal.used_arguments-loop-number-preserved
used_arguments-loop-number-preserved g t c = elim c.if-index-tys.branch [
  | used_arguments-then-index-tys+in_ok-ty w ↦
      let stored : w.put.new.types ≡ set c.loop-number.types.items (get_or c.args.used.now c.loop-number.number-index 0) w.in_ok-ty.ty = w.put.ensures ∙ ap (λ ws. set ws (get_or c.args.used.now c.loop-number.number-index 0) w.in_ok-ty.ty) w.deref_mut.ensures.value in
      let items : c.if-index-tys.types.items ≡ set c.loop-number.types.items (get_or c.args.used.now c.loop-number.number-index 0) w.in_ok-ty.ty =
      ap (λ (v : Vec (Rc Written Global) Global). v.items) w.types-is ∙ prefix w.put.new.types (drop (length w.put.new.types) c.loop-number.types.items) c.loop-number.types.len (omega (arith, c.loop-number.types.ok.0, ap length stored, set-length c.loop-number.types.items (get_or c.args.used.now c.loop-number.number-index 0) w.in_ok-ty.ty)) ∙ stored in
      record {
        size = ap length items ∙ set-length c.loop-number.types.items (get_or c.args.used.now c.loop-number.number-index 0) w.in_ok-ty.ty ∙ c.loop-number.invariant.size;
        kept = λ vs s. c.loop-number.invariant.kept vs (w.in_ok-ty.ensures.kept vs (subst (λ v. g.V.TypeVariables.says v vs) w.variables-is s));
        stays = λ vs s. subst (λ v. g.V.TypeVariables.stays v vs) (sym w.variables-is) (w.in_ok-ty.ensures.stays vs (c.loop-number.invariant.stays vs s));
        answer = λ C bs vs tells sides s un.
            let says = subst (λ v. g.V.TypeVariables.says v vs) w.variables-is s in
            let before = w.in_ok-ty.ensures.kept vs says in
            subst (λ ws. AllByRecursion (λ j. j < length (answers_of C vs (all_replaced bs (tys_of (map ty_of c.args.tys.now)))) → IsAcceptedAs (answers_of C vs (all_replaced bs (tys_of (map ty_of c.args.tys.now)))) (meanings ws) j) (take (c.loop-number.number-index + 1) c.args.used.now)) (sym items)
            (argument-read (answers_of C vs (all_replaced bs (tys_of (map ty_of c.args.tys.now)))) c.loop-number.types.items c.args.used.now c.loop-number.number-index c.loop-number-test.true (c.loop-number.invariant.answer C bs vs tells sides before un) w.in_ok-ty.ty
            (let size = c.loop-number.invariant.size in let inside = w.if-index-tys.true in omega (arith, size, inside))
            (ap (λ us. slice_get (answers_of C vs us) (get_or c.args.used.now c.loop-number.number-index 0)) (all_replaced-list bs c.args.tys.now) ∙ answer-here C vs (λ t. replaced bs (ty_of t)) c.args.tys.now (get_or c.args.used.now c.loop-number.number-index 0) w.index-tys-index.result w.if-index-tys.true w.index-tys-index.is ∙ ap (λ a. Some a) (w.in_ok-ty.ensures.answer C bs vs tells sides says un)));
      }
  | used_arguments-else-index-tys w ↦
      let items : c.if-index-tys.types.items ≡ c.loop-number.types.items = ap (λ (v : Vec (Rc Written Global) Global). v.items) w.types-is in
      record {
        size = ap length items ∙ c.loop-number.invariant.size;
        kept = λ vs s. c.loop-number.invariant.kept vs (subst (λ v. g.V.TypeVariables.says v vs) w.variables-is s);
        stays = λ vs s. subst (λ v. g.V.TypeVariables.stays v vs) (sym w.variables-is) (c.loop-number.invariant.stays vs s);
        answer = λ C bs vs tells sides s un.
            let says = subst (λ v. g.V.TypeVariables.says v vs) w.variables-is s in
            subst (λ ws. AllByRecursion (λ j. j < length (answers_of C vs (all_replaced bs (tys_of (map ty_of c.args.tys.now)))) → IsAcceptedAs (answers_of C vs (all_replaced bs (tys_of (map ty_of c.args.tys.now)))) (meanings ws) j) (take (c.loop-number.number-index + 1) c.args.used.now)) (sym items)
            (argument-missing (answers_of C vs (all_replaced bs (tys_of (map ty_of c.args.tys.now)))) c.loop-number.types.items c.args.used.now c.loop-number.number-index c.loop-number-test.true (c.loop-number.invariant.answer C bs vs tells sides says un)
            (λ l. let size = length-answers C vs (all_replaced bs (tys_of (map ty_of c.args.tys.now))) ∙ count-replaced bs c.args.tys.now in let past = w.if-index-tys.false in omega (arith, l, size, past)));
      }
]

-- src/types.rt:222:1
pub used_arguments-returns-clause-answer : goal.used_arguments-returns-clause-answer
used_arguments-returns-clause-answer g t c = λ C bs vs tells sides says un. (
  c.loop-number.invariant.size ∙ sym (length-answers C vs (all_replaced bs (tys_of (map ty_of c.args.tys.now))) ∙ count-replaced bs c.args.tys.now),
  subst (AllByRecursion (λ k. k < length (answers_of C vs (all_replaced bs (tys_of (map ty_of c.args.tys.now)))) → IsAcceptedAs (answers_of C vs (all_replaced bs (tys_of (map ty_of c.args.tys.now)))) (meanings c.loop-number.types.items) k)) (take_all c.loop-number.number-index c.args.used.now c.loop-number-test.false)
      (c.loop-number.invariant.answer C bs vs tells sides says un),
)

-- src/types.rt:93:25
pub written_type-returns-in_err-parts-in-Tuple-clause-answer :
    goal.written_type-returns-in_err-parts-in-Tuple-clause-answer
written_type-returns-in_err-parts-in-Tuple-clause-answer g t c = λ C bs vs tells sides says un.
    let form : ty_of c.args.ty.now ≡ T.ty_tuple c.in-Tuple.field-0 (tys_of (map ty_of c.deref-in-Tuple.result.now)) = ap ty_of c.in-Tuple.is ∙ ty_of-tuple c.in-Tuple.field-0 c.in-Tuple.tys ∙ ap (λ ts. T.ty_tuple c.in-Tuple.field-0 (tys_of (map ty_of ts))) (sym c.deref-in-Tuple.ensures.value) in
    subst (λ t. IsAnswer one-meant c.from_residual.result (read_ty C vs (replaced bs t))) (sym form)
    (through list-meant one-meant c.from_residual.result c.in_err-parts-in-Tuple.field-0.0 _ _ c.from_residual.ensures.1 (c.in_err-parts-in-Tuple.ensures.answer C bs vs tells sides says un)
    (λ f r. read-tuple C vs c.in-Tuple.field-0 _ ∙ ap (answer_map O.tuple_of) r))

-- src/types.rt:93:25
pub written_type-returns-in_err-parts-in-Tuple-clause-noted :
    goal.written_type-returns-in_err-parts-in-Tuple-clause-noted
written_type-returns-in_err-parts-in-Tuple-clause-noted g t c = λ C bs vs tells sides says un none xs h.
    let form : ty_of c.args.ty.now ≡ T.ty_tuple c.in-Tuple.field-0 (tys_of (map ty_of c.deref-in-Tuple.result.now)) = ap ty_of c.in-Tuple.is ∙ ty_of-tuple c.in-Tuple.field-0 c.in-Tuple.tys ∙ ap (λ ts. T.ty_tuple c.in-Tuple.field-0 (tys_of (map ty_of ts))) (sym c.deref-in-Tuple.ensures.value) in
    subst (λ t. IfAnswered c.from_residual.result (g.V.TypeVariables.notes c.types_of.new.variables vs (xs ++ asked C vs (replaced bs t)))) (sym form)
    (noted-through (Vec (Rc Written Global) Global) c.from_residual.result c.in_err-parts-in-Tuple.field-0.0 _ _ c.from_residual.ensures.1 (c.in_err-parts-in-Tuple.ensures.noted C bs vs tells sides says un none xs h)
    (subst (λ ys. g.V.TypeVariables.notes c.types_of.new.variables vs (xs ++ ys)) (sym (asked-tuple C vs c.in-Tuple.field-0 _))))

-- src/types.rt:99:24
pub written_type-returns-in_err-from-in-Arrow-clause-answer :
    goal.written_type-returns-in_err-from-in-Arrow-clause-answer
written_type-returns-in_err-from-in-Arrow-clause-answer g t c = λ C bs vs tells sides says un.
    let form : ty_of c.args.ty.now ≡ T.ty_arrow c.in-Arrow.field-0 (ty_of c.deref-in-Arrow.result.now) (ty_of c.in-Arrow.to.value) = ap ty_of c.in-Arrow.is ∙ ty_of-arrow c.in-Arrow.field-0 c.in-Arrow.from c.in-Arrow.to ∙ ap (λ t. T.ty_arrow c.in-Arrow.field-0 (ty_of t) (ty_of c.in-Arrow.to.value)) (sym c.deref-in-Arrow.ensures) in
    subst (λ t. IsAnswer one-meant c.from_residual-in_err-from-in-Arrow.result (read_ty C vs (replaced bs t))) (sym form)
    (through one-meant one-meant c.from_residual-in_err-from-in-Arrow.result c.in_err-from-in-Arrow.field-0.0 _ _ c.from_residual-in_err-from-in-Arrow.ensures.1 (c.in_err-from-in-Arrow.ensures.answer C bs vs tells sides says un) (arrow-first C vs c.in-Arrow.field-0 _ _))

-- src/types.rt:99:24
pub written_type-returns-in_err-from-in-Arrow-clause-noted :
    goal.written_type-returns-in_err-from-in-Arrow-clause-noted
written_type-returns-in_err-from-in-Arrow-clause-noted g t c = λ C bs vs tells sides says un none xs h.
    let form : ty_of c.args.ty.now ≡ T.ty_arrow c.in-Arrow.field-0 (ty_of c.deref-in-Arrow.result.now) (ty_of c.in-Arrow.to.value) = ap ty_of c.in-Arrow.is ∙ ty_of-arrow c.in-Arrow.field-0 c.in-Arrow.from c.in-Arrow.to ∙ ap (λ t. T.ty_arrow c.in-Arrow.field-0 (ty_of t) (ty_of c.in-Arrow.to.value)) (sym c.deref-in-Arrow.ensures) in
    subst (λ t. IfAnswered c.from_residual-in_err-from-in-Arrow.result (g.V.TypeVariables.notes c.written_type.new.variables vs (xs ++ asked C vs (replaced bs t)))) (sym form)
    (noted-stop one-meant c.from_residual-in_err-from-in-Arrow.result c.in_err-from-in-Arrow.field-0.0 _ _ _ c.from_residual-in_err-from-in-Arrow.ensures.1 (c.in_err-from-in-Arrow.ensures.answer C bs vs tells sides says un) (c.in_err-from-in-Arrow.ensures.noted C bs vs tells sides says un none xs h)
    (λ f r. subst (λ ys. g.V.TypeVariables.notes c.written_type.new.variables vs (xs ++ ys)) (sym (asked-arrow-first C vs c.in-Arrow.field-0 _ _ f r))))

-- src/types.rt:100:22
pub written_type-returns-in_err-to-in-Arrow-clause-answer :
    goal.written_type-returns-in_err-to-in-Arrow-clause-answer
written_type-returns-in_err-to-in-Arrow-clause-answer g t c = λ C bs vs tells sides says un.
    let form : ty_of c.args.ty.now ≡ T.ty_arrow c.in-Arrow.field-0 (ty_of c.deref-in-Arrow.result.now) (ty_of c.deref-in-Arrow-2.result.now) = ap ty_of c.in-Arrow.is ∙ ty_of-arrow c.in-Arrow.field-0 c.in-Arrow.from c.in-Arrow.to ∙ (λ i. T.ty_arrow c.in-Arrow.field-0 (ty_of (sym c.deref-in-Arrow.ensures i)) (ty_of (sym c.deref-in-Arrow-2.ensures i))) in
    subst (λ t. IsAnswer one-meant c.from_residual-in_err-to-in-Arrow.result (read_ty C vs (replaced bs t))) (sym form)
    (through one-meant one-meant c.from_residual-in_err-to-in-Arrow.result c.in_err-to-in-Arrow.field-0.0 _ _ c.from_residual-in_err-to-in-Arrow.ensures.1 (c.in_err-to-in-Arrow.ensures.answer C bs vs tells sides says un)
    (λ f r. arrow-second C vs c.in-Arrow.field-0 _ _ _ f (c.in_ok-from-in-Arrow.ensures.answer C bs vs tells sides (c.in_err-to-in-Arrow.ensures.kept vs says) un) r))

-- src/types.rt:100:22
pub written_type-returns-in_err-to-in-Arrow-clause-noted :
    goal.written_type-returns-in_err-to-in-Arrow-clause-noted
written_type-returns-in_err-to-in-Arrow-clause-noted g t c = λ C bs vs tells sides says un none xs h.
    let form : ty_of c.args.ty.now ≡ T.ty_arrow c.in-Arrow.field-0 (ty_of c.deref-in-Arrow.result.now) (ty_of c.deref-in-Arrow-2.result.now) = ap ty_of c.in-Arrow.is ∙ ty_of-arrow c.in-Arrow.field-0 c.in-Arrow.from c.in-Arrow.to ∙ (λ i. T.ty_arrow c.in-Arrow.field-0 (ty_of (sym c.deref-in-Arrow.ensures i)) (ty_of (sym c.deref-in-Arrow-2.ensures i))) in
    subst (λ t. IfAnswered c.from_residual-in_err-to-in-Arrow.result (g.V.TypeVariables.notes c.written_type-in-Arrow.new.variables vs (xs ++ asked C vs (replaced bs t)))) (sym form)
    (noted-through (Rc Written Global) c.from_residual-in_err-to-in-Arrow.result c.in_err-to-in-Arrow.field-0.0 _ _ c.from_residual-in_err-to-in-Arrow.ensures.1
    (c.in_err-to-in-Arrow.ensures.noted C bs vs tells sides says un none (xs ++ asked C vs (replaced bs (ty_of c.deref-in-Arrow.result.now))) (c.in_ok-from-in-Arrow.ensures.noted C bs vs tells sides (c.in_err-to-in-Arrow.ensures.kept vs says) un none xs h))
    (subst (g.V.TypeVariables.notes c.written_type-in-Arrow.new.variables vs)
    (append_assoc xs _ _ ∙ ap (λ ys. xs ++ ys) (sym (asked-arrow C vs c.in-Arrow.field-0 _ _ _ (c.in_ok-from-in-Arrow.ensures.answer C bs vs tells sides (c.in_err-to-in-Arrow.ensures.kept vs says) un))))))

-- src/types.rt:76:1
pub written_type-returns-in-Variable-clause-answer :
    goal.written_type-returns-in-Variable-clause-answer
written_type-returns-in-Variable-clause-answer g t c = λ C bs vs tells sides says un.
    let form : ty_of c.args.ty.now ≡ T.ty_variable c.in-Variable.place (ident_of c.in-Variable.name) = ap ty_of c.in-Variable.is ∙ ty_of-variable c.in-Variable.place c.in-Variable.name in
    subst (λ t. IsAnswer one-meant c.variable_type.result (read_ty C vs (replaced bs t))) (sym form)
    (answered one-meant c.variable_type.result _ _ (sym (read-variable C vs c.in-Variable.place (ident_of c.in-Variable.name))) (c.variable_type.ensures.answer vs says))

-- src/types.rt:76:1
pub written_type-returns-in-Variable-clause-noted :
    goal.written_type-returns-in-Variable-clause-noted
written_type-returns-in-Variable-clause-noted g t c = λ C bs vs tells sides says un none xs h.
    let form : ty_of c.args.ty.now ≡ T.ty_variable c.in-Variable.place (ident_of c.in-Variable.name) = ap ty_of c.in-Variable.is ∙ ty_of-variable c.in-Variable.place c.in-Variable.name in
    subst (λ t. IfAnswered c.variable_type.result (g.V.TypeVariables.notes c.variable_type.new.variables vs (xs ++ asked C vs (replaced bs t)))) (sym form)
    (subst (λ ys. IfAnswered c.variable_type.result (g.V.TypeVariables.notes c.variable_type.new.variables vs (xs ++ ys))) (sym (asked-variable C vs c.in-Variable.place (ident_of c.in-Variable.name)))
    (c.variable_type.ensures.noted vs xs h))

-- src/types.rt:76:1
pub written_type-returns-in-Row-clause-noted : goal.written_type-returns-in-Row-clause-noted
written_type-returns-in-Row-clause-noted g t c = λ C bs vs tells sides says un none xs h.
    let form : ty_of c.args.ty.now ≡ T.ty_row c.in-Row.field-0 (ty_fields_of (map ty_field_of c.deref.result.now)) = ap ty_of c.in-Row.is ∙ ty_of-row c.in-Row.field-0 c.in-Row.fields ∙ ap (λ fs. T.ty_row c.in-Row.field-0 (ty_fields_of (map ty_field_of fs))) (sym c.deref.ensures.value) in
    subst (λ t. IfAnswered c.row_type.result (g.V.TypeVariables.notes c.row_type.new.variables vs (xs ++ asked C vs (replaced bs t)))) (sym form)
    (subst (λ ys. IfAnswered c.row_type.result (g.V.TypeVariables.notes c.row_type.new.variables vs (xs ++ ys))) (sym (asked-row C vs c.in-Row.field-0 _))
    (c.row_type.ensures.noted C bs vs tells sides says un none xs h))

-- src/types.rt:76:1
pub written_type-returns-in_ok-written_tuple-in-Tuple-clause-answer :
    goal.written_type-returns-in_ok-written_tuple-in-Tuple-clause-answer
written_type-returns-in_ok-written_tuple-in-Tuple-clause-answer g t c = λ C bs vs tells sides says un.
    let form : ty_of c.args.ty.now ≡ T.ty_tuple c.in-Tuple.field-0 (tys_of (map ty_of c.deref-in-Tuple.result.now)) = ap ty_of c.in-Tuple.is ∙ ty_of-tuple c.in-Tuple.field-0 c.in-Tuple.tys ∙ ap (λ ts. T.ty_tuple c.in-Tuple.field-0 (tys_of (map ty_of ts))) (sym c.deref-in-Tuple.ensures.value) in
    ap (λ t. read_ty C vs (replaced bs t)) form ∙ read-tuple C vs c.in-Tuple.field-0 _ ∙ ap (answer_map O.tuple_of) (c.in_ok-parts-in-Tuple.ensures.answer C bs vs tells sides says un)
    ∙ ap accepted (sym c.in_ok-written_tuple-in-Tuple.ensures)

-- src/types.rt:76:1
pub written_type-returns-in_ok-written_tuple-in-Tuple-clause-noted :
    goal.written_type-returns-in_ok-written_tuple-in-Tuple-clause-noted
written_type-returns-in_ok-written_tuple-in-Tuple-clause-noted g t c = λ C bs vs tells sides says un none xs h.
    let form : ty_of c.args.ty.now ≡ T.ty_tuple c.in-Tuple.field-0 (tys_of (map ty_of c.deref-in-Tuple.result.now)) = ap ty_of c.in-Tuple.is ∙ ty_of-tuple c.in-Tuple.field-0 c.in-Tuple.tys ∙ ap (λ ts. T.ty_tuple c.in-Tuple.field-0 (tys_of (map ty_of ts))) (sym c.deref-in-Tuple.ensures.value) in
    subst (λ t. g.V.TypeVariables.notes c.types_of.new.variables vs (xs ++ asked C vs (replaced bs t))) (sym form)
    (subst (λ ys. g.V.TypeVariables.notes c.types_of.new.variables vs (xs ++ ys)) (sym (asked-tuple C vs c.in-Tuple.field-0 _)) (c.in_ok-parts-in-Tuple.ensures.noted C bs vs tells sides says un none xs h))

-- src/types.rt:76:1
pub written_type-returns-in-Constructor-clause-answer :
    goal.written_type-returns-in-Constructor-clause-answer
written_type-returns-in-Constructor-clause-answer g t c = λ C bs vs tells sides says un.
    let form : ty_of c.args.ty.now ≡ T.ty_constructor c.in-Constructor.field-0 (tys_of (map ty_of c.deref-in-Constructor.result.now)) (long_name_of c.in-Constructor.long) = ap ty_of c.in-Constructor.is ∙ ty_of-constructor c.in-Constructor.field-0 c.in-Constructor.tys c.in-Constructor.long ∙ ap (λ ts. T.ty_constructor c.in-Constructor.field-0 (tys_of (map ty_of ts)) (long_name_of c.in-Constructor.long)) (sym c.deref-in-Constructor.ensures.value) in
    subst (λ t. IsAnswer one-meant c.applied.result (read_ty C vs (replaced bs t))) (sym form)
    (answered one-meant c.applied.result _ _
    (any-place C vs c.in-Constructor.long.place c.in-Constructor.field-0 (all_replaced bs (tys_of (map ty_of c.deref-in-Constructor.result.now))) (long_name_of c.in-Constructor.long) (W.binding (long_of c.in-Constructor.long).path (long_of c.in-Constructor.long).last bs))
    (c.applied.ensures.answer C bs vs tells sides says un))

-- src/types.rt:76:1
pub written_type-returns-in-Constructor-clause-noted :
    goal.written_type-returns-in-Constructor-clause-noted
written_type-returns-in-Constructor-clause-noted g t c = λ C bs vs tells sides says un none xs h.
    let form : ty_of c.args.ty.now ≡ T.ty_constructor c.in-Constructor.field-0 (tys_of (map ty_of c.deref-in-Constructor.result.now)) (long_name_of c.in-Constructor.long) = ap ty_of c.in-Constructor.is ∙ ty_of-constructor c.in-Constructor.field-0 c.in-Constructor.tys c.in-Constructor.long ∙ ap (λ ts. T.ty_constructor c.in-Constructor.field-0 (tys_of (map ty_of ts)) (long_name_of c.in-Constructor.long)) (sym c.deref-in-Constructor.ensures.value) in
    subst (λ t. IfAnswered c.applied.result (g.V.TypeVariables.notes c.applied.new.variables vs (xs ++ asked C vs (replaced bs t)))) (sym form)
    (subst (λ ys. IfAnswered c.applied.result (g.V.TypeVariables.notes c.applied.new.variables vs (xs ++ ys)))
    (sym (asked-unbound C vs c.in-Constructor.field-0 (all_replaced bs (tys_of (map ty_of c.deref-in-Constructor.result.now))) (long_name_of c.in-Constructor.long) bs none (long_of c.in-Constructor.long).path (long_of c.in-Constructor.long).last))
    (c.applied.ensures.noted C bs vs tells sides says un none xs h))

-- src/types.rt:76:1
pub written_type-returns-in-Misapplied-clause-answer :
    goal.written_type-returns-in-Misapplied-clause-answer
written_type-returns-in-Misapplied-clause-answer g t c = λ C bs vs tells sides says un.
    let form : ty_of c.args.ty.now ≡ T.ty_misapplied c.in-Misapplied.field-0 (tys_of (map ty_of c.deref-in-Misapplied.result.now)) (long_name_of c.in-Misapplied.long) = ap ty_of c.in-Misapplied.is ∙ ty_of-misapplied c.in-Misapplied.field-0 c.in-Misapplied.tys c.in-Misapplied.long ∙ ap (λ ts. T.ty_misapplied c.in-Misapplied.field-0 (tys_of (map ty_of ts)) (long_name_of c.in-Misapplied.long)) (sym c.deref-in-Misapplied.ensures.value) in
    subst (λ t. IsAnswer one-meant c.misapplied.result (read_ty C vs (replaced bs t))) (sym form)
    (answered one-meant c.misapplied.result _ _ (misapplied-anywhere C vs c.in-Misapplied.long.place c.in-Misapplied.field-0 (all_replaced bs (tys_of (map ty_of c.deref-in-Misapplied.result.now))) (long_name_of c.in-Misapplied.long)) (c.misapplied.ensures.answer C bs vs tells sides says un))

-- src/types.rt:76:1
pub written_type-returns-in-Misapplied-clause-noted :
    goal.written_type-returns-in-Misapplied-clause-noted
written_type-returns-in-Misapplied-clause-noted g t c = λ C bs vs tells sides says un none xs h.
    let form : ty_of c.args.ty.now ≡ T.ty_misapplied c.in-Misapplied.field-0 (tys_of (map ty_of c.deref-in-Misapplied.result.now)) (long_name_of c.in-Misapplied.long) = ap ty_of c.in-Misapplied.is ∙ ty_of-misapplied c.in-Misapplied.field-0 c.in-Misapplied.tys c.in-Misapplied.long ∙ ap (λ ts. T.ty_misapplied c.in-Misapplied.field-0 (tys_of (map ty_of ts)) (long_name_of c.in-Misapplied.long)) (sym c.deref-in-Misapplied.ensures.value) in
    subst (λ t. IfAnswered c.misapplied.result (g.V.TypeVariables.notes c.misapplied.new.variables vs (xs ++ asked C vs (replaced bs t)))) (sym form)
    (subst (λ ys. IfAnswered c.misapplied.result (g.V.TypeVariables.notes c.misapplied.new.variables vs (xs ++ ys))) (sym (asked-misapplied C vs c.in-Misapplied.field-0 _ (long_name_of c.in-Misapplied.long)))
    (c.misapplied.ensures.noted C bs vs tells sides says un none xs h))

-- src/types.rt:76:1
pub written_type-returns-in_ok-shared-in-Arrow-clause-answer :
    goal.written_type-returns-in_ok-shared-in-Arrow-clause-answer
written_type-returns-in_ok-shared-in-Arrow-clause-answer g t c = λ C bs vs tells sides says un.
    let form : ty_of c.args.ty.now ≡ T.ty_arrow c.in-Arrow.field-0 (ty_of c.deref-in-Arrow.result.now) (ty_of c.deref-in-Arrow-2.result.now) = ap ty_of c.in-Arrow.is ∙ ty_of-arrow c.in-Arrow.field-0 c.in-Arrow.from c.in-Arrow.to ∙ (λ i. T.ty_arrow c.in-Arrow.field-0 (ty_of (sym c.deref-in-Arrow.ensures i)) (ty_of (sym c.deref-in-Arrow-2.ensures i))) in
    ap (λ t. read_ty C vs (replaced bs t)) form
    ∙ read-arrow C vs c.in-Arrow.field-0 _ _ _ _ (c.in_ok-from-in-Arrow.ensures.answer C bs vs tells sides (c.in_ok-to-in-Arrow.ensures.kept vs says) un) (c.in_ok-to-in-Arrow.ensures.answer C bs vs tells sides says un)
    ∙ ap accepted (sym (ap meant c.in_ok-shared-in-Arrow.ensures ∙ meant-arrow c.in_ok-from-in-Arrow.from c.in_ok-to-in-Arrow.to))

-- src/types.rt:76:1
pub written_type-returns-in_ok-shared-in-Arrow-clause-noted :
    goal.written_type-returns-in_ok-shared-in-Arrow-clause-noted
written_type-returns-in_ok-shared-in-Arrow-clause-noted g t c = λ C bs vs tells sides says un none xs h.
    let form : ty_of c.args.ty.now ≡ T.ty_arrow c.in-Arrow.field-0 (ty_of c.deref-in-Arrow.result.now) (ty_of c.deref-in-Arrow-2.result.now) = ap ty_of c.in-Arrow.is ∙ ty_of-arrow c.in-Arrow.field-0 c.in-Arrow.from c.in-Arrow.to ∙ (λ i. T.ty_arrow c.in-Arrow.field-0 (ty_of (sym c.deref-in-Arrow.ensures i)) (ty_of (sym c.deref-in-Arrow-2.ensures i))) in
    subst (λ t. g.V.TypeVariables.notes c.written_type-in-Arrow.new.variables vs (xs ++ asked C vs (replaced bs t))) (sym form)
    (subst (g.V.TypeVariables.notes c.written_type-in-Arrow.new.variables vs)
    (append_assoc xs _ _ ∙ ap (λ ys. xs ++ ys) (sym (asked-arrow C vs c.in-Arrow.field-0 _ _ _ (c.in_ok-from-in-Arrow.ensures.answer C bs vs tells sides (c.in_ok-to-in-Arrow.ensures.kept vs says) un))))
    (c.in_ok-to-in-Arrow.ensures.noted C bs vs tells sides says un none (xs ++ asked C vs (replaced bs (ty_of c.deref-in-Arrow.result.now))) (c.in_ok-from-in-Arrow.ensures.noted C bs vs tells sides (c.in_ok-to-in-Arrow.ensures.kept vs says) un none xs h)))

-- src/types.rt:76:1
pub written_type-returns-in-Bracket-clause-answer :
    goal.written_type-returns-in-Bracket-clause-answer
written_type-returns-in-Bracket-clause-answer g t c = λ C bs vs tells sides says un.
    let form : ty_of c.args.ty.now ≡ T.ty_bracket c.in-Bracket.field-0 (ty_of c.deref-in-Bracket.result.now) = ap ty_of c.in-Bracket.is ∙ ty_of-bracket c.in-Bracket.field-0 c.in-Bracket.ty ∙ ap (λ t. T.ty_bracket c.in-Bracket.field-0 (ty_of t)) (sym c.deref-in-Bracket.ensures) in
    subst (λ t. IsAnswer one-meant c.written_type-in-Bracket.result (read_ty C vs (replaced bs t))) (sym form)
    (answered one-meant c.written_type-in-Bracket.result _ _ (sym (read-bracket C vs c.in-Bracket.field-0 _)) (c.written_type-in-Bracket.ensures.answer C bs vs tells sides says un))

-- src/types.rt:76:1
pub written_type-returns-in-Bracket-clause-noted :
    goal.written_type-returns-in-Bracket-clause-noted
written_type-returns-in-Bracket-clause-noted g t c = λ C bs vs tells sides says un none xs h.
    let form : ty_of c.args.ty.now ≡ T.ty_bracket c.in-Bracket.field-0 (ty_of c.deref-in-Bracket.result.now) = ap ty_of c.in-Bracket.is ∙ ty_of-bracket c.in-Bracket.field-0 c.in-Bracket.ty ∙ ap (λ t. T.ty_bracket c.in-Bracket.field-0 (ty_of t)) (sym c.deref-in-Bracket.ensures) in
    subst (λ t. IfAnswered c.written_type-in-Bracket.result (g.V.TypeVariables.notes c.written_type-in-Bracket.new.variables vs (xs ++ asked C vs (replaced bs t)))) (sym form)
    (subst (λ ys. IfAnswered c.written_type-in-Bracket.result (g.V.TypeVariables.notes c.written_type-in-Bracket.new.variables vs (xs ++ ys))) (sym (asked-bracket C vs c.in-Bracket.field-0 _))
    (c.written_type-in-Bracket.ensures.noted C bs vs tells sides says un none xs h))
