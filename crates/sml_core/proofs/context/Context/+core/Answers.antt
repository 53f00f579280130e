use Rattle.std.proofs.Common.{◌≡◌, Ok, Err, ◌+◌, List, [], ◌∷◌, ◌++◌, map, take, drop, ap, refl, subst, sym, ◌∙◌}
use Rattle.std.proofs.lemmas.List.{drop_all, take_all}
use Rattle.std.specs.Option.{option_map}
use Rattle.std.specs.Global.{Global}
use Rattle.std.specs.declared.rc.Rc.{Rc}
use Rattle.sml_lex.specs.declared.fault.Place.{Place}
use Rattle.sml_objects.specs.declared.objects.MlType as P
use Rattle.sml_types.specs.declared.fault.CoreFault.TheVariants as F
use Rattle.sml_types.specs.Rows.{AreRanked}
use Rattle.sml_tree.specs.Expressions as E
use Rattle.sml_tree.specs.TypeViews.{name_of, ty_of}
use Rattle.sml_tree.specs.declared.expressions.ExpField.{out-ExpField}
use Rattle.sml_tree.specs.declared.expressions.Rule.{out-Rule}
use Rattle.sml_tree.specs.declared.expressions.ValBind.{out-ValBind}
use Rattle.sml_objects.specs.Labels.{label_rank}
use Rattle.sml_core_rules.specs.Types.{put_field}
use Rattle.sml_tree.specs.ExpressionViews.{bind_of, binds_of, exp_of, exps_of, field_of, fields_of, rule_of, rules_of}
use Rattle.sml_tree.specs.PatternViews.{constant_of, pat_of}
use Rattle.sml_tree.proofs.ExpViews.{exp_of-application, exp_of-typed, exp_of-bracket, exp_of-row, exp_of-tuple}
use Rattle.sml_objects.specs.Views.{type_of}
use Rattle.sml_core.proofs.Sequences.{by-err}
use Rattle.sml_core.proofs.Applying.{application-read, argument-refused, bracket-read, constant-is, function-refused, read-memory}
use Rattle.sml_core.proofs.Views.{exp_of-constant, exp_of-function, exp_of-handle, exp_of-identifier, exp_of-raise, field_of-parts, let-never, rule_of-parts, rules-left, binds-left}
use Rattle.sml_core.proofs.Tuples.{ReadsAll, none-read, one-more, one-refused, tuple-read}
use Rattle.sml_core.proofs.Rows.{no-field-read, one-field-more, one-field-refused, fields-memory, fields-seen, row-read, row-refused, row_in, row_types}
use Rattle.sml_types.proofs.RowFields.{fields-put, ranked-put}
use Rattle.sml_types.proofs.SideArguments.{mapped-next, mapped-split}
use Rattle.sml_core.proofs.Raising.{raise-read, raise-refused}
use Rattle.sml_core.proofs.Constraints.{typed-read, typed-refused}
use Rattle.sml_core.proofs.Matches.{AreRead, fn-read, fn-refused, fn-unjudged, handle-read, handle-refused, handler-refused, like-stopped, no-rules-read, none-read as no-rule-read, one-rule-more, rule-stopped, rules-read}
use Rattle.sml_core.proofs.Opening.{open-refused, right-refused, rule-memory, rule-read}
use Rattle.sml_core.specs.Rules.{Handles, OpensRule, ReadsRule, ReadsRules}
use Rattle.sml_core.proofs.Binds.{AreBindsRead, bind-in-parts, binds-read, join-stopped, no-bind-read, one-bind-more, pattern-stopped, right-stopped, same-but-bound}
use Rattle.sml_core.specs.Binds.{ReadsBinds}
use Rattle.sml_core.specs.declared.patterns.Variables.{Variables}
use Rattle.sml_core.specs.declared.values.Declaration.{Declaration}
use Rattle.sml_core.specs.Answered.{Applies, Raises, Reads, ReadsFields, Row}
use Rattle.sml_core.proofs.context.Context.+core.Goals as goal

pub expression-returns-in_err-ty-in-Let : goal.expression-returns-in_err-ty-in-Let
expression-returns-in_err-ty-in-Let t c = let-never c.args.self.now _ c.args.exp.now _ _ _ _ c.in-Let.is

pub expression-returns-in_err-function-in-Application : goal.expression-returns-in_err-function-in-Application
expression-returns-in_err-function-in-Application t c =
    let f = exp_of c.in-Application.function.value in
    let e = exp_of c.in-Application.argument.value in
    let p = c.in-Application.place in
    by-err (Reads c.args.self.now (exp_of c.args.exp.now) c.expression-in-Application.new.self) c.from_residual-in_err-function-in-Application.result c.in_err-function-in-Application.field-0.0
    c.from_residual-in_err-function-in-Application.ensures.1
    (subst (λ d. Reads c.args.self.now d c.expression-in-Application.new.self (Err c.in_err-function-in-Application.field-0.0)) (sym (ap exp_of c.in-Application.is ∙ exp_of-application p c.in-Application.function c.in-Application.argument))
    (function-refused c.args.self.now c.expression-in-Application.new.self p f e c.in_err-function-in-Application.field-0.0
    (subst (λ d. Reads c.args.self.now (exp_of d) c.expression-in-Application.new.self (Err c.in_err-function-in-Application.field-0.0)) c.deref-in-Application.ensures c.in_err-function-in-Application.ensures)))

pub expression-returns-in_err-argument-in-Application : goal.expression-returns-in_err-argument-in-Application
expression-returns-in_err-argument-in-Application t c =
    let f = exp_of c.in-Application.function.value in
    let e = exp_of c.in-Application.argument.value in
    let p = c.in-Application.place in
    let mid = c.expression-in-Application.new.self in
    let new = c.expression-in-Application-2.new.self in
    by-err (Reads c.args.self.now (exp_of c.args.exp.now) new) c.from_residual-in_err-argument-in-Application.result c.in_err-argument-in-Application.field-0.0
    c.from_residual-in_err-argument-in-Application.ensures.1
    (subst (λ d. Reads c.args.self.now d new (Err c.in_err-argument-in-Application.field-0.0)) (sym (ap exp_of c.in-Application.is ∙ exp_of-application p c.in-Application.function c.in-Application.argument))
    (argument-refused c.args.self.now mid new p f e c.in_ok-function-in-Application.function c.in_ok-function-in-Application.function
    (subst (λ d. Reads c.args.self.now (exp_of d) mid (Ok c.in_ok-function-in-Application.function)) c.deref-in-Application.ensures c.in_ok-function-in-Application.ensures) c.in_err-argument-in-Application.field-0.0
    (subst (λ d. Reads mid (exp_of d) new (Err c.in_err-argument-in-Application.field-0.0)) c.deref-in-Application-2.ensures c.in_err-argument-in-Application.ensures)))

pub expression-returns-in_err-ty-in-Handle : goal.expression-returns-in_err-ty-in-Handle
expression-returns-in_err-ty-in-Handle t c =
    let old = c.args.self.now in
    let new = c.expression-in-Handle.new.self in
    let p = c.in-Handle.place in
    let e = exp_of c.in-Handle.exp.value in
    let m = rules_of (map rule_of c.in-Handle.rules.items) in
    let f = c.in_err-ty-in-Handle.field-0.0 in
    by-err (Reads old (exp_of c.args.exp.now) new) c.from_residual-in_err-ty-in-Handle.result f c.from_residual-in_err-ty-in-Handle.ensures.1
    (subst (λ d. Reads old d new (Err f)) (sym (ap exp_of c.in-Handle.is ∙ exp_of-handle p c.in-Handle.exp c.in-Handle.rules))
    (handle-refused old new new p e m f (subst (λ d. Reads old (exp_of d) new (Err f)) c.deref-in-Handle.ensures c.in_err-ty-in-Handle.ensures)))

pub expression-returns-in_err-decs-in-Let : goal.expression-returns-in_err-decs-in-Let
expression-returns-in_err-decs-in-Let t c = let-never c.args.self.now _ c.args.exp.now _ _ _ _ c.in-Let.is

pub expression-returns-in_err-handler-in-Handle : goal.expression-returns-in_err-handler-in-Handle
expression-returns-in_err-handler-in-Handle t c =
    let old = c.args.self.now in
    let mid = c.expression-in-Handle.new.self in
    let new = c.rules.new.self in
    let p = c.in-Handle.place in
    let e = exp_of c.in-Handle.exp.value in
    let m = rules_of (map rule_of c.in-Handle.rules.items) in
    let f = c.in_err-handler-in-Handle.field-0.0 in
    let found = c.in_ok-ty-in-Handle.ty in
    by-err (Reads old (exp_of c.args.exp.now) new) c.from_residual-in_err-handler-in-Handle.result f c.from_residual-in_err-handler-in-Handle.ensures.1
    (subst (λ d. Reads old d new (Err f)) (sym (ap exp_of c.in-Handle.is ∙ exp_of-handle p c.in-Handle.exp c.in-Handle.rules))
    (handler-refused old mid new p e m found (subst (λ d. Reads old (exp_of d) mid (Ok found)) c.deref-in-Handle.ensures c.in_ok-ty-in-Handle.ensures) f
    (subst (λ rs. ReadsRules mid (rules_of (map rule_of rs)) new (Err f)) c.deref-in-Handle-2.ensures.value c.in_err-handler-in-Handle.ensures)))

pub expression-returns-in-Constant : goal.expression-returns-in-Constant
expression-returns-in-Constant t c =
    let p = c.in-Constant.field-0 in
    subst (λ d. Reads c.args.self.now d c.constant.new.self c.constant.result) (sym (ap exp_of c.in-Constant.is ∙ exp_of-constant p c.in-Constant.it))
    (constant-is c.args.self.now c.constant.new.self p (constant_of c.in-Constant.it) c.constant.result c.constant.ensures.ty c.constant.ensures.memory c.constant.ensures.same)

pub expression-returns-in-Row : goal.expression-returns-in-Row
expression-returns-in-Row t c =
    subst (λ d. Reads c.args.self.now d c.row.new.self c.row.result) (ap (λ fs. E.row c.in-Row.field-0 (fields_of (map field_of fs))) c.deref.ensures.value ∙ sym (ap exp_of c.in-Row.is ∙ exp_of-row c.in-Row.field-0 c.in-Row.fields)) (c.row.ensures c.in-Row.field-0)

pub expression-returns-in-Tuple : goal.expression-returns-in-Tuple
expression-returns-in-Tuple t c =
    subst (λ d. Reads c.args.self.now d c.tuple.new.self c.tuple.result) (ap (λ es. E.tuple c.in-Tuple.field-0 (exps_of (map exp_of es))) c.deref-in-Tuple.ensures.value ∙ sym (ap exp_of c.in-Tuple.is ∙ exp_of-tuple c.in-Tuple.field-0 c.in-Tuple.exps)) (c.tuple.ensures c.in-Tuple.field-0)

pub expression-returns-in_ok-ty-in-Let : goal.expression-returns-in_ok-ty-in-Let
expression-returns-in_ok-ty-in-Let t c = let-never c.args.self.now _ c.args.exp.now _ _ _ _ c.in-Let.is

pub expression-returns-in-Bracket : goal.expression-returns-in-Bracket
expression-returns-in-Bracket t c =
    let e = exp_of c.in-Bracket.exp.value in
    subst (λ d. Reads c.args.self.now d c.expression-in-Bracket.new.self c.expression-in-Bracket.result) (sym (ap exp_of c.in-Bracket.is ∙ exp_of-bracket c.in-Bracket.field-0 c.in-Bracket.exp))
    (bracket-read c.args.self.now c.expression-in-Bracket.new.self c.in-Bracket.field-0 e c.expression-in-Bracket.result
    (subst (λ d. Reads c.args.self.now (exp_of d) c.expression-in-Bracket.new.self c.expression-in-Bracket.result) c.deref-in-Bracket.ensures c.expression-in-Bracket.ensures))

pub expression-returns-in_ok-argument-in-Application : goal.expression-returns-in_ok-argument-in-Application
expression-returns-in_ok-argument-in-Application t c =
    let f = exp_of c.in-Application.function.value in
    let e = exp_of c.in-Application.argument.value in
    let p = c.in-Application.place in
    let mid = c.expression-in-Application.new.self in
    let last = c.expression-in-Application-2.new.self in
    let function = c.in_ok-function-in-Application.function in
    let argument = c.in_ok-argument-in-Application.argument in
    subst (λ d. Reads c.args.self.now d c.applied.new.self c.applied.result) (sym (ap exp_of c.in-Application.is ∙ exp_of-application p c.in-Application.function c.in-Application.argument))
    (application-read c.args.self.now mid last p f e function argument
    (subst (λ d. Reads c.args.self.now (exp_of d) mid (Ok function)) c.deref-in-Application.ensures c.in_ok-function-in-Application.ensures) c.applied.new.self
    (subst (λ d. Reads mid (exp_of d) last (Ok argument)) c.deref-in-Application-2.ensures c.in_ok-argument-in-Application.ensures) c.applied.result
    (subst (λ t. Applies last p (type_of t) (type_of argument.value) c.applied.new.self c.applied.result) c.deref-in-Application-3.ensures c.applied.ensures))

pub expression-returns-in-Typed : goal.expression-returns-in-Typed
expression-returns-in-Typed t c =
    subst (λ d. Reads c.args.self.now d c.typed.new.self c.typed.result)
    ((λ i. E.typed c.in-Typed.place (exp_of (c.deref-in-Typed.ensures i)) (ty_of (c.deref-in-Typed-2.ensures i))) ∙ sym (ap exp_of c.in-Typed.is ∙ exp_of-typed c.in-Typed.place c.in-Typed.exp c.in-Typed.ty)) c.typed.ensures

pub expression-returns-in_ok-handler-in-Handle : goal.expression-returns-in_ok-handler-in-Handle
expression-returns-in_ok-handler-in-Handle t c =
    let old = c.args.self.now in
    let mid = c.expression-in-Handle.new.self in
    let last = c.rules.new.self in
    let new = c.handled.new.self in
    let p = c.in-Handle.place in
    let e = exp_of c.in-Handle.exp.value in
    let m = rules_of (map rule_of c.in-Handle.rules.items) in
    let found = c.in_ok-ty-in-Handle.ty in
    let handler = c.in_ok-handler-in-Handle.handler in
    subst (λ d. Reads old d new c.handled.result) (sym (ap exp_of c.in-Handle.is ∙ exp_of-handle p c.in-Handle.exp c.in-Handle.rules))
    (handle-read old mid last p e m found (subst (λ d. Reads old (exp_of d) mid (Ok found)) c.deref-in-Handle.ensures c.in_ok-ty-in-Handle.ensures) handler new c.handled.result
    (subst (λ rs. ReadsRules mid (rules_of (map rule_of rs)) last (Ok handler)) c.deref-in-Handle-2.ensures.value c.in_ok-handler-in-Handle.ensures)
    (subst (λ x. Handles last p (type_of found.value) (type_of x) m new c.handled.result) c.deref-in-Handle-3.ensures
    (subst (λ rs. Handles last p (type_of found.value) (type_of c.deref-in-Handle-3.result.now) (rules_of (map rule_of rs)) new c.handled.result) c.deref-in-Handle-4.ensures.value c.handled.ensures)))

pub expression-returns-in-Raise : goal.expression-returns-in-Raise
expression-returns-in-Raise t c =
    subst (λ d. Reads c.args.self.now d c.raise.new.self c.raise.result) (ap (λ e. E.raise c.in-Raise.place (exp_of e)) c.deref-in-Raise.ensures ∙ sym (ap exp_of c.in-Raise.is ∙ exp_of-raise c.in-Raise.place c.in-Raise.exp)) c.raise.ensures

pub expression-returns-in-Function : goal.expression-returns-in-Function
expression-returns-in-Function t c =
    subst (λ d. Reads c.args.self.now d c.function.new.self c.function.result)
    (ap (λ rs. E.fn c.in-Function.place (rules_of (map rule_of rs))) c.deref-in-Function.ensures.value ∙ sym (ap exp_of c.in-Function.is ∙ exp_of-function c.in-Function.place c.in-Function.rules)) c.function.ensures

pub expression-returns-in-Identifier : goal.expression-returns-in-Identifier
expression-returns-in-Identifier t c =
    subst (λ d. Reads c.args.self.now d c.identifier.new.self c.identifier.result) (sym (ap exp_of c.in-Identifier.is ∙ exp_of-identifier c.in-Identifier.place c.in-Identifier.long)) c.identifier.ensures

-- the parts of a tuple

pub tuple-loop-exp-init : goal.tuple-loop-exp-init
tuple-loop-exp-init t c = subst (λ ts. ReadsAll c.args.self.now [] c.args.self.now ts) (sym c.new-types.ensures.items) (none-read c.args.self.now)

pub tuple-loop-exp-preserved : goal.tuple-loop-exp-preserved
tuple-loop-exp-preserved t c =
    let old = c.args.self.now in
    let last = c.expression.new.self in
    let es = map exp_of (take c.loop-exp.exp-index c.args.exps.now) in
    let e = exp_of c.exp-item.result in
    let t = c.in_ok-expression.field-0 in
    let next : map exp_of (take (c.loop-exp.exp-index + 1) c.args.exps.now) ≡ es ++ e ∷ [] = mapped-next exp_of c.args.exps.now c.loop-exp.exp-index c.exp-item.result c.loop-exp-test.true c.exp-item.is in
    subst (λ (z : List (E.Exp Place) × List (Rc P.MlType Global)). ReadsAll old z.0 last z.1) (λ i. (sym next i, sym c.in_ok-push.ensures.items i))
    (one-more old c.loop-exp.self last es c.loop-exp.types.items e c.loop-exp.invariant t c.in_ok-expression.ensures)

pub tuple-returns-in_err-expression : goal.tuple-returns-in_err-expression
tuple-returns-in_err-expression t c = λ p.
    let old = c.args.self.now in
    let last = c.expression.new.self in
    let es = map exp_of (take c.loop-exp.exp-index c.args.exps.now) in
    let rest = map exp_of (drop (c.loop-exp.exp-index + 1) c.args.exps.now) in
    let e = exp_of c.exp-item.result in
    by-err (Reads old (E.tuple p (exps_of (map exp_of c.args.exps.now))) last) c.from_residual.result c.in_err-expression.field-0.0 c.from_residual.ensures.1
    (subst (λ xs. Reads old (E.tuple p (exps_of xs)) last (Err c.in_err-expression.field-0.0)) (sym (mapped-split exp_of c.args.exps.now c.loop-exp.exp-index c.exp-item.result c.loop-exp-test.true c.exp-item.is))
    (one-refused old c.loop-exp.self last es c.loop-exp.types.items e c.loop-exp.invariant rest p c.in_err-expression.field-0.0 c.in_err-expression.ensures))

pub tuple-returns-in_err-push : goal.tuple-returns-in_err-push
tuple-returns-in_err-push t c = λ p.
    by-err (Reads c.args.self.now (E.tuple p (exps_of (map exp_of c.args.exps.now))) c.expression.new.self) c.from_residual-in_err-push.result F.Memory c.from_residual-in_err-push.ensures.1
    (read-memory c.args.self.now c.expression.new.self (E.tuple p (exps_of (map exp_of c.args.exps.now))))

pub tuple-returns-in_err-tuple_of : goal.tuple-returns-in_err-tuple_of
tuple-returns-in_err-tuple_of t c = λ p.
    by-err (Reads c.args.self.now (E.tuple p (exps_of (map exp_of c.args.exps.now))) c.loop-exp.self) c.from_residual-in_err-tuple_of.result F.Memory c.from_residual-in_err-tuple_of.ensures.1
    (read-memory c.args.self.now c.loop-exp.self (E.tuple p (exps_of (map exp_of c.args.exps.now))))

pub tuple-returns : goal.tuple-returns
tuple-returns t c = λ p.
    let old = c.args.self.now in
    let last = c.loop-exp.self in
    let r = c.in_ok-tuple_of.field-0 in
    subst (λ xs. Reads old (E.tuple p (exps_of (map exp_of xs))) last (Ok r)) (take_all c.loop-exp.exp-index c.args.exps.now c.loop-exp-test.false)
    (tuple-read old last (map exp_of (take c.loop-exp.exp-index c.args.exps.now)) c.loop-exp.types.items p r c.loop-exp.invariant c.in_ok-tuple_of.ensures)

-- the fields of a row

pub fields-loop-field-init : goal.fields-loop-field-init
fields-loop-field-init t c = record {
  ranked = subst AreRanked (sym c.new-row.ensures.empty) tt;
  reads = subst (λ es. ReadsFields (λ (r : Row). r) c.args.self.now E.no_field c.args.self.now (Ok (row_types es))) (sym c.new-row.ensures.empty) (no-field-read c.args.self.now);
}

pub fields-loop-field-preserved : goal.fields-loop-field-preserved
fields-loop-field-preserved t c =
    let old = c.args.self.now in
    let last = c.expression.new.self in
    let item = out-ExpField c.field-item.result in
    let es = map field_of (take c.loop-field.field-index c.args.fields.now) in
    let before = c.loop-field.row.entries in
    let key = c.in_ok-label_key.field-0 in
    let t = c.in_ok-ty.ty in
    let rank = c.in_ok-label_key.ensures.0 ∙ ap label_rank (sym c.in_ok-label_key.ensures.1) in
    let ranked = c.loop-field.invariant.ranked in
    let next = mapped-next field_of c.args.fields.now c.loop-field.field-index c.field-item.result c.loop-field-test.true c.field-item.is ∙ ap (λ u. es ++ u ∷ []) (field_of-parts c.field-item.result) in
    let put : row_types c.insert.new.self.entries ≡ put_field (name_of item.label).id (type_of t.value) (row_types before) =
    ap row_types c.in_ok-insert.ensures.entries ∙ fields-put (λ t. type_of t.value) before key t ranked rank ∙ ap (λ l. put_field l (type_of t.value) (row_types before)) c.in_ok-label_key.ensures.1 in
    record {
      ranked = subst AreRanked (sym c.in_ok-insert.ensures.entries) (ranked-put before key t ranked rank);
      reads = subst (λ (z : List (E.Field Place) × Row). ReadsFields (λ (r : Row). r) old (fields_of z.0) last (Ok z.1)) (λ i. (sym next i, sym put i))
          (one-field-more old c.loop-field.self last es (row_types before) (name_of item.label) (exp_of item.exp) c.loop-field.invariant.reads t c.in_ok-ty.ensures);
    }

pub fields-returns-in_err-ty-clause-reads : goal.fields-returns-in_err-ty-clause-reads
fields-returns-in_err-ty-clause-reads t c =
    let old = c.args.self.now in
    let last = c.expression.new.self in
    let f = c.in_err-ty.field-0.0 in
    let item = out-ExpField c.field-item.result in
    let es = map field_of (take c.loop-field.field-index c.args.fields.now) in
    let before = c.loop-field.row.entries in
    let rest = map field_of (drop (c.loop-field.field-index + 1) c.args.fields.now) in
    let split = mapped-split field_of c.args.fields.now c.loop-field.field-index c.field-item.result c.loop-field-test.true c.field-item.is ∙ ap (λ u. es ++ u ∷ rest) (field_of-parts c.field-item.result) in
    by-err (ReadsFields row_in old (fields_of (map field_of c.args.fields.now)) last) c.from_residual.result f c.from_residual.ensures.1
    (subst (λ xs. ReadsFields row_in old (fields_of xs) last (Err f)) (sym split)
    (one-field-refused old c.loop-field.self last es (row_types before) (name_of item.label) (exp_of item.exp) c.loop-field.invariant.reads row_in rest f c.in_err-ty.ensures))

pub fields-returns-in_err-label_key-clause-reads : goal.fields-returns-in_err-label_key-clause-reads
fields-returns-in_err-label_key-clause-reads t c =
    let fs = fields_of (map field_of c.args.fields.now) in
    by-err (ReadsFields row_in c.args.self.now fs c.expression.new.self) c.from_residual-in_err-label_key.result F.Memory c.from_residual-in_err-label_key.ensures.1
    (fields-memory row_in c.args.self.now c.expression.new.self fs)

pub fields-returns-in_err-insert-clause-reads : goal.fields-returns-in_err-insert-clause-reads
fields-returns-in_err-insert-clause-reads t c =
    let fs = fields_of (map field_of c.args.fields.now) in
    by-err (ReadsFields row_in c.args.self.now fs c.expression.new.self) c.from_residual-in_err-insert.result F.Memory c.from_residual-in_err-insert.ensures.1
    (fields-memory row_in c.args.self.now c.expression.new.self fs)

pub fields-returns-clause-ranked : goal.fields-returns-clause-ranked
fields-returns-clause-ranked t c = c.loop-field.invariant.ranked

pub fields-returns-clause-reads : goal.fields-returns-clause-reads
fields-returns-clause-reads t c =
    subst (λ xs. ReadsFields row_in c.args.self.now (fields_of (map field_of xs)) c.loop-field.self (Ok c.loop-field.row)) (take_all c.loop-field.field-index c.args.fields.now c.loop-field-test.false)
    (fields-seen row_in c.args.self.now c.loop-field.self (fields_of (map field_of (take c.loop-field.field-index c.args.fields.now))) c.loop-field.row c.loop-field.invariant.reads)

-- raise

pub raise-returns-in_err-ty : goal.raise-returns-in_err-ty
raise-returns-in_err-ty t c =
    by-err (Reads c.args.self.now (E.raise c.args.place (exp_of c.args.exp.now)) c.expression.new.self) c.from_residual.result c.in_err-ty.field-0.0 c.from_residual.ensures.1
    (raise-refused c.args.self.now c.expression.new.self c.args.place (exp_of c.args.exp.now) c.in_err-ty.field-0.0 c.in_err-ty.ensures)

pub raise-returns : goal.raise-returns
raise-returns t c =
    raise-read c.args.self.now c.expression.new.self c.raised.new.self c.args.place (exp_of c.args.exp.now) c.in_ok-ty.ty c.raised.result c.in_ok-ty.ensures
    (subst (λ x. Raises c.expression.new.self c.args.place (type_of x) c.raised.new.self c.raised.result) c.deref.ensures c.raised.ensures)

-- rows

pub row-returns-in_err-fields : goal.row-returns-in_err-fields
row-returns-in_err-fields t c = λ p.
    let fs = fields_of (map field_of c.args.fields.now) in
    by-err (Reads c.args.self.now (E.row p fs) c.fields.new.self) c.from_residual.result c.in_err-fields.field-0.0 c.from_residual.ensures.1
    (row-refused row_in c.args.self.now c.fields.new.self p fs c.in_err-fields.field-0.0 c.in_err-fields.ensures.reads)

pub row-returns-in_err-row_of : goal.row-returns-in_err-row_of
row-returns-in_err-row_of t c = λ p.
    let fs = fields_of (map field_of c.args.fields.now) in
    by-err (Reads c.args.self.now (E.row p fs) c.fields.new.self) c.from_residual-in_err-row_of.result F.Memory c.from_residual-in_err-row_of.ensures.1
    (read-memory c.args.self.now c.fields.new.self (E.row p fs))

pub row-returns : goal.row-returns
row-returns t c = λ p.
    row-read row_in c.args.self.now c.fields.new.self p (fields_of (map field_of c.args.fields.now)) c.in_ok-fields.fields c.in_ok-row_of.field-0 c.in_ok-fields.ensures.reads (c.in_ok-row_of.ensures c.in_ok-fields.ensures.ranked)

-- constraints

pub typed-returns-in_err-found : goal.typed-returns-in_err-found
typed-returns-in_err-found t c =
    let e = exp_of c.args.exp.now in
    let ty = ty_of c.args.ty.now in
    by-err (Reads c.args.self.now (E.typed c.args.place e ty) c.expression.new.self) c.from_residual.result c.in_err-found.field-0.0 c.from_residual.ensures.1
    (typed-refused c.args.self.now c.expression.new.self c.args.place e ty c.in_err-found.field-0.0 c.in_err-found.ensures)

pub typed-returns : goal.typed-returns
typed-returns t c =
    typed-read c.args.self.now c.expression.new.self c.constrained.new.self c.args.place (exp_of c.args.exp.now) (ty_of c.args.ty.now) c.in_ok-found.found c.constrained.result c.in_ok-found.ensures c.constrained.ensures

-- matches

pub rules-loop-rule-init : goal.rules-loop-rule-init
rules-loop-rule-init t c = no-rule-read c.args.self.now (rules_of (map rule_of c.args.rules.now))

pub rules-loop-rule-preserved : goal.rules-loop-rule-preserved
rules-loop-rule-preserved t c =
    let old = c.args.self.now in
    let i = c.loop-rule.rule-index in
    let x = c.rule-item.result in
    let r = out-Rule x in
    let m = rules_of (map rule_of c.args.rules.now) in
    let first = option_map (λ t. type_of t.value) c.loop-rule.first in
    let rest = rules_of (map rule_of (drop (i + 1) c.args.rules.now)) in
    let now = c.loop-rule.self in
    let mid = c.rule.new.self in
    let so = subst (λ n. AreRead old m first n now) (rules-left c.args.rules.now i x c.loop-rule-test.true c.rule-item.is) c.loop-rule.invariant in
    let a = c.in_ok-ty.ty in
    one-rule-more old now mid c.like_first.new.self m first r.place (pat_of r.pat) (exp_of r.exp) rest so a (subst (λ r. ReadsRule now r mid (Ok a)) (rule_of-parts x) c.in_ok-ty.ensures)
    c.in_ok-like_first.field-0 c.in_ok-like_first.ensures

pub rules-returns-in_err-ty : goal.rules-returns-in_err-ty
rules-returns-in_err-ty t c =
    let old = c.args.self.now in
    let i = c.loop-rule.rule-index in
    let x = c.rule-item.result in
    let r = out-Rule x in
    let m = rules_of (map rule_of c.args.rules.now) in
    let first = option_map (λ t. type_of t.value) c.loop-rule.first in
    let rest = rules_of (map rule_of (drop (i + 1) c.args.rules.now)) in
    let now = c.loop-rule.self in
    let mid = c.rule.new.self in
    let so = subst (λ n. AreRead old m first n now) (rules-left c.args.rules.now i x c.loop-rule-test.true c.rule-item.is) c.loop-rule.invariant in
    let f = c.in_err-ty.field-0.0 in
    by-err (ReadsRules old m mid) c.from_residual.result f c.from_residual.ensures.1
    (rule-stopped old now mid mid m first r.place (pat_of r.pat) (exp_of r.exp) rest so f (subst (λ r. ReadsRule now r mid (Err f)) (rule_of-parts x) c.in_err-ty.ensures))

pub rules-returns-in_err-like_first : goal.rules-returns-in_err-like_first
rules-returns-in_err-like_first t c =
    let old = c.args.self.now in
    let i = c.loop-rule.rule-index in
    let x = c.rule-item.result in
    let r = out-Rule x in
    let m = rules_of (map rule_of c.args.rules.now) in
    let first = option_map (λ t. type_of t.value) c.loop-rule.first in
    let rest = rules_of (map rule_of (drop (i + 1) c.args.rules.now)) in
    let now = c.loop-rule.self in
    let mid = c.rule.new.self in
    let so = subst (λ n. AreRead old m first n now) (rules-left c.args.rules.now i x c.loop-rule-test.true c.rule-item.is) c.loop-rule.invariant in
    let a = c.in_ok-ty.ty in
    let f = c.in_err-like_first.field-0.0 in
    let new = c.like_first.new.self in
    by-err (ReadsRules old m new) c.from_residual-in_err-like_first.result f c.from_residual-in_err-like_first.ensures.1
    (like-stopped old now mid new m first r.place (pat_of r.pat) (exp_of r.exp) rest so a (subst (λ r. ReadsRule now r mid (Ok a)) (rule_of-parts x) c.in_ok-ty.ensures) f c.in_err-like_first.ensures)

pub rules-returns-in-Some : goal.rules-returns-in-Some
rules-returns-in-Some t c =
    let old = c.args.self.now in
    let m = rules_of (map rule_of c.args.rules.now) in
    let now = c.loop-rule.self in
    let so = subst (λ rs. AreRead old m (option_map (λ t. type_of t.value) c.loop-rule.first) (rules_of (map rule_of rs)) now)
    (drop_all c.loop-rule.rule-index c.args.rules.now c.loop-rule-test.false) c.loop-rule.invariant in
    rules-read old now m c.in-Some.ty (subst (λ o. AreRead old m (option_map (λ t. type_of t.value) o) E.no_rule now) c.in-Some.is so)

pub rules-returns-in-None : goal.rules-returns-in-None
rules-returns-in-None t c =
    let old = c.args.self.now in
    let m = rules_of (map rule_of c.args.rules.now) in
    let now = c.loop-rule.self in
    let so = subst (λ rs. AreRead old m (option_map (λ t. type_of t.value) c.loop-rule.first) (rules_of (map rule_of rs)) now)
    (drop_all c.loop-rule.rule-index c.args.rules.now c.loop-rule-test.false) c.loop-rule.invariant in
    no-rules-read old now m c.unknown.new.self c.unknown.result (subst (λ o. AreRead old m (option_map (λ t. type_of t.value) o) E.no_rule now) c.in-None.is so) c.unknown.ensures

pub rule-returns-in_err-from : goal.rule-returns-in_err-from
rule-returns-in_err-from t c =
    let old = c.args.self.now in
    let r = out-Rule c.args.rule.now in
    let parts = rule_of-parts c.args.rule.now in
    let mid = c.rule_pattern.new.self in
    let f = c.in_err-from.field-0.0 in
    by-err (ReadsRule old (rule_of c.args.rule.now) mid) c.from_residual.result f c.from_residual.ensures.1
    (subst (λ r. ReadsRule old r mid (Err f)) (sym parts)
    (open-refused old mid mid r.place (pat_of r.pat) (exp_of r.exp) f (subst (λ r. OpensRule old r mid (Err f)) parts c.in_err-from.ensures)))

pub rule-returns-in_err-to : goal.rule-returns-in_err-to
rule-returns-in_err-to t c =
    let old = c.args.self.now in
    let r = out-Rule c.args.rule.now in
    let parts = rule_of-parts c.args.rule.now in
    let mid = c.rule_pattern.new.self in
    let f = c.in_err-to.field-0.0 in
    let last = c.expression.new.self in
    let from = c.in_ok-from.from in
    by-err (ReadsRule old (rule_of c.args.rule.now) last) c.from_residual-in_err-to.result f c.from_residual-in_err-to.ensures.1
    (subst (λ r. ReadsRule old r last (Err f)) (sym parts)
    (right-refused old mid last r.place (pat_of r.pat) (exp_of r.exp) from (subst (λ r. OpensRule old r mid (Ok from)) parts c.in_ok-from.ensures) f c.in_err-to.ensures))

pub rule-returns-in_err-leave : goal.rule-returns-in_err-leave
rule-returns-in_err-leave t c =
    by-err (ReadsRule c.args.self.now (rule_of c.args.rule.now) c.leave.new.self) c.from_residual-in_err-leave.result F.Memory c.from_residual-in_err-leave.ensures.1
    (rule-memory c.args.self.now c.leave.new.self (rule_of c.args.rule.now))

pub rule-returns-in_err-arrow : goal.rule-returns-in_err-arrow
rule-returns-in_err-arrow t c =
    by-err (ReadsRule c.args.self.now (rule_of c.args.rule.now) c.leave.new.self) c.from_residual-in_err-arrow.result F.Memory c.from_residual-in_err-arrow.ensures.1
    (rule-memory c.args.self.now c.leave.new.self (rule_of c.args.rule.now))

pub rule-returns : goal.rule-returns
rule-returns t c =
    let old = c.args.self.now in
    let r = out-Rule c.args.rule.now in
    let parts = rule_of-parts c.args.rule.now in
    let mid = c.rule_pattern.new.self in
    let last = c.expression.new.self in
    let new = c.leave.new.self in
    let from = c.in_ok-from.from in
    let result = c.in_ok-arrow.field-0 in
    subst (λ r. ReadsRule old r new (Ok result)) (sym parts)
    (rule-read old mid last r.place (pat_of r.pat) (exp_of r.exp) from (subst (λ r. OpensRule old r mid (Ok from)) parts c.in_ok-from.ensures) new c.mark-mark.result c.in_ok-to.to result
    c.in_ok-to.ensures c.mark-mark.ensures.meant c.mark-mark.ensures.around c.in_ok-leave.ensures.left c.in_ok-leave.ensures.around c.leave.ensures.same c.in_ok-arrow.ensures)

pub function-returns-in_err-ty : goal.function-returns-in_err-ty
function-returns-in_err-ty t c =
    let old = c.args.self.now in
    let mid = c.rules.new.self in
    let m = rules_of (map rule_of c.args.rules.now) in
    let f = c.in_err-ty.field-0.0 in
    by-err (Reads old (E.fn c.args.place m) mid) c.from_residual.result f c.from_residual.ensures.1 (fn-refused old mid c.args.place m f c.in_err-ty.ensures)

pub function-returns-in_err-judge_rules : goal.function-returns-in_err-judge_rules
function-returns-in_err-judge_rules t c =
    let old = c.args.self.now in
    let mid = c.rules.new.self in
    let m = rules_of (map rule_of c.args.rules.now) in
    let f = c.in_err-judge_rules.field-0.0 in
    let new = record mid { warnings = c.judge_rules.new.warnings } in
    by-err (Reads old (E.fn c.args.place m) new) c.from_residual-in_err-judge_rules.result f c.from_residual-in_err-judge_rules.ensures.1
    (fn-unjudged old mid c.args.place m c.in_ok-ty.ty c.in_ok-ty.ensures new f c.in_err-judge_rules.ensures.fault)

pub function-returns : goal.function-returns
function-returns t c =
    let old = c.args.self.now in
    let mid = c.rules.new.self in
    let m = rules_of (map rule_of c.args.rules.now) in
    fn-read old mid c.args.place m c.in_ok-ty.ty c.in_ok-ty.ensures c.judge_rules.new.warnings

-- bindings before `rec`

pub binds-loop-bind-init : goal.binds-loop-bind-init
binds-loop-bind-init t c = record { reads = no-bind-read c.args.self.now c.args.declaration.now (binds_of (map bind_of c.args.binds.now)); rest = refl; kind = refl }

pub binds-loop-bind-preserved : goal.binds-loop-bind-preserved
binds-loop-bind-preserved t c =
    let old = c.args.self.now in
    let d = c.args.declaration.now in
    let i = c.loop-bind.bind-index in
    let x = c.bind-item.result in
    let b = out-ValBind x in
    let all = binds_of (map bind_of c.args.binds.now) in
    let rest = binds_of (map bind_of (drop (i + 1) c.args.binds.now)) in
    let now = c.loop-bind.self in
    let done = c.loop-bind.declaration in
    let so = subst (λ r. AreBindsRead old d all r now done) (binds-left c.args.binds.now i x c.loop-bind-test.true c.bind-item.is) c.loop-bind.invariant.reads in
    let mid = c.pattern.new.self in
    let vars = c.pattern.new.variables in
    let p = c.in_ok-pattern.pattern in
    let last = c.expression.new.self in
    let a = c.in_ok-ty.ty in
    let new = c.bound.new.self in
    let after = c.bound.new.declaration in
    let joins = bind-in-parts last (record done { variables = vars }) x p a c.deref.result.now c.deref-in-loop-bind.result.now c.deref.ensures c.deref-in-loop-bind.ensures new after (Ok tt) c.in_ok-bound.ensures.joins in
    let same = c.in_ok-bound.ensures.rest in
    let variables : after.variables ≡ vars = ap (λ (x : Declaration). x.variables) same in
    record {
      reads = one-bind-more old now mid d done vars all (pat_of b.pat) (exp_of b.exp) rest so p c.in_ok-pattern.ensures.reads last a c.in_ok-ty.ensures new after joins variables c.pattern.ensures.kind;
      rest = same-but-bound d done after vars c.loop-bind.invariant.rest same;
      kind = ap (λ (v : Variables). v.is_recursive) variables ∙ c.pattern.ensures.kind ∙ c.loop-bind.invariant.kind;
    }

pub binds-returns-in_err-pattern-clause-reads : goal.binds-returns-in_err-pattern-clause-reads
binds-returns-in_err-pattern-clause-reads t c =
    let old = c.args.self.now in
    let d = c.args.declaration.now in
    let i = c.loop-bind.bind-index in
    let x = c.bind-item.result in
    let b = out-ValBind x in
    let all = binds_of (map bind_of c.args.binds.now) in
    let rest = binds_of (map bind_of (drop (i + 1) c.args.binds.now)) in
    let now = c.loop-bind.self in
    let done = c.loop-bind.declaration in
    let so = subst (λ r. AreBindsRead old d all r now done) (binds-left c.args.binds.now i x c.loop-bind-test.true c.bind-item.is) c.loop-bind.invariant.reads in
    let mid = c.pattern.new.self in
    let vars = c.pattern.new.variables in
    let f = c.in_err-pattern.field-0.0 in
    let after = record done { variables = vars } in
    by-err (ReadsBinds old d all mid after) c.from_residual.result f c.from_residual.ensures.1
    (pattern-stopped old now mid d done vars all (pat_of b.pat) (exp_of b.exp) rest so mid after f c.in_err-pattern.ensures.reads)

pub binds-returns-in_err-ty-clause-reads : goal.binds-returns-in_err-ty-clause-reads
binds-returns-in_err-ty-clause-reads t c =
    let old = c.args.self.now in
    let d = c.args.declaration.now in
    let i = c.loop-bind.bind-index in
    let x = c.bind-item.result in
    let b = out-ValBind x in
    let all = binds_of (map bind_of c.args.binds.now) in
    let rest = binds_of (map bind_of (drop (i + 1) c.args.binds.now)) in
    let now = c.loop-bind.self in
    let done = c.loop-bind.declaration in
    let so = subst (λ r. AreBindsRead old d all r now done) (binds-left c.args.binds.now i x c.loop-bind-test.true c.bind-item.is) c.loop-bind.invariant.reads in
    let mid = c.pattern.new.self in
    let vars = c.pattern.new.variables in
    let last = c.expression.new.self in
    let f = c.in_err-ty.field-0.0 in
    let after = record done { variables = vars } in
    by-err (ReadsBinds old d all last after) c.from_residual-in_err-ty.result f c.from_residual-in_err-ty.ensures.1
    (right-stopped old now mid d done vars all (pat_of b.pat) (exp_of b.exp) rest so c.in_ok-pattern.pattern c.in_ok-pattern.ensures.reads last after f c.in_err-ty.ensures)

pub binds-returns-in_err-bound-clause-reads : goal.binds-returns-in_err-bound-clause-reads
binds-returns-in_err-bound-clause-reads t c =
    let old = c.args.self.now in
    let d = c.args.declaration.now in
    let i = c.loop-bind.bind-index in
    let x = c.bind-item.result in
    let b = out-ValBind x in
    let all = binds_of (map bind_of c.args.binds.now) in
    let rest = binds_of (map bind_of (drop (i + 1) c.args.binds.now)) in
    let now = c.loop-bind.self in
    let done = c.loop-bind.declaration in
    let so = subst (λ r. AreBindsRead old d all r now done) (binds-left c.args.binds.now i x c.loop-bind-test.true c.bind-item.is) c.loop-bind.invariant.reads in
    let mid = c.pattern.new.self in
    let vars = c.pattern.new.variables in
    let p = c.in_ok-pattern.pattern in
    let last = c.expression.new.self in
    let a = c.in_ok-ty.ty in
    let new = c.bound.new.self in
    let after = c.bound.new.declaration in
    let f = c.in_err-bound.field-0.0 in
    let joins = bind-in-parts last (record done { variables = vars }) x p a c.deref.result.now c.deref-in-loop-bind.result.now c.deref.ensures c.deref-in-loop-bind.ensures new after (Err f) c.in_err-bound.ensures.joins in
    by-err (ReadsBinds old d all new after) c.from_residual-in_err-bound.result f c.from_residual-in_err-bound.ensures.1
    (join-stopped old now mid d done vars all (pat_of b.pat) (exp_of b.exp) rest so p c.in_ok-pattern.ensures.reads last a c.in_ok-ty.ensures new after f joins)

pub binds-returns-clause-reads : goal.binds-returns-clause-reads
binds-returns-clause-reads t c =
    let old = c.args.self.now in
    let d = c.args.declaration.now in
    let all = binds_of (map bind_of c.args.binds.now) in
    let now = c.loop-bind.self in
    let done = c.loop-bind.declaration in
    binds-read old now d done all
    (subst (λ bs. AreBindsRead old d all (binds_of (map bind_of bs)) now done) (drop_all c.loop-bind.bind-index c.args.binds.now c.loop-bind-test.false) c.loop-bind.invariant.reads)
