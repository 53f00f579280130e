use Rattle.std.proofs.Common.{◌≡◌, Ok, Err, ◌+◌, List, [], ◌∷◌, ◌++◌, map, take, drop, ap, refl, subst, sym, ◌∙◌}
use Rattle.std.proofs.lemmas.List.{take_all}
use Rattle.std.specs.Option.{option_map}
use Rattle.sml_tree.specs.Patterns as T
use Rattle.sml_tree.specs.PatternViews.{constant_of, pat_of, pats_of, pat_field_of, pat_fields_of}
use Rattle.sml_tree.specs.TypeViews.{long_name_of, name_of, ty_of}
use Rattle.sml_tree.specs.declared.patterns.PatField.{out-PatField}
use Rattle.sml_lex.specs.declared.fault.Place.{Place}
use Rattle.sml_objects.specs.Labels.{label_rank}
use Rattle.sml_objects.specs.Views.{type_of}
use Rattle.sml_objects.specs.declared.objects.MlType as P
use Rattle.sml_core_rules.specs.Types.{put_field}
use Rattle.sml_types.specs.declared.fault.CoreFault.TheVariants as F
use Rattle.sml_types.specs.Rows.{AreRanked}
use Rattle.sml_types.proofs.RowFields.{fields-put, ranked-put}
use Rattle.sml_types.proofs.SideArguments.{mapped-next, mapped-split}
use Rattle.sml_core.proofs.Sequences.{by-err}
use Rattle.sml_core.proofs.Rows.{row_in, row_types}
use Rattle.sml_core.proofs.PatternViews.{pat_of-applied, pat_of-as, pat_of-bracket, pat_of-constant, pat_of-identifier, pat_of-row, pat_of-tuple, pat_of-typed, pat_of-wildcard, pat_field_of-parts}
use Rattle.sml_core.proofs.PatternLists.{fields-memory, fields-seen, no-field-read, no-pattern-read, one-field-more, one-field-refused, one-pattern-more, one-pattern-refused, patterns-memory}
use Rattle.sml_core.proofs.PatternForms.{application-read, argument-refused, bracket-read, constant-read, constructor-refused, fields-refused, layered-read, layered-refused, name-read, part-refused, parts-refused, parts-unequal, pattern-memory, row-read, tuple-read, typed-read, typed-refused, wildcard-read}
use Rattle.sml_core.specs.Answered.{Applies, Equates, Row}
use Rattle.sml_core.specs.Patterns.{Constrains, ReadsPattern, ReadsPatternFields, ReadsPatterns}
use Rattle.sml_core.proofs.context.Context.+pattern.Goals as goal

-- forms without patterns in them

pub pattern-returns-in-Wildcard-clause-reads : goal.pattern-returns-in-Wildcard-clause-reads
pattern-returns-in-Wildcard-clause-reads t c =
    let old = c.args.self.now in
    let vars = c.args.variables.now in
    let p = c.in-Wildcard.field-0 in
    subst (λ q. ReadsPattern old vars q c.unknown.new.self vars c.unknown.result) (sym (ap pat_of c.in-Wildcard.is ∙ pat_of-wildcard p)) (wildcard-read old c.unknown.new.self vars p c.unknown.result c.unknown.ensures)

pub pattern-returns-in_err-constant-in-Constant-clause-reads : goal.pattern-returns-in_err-constant-in-Constant-clause-reads
pattern-returns-in_err-constant-in-Constant-clause-reads t c =
    let old = c.args.self.now in
    let vars = c.args.variables.now in
    let q = pat_of c.args.pat.now in
    by-err (ReadsPattern old vars q old vars) c.from_residual.result F.Memory c.from_residual.ensures.1 (pattern-memory old old vars vars q)

pub pattern-returns-in_ok-constant-in-Constant-clause-reads : goal.pattern-returns-in_ok-constant-in-Constant-clause-reads
pattern-returns-in_ok-constant-in-Constant-clause-reads t c =
    let old = c.args.self.now in
    let vars = c.args.variables.now in
    let p = c.in-Constant.field-0 in
    let ty = c.in_ok-constant-in-Constant.field-0 in
    subst (λ q. ReadsPattern old vars q old vars (Ok ty)) (sym (ap pat_of c.in-Constant.is ∙ pat_of-constant p c.in-Constant.it))
    (constant-read old vars p (constant_of c.in-Constant.it) ty c.in_ok-constant-in-Constant.ensures)

pub pattern-returns-in-Identifier-clause-reads : goal.pattern-returns-in-Identifier-clause-reads
pattern-returns-in-Identifier-clause-reads t c =
    let old = c.args.self.now in
    let vars = c.args.variables.now in
    let p = c.in-Identifier.place in
    let x = c.in-Identifier.long in
    let new = c.named_pattern.new.self in
    let after = c.named_pattern.new.variables in
    subst (λ q. ReadsPattern old vars q new after c.named_pattern.result) (sym (ap pat_of c.in-Identifier.is ∙ pat_of-identifier p x))
    (name-read old new vars after p (long_name_of x) c.named_pattern.result c.named_pattern.ensures.binds)

-- rows, tuples and brackets

pub pattern-returns-in_err-fields-in-Row-clause-reads : goal.pattern-returns-in_err-fields-in-Row-clause-reads
pattern-returns-in_err-fields-in-Row-clause-reads t c =
    let old = c.args.self.now in
    let vars = c.args.variables.now in
    let new = c.pattern_fields.new.self in
    let after = c.pattern_fields.new.variables in
    let f = c.in_err-fields-in-Row.field-0.0 in
    let p = c.in-Row.place in
    let fs = pat_fields_of (map pat_field_of c.deref.result.now) in
    let view = ap (λ xs. T.pat_row p (pat_fields_of (map pat_field_of xs)) c.in-Row.flexible) c.deref.ensures.value ∙ sym (ap pat_of c.in-Row.is ∙ pat_of-row p c.in-Row.fields c.in-Row.flexible) in
    by-err (ReadsPattern old vars (pat_of c.args.pat.now) new after) c.from_residual-in_err-fields-in-Row.result f c.from_residual-in_err-fields-in-Row.ensures.1
    (subst (λ q. ReadsPattern old vars q new after (Err f)) view (fields-refused row_in old new vars after p fs c.in-Row.flexible f c.in_err-fields-in-Row.ensures.reads))

pub pattern-returns-in_ok-fields-in-Row-clause-reads : goal.pattern-returns-in_ok-fields-in-Row-clause-reads
pattern-returns-in_ok-fields-in-Row-clause-reads t c =
    let old = c.args.self.now in
    let vars = c.args.variables.now in
    let mid = c.pattern_fields.new.self in
    let new = c.pattern_row.new.self in
    let after = c.pattern_fields.new.variables in
    let p = c.in-Row.place in
    let fs = pat_fields_of (map pat_field_of c.deref.result.now) in
    let view = ap (λ xs. T.pat_row p (pat_fields_of (map pat_field_of xs)) c.in-Row.flexible) c.deref.ensures.value ∙ sym (ap pat_of c.in-Row.is ∙ pat_of-row p c.in-Row.fields c.in-Row.flexible) in
    subst (λ q. ReadsPattern old vars q new after c.pattern_row.result) view
    (row-read row_in old mid vars after p fs c.in-Row.flexible c.in_ok-fields-in-Row.fields new c.pattern_row.result c.in_ok-fields-in-Row.ensures.reads (c.pattern_row.ensures c.in_ok-fields-in-Row.ensures.ranked))

pub pattern-returns-in_err-types-in-Tuple-clause-reads : goal.pattern-returns-in_err-types-in-Tuple-clause-reads
pattern-returns-in_err-types-in-Tuple-clause-reads t c =
    let old = c.args.self.now in
    let vars = c.args.variables.now in
    let new = c.pattern_tuple.new.self in
    let after = c.pattern_tuple.new.variables in
    let f = c.in_err-types-in-Tuple.field-0.0 in
    let p = c.in-Tuple.field-0 in
    let qs = pats_of (map pat_of c.deref-in-Tuple.result.now) in
    let view = ap (λ xs. T.pat_tuple p (pats_of (map pat_of xs))) c.deref-in-Tuple.ensures.value ∙ sym (ap pat_of c.in-Tuple.is ∙ pat_of-tuple p c.in-Tuple.pats) in
    by-err (ReadsPattern old vars (pat_of c.args.pat.now) new after) c.from_residual-in_err-types-in-Tuple.result f c.from_residual-in_err-types-in-Tuple.ensures.1
    (subst (λ q. ReadsPattern old vars q new after (Err f)) view (parts-refused old new vars after p qs f c.in_err-types-in-Tuple.ensures.reads))

pub pattern-returns-in_err-tuple_of-in-Tuple-clause-reads : goal.pattern-returns-in_err-tuple_of-in-Tuple-clause-reads
pattern-returns-in_err-tuple_of-in-Tuple-clause-reads t c =
    let old = c.args.self.now in
    let vars = c.args.variables.now in
    let new = c.pattern_tuple.new.self in
    let after = c.pattern_tuple.new.variables in
    let q = pat_of c.args.pat.now in
    by-err (ReadsPattern old vars q new after) c.from_residual-in_err-tuple_of-in-Tuple.result F.Memory c.from_residual-in_err-tuple_of-in-Tuple.ensures.1 (pattern-memory old new vars after q)

pub pattern-returns-in_ok-tuple_of-in-Tuple-clause-reads : goal.pattern-returns-in_ok-tuple_of-in-Tuple-clause-reads
pattern-returns-in_ok-tuple_of-in-Tuple-clause-reads t c =
    let old = c.args.self.now in
    let vars = c.args.variables.now in
    let new = c.pattern_tuple.new.self in
    let after = c.pattern_tuple.new.variables in
    let ty = c.in_ok-tuple_of-in-Tuple.field-0 in
    let p = c.in-Tuple.field-0 in
    let qs = pats_of (map pat_of c.deref-in-Tuple.result.now) in
    let view = ap (λ xs. T.pat_tuple p (pats_of (map pat_of xs))) c.deref-in-Tuple.ensures.value ∙ sym (ap pat_of c.in-Tuple.is ∙ pat_of-tuple p c.in-Tuple.pats) in
    subst (λ q. ReadsPattern old vars q new after (Ok ty)) view (tuple-read old new vars after p qs c.in_ok-types-in-Tuple.types ty c.in_ok-types-in-Tuple.ensures.reads c.in_ok-tuple_of-in-Tuple.ensures)

pub pattern-returns-in-Bracket-clause-reads : goal.pattern-returns-in-Bracket-clause-reads
pattern-returns-in-Bracket-clause-reads t c =
    let old = c.args.self.now in
    let vars = c.args.variables.now in
    let p = c.in-Bracket.field-0 in
    let new = c.pattern.new.self in
    let after = c.pattern.new.variables in
    subst (λ q. ReadsPattern old vars q new after c.pattern.result) (sym (ap pat_of c.in-Bracket.is ∙ pat_of-bracket p c.in-Bracket.pat))
    (bracket-read old new vars after p (pat_of c.in-Bracket.pat.value) c.pattern.result (subst (λ d. ReadsPattern old vars (pat_of d) new after c.pattern.result) c.deref-in-Bracket.ensures c.pattern.ensures.reads))

-- constructors before patterns

pub pattern-returns-in_err-constructor-in-Applied-clause-reads : goal.pattern-returns-in_err-constructor-in-Applied-clause-reads
pattern-returns-in_err-constructor-in-Applied-clause-reads t c =
    let old = c.args.self.now in
    let vars = c.args.variables.now in
    let new = c.applied_constructor.new.self in
    let f = c.in_err-constructor-in-Applied.field-0.0 in
    let p = c.in-Applied.place in
    let x = c.in-Applied.long in
    by-err (ReadsPattern old vars (pat_of c.args.pat.now) new vars) c.from_residual-in_err-constructor-in-Applied.result f c.from_residual-in_err-constructor-in-Applied.ensures.1
    (subst (λ q. ReadsPattern old vars q new vars (Err f)) (sym (ap pat_of c.in-Applied.is ∙ pat_of-applied p x c.in-Applied.pat))
    (constructor-refused old new vars p (long_name_of x) (pat_of c.in-Applied.pat.value) f c.in_err-constructor-in-Applied.ensures))

pub pattern-returns-in_err-argument-in-Applied-clause-reads : goal.pattern-returns-in_err-argument-in-Applied-clause-reads
pattern-returns-in_err-argument-in-Applied-clause-reads t c =
    let old = c.args.self.now in
    let vars = c.args.variables.now in
    let mid = c.applied_constructor.new.self in
    let last = c.pattern-in-Applied.new.self in
    let after = c.pattern-in-Applied.new.variables in
    let f = c.in_err-argument-in-Applied.field-0.0 in
    let p = c.in-Applied.place in
    let x = c.in-Applied.long in
    by-err (ReadsPattern old vars (pat_of c.args.pat.now) last after) c.from_residual-in_err-argument-in-Applied.result f c.from_residual-in_err-argument-in-Applied.ensures.1
    (subst (λ q. ReadsPattern old vars q last after (Err f)) (sym (ap pat_of c.in-Applied.is ∙ pat_of-applied p x c.in-Applied.pat))
    (argument-refused old mid vars p (long_name_of x) (pat_of c.in-Applied.pat.value) c.in_ok-constructor-in-Applied.constructor c.in_ok-constructor-in-Applied.ensures last after f
    (subst (λ d. ReadsPattern mid vars (pat_of d) last after (Err f)) c.deref-in-Applied.ensures c.in_err-argument-in-Applied.ensures.reads)))

pub pattern-returns-in_ok-argument-in-Applied-clause-reads : goal.pattern-returns-in_ok-argument-in-Applied-clause-reads
pattern-returns-in_ok-argument-in-Applied-clause-reads t c =
    let old = c.args.self.now in
    let vars = c.args.variables.now in
    let mid = c.applied_constructor.new.self in
    let last = c.pattern-in-Applied.new.self in
    let new = c.applied.new.self in
    let after = c.pattern-in-Applied.new.variables in
    let p = c.in-Applied.place in
    let x = c.in-Applied.long in
    let argument = c.in_ok-argument-in-Applied.argument in
    subst (λ q. ReadsPattern old vars q new after c.applied.result) (sym (ap pat_of c.in-Applied.is ∙ pat_of-applied p x c.in-Applied.pat))
    (application-read old mid vars p (long_name_of x) (pat_of c.in-Applied.pat.value) c.in_ok-constructor-in-Applied.constructor c.in_ok-constructor-in-Applied.ensures last after argument new c.applied.result
    (subst (λ d. ReadsPattern mid vars (pat_of d) last after (Ok argument)) c.deref-in-Applied.ensures c.in_ok-argument-in-Applied.ensures.reads)
    (subst (λ t. Applies last p (type_of t) (type_of argument.value) new c.applied.result) c.deref-in-Applied-2.ensures c.applied.ensures))

-- patterns before types

pub pattern-returns-in_err-found-in-Typed-clause-reads : goal.pattern-returns-in_err-found-in-Typed-clause-reads
pattern-returns-in_err-found-in-Typed-clause-reads t c =
    let old = c.args.self.now in
    let vars = c.args.variables.now in
    let new = c.pattern-in-Typed.new.self in
    let after = c.pattern-in-Typed.new.variables in
    let f = c.in_err-found-in-Typed.field-0.0 in
    let p = c.in-Typed.place in
    by-err (ReadsPattern old vars (pat_of c.args.pat.now) new after) c.from_residual-in_err-found-in-Typed.result f c.from_residual-in_err-found-in-Typed.ensures.1
    (subst (λ q. ReadsPattern old vars q new after (Err f)) (sym (ap pat_of c.in-Typed.is ∙ pat_of-typed p c.in-Typed.pat c.in-Typed.ty))
    (typed-refused old new vars after p (pat_of c.in-Typed.pat.value) (ty_of c.in-Typed.ty.value) f
    (subst (λ d. ReadsPattern old vars (pat_of d) new after (Err f)) c.deref-in-Typed.ensures c.in_err-found-in-Typed.ensures.reads)))

pub pattern-returns-in_ok-found-in-Typed-clause-reads : goal.pattern-returns-in_ok-found-in-Typed-clause-reads
pattern-returns-in_ok-found-in-Typed-clause-reads t c =
    let old = c.args.self.now in
    let vars = c.args.variables.now in
    let mid = c.pattern-in-Typed.new.self in
    let new = c.constrained.new.self in
    let after = c.pattern-in-Typed.new.variables in
    let found = c.in_ok-found-in-Typed.found in
    let p = c.in-Typed.place in
    subst (λ q. ReadsPattern old vars q new after c.constrained.result) (sym (ap pat_of c.in-Typed.is ∙ pat_of-typed p c.in-Typed.pat c.in-Typed.ty))
    (typed-read old mid vars after p (pat_of c.in-Typed.pat.value) (ty_of c.in-Typed.ty.value) found new c.constrained.result
    (subst (λ d. ReadsPattern old vars (pat_of d) mid after (Ok found)) c.deref-in-Typed.ensures c.in_ok-found-in-Typed.ensures.reads)
    (subst (λ d. Constrains mid p (type_of found.value) (ty_of d) new c.constrained.result) c.deref-in-Typed-2.ensures c.constrained.ensures))

-- variables before patterns

pub pattern-returns-in_err-whole-in-As-clause-reads : goal.pattern-returns-in_err-whole-in-As-clause-reads
pattern-returns-in_err-whole-in-As-clause-reads t c =
    let old = c.args.self.now in
    let vars = c.args.variables.now in
    let new = c.layered.new.self in
    let after = c.layered.new.variables in
    let f = c.in_err-whole-in-As.field-0.0 in
    let p = c.in-As.place in
    by-err (ReadsPattern old vars (pat_of c.args.pat.now) new after) c.from_residual-in_err-whole-in-As.result f c.from_residual-in_err-whole-in-As.ensures.1
    (subst (λ q. ReadsPattern old vars q new after (Err f)) (sym (ap pat_of c.in-As.is ∙ pat_of-as p c.in-As.name c.in-As.ty c.in-As.pat))
    (layered-refused old new vars after p (name_of c.in-As.name) (option_map (λ u. ty_of u.value) c.in-As.ty) (pat_of c.in-As.pat.value) f c.in_err-whole-in-As.ensures.binds))

pub pattern-returns-in_err-part-in-As-clause-reads : goal.pattern-returns-in_err-part-in-As-clause-reads
pattern-returns-in_err-part-in-As-clause-reads t c =
    let old = c.args.self.now in
    let vars = c.args.variables.now in
    let mid = c.layered.new.self in
    let between = c.layered.new.variables in
    let last = c.pattern-in-As.new.self in
    let after = c.pattern-in-As.new.variables in
    let f = c.in_err-part-in-As.field-0.0 in
    let p = c.in-As.place in
    by-err (ReadsPattern old vars (pat_of c.args.pat.now) last after) c.from_residual-in_err-part-in-As.result f c.from_residual-in_err-part-in-As.ensures.1
    (subst (λ q. ReadsPattern old vars q last after (Err f)) (sym (ap pat_of c.in-As.is ∙ pat_of-as p c.in-As.name c.in-As.ty c.in-As.pat))
    (part-refused old mid vars between p (name_of c.in-As.name) (option_map (λ u. ty_of u.value) c.in-As.ty) (pat_of c.in-As.pat.value) c.in_ok-whole-in-As.ensures.kind c.in_ok-whole-in-As.whole
    c.in_ok-whole-in-As.ensures.binds last after f (subst (λ d. ReadsPattern mid between (pat_of d) last after (Err f)) c.deref-in-As.ensures c.in_err-part-in-As.ensures.reads)))

pub pattern-returns-in_err-equal-in-As-clause-reads : goal.pattern-returns-in_err-equal-in-As-clause-reads
pattern-returns-in_err-equal-in-As-clause-reads t c =
    let old = c.args.self.now in
    let vars = c.args.variables.now in
    let mid = c.layered.new.self in
    let between = c.layered.new.variables in
    let last = c.pattern-in-As.new.self in
    let new = c.equal.new.self in
    let after = c.pattern-in-As.new.variables in
    let f = c.in_err-equal-in-As.field-0.0 in
    let p = c.in-As.place in
    let whole = c.in_ok-whole-in-As.whole in
    let part = c.in_ok-part-in-As.part in
    by-err (ReadsPattern old vars (pat_of c.args.pat.now) new after) c.from_residual-in_err-equal-in-As.result f c.from_residual-in_err-equal-in-As.ensures.1
    (subst (λ q. ReadsPattern old vars q new after (Err f)) (sym (ap pat_of c.in-As.is ∙ pat_of-as p c.in-As.name c.in-As.ty c.in-As.pat))
    (parts-unequal old mid vars between p (name_of c.in-As.name) (option_map (λ u. ty_of u.value) c.in-As.ty) (pat_of c.in-As.pat.value) c.in_ok-whole-in-As.ensures.kind whole
    c.in_ok-whole-in-As.ensures.binds last after part (subst (λ d. ReadsPattern mid between (pat_of d) last after (Ok part)) c.deref-in-As.ensures c.in_ok-part-in-As.ensures.reads) new f
    (subst (λ (z : P.MlType × P.MlType). Equates last p (type_of z.0) (type_of z.1) new (Err f)) (λ i. (c.deref-in-As-2.ensures i, c.deref-in-As-3.ensures i)) c.in_err-equal-in-As.ensures)))

pub pattern-returns-in_ok-equal-in-As-clause-reads : goal.pattern-returns-in_ok-equal-in-As-clause-reads
pattern-returns-in_ok-equal-in-As-clause-reads t c =
    let old = c.args.self.now in
    let vars = c.args.variables.now in
    let mid = c.layered.new.self in
    let between = c.layered.new.variables in
    let last = c.pattern-in-As.new.self in
    let new = c.equal.new.self in
    let after = c.pattern-in-As.new.variables in
    let p = c.in-As.place in
    let whole = c.in_ok-whole-in-As.whole in
    let part = c.in_ok-part-in-As.part in
    subst (λ q. ReadsPattern old vars q new after (Ok whole)) (sym (ap pat_of c.in-As.is ∙ pat_of-as p c.in-As.name c.in-As.ty c.in-As.pat))
    (layered-read old mid vars between p (name_of c.in-As.name) (option_map (λ u. ty_of u.value) c.in-As.ty) (pat_of c.in-As.pat.value) c.in_ok-whole-in-As.ensures.kind whole
    c.in_ok-whole-in-As.ensures.binds last after part (subst (λ d. ReadsPattern mid between (pat_of d) last after (Ok part)) c.deref-in-As.ensures c.in_ok-part-in-As.ensures.reads) new
    (subst (λ (z : P.MlType × P.MlType). Equates last p (type_of z.0) (type_of z.1) new (Ok tt)) (λ i. (c.deref-in-As-2.ensures i, c.deref-in-As-3.ensures i)) c.in_ok-equal-in-As.ensures))

-- the fields of a row

pub pattern_fields-loop-field-init : goal.pattern_fields-loop-field-init
pattern_fields-loop-field-init t c = record {
  ranked = subst AreRanked (sym c.new-row.ensures.empty) tt;
  reads = subst (λ es. ReadsPatternFields (λ (r : Row). r) c.args.self.now c.args.variables.now T.no_pat_field c.args.self.now c.args.variables.now (Ok (row_types es))) (sym c.new-row.ensures.empty)
      (no-field-read c.args.self.now c.args.variables.now);
  kind = refl;
}

pub pattern_fields-loop-field-preserved : goal.pattern_fields-loop-field-preserved
pattern_fields-loop-field-preserved t c =
    let old = c.args.self.now in
    let vars = c.args.variables.now in
    let last = c.pattern.new.self in
    let after = c.pattern.new.variables in
    let item = out-PatField c.field-item.result in
    let fs = map pat_field_of (take c.loop-field.field-index c.args.fields.now) in
    let before = c.loop-field.row.entries in
    let key = c.in_ok-label_key.field-0 in
    let ty = c.in_ok-ty.ty in
    let rank = c.in_ok-label_key.ensures.0 ∙ ap label_rank (sym c.in_ok-label_key.ensures.1) in
    let ranked = c.loop-field.invariant.ranked in
    let next = mapped-next pat_field_of c.args.fields.now c.loop-field.field-index c.field-item.result c.loop-field-test.true c.field-item.is ∙ ap (λ u. fs ++ u ∷ []) (pat_field_of-parts c.field-item.result) in
    let put : row_types c.insert.new.self.entries ≡ put_field (name_of item.label).id (type_of ty.value) (row_types before) =
    ap row_types c.in_ok-insert.ensures.entries ∙ fields-put (λ t. type_of t.value) before key ty ranked rank ∙ ap (λ l. put_field l (type_of ty.value) (row_types before)) c.in_ok-label_key.ensures.1 in
    record {
      ranked = subst AreRanked (sym c.in_ok-insert.ensures.entries) (ranked-put before key ty ranked rank);
      reads = subst (λ (z : List (T.PatField Place) × Row). ReadsPatternFields (λ (r : Row). r) old vars (pat_fields_of z.0) last after (Ok z.1)) (λ i. (sym next i, sym put i))
          (one-field-more old c.loop-field.self last vars c.loop-field.variables after c.loop-field.invariant.kind fs (name_of item.label) (pat_of item.pat) (row_types before) c.loop-field.invariant.reads ty
          c.in_ok-ty.ensures.reads);
      kind = c.in_ok-ty.ensures.kind ∙ c.loop-field.invariant.kind;
    }

pub pattern_fields-returns-in_err-ty-clause-reads : goal.pattern_fields-returns-in_err-ty-clause-reads
pattern_fields-returns-in_err-ty-clause-reads t c =
    let old = c.args.self.now in
    let vars = c.args.variables.now in
    let last = c.pattern.new.self in
    let after = c.pattern.new.variables in
    let f = c.in_err-ty.field-0.0 in
    let item = out-PatField c.field-item.result in
    let fs = map pat_field_of (take c.loop-field.field-index c.args.fields.now) in
    let before = c.loop-field.row.entries in
    let rest = map pat_field_of (drop (c.loop-field.field-index + 1) c.args.fields.now) in
    let split = mapped-split pat_field_of c.args.fields.now c.loop-field.field-index c.field-item.result c.loop-field-test.true c.field-item.is ∙ ap (λ u. fs ++ u ∷ rest) (pat_field_of-parts c.field-item.result) in
    by-err (ReadsPatternFields row_in old vars (pat_fields_of (map pat_field_of c.args.fields.now)) last after) c.from_residual.result f c.from_residual.ensures.1
    (subst (λ xs. ReadsPatternFields row_in old vars (pat_fields_of xs) last after (Err f)) (sym split)
    (one-field-refused old c.loop-field.self last vars c.loop-field.variables after c.loop-field.invariant.kind fs (name_of item.label) (pat_of item.pat) (row_types before) c.loop-field.invariant.reads row_in rest f
    c.in_err-ty.ensures.reads))

pub pattern_fields-returns-in_err-ty-clause-kind : goal.pattern_fields-returns-in_err-ty-clause-kind
pattern_fields-returns-in_err-ty-clause-kind t c = c.in_err-ty.ensures.kind ∙ c.loop-field.invariant.kind

pub pattern_fields-returns-in_err-label_key-clause-reads : goal.pattern_fields-returns-in_err-label_key-clause-reads
pattern_fields-returns-in_err-label_key-clause-reads t c =
    let fs = pat_fields_of (map pat_field_of c.args.fields.now) in
    let last = c.pattern.new.self in
    let after = c.pattern.new.variables in
    by-err (ReadsPatternFields row_in c.args.self.now c.args.variables.now fs last after) c.from_residual-in_err-label_key.result F.Memory c.from_residual-in_err-label_key.ensures.1
    (fields-memory row_in c.args.self.now last c.args.variables.now after fs)

pub pattern_fields-returns-in_err-label_key-clause-kind : goal.pattern_fields-returns-in_err-label_key-clause-kind
pattern_fields-returns-in_err-label_key-clause-kind t c = c.in_ok-ty.ensures.kind ∙ c.loop-field.invariant.kind

pub pattern_fields-returns-in_err-insert-clause-reads : goal.pattern_fields-returns-in_err-insert-clause-reads
pattern_fields-returns-in_err-insert-clause-reads t c =
    let fs = pat_fields_of (map pat_field_of c.args.fields.now) in
    let last = c.pattern.new.self in
    let after = c.pattern.new.variables in
    by-err (ReadsPatternFields row_in c.args.self.now c.args.variables.now fs last after) c.from_residual-in_err-insert.result F.Memory c.from_residual-in_err-insert.ensures.1
    (fields-memory row_in c.args.self.now last c.args.variables.now after fs)

pub pattern_fields-returns-in_err-insert-clause-kind : goal.pattern_fields-returns-in_err-insert-clause-kind
pattern_fields-returns-in_err-insert-clause-kind t c = c.in_ok-ty.ensures.kind ∙ c.loop-field.invariant.kind

pub pattern_fields-returns-clause-ranked : goal.pattern_fields-returns-clause-ranked
pattern_fields-returns-clause-ranked t c = c.loop-field.invariant.ranked

pub pattern_fields-returns-clause-reads : goal.pattern_fields-returns-clause-reads
pattern_fields-returns-clause-reads t c =
    let old = c.args.self.now in
    let vars = c.args.variables.now in
    let last = c.loop-field.self in
    let after = c.loop-field.variables in
    subst (λ xs. ReadsPatternFields row_in old vars (pat_fields_of (map pat_field_of xs)) last after (Ok c.loop-field.row)) (take_all c.loop-field.field-index c.args.fields.now c.loop-field-test.false)
    (fields-seen row_in old last vars after (pat_fields_of (map pat_field_of (take c.loop-field.field-index c.args.fields.now))) c.loop-field.row c.loop-field.invariant.reads)

pub pattern_fields-returns-clause-kind : goal.pattern_fields-returns-clause-kind
pattern_fields-returns-clause-kind t c = c.loop-field.invariant.kind

-- the parts of a tuple

pub pattern_tuple-loop-pat-init : goal.pattern_tuple-loop-pat-init
pattern_tuple-loop-pat-init t c = record { reads = no-pattern-read c.args.self.now c.args.variables.now c.new-types.result c.new-types.ensures.items; kind = refl }

pub pattern_tuple-loop-pat-preserved : goal.pattern_tuple-loop-pat-preserved
pattern_tuple-loop-pat-preserved t c =
    let old = c.args.self.now in
    let vars = c.args.variables.now in
    let last = c.pattern.new.self in
    let after = c.pattern.new.variables in
    let qs = map pat_of (take c.loop-pat.pat-index c.args.pats.now) in
    let q = pat_of c.pat-item.result in
    let next : map pat_of (take (c.loop-pat.pat-index + 1) c.args.pats.now) ≡ qs ++ q ∷ [] = mapped-next pat_of c.args.pats.now c.loop-pat.pat-index c.pat-item.result c.loop-pat-test.true c.pat-item.is in
    record {
      reads = subst (λ xs. ReadsPatterns old vars (pats_of xs) last after (Ok c.push.new.self)) (sym next)
          (one-pattern-more old c.loop-pat.self last vars c.loop-pat.variables after c.loop-pat.invariant.kind qs q c.loop-pat.types c.loop-pat.invariant.reads c.in_ok-pattern.field-0 c.push.new.self
          c.in_ok-push.ensures.items c.in_ok-pattern.ensures.reads);
      kind = c.in_ok-pattern.ensures.kind ∙ c.loop-pat.invariant.kind;
    }

pub pattern_tuple-returns-in_err-pattern-clause-reads : goal.pattern_tuple-returns-in_err-pattern-clause-reads
pattern_tuple-returns-in_err-pattern-clause-reads t c =
    let old = c.args.self.now in
    let vars = c.args.variables.now in
    let last = c.pattern.new.self in
    let after = c.pattern.new.variables in
    let f = c.in_err-pattern.field-0.0 in
    let qs = map pat_of (take c.loop-pat.pat-index c.args.pats.now) in
    let rest = map pat_of (drop (c.loop-pat.pat-index + 1) c.args.pats.now) in
    by-err (ReadsPatterns old vars (pats_of (map pat_of c.args.pats.now)) last after) c.from_residual.result f c.from_residual.ensures.1
    (subst (λ xs. ReadsPatterns old vars (pats_of xs) last after (Err f)) (sym (mapped-split pat_of c.args.pats.now c.loop-pat.pat-index c.pat-item.result c.loop-pat-test.true c.pat-item.is))
    (one-pattern-refused old c.loop-pat.self last vars c.loop-pat.variables after c.loop-pat.invariant.kind qs (pat_of c.pat-item.result) c.loop-pat.types c.loop-pat.invariant.reads rest f c.in_err-pattern.ensures.reads))

pub pattern_tuple-returns-in_err-pattern-clause-kind : goal.pattern_tuple-returns-in_err-pattern-clause-kind
pattern_tuple-returns-in_err-pattern-clause-kind t c = c.in_err-pattern.ensures.kind ∙ c.loop-pat.invariant.kind

pub pattern_tuple-returns-in_err-push-clause-reads : goal.pattern_tuple-returns-in_err-push-clause-reads
pattern_tuple-returns-in_err-push-clause-reads t c =
    let qs = pats_of (map pat_of c.args.pats.now) in
    let last = c.pattern.new.self in
    let after = c.pattern.new.variables in
    by-err (ReadsPatterns c.args.self.now c.args.variables.now qs last after) c.from_residual-in_err-push.result F.Memory c.from_residual-in_err-push.ensures.1
    (patterns-memory c.args.self.now last c.args.variables.now after qs)

pub pattern_tuple-returns-in_err-push-clause-kind : goal.pattern_tuple-returns-in_err-push-clause-kind
pattern_tuple-returns-in_err-push-clause-kind t c = c.in_ok-pattern.ensures.kind ∙ c.loop-pat.invariant.kind

pub pattern_tuple-returns-clause-reads : goal.pattern_tuple-returns-clause-reads
pattern_tuple-returns-clause-reads t c =
    subst (λ xs. ReadsPatterns c.args.self.now c.args.variables.now (pats_of (map pat_of xs)) c.loop-pat.self c.loop-pat.variables (Ok c.loop-pat.types))
    (take_all c.loop-pat.pat-index c.args.pats.now c.loop-pat-test.false) c.loop-pat.invariant.reads

pub pattern_tuple-returns-clause-kind : goal.pattern_tuple-returns-clause-kind
pattern_tuple-returns-clause-kind t c = c.loop-pat.invariant.kind
