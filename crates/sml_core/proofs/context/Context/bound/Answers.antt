use Rattle.std.proofs.Common.{arith, Ok, Err, ap, subst, sym, ◌∙◌}
use Rattle.sml_types.specs.declared.fault.CoreFault.TheVariants as F
use Rattle.sml_tree.specs.ExpressionViews.{bind_of, exp_of}
use Rattle.sml_tree.specs.PatternViews.{pat_of}
use Rattle.sml_tree.specs.declared.expressions.ValBind.{out-ValBind}
use Rattle.sml_objects.specs.Views.{type_of}
use Rattle.sml_core.specs.Answered.{Equates}
use Rattle.sml_core.specs.Binds.{JoinsBind}
use Rattle.sml_core.specs.declared.values.Declaration.{Declaration}
use Rattle.sml_core.proofs.Binds.{bind-judged, bind-memory, bind-unequal, flags-grow, flags-stay}
use Rattle.sml_core.proofs.Sequences.{by-err}
use Rattle.sml_core.proofs.Views.{bind_of-parts}
use Rattle.sml_core.proofs.context.Context.bound.Goals as goal
use Rattle.sml_core.proofs.context.Context.bound.Goals.{then-len-count+in_ok-resize, else-len-count}

pub returns-in_err-equal-clause-joins : goal.returns-in_err-equal-clause-joins
returns-in_err-equal-clause-joins c =
    let b = out-ValBind c.args.bind.now in
    let f = c.in_err-equal.field-0.0 in
    let t = type_of c.args.pattern.now in
    let a = type_of c.args.ty.now in
    let old = c.args.self.now in
    let mid = c.equal.new.self in
    let d = c.args.declaration.now in
    by-err (JoinsBind old d (bind_of c.args.bind.now) t a mid d) c.from_residual.result f c.from_residual.ensures.1
    (subst (λ b. JoinsBind old d b t a mid d (Err f)) (sym (bind_of-parts c.args.bind.now))
    (bind-unequal old mid d d (pat_of b.pat) (exp_of b.exp) t a f (subst (λ p. Equates old p t a mid (Err f)) c.pattern_place.ensures c.in_err-equal.ensures)))

pub returns-in_err-is_expansive-clause-joins : goal.returns-in_err-is_expansive-clause-joins
returns-in_err-is_expansive-clause-joins c =
    let new = c.equal.new.self in
    let d = c.args.declaration.now in
    let b = bind_of c.args.bind.now in
    by-err (JoinsBind c.args.self.now d b (type_of c.args.pattern.now) (type_of c.args.ty.now) new d) c.from_residual-in_err-is_expansive.result F.Memory c.from_residual-in_err-is_expansive.ensures.1
    (bind-memory c.args.self.now new d d b (type_of c.args.pattern.now) (type_of c.args.ty.now))

pub returns-in_err-resize-clause-joins : goal.returns-in_err-resize-clause-joins
returns-in_err-resize-clause-joins c =
    let new = c.equal.new.self in
    let d = c.args.declaration.now in
    let after = record d { expansive = c.resize.new.self } in
    let b = bind_of c.args.bind.now in
    by-err (JoinsBind c.args.self.now d b (type_of c.args.pattern.now) (type_of c.args.ty.now) new after) c.from_residual-in_err-resize.result F.Memory c.from_residual-in_err-resize.ensures.1
    (bind-memory c.args.self.now new d after b (type_of c.args.pattern.now) (type_of c.args.ty.now))

pub returns-clause-joins : goal.returns-clause-joins
returns-clause-joins c =
    let b = out-ValBind c.args.bind.now in
    let t = type_of c.args.pattern.now in
    let a = type_of c.args.ty.now in
    let old = c.args.self.now in
    let mid = c.equal.new.self in
    let d = c.args.declaration.now in
    let after = c.if-len-count.declaration in
    let flags = λ (d : Declaration). d.expansive.items in
    let n = c.len-count.result in
    let counts = c.len-count.ensures.len in
    subst (λ b. JoinsBind old d b t a (record mid { warnings = c.judge_binding.new.warnings }) after c.judge_binding.result) (sym (bind_of-parts c.args.bind.now))
    (bind-judged old mid d after (pat_of b.pat) (exp_of b.exp) t a c.judge_binding.new.warnings c.judge_binding.result
    (subst (λ p. Equates old p t a mid (Ok tt)) c.pattern_place.ensures c.in_ok-equal.ensures) c.judge_binding.ensures.fault
    (λ C m. elim c.if-len-count.branch [
      | then-len-count+in_ok-resize w ↦ ap flags w.declaration-is ∙ w.in_ok-resize.ensures.items ∙ flags-grow d.variables d.expansive n counts c.in_ok-is_expansive.is_expansive _ (c.in_ok-is_expansive.ensures C m) (omega arith)
      | else-len-count w ↦ ap flags w.declaration-is ∙ flags-stay d.variables d.expansive n counts _ (omega arith)
    ]))
