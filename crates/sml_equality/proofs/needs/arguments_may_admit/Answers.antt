use Rattle.std.proofs.Common.{◌&&◌, ap, sym, ◌∙◌, refl}
use Rattle.std.specs.List.{list_all}
use Rattle.sml_equality.specs.Runs.{argument_admits, arguments_admit}
use Rattle.sml_equality.proofs.Needing.{one_more}
use Rattle.sml_equality.proofs.needs.arguments_may_admit.Goals as goal

pub loop-argument-preserved : goal.loop-argument-preserved
loop-argument-preserved c =
    let r = c.args.run.now in
    let x = c.argument-item.result in
    record {
      left = one_more (λ kept ts. arguments_admit r kept ts) c.args.arguments.now c.loop-argument.argument-index x x
          (λ kept. argument_admits r kept x) (λ kept. list_all kept c.loop-argument.needs.items) (λ kept. list_all kept c.argument_may_admit.new.needs.items) (λ kept. list_all kept c.args.needs.now.items && arguments_admit r kept c.args.arguments.now)
          (λ kept rest. refl) c.loop-argument-test.true (sym c.argument-item.is) c.loop-argument.invariant.left
          (λ kept. ap (λ b. list_all kept c.argument_may_admit.new.needs.items && b) (sym c.if-not-branch.false) ∙ c.in_ok-argument_may_admit.ensures.kept kept);
      inside = λ h. c.in_ok-argument_may_admit.ensures.inside (c.loop-argument.invariant.inside h);
    }
