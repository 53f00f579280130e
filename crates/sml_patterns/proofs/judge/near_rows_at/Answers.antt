use Rattle.std.proofs.Common.{rules, refl, ap, ◌∙◌}
use Rattle.std.proofs.lemmas.Option.{slice_get_read, slice_get_past}
use Rattle.sml_narrowing.specs.CodeTasks.{lines}
use Rattle.sml_narrowing.specs.Views.{plain_of}
use Rattle.sml_patterns.proofs.Picking.{picked_one, picked_none}
use Rattle.sml_patterns.proofs.judge.near_rows_at.Goals as goal
use Rattle.sml_patterns.proofs.judge.near_rows_at.Goals.{in-Some+in_ok-push_near, in_default}

pub loop-index-preserved : goal.loop-index-preserved
loop-index-preserved c =
    let old = lines c.loop-index.rows.items in
    elim c.match-get.branch [
      | in-Some+in_ok-push_near w ↦ picked_one (plain_of c.args.pattern.now) c.args.rules.now c.args.indices.now c.loop-index.index-index c.loop-index-test.true w.in-Some.rule.now _ old (lines c.match-get.rows.items) (let l = w.in-Some.ensures.lookup in slice_get_read c.args.rules.now _ _ w.in-Some.rule.now refl l.3.0 l.1) c.loop-index.invariant (ap (λ rows. lines rows.items) w.rows-is ∙ w.in_ok-push_near.ensures)
      | in_default w ↦ picked_none (plain_of c.args.pattern.now) c.args.rules.now c.args.indices.now c.loop-index.index-index c.loop-index-test.true _ (lines c.match-get.rows.items) (slice_get_past c.args.rules.now _ w.in_default.ensures.lookup.3) (search rules)
    ]
