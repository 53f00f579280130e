use Rattle.std.proofs.Common.{◌≡◌, length, ap, arith}
use Rattle.sml_graph.specs.Rows.{kids_of}
use Rattle.sml_graph.specs.Graphs.{fields_of}
use Rattle.sml_graph.proofs.Changing.{keeps-grown}
use Rattle.sml_graph.proofs.Merging.{joins-open, joins-turned}
use Rattle.sml_graph.proofs.merge.join_fields.Goals as goal

pub returns-in_ok-add_fields-clause-joins : goal.returns-in_ok-add_fields-clause-joins
returns-in_ok-add_fields-clause-joins c = joins-turned _ _ _ _ _ (joins-open _ _ _ _ _ (rw (c.deref_mut.ensures.value, c.deref-then-kids-kept.ensures) at c.in_ok-add_fields.ensures.joins))

pub returns-in_ok-add_fields-clause-keeps : goal.returns-in_ok-add_fields-clause-keeps
returns-in_ok-add_fields-clause-keeps c =
    let n : length c.kids-kept.result.now ≡ length (kids_of (fields_of c.args.lower.value)) = rw c.deref.ensures at (ap length c.kids-kept.ensures) in
    keeps-grown _ c.args.lower _ (omega (arith, n)) (rw c.deref_mut.ensures.value at c.in_ok-add_fields.ensures.more)

pub returns-in_ok-add_fields-2-clause-joins : goal.returns-in_ok-add_fields-2-clause-joins
returns-in_ok-add_fields-2-clause-joins c = joins-open _ _ _ _ _ (rw (c.deref_mut-else-kids-kept.ensures.value, c.deref-else-kids-kept.ensures) at c.in_ok-add_fields-2.ensures.joins)
