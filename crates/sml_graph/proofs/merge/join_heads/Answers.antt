use Rattle.std.proofs.Common.{◌≡◌, length, arith}
use Rattle.sml_graph.proofs.Merging.{joins-heads, heads-apart}
use Rattle.sml_graph.proofs.merge.join_heads.Goals as goal
use Rattle.sml_graph.proofs.merge.join_heads.Goals.{else-is_same_head-via-then-is_same_head+else-len, else-is_same_head-via-else-is_same_head}

pub returns-in_ok-push_pairs-clause-joins : goal.returns-in_ok-push_pairs-clause-joins
returns-in_ok-push_pairs-clause-joins c =
    let n : length c.args.kids.items ≡ length c.args.others.items = omega arith in
    joins-heads c.args.head c.args.other c.args.kids c.args.others c.args.pending.now.items c.push_pairs.new.pending.items (c.is_same_head.ensures.same c.if-is_same_head.true) n (rw (c.as_slice.ensures, c.as_slice-then-len.ensures) at c.in_ok-push_pairs.ensures)

pub returns-else-is_same_head-clause-clash : goal.returns-else-is_same_head-clause-clash
returns-else-is_same_head-clause-clash c _ =
    heads-apart c.args.head c.args.other c.args.kids c.args.others
    (λ f n. elim c.else-is_same_head.branch [
      | else-is_same_head-via-then-is_same_head+else-len w ↦ w.if-len.false (omega (arith, n))
      | else-is_same_head-via-else-is_same_head w ↦ c.is_same_head.ensures.differ w.if-is_same_head.false _ _ f
    ])
