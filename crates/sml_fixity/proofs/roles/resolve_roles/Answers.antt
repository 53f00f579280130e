use Rattle.std.proofs.Common.{◌≡◌, length, arith}
use Rattle.std.proofs.lemmas.List.{take_all}
use Rattle.sml_fixity.proofs.Frames.{begins, stray_awaiting, stray_last, stray_fault, mixed_fault, the_tree}
use Rattle.sml_fixity.proofs.roles.resolve_roles.Goals as goal
use Rattle.sml_fixity.proofs.roles.resolve_roles.Goals.{then-not-reader-via-then-not-reader, then-not-reader-via-else-not-reader+then-index-roles}

pub returns-then-not-reader-clause-fault : goal.returns-then-not-reader-clause-fault
returns-then-not-reader-clause-fault c =
    let roles = c.args.roles.now in
    let i = c.loop-index.index in
    let q = c.in-Infix.operator in
    let r = c.loop-index.reader in
    stray_fault roles i q c.loop-index-test.true c.in-Infix.is r.steps.items r.pending.items (begins r.after_operand _ _ _ c.loop-index.invariant.0) (elim c.then-not-reader.branch [
      | then-not-reader-via-then-not-reader w ↦ stray_awaiting roles i q c.loop-index-test.true c.in-Infix.is _ _ (rw w.if-not-reader.true at c.loop-index.invariant.0)
      | then-not-reader-via-else-not-reader+then-index-roles w ↦ stray_last roles i q c.loop-index-test.true c.in-Infix.is r.steps.items r.pending.items w.if-index-roles.true
    ])

pub returns-then-not-branch-clause-fault : goal.returns-then-not-branch-clause-fault
returns-then-not-branch-clause-fault c =
    let has = rw c.if-not-reader.false at c.loop-index.invariant.0 in
    let clash = rw c.if-not-branch.true at (c.in_ok-operator-in-Infix.ensures _ has) in
    mixed_fault c.args.roles.now c.loop-index.index c.in-Infix.operator c.loop-index-test.true c.in-Infix.is _ _ c.if-index-roles.false has clash

pub returns-clause-tree : goal.returns-clause-tree
returns-clause-tree c =
    let whole : c.loop-index.index ≡ length c.args.roles.now = omega (arith, c.loop-index.auto.index-end, c.loop-index-test.false) in
    let after = c.loop-index.invariant.1 (omega (arith, c.requires)) whole in
    let has = rw after at c.loop-index.invariant.0 in
    let all = rw (take_all c.loop-index.index c.args.roles.now (omega arith)) at has in
    the_tree c.args.roles.now _ (c.in_ok-finish.ensures _ all)
