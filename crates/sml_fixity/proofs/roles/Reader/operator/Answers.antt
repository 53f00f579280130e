use Rattle.sml_fixity.proofs.Frames.{operator_read}
use Rattle.sml_fixity.proofs.roles.Reader.operator.Goals as goal

pub returns : goal.returns
returns c = λ roles h.
    let reduced = rw c.if-not-branch.false at (c.in_ok-reduce.ensures roles h) in
    rw c.in_ok-push.ensures.items (operator_read c.args.operator roles _ _ reduced)
