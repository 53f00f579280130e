use Rattle.std.proofs.Common.{refl}
use Rattle.sml_fixity.proofs.Frames.{atoms_first, atoms_next}
use Rattle.sml_fixity.proofs.roles.Reader.operand.Goals as goal
use Rattle.sml_fixity.proofs.roles.Reader.operand.Goals.{then-self+in_ok-push-2, else-self}

pub returns : goal.returns
returns c = λ roles h.
    elim c.if-self.branch [
      | then-self+in_ok-push-2 w ↦ rw w.self-is (rw (w.in_ok-push-2.ensures.items, c.in_ok-push.ensures.items) (atoms_next roles _ _ c.args.operand (rw w.if-self.true at h)), refl)
      | else-self w ↦ rw w.self-is (rw c.in_ok-push.ensures.items (atoms_first roles _ _ c.args.operand (rw w.if-self.false at h)), refl)
    ]
