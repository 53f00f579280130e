use Rattle.std.proofs.Common.{List, vec_len}
use Rattle.sml_fixity.specs.CodeReader.{HasAtoms, HasOperand}
use Rattle.sml_fixity.specs.declared.roles.Role.{Role}
use Rattle.sml_fixity.proofs.roles.Reader.finish.Given as goal

abbrev pub invariant-loop-top : goal.invariant-loop-top
invariant-loop-top l =
    (roles : List Role) → HasAtoms roles l.fn.self.steps.items l.fn.self.pending.items → HasOperand roles l.steps.items l.pending.items

abbrev pub decreases-loop-top : goal.decreases-loop-top
decreases-loop-top l = vec_len l.pending
