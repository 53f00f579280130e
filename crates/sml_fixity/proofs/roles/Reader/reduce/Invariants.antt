use Rattle.std.proofs.Common.{List, vec_len}
use Rattle.sml_fixity.specs.CodeReader.{HasAtoms, Reducing}
use Rattle.sml_fixity.specs.declared.roles.Role.{Role}
use Rattle.sml_fixity.proofs.roles.Reader.reduce.Given as goal

abbrev pub invariant-loop-top : goal.invariant-loop-top
invariant-loop-top l =
    (roles : List Role) → HasAtoms roles l.initial.self.steps.items l.initial.self.pending.items → Reducing l.operator roles l.self.steps.items l.self.pending.items

abbrev pub decreases-loop-top : goal.decreases-loop-top
decreases-loop-top l = vec_len l.self.pending
