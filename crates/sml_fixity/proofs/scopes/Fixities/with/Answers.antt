use Rattle.std.proofs.Common.{refl}
use Rattle.sml_fixity.proofs.scopes.Fixities.with.Goals as goal
use Rattle.sml_fixity.proofs.scopes.Fixities.with.Goals.{in-Infix, in-Infixr}

pub returns-in-None-clause-fault : goal.returns-in-None-clause-fault
returns-in-None-clause-fault c = λ e. (
  (λ given g. elim c.match-directive.branch [
    | in-Infix w ↦ (let h = rw w.in-Infix.is at g in c.in-None.ensures.none refl h.0 h.1)
    | in-Infixr w ↦ (let h = rw w.in-Infixr.is at g in c.in-None.ensures.none refl h.0 h.1)
  ]),
  refl,
)
