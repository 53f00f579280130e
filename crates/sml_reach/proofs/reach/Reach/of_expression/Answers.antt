use Rattle.std.proofs.Common.{subst}
use Rattle.sml_reach.specs.Reach.{state_of}
use Rattle.sml_reach.specs.CodeAlone.{IsOperand}
use Rattle.sml_reach.proofs.Alone.{expression_alone}
use Rattle.sml_reach.proofs.reach.Reach.of_expression.Goals as goal

pub returns-then-is_operand-clause-some : goal.returns-then-is_operand-clause-some
returns-then-is_operand-clause-some c some =
    expression_alone (state_of c.args.self.now) c.args.atoms (subst (IsOperand (state_of c.args.self.now).here) c.deref.ensures.value (c.is_operand.ensures c.if-is_operand.true)) c.alone.result c.alone.ensures
