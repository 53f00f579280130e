-- What the rest spells stands after the tokens so far.
use Rattle.std.proofs.Common.{◌≤◌, ◌-◌, length}
use Rattle.sml_lex.proofs.Spelling.{Carries}
use Rattle.sml_lex.proofs.lexer.lex.Given as goal

abbrev pub invariant-loop-place : goal.invariant-loop-place
invariant-loop-place l = record {
  carries : Carries l.unit l.place l.tokens.items;
  within : l.place ≤ length l.unit;
}

abbrev pub decreases-loop-place : goal.decreases-loop-place
decreases-loop-place l = length l.unit - l.place
