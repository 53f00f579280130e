use Rattle.sml_client.specs.Answers.{OnlyTells}
use Rattle.sml_serve.proofs.telling.Telling.work.Given as goal

abbrev pub invariant-loop-place : goal.invariant-loop-place
invariant-loop-place l = OnlyTells l.initial.out.bytes.items l.out.bytes.items
