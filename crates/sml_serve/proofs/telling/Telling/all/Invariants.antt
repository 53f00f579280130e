use Rattle.sml_client.specs.Answers.{OnlyTells}
use Rattle.sml_serve.proofs.telling.Telling.all.Given as goal

abbrev pub invariant-loop-work : goal.invariant-loop-work
invariant-loop-work g l = OnlyTells l.initial.out.bytes.items l.out.bytes.items
