use Rattle.sml_client.specs.Answers.{OnlyTells}
use Rattle.sml_client.proofs.published.Published.end.Given as goal

abbrev pub invariant-loop-uri : goal.invariant-loop-uri
invariant-loop-uri l = OnlyTells l.initial.out.bytes.items l.out.bytes.items
