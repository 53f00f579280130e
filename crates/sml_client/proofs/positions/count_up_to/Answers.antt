use Rattle.std.proofs.Common.{rules, of_calls, leb}
use Rattle.std.proofs.lemmas.Fn.{always_returns_same}
use Rattle.sml_client.proofs.Places.{counted, in_front}
use Rattle.sml_client.proofs.positions.count_up_to.Goals as goal

pub returns : goal.returns
returns c = λ front back e low high.
    counted c.args.numbers.now front back c.args.most c.partition_point.result e low high c.partition_point.ensures.bound
    (c.partition_point.ensures.partitioned (λ n. leb n c.args.most) (always_returns_same _ _ _ (λ a r f k. search (rules, of_calls)))
    (in_front c.args.numbers.now front back c.args.most e low high))
