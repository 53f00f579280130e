use Rattle.std.proofs.Common.{◌<◌, reverse, length, rules, arith}
use Rattle.std.proofs.lemmas.List.{length-reverse}
use Rattle.sml_phrases.proofs.Holding.{first_held}
use Rattle.sml_phrases.proofs.stack.Stack.is_empty.Goals as goal

pub returns-clause-some : goal.returns-clause-some
returns-clause-some c = λ h.
    let items = c.args.self.now.held.items in
    let some : 0 < length items = search rules in
    let same = length-reverse items in
    first_held c.args.self.now.nothings (reverse items) (omega (arith, c.if-self-gt0.false)) (omega (arith, some, same))
