use Rattle.std.proofs.Common.{Some, None}
use Rattle.sml_piece.proofs.Numbers.{number_found}
use Rattle.sml_piece.proofs.locals.Locals.number.Goals as goal

pub returns-in-Some : goal.returns-in-Some
returns-in-Some c = number_found c.args.self.now.numbers.entries c.args.name.now (Some c.in-Some.number.now) c.in-Some.ensures.value

pub returns-in-None : goal.returns-in-None
returns-in-None c = number_found c.args.self.now.numbers.entries c.args.name.now None c.in-None.ensures.value
