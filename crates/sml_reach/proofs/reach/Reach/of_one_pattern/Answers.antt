use Rattle.sml_reach.specs.Reach.{state_of}
use Rattle.sml_reach.proofs.Alone.{item_is_pattern}
use Rattle.sml_reach.proofs.reach.Reach.of_one_pattern.Goals as goal

pub returns-then-is_atom : goal.returns-then-is_atom
returns-then-is_atom c = item_is_pattern (state_of c.args.self.now) c.args.item c.args.token (c.is_atom.ensures c.if-is_atom.true)
