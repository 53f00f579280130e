use Rattle.sml_reach.proofs.Alone.{single}
use Rattle.sml_reach.proofs.reach.Reach.is_operand.Goals as goal

pub returns-in-Some-None : goal.returns-in-Some-None
returns-in-Some-None c h = (c.in-Some-None.atom.now, single c.args.atoms.now c.in-Some-None.atom.now c.in-Some-None.ensures.item.0 c.in-Some-None.ensures.item.1 c.in-Some-None.ensures'.lookup.3, c.is_atom.ensures h)
