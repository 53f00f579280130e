use Rattle.sml_shown.proofs.OneByte.{names_one_byte}
use Rattle.sml_shown.proofs.unit_map.UnitMap.in_file.Goals as goal

pub returns : goal.returns
returns c = λ unit short is.
    names_one_byte unit c.args.self.now c.args.number c.start.result c.args.place c.in_file.result short is c.start.ensures (c.in_file.ensures.line, c.in_file.ensures.column)
