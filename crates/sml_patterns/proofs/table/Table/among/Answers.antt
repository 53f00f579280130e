use Rattle.std.proofs.Common.{rules, map}
use Rattle.sml_patterns.specs.CodeColumns.{key_at, label_of}
use Rattle.sml_narrowing.specs.Views.{plain_of}
use Rattle.sml_patterns.proofs.Telling.{known_at, found_near}
use Rattle.sml_patterns.proofs.table.Table.among.Goals as goal

pub returns-then-is_some : goal.returns-then-is_some
returns-then-is_some c = λ above h.
    let column = c.column-item.result in
    found_near above column (plain_of c.args.pattern.now) c.in-Some.key c.in_ok-key.field-0 c.in_ok-found.found c.in_ok-key.ensures c.in-Some.is
    (c.in_ok-found.ensures (map (key_at (label_of column)) above) (known_at above c.args.self.now.columns.items c.loop-column.column-index column h (search rules) (search rules)))
