use Rattle.std.proofs.Common.{rules, ap, ◌∙◌, ◌++◌, ◌∷◌, []}
use Rattle.std.specs.HashMap.{get}
use Rattle.sml_patterns.specs.declared.keys.Key as P
use Rattle.sml_patterns.specs.CodeColumns.{same_key}
use Rattle.sml_patterns.proofs.Columns.{noted, taken, taken_none}
use Rattle.sml_patterns.proofs.column.Column.note_key.Goals as goal
use Rattle.sml_patterns.proofs.column.Column.note_key.Goals.{in-Some, in-None}

pub returns-clause-holds : goal.returns-clause-holds
returns-clause-holds c = λ keys h i.
    let key : P.Key = record { group = c.len.result; kind = c.args.key.kind; number = c.args.key.number; integer = c.args.key.integer; text = c.args.key.text } in
    noted keys (get same_key c.args.self.now.known) (get same_key c.swap_remove.new.self) (get same_key c.insert.new.self) key c.push.new.self c.args.self.now.others.items c.args.index h.0 h.1 (search rules) i
    (c.in_ok-push.ensures.items ∙ ap (λ is. is ++ c.args.index ∷ []) (elim c.match-swap_remove.branch [
      | in-Some w ↦ taken (get same_key c.args.self.now.known key) c.swap_remove.result w.in-Some.indices c.match-swap_remove.indices c.swap_remove.ensures.value w.in-Some.is w.indices-is
      | in-None w ↦ taken_none (get same_key c.args.self.now.known key) c.swap_remove.result w.new-indices.result c.match-swap_remove.indices c.swap_remove.ensures.value w.in-None.is w.indices-is w.new-indices.ensures.items
    ]))
    c.swap_remove.ensures.updates.0 c.in_ok-insert.ensures.updates.0
