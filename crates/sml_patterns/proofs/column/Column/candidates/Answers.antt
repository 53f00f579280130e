use Rattle.std.proofs.Common.{rules, arith, ◌≡◌, length, ap, ◌∙◌}
use Rattle.sml_patterns.specs.CodeColumns.{key_in, grouped}
use Rattle.sml_patterns.proofs.Columns.{all_found}
use Rattle.sml_patterns.proofs.column.Column.candidates.Goals as goal

pub returns : goal.returns
returns c = λ keys h.
    let others = c.args.self.now.others.items in
    let all : c.len-2.result ≡ length others = search rules in
    let end : c.len-group-end.result ≡ length others = search rules in
    all_found keys (key_in c.args.key.now) others c.loop-group.found.items c.extend_from_slice-2.new.self.items c.in_ok-same-2.same.now c.loop-group.group h.0 (omega (arith, c.loop-group-test.false, end)) (omega (arith, c.loop-group.auto, end)) (c.loop-group.invariant keys h)
    (c.in_ok-same-2.ensures keys h ∙ ap (grouped 0 0 keys (key_in c.args.key.now)) all) (search rules)
