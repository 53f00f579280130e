use Rattle.std.proofs.Common.{◌≡◌, ◌-◌, sym, ap, ◌∙◌, length, drop, take, length-drop, arith}
use Rattle.std.proofs.lemmas.Bool.{MatchBool-at_false, eqb-true}
use Rattle.std.proofs.lemmas.List.{take_rest}
use Rattle.sml_client.proofs.Parts.{none_left, none_named}
use Rattle.sml_client.proofs.heads.length_in.Goals as goal
use Rattle.sml_client.proofs.heads.length_in.Goals.{else-not-is_empty-via-then-not-is_empty+else-is_named, else-not-is_empty-via-else-not-is_empty}

pub returns-else-not-is_empty : goal.returns-else-not-is_empty
returns-else-not-is_empty c =
    elim c.else-not-is_empty.branch [
      | else-not-is_empty-via-then-not-is_empty+else-is_named w ↦
          none_named _ _ _ _ c.before_blanks-text.ensures c.before_digits-left.ensures w.before_blanks.ensures (MatchBool-at_false _ _ w.if-is_named.false w.is_named.ensures)
      | else-not-is_empty-via-else-not-is_empty w ↦
          none_left _ _ _ c.before_blanks-text.ensures c.before_digits-left.ensures
          (let left = length c.before_digits-left.result.now in
          let text = c.before_blanks-text.result.now in
          let none : length (take (length text - left) (drop left text)) ≡ 0 = eqb-true _ 0 (sym c.is_empty.ensures ∙ w.if-not-is_empty.false) in
          let rest = ap length (take_rest text left) in
          let count = length-drop left text in
          omega (arith, none, rest, count))
    ]
