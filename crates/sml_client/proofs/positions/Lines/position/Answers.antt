use Rattle.std.proofs.Common.{◌≡◌, ◌++◌, ◌+◌, ◌-◌, ◌∷◌, Some, length, ap, ◌∙◌, arith}
use Rattle.std.specs.Prelude.{slice_get, slice_range, unwrap_or}
use Rattle.sml_client.specs.Positions.{ends_for_client, line_begin, line_starts, units}
use Rattle.sml_client.proofs.Places.{all_later, begun_before, last_begun, later, none_after, parted_at}
use Rattle.sml_client.proofs.positions.Lines.position.Goals as goal

pub returns : goal.returns
returns c = λ within.
    let text = c.args.self.now.text.now in
    let at = c.args.at in
    let ends = ends_for_client text in
    let left = length text - at in
    let whole : length text ≡ at + left = omega (arith, within) in
    let all = c.args.self.now.of_client ∙ ap (line_starts ends) whole ∙ parted_at ends at left in
    let line = c.count_up_to-line.ensures (line_starts ends at) (later ends at left) (c.deref.ensures.value ∙ all) (none_after ends at) (all_later ends at left) in
    let found : c.start_of.result ≡ Some (line_begin ends at) =
    c.start_of.ensures ∙ ap (λ l. slice_get (0 ∷ l) c.count_up_to-line.result) (c.deref-2.ensures.value ∙ all)
    ∙ ap (λ n. slice_get (0 ∷ (line_starts ends at ++ later ends at left)) n) line ∙ last_begun ends at (later ends at left) in
    let start : c.unwrap_or-start.result ≡ line_begin ends at = c.unwrap_or-start.ensures ∙ ap (λ o. unwrap_or o 0) found in
    let part = c.part.ensures (let h = begun_before ends at in omega (arith, h, start)) within in
    let character = c.units_in.ensures ∙ ap (units c.args.self.now.encoding) (part ∙ ap (λ s. slice_range text s at) start) in
    λ i. record { line = line i; character = character i }
