use Rattle.std.proofs.Common.{◌++◌, ◌∷◌, List, [], ℕ, Bor, cond, get_or, map, nat_eq, take, string_bytes, sym, ap, ◌∙◌, append_assoc}
use Rattle.std.specs.List.{join_with_byte}
use Rattle.sml_client.proofs.Joining.{join_next}
use Rattle.sml_client.proofs.paths.push_parts.Goals as goal

abbrev now : Bor (List ℕ) → List ℕ
now p = p.now

pub loop-index-preserved : goal.loop-index-preserved
loop-index-preserved c =
    let parts = c.args.parts.now in
    let i = c.loop-index.index in
    let old = string_bytes c.args.text.now in
    let part = now (get_or parts i (record { ref_ptr = (0, 0); now = [] })) in
    let next = cond (nat_eq i 0) part (47 ∷ part) in
    c.in_ok-push_part.ensures ∙ ap (λ t. t ++ next) c.loop-index.invariant ∙ append_assoc old (join_with_byte 47 (map now (take i parts))) next
    ∙ ap (λ l. old ++ l) (sym (join_next now parts i (record { ref_ptr = (0, 0); now = [] }) c.loop-index-test.true))
