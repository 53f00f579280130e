use Rattle.std.proofs.Common.{sym, ◌++◌, [], ◌∷◌, codes, map}
use Rattle.sml_reply.specs.Replies.{form_text}
use Rattle.sml_reply.specs.Sinks.{in_turn}
use Rattle.sml_reply.proofs.Sinks.{prints_then, prints_stop}
use Rattle.sml_units.proofs.run.write_unit.Goals as goal

pub returns-in-Ok : goal.returns-in-Ok
returns-in-Ok g c =
    prints_then _ _ _ _ _ _ _ _ _ _ _ c.in-Ok.ensures c.print_each.ensures
    (λ i. in_turn (codes "unit " ∷ sym c.as_bytes.ensures.value i ∷ codes "\n" ∷ []) ++ in_turn (map (λ r. form_text r c.args.form) (sym c.as_slice.ensures.value i)))

pub returns-in-Err : goal.returns-in-Err
returns-in-Err g c =
    let rest = in_turn (map (λ r. form_text r c.args.form) c.args.unit.now.replies.items) in
    prints_stop _ _ _ _ _ _ _ _ rest _ c.in-Err.ensures (λ i. in_turn (codes "unit " ∷ sym c.as_bytes.ensures.value i ∷ codes "\n" ∷ []) ++ rest)
