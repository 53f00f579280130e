use Rattle.std.proofs.Common.{◌≡◌, ◌∙◌, ◌++◌, ◌∷◌, [], codes, decimal, List, ℕ, append_assoc, Option, Some, None, refl, Vec, Global}
use Rattle.std.specs.Option.{option_map}
use Rattle.sml_texts.specs.Text.{detail_text, fault_text, code_text, meaning}
use Rattle.sml_reply.specs.Replies.{refusal_text}
use Rattle.sml_reply.specs.Sinks.{in_turn}
use Rattle.sml_reply.specs.declared.reply.RefusedReply.{RefusedReply}
use Rattle.sml_reply.proofs.Sinks.{prints_then, prints_stop}
use Rattle.sml_reply.proofs.reply.print_refused.Goals as goal

seen : (d : Option (Vec ℕ Global)) → (elim d [ Some bytes ↦ Some bytes.items | None ↦ None ]) ≡ option_map (λ v. v.items) d
seen None = refl
seen (Some v) = refl

regroup : (a b d e f g h j k x : List ℕ)
    → a ++ (b ++ (d ++ (e ++ (f ++ (g ++ (h ++ (j ++ (k ++ x)))))))) ≡ in_turn (a ∷ b ∷ d ∷ e ∷ f ∷ g ∷ h ∷ j ∷ k ∷ []) ++ x
regroup a b d e f g h j k x = simp append_assoc

whole : (r : RefusedReply)
    → refusal_text r ≡ in_turn (decimal r.number ∷ codes " fault " ∷ code_text r.fault.code ∷ codes " " ∷ decimal r.fault.place.line ∷ codes "." ∷ decimal r.fault.place.column ∷ codes " " ∷ meaning r.fault.code ∷ [])
    ++ (detail_text (option_map (λ v. v.items) r.fault.detail) ++ codes "\n")
unfolding refusal_text fault_text
whole r =
    (λ i. decimal r.number ++ (codes " fault " ++ (code_text r.fault.code ++ (codes " " ++ (decimal r.fault.place.line ++ (codes "." ++ (decimal r.fault.place.column
    ++ (codes " " ++ (meaning r.fault.code ++ (detail_text (seen r.fault.detail i) ++ codes "\n"))))))))))
    ∙ regroup (decimal r.number) (codes " fault ") (code_text r.fault.code) (codes " ") (decimal r.fault.place.line) (codes ".") (decimal r.fault.place.column) (codes " ") (meaning r.fault.code) (detail_text (option_map (λ v. v.items) r.fault.detail) ++ codes "\n")

pub returns-in-Ok : goal.returns-in-Ok
returns-in-Ok g c = prints_then _ _ _ _ _ _ _ _ _ _ _ c.in-Ok.ensures c.print_detail.ensures (whole c.args.reply.now)

pub returns-in-Err : goal.returns-in-Err
returns-in-Err g c = prints_stop _ _ _ _ _ _ _ _ _ _ c.in-Err.ensures (whole c.args.reply.now)
