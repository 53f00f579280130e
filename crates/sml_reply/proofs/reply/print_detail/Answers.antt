use Rattle.std.proofs.Common.{ap, sym, ◌∙◌, ◌++◌, codes}
use Rattle.std.specs.Option.{option_map}
use Rattle.sml_texts.specs.Text.{detail_text}
use Rattle.sml_reply.proofs.Sinks.{same_text}
use Rattle.sml_reply.proofs.reply.print_detail.Goals as goal

pub returns-in-Some : goal.returns-in-Some
unfolding detail_text
returns-in-Some g c =
    same_text _ _ _ _ _ _ _
    (ap (λ l. codes " " ++ (l ++ codes "\n")) c.as_slice.ensures.value ∙ ap (λ d. detail_text (option_map (λ v. v.items) d) ++ codes "\n") (sym c.in-Some.is))
    c.write_each.ensures

pub returns-in-None : goal.returns-in-None
unfolding detail_text
returns-in-None g c =
    same_text _ _ _ _ _ _ _ (ap (λ d. detail_text (option_map (λ v. v.items) d) ++ codes "\n") (sym c.in-None.is)) c.write_all.ensures
