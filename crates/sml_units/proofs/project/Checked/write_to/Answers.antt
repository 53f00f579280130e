use Rattle.std.proofs.Common.{ap, ◌∙◌, refl}
use Rattle.sml_reply.proofs.Sinks.{same_text}
use Rattle.sml_units.specs.Written.{units_text, replies_of, summary_of}
use Rattle.sml_units.proofs.Written.{printed-as}
use Rattle.sml_units.proofs.project.Checked.write_to.Goals as goal

pub returns-in-Ok-clause-printed : goal.returns-in-Ok-clause-printed
returns-in-Ok-clause-printed g c =
    same_text _ _ _ _ _ _ _ (ap (λ us. units_text us c.args.form) (c.as_slice-units.ensures.value ∙ ap (λ r. r.units.items) c.replies.ensures)) (printed-as _ _ _ _ _ _ _ refl c.in-Ok.ensures)

pub returns-in-Ok-clause-counted : goal.returns-in-Ok-clause-counted
returns-in-Ok-clause-counted g c = c.counts.ensures ∙ ap (λ us. summary_of (replies_of us)) (c.as_slice-units.ensures.value ∙ ap (λ r. r.units.items) c.replies.ensures)

pub returns-in-Err-clause-printed : goal.returns-in-Err-clause-printed
returns-in-Err-clause-printed g c =
    same_text _ _ _ _ _ _ _ (ap (λ us. units_text us c.args.form) (c.as_slice-units.ensures.value ∙ ap (λ r. r.units.items) c.replies.ensures)) (printed-as _ _ _ _ _ _ _ refl c.in-Err.ensures)
