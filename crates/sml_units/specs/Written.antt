-- What a run writes and counts.
use Rattle.std.specs.Prelude.{◌≡◌, ℕ, not, List, [], ◌∷◌, ◌++◌, length, map, codes, count_by, sum_by, Option, Result, Ok, Err, IfOk}
use Rattle.std.specs.List.{flat_map}
use Rattle.std.specs.String.{string_bytes}
use Rattle.sml_bases.specs.Entries.{capped}
use Rattle.sml_reply.specs.declared.form.Form.{Form}
use Rattle.sml_reply.specs.declared.reply.Reply.{Reply}
use Rattle.sml_reply.specs.Replies.{form_text, warnings_of, accepts}
use Rattle.sml_reply.specs.Sinks.{in_turn, Prints}
use Rattle.sml_units.specs.declared.project.Replies.{Replies}
use Rattle.sml_units.specs.declared.project.UnitReplies.{UnitReplies}
use Rattle.sml_units.specs.declared.run.Summary.{Summary}
use Rattle.sml_units.specs.declared.run.RunFault.{RunFault}
use Rattle.sml_units.specs.declared.run.RunFault.TheVariants.{Memory, Write}

-- the line of the unit, and then its replies
abbrev pub unit_text : UnitReplies → Form → List ℕ
unit_text u form = in_turn (codes "unit " ∷ string_bytes u.name ∷ codes "\n" ∷ []) ++ in_turn (map (λ r. form_text r form) u.replies.items)

-- the units one after the other
abbrev pub units_text : List UnitReplies → Form → List ℕ
units_text us form = in_turn (map (λ u. unit_text u form) us)

abbrev pub replies_text : Replies → Form → List ℕ
replies_text rs form = units_text rs.units.items form

-- the replies of all units
abbrev pub replies_of : List UnitReplies → List Reply
replies_of us = flat_map (λ u. u.replies.items) us

unfoldable pub summary_of : List Reply → Summary
summary_of rs = record {
  accepted = capped (count_by accepts rs);
  refused = capped (count_by (λ r. not (accepts r)) rs);
  warnings = capped (sum_by (λ r. length (warnings_of r)) rs);
}

-- Replies that may be given were printed as far as the sink took them, and where it took them all the summary counts them.
pub record Writes (May : Replies → Type 0) (form : Form) (old new : Option (List ℕ)) (before after : ℕ) (r : Result Summary RunFault) : Type 0 where
  pub replies : Replies
  pub may : May replies
  pub printed : Prints old new before after r (replies_text replies form)
  pub counted : IfOk r (λ s. s ≡ summary_of (replies_of replies.units.items))

-- What `run` answers, and what its sink took and how often it failed; `May` says which replies a project may be given. Without memory nothing is written.
unfoldable pub IsOutcome : (Replies → Type 0) → Form → Option (List ℕ) → Option (List ℕ) → ℕ → ℕ → Result Summary RunFault → Type 0
IsOutcome May form old new before after (Ok s) = Writes May form old new before after (Ok s)
IsOutcome May form old new before after (Err Memory) = (new ≡ old) × (after ≡ before)
IsOutcome May form old new before after (Err Write) = Writes May form old new before after (Err Write)
