-- The text of a stored reply, with its warnings if they are asked for.
use Rattle.std.specs.Prelude.{ℕ, Bool, true, false, List, [], ◌++◌, cond, Option, Some, None, codes, decimal, map}
use Rattle.sml_lex.specs.declared.fault.Warning.{Warning}
use Rattle.sml_lex.specs.Faults.{fault_of}
use Rattle.sml_texts.specs.Text.{fault_text, warning_text}
use Rattle.sml_reply.specs.Sinks.{in_turn}
use Rattle.sml_reply.specs.declared.form.Form.{Form}
use Rattle.sml_reply.specs.declared.form.Version.{Version}
use Rattle.sml_reply.specs.declared.form.Version.TheVariants.{One, Two}
use Rattle.sml_reply.specs.declared.reply.AcceptedReply.{AcceptedReply}
use Rattle.sml_reply.specs.declared.reply.RefusedReply.{RefusedReply}
use Rattle.sml_reply.specs.declared.reply.Reply.{Reply}
use Rattle.sml_reply.specs.declared.reply.Reply.TheVariants.{Accepted, Refused}

abbrev pub warnings_text : List Warning → List ℕ
warnings_text ws = in_turn (map warning_text ws)

unfoldable pub refusal_text : RefusedReply → List ℕ
refusal_text r = decimal r.number ++ fault_text (fault_of r.fault)

-- the lines of what a declaration binds; there are no second ones where they are the same
abbrev pub version_lines : AcceptedReply → Version → List ℕ
version_lines r One = r.lines.items
version_lines r Two = elim r.second [ Some v ↦ v.items | None ↦ r.lines.items ]

-- the text without warnings
abbrev pub version_text : AcceptedReply → Version → List ℕ
version_text r version = decimal r.number ++ (codes " ok\n" ++ version_lines r version)

-- version 1
unfoldable pub reply_text : Reply → Bool → List ℕ
reply_text (Accepted r) asked = version_text r One ++ cond asked (warnings_text r.warnings.items) []
reply_text (Refused r) asked = refusal_text r

unfoldable pub form_text : Reply → Form → List ℕ
form_text (Accepted r) form = version_text r form.version ++ cond form.warnings (warnings_text r.warnings.items) []
form_text (Refused r) form = refusal_text r

abbrev pub warnings_of : Reply → List Warning
warnings_of (Accepted r) = r.warnings.items
warnings_of (Refused r) = []

abbrev pub accepts : Reply → Bool
accepts (Accepted r) = true
accepts (Refused r) = false

-- the number with which the text begins
abbrev pub number_of : Reply → ℕ
number_of (Accepted r) = r.number
number_of (Refused r) = r.number
