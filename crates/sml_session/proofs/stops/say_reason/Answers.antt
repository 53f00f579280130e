use Rattle.std.proofs.Common.{ap, sym, ◌∙◌, ◌++◌, codes}
use Rattle.sml_reply.proofs.Sinks.{same_text}
use Rattle.sml_session.specs.Stops.{reason}
use Rattle.sml_session.proofs.stops.say_reason.Goals as goal

pub returns-in-Unreadable : goal.returns-in-Unreadable
returns-in-Unreadable g c =
    same_text _ _ _ _ _ _ _ (ap (λ l. codes ": cannot read " ++ (l ++ codes "\n")) c.as_bytes.ensures.value ∙ ap reason (sym c.in-Unreadable.is)) c.write_each.ensures

pub returns-in-Write : goal.returns-in-Write
returns-in-Write g c = same_text _ _ _ _ _ _ _ (ap reason (sym c.in-Write.is)) c.write_all.ensures

pub returns-in-Memory : goal.returns-in-Memory
returns-in-Memory g c = same_text _ _ _ _ _ _ _ (ap reason (sym c.in-Memory.is)) c.write_all-in-Memory.ensures
