-- How a session ends.
use Rattle.std.proofs.Common.{◌≡◌, ℕ, List, ◌++◌, codes, Option, Ok, String, inl, inr, refl, string_bytes}
use Rattle.std.specs.Global.{Global}
use Rattle.sml_command.specs.CommandLine.{Ask, IsRequestOf}
use Rattle.sml_command.specs.declared.command_line.Asked.TheVariants.{Help, Refused}
use Rattle.sml_command.specs.declared.command_line.Request.{Request}
use Rattle.sml_reply.specs.declared.sink.OutFault.{OutFault}
use Rattle.sml_reply.specs.Sinks.{Prints}
use Rattle.sml_session.specs.declared.stops.Stop.{Stop}
use Rattle.sml_session.specs.Files.{Giving}
use Rattle.sml_session.specs.Sessions.{Answers, Ends, EndsRequest, MayAnswer, IsUnused, TookOrFailed, Use, used}
use Rattle.sml_session.specs.Stops.{reason, status_of}

-- with an answer
pub request_answered : (Gives : Giving) (r : Request) (out err : Use) (status : ℕ) → Answers (MayAnswer Gives (string_bytes r.project) r.then) r.form out status → IsUnused err → EndsRequest Gives r out err status
unfolding EndsRequest
request_answered Gives r out err status h quiet = inl (record { answer = h; quiet = quiet })

-- without one
pub request_stopped : (Gives : Giving) (r : Request) (out err : Use) (stop : Stop) (status : ℕ) → TookOrFailed err (codes "smlcheck" ++ reason stop) → status ≡ status_of stop → EndsRequest Gives r out err status
unfolding EndsRequest
request_stopped Gives r out err stop status said h = inr (record { stop = stop; said = said; status_is = h })

pub of_request : (Gives : Giving) (words : List (List ℕ)) (r : Request) (out err : Use) (status : ℕ) → IsRequestOf words r → EndsRequest Gives r out err status → Ends Gives words out err status
unfolding EndsRequest Ends
of_request Gives words r out err status asked (inl h) = inl (r, asked, h)
of_request Gives words r out err status asked (inr h) = inr (inl h)

-- before a request is known, or where its help can't be written
pub stopped : (Gives : Giving) (words : List (List ℕ)) (out err : Use) (stop : Stop) (status : ℕ) → TookOrFailed err (codes "smlcheck" ++ reason stop) → status ≡ status_of stop → Ends Gives words out err status
unfolding Ends
stopped Gives words out err stop status said h = inr (inl (record { stop = stop; said = said; status_is = h }))

-- with the help
pub helped : (Gives : Giving) (words : List (List ℕ)) (old new : Option (List ℕ)) (before after : ℕ) (err : Use) (text : String Global) (u : Unit {0}) → Ask words (Help text)
    → Prints {E = OutFault} old new before after (Ok u) (string_bytes text) → IsUnused err → Ends Gives words (used old new before after) err 0
unfolding Ends Prints
helped Gives words old new before after err text u asked written quiet = inr (inr (inl (record { text = text; asked = asked; written = written; quiet = quiet; status_is = refl })))

-- with a fault of the words
pub words_refused : (Gives : Giving) (words : List (List ℕ)) (out err : Use) (text : String Global) → Ask words (Refused text) → TookOrFailed err (string_bytes text) → IsUnused out → Ends Gives words out err 2
unfolding Ends
words_refused Gives words out err text asked said quiet = inr (inr (inr (record { text = text; asked = asked; said = said; quiet = quiet; status_is = refl })))
