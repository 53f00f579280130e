-- How sessions end.
use Rattle.std.specs.Prelude.{◌≡◌, ◌⊎◌, ℕ, List, ◌++◌, codes, cond, Option, None, Some, Result}
use Rattle.std.specs.Io.KnownBytes.{Appends}
use Rattle.std.specs.List.{list_all}
use Rattle.std.specs.Global.{Global}
use Rattle.std.specs.declared.string.String.{String}
use Rattle.std.specs.String.{string_bytes}
use Rattle.sml_command.specs.CommandLine.{Ask, IsRequestOf}
use Rattle.sml_command.specs.declared.command_line.Asked.TheVariants.{Help, Refused}
use Rattle.sml_command.specs.declared.command_line.Request.{Request}
use Rattle.sml_projects.specs.Orders.{unit_texts}
use Rattle.sml_reply.specs.declared.form.Form.{Form}
use Rattle.sml_reply.specs.declared.sink.OutFault.{OutFault}
use Rattle.sml_reply.specs.Replies.{accepts}
use Rattle.sml_reply.specs.Sinks.{Prints}
use Rattle.sml_units.specs.declared.project.Replies.{Replies}
use Rattle.sml_units.specs.Checked.{MayReply}
use Rattle.sml_units.specs.Complete.{AreAllComplete}
use Rattle.sml_units.specs.Written.{replies_of, replies_text}
use Rattle.sml_session.specs.declared.files.Listed.{Listed}
use Rattle.sml_session.specs.declared.stops.Stop.{Stop}
use Rattle.sml_session.specs.Files.{Giving, IsRead}
use Rattle.sml_session.specs.Stops.{reason, status_of}

-- a sink before and after: the bytes that it had taken, where they are known, and how many of its calls had failed
pub record Use : Type 0 where
  pub old : Option (List ℕ)
  pub new : Option (List ℕ)
  pub before : ℕ
  pub after : ℕ

abbrev pub used : Option (List ℕ) → Option (List ℕ) → ℕ → ℕ → Use
used old new before after = record { old = old; new = new; before = before; after = after }

-- all of a text was taken
abbrev pub Took : Use → List ℕ → Type 0
Took u text = Appends u.old u.new text × (u.after ≡ u.before)

-- nothing was asked of the sink
abbrev pub IsUnused : Use → Type 0
IsUnused u = (u.new ≡ u.old) × (u.after ≡ u.before)

-- a text was taken, or a beginning of it until a call failed
abbrev pub TookOrFailed : Use → List ℕ → Type 0
TookOrFailed u text = (said : Result (Unit {0}) OutFault) × Prints u.old u.new u.before u.after said text

-- 0 where all declarations were accepted, or else 1
abbrev pub status_after : Replies → ℕ
status_after rs = cond (list_all accepts (replies_of rs.units.items)) 0 1

-- replies that may be given were written, all of them, and the status says whether they accept
pub record Answers (May : Replies → Type 0) (form : Form) (out : Use) (status : ℕ) : Type 0 where
  pub replies : Replies
  pub may : May replies
  pub written : Took out (replies_text replies form)
  pub status_is : status ≡ status_after replies

-- The replies to the project of a project file. Those to a second one, which is checked again after it, are one to each
-- declaration and to each last fault of its units, whatever was kept.
abbrev pub MayAnswer : Giving → List ℕ → Option (String Global) → Replies → Type 0
MayAnswer Gives path None rs = (l : Listed) × IsRead Gives path l × MayReply l.project rs
MayAnswer Gives path (Some second) rs = (l : Listed) × IsRead Gives path l × ((k : Listed) × IsRead Gives (string_bytes second) k × AreAllComplete (unit_texts k.project) rs.units.items)

-- the answer to a request
pub record Checks (Gives : Giving) (request : Request) (out err : Use) (status : ℕ) : Type 0 where
  pub answer : Answers (MayAnswer Gives (string_bytes request.project) request.then) request.form out status
  pub quiet : IsUnused err

-- why there is none, which is said after the program's name
pub record Stops (err : Use) (status : ℕ) : Type 0 where
  pub stop : Stop
  pub said : TookOrFailed err (codes "smlcheck" ++ reason stop)
  pub status_is : status ≡ status_of stop

-- the help was written, for which the words ask
pub record Helps (words : List (List ℕ)) (out err : Use) (status : ℕ) : Type 0 where
  pub text : String Global
  pub asked : Ask words (Help text)
  pub written : Took out (string_bytes text)
  pub quiet : IsUnused err
  pub status_is : status ≡ 0

-- the words of the command line have a fault, of which alone something is said
pub record Refuses (words : List (List ℕ)) (out err : Use) (status : ℕ) : Type 0 where
  pub text : String Global
  pub asked : Ask words (Refused text)
  pub said : TookOrFailed err (string_bytes text)
  pub quiet : IsUnused out
  pub status_is : status ≡ 2

-- the answer to a request, or why there is none
unfoldable pub EndsRequest : Giving → Request → Use → Use → ℕ → Type 0
EndsRequest Gives request out err status = Checks Gives request out err status ⊎ Stops err status

-- how a session ends, with its status: by the request that the words make, or otherwise
unfoldable pub Ends : Giving → List (List ℕ) → Use → Use → ℕ → Type 0
Ends Gives words out err status = ((request : Request) × IsRequestOf words request × Checks Gives request out err status) ⊎ (Stops err status ⊎ (Helps words out err status ⊎ Refuses words out err status))
