-- What the words of a command line ask for. Their first is the program's own name.
use Rattle.std.specs.Prelude.{◌≡◌, ◌⊎◌, List, [], ◌∷◌, Bool, true, false, Option, Some, None, codes, cond, map, unwrap_or}
use Rattle.std.specs.Borrow.{Bor}
use Rattle.std.specs.Option.{option_map}
use Rattle.std.specs.Str.{bytes_eq}
use Rattle.std.specs.String.{string_bytes}
use Rattle.clap.specs.Faults.{fault_of}
use Rattle.clap.specs.Kinds.{IsAmong}
use Rattle.clap.specs.Matches.{first_value, found_of, one_text}
use Rattle.clap.specs.Simple.{App, HasMatchesOf, new_app, new_rule, with_rule}
use Rattle.clap.specs.Walk.{Rule, Text}
use Rattle.clap.specs.declared.builder.action.ArgAction.TheVariants.{Set, SetTrue}
use Rattle.clap.specs.declared.builder.value_parser.ValueParser.{ValueParser}
use Rattle.clap.specs.declared.builder.value_parser.ValueParser.TheVariants.{Names}
use Rattle.clap.specs.declared.error.kind.ErrorKind.{ErrorKind}
use Rattle.clap.specs.declared.error.kind.ErrorKind.TheVariants.{DisplayHelp, DisplayVersion}
use Rattle.clap.specs.declared.parser.matches.ArgMatches.{ArgMatches}
use Rattle.sml_reply.specs.declared.form.Version.{Version}
use Rattle.sml_reply.specs.declared.form.Version.TheVariants.{One, Two}
use Rattle.sml_command.specs.declared.command_line.Request.{Request}
use Rattle.sml_command.specs.declared.command_line.Asked.{Asked}
use Rattle.sml_command.specs.declared.command_line.Asked.TheVariants.{Check, Help, Refused, Memory}

-- the switches, and the word for the project
abbrev pub warnings_rule : Rule
warnings_rule = record (new_rule (codes "warnings")) { long = Some (codes "warnings"); action = Some SetTrue }

abbrev pub reply_rule : ValueParser → Rule
reply_rule versions = record (new_rule (codes "reply")) { long = Some (codes "reply"); value_names = 1; parser = Some versions; defaults = codes "1" ∷ []; action = Some Set }

abbrev pub then_rule : Rule
then_rule = record (new_rule (codes "then")) { long = Some (codes "then"); value_names = 1; action = Some Set }

abbrev pub project_rule : Rule
project_rule = record (new_rule (codes "PROJECT")) { required = true; action = Some Set }

-- the command with them
abbrev pub smlcheck : ValueParser → App
smlcheck versions = with_rule (with_rule (with_rule (with_rule (new_app (codes "smlcheck")) warnings_rule) (reply_rule versions)) then_rule) project_rule

-- versions are `1` and `2`
abbrev pub AreVersions : ValueParser → Type 0
AreVersions versions = (names : Bor (List (Bor Text))) × (versions ≡ Names names) × (map (λ name. name.now) names.now ≡ codes "1" ∷ codes "2" ∷ [])

abbrev pub IsSmlcheck : App → Type 0
IsSmlcheck app = (versions : ValueParser) × AreVersions versions × (app ≡ smlcheck versions)

abbrev pub version_of : Option Text → Version
version_of (Some word) = cond (bytes_eq word (codes "2")) Two One
version_of None = One

-- a switch without a value is set
abbrev pub IsFlag : Option Text → Bool → Type 0
IsFlag found b = (found ≡ None → b ≡ false) × (found ≡ Some (codes "true") → b ≡ true) × (found ≡ Some (codes "false") → b ≡ false)

-- the request of what was found
pub record IsFound (m : ArgMatches) (r : Request) : Type 0 where
  pub project : string_bytes r.project ≡ unwrap_or (first_value (found_of m) (codes "PROJECT")) []
  pub second : option_map string_bytes r.then ≡ first_value (found_of m) (codes "then")
  pub version : r.form.version ≡ version_of (first_value (found_of m) (codes "reply"))
  pub warnings : IsFlag (one_text (found_of m) (codes "warnings")) r.form.warnings

-- A request is what `clap` finds in words that it takes.
pub record IsRequestOf (words : List Text) (r : Request) : Type 0 where
  pub app : App
  pub smlcheck : IsSmlcheck app
  pub matches : ArgMatches
  pub in_words : HasMatchesOf app words matches
  pub found : IsFound matches r

-- what it says is the help
abbrev pub IsShown : ErrorKind → Type 0
IsShown kind = (kind ≡ DisplayHelp) ⊎ (kind ≡ DisplayVersion)

-- words that it doesn't take have a fault of this kind
pub record HaveFault (words : List Text) (kind : ErrorKind) : Type 0 where
  pub app : App
  pub smlcheck : IsSmlcheck app
  pub among : IsAmong kind (fault_of app words)

-- what words ask for
abbrev pub Ask : List Text → Asked → Type 0
Ask words (Check r) = IsRequestOf words r
Ask words (Help text) = (kind : ErrorKind) × HaveFault words kind × IsShown kind
Ask words (Refused text) = (kind : ErrorKind) × HaveFault words kind × ¬ (IsShown kind)
Ask words Memory = Unit {0}

-- what is said of an error of this kind
abbrev pub IsSaid : ErrorKind → Asked → Type 0
IsSaid kind (Check r) = ⊥
IsSaid kind (Help text) = IsShown kind
IsSaid kind (Refused text) = ¬ (IsShown kind)
IsSaid kind Memory = Unit {0}
