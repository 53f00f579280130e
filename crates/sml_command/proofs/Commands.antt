-- The command line with its switches.
use Rattle.std.proofs.Common.{◌≡◌, ◌⊎◌, List, Result, Ok, Err, IfErr, IfOk, true, false, codes, ap, sym, subst, inl, inr, ◌∙◌}
use Rattle.std.specs.declared.alloc.AllocError.{AllocError}
use Rattle.std.specs.Result.{IsErrAnd}
use Rattle.clap.specs.Built.{AddsArg}
use Rattle.clap.specs.Faults.{fault_of, is_simple_and_free}
use Rattle.clap.specs.Kinds.{HasKind, IsAmong}
use Rattle.clap.specs.Simple.{App, app_of, new_app, with_rule}
use Rattle.clap.specs.Values.{kind_of}
use Rattle.clap.specs.Walk.{Rule, Text, rule_of}
use Rattle.clap.specs.declared.builder.arg.Arg.{Arg}
use Rattle.clap.specs.declared.builder.command.Command.{Command}
use Rattle.clap.specs.declared.error.Error.{Error}
use Rattle.clap.specs.declared.error.kind.ErrorKind.{ErrorKind}
use Rattle.clap.specs.declared.error.kind.ErrorKind.TheVariants.{OutOfMemory}
use Rattle.clap.specs.declared.builder.value_parser.ValueParser.{ValueParser}
use Rattle.sml_command.specs.declared.command_line.Asked.{Asked}
use Rattle.sml_command.specs.declared.command_line.Asked.TheVariants.{Check, Help, Refused, Memory}
use Rattle.sml_command.specs.declared.command_line.Request.{Request}
use Rattle.sml_command.specs.CommandLine.{AreVersions, Ask, HaveFault, IsSaid, IsSmlcheck, project_rule, reply_rule, then_rule, warnings_rule}

-- one more switch or word
pub added : (old : Command) (a : Arg) (new : Command) (app : App) (rule : Rule) → AddsArg old a new → app_of old ≡ app → rule_of a ≡ rule → a.global ≡ false → app_of new ≡ with_rule app rule
added old a new app rule h e f local = h.shape local ∙ (λ i. with_rule (e i) (f i))

-- all of them
pub all_added : (old : Command) (a : Arg) (r : Result Command AllocError) (versions : ValueParser) → AreVersions versions
    → app_of old ≡ with_rule (with_rule (with_rule (new_app (codes "smlcheck")) warnings_rule) (reply_rule versions)) then_rule → rule_of a ≡ project_rule → a.global ≡ false
    → IfOk r (λ new. AddsArg old a new) → IfOk r (λ c. IsSmlcheck (app_of c))
all_added old a (Err e) versions are app rule local h = tt
all_added old a (Ok new) versions are app rule local h = (versions, are, added old a new _ _ h app rule local)

-- the kinds of faults of this command line are told
told : (app : App) → IsSmlcheck app → is_simple_and_free app ≡ true
told app h = ap is_simple_and_free h.2

-- the fault of words that aren't taken
pub faulted : (words : List Text) (app : App) (e : Error) (r : Result Request Error) → IsSmlcheck app → (is_simple_and_free app ≡ true → HasKind (fault_of app words) e) → IsErrAnd r (λ x. x ≡ e)
    → IfErr r (λ x. (kind_of x ≡ OutOfMemory) ⊎ HaveFault words (kind_of x))
faulted words app e (Ok q) is h same = absurd same
faulted words app e (Err x) is h same =
    elim (h (told app is)) [
      | inl memory ↦ inl (ap kind_of same ∙ memory)
      | inr among ↦ inr (record { app = app; smlcheck = is; among = subst (λ k. IsAmong k (fault_of app words)) (sym (ap kind_of same)) among })
    ]

-- what is said of words that aren't taken
said_of : (words : List Text) (kind : ErrorKind) (a : Asked) → HaveFault words kind → IsSaid kind a → Ask words a
said_of words kind (Check r) h said = absurd said
said_of words kind (Help text) h said = (kind, h, said)
said_of words kind (Refused text) h said = (kind, h, said)
said_of words kind Memory h said = tt

pub not_taken : (words : List Text) (kind : ErrorKind) (a : Asked) → (kind ≡ OutOfMemory) ⊎ HaveFault words kind → IsSaid kind a → (kind ≡ OutOfMemory → a ≡ Memory) → Ask words a
not_taken words kind a (inl e) said memory = subst (Ask words) (sym (memory e)) tt
not_taken words kind a (inr h) said memory = said_of words kind a h said
