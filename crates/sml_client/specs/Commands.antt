-- What the words of a command line ask for.
use Rattle.std.specs.Prelude.{◌≡◌, ◌⊎◌, ◌||◌, ℕ, Bool, true, false, not, List, Option, None, Some, codes, find}
use Rattle.std.specs.Str.{bytes_eq}
use Rattle.sml_client.specs.declared.command_line.Asked.{Asked}
use Rattle.sml_client.specs.declared.command_line.Asked.TheVariants.{Serve, Answer, Refused}
use Rattle.sml_client.specs.declared.command_line.TheConstants.{HELP, USAGE, VERSION}

-- the first word that is not `--stdio`
abbrev pub other_word : List (List ℕ) → Option (List ℕ)
other_word words = find (λ w. not (bytes_eq w (codes "--stdio"))) words

-- a word asks for the help
abbrev pub asks_help : List ℕ → Bool
asks_help w = bytes_eq w (codes "-h") || bytes_eq w (codes "--help")

-- a word asks for the version
abbrev pub asks_version : List ℕ → Bool
asks_version w = bytes_eq w (codes "-V") || bytes_eq w (codes "--version")

-- what a word asks for: the help, the version, or nothing that is known
abbrev pub IsAskedFor : List ℕ → Asked → Type 0
IsAskedFor w Serve = ⊥
IsAskedFor w (Answer text) = ((asks_help w ≡ true) × (text.now ≡ HELP.now)) ⊎ ((asks_version w ≡ true) × (text.now ≡ VERSION.now))
IsAskedFor w (Refused text) = (asks_help w ≡ false) × (asks_version w ≡ false) × (text.now ≡ USAGE.now)

-- what is asked for by the first word that is not `--stdio`, if there is one
abbrev pub IsAskedBy : Option (List ℕ) → Asked → Type 0
IsAskedBy None asked = asked ≡ Serve
IsAskedBy (Some w) asked = IsAskedFor w asked
