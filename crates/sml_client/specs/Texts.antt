-- Texts that grow, and where memory may be refused.
use Rattle.std.specs.Prelude.{◌≡◌, ◌++◌, ◌⊎◌, ℕ, true, List}
use Rattle.std.specs.Str.Lossy.{utf8_lossy}
use Rattle.serde_json.specs.Data.{string}
use Rattle.serde_json.specs.Written.{compact_text}
use Rattle.sml_client.specs.declared.written.Text.{Text}

-- These bytes were added; or memory was refused, now or before.
abbrev pub Adds : Text → Text → List ℕ → Type 0
Adds old new added = ((new.bytes.items ≡ old.bytes.items ++ added) × (new.is_lost ≡ old.is_lost)) ⊎ (new.is_lost ≡ true)

-- bytes as a string of JSON; what is no UTF-8 is replaced
abbrev pub json_string : List ℕ → List ℕ
json_string bytes = compact_text (string (utf8_lossy bytes))
