-- What a long identifier means after one was given its meaning.
use Rattle.std.proofs.Common.{◌≡◌, ℕ, List, if◌then◌else◌, Vec, ap, ◌∙◌}
use Rattle.std.specs.Prelude.{unwrap_or}
use Rattle.std.specs.Global.{Global}
use Rattle.std.specs.Map.{lookup}
use Rattle.std.specs.Str.{bytes_eq}
use Rattle.indexmap.specs.IndexMap.{insert_entry}
use Rattle.sml_tree.proofs.Tables as tables
use Rattle.sml_tree.proofs.Tables.{unwrapped}
use Rattle.sml_patterns.specs.declared.names.Meaning.{Meaning}
use Rattle.sml_patterns.specs.declared.names.Meaning.TheVariants as M

abbrev Entry : Type 0
Entry = Vec ℕ Global × Meaning

abbrev meaning : List ℕ → List Entry → Meaning
meaning t es = unwrap_or (lookup (λ (q : Vec ℕ Global). bytes_eq t q.items) es) M.Variable

pub given : (old new : List Entry) (k : Vec ℕ Global) (m : Meaning) (s t : List ℕ) → new ≡ insert_entry (λ p q. bytes_eq p.items q.items) old k m → k.items ≡ s → meaning t new ≡ (if bytes_eq t s then m else meaning t old)
given old new k m s t i j =
    ap (meaning t) i ∙ ap (λ o. unwrap_or o M.Variable) (tables.given (λ v. v.items) t old k m) ∙ unwrapped (bytes_eq t k.items) m M.Variable (lookup (λ (q : Vec ℕ Global). bytes_eq t q.items) old)
    ∙ ap (λ x. if bytes_eq t x then m else meaning t old) j
