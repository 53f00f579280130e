-- The program's names and values as those of the definitions.
use Rattle.std.specs.Prelude.{◌≡◌, Option, Some, None, unwrap_or}
use Rattle.std.specs.Str.{bytes_eq}
use Rattle.indexmap.specs.IndexMap.{get_by}
use Rattle.sml_tree.specs.Trees.{LongId}
use Rattle.sml_patterns.specs.declared.names.Meaning.{Meaning}
use Rattle.sml_patterns.specs.declared.names.Meaning.TheVariants as M
use Rattle.sml_patterns.specs.declared.names.Names.{Names}
use Rattle.sml_narrowing.specs.declared.pattern.Value as V
use Rattle.sml_narrowing.specs.Plain.{Value}
use Rattle.sml_narrowing.specs.Views.{value_of}
use Rattle.sml_patterns.specs.Stands.{long_text}

-- what a long identifier means; one that isn't known is a variable
abbrev pub meanings : Names → LongId → Meaning
meanings names x = unwrap_or (get_by (λ k. bytes_eq (long_text x) k.items) names.meanings) M.Variable

-- the program found this value
abbrev pub IsSomeValue : Option V.Value → Value → Type 0
IsSomeValue None v = ⊥
IsSomeValue (Some u) v = value_of u ≡ v
