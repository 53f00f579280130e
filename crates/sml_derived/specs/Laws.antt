-- Laws of the definitions.
use Rattle.std.specs.Prelude.{◌≡◌, ℕ, ◌<◌, ◌^◌, List, false, codes}
use Rattle.sml_lex.specs.Tokens.{is_alphanumeric, is_symbolic, is_star}
use Rattle.sml_lex.specs.Words.{is_text}
use Rattle.sml_lex.specs.declared.fault.Place.{Place}
use Rattle.sml_tree.specs.Expressions.{TypBind, DatBind, datatype_with}
use Rattle.sml_tree.specs.Heights.{dec_height}
use Rattle.sml_tree.specs.Withtype.{withtype_of}
use Rattle.sml_derived.specs.Words.{hidden}

-- No source spells a hidden variable: it is no identifier, alphanumeric or symbolic, and neither `*` nor `=`.
abbrev pub NoSourceSpells : Type 0
NoSourceSpells = (n : ℕ) → (is_alphanumeric (hidden n) ≡ false) × (is_symbolic (hidden n) ≡ false) × (is_star (hidden n) ≡ false) × (is_text (hidden n) (codes "=") ≡ false)

-- hidden variables with different numbers are different
abbrev pub HiddenDiffer : Type 0
HiddenDiffer = (m n : ℕ) → m < 2 ^ 64 → n < 2 ^ 64 → hidden m ≡ hidden n → m ≡ n

-- a declaration with `withtype` is as high as what it stands for
abbrev pub WithtypeKeepsItsHeight : Type 0
WithtypeKeepsItsHeight = (p : Place) (ds : List (DatBind Place)) (bs : List (TypBind Place)) → dec_height (datatype_with p ds bs) ≡ dec_height (withtype_of p ds bs)
