-- That the tables say of parts what the rules alone say.
use Rattle.std.specs.Prelude.{◌≡◌, List, [], ◌∷◌, ◌++◌, true}
use Rattle.sml_lex.specs.declared.token.Kind.{Kind}
use Rattle.sml_read.specs.declared.grammar.Part.{Part}
use Rattle.sml_read.specs.declared.grammar.Symbol.{Symbol}
use Rattle.sml_read.specs.declared.grammar.Symbol.TheVariants.{Word, Of}
use Rattle.sml_read.specs.declared.grammar.Node.{Node}
use Rattle.sml_read.specs.declared.grammar.Node.TheVariants.{Leaf, Inner}
use Rattle.sml_read.specs.Grammar.{right_side}
use Rattle.sml_read.specs.Parts.{part_of, may_be_empty}
use Rattle.sml_read.specs.Spelling.{begins_with}

-- These nodes are trees of the symbols, one after another, and spell these tokens; a part may stop early.
abbrev pub Spells : List Node → List Symbol → List Kind → Type 0
Spells [] symbols [] = symbols ≡ []
Spells (Leaf ∷ nodes) (Word k ∷ symbols) (x ∷ tokens) = (k ≡ x) × Spells nodes symbols tokens
Spells (Inner r ∷ nodes) (Of p ∷ symbols) tokens = (part_of r ≡ p) × Spells nodes (right_side r ++ symbols) tokens
Spells [] symbols (x ∷ tokens) = ⊥
Spells (Leaf ∷ nodes) [] tokens = ⊥
Spells (Leaf ∷ nodes) (Word k ∷ symbols) [] = ⊥
Spells (Leaf ∷ nodes) (Of p ∷ symbols) tokens = ⊥
Spells (Inner r ∷ nodes) [] tokens = ⊥
Spells (Inner r ∷ nodes) (Word k ∷ symbols) tokens = ⊥

-- some tree of the part spells no token
abbrev pub SpellsNothing : Part → Type 0
SpellsNothing part = (nodes : List Node) × Spells nodes (Of part ∷ []) []

-- some tree of the part spells this token first
abbrev pub SpellsFirst : Part → Kind → Type 0
SpellsFirst part k = (nodes : List Node) × (tokens : List Kind) × Spells nodes (Of part ∷ []) (k ∷ tokens)

-- the tables of parts that may be empty and of beginnings are exact
pub record TablesAreExact : Type 0 where
  pub empty : (part : Part) → may_be_empty part ≡ true → SpellsNothing part
  pub only_empty : (part : Part) → SpellsNothing part → may_be_empty part ≡ true
  pub begins : (part : Part) (k : Kind) → begins_with part k ≡ true → SpellsFirst part k
  pub only_begins : (part : Part) (k : Kind) → SpellsFirst part k → begins_with part k ≡ true
