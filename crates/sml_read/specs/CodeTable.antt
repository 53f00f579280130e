-- The rule that the next token asks for.
use Rattle.std.specs.Prelude.{ℕ, ◌+◌, map, List, [], ◌∷◌, Bool, not, ◌&&◌, ◌||◌, Option, Some, None, if◌then◌else◌}
use Rattle.sml_lex.specs.declared.token.Kind.{Kind}
use Rattle.sml_read.specs.declared.grammar.Part.{Part}
use Rattle.sml_read.specs.declared.grammar.Rule.{Rule}
use Rattle.sml_read.specs.Grammar.{right_side}
use Rattle.sml_read.specs.Parts.{part_of}
use Rattle.sml_read.specs.CodeAll.{all_kinds, rules_of}
use Rattle.sml_read.specs.Spelling.{begins_with, all_empty, side_begins_with}

-- whether the rule is the one to take before this kind
abbrev pub suits : Rule → Kind → Bool
suits r k = side_begins_with (right_side r) k || (all_empty (right_side r) && not (begins_with (part_of r) k))

abbrev pub first_to_suit : Kind → List Rule → Option Rule
first_to_suit k [] = None
first_to_suit k (r ∷ rs) = if suits r k then Some r else first_to_suit k rs

abbrev pub rule_for : Part → Kind → Option Rule
rule_for p k = first_to_suit k (rules_of p)

-- the rule by which a part stands for nothing
abbrev pub first_empty : List Rule → Option Rule
first_empty [] = None
first_empty (r ∷ rs) = if all_empty (right_side r) then Some r else first_empty rs

abbrev pub rule_at_end : Part → Option Rule
rule_at_end p = first_empty (rules_of p)

-- the rule for a part with this token after it, or none
abbrev pub rule_before : Part → Option Kind → Option Rule
rule_before p None = rule_at_end p
rule_before p (Some k) = rule_for p k

-- the place of the first rule to suit, in ASCII from 0 on, or a dot
abbrev pub cell_of : Kind → List Rule → ℕ → ℕ
cell_of k [] n = 46
cell_of k (r ∷ rs) n = if suits r k then n else cell_of k rs (n + 1)

abbrev pub row_of : Part → List ℕ
row_of p = map (λ k. cell_of k (rules_of p) 48) all_kinds
