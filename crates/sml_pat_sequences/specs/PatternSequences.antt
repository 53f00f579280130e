-- What a sequence of atomic patterns stands for: the pattern that its steps build on a stack, with the types after it.
-- Each atomic pattern is used once. What no right sequence leads to (an operand that lacks, a function that is no
-- identifier, several patterns at the end) stands for a pattern with all the parts that there are.
use Rattle.std.specs.Prelude.{ℕ, Bool, false, if◌then◌else◌, nat_eq, List, [], ◌∷◌, get_or, set, drop, Option, Some}
use Rattle.sml_lex.specs.declared.fault.Place.{Place}
use Rattle.sml_lex.specs.Faults.{first_place}
use Rattle.sml_tree.specs.Names.{Name}
use Rattle.sml_tree.specs.Types.{Tys, no_ty, and_ty}
use Rattle.sml_tree.specs.Patterns.{Pat, Pats, wildcard, pat_constant, pat_name, pat_row, pat_tuple, pat_bracket, pat_apply, pat_typed, pat_as, no_pat, and_pat}
use Rattle.sml_fixity.specs.declared.sequences.Step.{Step}
use Rattle.sml_fixity.specs.declared.sequences.Step.TheVariants.{Push, Apply, Combine}
use Rattle.sml_derived.specs.Derived.{pat_pair, pat_infix}
use Rattle.sml_fixity.specs.Shapes.{Shape, tree}

-- the place of a pattern's first token
abbrev pub pat_place : {P : Type 0} → Pat P → P
pat_place (wildcard p) = p
pat_place (pat_constant p c) = p
pat_place (pat_name p x) = p
pat_place (pat_row p fs flexible) = p
pat_place (pat_tuple p qs) = p
pat_place (pat_bracket p q) = p
pat_place (pat_apply p c q) = p
pat_place (pat_typed p q t) = p
pat_place (pat_as p x t q) = p

-- the pattern that stands for one that lacks
abbrev pub no_operand : Pat Place
no_operand = pat_tuple first_place no_pat

-- patterns as a list
abbrev pub list_of_pats : {P : Type 0} → Pats P → List (Pat P)
list_of_pats no_pat = []
list_of_pats (and_pat q qs) = q ∷ list_of_pats qs

-- the identifier that an atomic pattern is, as an operator
abbrev pub operator_of : Pat Place → Name Place
operator_of (pat_name p x) = record { place = x.place; id = x.id.last }
operator_of _ = record { place = first_place; id = [] }

-- two patterns as one
abbrev pub paired : Pat Place → Pat Place → Pat Place
paired a b = pat_pair (pat_place a) a b

-- `f x`
abbrev pub applied : Pat Place → Pat Place → Pat Place
applied (pat_name p c) x = pat_apply p c x
applied f x = paired f x

-- `a f b`
abbrev pub combined : Name Place → Pat Place → Pat Place → Pat Place
combined f a b = pat_infix (pat_place a) f a b

-- the atomic patterns that are not yet used, each at its index, and the patterns on the stack, the topmost first
pub record Building : Type 0 where
  pub atoms : List (Pat Place)
  pub stack : List (Pat Place)

abbrev pub atom : ℕ → Building → Pat Place
atom i b = get_or b.atoms i no_operand

abbrev pub without : ℕ → Building → List (Pat Place)
without i b = set b.atoms i no_operand

-- the n-th pattern from the top of the stack
abbrev pub operand : ℕ → Building → Pat Place
operand n b = get_or b.stack n no_operand

abbrev pub step : Step → Building → Building
step (Push i) b = record { atoms = without i b; stack = atom i b ∷ b.stack }
step Apply b = record { atoms = b.atoms; stack = applied (operand 1 b) (operand 0 b) ∷ drop 2 b.stack }
step (Combine i) b = record { atoms = without i b; stack = combined (operator_of (atom i b)) (operand 1 b) (operand 0 b) ∷ drop 2 b.stack }

-- a pattern together with the others of a stack
abbrev pub joined : Pat Place → List (Pat Place) → Pat Place
joined q [] = q
joined q (r ∷ rs) = joined (paired r q) rs

-- the pattern that some steps build
abbrev pub pat_of_steps : List Step → Building → Pat Place
pat_of_steps [] b = joined (operand 0 b) (drop 1 b.stack)
pat_of_steps (s ∷ ss) b = pat_of_steps ss (step s b)

-- a pattern and the types after its colons
abbrev pub typed_by : Place → Pat Place → Tys Place → Pat Place
typed_by p q no_ty = q
typed_by p q (and_ty t ts) = typed_by p (pat_typed p q t) ts

abbrev pub shaped : Option Shape → Pats Place → Pat Place
shaped (Some (tree steps)) qs = pat_of_steps steps (record { atoms = list_of_pats qs; stack = [] })
shaped _ qs = no_operand

abbrev pub sequence_pat : Option Shape → Pats Place → Tys Place → Pat Place
sequence_pat shape qs ts = typed_by (pat_place (shaped shape qs)) (shaped shape qs) ts

-- whether steps begin with the first atomic pattern
abbrev pub first_pushed : List Step → Bool
first_pushed (Push i ∷ ss) = nat_eq i 0
first_pushed _ = false

abbrev pub begins : Option Shape → Bool
begins (Some (tree steps)) = first_pushed steps
begins _ = false

-- a sequence whose first pattern is in round brackets: this pattern alone where the steps do not begin with it
abbrev pub round_sequence : Option Shape → Pat Place → Pats Place → Tys Place → Pat Place
round_sequence shape q qs ts = if begins shape then sequence_pat shape (and_pat q qs) ts else q
