-- The bare declaration of a derivation: what each of its nodes makes, from the last to the first.
use Rattle.std.specs.Prelude.{ℕ, suc, ◌+◌, List, [], ◌∷◌, Bool, true, false, ◌&&◌, ◌==◌, Option, Some, None, drop, length, slice_get, slice_range, if◌then◌else◌}
use Rattle.std.specs.List.{before_first}
use Rattle.sml_lex.specs.declared.fault.Place.{Place}
use Rattle.sml_lex.specs.declared.token.Kind.{Kind}
use Rattle.sml_lex.specs.declared.token.Kind.TheVariants as K
use Rattle.sml_lex.specs.declared.token.Token.{Token}
use Rattle.sml_tree.specs.Structures.{TopDec}
use Rattle.sml_tree.specs.Heights.{top_height}
use Rattle.sml_tree.specs.declared.patterns.ConstantKind.TheVariants as C
use Rattle.sml_read.specs.declared.grammar.Rule.{Rule}
use Rattle.sml_read.specs.declared.grammar.Rule.TheVariants.{Declarations}
use Rattle.sml_read.specs.declared.grammar.DeclarationRule.{DeclarationRule}
use Rattle.sml_read.specs.declared.grammar.DeclarationRule.TheVariants.{ClauseMoreBar}
use Rattle.sml_read.specs.declared.grammar.Node.{Node}
use Rattle.sml_read.specs.declared.grammar.Node.TheVariants.{Leaf, Inner}
use Rattle.sml_read.specs.Grammar.{right_side}
use Rattle.sml_read.specs.Extents.{starts_of}
use Rattle.sml_fixity.specs.Shapes.{Shape}
use Rattle.sml_phrases.specs.Phrases.{Phrase, nothing, of_word, of_name, of_long, of_constant, first}
use Rattle.sml_phrases.specs.PhraseHeights.{is_low, low}
use Rattle.sml_bare.specs.RulePhrases.{rule_phrase, declaration}
use Rattle.sml_reach.specs.Fits.{Fit, Fitted}
use Rattle.sml_flaws.specs.Flawed.{begins_at, ends_at}
use Rattle.sml_reach.specs.Idents.{long_id}
use Rattle.sml_reach.specs.Places.{start_of}
use Rattle.sml_reach.specs.Places.{place_from}

-- what a token makes by its kind, its place and its bytes
abbrev pub word_phrase : Kind → Place → List ℕ → Phrase
word_phrase K.Alphanumeric p text = of_name (record { place = p; id = text })
word_phrase K.Symbolic p text = of_name (record { place = p; id = text })
word_phrase K.Star p text = of_name (record { place = p; id = text })
word_phrase K.Equals p text = of_name (record { place = p; id = text })
word_phrase K.TypeVariable p text = of_name (record { place = p; id = text })
word_phrase K.Numeral p text = of_name (record { place = p; id = text })
word_phrase K.ZeroNumeral p text = of_name (record { place = p; id = text })
word_phrase K.LongAlphanumeric p text = of_long (record { place = p; id = long_id text })
word_phrase K.LongSymbolic p text = of_long (record { place = p; id = long_id text })
word_phrase K.LongStar p text = of_long (record { place = p; id = long_id text })
word_phrase K.Integer p text = of_constant (record { kind = C.Integer; literal = text })
word_phrase K.WordConstant p text = of_constant (record { kind = C.Word; literal = text })
word_phrase K.RealConstant p text = of_constant (record { kind = C.Real; literal = text })
word_phrase K.StringConstant p text = of_constant (record { kind = C.String; literal = text })
word_phrase K.CharacterConstant p text = of_constant (record { kind = C.Character; literal = text })
word_phrase _ p text = of_word p

-- A declaration: the bytes of its unit, the tokens from its first one on, the number of that in the unit, and what its
-- sequences stand for.
pub record Source : Type 0 where
  pub unit : List ℕ
  pub tokens : List Token
  pub begun : ℕ
  pub fits : List Fit

-- the place of the n-th of these tokens, or of what comes after them, counted from the first
abbrev pub place_at : List ℕ → List Token → ℕ → Place
place_at unit tokens n = place_from unit (start_of tokens 0 0) (start_of tokens n 0)

abbrev pub token_phrase : List ℕ → Place → Option Token → Phrase
token_phrase unit p None = nothing
token_phrase unit p (Some token) = word_phrase token.kind p (slice_range unit token.span.start token.span.«end»)

-- what the sequence stands for that begins at a token of the unit
abbrev pub shape_from : List Fit → ℕ → Option Shape
shape_from [] token = None
shape_from (fit ∷ fits) token = if fit.token == token then Some fit.shape else shape_from fits token

-- how many tokens of a phrase stand before the sequence that it begins with: the head of a further clause stands
-- after `|`
abbrev pub before_sequence_in : DeclarationRule → ℕ
before_sequence_in ClauseMoreBar = 1
before_sequence_in _ = 0

abbrev pub before_sequence : Rule → ℕ
before_sequence (Declarations rule) = before_sequence_in rule
before_sequence _ = 0

-- what a phrase makes by its rule and its first token, before what is made after it
abbrev pub made_by : Source → Rule → ℕ → List Phrase → Phrase
made_by s rule n vs = rule_phrase rule (place_at s.unit s.tokens n) (shape_from s.fits (s.begun + (n + before_sequence rule))) vs

-- what is made from a node on, by its first token and what is made after it
abbrev pub phrases_from : Source → Node → ℕ → List Phrase → List Phrase
phrases_from s Leaf n vs = token_phrase s.unit (place_at s.unit s.tokens n) (slice_get s.tokens n) ∷ vs
phrases_from s (Inner rule) n vs = made_by s rule n vs ∷ drop (length (right_side rule)) vs

-- what is made by these nodes, each with the number of its first token
abbrev pub phrases_of : Source → List Node → List ℕ → List Phrase
phrases_of s [] starts = []
phrases_of s (node ∷ nodes) [] = []
phrases_of s (node ∷ nodes) (n ∷ starts) = phrases_from s node n (phrases_of s nodes starts)

-- whether what a node makes is within the limit of heights
abbrev pub is_low_at : Source → Node → ℕ → List Phrase → Bool
is_low_at s Leaf n vs = true
is_low_at s (Inner rule) n vs = is_low (made_by s rule n vs)

-- whether all that these nodes make is
abbrev pub are_low : Source → List Node → List ℕ → Bool
are_low s [] starts = true
are_low s (node ∷ nodes) [] = true
are_low s (node ∷ nodes) (n ∷ starts) = is_low_at s node n (phrases_of s nodes starts) && are_low s nodes starts

-- the declaration of these nodes, unless it is too high
abbrev pub top_if_low : TopDec Place → Bool → Option (TopDec Place)
top_if_low top false = None
top_if_low top true = if low (top_height top) then Some top else None

abbrev pub bare_dec : Source → List Node → Option (TopDec Place)
bare_dec s nodes =
    let starts = starts_of 0 nodes in
    top_if_low (declaration (place_at s.unit s.tokens 0) (first (phrases_of s nodes starts))) (are_low s nodes starts)

-- what the sequences of the first of these declarations stand for
abbrev pub first_fits : List Fitted → List Fit
first_fits [] = []
first_fits (fitted ∷ others) = fitted.fits

-- the declaration of these nodes, after so many tokens
abbrev pub bare_dec_at : List ℕ → List Token → ℕ → List Node → List Fitted → Option (TopDec Place)
bare_dec_at unit tokens n nodes fitted = bare_dec (record { unit = unit; tokens = drop n tokens; begun = n; fits = first_fits fitted }) nodes

-- The declarations of a derivation in order, each unless it is too high. So many tokens stand before these nodes, and
-- these declarations are left with what their sequences stand for.
abbrev pub bare_decs : List ℕ → List Token → ℕ → List Node → List Fitted → List (Option (TopDec Place))
bare_decs unit tokens n [] fitted = []
bare_decs unit tokens n (Leaf ∷ nodes) fitted = bare_decs unit tokens (suc n) nodes fitted
bare_decs unit tokens n (Inner rule ∷ nodes) fitted = if begins_at rule then bare_dec_at unit tokens n (before_first ends_at nodes) fitted ∷ bare_decs unit tokens n nodes (drop 1 fitted) else bare_decs unit tokens n nodes fitted

-- those before the first that is too high
abbrev pub before_none : {A : Type 0} → List (Option A) → List A
before_none [] = []
before_none (None ∷ xs) = []
before_none (Some x ∷ xs) = x ∷ before_none xs
