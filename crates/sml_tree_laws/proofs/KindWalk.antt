-- In a derivation each rule finds its parts.
use Rattle.std.proofs.Common.{◌≡◌, ℕ, List, Bool, true, false, refl}
use Rattle.std.specs.Prelude.{◌||◌}
use Rattle.std.proofs.lemmas.Bool.{false≢true}
use Rattle.sml_lex.specs.declared.fault.Place.{Place}
use Rattle.sml_lex.specs.declared.token.Kind.{Kind}
use Rattle.sml_lex.specs.declared.token.Kind.TheVariants as K
use Rattle.sml_read.specs.declared.grammar.Part.TheVariants as G
use Rattle.sml_read.specs.declared.grammar.Symbol.{Symbol}
use Rattle.sml_read.specs.Extents.{starts_of}
use Rattle.sml_phrases.specs.Phrases.{Phrase, first}
use Rattle.sml_bare.specs.Derivations.{word_phrase, phrases_of}
use Rattle.sml_tree_laws.specs.Kinds.{is_of_token, is_of_part, is_of, is_top, is_exp, is_declaration, IsMade, NoPartIsMadeUp}
use Rattle.sml_tree_laws.proofs.KindRules.{rule_made}
use Rattle.sml_tree_laws.proofs.PartWalk.{each_declared}

word_made : (k : Kind) (p : Place) (text : List ℕ) → is_of_token k (word_phrase k p text) ≡ true
word_made K.Alphanumeric p text = refl
word_made K.Symbolic p text = refl
word_made K.Star p text = refl
word_made K.Equals p text = refl
word_made K.TypeVariable p text = refl
word_made K.Numeral p text = refl
word_made K.ZeroNumeral p text = refl
word_made K.LongAlphanumeric p text = refl
word_made K.LongSymbolic p text = refl
word_made K.LongStar p text = refl
word_made K.Integer p text = refl
word_made K.WordConstant p text = refl
word_made K.RealConstant p text = refl
word_made K.StringConstant p text = refl
word_made K.CharacterConstant p text = refl
word_made _ p text = refl

abbrev IsOf : Symbol → Phrase → Type 0
IsOf x v = is_of x v ≡ true

-- a declaration

top_so : (v : Phrase) → is_of_part G.Top v ≡ true → is_declaration v ≡ true
top_so v h = go (is_top v) (is_exp v) h
  where
    go : (a b : Bool) → a ≡ true → (a || b) ≡ true
    go true b h = refl
    go false b h = absurd (false≢true h)

exp_so : (v : Phrase) → is_of_part G.Exp v ≡ true → is_declaration v ≡ true
exp_so v h = go (is_top v) (is_exp v) h
  where
    go : (a b : Bool) → b ≡ true → (a || b) ≡ true
    go true b h = refl
    go false b h = h

pub none_made_up : NoPartIsMadeUp
none_made_up unit tokens end tops decs fault trees =
    each_declared IsOf word_made rule_made IsMade
    (λ s nodes h each. (each, top_so (first (phrases_of s nodes (starts_of 0 nodes))) h))
    (λ s nodes h each. (each, exp_so (first (phrases_of s nodes (starts_of 0 nodes))) h))
    unit tokens end tops decs fault trees
