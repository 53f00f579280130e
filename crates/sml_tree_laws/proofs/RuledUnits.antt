-- In the declarations of a unit each match has a rule.
use Rattle.std.proofs.Common.{◌≡◌, ℕ, zero, suc, ◌+◌, ◌<◌, List, [], ◌∷◌, Bool, true, false, Option, Some, None, IfSome, length, take, drop, refl, sym, ◌∙◌, subst, arith}
use Rattle.std.specs.Prelude.{if◌then◌else◌}
use Rattle.std.specs.List.{All, before_first}
use Rattle.std.proofs.lemmas.Bool.{false≢true, ltb-true}
use Rattle.std.proofs.lemmas.List.Elements.{All-nil, All-cons}
use Rattle.sml_lex.specs.declared.fault.Place.{Place}
use Rattle.sml_lex.specs.declared.token.Kind.{Kind}
use Rattle.sml_lex.specs.declared.token.Kind.TheVariants as K
use Rattle.sml_lex.specs.declared.token.Token.{Token}
use Rattle.sml_tree.specs.Heights.{top_height}
use Rattle.sml_tree.specs.Structures.{TopDec}
use Rattle.sml_fixity.specs.Shapes.{Shape}
use Rattle.sml_read.specs.declared.grammar.Part.{Part}
use Rattle.sml_read.specs.declared.grammar.Symbol.{Symbol}
use Rattle.sml_read.specs.declared.grammar.Symbol.TheVariants.{Word, Of}
use Rattle.sml_read.specs.declared.grammar.Rule.{Rule}
use Rattle.sml_read.specs.declared.grammar.Rule.TheVariants as G
use Rattle.sml_read.specs.declared.grammar.Node.{Node}
use Rattle.sml_read.specs.declared.grammar.Node.TheVariants.{Leaf, Inner}
use Rattle.sml_read.specs.Grammar.{right_side}
use Rattle.sml_read.specs.Parts.{part_of}
use Rattle.sml_read.specs.Extents.{starts_of}
use Rattle.sml_read.proofs.Tables.{each_rule, implies, implied}
use Rattle.sml_phrases.specs.Phrases.{Phrase, of_exp, first, at}
use Rattle.sml_phrases.specs.PhraseHeights.{low}
use Rattle.sml_reach.specs.Fits.{Fitted}
use Rattle.sml_reach.specs.Reach.{before_misfit, up_to}
use Rattle.sml_flaws.specs.Flawed.{begins_at, ends_at}
use Rattle.sml_bare.specs.RulePhrases.{rule_phrase, declaration}
use Rattle.sml_bare.specs.Derivations.{Source, word_phrase, place_at, phrases_of, are_low, top_if_low, bare_dec, bare_dec_at, bare_decs, before_none, first_fits}
use Rattle.sml_tree_laws.specs.Kinds.{WhereBegun}
use Rattle.sml_tree_laws.specs.Matches.{TopRuled, MatchesHaveRules}
use Rattle.sml_tree_laws.proofs.NoExpressions.{EachPart, name_free, pattern_free, type_free, signature_free, specification_free}
use Rattle.sml_tree_laws.proofs.PartWalk.{AllOf, EachDeclared, each_declared}
use Rattle.sml_tree_laws.proofs.RuledPhrases.{PhraseRuled, free_ruled, top_ruled}
use Rattle.sml_tree_laws.proofs.RuledExpressions.{Begun, expression_begun, expression_ruled}
use Rattle.sml_tree_laws.proofs.RuledDeclarations.{declaration_ruled}
use Rattle.sml_tree_laws.proofs.RuledModules.{structure_ruled, unit_ruled}

abbrev IsRuled : Symbol → Phrase → Type 0
IsRuled x v = PhraseRuled v × Begun x v

-- the parts of a phrase

parts_ruled : (symbols : List Symbol) (n : ℕ) (vs : List Phrase) → AllOf IsRuled symbols n vs → (k : ℕ) → k < length symbols → PhraseRuled (at vs (n + k))
parts_ruled [] n vs h k l = absurd (omega (arith, l))
parts_ruled (x ∷ symbols) n vs h zero l = subst (λ m. PhraseRuled (at vs m)) (let e : n ≡ n + 0 = omega arith in e) h.0.0
parts_ruled (x ∷ symbols) n vs h (suc k) l =
    subst (λ m. PhraseRuled (at vs m)) (let e : suc n + k ≡ n + suc k = omega arith in e) (parts_ruled symbols (suc n) vs h.1 k (omega (arith, l)))

parts_begun : (symbols : List Symbol) (n : ℕ) (vs : List Phrase) → AllOf IsRuled symbols n vs → AllOf Begun symbols n vs
parts_begun [] n vs h = tt
parts_begun (x ∷ symbols) n vs h = (h.0.1, parts_begun symbols (suc n) vs h.1)

-- only rules of expressions make matches

abbrev is_match : Part → Bool
is_match Part.Match = true
is_match Part.HandleMore = true
is_match _ = false

abbrev is_expression : Rule → Bool
is_expression (G.Expressions rule) = true
is_expression _ = false

no_match : (p : Part) (v : Phrase) → (is_match p ≡ true → ⊥) → Begun (Of p) v
no_match Part.Match v h = absurd (h refl)
no_match Part.HandleMore v h = absurd (h refl)
no_match _ v h = tt

expressions_so : (r : Rule) → is_match (part_of r) ≡ true → is_expression r ≡ true
expressions_so r = implied _ _ (each_rule (λ r. implies (is_match (part_of r)) (is_expression r)) refl r)

others_begun : (r : Rule) (p : Place) (s : Option Shape) (vs : List Phrase) → is_expression r ≡ false → Begun (Of (part_of r)) (rule_phrase r p s vs)
others_begun r p s vs e = no_match (part_of r) (rule_phrase r p s vs) (λ h. false≢true (sym e ∙ expressions_so r h))

-- what a token and a rule make

word_ruled : (k : Kind) (p : Place) (text : List ℕ) → IsRuled (Word k) (word_phrase k p text)
word_ruled K.Alphanumeric p text = (tt, tt)
word_ruled _ p text = (tt, tt)

by_rule : (r : Rule) (p : Place) (s : Option Shape) (vs : List Phrase) → EachPart PhraseRuled r vs → AllOf Begun (right_side r) 0 vs → IsRuled (Of (part_of r)) (rule_phrase r p s vs)
by_rule (G.Names rule) p s vs h b = (name_free PhraseRuled free_ruled rule p vs h, others_begun (G.Names rule) p s vs refl)
by_rule (G.Units rule) p s vs h b = (unit_ruled rule p vs h, others_begun (G.Units rule) p s vs refl)
by_rule (G.Structures rule) p s vs h b = (structure_ruled rule p vs h, others_begun (G.Structures rule) p s vs refl)
by_rule (G.Signatures rule) p s vs h b = (signature_free PhraseRuled free_ruled rule p vs h, others_begun (G.Signatures rule) p s vs refl)
by_rule (G.Specifications rule) p s vs h b = (specification_free PhraseRuled free_ruled rule p vs h, others_begun (G.Specifications rule) p s vs refl)
by_rule (G.Declarations rule) p s vs h b = (declaration_ruled rule p s vs h, others_begun (G.Declarations rule) p s vs refl)
by_rule (G.Expressions rule) p s vs h b = (expression_ruled rule p s vs h b, expression_begun rule p s vs b)
by_rule (G.Patterns rule) p s vs h b = (pattern_free PhraseRuled free_ruled rule p s vs h, others_begun (G.Patterns rule) p s vs refl)
by_rule (G.Types rule) p s vs h b = (type_free PhraseRuled free_ruled rule p vs h, others_begun (G.Types rule) p s vs refl)

rule_ruled : (r : Rule) (p : Place) (s : Option Shape) (vs : List Phrase) → AllOf IsRuled (right_side r) 0 vs → IsRuled (Of (part_of r)) (rule_phrase r p s vs)
rule_ruled r p s vs h =
    by_rule r p s vs
    (λ k b. subst (λ m. PhraseRuled (at vs m)) (let e : 0 + k ≡ k = omega arith in e) (parts_ruled (right_side r) 0 vs h k (ltb-true k (length (right_side r)) b)))
    (parts_begun (right_side r) 0 vs h)

-- a declaration

declared : (p : Place) (v : Phrase) → PhraseRuled v → TopRuled (declaration p v)
declared p (of_exp e) h = ((h, tt), tt)
declared p v h = top_ruled v h

abbrev IsDecRuled : Source → List Node → Type 0
IsDecRuled s nodes = IfSome (bare_dec s nodes) TopRuled

low_ruled : (d : TopDec Place) (b : Bool) → TopRuled d → IfSome (top_if_low d b) TopRuled
low_ruled d false h = tt
low_ruled d true h = by_height (low (top_height d))
  where
    by_height : (b : Bool) → IfSome (if b then Some d else None) TopRuled
    by_height true = h
    by_height false = tt

dec_ruled : (s : Source) (nodes : List Node) → PhraseRuled (first (phrases_of s nodes (starts_of 0 nodes))) → IsDecRuled s nodes
dec_ruled s nodes h =
    let p = place_at s.unit s.tokens 0 in
    let v = first (phrases_of s nodes (starts_of 0 nodes)) in
    low_ruled (declaration p v) (are_low s nodes (starts_of 0 nodes)) (declared p v h)

-- the declarations of a unit, one after the other

abbrev EachRuled : List (Option (TopDec Place)) → Type 0
EachRuled [] = Unit {0}
EachRuled (d ∷ ds) = IfSome d TopRuled × EachRuled ds

module _ (unit : List ℕ) (tokens : List Token) where
  each_ruled : (nodes : List Node) (n : ℕ) (fitted : List Fitted) → EachDeclared IsDecRuled unit tokens n nodes fitted → EachRuled (bare_decs unit tokens n nodes fitted)
  each_ruled [] n fitted h = tt
  each_ruled (Leaf ∷ nodes) n fitted h = each_ruled nodes (suc n) fitted h
  each_ruled (Inner rule ∷ nodes) n fitted h = go (begins_at rule) (each_ruled nodes n (drop 1 fitted)) (each_ruled nodes n fitted) h
    where
      go : (b : Bool) → (EachDeclared IsDecRuled unit tokens n nodes (drop 1 fitted) → EachRuled (bare_decs unit tokens n nodes (drop 1 fitted)))
          → (EachDeclared IsDecRuled unit tokens n nodes fitted → EachRuled (bare_decs unit tokens n nodes fitted))
          → WhereBegun b
          (IsDecRuled (record { unit = unit; tokens = drop n tokens; begun = n; fits = first_fits fitted }) (before_first ends_at nodes) × EachDeclared IsDecRuled unit tokens n nodes (drop 1 fitted))
          (EachDeclared IsDecRuled unit tokens n nodes fitted)
          → EachRuled (if b then bare_dec_at unit tokens n (before_first ends_at nodes) fitted ∷ bare_decs unit tokens n nodes (drop 1 fitted) else bare_decs unit tokens n nodes fitted)
      go true more same h = (h.0, more h.1)
      go false more same h = same h

take_ruled : (n : ℕ) (ds : List (Option (TopDec Place))) → EachRuled ds → EachRuled (take n ds)
take_ruled zero ds h = tt
take_ruled (suc n) [] h = tt
take_ruled (suc n) (d ∷ ds) h = (h.0, take_ruled n ds h.1)

up_to_ruled : (o : Option ℕ) (ds : List (Option (TopDec Place))) → EachRuled ds → EachRuled (up_to o ds)
up_to_ruled None ds h = h
up_to_ruled (Some n) ds h = take_ruled n ds h

before_none_ruled : (ds : List (Option (TopDec Place))) → EachRuled ds → All TopRuled (before_none ds)
before_none_ruled [] h = All-nil TopRuled
before_none_ruled (None ∷ ds) h = All-nil TopRuled
before_none_ruled (Some d ∷ ds) h = All-cons TopRuled d (before_none ds) h.0 (before_none_ruled ds h.1)

pub all_ruled : MatchesHaveRules
all_ruled unit tokens end tops decs fault trees =
    let each = each_declared IsRuled word_ruled rule_ruled IsDecRuled (λ s nodes h more. dec_ruled s nodes h.0) (λ s nodes h more. dec_ruled s nodes h.0) unit tokens end tops decs fault trees in
    subst (All TopRuled) (sym trees.made) (before_none_ruled _ (up_to_ruled (before_misfit trees.misfit) _ (each_ruled unit tokens trees.nodes 0 trees.fitted each)))
