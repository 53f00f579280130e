-- Each place in the declarations that a derivation stands for is that of a token of its declaration.
use Rattle.std.proofs.Common.{◌≡◌, ℕ, zero, suc, ◌+◌, ◌-◌, ◌<◌, ◌≤◌, List, [], ◌∷◌, ◌++◌, Bool, true, false, Option, Some, None, length, take, drop, get_or, append_assoc, refl, sym, ap, ◌∙◌, subst, arith, IfSome}
use Rattle.std.specs.Prelude.{not, ◌&&◌, slice_get, slice_range, unwrap_or, if◌then◌else◌}
use Rattle.std.specs.Option.{option_map}
use Rattle.std.specs.List.{before_first}
use Rattle.std.proofs.lemmas.Bool.{and_parts, and_from, cond-true, cond-false, false≢true}
use Rattle.std.proofs.lemmas.List.Sums.{take_while-cons}
use Rattle.std.proofs.lemmas.Option.{slice_get-get_or}
use Rattle.sml_lex.specs.declared.fault.Place.{Place}
use Rattle.sml_lex.specs.Faults.{first_place}
use Rattle.sml_lex.specs.declared.token.Kind.{Kind}
use Rattle.sml_lex.specs.declared.token.Kind.TheVariants as K
use Rattle.sml_lex.specs.declared.token.Token.{Token}
use Rattle.sml_lex.specs.Pieces.{AreInOrder}
use Rattle.sml_tree.specs.Structures.{TopDec}
use Rattle.sml_tree.specs.Heights.{top_height}
use Rattle.sml_read.specs.declared.grammar.Part.{Part}
use Rattle.sml_read.specs.declared.grammar.Symbol.{Symbol}
use Rattle.sml_read.specs.declared.grammar.Symbol.TheVariants.{Word, Of}
use Rattle.sml_read.specs.declared.grammar.Rule.{Rule}
use Rattle.sml_read.specs.declared.grammar.Rule.TheVariants.{Names, Units, Structures, Signatures, Specifications, Declarations, Expressions, Patterns, Types}
use Rattle.sml_read.specs.declared.grammar.Node.{Node}
use Rattle.sml_read.specs.declared.grammar.Node.TheVariants.{Leaf, Inner}
use Rattle.sml_read.specs.Grammar.{right_side}
use Rattle.sml_read.specs.Parts.{may_be_empty}
use Rattle.sml_read.specs.Spelling.{all_empty, is_outer, Leads}
use Rattle.sml_read.specs.Extents.{starts_of}
use Rattle.sml_read.proofs.Tables.{each_rule, implies, implied}
use Rattle.sml_fixity.specs.Shapes.{Shape}
use Rattle.sml_phrases.specs.Phrases.{Phrase, of_exp, first}
use Rattle.sml_phrases.specs.PhraseHeights.{low}
use Rattle.sml_reach.specs.Places.{place_after, place_from, start_of}
use Rattle.sml_reach.specs.Fits.{Fitted}
use Rattle.sml_flaws.specs.Flawed.{ends_at}
use Rattle.sml_bare.specs.RulePhrases.{rule_phrase, declaration}
use Rattle.sml_bare.specs.Derivations.{Source, word_phrase, token_phrase, place_at, phrases_of, are_low, top_if_low, bare_dec, first_fits, bare_dec_at, bare_decs}
use Rattle.sml_parse.specs.EachPlace.{EachInTop}
use Rattle.sml_parse.specs.Within.{Extent, ends_before, begins_next, tokens_before, extents_of, IsOfToken}
use Rattle.sml_parse.proofs.Nonempty.{all_inner, inner_so, not_both, when_not, inner_append, some_token, few_tokens}
use Rattle.sml_parse.proofs.Extents.{of_token}
use Rattle.sml_parse.proofs.FlawsWithin.{begins_same, ends_same}
use Rattle.sml_parse.proofs.EachPhrase.{EachInPhrase, EachInPhrases, first_each, drop_each, top_in_each}
use Rattle.sml_parse.proofs.EachPattern.{name_each, type_each, pattern_each}
use Rattle.sml_parse.proofs.EachDerived.{it_dec_each}
use Rattle.sml_parse.proofs.EachExpression.{expression_each}
use Rattle.sml_parse.proofs.EachDeclaration.{declaration_each}
use Rattle.sml_parse.proofs.EachModule.{signature_each, specification_each, structure_each, unit_each}

-- the table

-- a declaration is one part, before what is left of its unit
abbrev is_declaration : List Symbol → Bool
is_declaration (Of p ∷ Of q ∷ []) = not (is_outer p) && (not (may_be_empty p) && is_outer q)
is_declaration _ = false

declaration_so : (r : Rule) → begins_next r ≡ true → is_declaration (right_side r) ≡ true
declaration_so r = implied _ _ (each_rule (λ r. implies (begins_next r) (is_declaration (right_side r))) refl r)

-- nodes up to where a declaration ends

goes_on : (node : Node) (nodes : List Node) → ends_at node ≡ false → before_first ends_at (node ∷ nodes) ≡ node ∷ before_first ends_at nodes
goes_on node nodes e = take_while-cons (λ node. not (ends_at node)) node nodes ∙ cond-true _ _ _ (ap not e)

stops : (node : Node) (nodes : List Node) → ends_at node ≡ true → before_first ends_at (node ∷ nodes) ≡ []
stops node nodes e = take_while-cons (λ node. not (ends_at node)) node nodes ∙ cond-false _ _ _ (ap not e)

module _ (Q : Place → Type 0) (origin : Q first_place) where
  -- what a rule makes
  rule_each : (rule : Rule) (p : Place) (s : Option Shape) (vs : List Phrase) → (all_empty (right_side rule) ≡ false → Q p) → EachInPhrases Q vs → EachInPhrase Q (rule_phrase rule p s vs)
  rule_each (Names rule) p s vs o h = name_each Q origin rule p vs o h
  rule_each (Units rule) p s vs o h = unit_each Q origin rule p vs o h
  rule_each (Structures rule) p s vs o h = structure_each Q origin rule p vs o h
  rule_each (Signatures rule) p s vs o h = signature_each Q origin rule p vs o h
  rule_each (Specifications rule) p s vs o h = specification_each Q origin rule p vs o h
  rule_each (Declarations rule) p s vs o h = declaration_each Q origin rule p s vs o h
  rule_each (Expressions rule) p s vs o h = expression_each Q origin rule p s vs o h
  rule_each (Patterns rule) p s vs o h = pattern_each Q origin rule p s vs o h
  rule_each (Types rule) p s vs o h = type_each Q origin rule p vs o h

  -- a token
  word_each : (k : Kind) (p : Place) (text : List ℕ) → Q p → EachInPhrase Q (word_phrase k p text)
  word_each K.Integer p text o = tt
  word_each K.WordConstant p text o = tt
  word_each K.RealConstant p text o = tt
  word_each K.StringConstant p text o = tt
  word_each K.CharacterConstant p text o = tt
  word_each _ p text o = o

  token_each : (unit : List ℕ) (p : Place) (token : Option Token) → Q p → EachInPhrase Q (token_phrase unit p token)
  token_each unit p None o = tt
  token_each unit p (Some token) o = word_each token.kind p (slice_range unit token.span.start token.span.«end») o

  -- a declaration
  top_each : (p : Place) (v : Phrase) → Q p → EachInPhrase Q v → EachInTop Q (declaration p v)
  top_each p (of_exp e) o h = it_dec_each Q p e o h
  top_each p v o h = top_in_each Q origin v h

  low_each : (top : TopDec Place) (b : Bool) → EachInTop Q top → IfSome (top_if_low top b) (EachInTop Q)
  low_each top false h = tt
  low_each top true h = by_test (low (top_height top))
    where
      by_test : (b : Bool) → IfSome (if b then Some top else None) (EachInTop Q)
      by_test true = h
      by_test false = tt

  module _ (s : Source) (most : ℕ) (stands : (n : ℕ) → n < most → Q (place_at s.unit s.tokens n)) where
    abbrev EachIsMade : ℕ → List Node → Type 0
    EachIsMade n nodes = EachInPhrases Q (phrases_of s nodes (starts_of n nodes))

    -- what is made of a declaration's nodes, of which these are left, with so many tokens before them
    phrases_each : (nodes : List Node) (a ss : List Symbol) (q rest : Part) (n : ℕ) (kinds : List Kind) (next : Option Kind) → all_inner a ≡ true → is_outer q ≡ true → is_outer rest ≡ true
        → n + tokens_before nodes ≤ most → Leads nodes (a ++ Of q ∷ ss) kinds next (Of rest ∷ []) → EachIsMade n (before_first ends_at nodes)
    phrases_each [] a ss q rest n kinds next i o l b h = tt
    phrases_each (Leaf ∷ nodes) [] ss q rest n kinds next i o l b h = absurd h
    phrases_each (Leaf ∷ nodes) (Word k ∷ a) ss q rest n [] next i o l b h = absurd h
    phrases_each (Leaf ∷ nodes) (Word k ∷ a) ss q rest n (x ∷ kinds) next i o l b h =
        subst (EachIsMade n) (sym (goes_on Leaf nodes refl)) (
          token_each s.unit (place_at s.unit s.tokens n) (slice_get s.tokens n) (stands n (omega (arith, b))),
          phrases_each nodes a ss q rest (suc n) kinds next i o l (omega (arith, b)) h.1,
        )
    phrases_each (Leaf ∷ nodes) (Of p ∷ a) ss q rest n kinds next i o l b h = absurd h
    phrases_each (Inner r ∷ nodes) [] ss q rest n kinds next i o l b h = subst (EachIsMade n) (sym (stops (Inner r) nodes (ends_same r ∙ subst (λ p. is_outer p ≡ true) (sym h.0) o))) tt
    phrases_each (Inner r ∷ nodes) (Word k ∷ a) ss q rest n kinds next i o l b h = absurd h
    phrases_each (Inner r ∷ nodes) (Of p ∷ a) ss q rest n kinds next i o l b h =
        let both = and_parts _ _ i in
        let inner = subst (λ p. not (is_outer p) ≡ true) (sym h.0) both.0 in
        let left = when_not (ends_before r) inner in
        let within = subst (λ (b : Bool). n + (if b then 0 else tokens_before nodes) ≤ most) left b in
        let made = phrases_each nodes (right_side r ++ a) ss q rest n kinds next (inner_append (right_side r) a (inner_so r inner) both.1) o l within (subst (λ x. Leads nodes x kinds next (Of rest ∷ [])) (sym (append_assoc (right_side r) a (Of q ∷ ss))) h.2) in
        subst (EachIsMade n) (sym (goes_on (Inner r) nodes (ends_same r ∙ left))) (
          rule_each r (place_at s.unit s.tokens n) _ _
              (λ e. stands n (let some = some_token nodes (right_side r) (a ++ Of q ∷ ss) kinds next rest (inner_so r inner) (λ k. false≢true (sym e ∙ k)) l h.2 in omega (arith, some, within))) made,
          drop_each Q origin (length (right_side r)) _ made,
        )

    -- the declaration of these nodes
    dec_each : (nodes : List Node) → 0 < most → EachIsMade 0 nodes → IfSome (bare_dec s nodes) (EachInTop Q)
    dec_each nodes some h =
        low_each _ (are_low s nodes (starts_of 0 nodes))
        (top_each (place_at s.unit s.tokens 0) (first (phrases_of s nodes (starts_of 0 nodes))) (stands 0 some) (first_each Q origin (phrases_of s nodes (starts_of 0 nodes)) h))

-- tokens and places

pub no_token : Token
no_token = record {
  kind = K.Comma;
  span = record {
    start = 0;
    «end» = 0;
  };
}

get_dropped : {A : Type 0} (n : ℕ) (xs : List A) (k : ℕ) → slice_get (drop n xs) k ≡ slice_get xs (n + k)
get_dropped zero xs k = ap (slice_get xs) (let e : k ≡ 0 + k = omega arith in e)
get_dropped (suc n) [] k = refl
get_dropped (suc n) (x ∷ xs) k = get_dropped n xs k ∙ ap (slice_get (x ∷ xs)) (let e : suc (n + k) ≡ suc n + k = omega arith in e)

start_dropped : (tokens : List Token) (n k : ℕ) → start_of (drop n tokens) k 0 ≡ start_of tokens (n + k) 0
start_dropped tokens n k = ap (λ (t : Option Token). unwrap_or (option_map (λ token. token.span.start) t) 0) (get_dropped n tokens k)

pub start_is : (tokens : List Token) (index : ℕ) (token : Token) → slice_get tokens index ≡ Some token → start_of tokens index 0 ≡ token.span.start
start_is tokens index token e = ap (λ (t : Option Token). unwrap_or (option_map (λ token. token.span.start) t) 0) e

-- a byte counted from itself
pub same_place : (unit : List ℕ) (at : ℕ) → first_place ≡ place_from unit at at
same_place unit at = let e : 0 ≡ at - at = omega arith in ap (λ n. place_after (take n (drop at unit))) e

-- the declarations of a unit

abbrev pub TopStands : List ℕ → List Token → Extent → Option (TopDec Place) → Type 0
TopStands unit tokens extent top = IsOfToken unit tokens extent first_place × IfSome top (EachInTop (IsOfToken unit tokens extent))

abbrev pub TopsInTurn : List ℕ → List Token → List Extent → List (Option (TopDec Place)) → Type 0
TopsInTurn unit tokens extents [] = Unit {0}
TopsInTurn unit tokens [] (top ∷ tops) = ⊥
TopsInTurn unit tokens (extent ∷ extents) (top ∷ tops) = TopStands unit tokens extent top × TopsInTurn unit tokens extents tops

module _ (unit : List ℕ) (tokens : List Token) (o : AreInOrder unit 0 tokens) where
  -- a token of an extent, by its number in it
  at_token : (extent : Extent) (k : ℕ) → extent.first + k < extent.after → extent.after ≤ length tokens → IsOfToken unit tokens extent (place_at unit (drop extent.first tokens) k)
  at_token extent k b most =
      let n = extent.first in
      let token = get_or tokens (n + k) no_token in
      let e = slice_get-get_or tokens (n + k) no_token (omega (arith, b, most)) in
      of_token unit tokens extent (n + k) token _ o e (omega arith) b
      (ap (λ at. place_from unit at (start_of (drop n tokens) k 0)) (start_dropped tokens n 0 ∙ ap (λ i. start_of tokens i 0) (let z : n + 0 ≡ n = omega arith in z))
      ∙ ap (place_from unit (start_of tokens n 0)) (start_dropped tokens n k ∙ start_is tokens (n + k) token e))

  pub first_stands : (extent : Extent) → extent.first < extent.after → extent.after ≤ length tokens → IsOfToken unit tokens extent first_place
  first_stands extent b most =
      subst (IsOfToken unit tokens extent) (sym (same_place unit (start_of (drop extent.first tokens) 0 0))) (at_token extent 0 (omega (arith, b)) most)

  pub tops_stand : (nodes : List Node) (old : List Symbol) (n : ℕ) (kinds : List Kind) (next : Option Kind) (rest : Part) (fitted : List Fitted) → is_outer rest ≡ true → n + length kinds ≤ length tokens
      → Leads nodes old kinds next (Of rest ∷ []) → TopsInTurn unit tokens (extents_of n nodes) (bare_decs unit tokens n nodes fitted)
  tops_stand [] old n kinds next rest fitted l m h = tt
  tops_stand (Leaf ∷ nodes) [] n kinds next rest fitted l m h = absurd h
  tops_stand (Leaf ∷ nodes) (Word k ∷ old) n [] next rest fitted l m h = absurd h
  tops_stand (Leaf ∷ nodes) (Word k ∷ old) n (x ∷ kinds) next rest fitted l m h = tops_stand nodes old (suc n) kinds next rest fitted l (omega (arith, m)) h.1
  tops_stand (Leaf ∷ nodes) (Of p ∷ old) n kinds next rest fitted l m h = absurd h
  tops_stand (Inner r ∷ nodes) [] n kinds next rest fitted l m h = absurd h
  tops_stand (Inner r ∷ nodes) (Word k ∷ old) n kinds next rest fitted l m h = absurd h
  tops_stand (Inner r ∷ nodes) (Of p ∷ old) n kinds next rest fitted l m h =
      subst (λ (b : Bool). TopsInTurn unit tokens (if begins_next r then extent ∷ extents_of n nodes else extents_of n nodes) (if b then top ∷ bare_decs unit tokens n nodes (drop 1 fitted) else bare_decs unit tokens n nodes fitted)) (sym (begins_same r))
      (by_begin (begins_next r) (declaration_so r) (own (right_side r) h.2) (λ fitted. tops_stand nodes (right_side r ++ old) n kinds next rest fitted l m h.2))
    where
      extent : Extent
      extent = record { first = n; after = n + tokens_before nodes }

      top : Option (TopDec Place)
      top = bare_dec_at unit tokens n (before_first ends_at nodes) fitted

      of_parts : (a b : Part) → not (is_outer a) ≡ true → not (may_be_empty a) ≡ true → is_outer b ≡ true → Leads nodes (Of a ∷ Of b ∷ old) kinds next (Of rest ∷ []) → TopStands unit tokens extent top
      of_parts a b i e g lead =
          let some = some_token nodes (Of a ∷ []) (Of b ∷ old) kinds next rest (and_from _ _ i refl) (λ k. not_both (may_be_empty a) e (and_parts _ _ k).0) l lead in
          let few = few_tokens nodes (Of a ∷ Of b ∷ old) kinds next (Of rest ∷ []) lead in
          let origin = first_stands extent (omega (arith, some)) (omega (arith, few, m)) in
          let source : Source = record { unit = unit; tokens = drop n tokens; begun = n; fits = first_fits fitted } in
          let stands = λ (k : ℕ) (b : k < tokens_before nodes). at_token extent k (omega (arith, b)) (omega (arith, few, m)) in (
            origin,
            dec_each (IsOfToken unit tokens extent) origin source (tokens_before nodes) stands (before_first ends_at nodes) some
                (phrases_each (IsOfToken unit tokens extent) origin source (tokens_before nodes) stands nodes (Of a ∷ []) old b rest 0 kinds next (and_from _ _ i refl) g l (omega arith) lead),
          )

      own : (side : List Symbol) → Leads nodes (side ++ old) kinds next (Of rest ∷ []) → is_declaration side ≡ true → TopStands unit tokens extent top
      own [] lead e = absurd (false≢true e)
      own (Word k ∷ side) lead e = absurd (false≢true e)
      own (Of a ∷ []) lead e = absurd (false≢true e)
      own (Of a ∷ Word k ∷ side) lead e = absurd (false≢true e)
      own (Of a ∷ Of b ∷ []) lead e =
          let outer = and_parts _ _ e in
          let more = and_parts _ _ outer.1 in
          of_parts a b outer.0 more.0 more.1 lead
      own (Of a ∷ Of b ∷ s ∷ side) lead e = absurd (false≢true e)

      by_begin : (b : Bool) → (b ≡ true → is_declaration (right_side r) ≡ true) → (is_declaration (right_side r) ≡ true → TopStands unit tokens extent top) → ((fitted : List Fitted) → TopsInTurn unit tokens (extents_of n nodes) (bare_decs unit tokens n nodes fitted))
          → TopsInTurn unit tokens (if b then extent ∷ extents_of n nodes else extents_of n nodes) (if b then top ∷ bare_decs unit tokens n nodes (drop 1 fitted) else bare_decs unit tokens n nodes fitted)
      by_begin true e s later = (s (e refl), later (drop 1 fitted))
      by_begin false e s later = later fitted
