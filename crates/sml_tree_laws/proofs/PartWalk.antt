-- In a derivation, what holds of what each token makes, and of what each rule makes where it holds of the parts, holds of each
-- declaration.
use Rattle.std.proofs.Common.{◌≡◌, ℕ, zero, suc, ◌+◌, List, [], ◌∷◌, ◌++◌, Bool, true, false, Option, Some, length, take, drop, append_assoc, refl, sym, ap, ◌∙◌, subst, arith}
use Rattle.std.specs.Prelude.{not, slice_get, slice_range}
use Rattle.std.specs.List.{before_first}
use Rattle.std.proofs.lemmas.Bool.{and_parts, cond-true, cond-false, false≢true}
use Rattle.std.proofs.lemmas.List.Sums.{take_while-cons}
use Rattle.sml_lex.specs.declared.fault.Place.{Place}
use Rattle.sml_lex.specs.declared.token.End.{End}
use Rattle.sml_lex.specs.declared.token.Kind.{Kind}
use Rattle.sml_lex.specs.declared.token.Token.{Token}
use Rattle.sml_lex.specs.Faults.{Fault}
use Rattle.sml_tree.specs.Trees.{Dec}
use Rattle.sml_tree.specs.Structures.{TopDec}
use Rattle.sml_fixity.specs.Shapes.{Shape}
use Rattle.sml_read.specs.declared.grammar.Part.{Part}
use Rattle.sml_read.specs.declared.grammar.Part.TheVariants as G
use Rattle.sml_read.specs.declared.grammar.Symbol.{Symbol}
use Rattle.sml_read.specs.declared.grammar.Symbol.TheVariants.{Word, Of}
use Rattle.sml_read.specs.declared.grammar.Rule.{Rule}
use Rattle.sml_read.specs.declared.grammar.Node.{Node}
use Rattle.sml_read.specs.declared.grammar.Node.TheVariants.{Leaf, Inner}
use Rattle.sml_read.specs.Grammar.{right_side}
use Rattle.sml_read.specs.Parts.{part_of}
use Rattle.sml_read.specs.Spelling.{kinds_of, is_outer, Leads}
use Rattle.sml_read.specs.Extents.{starts_of}
use Rattle.sml_read.proofs.Tables.{each_rule, implies, implied}
use Rattle.sml_phrases.specs.Phrases.{Phrase, first, at}
use Rattle.sml_reach.specs.Fits.{Fitted}
use Rattle.sml_flaws.specs.Flawed.{begins_at, ends_at}
use Rattle.sml_bare.specs.RulePhrases.{rule_phrase}
use Rattle.sml_bare.specs.Derivations.{Source, word_phrase, token_phrase, place_at, shape_from, before_sequence, made_by, phrases_of, first_fits}
use Rattle.sml_parse.specs.Trees.{AreTrees}
use Rattle.sml_parse.specs.Within.{ends_before}
use Rattle.sml_parse.proofs.Extents.{agree, agreed}
use Rattle.sml_parse.proofs.Nonempty.{all_inner, inner_so, not_both, when_not, inner_append, word_alone, part_alone}
use Rattle.sml_tree_laws.specs.Kinds.{WhereBegun}

-- the phrases from the n-th on stand so to these symbols
abbrev pub AllOf : (Symbol → Phrase → Type 0) → List Symbol → ℕ → List Phrase → Type 0
AllOf Is [] n vs = Unit {0}
AllOf Is (x ∷ symbols) n vs = Is x (at vs n) × AllOf Is symbols (suc n) vs

-- what is made after a node stands so to the parts of its rule
abbrev pub PartsOf : (Symbol → Phrase → Type 0) → Node → List Phrase → Type 0
PartsOf Is Leaf vs = Unit {0}
PartsOf Is (Inner rule) vs = AllOf Is (right_side rule) 0 vs

abbrev pub EachPartsOf : (Symbol → Phrase → Type 0) → Source → List Node → List ℕ → Type 0
EachPartsOf Is s [] starts = Unit {0}
EachPartsOf Is s (node ∷ nodes) [] = Unit {0}
EachPartsOf Is s (node ∷ nodes) (n ∷ starts) = PartsOf Is node (phrases_of s nodes starts) × EachPartsOf Is s nodes starts

-- D of each declaration of a derivation; so many tokens stand before these nodes
abbrev pub EachDeclared : (Source → List Node → Type 0) → List ℕ → List Token → ℕ → List Node → List Fitted → Type 0
EachDeclared D unit tokens n [] fitted = Unit {0}
EachDeclared D unit tokens n (Leaf ∷ nodes) fitted = EachDeclared D unit tokens (suc n) nodes fitted
EachDeclared D unit tokens n (Inner rule ∷ nodes) fitted =
    WhereBegun (begins_at rule)
    (D (record { unit = unit; tokens = drop n tokens; begun = n; fits = first_fits fitted }) (before_first ends_at nodes) × EachDeclared D unit tokens n nodes (drop 1 fitted))
    (EachDeclared D unit tokens n nodes fitted)

-- tokens and their kinds

abbrev HaveKinds : List Kind → List Token → Type 0
HaveKinds [] tokens = Unit {0}
HaveKinds (k ∷ kinds) [] = ⊥
HaveKinds (k ∷ kinds) (t ∷ tokens) = (k ≡ t.kind) × HaveKinds kinds tokens

first_kinds : (n : ℕ) (tokens : List Token) → HaveKinds (take n (kinds_of tokens)) tokens
first_kinds zero tokens = tt
first_kinds (suc n) [] = tt
first_kinds (suc n) (t ∷ tokens) = (refl, first_kinds n tokens)

got : {A : Type 0} (n : ℕ) (xs : List A) (x : A) (more : List A) → drop n xs ≡ x ∷ more → slice_get xs n ≡ Some x
got zero [] x more e = cc
got zero (y ∷ xs) x more e = cc
got (suc n) [] x more e = cc
got (suc n) (y ∷ xs) x more e = got n xs x more e

passed : {A : Type 0} (n : ℕ) (xs : List A) (x : A) (more : List A) → drop n xs ≡ x ∷ more → drop (suc n) xs ≡ more
passed zero [] x more e = cc
passed zero (y ∷ xs) x more e = cc
passed (suc n) [] x more e = cc
passed (suc n) (y ∷ xs) x more e = passed n xs x more e

drop_none : {A : Type 0} (n : ℕ) → ◌≡◌ {A = List A} (drop n []) []
drop_none zero = refl
drop_none (suc n) = refl

drop_sum : {A : Type 0} (m n : ℕ) (xs : List A) → drop (m + n) xs ≡ drop n (drop m xs)
drop_sum zero n xs = ap (λ k. drop k xs) (let e : 0 + n ≡ n = omega arith in e)
drop_sum (suc m) n [] = drop_none (suc m + n) ∙ sym (drop_none n)
drop_sum (suc m) n (x ∷ xs) = ap (λ k. drop k (x ∷ xs)) (let e : suc m + n ≡ suc (m + n) = omega arith in e) ∙ drop_sum m n xs

-- the tables

ends_same : (r : Rule) → ends_at (Inner r) ≡ ends_before r
ends_same r = agreed _ _ (each_rule (λ r. agree (ends_at (Inner r)) (ends_before r)) refl r)

-- a declaration or an expression, before what is left of its unit
abbrev begins_so : List Symbol → Bool
begins_so (Of G.Top ∷ Of q ∷ []) = is_outer q
begins_so (Of G.Exp ∷ Of q ∷ []) = is_outer q
begins_so _ = false

declaration_so : (r : Rule) → begins_at r ≡ true → begins_so (right_side r) ≡ true
declaration_so r = implied _ _ (each_rule (λ r. implies (begins_at r) (begins_so (right_side r))) refl r)

goes_on : (node : Node) (nodes : List Node) → ends_at node ≡ false → before_first ends_at (node ∷ nodes) ≡ node ∷ before_first ends_at nodes
goes_on node nodes e = take_while-cons (λ node. not (ends_at node)) node nodes ∙ cond-true _ _ _ (ap not e)

stops : (node : Node) (nodes : List Node) → ends_at node ≡ true → before_first ends_at (node ∷ nodes) ≡ []
stops node nodes e = take_while-cons (λ node. not (ends_at node)) node nodes ∙ cond-false _ _ _ (ap not e)

module _ (Is : Symbol → Phrase → Type 0) where
  front_of : (a b : List Symbol) (n : ℕ) (vs : List Phrase) → AllOf Is (a ++ b) n vs → AllOf Is a n vs
  front_of [] b n vs h = tt
  front_of (x ∷ a) b n vs h = (h.0, front_of a b (suc n) vs h.1)

  back_of : (a b : List Symbol) (n : ℕ) (vs : List Phrase) → AllOf Is (a ++ b) n vs → AllOf Is b (length a + n) vs
  back_of [] b n vs h = subst (λ m. AllOf Is b m vs) (omega arith) h
  back_of (x ∷ a) b n vs h = subst (λ m. AllOf Is b m vs) (omega arith) (back_of a b (suc n) vs h.1)

  dropped : (a : List Symbol) (m n : ℕ) (vs : List Phrase) → AllOf Is a (m + n) vs → AllOf Is a n (drop m vs)
  dropped [] m n vs h = tt
  dropped (x ∷ a) m n vs h =
      (subst (λ ws. Is x (first ws)) (drop_sum m n vs) h.0, dropped a m (suc n) vs (subst (λ k. AllOf Is a k vs) (let e : suc (m + n) ≡ m + suc n = omega arith in e) h.1))

  shifted : (a : List Symbol) (n : ℕ) (v : Phrase) (vs : List Phrase) → AllOf Is a n vs → AllOf Is a (suc n) (v ∷ vs)
  shifted [] n v vs h = tt
  shifted (x ∷ a) n v vs h = (h.0, shifted a (suc n) v vs h.1)

  module _ (word : (k : Kind) (p : Place) (text : List ℕ) → Is (Word k) (word_phrase k p text))
      (by_rule : (r : Rule) (p : Place) (s : Option Shape) (vs : List Phrase) → AllOf Is (right_side r) 0 vs → Is (Of (part_of r)) (rule_phrase r p s vs)) where
    of_token : (k : Kind) (unit : List ℕ) (p : Place) (token : Option Token) (t : Token) → token ≡ Some t → k ≡ t.kind → Is (Word k) (token_phrase unit p token)
    of_token k unit p token t e q =
        subst (λ o. Is (Word k) (token_phrase unit p o)) (sym e) (subst (λ x. Is (Word x) (word_phrase t.kind p (slice_range unit t.span.start t.span.«end»))) (sym q) (word t.kind p _))

    -- a declaration

    module _ (s : Source) where
      abbrev Made : List Symbol → ℕ → List Node → Type 0
      Made a n nodes = AllOf Is a 0 (phrases_of s nodes (starts_of n nodes)) × EachPartsOf Is s nodes (starts_of n nodes)

      parts_made : (nodes : List Node) (a ss : List Symbol) (q rest : Part) (n : ℕ) (tokens : List Token) (kinds : List Kind) (next : Option Kind) → all_inner a ≡ true → is_outer q ≡ true → is_outer rest ≡ true
          → drop n s.tokens ≡ tokens → HaveKinds kinds tokens → Leads nodes (a ++ Of q ∷ ss) kinds next (Of rest ∷ []) → Made a n (before_first ends_at nodes)
      parts_made [] [] ss q rest n tokens kinds next i o l e m h = (tt, tt)
      parts_made [] (Word k ∷ a) ss q rest n tokens [] next i o l e m h = absurd (word_alone h)
      parts_made [] (Of p ∷ a) ss q rest n tokens [] next i o l e m h = absurd (not_both (is_outer p) (and_parts _ _ i).0 (subst (λ p. is_outer p ≡ true) (sym (part_alone h)) l))
      parts_made [] (x ∷ a) ss q rest n tokens (k ∷ kinds) next i o l e m h = absurd h
      parts_made (Leaf ∷ nodes) [] ss q rest n tokens kinds next i o l e m h = absurd h
      parts_made (Leaf ∷ nodes) (Word k ∷ a) ss q rest n tokens [] next i o l e m h = absurd h
      parts_made (Leaf ∷ nodes) (Word k ∷ a) ss q rest n [] (x ∷ kinds) next i o l e m h = absurd m
      parts_made (Leaf ∷ nodes) (Word k ∷ a) ss q rest n (t ∷ tokens) (x ∷ kinds) next i o l e m h =
          let r = parts_made nodes a ss q rest (suc n) tokens kinds next i o l (passed n s.tokens t tokens e) m.1 h.1 in
          subst (Made (Word k ∷ a) n) (sym (goes_on Leaf nodes refl)) (
            (of_token k s.unit _ (slice_get s.tokens n) t (got n s.tokens t tokens e) (h.0 ∙ m.0), shifted a 0 _ _ r.0),
            (tt, r.1),
          )
      parts_made (Leaf ∷ nodes) (Of p ∷ a) ss q rest n tokens kinds next i o l e m h = absurd h
      parts_made (Inner r ∷ nodes) [] ss q rest n tokens kinds next i o l e m h = subst (Made [] n) (sym (stops (Inner r) nodes (ends_same r ∙ subst (λ p. is_outer p ≡ true) (sym h.0) o))) (tt, tt)
      parts_made (Inner r ∷ nodes) (Word k ∷ a) ss q rest n tokens kinds next i o l e m h = absurd h
      parts_made (Inner r ∷ nodes) (Of p ∷ a) ss q rest n tokens kinds next i o l e m h =
          let both = and_parts _ _ i in
          let inner = subst (λ p. not (is_outer p) ≡ true) (sym h.0) both.0 in
          let left = when_not (ends_before r) inner in
          let lead = subst (λ x. Leads nodes x kinds next (Of rest ∷ [])) (sym (append_assoc (right_side r) a (Of q ∷ ss))) h.2 in
          let made = parts_made nodes (right_side r ++ a) ss q rest n tokens kinds next (inner_append (right_side r) a (inner_so r inner) both.1) o l e m lead in
          let vs = phrases_of s (before_first ends_at nodes) (starts_of n (before_first ends_at nodes)) in
          let parts = front_of (right_side r) a 0 vs made.0 in
          subst (Made (Of p ∷ a) n) (sym (goes_on (Inner r) nodes (ends_same r ∙ left))) (
            (
              subst (λ p. Is (Of p) (made_by s r n vs)) h.0 (by_rule r (place_at s.unit s.tokens n) (shape_from s.fits (s.begun + (n + before_sequence r))) vs parts),
              shifted a 0 _ _ (dropped a (length (right_side r)) 0 _ (back_of (right_side r) a 0 _ made.0)),
            ),
            (parts, made.1),
          )

    -- the declarations of a unit

    module _ (D : Source → List Node → Type 0)
        (by_top : (s : Source) (nodes : List Node) → Is (Of G.Top) (first (phrases_of s nodes (starts_of 0 nodes))) → EachPartsOf Is s nodes (starts_of 0 nodes) → D s nodes)
        (by_exp : (s : Source) (nodes : List Node) → Is (Of G.Exp) (first (phrases_of s nodes (starts_of 0 nodes))) → EachPartsOf Is s nodes (starts_of 0 nodes) → D s nodes)
        (unit : List ℕ) (tokens : List Token) where
      each_made : (nodes : List Node) (old : List Symbol) (n : ℕ) (ts : List Token) (kinds : List Kind) (next : Option Kind) (rest : Part) (fitted : List Fitted) → is_outer rest ≡ true
          → drop n tokens ≡ ts → HaveKinds kinds ts → Leads nodes old kinds next (Of rest ∷ []) → EachDeclared D unit tokens n nodes fitted
      each_made [] old n ts kinds next rest fitted l e m h = tt
      each_made (Leaf ∷ nodes) [] n ts kinds next rest fitted l e m h = absurd h
      each_made (Leaf ∷ nodes) (Word k ∷ old) n ts [] next rest fitted l e m h = absurd h
      each_made (Leaf ∷ nodes) (Word k ∷ old) n [] (x ∷ kinds) next rest fitted l e m h = absurd m
      each_made (Leaf ∷ nodes) (Word k ∷ old) n (t ∷ ts) (x ∷ kinds) next rest fitted l e m h = each_made nodes old (suc n) ts kinds next rest fitted l (passed n tokens t ts e) m.1 h.1
      each_made (Leaf ∷ nodes) (Of p ∷ old) n ts kinds next rest fitted l e m h = absurd h
      each_made (Inner r ∷ nodes) [] n ts kinds next rest fitted l e m h = absurd h
      each_made (Inner r ∷ nodes) (Word k ∷ old) n ts kinds next rest fitted l e m h = absurd h
      each_made (Inner r ∷ nodes) (Of p ∷ old) n ts kinds next rest fitted l e m h =
          by_begin (begins_at r) refl (λ fitted. each_made nodes (right_side r ++ old) n ts kinds next rest fitted l e m h.2)
        where
          source : Source
          source = record { unit = unit; tokens = drop n tokens; begun = n; fits = first_fits fitted }

          own : (side : List Symbol) → Leads nodes (side ++ old) kinds next (Of rest ∷ []) → begins_so side ≡ true → D source (before_first ends_at nodes)
          own (Of G.Top ∷ Of q ∷ []) lead b = let r = parts_made source nodes (Of G.Top ∷ []) old q rest 0 ts kinds next refl b l e m lead in by_top source (before_first ends_at nodes) r.0.0 r.1
          own (Of G.Exp ∷ Of q ∷ []) lead b = let r = parts_made source nodes (Of G.Exp ∷ []) old q rest 0 ts kinds next refl b l e m lead in by_exp source (before_first ends_at nodes) r.0.0 r.1
          own _ lead b = absurd (false≢true b)

          by_begin : (b : Bool) → begins_at r ≡ b → ((fitted : List Fitted) → EachDeclared D unit tokens n nodes fitted)
              → WhereBegun b (D source (before_first ends_at nodes) × EachDeclared D unit tokens n nodes (drop 1 fitted)) (EachDeclared D unit tokens n nodes fitted)
          by_begin true q later = (own (right_side r) h.2 (declaration_so r q), later (drop 1 fitted))
          by_begin false q later = later fitted

      pub each_declared : (end : End) (tops : List (TopDec Place)) (decs : List (Dec Place)) (fault : Option (Fault Place)) (trees : AreTrees unit tokens end tops decs fault)
          → EachDeclared D unit tokens 0 trees.nodes trees.fitted
      each_declared end tops decs fault trees =
          let whole = trees.reading.whole in
          each_made trees.nodes _ 0 tokens (take trees.begun (kinds_of tokens)) _ whole.part trees.fitted whole.outer refl (first_kinds trees.begun tokens) whole.leads
