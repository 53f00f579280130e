-- In each declaration that has no flaw, what stands after `rec` may stand there.
use Rattle.std.proofs.Common.{◌≡◌, ℕ, zero, suc, ◌+◌, ◌<◌, ◌≤◌, List, [], ◌∷◌, ◌++◌, Bool, true, false, Option, Some, length, take, drop, eqb, refl, sym, ap, ◌∙◌, subst, inl, inr, ◌⊎◌, append_assoc, arith}
use Rattle.std.specs.Prelude.{not, flat_map, slice_get, slice_range}
use Rattle.std.specs.List.{position_or_len, slice_split}
use Rattle.std.proofs.lemmas.Option.{same_Some}
use Rattle.std.proofs.lemmas.Bool.{false≢true, cond-true, cond-false}
use Rattle.std.proofs.lemmas.List.Splits.{slice_split_first, length-slice_split}
use Rattle.std.proofs.lemmas.List.{length-append, length-take, length-drop, length-map}
use Rattle.sml_lex.specs.declared.fault.Place.{Place}
use Rattle.sml_lex.specs.declared.token.Kind.{Kind}
use Rattle.sml_lex.specs.declared.token.Kind.TheVariants as K
use Rattle.sml_lex.specs.declared.token.End.{End}
use Rattle.sml_lex.specs.declared.token.Token.{Token}
use Rattle.sml_lex.specs.Bytes.{dot}
use Rattle.sml_lex.specs.Tokens.{IsLong, IsToken}
use Rattle.sml_lex.specs.Pieces.{AreInOrder, Spells, SpellsUnit, IsOverLimit}
use Rattle.sml_lex.proofs.Order.{tokens_are_in_order}
use Rattle.sml_tree.specs.Trees.{Id}
use Rattle.sml_objects.specs.Appearance.{Stands}
use Rattle.sml_read.specs.declared.grammar.Part.{Part}
use Rattle.sml_read.specs.declared.grammar.Part.TheVariants.{Top, Exp}
use Rattle.sml_read.specs.declared.grammar.Symbol.{Symbol}
use Rattle.sml_read.specs.declared.grammar.Symbol.TheVariants.{Word, Of}
use Rattle.sml_read.specs.declared.grammar.Rule.TheVariants.{Units}
use Rattle.sml_read.specs.declared.grammar.UnitRule.{UnitRule}
use Rattle.sml_read.specs.declared.grammar.UnitRule.TheVariants as U
use Rattle.sml_read.specs.declared.grammar.Node.{Node}
use Rattle.sml_read.specs.declared.grammar.Node.TheVariants.{Leaf, Inner}
use Rattle.sml_read.specs.Grammar.{right_side}
use Rattle.sml_read.specs.Spelling.{is_outer, kinds_of, Leads}
use Rattle.sml_read.specs.Extents.{starts_of, ends_of}
use Rattle.sml_phrases.specs.Phrases.{Phrase, of_exp}
use Rattle.sml_reach.specs.Events.{text_at, events_of}
use Rattle.sml_reach.specs.Fits.{Fit}
use Rattle.sml_reach.specs.Idents.{long_of_parts, long_id}
use Rattle.sml_flaws.specs.declared.role.Entry.TheVariants as O
use Rattle.sml_flaws.specs.declared.mark.Context.{Context}
use Rattle.sml_flaws.specs.declared.mark.Mark.{Mark}
use Rattle.sml_flaws.specs.Marks.{start, entered, marks_of}
use Rattle.sml_flaws.specs.Flaws.{flaws_of, scoped_of, flaws}
use Rattle.sml_bare.specs.RulePhrases.{declaration}
use Rattle.sml_tree_laws.specs.Recursive.{TopRec}
use Rattle.sml_tree_laws.proofs.RecPhrases.{PhraseRec, top_rec}
use Rattle.sml_tree_laws.proofs.RecWalk.{is_long, recs}
use Rattle.sml_tree_laws.proofs.BoundWalk.{width_of}
use Rattle.sml_tree_laws.proofs.SequenceTokens.{ahead}
use Rattle.sml_tree_laws.proofs.SequenceFits.{FitsRise, AreBuilt, ComesFrom, AllCome}
use Rattle.sml_rules.proofs.EveryItem.{every_more}
use Rattle.sml_tree_laws.proofs.SequenceOrigins.{Coming}
use Rattle.sml_tree_laws.proofs.MarksApart.{is_atom, in_sequence, Apart, marks_apart}
use Rattle.sml_tree_laws.proofs.Walk.{Goes}
use Rattle.sml_tree_laws.proofs.Clean.{both_none}
use Rattle.sml_tree_laws.proofs.Declared.{source, made, counted}

-- long identifiers

abbrev is_dot : ℕ → Bool
is_dot b = eqb b 46

at_dot : (x : ℕ) (xs : List ℕ) → is_dot x ≡ true → position_or_len is_dot (x ∷ xs) ≡ 0
at_dot x xs q = cond-false _ _ _ (ap not q)

before_dot : (xs ys : List ℕ) → position_or_len is_dot (xs ++ 46 ∷ ys) < length (xs ++ 46 ∷ ys)
before_dot [] ys = let z = at_dot 46 ys refl in omega (arith, z)
before_dot (x ∷ xs) ys = go (is_dot x) refl (before_dot xs ys)
  where
    go : (b : Bool) → is_dot x ≡ b → position_or_len is_dot (xs ++ 46 ∷ ys) < length (xs ++ 46 ∷ ys) → position_or_len is_dot (x ∷ (xs ++ 46 ∷ ys)) < length (x ∷ (xs ++ 46 ∷ ys))
    go true q h = let z = at_dot x (xs ++ 46 ∷ ys) q in omega (arith, z)
    go false q h = let z : position_or_len is_dot (x ∷ (xs ++ 46 ∷ ys)) ≡ 1 + position_or_len is_dot (xs ++ 46 ∷ ys) = cond-true _ _ _ (ap not q) in omega (arith, z, h)

two_parts : (part : Id) (parts : List Id) → 0 < length parts → (long_of_parts (part ∷ parts)).path ≡ [] → ⊥
two_parts part [] h e = absurd (omega (arith, h))
two_parts part (other ∷ parts) h e = no_path e
  where
    no_path : {p : Id} {ps : List Id} → p ∷ ps ≡ [] → ⊥
    no_path e = cc

dot_path : (xs ys : List ℕ) → (long_id (xs ++ 46 ∷ ys)).path ≡ [] → ⊥
dot_path xs ys e =
    let text = xs ++ 46 ∷ ys in
    let k = position_or_len is_dot text in
    two_parts (take k text) (slice_split is_dot (drop (k + 1) text)) (omega (arith, length-slice_split is_dot (drop (k + 1) text)))
    (subst (λ parts. (long_of_parts parts).path ≡ []) (slice_split_first is_dot text 0 (before_dot xs ys)) e)

long_path : (f : List ℕ → Bool) (text : List ℕ) → IsLong f text → (long_id text).path ≡ [] → ⊥
long_path f text h e =
    let rest = flat_map (λ part. part ++ dot ∷ []) h.others in
    dot_path h.first (rest ++ h.last)
    (subst (λ q. (long_id q).path ≡ []) (h.spelled ∙ ap (λ q. q ++ h.last) (append_assoc h.first (dot ∷ []) rest) ∙ append_assoc h.first (dot ∷ rest) h.last) e)

kind_path : (k : Kind) (text : List ℕ) → is_long k ≡ true → IsToken k text → (long_id text).path ≡ [] → ⊥
kind_path K.LongAlphanumeric text l h = long_path _ text h
kind_path K.LongSymbolic text l h = long_path _ text h
kind_path K.LongStar text l h = long_path _ text h
kind_path _ text l h = absurd (no_long l)
  where
    no_long : false ≡ true → ⊥
    no_long e = cc

token_in_order : (unit : List ℕ) (tokens : List Token) (place j : ℕ) (t : Token) → AreInOrder unit place tokens → slice_get tokens j ≡ Some t → IsToken t.kind (slice_range unit t.span.start t.span.«end»)
token_in_order unit [] place j t h e = cc
token_in_order unit (x ∷ tokens) place zero t h e = subst (λ (q : Token). IsToken q.kind (slice_range unit q.span.start q.span.«end»)) (same_Some x t e) h.2
token_in_order unit (x ∷ tokens) place (suc j) t h e = token_in_order unit tokens x.span.«end» j t h.4 e

few_in_order : (unit : List ℕ) (tokens : List Token) (place : ℕ) → AreInOrder unit place tokens → place + length tokens ≤ length unit
few_in_order unit [] place h = omega (arith, h)
few_in_order unit (x ∷ tokens) place h = let a = h.0 in let b = h.1 in let c = few_in_order unit tokens x.span.«end» h.4 in omega (arith, a, b, c)

-- what the bytes of a unit spell
pub few_tokens : (unit : List ℕ) (tokens : List Token) (end : End) → Spells unit tokens end → length tokens ≤ 1048576
few_tokens unit tokens end h = go h
  where
    go : SpellsUnit unit tokens end ⊎ IsOverLimit unit tokens end → length tokens ≤ 1048576
    go (inl u) = let a = few_in_order unit tokens 0 (tokens_are_in_order unit tokens end h) in let b = u.within in omega (arith, a, b)
    go (inr o) = let e : length tokens ≡ 0 = ap length o.none in omega (arith, e)

-- widths

goes_width : (nodes : List Node) (ss : List Symbol) (kinds : List Kind) → Goes nodes ss kinds → width_of (length ss) nodes ≤ length kinds
goes_width [] ss kinds g = let e = ap (λ q. width_of (length q) []) g in omega (arith, e)
goes_width (Leaf ∷ nodes) [] kinds g = absurd g
goes_width (Leaf ∷ nodes) (Of p ∷ ss) kinds g = absurd g
goes_width (Leaf ∷ nodes) (Word w ∷ ss) [] g = absurd g
goes_width (Leaf ∷ nodes) (Word w ∷ ss) (k ∷ kinds) g = let h = goes_width nodes ss kinds g.1 in omega (arith, h)
goes_width (Inner r ∷ nodes) [] kinds g = absurd g
goes_width (Inner r ∷ nodes) (Word w ∷ ss) kinds g = absurd g
goes_width (Inner r ∷ nodes) (Of p ∷ ss) kinds g =
    let h = goes_width nodes (right_side r ++ ss) kinds g.2 in let e = ap (λ q. width_of q nodes) (length-append (right_side r) ss) in omega (arith, h, e)

-- so many of the tokens after so many are no more than all
pub fewer : (b n : ℕ) (toks tokens : List Token) → toks ≡ drop n tokens → length (take b toks) ≤ length tokens
fewer b n toks tokens e = let a = length-take b toks in let f = ap length e in let c = length-drop n tokens in omega (arith, a, f, c)

declared_rec : (p : Place) (v : Phrase) → PhraseRec v → TopRec (declaration p v)
declared_rec p (of_exp e) h = (tt, (h, tt), tt)
declared_rec p v h = top_rec v h

-- So many tokens stand before the declaration, and these from its first one on.
module _ (unit : List ℕ) (tokens : List Token) (n : ℕ) (fits : List Fit) (own : List Node) (left : List Token)
    (reads : (j : ℕ) (t : Token) → slice_get left j ≡ Some t → slice_get (drop n tokens) (0 + j) ≡ Some t) (rise : FitsRise 0 fits) (built : AreBuilt fits) (end : End) (spells : Spells unit tokens end) (short : length left ≤ length tokens)
    (old : List Symbol) (past : List Node) (next : Option Kind) (rest : Part) (outer : is_outer rest ≡ true) (come : AllCome fits (events_of unit tokens (own ++ past) (starts_of n (own ++ past)))) where
  dotted : (j : ℕ) (t : Token) → slice_get (drop n tokens) j ≡ Some t → is_long t.kind ≡ true → (long_id (slice_range unit t.span.start t.span.«end»)).path ≡ [] → ⊥
  dotted j t e l =
      kind_path t.kind (slice_range unit t.span.start t.span.«end») l
      (token_in_order unit tokens 0 (n + j) t (tokens_are_in_order unit tokens end spells) (sym (counted unit tokens n fits own left reads j) ∙ e))

  module _ (rule : UnitRule) (clean : flaws (text_at unit tokens) fits n (Inner (Units rule) ∷ own) ≡ []) where
    abbrev marks : List Mark
    marks = marks_of 0 n (start ∷ []) (Inner (Units rule) ∷ own)

    none : flaws_of (text_at unit tokens) fits [] marks ≡ []
    none = (both_none (flaws_of (text_at unit tokens) fits [] marks) (scoped_of (text_at unit tokens) (ends_of 0 (Inner (Units rule) ∷ own)) marks marks) clean).0

    -- the first phrase, in the first of these contexts
    first_rec : (q : Part) (c : Context) (cs : List Context) (kinds : List Kind) → Leads (own ++ past) (Of q ∷ old) kinds next (Of rest ∷ []) → Goes own (Of q ∷ []) (kinds_of left) → (in_sequence (Of q) c.word ≡ true → ⊥) → (is_atom c.word ≡ true → ⊥) → marks ≡ marks_of 1 n (c ∷ cs) own → PhraseRec (made unit tokens n fits own left reads)
    first_rec q c cs kinds leads g single plain whole =
        (recs (source unit tokens n fits own left reads) tokens marks (counted unit tokens n fits own left reads) none apart (few_tokens unit tokens end spells) rise built dotted old past next rest outer own 1 0 n n (Of q ∷ []) (c ∷ cs) left kinds leads coming refl (omega arith) g tt reads (λ m st. subst (Stands m) (sym whole) st) [] whole few
        0 (omega arith) (n + width_of 0 own) (n + width_of 1 own) refl refl).0
      where
        coming : Coming unit tokens next rest outer fits n (Of q ∷ old) (own ++ past)
        coming = every_more (λ fit. ComesFrom fit (events_of unit tokens (own ++ past) (starts_of n (own ++ past)))) (λ fit. n + ahead (Of q ∷ old) ≤ fit.token → ComesFrom fit (events_of unit tokens (own ++ past) (starts_of n (own ++ past)))) (λ fit h l. h) fits come

        narrow : width_of 1 own ≤ 1048576
        narrow = let w = goes_width own (Of q ∷ []) (kinds_of left) g in let k = length-map left (λ token. token.kind) in let f = few_tokens unit tokens end spells in omega (arith, w, k, short, f)

        few : n + width_of 1 own ≤ n + 1048576
        few = omega (arith, narrow)

        apart : Apart marks
        apart = subst Apart (sym whole) (marks_apart own 1 n 0 (Of q ∷ []) (c ∷ cs) (kinds_of left) g tt ((λ h. absurd (single h)), (λ h. absurd (plain h)), tt) (omega (arith, narrow)))

  pub top_recursive : (kinds : List Kind) → Leads (own ++ past) (Of Top ∷ old) kinds next (Of rest ∷ []) → flaws (text_at unit tokens) fits n (Inner (Units U.StartTop) ∷ own) ≡ [] → Goes own (Of Top ∷ []) (kinds_of left) → (p : Place) → TopRec (declaration p (made unit tokens n fits own left reads))
  top_recursive kinds leads clean g p = declared_rec p (made unit tokens n fits own left reads) (first_rec U.StartTop clean Top start (start ∷ []) kinds leads g (λ e. false≢true e) (λ e. false≢true e) refl)

  pub next_recursive : (kinds : List Kind) → Leads (own ++ past) (Of Top ∷ old) kinds next (Of rest ∷ []) → flaws (text_at unit tokens) fits n (Inner (Units U.AfterTopTop) ∷ own) ≡ [] → Goes own (Of Top ∷ []) (kinds_of left) → (p : Place) → TopRec (declaration p (made unit tokens n fits own left reads))
  next_recursive kinds leads clean g p = declared_rec p (made unit tokens n fits own left reads) (first_rec U.AfterTopTop clean Top start (start ∷ []) kinds leads g (λ e. false≢true e) (λ e. false≢true e) refl)

  pub exp_recursive : (kinds : List Kind) → Leads (own ++ past) (Of Exp ∷ old) kinds next (Of rest ∷ []) → flaws (text_at unit tokens) fits n (Inner (Units U.StartExp) ∷ own) ≡ [] → Goes own (Of Exp ∷ []) (kinds_of left) → (p : Place) → TopRec (declaration p (made unit tokens n fits own left reads))
  exp_recursive kinds leads clean g p = let c = entered O.Value 0 n start in declared_rec p (made unit tokens n fits own left reads) (first_rec U.StartExp clean Exp c (c ∷ []) kinds leads g (λ e. false≢true e) (λ e. false≢true e) refl)
