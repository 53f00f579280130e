-- The phrases of a declaration beside its marks and its sequences, node by node: what stands after `rec` may stand there.
use Rattle.std.proofs.Common.{◌≡◌, ℕ, zero, suc, ◌+◌, ◌<◌, ◌≤◌, List, [], ◌∷◌, ◌++◌, Bool, true, false, Option, Some, None, length, get_or, drop, append_assoc, refl, sym, ap, ◌∙◌, subst, inl, arith}
use Rattle.std.specs.Prelude.{◌-◌, slice_get, slice_range, if◌then◌else◌}
use Rattle.std.specs.List.{cons_option}
use Rattle.std.proofs.lemmas.Option.{slice_get_within}
use Rattle.std.proofs.lemmas.Bool.{false≢true, ltb-true}
use Rattle.std.proofs.lemmas.List.{get_or-take, get_or-drop, get_or_append_left, get_or-append-add, drop-drop, length-append}
use Rattle.sml_lex.specs.declared.fault.Place.{Place}
use Rattle.sml_lex.specs.declared.token.Kind.{Kind}
use Rattle.sml_lex.specs.declared.token.Kind.TheVariants as K
use Rattle.sml_lex.specs.declared.token.Token.{Token}
use Rattle.sml_tree.specs.Trees.{Id}
use Rattle.sml_tree.specs.Types.{Tys}
use Rattle.sml_tree.specs.Patterns.{Pats, no_pat, and_pat}
use Rattle.sml_objects.specs.Appearance.{Stands}
use Rattle.sml_derived.specs.Derived.{count}
use Rattle.sml_fixity.specs.declared.sequences.Step.{Step}
use Rattle.sml_fixity.specs.Shapes.{Shape, tree, headed}
use Rattle.sml_read.specs.declared.grammar.Part.{Part}
use Rattle.sml_read.specs.declared.grammar.Symbol.{Symbol}
use Rattle.sml_read.specs.declared.grammar.Symbol.TheVariants.{Word, Of}
use Rattle.sml_read.specs.declared.grammar.Rule.{Rule}
use Rattle.sml_read.specs.declared.grammar.Rule.TheVariants as G
use Rattle.sml_read.specs.declared.grammar.UnitRule.{UnitRule}
use Rattle.sml_read.specs.declared.grammar.UnitRule.TheVariants as U
use Rattle.sml_read.specs.declared.grammar.StructureRule.{StructureRule}
use Rattle.sml_read.specs.declared.grammar.StructureRule.TheVariants as R
use Rattle.sml_read.specs.declared.grammar.SignatureRule.{SignatureRule}
use Rattle.sml_read.specs.declared.grammar.SignatureRule.TheVariants as H
use Rattle.sml_read.specs.declared.grammar.SpecificationRule.{SpecificationRule}
use Rattle.sml_read.specs.declared.grammar.SpecificationRule.TheVariants as C
use Rattle.sml_read.specs.declared.grammar.DeclarationRule.{DeclarationRule}
use Rattle.sml_read.specs.declared.grammar.DeclarationRule.TheVariants as D
use Rattle.sml_read.specs.declared.grammar.ExpressionRule.{ExpressionRule}
use Rattle.sml_read.specs.declared.grammar.ExpressionRule.TheVariants as E
use Rattle.sml_read.specs.declared.grammar.PatternRule.{PatternRule}
use Rattle.sml_read.specs.declared.grammar.PatternRule.TheVariants as P
use Rattle.sml_read.specs.declared.grammar.TypeRule.{TypeRule}
use Rattle.sml_read.specs.declared.grammar.TypeRule.TheVariants as T
use Rattle.sml_read.specs.declared.grammar.Node.{Node}
use Rattle.sml_read.specs.declared.grammar.Node.TheVariants.{Leaf, Inner}
use Rattle.sml_read.specs.Grammar.{right_side}
use Rattle.sml_read.specs.Parts.{part_of}
use Rattle.sml_read.specs.Spelling.{is_outer, kinds_of, Leads}
use Rattle.sml_read.specs.Extents.{starts_of}
use Rattle.sml_read.proofs.Tables.{each_rule, implies, implied}
use Rattle.sml_phrases.specs.Phrases.{Phrase, first, name_in, long_in, at}
use Rattle.sml_reach.specs.Events.{text_of, text_at, found_at, founds_of}
use Rattle.sml_reach.specs.Founds.{Atom, Found, nothing, word, sequence_in, left}
use Rattle.sml_reach.specs.Senses.{deed_of}
use Rattle.sml_rules.specs.Every.{Every}
use Rattle.sml_reach.specs.Fits.{Fit}
use Rattle.sml_reach.specs.Idents.{long_id}
use Rattle.sml_pat_sequences.specs.PatternSequences as Q
use Rattle.sml_flaws.specs.declared.role.Word.TheVariants as W
use Rattle.sml_flaws.specs.declared.role.Role.TheVariants as Roles
use Rattle.sml_flaws.specs.declared.mark.Context.{Context}
use Rattle.sml_flaws.specs.declared.mark.Mark.{Mark}
use Rattle.sml_flaws.specs.declared.mark.Mark.TheVariants as Mk
use Rattle.sml_flaws.specs.Roles.{roles_of, entry_of}
use Rattle.sml_flaws.specs.Marks.{start, entered, next, in_role, word_mark, rule_mark, mark_at, parts_of, marks_of}
use Rattle.sml_flaws.specs.Known.{is_used_in, is_used}
use Rattle.sml_flaws.specs.Flaws.{position, is_reserved, flaws_of}
use Rattle.sml_bare.specs.Derivations.{Source, place_at, token_phrase, word_phrase, shape_from, before_sequence, made_by, phrases_of}
use Rattle.sml_tree_laws.specs.Recursive.{RecPat}
use Rattle.sml_tree_laws.proofs.RecPhrases.{PhraseRec, free_rec}
use Rattle.sml_tree_laws.proofs.RecExpressions.{PartsRec, expression_rec}
use Rattle.sml_tree_laws.proofs.RecModules.{unit_rec, structure_rec}
use Rattle.sml_tree_laws.proofs.NoExpressions.{name_free, pattern_free, type_free, signature_free, specification_free}
use Rattle.sml_tree_laws.proofs.RecDeclarations.{HeadFree, declaration_rec, declaration_pat}
use Rattle.sml_tree_laws.proofs.RecPatterns.{starts, AtomsFrom, NameRec, VidRec, PatRec, PartsPat, Free, name_pat, pattern_pat}
use Rattle.sml_tree_laws.proofs.Layers.{vid_none, op_none}
use Rattle.sml_tree_laws.proofs.Links.{Marked, Link, PartsLink, IsOwn as IsOwnPattern, name_link, pattern_link, declaration_link, unit_link, structure_link, signature_link, specification_link, expression_link, type_link}
use Rattle.sml_tree_laws.proofs.ClauseNames.{identifier, Barred, barred_at}
use Rattle.sml_tree_laws.proofs.FunctionNames.{pick, IsOwn as IsOwnHead, head_free}
use Rattle.sml_tree_laws.proofs.SequenceTokens.{is_sequence}
use Rattle.sml_rules.proofs.EveryItem.{every_more}
use Rattle.sml_tree_laws.proofs.SequenceOrigins.{Own, Coming, coming_leaf, coming_inner, own_only, none_only}
use Rattle.sml_tree_laws.proofs.RecSequences.{AtomsRec, typed_rec, steps_pattern_rec}
use Rattle.sml_tree_laws.proofs.UsedNames.{kept_unused}
use Rattle.sml_tree_laws.proofs.SequenceFits.{FitsRise, FitsPattern, FitsHead, IsBuilt, AreBuilt, built_of, not_used, none_used}
use Rattle.sml_tree_laws.proofs.BoundWalk.{width_of, width_more, symbol}
use Rattle.sml_tree_laws.proofs.MarksApart.{Apart, Enough, enough_side}
use Rattle.sml_tree_laws.proofs.Clean.{may_stand, may_stand_for_itself}
use Rattle.sml_tree_laws.proofs.Walk.{Goes, below_more, after_more, stands_after, context_in, context_after}

-- the tables

abbrev begins_full : List Symbol → Bool
begins_full [] = false
begins_full (x ∷ ss) = starts x

full_so : (r : Rule) → starts (Of (part_of r)) ≡ true → begins_full (right_side r) ≡ true
full_so r = implied _ _ (each_rule (λ r. implies (starts (Of (part_of r))) (begins_full (right_side r))) refl r)

abbrev pub is_long : Kind → Bool
is_long K.LongAlphanumeric = true
is_long K.LongSymbolic = true
is_long K.LongStar = true
is_long _ = false

-- what isn't part of a pattern

unit_none : (used : ℕ → ℕ → Bool) (text : ℕ → Id) (rule : UnitRule) (c : Context) (lo hi : ℕ) (v : Phrase) → PatRec used text (Of (part_of (G.Units rule))) c lo hi v
unit_none used text U.StartTop c lo hi v = tt
unit_none used text _ c lo hi v = tt

structure_none : (used : ℕ → ℕ → Bool) (text : ℕ → Id) (rule : StructureRule) (c : Context) (lo hi : ℕ) (v : Phrase) → PatRec used text (Of (part_of (G.Structures rule))) c lo hi v
structure_none used text R.SealNone c lo hi v = tt
structure_none used text _ c lo hi v = tt

signature_none : (used : ℕ → ℕ → Bool) (text : ℕ → Id) (rule : SignatureRule) (c : Context) (lo hi : ℕ) (v : Phrase) → PatRec used text (Of (part_of (G.Signatures rule))) c lo hi v
signature_none used text H.SigMoreNone c lo hi v = tt
signature_none used text _ c lo hi v = tt

specification_none : (used : ℕ → ℕ → Bool) (text : ℕ → Id) (rule : SpecificationRule) (c : Context) (lo hi : ℕ) (v : Phrase) → PatRec used text (Of (part_of (G.Specifications rule))) c lo hi v
specification_none used text C.OfTyNone c lo hi v = tt
specification_none used text _ c lo hi v = tt

expression_none : (used : ℕ → ℕ → Bool) (text : ℕ → Id) (rule : ExpressionRule) (c : Context) (lo hi : ℕ) (v : Phrase) → PatRec used text (Of (part_of (G.Expressions rule))) c lo hi v
expression_none used text E.OpenWhile c lo hi v = tt
expression_none used text _ c lo hi v = tt

type_none : (used : ℕ → ℕ → Bool) (text : ℕ → Id) (rule : TypeRule) (c : Context) (lo hi : ℕ) (v : Phrase) → PatRec used text (Of (part_of (G.Types rule))) c lo hi v
type_none used text T.TyTup c lo hi v = tt
type_none used text _ c lo hi v = tt

leads_after : (next : Option Kind) (now : List Symbol) (w : Kind) (ss : List Symbol) (nodes : List Node) (kinds : List Kind) → Leads (Leaf ∷ nodes) (Word w ∷ ss) kinds next now → (others : List Kind) × Leads nodes ss others next now
leads_after next now w ss nodes [] h = absurd h
leads_after next now w ss nodes (k ∷ kinds) h = (kinds, h.1)

-- sequences

next_is : (i : ℕ) → i ≤ 1048577 → next i ≡ suc i
next_is i h = omega (arith, h)

atoms_rec : (used : ℕ → ℕ → Bool) (text : ℕ → Id) (n i : ℕ) (qs : Pats Place) → i + count qs ≤ 1048577 → AtomsFrom used text n i qs → AtomsRec (used n) i (Q.list_of_pats qs)
atoms_rec used text n i no_pat h k = tt
atoms_rec used text n i (and_pat q qs) h k =
    (k.0, atoms_rec used text n (suc i) qs (omega (arith, h)) (subst (λ j. AtomsFrom used text n j qs) (next_is i (omega (arith, h))) k.1))

abbrev pub uses : List Fit → ℕ → ℕ → Bool
uses fits n i = is_used fits (position n i)

shaped_rec : (fits : List Fit) (text : ℕ → Id) (n : ℕ) (s : Option Shape) (qs : Pats Place) → FitsRise 0 fits → AreBuilt fits → shape_from fits n ≡ s → count qs ≤ 1048577 → AtomsFrom (uses fits) text n 0 qs → RecPat (Q.shaped s qs)
shaped_rec fits text n None qs rise built e h k = tt
shaped_rec fits text n (Some (headed how)) qs rise built e h k = tt
shaped_rec fits text n (Some (tree steps)) qs rise built e h k = go (built_of fits n (tree steps) built e)
  where
    go : IsBuilt (tree steps) → RecPat (Q.shaped (Some (tree steps)) qs)
    go b =
        steps_pattern_rec (uses fits n) b.0 steps b.3 b.4
        (λ i kept. not_used n i fits 0 steps rise e (subst (λ ss. is_used_in n ss (position n i) ≡ false) (sym b.3) (kept_unused n i b.0 b.1 b.2 b.4 b.5 kept)))
        qs (atoms_rec (uses fits) text n 0 qs (omega (arith, h)) k)

sequence_rec : (fits : List Fit) (text : ℕ → Id) (n : ℕ) (s : Option Shape) (qs : Pats Place) (ts : Tys Place) → FitsRise 0 fits → AreBuilt fits → shape_from fits n ≡ s → count qs ≤ 1048577 → AtomsFrom (uses fits) text n 0 qs
    → RecPat (Q.sequence_pat s qs ts)
sequence_rec fits text n s qs ts rise built e h k = typed_rec (uses fits n) (Q.pat_place (Q.shaped s qs)) (Q.shaped s qs) ts (shaped_rec fits text n s qs rise built e h k)

-- tokens

kind_rec : (k : Kind) (p : Place) (t : List ℕ) → PhraseRec (word_phrase k p t)
kind_rec K.Alphanumeric p t = tt
kind_rec K.Integer p t = tt
kind_rec _ p t = tt

token_rec : (unit : List ℕ) (p : Place) (o : Option Token) → PhraseRec (token_phrase unit p o)
token_rec unit p None = tt
token_rec unit p (Some t) = kind_rec t.kind p _

-- The marks are all of a declaration, whose source is s, and have no flaw; its sequences are known by their tokens, and long
-- identifiers have a path.
module _ (s : Source) (tokens : List Token) (all : List Mark) (own : (n : ℕ) → slice_get s.tokens n ≡ slice_get tokens (s.begun + n)) (clean : flaws_of (text_at s.unit tokens) s.fits [] all ≡ [])
    (apart : Apart all) (total : length tokens ≤ 1048576) (rise : FitsRise 0 s.fits) (built : AreBuilt s.fits)
    (dotted : (n : ℕ) (t : Token) → slice_get s.tokens n ≡ Some t → is_long t.kind ≡ true → (long_id (slice_range s.unit t.span.start t.span.«end»)).path ≡ [] → ⊥)
    (old : List Symbol) (past : List Node) (next : Option Kind) (rest_part : Part) (outer : is_outer rest_part ≡ true) where
  abbrev text : ℕ → Id
  text = text_at s.unit tokens

  abbrev used : ℕ → ℕ → Bool
  used = uses s.fits

  abbrev Full : Symbol → ℕ → ℕ → Type 0
  Full x lo hi = starts x ≡ true → lo < hi

  abbrev pub Claim : Symbol → Context → ℕ → ℕ → Phrase → Found → Type 0
  Claim x c lo hi v f = PhraseRec v × PatRec used text x c lo hi v × Full x lo hi × Link text s.fits all x c lo hi v f

  -- what is found of nodes, and what stands after the declaration
  abbrev founds : ℕ → List Node → List Found
  founds m nodes = founds_of text (nodes ++ past) (starts_of m (nodes ++ past))

  -- a token

  module _ (c : Context) (w : Kind) (a n : ℕ) (p : Place) (t : Token) (is : slice_get s.tokens n ≡ Some t) (kind : w ≡ t.kind) (at_text : text a ≡ slice_range s.unit t.span.start t.span.«end») (rest : List Mark)
      (inc : (m : Mark) → Stands m (cons_option (word_mark c.word a c) rest) → Stands m all) where
    v : Phrase
    v = token_phrase s.unit p (slice_get s.tokens n)

    name_is : ((p : Place) (bytes : List ℕ) → (name_in (word_phrase w p bytes)).id ≡ bytes) → text a ≡ (name_in (token_phrase s.unit p (slice_get s.tokens n))).id
    name_is f =
        at_text
        ∙ sym (ap (λ o. (name_in (token_phrase s.unit p o)).id) is ∙ subst (λ k. (name_in (word_phrase k p (slice_range s.unit t.span.start t.span.«end»))).id ≡ slice_range s.unit t.span.start t.span.«end») kind (f p _))

    unused : (x : Id) → text a ≡ x → NameRec used text c x
    unfolding Stands
    unused x e atom binds u =
        subst (λ q. is_reserved q ≡ false) e
        (may_stand text s.fits all clean c.sequence c.index a
        (inc (Mk.Identifier (record { sequence = c.sequence; index = c.index; token = a; binds = true })) (subst (λ q. Stands (Mk.Identifier (record { sequence = c.sequence; index = c.index; token = a; binds = true })) (cons_option (word_mark q a c) rest)) (sym atom) (inl (ap (λ b. Mk.Identifier (record { sequence = c.sequence; index = c.index; token = a; binds = b })) (sym binds))))) u)

    marked : a ≤ 1048576 → (x : Id) → text a ≡ x → c.word ≡ W.Atom → Marked text s.fits all c a (suc a) x
    unfolding Stands
    marked few x e atom =
        (a, omega arith, omega arith, few, inc (identifier c.sequence c.index a c.binds) (subst (λ q. Stands (identifier c.sequence c.index a c.binds) (cons_option (word_mark q a c) rest)) (sym atom) (inl refl)), e)

    named : text a ≡ (name_in (token_phrase s.unit p (slice_get s.tokens n))).id → VidRec used text c a (suc a) (token_phrase s.unit p (slice_get s.tokens n))
    named e = (refl, e, unused _ e)

    path_of : ((p : Place) (bytes : List ℕ) → (long_in (word_phrase w p bytes)).id ≡ long_id bytes) → is_long w ≡ true → (long_in (token_phrase s.unit p (slice_get s.tokens n))).id.path ≡ [] → ⊥
    path_of f l e =
        dotted n t is (subst (λ k. is_long k ≡ true) kind l)
        (sym (ap (λ q. q.path) (ap (λ o. (long_in (token_phrase s.unit p o)).id) is ∙ subst (λ k. (long_in (word_phrase k p (slice_range s.unit t.span.start t.span.«end»))).id ≡ long_id (slice_range s.unit t.span.start t.span.«end»)) kind (f p _))) ∙ e)

  leaf_pat : (w : Kind) (c : Context) (a n : ℕ) (p : Place) (t : Token) (is : slice_get s.tokens n ≡ Some t) (kind : w ≡ t.kind) (at_text : text a ≡ slice_range s.unit t.span.start t.span.«end») (rest : List Mark)
      (inc : (m : Mark) → Stands m (cons_option (word_mark c.word a c) rest) → Stands m all) → PatRec used text (Word w) c a (suc a) (token_phrase s.unit p (slice_get s.tokens n))
  leaf_pat K.Alphanumeric c a n p t is kind at_text rest inc = named c K.Alphanumeric a n p t is kind at_text rest inc (name_is c K.Alphanumeric a n p t is kind at_text rest inc (λ p b. refl))
  leaf_pat K.Symbolic c a n p t is kind at_text rest inc = named c K.Symbolic a n p t is kind at_text rest inc (name_is c K.Symbolic a n p t is kind at_text rest inc (λ p b. refl))
  leaf_pat K.Star c a n p t is kind at_text rest inc = named c K.Star a n p t is kind at_text rest inc (name_is c K.Star a n p t is kind at_text rest inc (λ p b. refl))
  leaf_pat K.LongAlphanumeric c a n p t is kind at_text rest inc = path_of c K.LongAlphanumeric a n p t is kind at_text rest inc (λ p b. refl) refl
  leaf_pat K.LongSymbolic c a n p t is kind at_text rest inc = path_of c K.LongSymbolic a n p t is kind at_text rest inc (λ p b. refl) refl
  leaf_pat K.LongStar c a n p t is kind at_text rest inc = path_of c K.LongStar a n p t is kind at_text rest inc (λ p b. refl) refl
  leaf_pat _ c a n p t is kind at_text rest inc = tt

  leaf_link : (w : Kind) (c : Context) (a n m : ℕ) (p : Place) (t : Token) (is : slice_get s.tokens n ≡ Some t) (kind : w ≡ t.kind) (at_text : text a ≡ slice_range s.unit t.span.start t.span.«end») (rest : List Mark)
      (inc : (m : Mark) → Stands m (cons_option (word_mark c.word a c) rest) → Stands m all) → a ≤ 1048576 → Link text s.fits all (Word w) c a (suc a) (token_phrase s.unit p (slice_get s.tokens n)) (word m)
  leaf_link K.Alphanumeric c a n m p t is kind at_text rest inc few =
      (refl, marked c K.Alphanumeric a n p t is kind at_text rest inc few _ (name_is c K.Alphanumeric a n p t is kind at_text rest inc (λ p b. refl)))
  leaf_link K.Symbolic c a n m p t is kind at_text rest inc few =
      (refl, marked c K.Symbolic a n p t is kind at_text rest inc few _ (name_is c K.Symbolic a n p t is kind at_text rest inc (λ p b. refl)))
  leaf_link K.Star c a n m p t is kind at_text rest inc few =
      (refl, marked c K.Star a n p t is kind at_text rest inc few _ (name_is c K.Star a n p t is kind at_text rest inc (λ p b. refl)))
  leaf_link _ c a n m p t is kind at_text rest inc few = refl

  -- a phrase by a rule, from the phrases after its node

  module _ (i a n m : ℕ) (c : Context) (t : ℕ → ℕ) (vs : List Phrase) (fs : List Found) (rest : List Mark) (at_token : a ≡ s.begun + n) (same : m ≡ a) (begun : t 0 ≡ a) (mono : (k : ℕ) → t k ≤ t (suc k)) where
    abbrev Parts : Rule → Type 0
    Parts r = (k : ℕ) → k < length (right_side r) → Claim (symbol (right_side r) k) (in_role (get_or (roles_of r) k Roles.Same) (entered (entry_of r) i a c)) (t k) (t (suc k)) (at vs k) (get_or fs k nothing)

    -- no sequence begins at a node where none is found
    abbrev pub Absent : Rule → Type 0
    Absent r = is_sequence (deed_of r) ≡ true → sequence_in (found_at text m r fs) ≡ None → Every (λ fit. fit.token ≡ m + before_sequence r → ⊥) s.fits

    -- a sequence with the token of the phrase's is the phrase's
    abbrev pub Owns : Rule → Type 0
    Owns r = is_sequence (deed_of r) ≡ true → Every (λ fit. fit.token ≡ m + before_sequence r → Own (deed_of r) (found_at text m r fs) fit) s.fits

    abbrev pub Bars : Rule → Type 0
    Bars r = r ≡ G.Declarations D.AtPatsNone → Barred text s.fits all c.sequence a

    phrases : (r : Rule) → Parts r → PartsRec r vs
    phrases r h k b = (h k (ltb-true k (length (right_side r)) b)).0

    pats : (r : Rule) → Parts r → PartsPat used text (entered (entry_of r) i a c) t r vs
    pats r h k b = let x = h k (ltb-true k (length (right_side r)) b) in (x.1, x.2)

    puns : (rule : PatternRule) → ((m : Mark) → Stands m (cons_option (rule_mark (G.Patterns rule) a c) rest) → Stands m all) → c.binds ≡ true → rule ≡ P.RowRestTyped → is_reserved (text (a - 1)) ≡ false
    unfolding Stands
    puns rule inc b same =
        may_stand_for_itself text s.fits all clean (a - 1)
        (inc (Mk.Pun (a - 1)) (subst (λ r. Stands (Mk.Pun (a - 1)) (cons_option (rule_mark (G.Patterns r) a c) rest)) (sym same) (subst (λ q. Stands (Mk.Pun (a - 1)) (cons_option (if q then Some (Mk.Pun (a - 1)) else None) rest)) (sym b) (inl refl))))

    links : (r : Rule) → Parts r → PartsLink text s.fits all (entered (entry_of r) i a c) t vs fs r
    links r h k b =
        let l = ltb-true k (length (right_side r)) b in
        subst (λ f. Link text s.fits all (symbol (right_side r) k) (in_role (get_or (roles_of r) k Roles.Same) (entered (entry_of r) i a c)) (t k) (t (suc k)) (at vs k) f) (sym (get_or-take (length (right_side r)) fs k nothing l)) (h k l).3

    unused_at : Every (λ fit. fit.token ≡ m + 0 → ⊥) s.fits → used a 0 ≡ false
    unused_at h = none_used s.fits a 0 (every_more (λ fit. fit.token ≡ m + 0 → ⊥) (λ fit. fit.token ≡ a → ⊥) (λ fit k e. k (omega (arith, e, same))) s.fits h)

    free : (rule : PatternRule) → Absent (G.Patterns rule) → Parts (G.Patterns rule) → Free used text a rule vs
    free P.PatAlphanumeric absent h = λ e. unused_at (absent refl (vid_none text m fs vs (h 1 (omega arith)).3.1 e))
    free P.PatSymbolic absent h = λ e. unused_at (absent refl (vid_none text m fs vs (h 1 (omega arith)).3.1 e))
    free P.PatStar absent h = λ e. unused_at (absent refl (vid_none text m fs vs (h 1 (omega arith)).3.1 e))
    free P.BarePatAlphanumeric absent h = λ e. unused_at (absent refl (vid_none text m fs vs (h 1 (omega arith)).3.1 e))
    free P.BarePatSymbolic absent h = λ e. unused_at (absent refl (vid_none text m fs vs (h 1 (omega arith)).3.1 e))
    free P.BarePatStar absent h = λ e. unused_at (absent refl (vid_none text m fs vs (h 1 (omega arith)).3.1 e))
    free P.PatOp absent h = λ e. unused_at (absent refl (op_none text m fs vs (h 1 (omega arith)).3.1 e))
    free P.BarePatOp absent h = λ e. unused_at (absent refl (op_none text m fs vs (h 1 (omega arith)).3.1 e))
    free _ absent h = tt

    abbrev Inc : Rule → Type 0
    Inc r = (m : Mark) → Stands m (cons_option (rule_mark r a c) rest) → Stands m all

    made_pat : (r : Rule) → Absent r → Inc r → t (length (right_side r)) ≤ a + 1048576 → Parts r → PatRec used text (Of (part_of r)) c (t 0) (t (length (right_side r))) (made_by s r n vs)
    made_pat (G.Names rule) absent inc few h = name_pat used text rule i a c t _ vs (pats (G.Names rule) h)
    made_pat (G.Patterns rule) absent inc few h =
        pattern_pat used text rule i a c t _ begun few mono
        (λ qs ts l k. sequence_rec s.fits text a _ qs ts rise built (ap (shape_from s.fits) (let e : a ≡ s.begun + (n + 0) = omega (arith, at_token) in e)) l k)
        (puns rule inc) _ vs (free rule absent h) (pats (G.Patterns rule) h)
    made_pat (G.Declarations rule) absent inc few h = declaration_pat used text rule i a c t _ _ vs (pats (G.Declarations rule) h)
    made_pat (G.Units rule) absent inc few h = unit_none used text rule c _ _ _
    made_pat (G.Structures rule) absent inc few h = structure_none used text rule c _ _ _
    made_pat (G.Signatures rule) absent inc few h = signature_none used text rule c _ _ _
    made_pat (G.Specifications rule) absent inc few h = specification_none used text rule c _ _ _
    made_pat (G.Expressions rule) absent inc few h = expression_none used text rule c _ _ _
    made_pat (G.Types rule) absent inc few h = type_none used text rule c _ _ _

    abbrev shape_here : Option Shape
    shape_here = shape_from s.fits (s.begun + (n + 0))

    own_fit : (r : Rule) → is_sequence (deed_of r) ≡ true → before_sequence r ≡ 0 → Owns r → (shape : Shape) → shape_here ≡ Some shape → (fit : Fit) × Own (deed_of r) (found_at text m r fs) fit × (fit.shape ≡ shape)
    own_fit r d none owns shape e =
        pick (λ fit. Own (deed_of r) (found_at text m r fs) fit) s.fits (m + before_sequence r) shape (owns d) (ap (shape_from s.fits) (let f : m + before_sequence r ≡ s.begun + (n + 0) = omega (arith, same, at_token, none) in f) ∙ e)

    abbrev PatternAt : PatternRule → Type 0
    PatternAt rule = (steps : List Step) → shape_here ≡ Some (tree steps) → (atoms : List Atom) × (sequence_in (found_at text m (G.Patterns rule) fs) ≡ Some atoms) × FitsPattern atoms (tree steps)

    pattern_own : (rule : PatternRule) → Owns (G.Patterns rule) → IsOwnPattern text s.fits all i a m c t shape_here vs fs begun mono rule
    pattern_own P.PatOpenRound owns = λ steps e. let x = own_fit (G.Patterns P.PatOpenRound) refl refl owns (tree steps) e in (x.1.1, x.1.2, subst (FitsPattern x.1.1) x.2 x.1.3.1)
    pattern_own P.PatAlphanumeric owns = λ steps e. let x = own_fit (G.Patterns P.PatAlphanumeric) refl refl owns (tree steps) e in (x.1.1, x.1.2, subst (FitsPattern x.1.1) x.2 x.1.3.1)
    pattern_own P.PatSymbolic owns = λ steps e. let x = own_fit (G.Patterns P.PatSymbolic) refl refl owns (tree steps) e in (x.1.1, x.1.2, subst (FitsPattern x.1.1) x.2 x.1.3.1)
    pattern_own P.PatStar owns = λ steps e. let x = own_fit (G.Patterns P.PatStar) refl refl owns (tree steps) e in (x.1.1, x.1.2, subst (FitsPattern x.1.1) x.2 x.1.3.1)
    pattern_own P.BarePatAlphanumeric owns = λ steps e. let x = own_fit (G.Patterns P.BarePatAlphanumeric) refl refl owns (tree steps) e in (x.1.1, x.1.2, subst (FitsPattern x.1.1) x.2 x.1.3.1)
    pattern_own P.BarePatSymbolic owns = λ steps e. let x = own_fit (G.Patterns P.BarePatSymbolic) refl refl owns (tree steps) e in (x.1.1, x.1.2, subst (FitsPattern x.1.1) x.2 x.1.3.1)
    pattern_own P.BarePatStar owns = λ steps e. let x = own_fit (G.Patterns P.BarePatStar) refl refl owns (tree steps) e in (x.1.1, x.1.2, subst (FitsPattern x.1.1) x.2 x.1.3.1)
    pattern_own P.PatOp owns = λ steps e. let x = own_fit (G.Patterns P.PatOp) refl refl owns (tree steps) e in (x.1.1, x.1.2, subst (FitsPattern x.1.1) x.2 x.1.3.1)
    pattern_own P.BarePatOp owns = λ steps e. let x = own_fit (G.Patterns P.BarePatOp) refl refl owns (tree steps) e in (x.1.1, x.1.2, subst (FitsPattern x.1.1) x.2 x.1.3.1)
    pattern_own P.PatOtherAtPat owns = λ steps e. let x = own_fit (G.Patterns P.PatOtherAtPat) refl refl owns (tree steps) e in (x.1.1, x.1.2, subst (FitsPattern x.1.1) x.2 x.1.3.1)
    pattern_own P.BarePatOtherAtPat owns = λ steps e. let x = own_fit (G.Patterns P.BarePatOtherAtPat) refl refl owns (tree steps) e in (x.1.1, x.1.2, subst (FitsPattern x.1.1) x.2 x.1.3.1)
    pattern_own _ owns = tt

    abbrev shape_so : shape_from s.fits a ≡ shape_here
    shape_so = ap (shape_from s.fits) (let e : a ≡ s.begun + (n + 0) = omega (arith, at_token) in e)

    head_own : (rule : DeclarationRule) → Owns (G.Declarations rule) → IsOwnHead text s.fits all i a m c t shape_here vs fs begun mono shape_so rule
    head_own D.FunDecOpenRound owns = λ how e. let x = own_fit (G.Declarations D.FunDecOpenRound) refl refl owns (headed how) e in (x.1.1, x.1.2, subst (FitsHead x.1.1) x.2 x.1.3.1)
    head_own D.FunDecBareAtPat owns = λ how e. let x = own_fit (G.Declarations D.FunDecBareAtPat) refl refl owns (headed how) e in (x.1.1, x.1.2, subst (FitsHead x.1.1) x.2 x.1.3.1)
    head_own D.ClausesAtPat owns = λ how e. let x = own_fit (G.Declarations D.ClausesAtPat) refl refl owns (headed how) e in (x.1.1, x.1.2, subst (FitsHead x.1.1) x.2 x.1.3.1)
    head_own _ owns = tt

    heads : (rule : DeclarationRule) (p : Place) → Owns (G.Declarations rule) → Parts (G.Declarations rule) → HeadFree (shape_from s.fits (s.begun + (n + before_sequence (G.Declarations rule)))) p rule vs
    heads D.FunDecOpenRound p owns h = head_free text s.fits all i a m c t shape_here vs fs begun mono shape_so D.FunDecOpenRound p (head_own D.FunDecOpenRound owns) (links (G.Declarations D.FunDecOpenRound) h)
    heads D.FunDecBareAtPat p owns h = head_free text s.fits all i a m c t shape_here vs fs begun mono shape_so D.FunDecBareAtPat p (head_own D.FunDecBareAtPat owns) (links (G.Declarations D.FunDecBareAtPat) h)
    heads D.ClausesAtPat p owns h = head_free text s.fits all i a m c t shape_here vs fs begun mono shape_so D.ClausesAtPat p (head_own D.ClausesAtPat owns) (links (G.Declarations D.ClausesAtPat) h)
    heads _ p owns h = tt

    bars_at : (rule : DeclarationRule) → Bars (G.Declarations rule) → rule ≡ D.AtPatsNone → Barred text s.fits all c.sequence (t 0)
    bars_at rule bars e = subst (Barred text s.fits all c.sequence) (sym begun) (bars (ap G.Declarations e))

    made_link : (r : Rule) → Owns r → Bars r → Parts r → Link text s.fits all (Of (part_of r)) c (t 0) (t (length (right_side r))) (made_by s r n vs) (left (deed_of r) (found_at text m r fs))
    made_link (G.Names rule) owns bars h = name_link text s.fits all rule m c t _ vs fs (links (G.Names rule) h)
    made_link (G.Patterns rule) owns bars h = pattern_link text s.fits all i a m c t _ vs fs begun mono rule _ (pattern_own rule owns) (links (G.Patterns rule) h)
    made_link (G.Declarations rule) owns bars h = declaration_link text s.fits all i a m c t _ vs fs begun mono rule _ (bars_at rule bars) (links (G.Declarations rule) h)
    made_link (G.Units rule) owns bars h = unit_link text s.fits all rule c _ _ _ _
    made_link (G.Structures rule) owns bars h = structure_link text s.fits all rule c _ _ _ _
    made_link (G.Signatures rule) owns bars h = signature_link text s.fits all rule c _ _ _ _
    made_link (G.Specifications rule) owns bars h = specification_link text s.fits all rule c _ _ _ _
    made_link (G.Expressions rule) owns bars h = expression_link text s.fits all rule c _ _ _ _
    made_link (G.Types rule) owns bars h = type_link text s.fits all rule c _ _ _ _

    made_rec : (r : Rule) → Owns r → Parts r → PhraseRec (made_by s r n vs)
    made_rec (G.Names rule) owns h = name_free PhraseRec free_rec rule _ vs (phrases (G.Names rule) h)
    made_rec (G.Units rule) owns h = unit_rec rule _ vs (phrases (G.Units rule) h)
    made_rec (G.Structures rule) owns h = structure_rec rule _ vs (phrases (G.Structures rule) h)
    made_rec (G.Signatures rule) owns h = signature_free PhraseRec free_rec rule _ vs (phrases (G.Signatures rule) h)
    made_rec (G.Specifications rule) owns h = specification_free PhraseRec free_rec rule _ vs (phrases (G.Specifications rule) h)
    made_rec (G.Declarations rule) owns h = declaration_rec used text rule i a c t _ _ vs (phrases (G.Declarations rule) h) (pats (G.Declarations rule) h) (heads rule _ owns h)
    made_rec (G.Expressions rule) owns h = expression_rec rule _ _ vs (phrases (G.Expressions rule) h)
    made_rec (G.Patterns rule) owns h = pattern_free PhraseRec free_rec rule _ _ vs (phrases (G.Patterns rule) h)
    made_rec (G.Types rule) owns h = type_free PhraseRec free_rec rule _ vs (phrases (G.Types rule) h)

    up : (d k n : ℕ) → n ≡ k + d → t k ≤ t n
    up zero k n e = let same = ap t (let f : k ≡ n = omega (arith, e) in f) in omega (arith, same)
    up (suc d) k zero e = absurd (omega (arith, e))
    up (suc d) k (suc n) e = let l = up d k n (omega (arith, e)) in let m = mono n in omega (arith, l, m)

    made_full : (r : Rule) → Parts r → starts (Of (part_of r)) ≡ true → t 0 < t (length (right_side r))
    made_full r h e = go (right_side r) (full_so r e) (λ b. (h 0 b).2)
      where
        go : (side : List Symbol) → begins_full side ≡ true → (0 < length side → starts (symbol side 0) ≡ true → t 0 < t 1) → t 0 < t (length side)
        go [] b f = absurd (false≢true b)
        go (x ∷ side) b f = let one = f (omega arith) b in let l = up (length side) 1 (suc (length side)) (omega arith) in omega (arith, one, l)

    pub made_claim : (r : Rule) → Absent r → Owns r → Bars r → Inc r → t (length (right_side r)) ≤ a + 1048576 → Parts r → Claim (Of (part_of r)) c (t 0) (t (length (right_side r))) (made_by s r n vs) (left (deed_of r) (found_at text m r fs))
    made_claim r absent owns bars inc few h = (made_rec r owns h, made_pat r absent inc few h, made_full r h, made_link r owns bars h)

  moved : (x : Symbol) (c : Context) (lo hi lo' hi' : ℕ) (v : Phrase) (f : Found) → lo ≡ lo' → hi ≡ hi' → Claim x c lo hi v f → Claim x c lo' hi' v f
  moved x c lo hi lo' hi' v f e e' h = subst (λ l. Claim x c l hi' v f) e (subst (λ k. Claim x c lo k v f) e' h)

  one_further : (before : List Mark) (o : Option Mark) (rest : List Mark) → before ++ cons_option o rest ≡ (before ++ cons_option o []) ++ rest
  one_further before None rest = sym (append_assoc before [] rest)
  one_further before (Some m) rest = sym (append_assoc before (m ∷ []) rest)

  -- all phrases that are after a node, each in its context
  pub recs : (nodes : List Node) (i n a m : ℕ) (ss : List Symbol) (cs : List Context) (toks : List Token) (kinds : List Kind) → Leads (nodes ++ past) (ss ++ old) kinds next (Of rest_part ∷ [])
      → Coming s.unit tokens next rest_part outer s.fits m (ss ++ old) (nodes ++ past) → m ≡ a → a ≡ s.begun + n → Goes nodes ss (kinds_of toks) → Enough ss cs
      → ((j : ℕ) (t : Token) → slice_get toks j ≡ Some t → slice_get s.tokens (n + j) ≡ Some t) → ((m : Mark) → Stands m (marks_of i a cs nodes) → Stands m all) → (before : List Mark) → all ≡ before ++ marks_of i a cs nodes → a + width_of (length ss) nodes ≤ s.begun + 1048576
      → (k : ℕ) → k < length ss → (lo hi : ℕ) → lo ≡ a + width_of k nodes → hi ≡ a + width_of (suc k) nodes
      → Claim (symbol ss k) (get_or cs k start) lo hi (at (phrases_of s nodes (starts_of n nodes)) k) (get_or (founds m nodes) k nothing)
  recs [] i n a m ss cs toks kinds leads coming same at_token g enough reads inc before whole few k h lo hi el eh = absurd (let e : length ss ≡ 0 = ap length g in omega (arith, h, e))
  recs (Leaf ∷ nodes) i n a m [] cs toks kinds leads coming same at_token g enough reads inc before whole few k h lo hi el eh = absurd g
  recs (Leaf ∷ nodes) i n a m (Of p ∷ ss) cs toks kinds leads coming same at_token g enough reads inc before whole few k h lo hi el eh = absurd g
  recs (Leaf ∷ nodes) i n a m (Word w ∷ ss) [] toks kinds leads coming same at_token g enough reads inc before whole few k h lo hi el eh = absurd enough
  recs (Leaf ∷ nodes) i n a m (Word w ∷ ss) (c ∷ cs) [] kinds leads coming same at_token g enough reads inc before whole few k h lo hi el eh = absurd g
  recs (Leaf ∷ nodes) i n a m (Word w ∷ ss) (c ∷ cs) (t ∷ toks) kinds leads coming same at_token g enough reads inc before whole few zero h lo hi el eh =
      moved (Word w) c a (suc a) lo hi (token_phrase s.unit (place_at s.unit s.tokens n) (slice_get s.tokens n)) (word m) (omega (arith, el)) (omega (arith, eh)) (
        token_rec s.unit (place_at s.unit s.tokens n) (slice_get s.tokens n),
        leaf_pat w c a n (place_at s.unit s.tokens n) t here g.0 (ap (λ o. text_of s.unit o) there) _ inc,
        (λ e. omega arith),
        leaf_link w c a n m (place_at s.unit s.tokens n) t here g.0 (ap (λ o. text_of s.unit o) there) _ inc (let l = slice_get_within tokens a t there in omega (arith, l, total)),
      )
    where
      here : slice_get s.tokens n ≡ Some t
      here = ap (slice_get s.tokens) (let e : n ≡ n + 0 = omega arith in e) ∙ reads 0 t refl

      there : slice_get tokens a ≡ Some t
      there = ap (slice_get tokens) at_token ∙ sym (own n) ∙ here
  recs (Leaf ∷ nodes) i n a m (Word w ∷ ss) (c ∷ cs) (t ∷ toks) kinds leads coming same at_token g enough reads inc before whole few (suc k) h lo hi el eh =
      let more = leads_after next (Of rest_part ∷ []) w (ss ++ old) (nodes ++ past) kinds leads in
      recs nodes (suc i) (suc n) (a + 1) (suc m) ss cs toks more.0 more.1 (coming_leaf s.unit tokens next rest_part outer s.fits m w (ss ++ old) (nodes ++ past) coming) (omega (arith, same)) (omega (arith, at_token)) g.1 enough
      (λ j t e. ap (slice_get s.tokens) (let f : suc n + j ≡ n + suc j = omega arith in f) ∙ reads (suc j) t e)
      (λ m st. inc m (stands_after m (word_mark c.word a c) _ st)) (before ++ cons_option (word_mark c.word a c) []) (whole ∙ one_further before (word_mark c.word a c) (marks_of (suc i) (a + 1) cs nodes)) (omega (arith, few))
      k (omega (arith, h)) lo hi (omega (arith, el)) (omega (arith, eh))
  recs (Inner r ∷ nodes) i n a m [] cs toks kinds leads coming same at_token g enough reads inc before whole few k h lo hi el eh = absurd g
  recs (Inner r ∷ nodes) i n a m (Word w ∷ ss) cs toks kinds leads coming same at_token g enough reads inc before whole few k h lo hi el eh = absurd g
  recs (Inner r ∷ nodes) i n a m (Of p ∷ ss) [] toks kinds leads coming same at_token g enough reads inc before whole few k h lo hi el eh = absurd enough
  recs (Inner r ∷ nodes) i n a m (Of p ∷ ss) (c ∷ cs) toks kinds leads coming same at_token g enough reads inc before whole few k h lo hi el eh =
      by_place
      (recs nodes (suc i) n a m (right_side r ++ ss) (parts_of i a c (Inner r) ++ cs) toks kinds
      (subst (λ q. Leads (nodes ++ past) q kinds next (Of rest_part ∷ [])) (sym (append_assoc (right_side r) ss old)) leads.2)
      (subst (λ q. Coming s.unit tokens next rest_part outer s.fits m q (nodes ++ past)) (sym (append_assoc (right_side r) ss old)) (coming_inner s.unit tokens next rest_part outer s.fits r p m (ss ++ old) (nodes ++ past) kinds leads.0 leads.2 coming))
      same at_token g.2 (enough_side (right_side r) (roles_of r) 0 (entered (entry_of r) i a c) ss cs enough) reads
      (λ m st. inc m (stands_after m (mark_at a c (Inner r)) _ st)) (before ++ cons_option (mark_at a c (Inner r)) []) (whole ∙ one_further before (mark_at a c (Inner r)) (marks_of (suc i) a (parts_of i a c (Inner r) ++ cs) nodes)) all_few)
      k h lo hi el eh
    where
      len : ℕ
      len = length (right_side r)

      vs : List Phrase
      vs = phrases_of s nodes (starts_of n nodes)

      fs : List Found
      fs = founds m nodes

      all_few : a + width_of (length (right_side r ++ ss)) nodes ≤ s.begun + 1048576
      all_few = let e = ap (λ q. width_of q nodes) (length-append (right_side r) ss) in omega (arith, few, e)

      own_few : a + width_of (length (right_side r)) nodes ≤ a + 1048576
      own_few = let m = width_more nodes len (len + length ss) (omega arith) in omega (arith, few, m, at_token)

      absent : is_sequence (deed_of r) ≡ true → sequence_in (found_at text m r fs) ≡ None → Every (λ fit. fit.token ≡ m + before_sequence r → ⊥) s.fits
      absent d e = none_only s.unit tokens next rest_part outer s.fits r p m (ss ++ old) (nodes ++ past) kinds leads.0 leads.2 coming d e

      owns : is_sequence (deed_of r) ≡ true → Every (λ fit. fit.token ≡ m + before_sequence r → Own (deed_of r) (found_at text m r fs) fit) s.fits
      owns d = own_only s.unit tokens next rest_part outer s.fits r p m (ss ++ old) (nodes ++ past) kinds leads.0 leads.2 coming d

      bars : r ≡ G.Declarations D.AtPatsNone → Barred text s.fits all c.sequence a
      bars e =
          barred_at text s.fits all apart clean before (record { function = c.function; sequence = c.sequence; atoms = c.index }) nodes (suc i) a (parts_of i a c (Inner r) ++ cs)
          (whole ∙ ap (λ q. before ++ cons_option (rule_mark q a c) (marks_of (suc i) a (parts_of i a c (Inner r) ++ cs) nodes)) e)

      after : ((k : ℕ) → k < length (right_side r ++ ss) → (lo hi : ℕ) → lo ≡ a + width_of k nodes → hi ≡ a + width_of (suc k) nodes → Claim (symbol (right_side r ++ ss) k) (get_or (parts_of i a c (Inner r) ++ cs) k start) lo hi (at vs k) (get_or fs k nothing))
          → (k : ℕ) → k < length (right_side r) → Claim (symbol (right_side r) k) (in_role (get_or (roles_of r) k Roles.Same) (entered (entry_of r) i a c)) (a + width_of k nodes) (a + width_of (suc k) nodes) (at vs k) (get_or fs k nothing)
      after deeper k b =
          subst (λ x. Claim x (in_role (get_or (roles_of r) k Roles.Same) (entered (entry_of r) i a c)) (a + width_of k nodes) (a + width_of (suc k) nodes) (at vs k) (get_or fs k nothing)) (get_or_append_left (right_side r) ss (Word K.Comma) k b)
          (subst (λ q. Claim (symbol (right_side r ++ ss) k) q (a + width_of k nodes) (a + width_of (suc k) nodes) (at vs k) (get_or fs k nothing))
          (context_in (roles_of r) (entered (entry_of r) i a c) 0 len cs k b ∙ ap (λ q. in_role (get_or (roles_of r) q Roles.Same) (entered (entry_of r) i a c)) (let e : 0 + k ≡ k = omega arith in e))
          (deeper k (below_more k (right_side r) ss b) (a + width_of k nodes) (a + width_of (suc k) nodes) refl refl))

      by_place : ((k : ℕ) → k < length (right_side r ++ ss) → (lo hi : ℕ) → lo ≡ a + width_of k nodes → hi ≡ a + width_of (suc k) nodes → Claim (symbol (right_side r ++ ss) k) (get_or (parts_of i a c (Inner r) ++ cs) k start) lo hi (at vs k) (get_or fs k nothing))
          → (k : ℕ) → k < length (Of p ∷ ss) → (lo hi : ℕ) → lo ≡ a + width_of k (Inner r ∷ nodes) → hi ≡ a + width_of (suc k) (Inner r ∷ nodes)
          → Claim (symbol (Of p ∷ ss) k) (get_or (c ∷ cs) k start) lo hi (at (made_by s r n vs ∷ drop len vs) k) (get_or (left (deed_of r) (found_at text m r fs) ∷ drop len fs) k nothing)
      by_place deeper zero h lo hi el eh =
          let e = ap (λ q. width_of q nodes) (let f : length (right_side r) + 0 ≡ length (right_side r) = omega arith in f) in
          moved (Of p) c (a + width_of 0 nodes) (a + width_of len nodes) lo hi (made_by s r n vs) (left (deed_of r) (found_at text m r fs)) (omega (arith, el)) (omega (arith, eh, e))
          (subst (λ q. Claim (Of q) c (a + width_of 0 nodes) (a + width_of len nodes) (made_by s r n vs) (left (deed_of r) (found_at text m r fs))) g.0
          (made_claim i a n m c (λ k. a + width_of k nodes) vs fs _ at_token same (omega arith) (λ k. let m = width_more nodes k (suc k) (omega arith) in omega (arith, m)) r absent owns bars inc own_few (after deeper)))
      by_place deeper (suc k) h lo hi el eh =
          let next = ap (λ q. width_of q nodes) (let e : len + suc k ≡ suc (len + k) = omega arith in e) in
          let x = deeper (len + k) (after_more k (right_side r) ss (omega (arith, h))) lo hi (omega (arith, el)) (omega (arith, eh, next)) in
          subst (λ f. Claim (symbol ss k) (get_or cs k start) lo hi (first (drop k (drop len vs))) f) (sym (get_or-drop len fs k nothing))
          (subst (λ q. Claim (symbol ss k) (get_or cs k start) lo hi (first q) (get_or fs (len + k) nothing)) (sym (drop-drop k len vs))
          (subst (λ y. Claim y (get_or cs k start) lo hi (at vs (len + k)) (get_or fs (len + k) nothing)) (get_or-append-add (right_side r) ss k (Word K.Comma))
          (subst (λ q. Claim (symbol (right_side r ++ ss) (len + k)) q lo hi (at vs (len + k)) (get_or fs (len + k) nothing)) (context_after (roles_of r) (entered (entry_of r) i a c) 0 len cs k (len + k) refl) x)))
