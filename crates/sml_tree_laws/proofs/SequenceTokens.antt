-- The sequences of a unit begin at tokens of their own, each after the one before.
use Rattle.std.proofs.Common.{◌≡◌, ℕ, suc, ◌+◌, ◌<◌, ◌≤◌, List, [], ◌∷◌, ◌++◌, Bool, true, false, Option, Some, None, length, get_or, take, refl, sym, ap, ◌∙◌, subst, arith}
use Rattle.std.specs.Prelude.{not, nat_lt, nat_le, slice_get, ◌&&◌, ◌||◌, if◌then◌else◌}
use Rattle.std.specs.List.{cons_option}
use Rattle.std.specs.Option.{option_map}
use Rattle.std.proofs.lemmas.Option.{same_Some}
use Rattle.std.proofs.lemmas.List.{get_or-take}
use Rattle.std.proofs.lemmas.Bool.{false≢true, ltb-true, leb-true}
use Rattle.sml_lex.specs.declared.token.Kind.{Kind}
use Rattle.sml_lex.specs.declared.token.Token.{Token}
use Rattle.sml_tree.specs.Trees.{Id}
use Rattle.sml_read.specs.declared.grammar.Part.{Part}
use Rattle.sml_read.specs.declared.grammar.Symbol.{Symbol}
use Rattle.sml_read.specs.declared.grammar.Symbol.TheVariants.{Word, Of}
use Rattle.sml_read.specs.declared.grammar.Rule.{Rule}
use Rattle.sml_read.specs.declared.grammar.Rule.TheVariants as G
use Rattle.sml_read.specs.declared.grammar.DeclarationRule.{DeclarationRule}
use Rattle.sml_read.specs.declared.grammar.DeclarationRule.TheVariants as D
use Rattle.sml_read.specs.declared.grammar.ExpressionRule.{ExpressionRule}
use Rattle.sml_read.specs.declared.grammar.ExpressionRule.TheVariants as E
use Rattle.sml_read.specs.declared.grammar.PatternRule.{PatternRule}
use Rattle.sml_read.specs.declared.grammar.PatternRule.TheVariants as P
use Rattle.sml_read.specs.declared.grammar.UnitRule.{UnitRule}
use Rattle.sml_read.specs.declared.grammar.UnitRule.TheVariants as U
use Rattle.sml_read.specs.declared.grammar.Node.{Node}
use Rattle.sml_read.specs.declared.grammar.Node.TheVariants.{Leaf, Inner}
use Rattle.sml_read.specs.Grammar.{right_side}
use Rattle.sml_read.specs.Parts.{part_of}
use Rattle.sml_read.specs.Spelling.{is_outer, Leads}
use Rattle.sml_read.specs.Extents.{starts_of}
use Rattle.sml_read.proofs.Tables.{each_rule, implies, implied}
use Rattle.sml_reach.specs.declared.sense.Sense.{Sense}
use Rattle.sml_reach.specs.declared.sense.Sense.TheVariants as S
use Rattle.sml_reach.specs.declared.sense.Deed.{Deed}
use Rattle.sml_reach.specs.declared.sense.Deed.TheVariants as Deeds
use Rattle.sml_reach.specs.Senses.{sense_of, deed_of, opens, closes}
use Rattle.sml_reach.specs.Founds.{Atom, Found, nothing, word, one, several, within, directed, atom, atom_in, atoms_in, typed_in, inner_in, before, from, found_by, sequence_in, left}
use Rattle.sml_fixity.specs.ItemNames.{Name, short, phrase}
use Rattle.sml_reach.specs.Events.{Event, begins, enters, leaves, directs, expression, pattern, head, are_itself, asked_of, text_at, found_at, founds_of, scope_event, event_of, events_of}
use Rattle.sml_reach.specs.Reach.{token_of}
use Rattle.sml_bare.specs.Derivations.{before_sequence}

-- parts that begin with a token, before any sequence in them
abbrev pub is_quiet : Part → Bool
is_quiet Part.Vid = true
is_quiet Part.LongVid = true
is_quiet Part.Qualified = true
is_quiet Part.ExpVid = true
is_quiet Part.Constant = true
is_quiet Part.At = true
is_quiet Part.AtPat = true
is_quiet Part.BareAtPat = true
is_quiet Part.OtherAtPat = true
is_quiet _ = false

-- how many tokens stand at least before the next sequence
abbrev pub ahead : List Symbol → ℕ
ahead [] = 0
ahead (Word k ∷ ss) = suc (ahead ss)
ahead (Of p ∷ ss) = if is_quiet p then 1 else 0

pub more_ahead : (xs ss : List Symbol) → ahead xs ≤ ahead (xs ++ ss)
more_ahead [] ss = omega arith
more_ahead (Word k ∷ xs) ss = let h = more_ahead xs ss in omega (arith, h)
more_ahead (Of p ∷ xs) ss = omega arith

abbrev pub is_sequence : Deed → Bool
is_sequence Deeds.Expression = true
is_sequence Deeds.Pattern = true
is_sequence Deeds.Head = true
is_sequence _ = false

quiet_so : (r : Rule) → is_quiet (part_of r) ≡ true → nat_le 1 (ahead (right_side r)) ≡ true
quiet_so r = implied _ _ (each_rule (λ r. implies (is_quiet (part_of r)) (nat_le 1 (ahead (right_side r)))) refl r)

before_so : (r : Rule) → is_sequence (deed_of r) ≡ true → nat_lt (before_sequence r) (ahead (right_side r)) ≡ true
before_so r = implied _ _ (each_rule (λ r. implies (is_sequence (deed_of r)) (nat_lt (before_sequence r) (ahead (right_side r)))) refl r)

loud_so : (r : Rule) → is_sequence (deed_of r) ≡ true → not (is_quiet (part_of r)) ≡ true
loud_so r = implied _ _ (each_rule (λ r. implies (is_sequence (deed_of r)) (not (is_quiet (part_of r)))) refl r)

-- atomic phrases, each known by its first token

abbrev is_one : Part → Bool
is_one Part.LongVid = true
is_one Part.Qualified = true
is_one Part.ExpVid = true
is_one Part.At = true
is_one Part.AtPat = true
is_one Part.BareAtPat = true
is_one Part.OtherAtPat = true
is_one _ = false

abbrev is_atom_sense : Sense → Bool
is_atom_sense S.Short = true
is_atom_sense S.Long = true
is_atom_sense S.Op = true
is_atom_sense S.Phrase = true
is_atom_sense S.Round = true
is_atom_sense _ = false

abbrev is_passed : Sense → Bool
is_passed S.Passed = true
is_passed _ = false

abbrev begins_one : List Symbol → Bool
begins_one (Of p ∷ ss) = is_one p
begins_one _ = false

abbrev is_nothing : Deed → Bool
is_nothing Deeds.Nothing = true
is_nothing _ = false

one_so : (r : Rule) → is_one (part_of r) ≡ true → (is_atom_sense (sense_of r) || (is_passed (sense_of r) && begins_one (right_side r))) ≡ true
one_so r = implied _ _ (each_rule (λ r. implies (is_one (part_of r)) (is_atom_sense (sense_of r) || (is_passed (sense_of r) && begins_one (right_side r)))) refl r)

one_quiet : (r : Rule) → is_one (part_of r) ≡ true → is_nothing (deed_of r) ≡ true
one_quiet r = implied _ _ (each_rule (λ r. implies (is_one (part_of r)) (is_nothing (deed_of r))) refl r)

one_inner : (p : Part) → is_one p ≡ true → is_outer p ≡ true → ⊥
one_inner Part.Start h o = false≢true h
one_inner Part.AfterTop h o = false≢true h
one_inner Part.AfterExp h o = false≢true h
one_inner _ h o = false≢true o

abbrev One : ℕ → Found → Type 0
One n (one a) = a.token ≡ n
One n _ = ⊥

left_one : (d : Deed) (n : ℕ) (f : Found) → is_nothing d ≡ true → One n f → One n (left d f)
left_one Deeds.Nothing n f h k = k
left_one _ n f h k = absurd (false≢true h)

sense_one : (text : ℕ → Id) (n : ℕ) (s : Sense) (side : Bool) (a b c d : Found) → (is_atom_sense s || (is_passed s && side)) ≡ true → (side ≡ true → One n a) → One n (found_by text n s a b c d)
sense_one text n S.Short side a b c d h k = refl
sense_one text n S.Long side a b c d h k = refl
sense_one text n S.Op side a b c d h k = refl
sense_one text n S.Phrase side a b c d h k = refl
sense_one text n S.Round side a b c d h k = refl
sense_one text n S.Passed side a b c d h k = k h
sense_one text n _ side a b c d h k = absurd (false≢true h)

symbols_same : {p q : Part} {ss : List Symbol} → Of p ∷ ss ≡ Of q ∷ [] → p ≡ q
symbols_same e = cc

no_word : {k : Kind} {q : Part} {ss : List Symbol} → Word k ∷ ss ≡ Of q ∷ [] → ⊥
no_word e = cc

module _ (text : ℕ → Id) (next : Option Kind) (rest : Part) (outer : is_outer rest ≡ true) where
  passed_one : (n : ℕ) (fs : List Found) (nodes : List Node) (side ss : List Symbol) (kinds : List Kind)
      → ((p : Part) (ss : List Symbol) → Leads nodes (Of p ∷ ss) kinds next (Of rest ∷ []) → is_one p ≡ true → One n (get_or fs 0 nothing)) → Leads nodes (side ++ ss) kinds next (Of rest ∷ [])
      → begins_one side ≡ true → One n (get_or (take (length side) fs) 0 nothing)
  passed_one n fs nodes [] ss kinds f h b = absurd (false≢true b)
  passed_one n fs nodes (Word w ∷ side) ss kinds f h b = absurd (false≢true b)
  passed_one n fs nodes (Of p ∷ side) ss kinds f h b = subst (One n) (sym (get_or-take (suc (length side)) fs 0 nothing (omega arith))) (f p (side ++ ss) h b)

  first_one : (nodes : List Node) (n : ℕ) (p : Part) (ss : List Symbol) (kinds : List Kind) → Leads nodes (Of p ∷ ss) kinds next (Of rest ∷ []) → is_one p ≡ true
      → One n (get_or (founds_of text nodes (starts_of n nodes)) 0 nothing)
  first_one [] n p ss [] h b = absurd (one_inner p b (subst (λ q. is_outer q ≡ true) (sym (symbols_same h)) outer))
  first_one [] n p ss (k ∷ kinds) h b = absurd h
  first_one (Leaf ∷ nodes) n p ss kinds h b = absurd h
  first_one (Inner r ∷ nodes) n p ss kinds h b =
      let is = subst (λ q. is_one q ≡ true) (sym h.0) b in
      let fs = founds_of text nodes (starts_of n nodes) in
      left_one (deed_of r) n (found_at text n r fs) (one_quiet r is)
      (sense_one text n (sense_of r) (begins_one (right_side r)) _ _ _ _ (one_so r is)
      (passed_one n fs nodes (right_side r) ss kinds (λ q qs k c. first_one nodes n q qs kinds k c) h.2))

  second_one : (nodes : List Node) (n : ℕ) (w : Kind) (p : Part) (ss : List Symbol) (kinds : List Kind) → Leads nodes (Word w ∷ Of p ∷ ss) kinds next (Of rest ∷ []) → is_one p ≡ true
      → One (n + 1) (get_or (founds_of text nodes (starts_of n nodes)) 1 nothing)
  second_one [] n w p ss [] h b = absurd (no_word h)
  second_one [] n w p ss (k ∷ kinds) h b = absurd h
  second_one (Inner r ∷ nodes) n w p ss kinds h b = absurd h
  second_one (Leaf ∷ nodes) n w p ss [] h b = absurd h
  second_one (Leaf ∷ nodes) n w p ss (k ∷ kinds) h b =
      subst (λ m. One m (get_or (founds_of text nodes (starts_of (suc n) nodes)) 0 nothing)) (let e : suc n ≡ n + 1 = omega arith in e) (first_one nodes (suc n) p ss kinds h.1 b)

-- the first token of a sequence

from_token : (n : ℕ) (f : Found) (atoms : List Atom) → sequence_in (from n f) ≡ Some atoms → token_of atoms 0 ≡ n
from_token n (several [] typed) atoms e = cc
from_token n (several (a ∷ others) typed) atoms e = subst (λ q. token_of q 0 ≡ n) (same_Some _ _ e) refl
from_token n nothing atoms e = cc
from_token n (word k) atoms e = cc
from_token n (one a) atoms e = cc
from_token n (within names) atoms e = cc
from_token n (directed level others) atoms e = cc

more_token : (n : ℕ) (f : Found) (others : List Atom) (typed : Bool) (atoms : List Atom) → One n f → sequence_in (several (atom_in f ∷ others) typed) ≡ Some atoms → token_of atoms 0 ≡ n
more_token n (one a) others typed atoms h e = subst (λ q. token_of q 0 ≡ n) (same_Some _ _ e) h
more_token n nothing others typed atoms h e = absurd h
more_token n (word k) others typed atoms h e = absurd h
more_token n (several bs t) others typed atoms h e = absurd h
more_token n (within names) others typed atoms h e = absurd h
more_token n (directed level bs) others typed atoms h e = absurd h

before_token : (n : ℕ) (x : Name) (f : Found) (atoms : List Atom) → sequence_in (before (atom x n []) f) ≡ Some atoms → token_of atoms 0 ≡ n
before_token n x (several others typed) atoms e = subst (λ q. token_of q 0 ≡ n) (same_Some _ _ e) refl
before_token n x nothing atoms e = cc
before_token n x (word k) atoms e = cc
before_token n x (one a) atoms e = cc
before_token n x (within names) atoms e = cc
before_token n x (directed level others) atoms e = cc

round_token : (n : ℕ) (x : Name) (inner : List Name) (others : List Atom) (typed : Bool) (atoms : List Atom) → sequence_in (several (atom x n inner ∷ others) typed) ≡ Some atoms → token_of atoms 0 ≡ n
round_token n x inner others typed atoms e = subst (λ q. token_of q 0 ≡ n) (same_Some _ _ e) refl

abbrev is_bar : Rule → Bool
is_bar (G.Declarations D.ClauseMoreBar) = true
is_bar _ = false

module _ (text : ℕ → Id) (n : ℕ) (fs : List Found) where
  abbrev Begins : Rule → Type 0
  Begins r = (begins_one (right_side r) ≡ true → One n (get_or fs 0 nothing)) → (is_bar r ≡ true → One (n + 1) (get_or fs 1 nothing)) → (atoms : List Atom)
      → sequence_in (found_at text n r fs) ≡ Some atoms → token_of atoms 0 ≡ n + before_sequence r

  declaration_token : (rule : DeclarationRule) → is_sequence (deed_of (G.Declarations rule)) ≡ true → Begins (G.Declarations rule)
  declaration_token D.ValDecOpenRound h f g atoms e = let t = from_token n (get_or (take 2 fs) 1 nothing) atoms e in omega (arith, t)
  declaration_token D.FunDecOpenRound h f g atoms e = let t = from_token n (get_or (take 2 fs) 1 nothing) atoms e in omega (arith, t)
  declaration_token D.FunDecBareAtPat h f g atoms e =
      let t = more_token n (get_or (take 4 fs) 0 nothing) (atoms_in (get_or (take 4 fs) 1 nothing)) (typed_in (get_or (take 4 fs) 1 nothing)) atoms (subst (One n) (sym (get_or-take 4 fs 0 nothing (omega arith))) (f refl)) e in omega (arith, t)
  declaration_token D.ClausesAtPat h f g atoms e =
      let t = more_token n (get_or (take 3 fs) 0 nothing) (atoms_in (get_or (take 3 fs) 1 nothing)) (typed_in (get_or (take 3 fs) 1 nothing)) atoms (subst (One n) (sym (get_or-take 3 fs 0 nothing (omega arith))) (f refl)) e in omega (arith, t)
  declaration_token D.ClauseMoreBar h f g atoms e =
      let t = more_token (n + 1) (get_or (take 4 fs) 1 nothing) (atoms_in (get_or (take 4 fs) 2 nothing)) (typed_in (get_or (take 4 fs) 2 nothing)) atoms (subst (One (n + 1)) (sym (get_or-take 4 fs 1 nothing (omega arith))) (g refl)) e in omega (arith, t)
  declaration_token _ h f g atoms e = absurd (false≢true h)

  expression_token : (rule : ExpressionRule) → is_sequence (deed_of (G.Expressions rule)) ≡ true → Begins (G.Expressions rule)
  expression_token E.ExpAt h f g atoms e =
      let t = more_token n (get_or (take 2 fs) 0 nothing) (atoms_in (get_or (take 2 fs) 1 nothing)) (typed_in (get_or (take 2 fs) 1 nothing)) atoms (subst (One n) (sym (get_or-take 2 fs 0 nothing (omega arith))) (f refl)) e in omega (arith, t)
  expression_token E.TypAt h f g atoms e =
      let t = more_token n (get_or (take 3 fs) 0 nothing) (atoms_in (get_or (take 3 fs) 1 nothing)) (typed_in (get_or (take 3 fs) 1 nothing)) atoms (subst (One n) (sym (get_or-take 3 fs 0 nothing (omega arith))) (f refl)) e in omega (arith, t)
  expression_token _ h f g atoms e = absurd (false≢true h)

  pattern_token : (rule : PatternRule) → is_sequence (deed_of (G.Patterns rule)) ≡ true → Begins (G.Patterns rule)
  pattern_token P.PatOpenRound h f g atoms e = let t = round_token n phrase (inner_in (get_or (take 3 fs) 1 nothing)) (atoms_in (get_or (take 3 fs) 2 nothing)) (typed_in (get_or (take 3 fs) 2 nothing)) atoms e in omega (arith, t)
  pattern_token P.PatAlphanumeric h f g atoms e = let t = before_token n (short (text n)) (get_or (take 2 fs) 1 nothing) atoms e in omega (arith, t)
  pattern_token P.PatSymbolic h f g atoms e = let t = before_token n (short (text n)) (get_or (take 2 fs) 1 nothing) atoms e in omega (arith, t)
  pattern_token P.PatStar h f g atoms e = let t = before_token n (short (text n)) (get_or (take 2 fs) 1 nothing) atoms e in omega (arith, t)
  pattern_token P.BarePatAlphanumeric h f g atoms e = let t = before_token n (short (text n)) (get_or (take 2 fs) 1 nothing) atoms e in omega (arith, t)
  pattern_token P.BarePatSymbolic h f g atoms e = let t = before_token n (short (text n)) (get_or (take 2 fs) 1 nothing) atoms e in omega (arith, t)
  pattern_token P.BarePatStar h f g atoms e = let t = before_token n (short (text n)) (get_or (take 2 fs) 1 nothing) atoms e in omega (arith, t)
  pattern_token P.PatOp h f g atoms e = let t = from_token n (get_or (take 2 fs) 1 nothing) atoms e in omega (arith, t)
  pattern_token P.BarePatOp h f g atoms e = let t = from_token n (get_or (take 2 fs) 1 nothing) atoms e in omega (arith, t)
  pattern_token P.PatOtherAtPat h f g atoms e =
      let t = more_token n (get_or (take 2 fs) 0 nothing) (atoms_in (get_or (take 2 fs) 1 nothing)) (typed_in (get_or (take 2 fs) 1 nothing)) atoms (subst (One n) (sym (get_or-take 2 fs 0 nothing (omega arith))) (f refl)) e in omega (arith, t)
  pattern_token P.BarePatOtherAtPat h f g atoms e =
      let t = more_token n (get_or (take 2 fs) 0 nothing) (atoms_in (get_or (take 2 fs) 1 nothing)) (typed_in (get_or (take 2 fs) 1 nothing)) atoms (subst (One n) (sym (get_or-take 2 fs 0 nothing (omega arith))) (f refl)) e in omega (arith, t)
  pattern_token _ h f g atoms e = absurd (false≢true h)

  unit_token : (rule : UnitRule) → is_sequence (deed_of (G.Units rule)) ≡ true → Begins (G.Units rule)
  unit_token U.StartTop h f g atoms e = absurd (false≢true h)
  unit_token U.StartExp h f g atoms e = absurd (false≢true h)
  unit_token U.AfterTopTop h f g atoms e = absurd (false≢true h)
  unit_token _ h f g atoms e = absurd (false≢true h)

  sequence_token : (r : Rule) → is_sequence (deed_of r) ≡ true → Begins r
  sequence_token (G.Declarations rule) h f g atoms e = declaration_token rule h f g atoms e
  sequence_token (G.Expressions rule) h f g atoms e = expression_token rule h f g atoms e
  sequence_token (G.Patterns rule) h f g atoms e = pattern_token rule h f g atoms e
  sequence_token (G.Units rule) h f g atoms e = unit_token rule h f g atoms e
  sequence_token (G.Names rule) h f g atoms e = absurd (false≢true h)
  sequence_token (G.Structures rule) h f g atoms e = absurd (false≢true h)
  sequence_token (G.Signatures rule) h f g atoms e = absurd (false≢true h)
  sequence_token (G.Specifications rule) h f g atoms e = absurd (false≢true h)
  sequence_token (G.Types rule) h f g atoms e = absurd (false≢true h)

-- each sequence among events begins at lo or after it, and each after the one before

abbrev pub EventsRise : ℕ → List Event → Type 0
EventsRise lo [] = Unit {0}
EventsRise lo (expression atoms ∷ es) = (lo ≤ token_of atoms 0) × EventsRise (suc (token_of atoms 0)) es
EventsRise lo (pattern atoms ∷ es) = (lo ≤ token_of atoms 0) × EventsRise (suc (token_of atoms 0)) es
EventsRise lo (head atoms ∷ es) = (lo ≤ token_of atoms 0) × EventsRise (suc (token_of atoms 0)) es
EventsRise lo (begins token ∷ es) = EventsRise lo es
EventsRise lo (enters ∷ es) = EventsRise lo es
EventsRise lo (leaves ∷ es) = EventsRise lo es
EventsRise lo (directs directive level atoms ∷ es) = EventsRise lo es

rise_lower : (es : List Event) (lo lo' : ℕ) → lo' ≤ lo → EventsRise lo es → EventsRise lo' es
rise_lower [] lo lo' l h = tt
rise_lower (expression atoms ∷ es) lo lo' l h = let a = h.0 in (omega (arith, l, a), h.1)
rise_lower (pattern atoms ∷ es) lo lo' l h = let a = h.0 in (omega (arith, l, a), h.1)
rise_lower (head atoms ∷ es) lo lo' l h = let a = h.0 in (omega (arith, l, a), h.1)
rise_lower (begins token ∷ es) lo lo' l h = rise_lower es lo lo' l h
rise_lower (enters ∷ es) lo lo' l h = rise_lower es lo lo' l h
rise_lower (leaves ∷ es) lo lo' l h = rise_lower es lo lo' l h
rise_lower (directs directive level atoms ∷ es) lo lo' l h = rise_lower es lo lo' l h

scope_rise : (o : Option Token) (lo : ℕ) (es : List Event) → EventsRise lo es → EventsRise lo (cons_option (scope_event o) es)
scope_rise None lo es h = h
scope_rise (Some token) lo es h = go (opens token.kind) (closes token.kind)
  where
    go : (a b : Bool) → EventsRise lo (cons_option (if a then Some enters else if b then Some leaves else None) es)
    go true b = h
    go false true = h
    go false false = h

module _ (n lo hi : ℕ) (es : List Event) (below : lo ≤ hi) (rest : EventsRise hi es) where
  abbrev Between : List Atom → Type 0
  Between atoms = (lo ≤ token_of atoms 0) × (token_of atoms 0 < hi)

  deed_rise : (d : Deed) (f : Found) → (is_sequence d ≡ true → (atoms : List Atom) → sequence_in f ≡ Some atoms → Between atoms) → EventsRise lo (cons_option (event_of d n f) es)
  deed_rise Deeds.Nothing f h = rise_lower es hi lo below rest
  deed_rise Deeds.Begins f h = rise_lower es hi lo below rest
  deed_rise (Deeds.Directs directive) (directed level atoms) h = rise_lower es hi lo below rest
  deed_rise (Deeds.Directs directive) nothing h = rise_lower es hi lo below rest
  deed_rise (Deeds.Directs directive) (word k) h = rise_lower es hi lo below rest
  deed_rise (Deeds.Directs directive) (one a) h = rise_lower es hi lo below rest
  deed_rise (Deeds.Directs directive) (several others typed) h = rise_lower es hi lo below rest
  deed_rise (Deeds.Directs directive) (within names) h = rise_lower es hi lo below rest
  deed_rise Deeds.Expression f h = go (sequence_in f) refl
    where
      by_test : (b : Bool) (atoms : List Atom) → sequence_in f ≡ Some atoms → EventsRise lo (cons_option (if b then None else Some (expression atoms)) es)
      by_test true atoms e = rise_lower es hi lo below rest
      by_test false atoms e = let b = h refl atoms e in (b.0, rise_lower es hi (suc (token_of atoms 0)) b.1 rest)

      go : (o : Option (List Atom)) → sequence_in f ≡ o → EventsRise lo (cons_option (asked_of o) es)
      go None e = rise_lower es hi lo below rest
      go (Some atoms) e = by_test (are_itself atoms) atoms e
  deed_rise Deeds.Pattern f h = go (sequence_in f) refl
    where
      go : (o : Option (List Atom)) → sequence_in f ≡ o → EventsRise lo (cons_option (option_map pattern o) es)
      go None e = rise_lower es hi lo below rest
      go (Some atoms) e = let b = h refl atoms e in (b.0, rise_lower es hi (suc (token_of atoms 0)) b.1 rest)
  deed_rise Deeds.Head f h = go (sequence_in f) refl
    where
      go : (o : Option (List Atom)) → sequence_in f ≡ o → EventsRise lo (cons_option (option_map head o) es)
      go None e = rise_lower es hi lo below rest
      go (Some atoms) e = let b = h refl atoms e in (b.0, rise_lower es hi (suc (token_of atoms 0)) b.1 rest)

pub ahead_lower : (r : Rule) (p : Part) (ss : List Symbol) → part_of r ≡ p → ahead (Of p ∷ ss) ≤ ahead (right_side r ++ ss)
ahead_lower r p ss same = go (is_quiet p) refl
  where
    go : (b : Bool) → is_quiet p ≡ b → (if b then 1 else 0) ≤ ahead (right_side r ++ ss)
    go false e = omega arith
    go true e = let a = leb-true _ _ (quiet_so r (ap is_quiet same ∙ e)) in let b = more_ahead (right_side r) ss in omega (arith, a, b)

not_false : (b : Bool) → not b ≡ true → b ≡ false
not_false true h = absurd (false≢true h)
not_false false h = refl

-- a part of a rule with a sequence isn't quiet
pub quiet_before : (r : Rule) (p : Part) (ss : List Symbol) → part_of r ≡ p → is_sequence (deed_of r) ≡ true → ahead (Of p ∷ ss) ≡ 0
quiet_before r p ss same d = ap (λ b. if b then 1 else 0) (not_false (is_quiet p) (subst (λ q. not (is_quiet q) ≡ true) same (loud_so r d)))

pub before_next : (r : Rule) (ss : List Symbol) → is_sequence (deed_of r) ≡ true → before_sequence r < ahead (right_side r ++ ss)
before_next r ss d = let b = ltb-true _ _ (before_so r d) in let m = more_ahead (right_side r) ss in omega (arith, b, m)

bar_of : (r : Rule) → is_bar r ≡ true → r ≡ G.Declarations D.ClauseMoreBar
bar_of (G.Declarations D.ClauseMoreBar) h = refl
bar_of (G.Declarations _) h = absurd (false≢true h)
bar_of (G.Names rule) h = absurd (false≢true h)
bar_of (G.Units rule) h = absurd (false≢true h)
bar_of (G.Structures rule) h = absurd (false≢true h)
bar_of (G.Signatures rule) h = absurd (false≢true h)
bar_of (G.Specifications rule) h = absurd (false≢true h)
bar_of (G.Expressions rule) h = absurd (false≢true h)
bar_of (G.Patterns rule) h = absurd (false≢true h)
bar_of (G.Types rule) h = absurd (false≢true h)

module _ (unit : List ℕ) (tokens : List Token) (next : Option Kind) (rest : Part) (outer : is_outer rest ≡ true) where
  begins_so : (nodes : List Node) (n : ℕ) (side ss : List Symbol) (kinds : List Kind) → Leads nodes (side ++ ss) kinds next (Of rest ∷ []) → begins_one side ≡ true
      → One n (get_or (founds_of (text_at unit tokens) nodes (starts_of n nodes)) 0 nothing)
  begins_so nodes n [] ss kinds h b = absurd (false≢true b)
  begins_so nodes n (Word w ∷ side) ss kinds h b = absurd (false≢true b)
  begins_so nodes n (Of p ∷ side) ss kinds h b = first_one (text_at unit tokens) next rest outer nodes n p (side ++ ss) kinds h b

  bar_so : (r : Rule) (nodes : List Node) (n : ℕ) (ss : List Symbol) (kinds : List Kind) → Leads nodes (right_side r ++ ss) kinds next (Of rest ∷ []) → is_bar r ≡ true
      → One (n + 1) (get_or (founds_of (text_at unit tokens) nodes (starts_of n nodes)) 1 nothing)
  bar_so r nodes n ss kinds h b =
      second_one (text_at unit tokens) next rest outer nodes n _ Part.AtPat _ kinds (subst (λ q. Leads nodes (right_side q ++ ss) kinds next (Of rest ∷ [])) (bar_of r b) h) refl

  pub own_token : (nodes : List Node) (n : ℕ) (r : Rule) (ss : List Symbol) (kinds : List Kind) → Leads nodes (right_side r ++ ss) kinds next (Of rest ∷ []) → is_sequence (deed_of r) ≡ true → (atoms : List Atom)
      → sequence_in (found_at (text_at unit tokens) n r (founds_of (text_at unit tokens) nodes (starts_of n nodes))) ≡ Some atoms → token_of atoms 0 ≡ n + before_sequence r
  own_token nodes n r ss kinds h d atoms e =
      sequence_token (text_at unit tokens) n (founds_of (text_at unit tokens) nodes (starts_of n nodes)) r d (begins_so nodes n (right_side r) ss kinds h) (bar_so r nodes n ss kinds h) atoms e

  pub events_rise : (nodes : List Node) (n : ℕ) (ss : List Symbol) (kinds : List Kind) → Leads nodes ss kinds next (Of rest ∷ []) → EventsRise (n + ahead ss) (events_of unit tokens nodes (starts_of n nodes))
  events_rise [] n ss kinds h = tt
  events_rise (Leaf ∷ nodes) n [] kinds h = absurd h
  events_rise (Leaf ∷ nodes) n (Of p ∷ ss) kinds h = absurd h
  events_rise (Leaf ∷ nodes) n (Word w ∷ ss) [] h = absurd h
  events_rise (Leaf ∷ nodes) n (Word w ∷ ss) (k ∷ kinds) h =
      scope_rise (slice_get tokens n) (n + suc (ahead ss)) (events_of unit tokens nodes (starts_of (suc n) nodes))
      (subst (λ m. EventsRise m (events_of unit tokens nodes (starts_of (suc n) nodes))) (let e : suc n + ahead ss ≡ n + suc (ahead ss) = omega arith in e) (events_rise nodes (suc n) ss kinds h.1))
  events_rise (Inner r ∷ nodes) n [] kinds h = absurd h
  events_rise (Inner r ∷ nodes) n (Word w ∷ ss) kinds h = absurd h
  events_rise (Inner r ∷ nodes) n (Of p ∷ ss) kinds h =
      deed_rise n (n + ahead (Of p ∷ ss)) (n + ahead (right_side r ++ ss)) (events_of unit tokens nodes (starts_of n nodes)) (omega (arith, lower)) (events_rise nodes n (right_side r ++ ss) kinds h.2) (deed_of r)
      (found_at (text_at unit tokens) n r fs) between
    where
      fs : List Found
      fs = founds_of (text_at unit tokens) nodes (starts_of n nodes)

      lower : ahead (Of p ∷ ss) ≤ ahead (right_side r ++ ss)
      lower = ahead_lower r p ss h.0

      between : is_sequence (deed_of r) ≡ true → (atoms : List Atom) → sequence_in (found_at (text_at unit tokens) n r fs) ≡ Some atoms → (n + ahead (Of p ∷ ss) ≤ token_of atoms 0) × (token_of atoms 0 < n + ahead (right_side r ++ ss))
      between d atoms e =
          let t = own_token nodes n r ss kinds h.2 d atoms e in
          let none = quiet_before r p ss h.0 d in
          let before = before_next r ss d in
          (omega (arith, t, none), omega (arith, t, before))
