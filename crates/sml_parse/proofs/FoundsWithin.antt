-- The tokens that phrases name stand in their declaration.
use Rattle.std.proofs.Common.{◌≡◌, ℕ, zero, suc, ◌+◌, ◌<◌, ◌≤◌, List, [], ◌∷◌, ◌++◌, Bool, true, false, Option, Some, None, length, take, drop, get_or, append_assoc, refl, sym, subst, arith}
use Rattle.std.specs.Prelude.{not, ◌&&◌, if◌then◌else◌}
use Rattle.std.proofs.lemmas.Bool.{and_parts, false≢true}
use Rattle.sml_lex.specs.declared.token.Kind.{Kind}
use Rattle.sml_tree.specs.Trees.{Id}
use Rattle.sml_read.specs.declared.grammar.Part.{Part}
use Rattle.sml_read.specs.declared.grammar.Part.TheVariants.{LongVid, Qualified, ExpVid, At, AtPat, BareAtPat, OtherAtPat}
use Rattle.sml_read.specs.declared.grammar.Symbol.{Symbol}
use Rattle.sml_read.specs.declared.grammar.Symbol.TheVariants.{Word, Of}
use Rattle.sml_read.specs.declared.grammar.Rule.{Rule}
use Rattle.sml_read.specs.declared.grammar.Node.{Node}
use Rattle.sml_read.specs.declared.grammar.Node.TheVariants.{Leaf, Inner}
use Rattle.sml_read.specs.Grammar.{right_side}
use Rattle.sml_read.specs.Parts.{part_of}
use Rattle.sml_read.specs.Spelling.{all_empty, is_outer, Leads}
use Rattle.sml_read.specs.Extents.{starts_of}
use Rattle.sml_read.proofs.Tables.{each_rule, implies, implied}
use Rattle.sml_reach.specs.declared.sense.Sense.{Sense}
use Rattle.sml_reach.specs.declared.sense.Sense.TheVariants as S
use Rattle.sml_reach.specs.declared.sense.Deed.{Deed}
use Rattle.sml_reach.specs.declared.sense.Deed.TheVariants as D
use Rattle.sml_reach.specs.Senses.{sense_of, deed_of}
use Rattle.sml_fixity.specs.ItemNames.{Name}
use Rattle.sml_reach.specs.Founds.{Atom, Found, nothing, word, one, several, within, directed, level_in, is_word, atom_in, atoms_in, inner_in, before, from, found_by, left}
use Rattle.sml_reach.specs.Events.{found_at, founds_of}
use Rattle.sml_parse.specs.Within.{ends_before, tokens_before}
use Rattle.sml_parse.proofs.Nonempty.{all_inner, inner_so, inner_append, not_both, when_not, word_alone, part_alone, some_token}

-- a token from this one on, and before that one
abbrev pub IsIn : ℕ → ℕ → ℕ → Type 0
IsIn n after token = (n ≤ token) × (token < after)

abbrev pub AtomsIn : ℕ → ℕ → List Atom → Type 0
AtomsIn n e [] = Unit {0}
AtomsIn n e (a ∷ atoms) = IsIn n e a.token × AtomsIn n e atoms

abbrev pub LevelIn : ℕ → ℕ → Option ℕ → Type 0
LevelIn n e None = Unit {0}
LevelIn n e (Some token) = IsIn n e token

abbrev pub FoundIn : ℕ → ℕ → Found → Type 0
FoundIn n e nothing = Unit {0}
FoundIn n e (word token) = IsIn n e token
FoundIn n e (one a) = IsIn n e a.token
FoundIn n e (several atoms typed) = AtomsIn n e atoms
FoundIn n e (within names) = Unit {0}
FoundIn n e (directed level atoms) = LevelIn n e level

-- an atomic phrase, and the parts that stand for one

abbrev is_one : Found → Bool
is_one (one a) = true
is_one _ = false

abbrev is_atomic : Part → Bool
is_atomic LongVid = true
is_atomic Qualified = true
is_atomic ExpVid = true
is_atomic At = true
is_atomic AtPat = true
is_atomic BareAtPat = true
is_atomic OtherAtPat = true
is_atomic _ = false

abbrev IsSuited : Symbol → Found → Type 0
IsSuited (Word k) f = Unit {0}
IsSuited (Of p) f = is_atomic p ≡ true → is_one f ≡ true

-- what was found for each of these symbols
abbrev pub FoundsIn : ℕ → ℕ → List Symbol → List Found → Type 0
FoundsIn n e [] founds = Unit {0}
FoundsIn n e (s ∷ ss) [] = ⊥
FoundsIn n e (s ∷ ss) (f ∷ founds) = FoundIn n e f × IsSuited s f × FoundsIn n e ss founds

-- further bounds

module _ (n e m b : ℕ) (l : m ≤ n) (k : e ≤ b) where
  token_on : (token : ℕ) → IsIn n e token → IsIn m b token
  token_on token h = let x = h.0 in let y = h.1 in (omega (arith, l, x), omega (arith, k, y))

  atoms_on : (atoms : List Atom) → AtomsIn n e atoms → AtomsIn m b atoms
  atoms_on [] h = tt
  atoms_on (a ∷ atoms) h = (token_on a.token h.0, atoms_on atoms h.1)

  found_on : (f : Found) → FoundIn n e f → FoundIn m b f
  found_on nothing h = tt
  found_on (word token) h = token_on token h
  found_on (one a) h = token_on a.token h
  found_on (several atoms typed) h = atoms_on atoms h
  found_on (within names) h = tt
  found_on (directed None atoms) h = tt
  found_on (directed (Some token) atoms) h = token_on token h

  founds_on : (ss : List Symbol) (founds : List Found) → FoundsIn n e ss founds → FoundsIn m b ss founds
  founds_on [] founds h = tt
  founds_on (s ∷ ss) [] h = absurd h
  founds_on (s ∷ ss) (f ∷ founds) h = (found_on f h.0, h.1, founds_on ss founds h.2)

-- the table

abbrev atomic_at : ℕ → List Symbol → Bool
atomic_at zero (Of p ∷ ss) = is_atomic p
atomic_at (suc i) (s ∷ ss) = atomic_at i ss
atomic_at _ _ = false

-- senses that name a phrase's first token
abbrev names_first : Sense → Bool
names_first S.Short = true
names_first S.Long = true
names_first S.Op = true
names_first S.Phrase = true
names_first S.Round = true
names_first S.Named = true
names_first S.OpNamed = true
names_first S.After = true
names_first S.RoundMore = true
names_first S.OpenRoundMore = true
names_first _ = false

-- the part that stands first in a sequence is an atomic phrase
abbrev has_first : Sense → List Symbol → Bool
has_first S.More ss = atomic_at 0 ss
has_first S.MoreAfter ss = atomic_at 1 ss
has_first _ ss = true

abbrev gives_one : Sense → List Symbol → Bool
gives_one S.Passed ss = atomic_at 0 ss
gives_one S.Short ss = true
gives_one S.Long ss = true
gives_one S.Op ss = true
gives_one S.Phrase ss = true
gives_one S.Round ss = true
gives_one _ ss = false

abbrev pub is_idle : Deed → Bool
is_idle D.Nothing = true
is_idle _ = false

abbrev is_fit : Rule → Bool
is_fit r =
    implies (names_first (sense_of r)) (not (all_empty (right_side r)))
    && (has_first (sense_of r) (right_side r) && implies (is_atomic (part_of r)) (is_idle (deed_of r) && gives_one (sense_of r) (right_side r)))

fits : (r : Rule) → is_fit r ≡ true
fits r = each_rule is_fit refl r

-- the parts of a phrase

part_in : (n e : ℕ) (ss : List Symbol) (founds : List Found) (i : ℕ) → FoundsIn n e ss founds → FoundIn n e (get_or (take (length ss) founds) i nothing)
part_in n e [] founds zero h = tt
part_in n e [] founds (suc i) h = tt
part_in n e (s ∷ ss) [] i h = absurd h
part_in n e (s ∷ ss) (f ∷ founds) zero h = h.0
part_in n e (s ∷ ss) (f ∷ founds) (suc i) h = part_in n e ss founds i h.2

part_one : (n e : ℕ) (ss : List Symbol) (founds : List Found) (i : ℕ) → FoundsIn n e ss founds → atomic_at i ss ≡ true → is_one (get_or (take (length ss) founds) i nothing) ≡ true
part_one n e [] founds zero h q = absurd (false≢true q)
part_one n e [] founds (suc i) h q = absurd (false≢true q)
part_one n e (s ∷ ss) [] i h q = absurd h
part_one n e (Word k ∷ ss) (f ∷ founds) zero h q = absurd (false≢true q)
part_one n e (Of p ∷ ss) (f ∷ founds) zero h q = h.1 q
part_one n e (s ∷ ss) (f ∷ founds) (suc i) h q = part_one n e ss founds i h.2 q

parts_after : (n e : ℕ) (a b : List Symbol) (founds : List Found) → FoundsIn n e (a ++ b) founds → FoundsIn n e b (drop (length a) founds)
parts_after n e [] b founds h = h
parts_after n e (s ∷ a) b [] h = absurd h
parts_after n e (s ∷ a) b (f ∷ founds) h = parts_after n e a b founds h.2

parts_before : (n e : ℕ) (a b : List Symbol) (founds : List Found) → FoundsIn n e (a ++ b) founds → FoundsIn n e a founds
parts_before n e [] b founds h = tt
parts_before n e (s ∷ a) b [] h = absurd h
parts_before n e (s ∷ a) b (f ∷ founds) h = (h.0, h.1, parts_before n e a b founds h.2)

-- what a phrase is by its parts

module _ (text : ℕ → Id) (n e : ℕ) where
  the_atom : (f : Found) → FoundIn n e f → is_one f ≡ true → IsIn n e (atom_in f).token
  the_atom nothing h q = absurd (false≢true q)
  the_atom (word token) h q = absurd (false≢true q)
  the_atom (one a) h q = h
  the_atom (several atoms typed) h q = absurd (false≢true q)
  the_atom (within names) h q = absurd (false≢true q)
  the_atom (directed level atoms) h q = absurd (false≢true q)

  the_atoms : (f : Found) → FoundIn n e f → AtomsIn n e (atoms_in f)
  the_atoms nothing h = tt
  the_atoms (word token) h = tt
  the_atoms (one a) h = tt
  the_atoms (several atoms typed) h = h
  the_atoms (within names) h = tt
  the_atoms (directed level atoms) h = tt

  the_level : (f : Found) → FoundIn n e f → LevelIn n e (level_in f)
  the_level nothing h = tt
  the_level (word token) h = h
  the_level (one a) h = tt
  the_level (several atoms typed) h = tt
  the_level (within names) h = tt
  the_level (directed level atoms) h = tt

  put_before : (a : Atom) (f : Found) → IsIn n e a.token → FoundIn n e f → FoundIn n e (before a f)
  put_before a nothing i h = tt
  put_before a (word token) i h = tt
  put_before a (one b) i h = tt
  put_before a (several atoms typed) i h = (i, h)
  put_before a (within names) i h = tt
  put_before a (directed level atoms) i h = tt

  begun_at : (f : Found) → IsIn n e n → FoundIn n e f → FoundIn n e (from n f)
  begun_at nothing i h = tt
  begun_at (word token) i h = tt
  begun_at (one b) i h = tt
  begun_at (several [] typed) i h = tt
  begun_at (several (a ∷ atoms) typed) i h = (i, h.1)
  begun_at (within names) i h = tt
  begun_at (directed level atoms) i h = tt

  names_in : (c : Bool) (names : List Name) → FoundIn n e (if c then within names else nothing)
  names_in true names = tt
  names_in false names = tt

  by_sense : (sense : Sense) (ss : List Symbol) (a b c d : Found) → FoundIn n e a → FoundIn n e b → FoundIn n e c → FoundIn n e d → has_first sense ss ≡ true
      → (atomic_at 0 ss ≡ true → is_one a ≡ true) → (atomic_at 1 ss ≡ true → is_one b ≡ true) → (names_first sense ≡ true → IsIn n e n) → FoundIn n e (found_by text n sense a b c d)
  by_sense S.Nothing ss a b c d ha hb hc hd f oa ob i = tt
  by_sense S.Passed ss a b c d ha hb hc hd f oa ob i = ha
  by_sense S.Short ss a b c d ha hb hc hd f oa ob i = i refl
  by_sense S.Long ss a b c d ha hb hc hd f oa ob i = i refl
  by_sense S.Op ss a b c d ha hb hc hd f oa ob i = i refl
  by_sense S.Phrase ss a b c d ha hb hc hd f oa ob i = i refl
  by_sense S.Round ss a b c d ha hb hc hd f oa ob i = i refl
  by_sense S.Empty ss a b c d ha hb hc hd f oa ob i = tt
  by_sense S.Typed ss a b c d ha hb hc hd f oa ob i = tt
  by_sense S.More ss a b c d ha hb hc hd f oa ob i = (the_atom a ha (oa f), the_atoms b hb)
  by_sense S.MoreAfter ss a b c d ha hb hc hd f oa ob i = (the_atom b hb (ob f), the_atoms c hc)
  by_sense S.Third ss a b c d ha hb hc hd f oa ob i = hc
  by_sense S.Named ss a b c d ha hb hc hd f oa ob i = put_before _ b (i refl) hb
  by_sense S.OpNamed ss a b c d ha hb hc hd f oa ob i = put_before _ b (i refl) hb
  by_sense S.After ss a b c d ha hb hc hd f oa ob i = begun_at b (i refl) hb
  by_sense S.RoundMore ss a b c d ha hb hc hd f oa ob i = (i refl, the_atoms b hb)
  by_sense S.OpenRoundMore ss a b c d ha hb hc hd f oa ob i = (i refl, the_atoms c hc)
  by_sense S.Inner ss a b c d ha hb hc hd f oa ob i = names_in (is_word b) (inner_in a)
  by_sense S.Level ss a b c d ha hb hc hd f oa ob i = the_level b hb
  by_sense S.NoLevel ss a b c d ha hb hc hd f oa ob i = tt

  one_by : (sense : Sense) (ss : List Symbol) (a b c d : Found) → (atomic_at 0 ss ≡ true → is_one a ≡ true) → gives_one sense ss ≡ true → is_one (found_by text n sense a b c d) ≡ true
  one_by S.Nothing ss a b c d o q = absurd (false≢true q)
  one_by S.Passed ss a b c d o q = o q
  one_by S.Short ss a b c d o q = refl
  one_by S.Long ss a b c d o q = refl
  one_by S.Op ss a b c d o q = refl
  one_by S.Phrase ss a b c d o q = refl
  one_by S.Round ss a b c d o q = refl
  one_by S.Empty ss a b c d o q = absurd (false≢true q)
  one_by S.Typed ss a b c d o q = absurd (false≢true q)
  one_by S.More ss a b c d o q = absurd (false≢true q)
  one_by S.MoreAfter ss a b c d o q = absurd (false≢true q)
  one_by S.Third ss a b c d o q = absurd (false≢true q)
  one_by S.Named ss a b c d o q = absurd (false≢true q)
  one_by S.OpNamed ss a b c d o q = absurd (false≢true q)
  one_by S.After ss a b c d o q = absurd (false≢true q)
  one_by S.RoundMore ss a b c d o q = absurd (false≢true q)
  one_by S.OpenRoundMore ss a b c d o q = absurd (false≢true q)
  one_by S.Inner ss a b c d o q = absurd (false≢true q)
  one_by S.Level ss a b c d o q = absurd (false≢true q)
  one_by S.NoLevel ss a b c d o q = absurd (false≢true q)

  -- before its deed is done
  pub phrase_in : (r : Rule) (founds : List Found) → FoundsIn n e (right_side r) founds → (not (all_empty (right_side r)) ≡ true → n < e) → FoundIn n e (found_at text n r founds)
  phrase_in r founds h i =
      let ss = right_side r in
      let fit = and_parts _ _ (fits r) in
      let named : names_first (sense_of r) ≡ true → IsIn n e n = λ q. let x = i (implied _ _ fit.0 q) in (omega arith, x) in
      by_sense (sense_of r) ss _ _ _ _ (part_in n e ss founds 0 h) (part_in n e ss founds 1 h) (part_in n e ss founds 2 h) (part_in n e ss founds 3 h)
      (and_parts _ _ fit.1).0 (part_one n e ss founds 0 h) (part_one n e ss founds 1 h) named

  -- and after it
  by_deed : (deed : Deed) (f : Found) → FoundIn n e f → FoundIn n e (left deed f)
  by_deed D.Nothing f h = h
  by_deed D.Begins f h = h
  by_deed (D.Directs directive) f h = tt
  by_deed D.Expression f h = tt
  by_deed D.Pattern f h = tt
  by_deed D.Head f h = tt

  left_alone : (deed : Deed) (f : Found) → is_idle deed ≡ true → is_one f ≡ true → is_one (left deed f) ≡ true
  left_alone D.Nothing f i q = q
  left_alone D.Begins f i q = absurd (false≢true i)
  left_alone (D.Directs directive) f i q = absurd (false≢true i)
  left_alone D.Expression f i q = absurd (false≢true i)
  left_alone D.Pattern f i q = absurd (false≢true i)
  left_alone D.Head f i q = absurd (false≢true i)

  suited : (r : Rule) (founds : List Found) → FoundsIn n e (right_side r) founds → is_atomic (part_of r) ≡ true → is_one (left (deed_of r) (found_at text n r founds)) ≡ true
  suited r founds h q =
      let ss = right_side r in
      let both = and_parts _ _ (implied _ _ (and_parts _ _ (and_parts _ _ (fits r)).1).1 q) in
      left_alone (deed_of r) _ both.0 (one_by (sense_of r) ss _ _ _ _ (part_one n e ss founds 0 h) both.1)

-- What is found for the parts of a declaration, up to its end.
pub founds_in : (text : ℕ → Id) (nodes : List Node) (a ss : List Symbol) (n : ℕ) (tokens : List Kind) (next : Option Kind) (rest : Part) → all_inner a ≡ true → is_outer rest ≡ true
    → Leads nodes (a ++ ss) tokens next (Of rest ∷ []) → FoundsIn n (n + tokens_before nodes) a (founds_of text nodes (starts_of n nodes))
founds_in text nodes [] ss n tokens next rest i o h = tt
founds_in text [] (Word k ∷ a) ss n [] next rest i o h = absurd (word_alone h)
founds_in text [] (Of p ∷ a) ss n [] next rest i o h = absurd (not_both (is_outer p) (and_parts _ _ i).0 (subst (λ p. is_outer p ≡ true) (sym (part_alone h)) o))
founds_in text [] (s ∷ a) ss n (t ∷ tokens) next rest i o h = absurd h
founds_in text (Leaf ∷ nodes) (Word k ∷ a) ss n [] next rest i o h = absurd h
founds_in text (Leaf ∷ nodes) (Word k ∷ a) ss n (t ∷ tokens) next rest i o h =
    ((omega arith, omega arith), tt, founds_on (suc n) (suc n + tokens_before nodes) n (n + suc (tokens_before nodes)) (omega arith) (omega arith) a _ (founds_in text nodes a ss (suc n) tokens next rest i o h.1))
founds_in text (Leaf ∷ nodes) (Of p ∷ a) ss n tokens next rest i o h = absurd h
founds_in text (Inner r ∷ nodes) (Word k ∷ a) ss n tokens next rest i o h = absurd h
founds_in text (Inner r ∷ nodes) (Of p ∷ a) ss n tokens next rest i o h =
    let both = and_parts _ _ i in
    let inner = subst (λ p. not (is_outer p) ≡ true) (sym h.0) both.0 in
    let side = right_side r in
    let e = n + tokens_before nodes in
    let founds = founds_of text nodes (starts_of n nodes) in
    let more = founds_in text nodes (side ++ a) ss n tokens next rest (inner_append side a (inner_so r inner) both.1) o (subst (λ x. Leads nodes x tokens next (Of rest ∷ [])) (sym (append_assoc side a ss)) h.2) in
    let parts = parts_before n e side a founds more in
    let has : not (all_empty side) ≡ true → n < e = λ q. let t = some_token nodes side (a ++ ss) tokens next rest (inner_so r inner) (not_both (all_empty side) q) o h.2 in omega (arith, t) in
    subst (λ (b : Bool). FoundsIn n (n + (if b then 0 else tokens_before nodes)) (Of p ∷ a) (left (deed_of r) (found_at text n r founds) ∷ drop (length side) founds)) (sym (when_not (ends_before r) inner)) (
      by_deed text n e (deed_of r) _ (phrase_in text n e r founds parts has),
      subst (λ p. is_atomic p ≡ true → is_one (left (deed_of r) (found_at text n r founds)) ≡ true) h.0 (suited text n e r founds parts),
      parts_after n e side a founds more,
    )
