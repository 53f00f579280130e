-- Each declaration of a derivation has a token, and all its tokens are among those that are spelt.
use Rattle.std.proofs.Common.{◌≡◌, ℕ, suc, ◌+◌, ◌<◌, ◌≤◌, List, [], ◌∷◌, ◌++◌, Bool, true, false, Option, length, append_assoc, refl, sym, subst, arith}
use Rattle.std.specs.Prelude.{not, ◌&&◌, if◌then◌else◌}
use Rattle.std.proofs.lemmas.Bool.{and_parts, and_from, false≢true}
use Rattle.sml_lex.specs.declared.token.Kind.{Kind}
use Rattle.sml_read.specs.declared.grammar.Part.{Part}
use Rattle.sml_read.specs.declared.grammar.Symbol.{Symbol}
use Rattle.sml_read.specs.declared.grammar.Symbol.TheVariants.{Word, Of}
use Rattle.sml_read.specs.declared.grammar.Rule.{Rule}
use Rattle.sml_read.specs.declared.grammar.Node.{Node}
use Rattle.sml_read.specs.declared.grammar.Node.TheVariants.{Leaf, Inner}
use Rattle.sml_read.specs.Grammar.{right_side}
use Rattle.sml_read.specs.Parts.{part_of, may_be_empty}
use Rattle.sml_read.specs.Spelling.{all_empty, is_outer, Leads}
use Rattle.sml_read.proofs.Tables.{each_rule, implies, implied}
use Rattle.sml_read.proofs.Trees.{stops_of}
use Rattle.sml_parse.specs.Within.{Extent, ends_before, begins_next, tokens_before, extents_of}

-- the table

abbrev pub all_inner : List Symbol → Bool
all_inner [] = true
all_inner (Word k ∷ ss) = all_inner ss
all_inner (Of p ∷ ss) = not (is_outer p) && all_inner ss

-- within a declaration no rest of a unit stands
pub inner_so : (r : Rule) → not (is_outer (part_of r)) ≡ true → all_inner (right_side r) ≡ true
inner_so r = implied _ _ (each_rule (λ r. implies (not (is_outer (part_of r))) (all_inner (right_side r))) refl r)

-- a declaration isn't nothing
abbrev opens : List Symbol → Bool
opens (Of p ∷ ss) = not (is_outer p) && not (may_be_empty p)
opens _ = false

opens_so : (r : Rule) → begins_next r ≡ true → opens (right_side r) ≡ true
opens_so r = implied _ _ (each_rule (λ r. implies (begins_next r) (opens (right_side r))) refl r)

-- tokens before the declaration's end

pub not_both : (b : Bool) → not b ≡ true → b ≡ true → ⊥
not_both true h g = false≢true h
not_both false h g = false≢true g

pub when_not : (b : Bool) → not b ≡ true → b ≡ false
when_not true h = absurd (false≢true h)
when_not false h = refl

pub inner_append : (a b : List Symbol) → all_inner a ≡ true → all_inner b ≡ true → all_inner (a ++ b) ≡ true
inner_append [] b h k = k
inner_append (Word w ∷ a) b h k = inner_append a b h k
inner_append (Of p ∷ a) b h k = let both = and_parts _ _ h in and_from _ _ both.0 (inner_append a b both.1 k)

pub word_alone : {k : Kind} {p : Part} {ss : List Symbol} → Word k ∷ ss ≡ Of p ∷ [] → ⊥
word_alone e = cc

pub part_alone : {p q : Part} {ss : List Symbol} → Of p ∷ ss ≡ Of q ∷ [] → p ≡ q
part_alone e = cc

-- the parts of a declaration that isn't nothing are spelt by some token
pub some_token : (nodes : List Node) (a ss : List Symbol) (tokens : List Kind) (next : Option Kind) (rest : Part) → all_inner a ≡ true → (all_empty a ≡ true → ⊥) → is_outer rest ≡ true
    → Leads nodes (a ++ ss) tokens next (Of rest ∷ []) → 0 < tokens_before nodes
some_token nodes [] ss tokens next rest i n o h = absurd (n refl)
some_token [] (Word k ∷ a) ss [] next rest i n o h = absurd (word_alone h)
some_token [] (Of p ∷ a) ss [] next rest i n o h = absurd (not_both (is_outer p) (and_parts _ _ i).0 (subst (λ p. is_outer p ≡ true) (sym (part_alone h)) o))
some_token [] (s ∷ a) ss (t ∷ tokens) next rest i n o h = absurd h
some_token (Leaf ∷ nodes) (s ∷ a) ss tokens next rest i n o h = omega arith
some_token (Inner r ∷ nodes) (Word k ∷ a) ss tokens next rest i n o h = absurd h
some_token (Inner r ∷ nodes) (Of p ∷ a) ss tokens next rest i n o h =
    let both = and_parts _ _ i in
    let inner = subst (λ p. not (is_outer p) ≡ true) (sym h.0) both.0 in
    subst (λ (b : Bool). 0 < (if b then 0 else tokens_before nodes)) (sym (when_not (ends_before r) inner))
    (some_token nodes (right_side r ++ a) ss tokens next rest (inner_append (right_side r) a (inner_so r inner) both.1) (λ e. n (stops_of r p a h.0 e)) o
    (subst (λ x. Leads nodes x tokens next (Of rest ∷ [])) (sym (append_assoc (right_side r) a ss)) h.2))

-- they are among the tokens spelt
pub few_tokens : (nodes : List Node) (old : List Symbol) (tokens : List Kind) (next : Option Kind) (now : List Symbol) → Leads nodes old tokens next now → tokens_before nodes ≤ length tokens
few_tokens [] old tokens next now h = omega arith
few_tokens (Leaf ∷ nodes) [] tokens next now h = absurd h
few_tokens (Leaf ∷ nodes) (Word k ∷ old) [] next now h = absurd h
few_tokens (Leaf ∷ nodes) (Word k ∷ old) (t ∷ tokens) next now h = let f = few_tokens nodes old tokens next now h.1 in omega (arith, f)
few_tokens (Leaf ∷ nodes) (Of p ∷ old) tokens next now h = absurd h
few_tokens (Inner r ∷ nodes) [] tokens next now h = absurd h
few_tokens (Inner r ∷ nodes) (Word k ∷ old) tokens next now h = absurd h
few_tokens (Inner r ∷ nodes) (Of p ∷ old) tokens next now h = by_end (ends_before r) (few_tokens nodes (right_side r ++ old) tokens next now h.2)
  where
    by_end : (b : Bool) → tokens_before nodes ≤ length tokens → (if b then 0 else tokens_before nodes) ≤ length tokens
    by_end true f = omega arith
    by_end false f = f

abbrev pub HasToken : ℕ → Extent → Type 0
HasToken most extent = (extent.first < extent.after) × (extent.after ≤ most)

abbrev pub HaveTokens : ℕ → List Extent → Type 0
HaveTokens most [] = Unit {0}
HaveTokens most (extent ∷ extents) = HasToken most extent × HaveTokens most extents

-- of each declaration
pub have_tokens : (nodes : List Node) (old : List Symbol) (n most : ℕ) (tokens : List Kind) (next : Option Kind) (rest : Part) → is_outer rest ≡ true → n + length tokens ≤ most
    → Leads nodes old tokens next (Of rest ∷ []) → HaveTokens most (extents_of n nodes)
have_tokens [] old n most tokens next rest o l h = tt
have_tokens (Leaf ∷ nodes) [] n most tokens next rest o l h = absurd h
have_tokens (Leaf ∷ nodes) (Word k ∷ old) n most [] next rest o l h = absurd h
have_tokens (Leaf ∷ nodes) (Word k ∷ old) n most (t ∷ tokens) next rest o l h = have_tokens nodes old (suc n) most tokens next rest o (omega (arith, l)) h.1
have_tokens (Leaf ∷ nodes) (Of p ∷ old) n most tokens next rest o l h = absurd h
have_tokens (Inner r ∷ nodes) [] n most tokens next rest o l h = absurd h
have_tokens (Inner r ∷ nodes) (Word k ∷ old) n most tokens next rest o l h = absurd h
have_tokens (Inner r ∷ nodes) (Of p ∷ old) n most tokens next rest o l h =
    by_start (begins_next r) (entered (right_side r) h.2) (few_tokens nodes (right_side r ++ old) tokens next (Of rest ∷ []) h.2) (have_tokens nodes (right_side r ++ old) n most tokens next rest o l h.2) (opens_so r)
  where
    entered : (side : List Symbol) → Leads nodes (side ++ old) tokens next (Of rest ∷ []) → opens side ≡ true → 0 < tokens_before nodes
    entered [] h e = absurd (false≢true e)
    entered (Word k ∷ side) h e = absurd (false≢true e)
    entered (Of p ∷ side) h e =
        let both = and_parts _ _ e in
        some_token nodes (Of p ∷ []) (side ++ old) tokens next rest (and_from _ _ both.0 refl) (λ k. not_both (may_be_empty p) both.1 (and_parts _ _ k).0) o h

    by_start : (b : Bool) → (opens (right_side r) ≡ true → 0 < tokens_before nodes) → tokens_before nodes ≤ length tokens → HaveTokens most (extents_of n nodes) → (b ≡ true → opens (right_side r) ≡ true)
        → HaveTokens most (if b then record { first = n; after = n + tokens_before nodes } ∷ extents_of n nodes else extents_of n nodes)
    by_start true s f k e = let t = s (e refl) in ((omega (arith, t), omega (arith, f, l)), k)
    by_start false s f k e = k
