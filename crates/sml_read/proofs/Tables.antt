-- What a computation over the whole table shows of each rule.
use Rattle.std.proofs.Common.{◌≡◌, ℕ, zero, suc, ◌-◌, ◌<◌, ◌≤◌, length, get_or, cond, List, [], ◌∷◌, ◌++◌, Bool, true, false, Option, Some, None, refl, sym, ap, ◌∙◌, subst, eqb, ltb}
use Rattle.std.specs.Prelude.{not, ◌&&◌, slice_get}
use Rattle.std.proofs.lemmas.Bool.{cond-true, cond-false, lt-ltb, le-ltb, eqb-true, ltb-true, and_parts, false≢true}
use Rattle.sml_lex.specs.declared.token.Kind.{Kind}
use Rattle.sml_read.specs.declared.grammar.Part.{Part}
use Rattle.sml_read.specs.declared.grammar.Symbol.{Symbol}
use Rattle.sml_read.specs.declared.grammar.Symbol.TheVariants.{Word, Of}
use Rattle.sml_read.specs.declared.grammar.Rule.{Rule}
use Rattle.sml_read.specs.declared.grammar.Node.{Node}
use Rattle.sml_read.specs.declared.grammar.Node.TheVariants.{Leaf, Inner}
use Rattle.sml_read.specs.Grammar.{right_side}
use Rattle.sml_read.specs.Parts.{part_of, may_be_empty}
use Rattle.sml_read.specs.Numbers.{kind_number, part_number}
use Rattle.sml_read.specs.CodeAll.{all_kinds, all_parts, all_rules, rules_of}
use Rattle.sml_read.specs.Spelling.{begins_with, all_empty, side_begins_with, is_open, is_outer, head_or}
use Rattle.sml_read.specs.CodeTable.{row_of, suits, rule_for, rule_at_end, rule_before}
use Rattle.sml_read.specs.CodeShortest.{shortest, shortest_text, weight}
use Rattle.sml_read.specs.CodeSteps.{goes_on, is_safe, ends_outer, cost}
use Rattle.sml_read.proofs.Every.{kind_at, part_at}
use Rattle.sml_read.proofs.EveryRule.{rule_number, rule_at}

abbrev every : {A : Type 0} → (A → Bool) → List A → Bool
every f [] = true
every f (x ∷ xs) = f x && every f xs

every_at : {A : Type 0} (f : A → Bool) (xs : List A) → every f xs ≡ true → (n : ℕ) (x : A) → slice_get xs n ≡ Some x → f x ≡ true
every_at f [] h n x e = cc
every_at f (y ∷ ys) h zero x e = let same : y ≡ x = cc in subst (λ z. f z ≡ true) same (and_parts _ _ h).0
every_at f (y ∷ ys) h (suc n) x e = every_at f ys (and_parts _ _ h).1 n x e

-- equal numbers, equal things
some_same : {A : Type 0} {a b : A} → Some a ≡ Some b → a ≡ b
some_same e = cc

pub kind_same : (a b : Kind) → kind_number a ≡ kind_number b → a ≡ b
kind_same a b e = some_same (sym (kind_at a) ∙ ap (slice_get all_kinds) e ∙ kind_at b)

pub part_same : (a b : Part) → part_number a ≡ part_number b → a ≡ b
part_same a b e = some_same (sym (part_at a) ∙ ap (slice_get all_parts) e ∙ part_at b)

pub rule_same : (a b : Rule) → rule_number a ≡ rule_number b → a ≡ b
rule_same a b e = some_same (sym (rule_at a) ∙ ap (slice_get all_rules) e ∙ rule_at b)

-- a test that holds of each
each_kind : (f : Kind → Bool) → every f all_kinds ≡ true → (k : Kind) → f k ≡ true
each_kind f h k = every_at f all_kinds h (kind_number k) k (kind_at k)

each_part : (f : Part → Bool) → every f all_parts ≡ true → (p : Part) → f p ≡ true
each_part f h p = every_at f all_parts h (part_number p) p (part_at p)

pub each_rule : (f : Rule → Bool) → every f all_rules ≡ true → (r : Rule) → f r ≡ true
each_rule f h r = every_at f all_rules h (rule_number r) r (rule_at r)

-- what may stand after: a token of each kind, or none
abbrev every_ending : (Option Kind → Bool) → Bool
every_ending f = f None && every (λ k. f (Some k)) all_kinds

each_ending : (f : Option Kind → Bool) → every_ending f ≡ true → (k : Option Kind) → f k ≡ true
each_ending f h None = (and_parts _ _ h).0
each_ending f h (Some k) = each_kind (λ k. f (Some k)) (and_parts _ _ h).1 k

abbrev pub implies : Bool → Bool → Bool
implies true b = b
implies false b = true

pub implied : (a b : Bool) → implies a b ≡ true → a ≡ true → b ≡ true
implied true b h e = h
implied false b h e = absurd (false≢true e)

-- a rule's right side begins with nothing with which its part doesn't
pub begins_so : (r : Rule) (k : Kind) → side_begins_with (right_side r) k ≡ true → begins_with (part_of r) k ≡ true
begins_so r k = implied _ _ (each_kind (λ k. implies (side_begins_with (right_side r) k) (begins_with (part_of r) k)) (each_rule (λ r. every (λ k. implies (side_begins_with (right_side r) k) (begins_with (part_of r) k)) all_kinds) refl r) k)

-- a rule whose right side may be empty is one of a part that may be
pub empty_so : (r : Rule) → all_empty (right_side r) ≡ true → may_be_empty (part_of r) ≡ true
empty_so r = implied _ _ (each_rule (λ r. implies (all_empty (right_side r)) (may_be_empty (part_of r))) refl r)

abbrev is_rule : Option Rule → Rule → Bool
is_rule None r = false
is_rule (Some q) r = eqb (rule_number q) (rule_number r)

is_rule_so : (o : Option Rule) (r : Rule) → is_rule o r ≡ true → o ≡ Some r
is_rule_so None r h = absurd (false≢true h)
is_rule_so (Some q) r h = ap Some (rule_same q r (eqb-true _ _ h))

-- the rule that suits is the one that the table has
pub suits_so : (r : Rule) (k : Kind) → suits r k ≡ true → rule_for (part_of r) k ≡ Some r
suits_so r k h = is_rule_so _ r (implied _ _ (each_kind (λ k. implies (suits r k) (is_rule (rule_for (part_of r) k) r)) (each_rule (λ r. every (λ k. implies (suits r k) (is_rule (rule_for (part_of r) k) r)) all_kinds) refl r) k) h)

pub ends_so : (r : Rule) → all_empty (right_side r) ≡ true → rule_at_end (part_of r) ≡ Some r
ends_so r h = is_rule_so _ r (implied _ _ (each_rule (λ r. implies (all_empty (right_side r)) (is_rule (rule_at_end (part_of r)) r)) refl r) h)

-- the rule that the table has is one of the part, and suits
abbrev fits_row : Part → Kind → Option Rule → Bool
fits_row p k None = true
fits_row p k (Some r) = eqb (part_number (part_of r)) (part_number p) && is_open r (Some k)

fits_row_so : (p : Part) (k : Kind) → fits_row p k (rule_for p k) ≡ true
fits_row_so p k = each_kind (λ k. fits_row p k (rule_for p k)) (each_part (λ p. every (λ k. fits_row p k (rule_for p k)) all_kinds) refl p) k

pub rule_for_so : (p : Part) (k : Kind) (r : Rule) → rule_for p k ≡ Some r → (part_of r ≡ p) × (is_open r (Some k) ≡ true)
rule_for_so p k r e =
    let h : fits_row p k (Some r) ≡ true = subst (λ o. fits_row p k o ≡ true) e (fits_row_so p k) in
    let both = and_parts _ _ h in
    (part_same _ _ (eqb-true _ _ both.0), both.1)

abbrev fits_end : Part → Option Rule → Bool
fits_end p None = true
fits_end p (Some r) = eqb (part_number (part_of r)) (part_number p)

pub rule_at_end_so : (p : Part) (r : Rule) → rule_at_end p ≡ Some r → part_of r ≡ p
rule_at_end_so p r e =
    let h : fits_end p (Some r) ≡ true = subst (λ o. fits_end p o ≡ true) e (each_part (λ p. fits_end p (rule_at_end p)) refl p) in
    part_same _ _ (eqb-true _ _ h)

-- a rule costs less than its part
pub cost_so : (r : Rule) → cost (right_side r) < weight (part_of r)
cost_so r = ltb-true _ _ (each_rule (λ r. ltb (cost (right_side r)) (weight (part_of r))) refl r)

-- where a part may end, so may each right side
pub safe_so : (r : Rule) (f : Option Kind) → not (goes_on (part_of r) f) ≡ true → is_safe (right_side r) f ≡ true
safe_so r f = implied _ _ (each_ending (λ f. implies (not (goes_on (part_of r) f)) (is_safe (right_side r) f)) (each_rule (λ r. every_ending (λ f. implies (not (goes_on (part_of r) f)) (is_safe (right_side r) f))) refl r) f)

-- whether these nodes are trees of these symbols for these tokens, with next after them
abbrev pub runs : List Node → List Symbol → List Kind → Option Kind → Bool
runs [] [] [] next = true
runs (Leaf ∷ nodes) (Word k ∷ ss) (x ∷ ts) next = eqb (kind_number k) (kind_number x) && runs nodes ss ts next
runs (Inner r ∷ nodes) (Of p ∷ ss) ts next =
    eqb (part_number (part_of r)) (part_number p) && (is_open r (head_or ts next) && runs nodes (right_side r ++ ss) ts next)
runs [] [] (x ∷ ts) next = false
runs [] (s ∷ ss) ts next = false
runs (Leaf ∷ nodes) [] ts next = false
runs (Leaf ∷ nodes) (Word k ∷ ss) [] next = false
runs (Leaf ∷ nodes) (Of p ∷ ss) ts next = false
runs (Inner r ∷ nodes) [] ts next = false
runs (Inner r ∷ nodes) (Word k ∷ ss) ts next = false

pub shortest_so : (p : Part) (f : Option Kind) → not (goes_on p f) ≡ true → runs (shortest p) (Of p ∷ []) (shortest_text p) f ≡ true
shortest_so p f = implied _ _ (each_ending (λ f. implies (not (goes_on p f)) (runs (shortest p) (Of p ∷ []) (shortest_text p) f)) (each_part (λ p. every_ending (λ f. implies (not (goes_on p f)) (runs (shortest p) (Of p ∷ []) (shortest_text p) f))) refl p) f)

pub rule_before_so : (p : Part) (next : Option Kind) (r : Rule) → rule_before p next ≡ Some r → (part_of r ≡ p) × (is_open r next ≡ true)
rule_before_so p None r e = (rule_at_end_so p r e, refl)
rule_before_so p (Some k) r e = rule_for_so p k r e

-- what a unit's rest leads to is a unit's rest
pub outer_so : (r : Rule) → is_outer (part_of r) ≡ true → ends_outer true (right_side r) ≡ true
outer_so r = implied _ _ (each_rule (λ r. implies (is_outer (part_of r)) (ends_outer true (right_side r))) refl r)

-- before it comes a token
abbrev pub starts_full : List Symbol → Bool
starts_full [] = true
starts_full (s ∷ []) = false
starts_full (s ∷ t ∷ ss) = not (all_empty (s ∷ []))

pub full_so : (r : Rule) → is_outer (part_of r) ≡ true → starts_full (right_side r) ≡ true
full_so r = implied _ _ (each_rule (λ r. implies (is_outer (part_of r)) (starts_full (right_side r))) refl r)

-- a unit's rest may be nothing
abbrev is_nothing : List Symbol → Bool
is_nothing [] = true
is_nothing (s ∷ ss) = false

abbrev ends_at_once : Option Rule → Bool
ends_at_once None = false
ends_at_once (Some r) = is_nothing (right_side r)

pub closes_so : (p : Part) → is_outer p ≡ true → (r : Rule) × (rule_at_end p ≡ Some r) × (right_side r ≡ [])
closes_so p h = by_rule (rule_at_end p) refl (implied _ _ (each_part (λ p. implies (is_outer p) (ends_at_once (rule_at_end p))) refl p) h)
  where
    nothing : (ss : List Symbol) → is_nothing ss ≡ true → ss ≡ []
    nothing [] h = refl
    nothing (s ∷ ss) h = absurd (false≢true h)

    by_rule : (o : Option Rule) → rule_at_end p ≡ o → ends_at_once o ≡ true → (r : Rule) × (rule_at_end p ≡ Some r) × (right_side r ≡ [])
    by_rule None e h = absurd (false≢true h)
    by_rule (Some r) e h = (r, e, nothing (right_side r) h)

-- the row of a part, cell by cell
abbrev same_rule : Option Rule → Option Rule → Bool
same_rule None None = true
same_rule (Some q) o = is_rule o q
same_rule None (Some q) = false

same_rule_so : (a b : Option Rule) → same_rule a b ≡ true → a ≡ b
same_rule_so None None h = refl
same_rule_so (Some q) o h = sym (is_rule_so o q h)
same_rule_so None (Some q) h = absurd (false≢true h)

abbrev cell_says : Part → Kind → Bool
cell_says p k = same_rule (cond (ltb (get_or (row_of p) (kind_number k) 0) 48) None (slice_get (rules_of p) (get_or (row_of p) (kind_number k) 0 - 48))) (rule_for p k)

cell_so : (p : Part) (k : Kind) → cond (ltb (get_or (row_of p) (kind_number k) 0) 48) None (slice_get (rules_of p) (get_or (row_of p) (kind_number k) 0 - 48)) ≡ rule_for p k
cell_so p k = same_rule_so _ _ (each_kind (λ k. cell_says p k) (each_part (λ p. every (λ k. cell_says p k) all_kinds) refl p) k)

pub row_within : (p : Part) (k : Kind) → kind_number k < length (row_of p)
row_within p k = ltb-true _ _ (each_kind (λ k. ltb (kind_number k) (length (row_of p))) (each_part (λ p. every (λ k. ltb (kind_number k) (length (row_of p))) all_kinds) refl p) k)

pub cell_none : (p : Part) (k : Kind) (cell : ℕ) → cell ≡ get_or (row_of p) (kind_number k) 0 → cell < 48 → None ≡ rule_for p k
cell_none p k cell e l =
    sym (cond-true _ None _ (lt-ltb _ _ (subst (λ x. x < 48) e l))) ∙ cell_so p k

pub cell_some : (p : Part) (k : Kind) (cell : ℕ) → cell ≡ get_or (row_of p) (kind_number k) 0 → 48 ≤ cell → slice_get (rules_of p) (cell - 48) ≡ rule_for p k
cell_some p k cell e l =
    ap (λ x. slice_get (rules_of p) (x - 48)) e
    ∙ sym (cond-false _ None _ (le-ltb _ _ (subst (λ x. 48 ≤ x) e l))) ∙ cell_so p k

-- a part that may be empty has an empty tree
abbrev is_no_text : List Kind → Bool
is_no_text [] = true
is_no_text (k ∷ ks) = false

no_text : (ks : List Kind) → is_no_text ks ≡ true → ks ≡ []
no_text [] h = refl
no_text (k ∷ ks) h = absurd (false≢true h)

pub short_so : (p : Part) → may_be_empty p ≡ true → shortest_text p ≡ []
short_so p h = no_text _ (implied _ _ (each_part (λ p. implies (may_be_empty p) (is_no_text (shortest_text p))) refl p) h)

-- a part that may begin with a kind has a rule that does
abbrev begins_by : Part → Kind → Option Rule → Bool
begins_by p k None = false
begins_by p k (Some r) = eqb (part_number (part_of r)) (part_number p) && side_begins_with (right_side r) k

pub starter_so : (p : Part) (k : Kind) → begins_with p k ≡ true → (r : Rule) × (part_of r ≡ p) × (side_begins_with (right_side r) k ≡ true)
starter_so p k h = by_rule (rule_for p k) (implied _ _ (each_kind (λ k. implies (begins_with p k) (begins_by p k (rule_for p k))) (each_part (λ p. every (λ k. implies (begins_with p k) (begins_by p k (rule_for p k))) all_kinds) refl p) k) h)
  where
    by_rule : (o : Option Rule) → begins_by p k o ≡ true → (r : Rule) × (part_of r ≡ p) × (side_begins_with (right_side r) k ≡ true)
    by_rule None h = absurd (false≢true h)
    by_rule (Some r) h =
        let both = and_parts _ _ h in
        (r, part_same _ _ (eqb-true _ _ both.0), both.1)
