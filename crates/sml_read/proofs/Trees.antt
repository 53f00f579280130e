-- Trees against the stack: what a step keeps.
use Rattle.std.proofs.Common.{◌≡◌, ℕ, suc, ◌+◌, ◌-◌, ◌<◌, ◌≤◌, take, length, get_or, List, [], ◌∷◌, ◌++◌, Bool, true, false, cond, Option, Some, None, refl, sym, ap, ◌∙◌, subst, eqb, arith, append_assoc, append-nil, ◌⊎◌, inl, inr}
use Rattle.std.specs.Prelude.{reverse, not, ◌&&◌, ◌||◌}
use Rattle.std.proofs.lemmas.List.{take_more, take_all, reverse-append, reverse-reverse, length-reverse}
use Rattle.std.proofs.lemmas.Bool.{eqb-true, eq-eqb, and_parts, and_from, false≢true}
use Rattle.sml_lex.specs.declared.token.Kind.{Kind}
use Rattle.sml_read.specs.declared.grammar.Part.{Part}
use Rattle.sml_read.specs.declared.grammar.Part.TheVariants.{Start}
use Rattle.sml_read.specs.declared.grammar.Symbol.{Symbol}
use Rattle.sml_read.specs.declared.grammar.Symbol.TheVariants.{Word, Of}
use Rattle.sml_read.specs.declared.grammar.Rule.{Rule}
use Rattle.sml_read.specs.declared.grammar.Node.{Node}
use Rattle.sml_read.specs.declared.grammar.Node.TheVariants.{Leaf, Inner}
use Rattle.sml_read.specs.Grammar.{right_side}
use Rattle.sml_read.specs.Parts.{part_of, may_be_empty}
use Rattle.sml_read.specs.Numbers.{kind_number}
use Rattle.sml_read.specs.Spelling.{IsUnexpectedAt, EndsTooEarly, IsUnit, is_outer, begins_with, all_empty, side_begins_with, is_open, head_or, Leads}
use Rattle.sml_read.specs.CodeTable.{rule_for, rule_before}
use Rattle.sml_read.specs.CodeShortest.{shortest, shortest_text, weight}
use Rattle.sml_read.specs.CodeSteps.{goes_on, is_safe, ends_outer, lead, cost, Begun, Takes, Refuses, Completes, Blocks}
use Rattle.sml_read.proofs.Tables.{kind_same, part_same, begins_so, empty_so, suits_so, ends_so, rule_for_so, rule_before_so, cost_so, safe_so, shortest_so, runs, outer_so, full_so, starts_full, closes_so}

join_tests : (ea eb sa sb me bg : Bool) → (ea ≡ true → me ≡ true) → (sa ≡ true → bg ≡ true) → ((ea && eb) || (sa || (ea && sb))) ≡ true → ((me && eb) || (bg || (me && sb))) ≡ true
join_tests true true true true true true p q h = refl
join_tests true true true true true false p q h = refl
join_tests true true true true false true p q h = refl
join_tests true true true true false false p q h = absurd (false≢true (p refl))
join_tests true true true false true true p q h = refl
join_tests true true true false true false p q h = refl
join_tests true true true false false true p q h = refl
join_tests true true true false false false p q h = absurd (false≢true (p refl))
join_tests true true false true true true p q h = refl
join_tests true true false true true false p q h = refl
join_tests true true false true false true p q h = refl
join_tests true true false true false false p q h = absurd (false≢true (p refl))
join_tests true true false false true true p q h = refl
join_tests true true false false true false p q h = refl
join_tests true true false false false true p q h = refl
join_tests true true false false false false p q h = absurd (false≢true (p refl))
join_tests true false true true true true p q h = refl
join_tests true false true true true false p q h = refl
join_tests true false true true false true p q h = refl
join_tests true false true true false false p q h = absurd (false≢true (p refl))
join_tests true false true false true true p q h = refl
join_tests true false true false true false p q h = absurd (false≢true (q refl))
join_tests true false true false false true p q h = refl
join_tests true false true false false false p q h = absurd (false≢true (p refl))
join_tests true false false true true true p q h = refl
join_tests true false false true true false p q h = refl
join_tests true false false true false true p q h = refl
join_tests true false false true false false p q h = absurd (false≢true (p refl))
join_tests true false false false true true p q h = refl
join_tests true false false false true false p q h = absurd (false≢true h)
join_tests true false false false false true p q h = refl
join_tests true false false false false false p q h = absurd (false≢true (p refl))
join_tests false true true true true true p q h = refl
join_tests false true true true true false p q h = refl
join_tests false true true true false true p q h = refl
join_tests false true true true false false p q h = absurd (false≢true (q refl))
join_tests false true true false true true p q h = refl
join_tests false true true false true false p q h = refl
join_tests false true true false false true p q h = refl
join_tests false true true false false false p q h = absurd (false≢true (q refl))
join_tests false true false true true true p q h = refl
join_tests false true false true true false p q h = refl
join_tests false true false true false true p q h = refl
join_tests false true false true false false p q h = absurd (false≢true h)
join_tests false true false false true true p q h = refl
join_tests false true false false true false p q h = refl
join_tests false true false false false true p q h = refl
join_tests false true false false false false p q h = absurd (false≢true h)
join_tests false false true true true true p q h = refl
join_tests false false true true true false p q h = refl
join_tests false false true true false true p q h = refl
join_tests false false true true false false p q h = absurd (false≢true (q refl))
join_tests false false true false true true p q h = refl
join_tests false false true false true false p q h = absurd (false≢true (q refl))
join_tests false false true false false true p q h = refl
join_tests false false true false false false p q h = absurd (false≢true (q refl))
join_tests false false false true true true p q h = refl
join_tests false false false true true false p q h = refl
join_tests false false false true false true p q h = refl
join_tests false false false true false false p q h = absurd (false≢true h)
join_tests false false false false true true p q h = refl
join_tests false false false false true false p q h = absurd (false≢true h)
join_tests false false false false false true p q h = refl
join_tests false false false false false false p q h = absurd (false≢true h)

open_test : (ae sb bw : Bool) → (ae || sb) ≡ true → (not ae || (sb || not bw)) ≡ true → (sb || (ae && not bw)) ≡ true
open_test true true true h o = refl
open_test true true false h o = refl
open_test true false true h o = absurd (false≢true o)
open_test true false false h o = refl
open_test false true true h o = refl
open_test false true false h o = refl
open_test false false true h o = absurd (false≢true h)
open_test false false false h o = absurd (false≢true h)

and_assoc : (a b c : Bool) → ((a && b) && c) ≡ (a && (b && c))
and_assoc true b c = refl
and_assoc false b c = refl

pub all_empty-append : (a b : List Symbol) → all_empty (a ++ b) ≡ (all_empty a && all_empty b)
all_empty-append [] b = refl
all_empty-append (Word k ∷ a) b = refl
all_empty-append (Of p ∷ a) b = ap (λ x. may_be_empty p && x) (all_empty-append a b) ∙ sym (and_assoc (may_be_empty p) (all_empty a) (all_empty b))

distribute : (bg me sa ea sb : Bool) → (bg || (me && (sa || (ea && sb)))) ≡ ((bg || (me && sa)) || ((me && ea) && sb))
distribute true true true true true = refl
distribute true true true true false = refl
distribute true true true false true = refl
distribute true true true false false = refl
distribute true true false true true = refl
distribute true true false true false = refl
distribute true true false false true = refl
distribute true true false false false = refl
distribute true false true true true = refl
distribute true false true true false = refl
distribute true false true false true = refl
distribute true false true false false = refl
distribute true false false true true = refl
distribute true false false true false = refl
distribute true false false false true = refl
distribute true false false false false = refl
distribute false true true true true = refl
distribute false true true true false = refl
distribute false true true false true = refl
distribute false true true false false = refl
distribute false true false true true = refl
distribute false true false true false = refl
distribute false true false false true = refl
distribute false true false false false = refl
distribute false false true true true = refl
distribute false false true true false = refl
distribute false false true false true = refl
distribute false false true false false = refl
distribute false false false true true = refl
distribute false false false true false = refl
distribute false false false false true = refl
distribute false false false false false = refl

pub side_begins_with-append : (a b : List Symbol) (k : Kind) → side_begins_with (a ++ b) k ≡ (side_begins_with a k || (all_empty a && side_begins_with b k))
side_begins_with-append [] b k = refl
side_begins_with-append (Word x ∷ a) b k = or_false (eqb (kind_number k) (kind_number x))
  where
    or_false : (t : Bool) → t ≡ (t || false)
    or_false true = refl
    or_false false = refl
side_begins_with-append (Of p ∷ a) b k =
    ap (λ x. begins_with p k || (may_be_empty p && x)) (side_begins_with-append a b k)
    ∙ distribute (begins_with p k) (may_be_empty p) (side_begins_with a k) (all_empty a) (side_begins_with b k)

-- the first token of what a part stands for, by its rule
starts_of : (r : Rule) (p : Part) (a : List Symbol) (k : Kind) → part_of r ≡ p → (all_empty (right_side r ++ a) || side_begins_with (right_side r ++ a) k) ≡ true → ((may_be_empty p && all_empty a) || (begins_with p k || (may_be_empty p && side_begins_with a k))) ≡ true
starts_of r p a k e h =
    subst (λ p. ((may_be_empty p && all_empty a) || (begins_with p k || (may_be_empty p && side_begins_with a k))) ≡ true) e
    (join_tests (all_empty (right_side r)) (all_empty a) (side_begins_with (right_side r) k) (side_begins_with a k) (may_be_empty (part_of r)) (begins_with (part_of r) k) (empty_so r) (begins_so r k)
    (subst (λ x. (x || (side_begins_with (right_side r) k || (all_empty (right_side r) && side_begins_with a k))) ≡ true) (all_empty-append (right_side r) a)
    (subst (λ x. (all_empty (right_side r ++ a) || x) ≡ true) (side_begins_with-append (right_side r) a k) h)))

starts : (nodes : List Node) (a ss : List Symbol) (k : Kind) (ts : List Kind) (next : Option Kind) (now : List Symbol) → Leads nodes (a ++ ss) (k ∷ ts) next now → (all_empty a || side_begins_with a k) ≡ true
starts nodes [] ss k ts next now h = refl
starts [] (s ∷ a) ss k ts next now h = absurd h
starts (Leaf ∷ nodes) (Word w ∷ a) ss k ts next now h = eq-eqb _ _ (ap kind_number (sym h.0))
starts (Leaf ∷ nodes) (Of p ∷ a) ss k ts next now h = absurd h
starts (Inner r ∷ nodes) (Word w ∷ a) ss k ts next now h = absurd h
starts (Inner r ∷ nodes) (Of p ∷ a) ss k ts next now h =
    starts_of r p a k h.0 (starts nodes (right_side r ++ a) ss k ts next now (subst (λ x. Leads nodes x (k ∷ ts) next now) (sym (append_assoc (right_side r) a ss)) h.2))

pub stops_of : (r : Rule) (p : Part) (a : List Symbol) → part_of r ≡ p → all_empty (right_side r ++ a) ≡ true → (may_be_empty p && all_empty a) ≡ true
stops_of r p a e h =
    let both = and_parts _ _ (sym (all_empty-append (right_side r) a) ∙ h) in
    and_from _ _ (subst (λ p. may_be_empty p ≡ true) e (empty_so r both.0)) both.1

-- without a token the symbols a are used up, or something is left of them
abbrev Remains : List Symbol → List Symbol → List Symbol → Type 0
Remains a ss now = (all_empty a ≡ true) ⊎ (length ss < length now)

longer : (s : Symbol) (a ss : List Symbol) → length ss < length (s ∷ a ++ ss)
longer s [] ss = omega arith
longer s (t ∷ a) ss = let h = longer t a ss in omega (arith, h)

stops : (nodes : List Node) (a ss : List Symbol) (next : Option Kind) (now : List Symbol) → Leads nodes (a ++ ss) [] next now → Remains a ss now
stops nodes [] ss next now h = inl refl
stops [] (s ∷ a) ss next now h = inr (subst (λ x. length ss < length x) h (longer s a ss))
stops (Leaf ∷ nodes) (Word w ∷ a) ss next now h = absurd h
stops (Leaf ∷ nodes) (Of p ∷ a) ss next now h = absurd h
stops (Inner r ∷ nodes) (Word w ∷ a) ss next now h = absurd h
stops (Inner r ∷ nodes) (Of p ∷ a) ss next now h =
    either (stops nodes (right_side r ++ a) ss next now (subst (λ x. Leads nodes x [] next now) (sym (append_assoc (right_side r) a ss)) h.2))
  where
    either : Remains (right_side r ++ a) ss now → Remains (Of p ∷ a) ss now
    either (inl e) = inl (stops_of r p a h.0 e)
    either (inr e) = inr e

-- the rule is the table's
forced : (r : Rule) (nodes : List Node) (p : Part) (ss : List Symbol) (k : Kind) (ts : List Kind) (next : Option Kind) (now : List Symbol) → Leads (Inner r ∷ nodes) (Of p ∷ ss) (k ∷ ts) next now → rule_for p k ≡ Some r
forced r nodes p ss k ts next now h =
    subst (λ p. rule_for p k ≡ Some r) h.0
    (suits_so r k (open_test (all_empty (right_side r)) (side_begins_with (right_side r) k) (begins_with (part_of r) k) (starts nodes (right_side r) ss k ts next now h.2) h.1))

or_left : (a b : Bool) → a ≡ true → (a || b) ≡ true
or_left true b h = refl
or_left false b h = absurd (false≢true h)

forced_left : (r : Rule) (nodes : List Node) (p : Part) (ss : List Symbol) (next : Option Kind) (now : List Symbol) → length now ≤ length ss → Leads (Inner r ∷ nodes) (Of p ∷ ss) [] next now → rule_before p next ≡ Some r
forced_left r nodes p ss next now short h = subst (λ p. rule_before p next ≡ Some r) h.0 (by_next next h.1 empty)
  where
    used : Remains (right_side r) ss now → all_empty (right_side r) ≡ true
    used (inl e) = e
    used (inr e) = absurd (omega (arith, e, short))

    empty : all_empty (right_side r) ≡ true
    empty = used (stops nodes (right_side r) ss next now h.2)

    by_next : (next : Option Kind) → is_open r next ≡ true → all_empty (right_side r) ≡ true → rule_before (part_of r) next ≡ Some r
    by_next None o e = ends_so r e
    by_next (Some k) o e =
        suits_so r k (open_test (all_empty (right_side r)) (side_begins_with (right_side r) k) (begins_with (part_of r) k) (or_left _ _ e) o)

same_rule : {q r : Rule} → Some q ≡ Some r → q ≡ r
same_rule e = cc

not_none : {q : Rule} → Some q ≡ None → ⊥
not_none e = cc

next_rule : (nodes : List Node) (p : Part) (ss : List Symbol) (k : Kind) (ts : List Kind) (next : Option Kind) (now : List Symbol) (r : Rule) → rule_for p k ≡ Some r → Leads nodes (Of p ∷ ss) (k ∷ ts) next now → (rest : List Node) × (nodes ≡ Inner r ∷ rest) × Leads rest (right_side r ++ ss) (k ∷ ts) next now
next_rule [] p ss k ts next now r e h = absurd h
next_rule (Leaf ∷ nodes) p ss k ts next now r e h = absurd h
next_rule (Inner q ∷ nodes) p ss k ts next now r e h =
    let same : q ≡ r = same_rule (sym (forced q nodes p ss k ts next now h) ∙ e) in
    (nodes, ap (λ x. Inner x ∷ nodes) same, subst (λ x. Leads nodes (right_side x ++ ss) (k ∷ ts) next now) same h.2)

no_rule : (nodes : List Node) (p : Part) (ss : List Symbol) (k : Kind) (ts : List Kind) (next : Option Kind) (now : List Symbol) → rule_for p k ≡ None → Leads nodes (Of p ∷ ss) (k ∷ ts) next now → ⊥
no_rule [] p ss k ts next now e h = absurd h
no_rule (Leaf ∷ nodes) p ss k ts next now e h = absurd h
no_rule (Inner q ∷ nodes) p ss k ts next now e h = not_none (sym (forced q nodes p ss k ts next now h) ∙ e)

-- more symbols than one can't be left by no node
too_long : {A : Type 0} (s t : A) (ss after : List A) → s ∷ t ∷ ss ≡ after → length after ≤ 1 → ⊥
too_long s t ss after e short = let l : suc (suc (length ss)) ≤ 1 = subst (λ x. length x ≤ 1) (sym e) short in omega (arith, l)

left_rule : (nodes : List Node) (p : Part) (t : Symbol) (ss : List Symbol) (next : Option Kind) (after : List Symbol) (r : Rule) → length after ≤ 1 → rule_before p next ≡ Some r → Leads nodes (Of p ∷ t ∷ ss) [] next after → (rest : List Node) × (nodes ≡ Inner r ∷ rest) × Leads rest (right_side r ++ t ∷ ss) [] next after
left_rule [] p t ss next after r short e h = absurd (too_long _ _ _ _ h short)
left_rule (Leaf ∷ nodes) p t ss next after r short e h = absurd h
left_rule (Inner q ∷ nodes) p t ss next after r short e h =
    let same : q ≡ r = same_rule (sym (forced_left q nodes p (t ∷ ss) next after (omega (arith, short)) h) ∙ e) in
    (nodes, ap (λ x. Inner x ∷ nodes) same, subst (λ x. Leads nodes (right_side x ++ t ∷ ss) [] next after) same h.2)

no_left : (nodes : List Node) (p : Part) (t : Symbol) (ss : List Symbol) (next : Option Kind) (after : List Symbol) → length after ≤ 1 → rule_before p next ≡ None → Leads nodes (Of p ∷ t ∷ ss) [] next after → ⊥
no_left [] p t ss next after short e h = too_long _ _ _ _ h short
no_left (Leaf ∷ nodes) p t ss next after short e h = h
no_left (Inner q ∷ nodes) p t ss next after short e h = not_none (sym (forced_left q nodes p (t ∷ ss) next after (omega (arith, short)) h) ∙ e)

no_left_word : (nodes : List Node) (w : Kind) (t : Symbol) (ss : List Symbol) (next : Option Kind) (after : List Symbol) → length after ≤ 1 → Leads nodes (Word w ∷ t ∷ ss) [] next after → ⊥
no_left_word [] w t ss next after short h = too_long _ _ _ _ h short
no_left_word (Leaf ∷ nodes) w t ss next after short h = h
no_left_word (Inner q ∷ nodes) w t ss next after short h = h

-- one after another
head_or-append : (a b : List Kind) (f : Option Kind) → head_or (a ++ b) f ≡ head_or a (head_or b f)
head_or-append [] b f = refl
head_or-append (k ∷ a) b f = refl

pub join : (a : List Node) (s : List Symbol) (t : List Kind) (next : Option Kind) (m : List Symbol) (b : List Node) (u : List Kind) (now : List Symbol) → Leads a s t (head_or u next) m → Leads b m u next now → Leads (a ++ b) s (t ++ u) next now
join [] s [] next m b u now h g = subst (λ x. Leads b x u next now) (sym h) g
join [] s (x ∷ t) next m b u now h g = absurd h
join (Leaf ∷ a) [] t next m b u now h g = absurd h
join (Leaf ∷ a) (Word k ∷ s) [] next m b u now h g = absurd h
join (Leaf ∷ a) (Word k ∷ s) (x ∷ t) next m b u now h g = (h.0, join a s t next m b u now h.1 g)
join (Leaf ∷ a) (Of p ∷ s) t next m b u now h g = absurd h
join (Inner r ∷ a) [] t next m b u now h g = absurd h
join (Inner r ∷ a) (Word k ∷ s) t next m b u now h g = absurd h
join (Inner r ∷ a) (Of p ∷ s) t next m b u now h g =
    (h.0, subst (λ x. is_open r x ≡ true) (sym (head_or-append t u next)) h.1, join a (right_side r ++ s) t next m b u now h.2 g)

-- the last symbol
ends_outer-append : (e : Bool) (a b : List Symbol) → ends_outer e (a ++ b) ≡ ends_outer (ends_outer e a) b
ends_outer-append e [] b = refl
ends_outer-append e (Word k ∷ a) b = ends_outer-append false a b
ends_outer-append e (Of p ∷ a) b = ends_outer-append (is_outer p) a b

weaken : (e : Bool) (ss : List Symbol) → ends_outer false ss ≡ true → ends_outer e ss ≡ true
weaken e [] h = absurd (false≢true h)
weaken e (Word k ∷ ss) h = h
weaken e (Of p ∷ ss) h = h

based_step : (r : Rule) (p : Part) (ss : List Symbol) → part_of r ≡ p → ends_outer true (Of p ∷ ss) ≡ true → ends_outer true (right_side r ++ ss) ≡ true
based_step r p ss e h = by_test (is_outer (part_of r)) refl (subst (λ p. ends_outer (is_outer p) ss ≡ true) (sym e) h)
  where
    by_test : (b : Bool) → is_outer (part_of r) ≡ b → ends_outer (is_outer (part_of r)) ss ≡ true → ends_outer true (right_side r ++ ss) ≡ true
    by_test true o g =
        ends_outer-append true (right_side r) ss ∙ ap (λ x. ends_outer x ss) (outer_so r o ∙ sym o) ∙ g
    by_test false o g =
        ends_outer-append true (right_side r) ss ∙ weaken (ends_outer true (right_side r)) ss (subst (λ x. ends_outer x ss ≡ true) o g)

ends_full : (e : Bool) (a : List Symbol) (t : Symbol) (ss : List Symbol) → ends_outer e (a ++ t ∷ ss) ≡ ends_outer false (t ∷ ss)
ends_full e a t ss = ends_outer-append e a (t ∷ ss) ∙ same (ends_outer e a) t ss
  where
    same : (e : Bool) (t : Symbol) (ss : List Symbol) → ends_outer e (t ∷ ss) ≡ ends_outer false (t ∷ ss)
    same e (Word k) ss = refl
    same e (Of p) ss = refl

-- safety of a stack
lead-append : (a b : List Symbol) (f : Option Kind) → lead (a ++ b) f ≡ lead a (lead b f)
lead-append [] b f = refl
lead-append (Word k ∷ a) b f = refl
lead-append (Of p ∷ a) b f = ap (head_or (shortest_text p)) (lead-append a b f)

is_safe-append : (a b : List Symbol) (f : Option Kind) → is_safe (a ++ b) f ≡ (is_safe a (lead b f) && is_safe b f)
is_safe-append [] b f = refl
is_safe-append (Word k ∷ a) b f = is_safe-append a b f
is_safe-append (Of p ∷ a) b f =
    ap (λ x. not (goes_on p x) && is_safe (a ++ b) f) (lead-append a b f)
    ∙ ap (λ x. not (goes_on p (lead a (lead b f))) && x) (is_safe-append a b f)
    ∙ sym (and_assoc (not (goes_on p (lead a (lead b f)))) (is_safe a (lead b f)) (is_safe b f))

safe_step : (r : Rule) (p : Part) (ss : List Symbol) → part_of r ≡ p → is_safe (Of p ∷ ss) None ≡ true → is_safe (right_side r ++ ss) None ≡ true
safe_step r p ss e h =
    let both = and_parts _ _ h in
    is_safe-append (right_side r) ss None
    ∙ and_from _ _ (safe_so r (lead ss None) (subst (λ p. not (goes_on p (lead ss None)) ≡ true) (sym e) both.0)) both.1

-- each step costs
cost-append : (a b : List Symbol) → cost (a ++ b) ≡ cost a + cond (all_empty a) (cost b) 0
cost-append [] b = omega arith
cost-append (Word k ∷ a) b = refl
cost-append (Of p ∷ a) b = by_empty (may_be_empty p) (cost-append a b)
  where
    by_empty : (me : Bool) → cost (a ++ b) ≡ cost a + cond (all_empty a) (cost b) 0 → weight p + cond me (cost (a ++ b)) 0 ≡ weight p + cond me (cost a) 0 + cond (me && all_empty a) (cost b) 0
    by_empty true h = omega (arith, h)
    by_empty false h = omega arith

pub cost_step : (r : Rule) (p : Part) (ss : List Symbol) → part_of r ≡ p → cost (right_side r ++ ss) < cost (Of p ∷ ss)
cost_step r p ss e =
    subst (λ p. cost (right_side r ++ ss) < weight p + cond (may_be_empty p) (cost ss) 0) e
    (by_both (all_empty (right_side r)) (may_be_empty (part_of r)) (empty_so r) (cost-append (right_side r) ss))
  where
    by_both : (ae me : Bool) → (ae ≡ true → me ≡ true) → cost (right_side r ++ ss) ≡ cost (right_side r) + cond ae (cost ss) 0 → cost (right_side r ++ ss) < weight (part_of r) + cond me (cost ss) 0
    by_both true true i h = omega (arith, h, cost_so r)
    by_both true false i h = absurd (false≢true (i refl))
    by_both false true i h = omega (arith, h, cost_so r)
    by_both false false i h = omega (arith, h, cost_so r)

-- the nodes so far, before the token is taken
pub record Expands (old : List Symbol) (k : Kind) (added : List Node) (now : List Symbol) : Type 0 where
  pub leads : Leads added old [] (Some k) now
  pub only : (nodes : List Node) (tokens : List Kind) (next : Option Kind) (after : List Symbol) → Leads nodes old (k ∷ tokens) next after → Begun added now nodes (k ∷ tokens) next after
  pub safe : is_safe old None ≡ true → is_safe now None ≡ true
  pub based : ends_outer true old ≡ true → ends_outer true now ≡ true

pub expand_none : (old : List Symbol) (k : Kind) → Expands old k [] old
expand_none old k = record {
  leads = refl;
  only = λ nodes tokens next after h. (nodes, refl, h);
  safe = λ h. h;
  based = λ h. h;
}

begun_more : (added more rest nodes : List Node) (mid now : List Symbol) (tokens us : List Kind) (next : Option Kind) (after : List Symbol) (b : Begun added mid nodes tokens next after) → b.0 ≡ more ++ rest → Leads rest now us next after → Begun (added ++ more) now nodes us next after
begun_more added more rest nodes mid now tokens us next after b e h =
    (rest, b.1 ∙ ap (λ x. added ++ x) e ∙ sym (append_assoc added more rest), h)

pub expand_more : (old : List Symbol) (k : Kind) (added : List Node) (p : Part) (ss : List Symbol) (r : Rule) → rule_for p k ≡ Some r → Expands old k added (Of p ∷ ss) → Expands old k (added ++ Inner r ∷ []) (right_side r ++ ss)
expand_more old k added p ss r e x =
    let so = rule_for_so p k r e in
    record {
      leads = join added old [] (Some k) (Of p ∷ ss) (Inner r ∷ []) [] (right_side r ++ ss) x.leads (so.0, so.1, refl);
      only = λ nodes tokens next after h. only nodes tokens next after (x.only nodes tokens next after h);
      safe = λ h. safe_step r p ss so.0 (x.safe h);
      based = λ h. based_step r p ss so.0 (x.based h);
    }
  where
    only : (nodes : List Node) (tokens : List Kind) (next : Option Kind) (after : List Symbol) → Begun added (Of p ∷ ss) nodes (k ∷ tokens) next after → Begun (added ++ Inner r ∷ []) (right_side r ++ ss) nodes (k ∷ tokens) next after
    only nodes tokens next after b =
        let n = next_rule b.0 p ss k tokens next after r e b.2 in
        begun_more added (Inner r ∷ []) n.0 nodes (Of p ∷ ss) (right_side r ++ ss) (k ∷ tokens) (k ∷ tokens) next after b n.1 n.2

next_leaf : (nodes : List Node) (w : Kind) (ss : List Symbol) (k : Kind) (ts : List Kind) (next : Option Kind) (after : List Symbol) → Leads nodes (Word w ∷ ss) (k ∷ ts) next after → (w ≡ k) × (rest : List Node) × (nodes ≡ Leaf ∷ rest) × Leads rest ss ts next after
next_leaf [] w ss k ts next after h = absurd h
next_leaf (Leaf ∷ nodes) w ss k ts next after h = (h.0, nodes, refl, h.1)
next_leaf (Inner q ∷ nodes) w ss k ts next after h = absurd h

pub expand_leaf : (old : List Symbol) (k : Kind) (added : List Node) (w : Kind) (ss : List Symbol) → w ≡ k → Expands old k added (Word w ∷ ss) → Takes old k (added ++ Leaf ∷ []) ss
expand_leaf old k added w ss e x = record {
  leads = λ next. join added old [] next (Word w ∷ ss) (Leaf ∷ []) (k ∷ []) ss x.leads (e, refl);
  only = λ nodes tokens next after h. only nodes tokens next after (x.only nodes tokens next after h);
  safe = λ h. x.safe h;
  based = λ h. x.based h;
}
  where
    only : (nodes : List Node) (tokens : List Kind) (next : Option Kind) (after : List Symbol) → Begun added (Word w ∷ ss) nodes (k ∷ tokens) next after → Begun (added ++ Leaf ∷ []) ss nodes tokens next after
    only nodes tokens next after b =
        let n = next_leaf b.0 w ss k tokens next after b.2 in
        begun_more added (Leaf ∷ []) n.1 nodes (Word w ∷ ss) ss (k ∷ tokens) tokens next after b n.2 n.3

pub refuse_word : (old : List Symbol) (k : Kind) (added : List Node) (w : Kind) (ss : List Symbol) → (w ≡ k → ⊥) → Expands old k added (Word w ∷ ss) → Refuses old k
refuse_word old k added w ss ne x nodes tokens next after h =
    let b = x.only nodes tokens next after h in ne (next_leaf b.0 w ss k tokens next after b.2).0

pub refuse_part : (old : List Symbol) (k : Kind) (added : List Node) (p : Part) (ss : List Symbol) → rule_for p k ≡ None → Expands old k added (Of p ∷ ss) → Refuses old k
refuse_part old k added p ss e x nodes tokens next after h =
    let b = x.only nodes tokens next after h in no_rule b.0 p ss k tokens next after e b.2

no_symbols : (nodes : List Node) (k : Kind) (ts : List Kind) (next : Option Kind) (after : List Symbol) → Leads nodes [] (k ∷ ts) next after → ⊥
no_symbols [] k ts next after h = h
no_symbols (Leaf ∷ nodes) k ts next after h = h
no_symbols (Inner q ∷ nodes) k ts next after h = h

pub refuse_none : (old : List Symbol) (k : Kind) (added : List Node) → Expands old k added [] → Refuses old k
refuse_none old k added x nodes tokens next after h =
    let b = x.only nodes tokens next after h in no_symbols b.0 k tokens next after b.2

-- what may be ended
pub complete_none : (old : List Symbol) (next : Option Kind) → Completes old next [] old
complete_none old next = record {
  leads = refl;
  only = λ nodes k tokens beyond after e h. (nodes, refl, h);
  left = λ nodes after short h. (nodes, refl, h);
  safe = λ h. h;
  based = λ h. h;
}

for_token : (p : Part) (k : Kind) (next : Option Kind) (r : Rule) → next ≡ Some k → rule_before p next ≡ Some r → rule_for p k ≡ Some r
for_token p k next r e h = subst (λ n. rule_before p n ≡ Some r) e h

pub complete_more : (old : List Symbol) (next : Option Kind) (added : List Node) (p : Part) (t : Symbol) (ss : List Symbol) (r : Rule) → rule_before p next ≡ Some r → Completes old next added (Of p ∷ t ∷ ss) → Completes old next (added ++ Inner r ∷ []) (right_side r ++ t ∷ ss)
complete_more old next added p t ss r e x =
    let so = rule_before_so p next r e in
    record {
      leads = join added old [] next (Of p ∷ t ∷ ss) (Inner r ∷ []) [] (right_side r ++ t ∷ ss) x.leads (so.0, so.1, refl);
      only = λ nodes k tokens beyond after is h. only nodes k tokens beyond after is (x.only nodes k tokens beyond after is h);
      left = λ nodes after short h. left nodes after short (x.left nodes after short h);
      safe = λ h. safe_step r p (t ∷ ss) so.0 (x.safe h);
      based = λ h. ends_full false (right_side r) t ss ∙ sym (ends_full false (Of p ∷ []) t ss) ∙ x.based h;
    }
  where
    only : (nodes : List Node) (k : Kind) (tokens : List Kind) (beyond : Option Kind) (after : List Symbol) → next ≡ Some k → Begun added (Of p ∷ t ∷ ss) nodes (k ∷ tokens) beyond after → Begun (added ++ Inner r ∷ []) (right_side r ++ t ∷ ss) nodes (k ∷ tokens) beyond after
    only nodes k tokens beyond after is b =
        let n = next_rule b.0 p (t ∷ ss) k tokens beyond after r (for_token p k next r is e) b.2 in
        begun_more added (Inner r ∷ []) n.0 nodes (Of p ∷ t ∷ ss) (right_side r ++ t ∷ ss) (k ∷ tokens) (k ∷ tokens) beyond after b n.1 n.2

    left : (nodes : List Node) (after : List Symbol) → length after ≤ 1 → Begun added (Of p ∷ t ∷ ss) nodes [] next after → Begun (added ++ Inner r ∷ []) (right_side r ++ t ∷ ss) nodes [] next after
    left nodes after short b =
        let n = left_rule b.0 p t ss next after r short e b.2 in
        begun_more added (Inner r ∷ []) n.0 nodes (Of p ∷ t ∷ ss) (right_side r ++ t ∷ ss) [] [] next after b n.1 n.2

pub block_part : (old : List Symbol) (next : Option Kind) (added : List Node) (p : Part) (t : Symbol) (ss : List Symbol) → rule_before p next ≡ None → Completes old next added (Of p ∷ t ∷ ss) → Blocks old next
block_part old next added p t ss e x nodes after short h =
    let b = x.left nodes after short h in no_left b.0 p t ss next after short e b.2

pub block_word : (old : List Symbol) (next : Option Kind) (added : List Node) (w : Kind) (t : Symbol) (ss : List Symbol) → Completes old next added (Word w ∷ t ∷ ss) → Blocks old next
block_word old next added w t ss x nodes after short h =
    let b = x.left nodes after short h in no_left_word b.0 w t ss next after short b.2

-- the token is taken after that
pub completes_takes : (old : List Symbol) (k : Kind) (added : List Node) (mid : List Symbol) (more : List Node) (now : List Symbol) → Completes old (Some k) added mid → Takes mid k more now → ends_outer false old ≡ true → Takes old k (added ++ more) now
completes_takes old k added mid more now x t based = record {
  leads = λ next. join added old [] next mid more (k ∷ []) now x.leads (t.leads next);
  only = λ nodes tokens next after h. only nodes tokens next after (x.only nodes k tokens next after refl h);
  safe = λ h. t.safe (x.safe h);
  based = λ h. t.based (weaken true mid (x.based based));
}
  where
    only : (nodes : List Node) (tokens : List Kind) (next : Option Kind) (after : List Symbol) → Begun added mid nodes (k ∷ tokens) next after → Begun (added ++ more) now nodes tokens next after
    only nodes tokens next after b =
        let n = t.only b.0 tokens next after b.2 in
        begun_more added more n.0 nodes mid now (k ∷ tokens) tokens next after b n.1 n.2

pub completes_refuses : (old : List Symbol) (k : Kind) (added : List Node) (mid : List Symbol) → Completes old (Some k) added mid → Refuses mid k → Refuses old k
completes_refuses old k added mid x r nodes tokens next after h =
    let b = x.only nodes k tokens next after refl h in r b.0 tokens next after b.2

-- a unit's rest alone leads to none but itself
pub alone : (nodes : List Node) (p q : Part) (next : Option Kind) → is_outer p ≡ true → Leads nodes (Of p ∷ []) [] next (Of q ∷ []) → (nodes ≡ []) × (p ≡ q)
alone [] p q next o h = (refl, same h)
  where
    same : Of p ∷ [] ≡ Of q ∷ [] → p ≡ q
    same e = cc
alone (Leaf ∷ nodes) p q next o h = absurd h
alone (Inner r ∷ nodes) p q next o h =
    absurd (by_side (right_side r) (full_so r (subst (λ p. is_outer p ≡ true) (sym h.0) o)) (subst (λ x. Leads nodes x [] next (Of q ∷ [])) (append-nil (right_side r)) h.2))
  where
    by_none : (nodes : List Node) → Leads nodes [] [] next (Of q ∷ []) → ⊥
    by_none [] g = cc
    by_none (Leaf ∷ ns) g = g
    by_none (Inner r ∷ ns) g = g

    by_remains : (b : Bool) (t : Symbol) (ss : List Symbol) → not b ≡ true → (b ≡ true) ⊎ (length (t ∷ ss) < 1) → ⊥
    by_remains true t ss n (inl e) = false≢true n
    by_remains false t ss n (inl e) = false≢true e
    by_remains b t ss n (inr e) = omega (arith, e)

    by_side : (side : List Symbol) → starts_full side ≡ true → Leads nodes side [] next (Of q ∷ []) → ⊥
    by_side [] f g = by_none nodes g
    by_side (s ∷ []) f g = false≢true f
    by_side (s ∷ t ∷ ss) f g = by_remains (all_empty (s ∷ [])) t ss f (stops nodes (s ∷ []) (t ∷ ss) next (Of q ∷ []) g)

-- the shortest text of a safe stack
pub runs_lead : (nodes : List Node) (ss : List Symbol) (ts : List Kind) (f : Option Kind) (more : List Node) (rest : List Symbol) (us : List Kind) → runs nodes ss ts f ≡ true → head_or us None ≡ f → Leads more rest us None [] → Leads (nodes ++ more) (ss ++ rest) (ts ++ us) None []
runs_lead [] [] [] f more rest us h e s = s
runs_lead [] [] (t ∷ ts) f more rest us h e s = absurd (false≢true h)
runs_lead [] (x ∷ ss) ts f more rest us h e s = absurd (false≢true h)
runs_lead (Leaf ∷ nodes) [] ts f more rest us h e s = absurd (false≢true h)
runs_lead (Leaf ∷ nodes) (Word k ∷ ss) [] f more rest us h e s = absurd (false≢true h)
runs_lead (Leaf ∷ nodes) (Word k ∷ ss) (t ∷ ts) f more rest us h e s =
    let both = and_parts _ _ h in
    (kind_same k t (eqb-true _ _ both.0), runs_lead nodes ss ts f more rest us both.1 e s)
runs_lead (Leaf ∷ nodes) (Of p ∷ ss) ts f more rest us h e s = absurd (false≢true h)
runs_lead (Inner r ∷ nodes) [] ts f more rest us h e s = absurd (false≢true h)
runs_lead (Inner r ∷ nodes) (Word k ∷ ss) ts f more rest us h e s = absurd (false≢true h)
runs_lead (Inner r ∷ nodes) (Of p ∷ ss) ts f more rest us h e s =
    let both = and_parts _ _ h in
    let two = and_parts _ _ both.1 in (
      part_same _ _ (eqb-true _ _ both.0),
      subst (λ x. is_open r x ≡ true) (sym (head_or-append ts us None ∙ ap (head_or ts) e)) two.0,
      subst (λ x. Leads (nodes ++ more) x (ts ++ us) None []) (append_assoc (right_side r) ss rest) (runs_lead nodes (right_side r ++ ss) ts f more rest us two.1 e s),
    )

pub some_text : (ss : List Symbol) → is_safe ss None ≡ true → (nodes : List Node) × (ts : List Kind) × Leads nodes ss ts None [] × (head_or ts None ≡ lead ss None)
some_text [] h = ([], [], refl, refl)
some_text (Word k ∷ ss) h = let s = some_text ss h in (Leaf ∷ s.0, k ∷ s.1, (refl, s.2), refl)
some_text (Of p ∷ ss) h =
    let both = and_parts _ _ h in
    let s = some_text ss both.1 in (
      shortest p ++ s.0,
      shortest_text p ++ s.1,
      runs_lead (shortest p) (Of p ∷ []) (shortest_text p) (lead ss None) s.0 ss s.1 (shortest_so p (lead ss None) both.0) s.3 s.2,
      head_or-append (shortest_text p) s.1 None ∙ ap (head_or (shortest_text p)) s.3,
    )

-- the tokens so far lead from the start to the stack
pub record Reaches (start : List Symbol) (done : List Kind) (added : List Node) (now : List Symbol) : Type 0 where
  pub leads : (next : Option Kind) → Leads added start done next now
  pub only : (nodes : List Node) (tokens : List Kind) (next : Option Kind) (after : List Symbol) → Leads nodes start (done ++ tokens) next after → Begun added now nodes tokens next after
  pub safe : is_safe now None ≡ true
  pub based : ends_outer false now ≡ true

pub reach_none : (start : List Symbol) → is_safe start None ≡ true → ends_outer false start ≡ true → Reaches start [] [] start
reach_none start h b = record {
  leads = λ next. refl;
  only = λ nodes tokens next after s. (nodes, refl, s);
  safe = h;
  based = b;
}

pub reach_more : (start : List Symbol) (done : List Kind) (added : List Node) (now : List Symbol) (k : Kind) (more : List Node) (next : List Symbol) → Reaches start done added now → Takes now k more next → Reaches start (done ++ k ∷ []) (added ++ more) next
reach_more start done added now k more next x t = record {
  leads = λ f. join added start done f now more (k ∷ []) next (x.leads (Some k)) (t.leads f);
  only = λ nodes tokens f after h. only nodes tokens f after (x.only nodes (k ∷ tokens) f after (subst (λ ts. Leads nodes start ts f after) (append_assoc done (k ∷ []) tokens) h));
  safe = t.safe x.safe;
  based = t.based (weaken true now x.based);
}
  where
    only : (nodes : List Node) (tokens : List Kind) (f : Option Kind) (after : List Symbol) → Begun added now nodes (k ∷ tokens) f after → Begun (added ++ more) next nodes tokens f after
    only nodes tokens f after b =
        let n = t.only b.0 tokens f after b.2 in
        begun_more added more n.0 nodes now next (k ∷ tokens) tokens f after b n.1 n.2

pub reach_begins : (start : List Symbol) (done : List Kind) (added : List Node) (now : List Symbol) → Reaches start done added now → (more : List Kind) × (nodes : List Node) × Leads nodes start (done ++ more) None []
reach_begins start done added now x =
    let s = some_text now x.safe in (s.1, added ++ s.0, join added start done None now s.0 s.1 [] (x.leads (head_or s.1 None)) s.2)

pub reach_refused : (start : List Symbol) (done : List Kind) (added : List Node) (now : List Symbol) (k : Kind) → Reaches start done added now → Refuses now k → (more : List Kind) (nodes : List Node) (next : Option Kind) (after : List Symbol) → Leads nodes start ((done ++ k ∷ []) ++ more) next after → ⊥
reach_refused start done added now k x r more nodes next after h =
    let b = x.only nodes (k ∷ more) next after (subst (λ ts. Leads nodes start ts next after) (append_assoc done (k ∷ []) more) h) in
    r b.0 more next after b.2

-- the same, with the stack from its bottom
popped : (stack rest : List Symbol) (top s : Symbol) → stack ≡ rest ++ top ∷ [] → top ≡ s → reverse stack ≡ s ∷ reverse rest
popped stack rest top s e is = ap reverse e ∙ reverse-append rest (top ∷ []) ∙ ap (λ x. x ∷ reverse rest) is

laid_on : (rest back side laid : List Symbol) → laid ≡ rest ++ back → back ≡ reverse side → reverse laid ≡ side ++ reverse rest
laid_on rest back side laid e b =
    ap reverse (e ∙ ap (λ x. rest ++ x) b) ∙ reverse-append rest (reverse side) ∙ ap (λ x. x ++ reverse rest) (reverse-reverse side)

pub expand_on : (old : List Symbol) (k : Kind) (added : List Node) (stack rest back laid : List Symbol) (top : Symbol) (p : Part) (r : Rule) → Expands old k added (reverse stack) → stack ≡ rest ++ top ∷ [] → top ≡ Of p → Some r ≡ rule_for p k → back ≡ reverse (right_side r) → laid ≡ rest ++ back → Expands old k (added ++ Inner r ∷ []) (reverse laid)
expand_on old k added stack rest back laid top p r x e is chosen b l =
    subst (Expands old k (added ++ Inner r ∷ [])) (sym (laid_on rest back (right_side r) laid l b))
    (expand_more old k added p (reverse rest) r (sym chosen) (subst (Expands old k added) (popped stack rest top (Of p) e is) x))

pub cost_on : (stack rest back laid : List Symbol) (top : Symbol) (p : Part) (k : Kind) (r : Rule) → stack ≡ rest ++ top ∷ [] → top ≡ Of p → Some r ≡ rule_for p k → back ≡ reverse (right_side r) → laid ≡ rest ++ back → cost (reverse laid) < cost (reverse stack)
cost_on stack rest back laid top p k r e is chosen b l =
    subst (λ x. x < cost (reverse stack)) (ap cost (sym (laid_on rest back (right_side r) laid l b)))
    (subst (λ x. cost (right_side r ++ reverse rest) < x) (ap cost (sym (popped stack rest top (Of p) e is))) (cost_step r p (reverse rest) (rule_for_so p k r (sym chosen)).0))

pub leaf_on : (old : List Symbol) (k : Kind) (added : List Node) (stack rest : List Symbol) (top : Symbol) (w : Kind) → Expands old k added (reverse stack) → stack ≡ rest ++ top ∷ [] → top ≡ Word w → w ≡ k → Takes old k (added ++ Leaf ∷ []) (reverse rest)
leaf_on old k added stack rest top w x e is same =
    expand_leaf old k added w (reverse rest) same (subst (Expands old k added) (popped stack rest top (Word w) e is) x)

pub refuse_word_on : (old : List Symbol) (k : Kind) (added : List Node) (stack rest : List Symbol) (top : Symbol) (w : Kind) → Expands old k added (reverse stack) → stack ≡ rest ++ top ∷ [] → top ≡ Word w → (w ≡ k → ⊥) → Refuses old k
refuse_word_on old k added stack rest top w x e is ne =
    refuse_word old k added w (reverse rest) ne (subst (Expands old k added) (popped stack rest top (Word w) e is) x)

pub refuse_part_on : (old : List Symbol) (k : Kind) (added : List Node) (stack rest : List Symbol) (top : Symbol) (p : Part) → Expands old k added (reverse stack) → stack ≡ rest ++ top ∷ [] → top ≡ Of p → None ≡ rule_for p k → Refuses old k
refuse_part_on old k added stack rest top p x e is none =
    refuse_part old k added p (reverse rest) (sym none) (subst (Expands old k added) (popped stack rest top (Of p) e is) x)

pub refuse_none_on : (old : List Symbol) (k : Kind) (added : List Node) (stack : List Symbol) → Expands old k added (reverse stack) → stack ≡ [] → Refuses old k
refuse_none_on old k added stack x e = refuse_none old k added (subst (Expands old k added) (ap reverse e) x)

pub emptied : (items rest : List Symbol) (n : ℕ) → items ≡ rest ++ [] → rest ≡ take (n - 1) items → n ≡ 0 → items ≡ []
emptied items rest n a b z = a ∙ append-nil rest ∙ b ∙ ap (λ m. take (m - 1) items) z

pub reach_start : (nodes : List Node) (empty stack : List Symbol) → nodes ≡ [] → empty ≡ [] → stack ≡ empty ++ Of Start ∷ [] → Reaches (Of Start ∷ []) [] nodes (reverse stack)
reach_start nodes empty stack n e s =
    subst (λ x. Reaches (Of Start ∷ []) [] x (reverse stack)) (sym n)
    (subst (Reaches (Of Start ∷ []) [] []) (sym (ap reverse (s ∙ ap (λ x. x ++ Of Start ∷ []) e)))
    (reach_none (Of Start ∷ []) refl refl))

pub unexpected_at : (kinds : List Kind) (place : ℕ) (d : Kind) (nodes : List Node) (now : List Symbol) → place < length kinds → Reaches (Of Start ∷ []) (take place kinds) nodes now → Refuses now (get_or kinds place d) → IsUnexpectedAt kinds place
unexpected_at kinds place d nodes now within x r =
    let begun = reach_begins (Of Start ∷ []) (take place kinds) nodes now x in
    record {
      before = (begun.0, (begun.1, begun.2));
      upto = λ b. reach_refused (Of Start ∷ []) (take place kinds) nodes now (get_or kinds place d) x r b.0 b.1.0 None [] (subst (λ ts. Leads b.1.0 (Of Start ∷ []) (ts ++ b.0) None []) (take_more kinds place d within) b.1.1);
    }

pub ends_early : (kinds : List Kind) (nodes : List Node) (now : List Symbol) → Reaches (Of Start ∷ []) kinds nodes now → Blocks now None → EndsTooEarly kinds
ends_early kinds nodes now x l =
    let begun = reach_begins (Of Start ∷ []) kinds nodes now x in
    record {
      begins = (begun.0, (begun.1, begun.2));
      whole = λ b. lacks b.0 b.1;
    }
  where
    lacks : (others : List Node) → Leads others (Of Start ∷ []) kinds None [] → ⊥
    lacks others h =
        let b = x.only others [] None [] (subst (λ ts. Leads others (Of Start ∷ []) ts None []) (sym (append-nil kinds)) h) in
        l b.0 [] (omega arith) b.2

pub reach_all : (kinds : List Kind) (n : ℕ) (nodes : List Node) (now : List Symbol) → length kinds ≤ n → Reaches (Of Start ∷ []) (take n kinds) nodes now → Reaches (Of Start ∷ []) kinds nodes now
reach_all kinds n nodes now all x = subst (λ ks. Reaches (Of Start ∷ []) ks nodes now) (take_all n kinds all) x

-- what is left over tokens that are all taken
leaves : (kinds : List Kind) (nodes : List Node) (now : List Symbol) (next : Option Kind) (others : List Node) (after : List Symbol) → Reaches (Of Start ∷ []) kinds nodes now → Leads others (Of Start ∷ []) kinds next after → Begun nodes now others [] next after
leaves kinds nodes now next others after x h =
    x.only others [] next after (subst (λ ts. Leads others (Of Start ∷ []) ts next after) (sym (append-nil kinds)) h)

-- the declarations up to the stack are whole where one part is left
pub whole_leads : (kinds : List Kind) (nodes : List Node) (now : List Symbol) (next : Option Kind) (added : List Node) (part : Part) → Reaches (Of Start ∷ []) kinds nodes now → Completes now next added (Of part ∷ []) → Leads (nodes ++ added) (Of Start ∷ []) kinds next (Of part ∷ [])
whole_leads kinds nodes now next added part x c =
    subst (λ ts. Leads (nodes ++ added) (Of Start ∷ []) ts next (Of part ∷ [])) (append-nil kinds)
    (join nodes (Of Start ∷ []) kinds next now added [] (Of part ∷ []) (x.leads next) c.leads)

-- by no other nodes
pub whole_only : (kinds : List Kind) (nodes : List Node) (now : List Symbol) (next : Option Kind) (added : List Node) (part : Part) → Reaches (Of Start ∷ []) kinds nodes now → Completes now next added (Of part ∷ []) → is_outer part ≡ true → (others : List Node) (other : Part) → Leads others (Of Start ∷ []) kinds next (Of other ∷ []) → (others ≡ nodes ++ added) × (part ≡ other)
whole_only kinds nodes now next added part x c o others other h =
    let b = leaves kinds nodes now next others (Of other ∷ []) x h in
    let d = c.left b.0 (Of other ∷ []) (omega arith) b.2 in
    let e = alone d.0 part other next o d.2 in
    (b.1 ∙ ap (λ y. nodes ++ y) (d.1 ∙ ap (λ y. added ++ y) e.0 ∙ append-nil added), e.1)

pub not_whole : (kinds : List Kind) (nodes : List Node) (now : List Symbol) (next : Option Kind) → Reaches (Of Start ∷ []) kinds nodes now → Blocks now next → (others : List Node) (other : Part) → Leads others (Of Start ∷ []) kinds next (Of other ∷ []) → ⊥
not_whole kinds nodes now next x l others other h =
    let b = leaves kinds nodes now next others (Of other ∷ []) x h in
    l b.0 (Of other ∷ []) (omega arith) b.2

-- a unit whose declarations are whole is one
pub whole_unit : (kinds : List Kind) (nodes : List Node) (part : Part) → is_outer part ≡ true → Leads nodes (Of Start ∷ []) kinds None (Of part ∷ []) → IsUnit kinds
whole_unit kinds nodes part o h =
    let c = closes_so part o in
    let so = rule_before_so part None c.0 c.1 in (
      nodes ++ Inner c.0 ∷ [],
      subst (λ ts. Leads (nodes ++ Inner c.0 ∷ []) (Of Start ∷ []) ts None []) (append-nil kinds)
          (join nodes (Of Start ∷ []) kinds None (Of part ∷ []) (Inner c.0 ∷ []) [] [] h (so.0, refl, append-nil (right_side c.0) ∙ c.2)),
    )

-- the end of a unit's rest, and what stands above it
single : (ss : List Symbol) → length ss ≤ 1 → ends_outer false ss ≡ true → (p : Part) × (ss ≡ Of p ∷ []) × (is_outer p ≡ true)
single [] l h = absurd (false≢true h)
single (Word k ∷ []) l h = absurd (false≢true h)
single (Of p ∷ []) l h = (p, refl, h)
single (s ∷ t ∷ ss) l h = absurd (omega (arith, l))

second : (stack rest : List Symbol) (top : Symbol) → stack ≡ rest ++ top ∷ [] → 1 < length stack → (t : Symbol) × (ss : List Symbol) × (reverse rest ≡ t ∷ ss)
second stack [] top e l = let h : 1 < 1 = subst (λ x. 1 < length x) e l in absurd (omega (arith, h))
second stack (x ∷ rest) top e l = by_rest (reverse rest) (reverse-append (x ∷ []) rest)
  where
    by_rest : (back : List Symbol) → reverse (x ∷ rest) ≡ back ++ x ∷ [] → (t : Symbol) × (ss : List Symbol) × (reverse (x ∷ rest) ≡ t ∷ ss)
    by_rest [] e = (x, [], e)
    by_rest (y ∷ back) e = (y, back ++ x ∷ [], e)

pub top_of : (stack : List Symbol) (d : Symbol) → 0 < length stack → stack ≡ take (length stack - 1) stack ++ get_or stack (length stack - 1) d ∷ []
top_of stack d l =
    sym (ap (λ n. take n stack) (omega (arith, l)) ∙ take_all (length stack) stack (omega arith)) ∙ take_more stack (length stack - 1) d (omega (arith, l))

pub complete_on : (old : List Symbol) (next : Option Kind) (added : List Node) (stack rest back laid : List Symbol) (top : Symbol) (p : Part) (r : Rule) → Completes old next added (reverse stack) → stack ≡ rest ++ top ∷ [] → 1 < length stack → top ≡ Of p → Some r ≡ rule_before p next → back ≡ reverse (right_side r) → laid ≡ rest ++ back → Completes old next (added ++ Inner r ∷ []) (reverse laid)
complete_on old next added stack rest back laid top p r x e long is chosen b l =
    let two = second stack rest top e long in
    subst (Completes old next (added ++ Inner r ∷ [])) (sym (laid_on rest back (right_side r) laid l b ∙ ap (λ x. right_side r ++ x) two.2))
    (complete_more old next added p two.0 two.1 r (sym chosen) (subst (Completes old next added) (popped stack rest top (Of p) e is ∙ ap (λ x. Of p ∷ x) two.2) x))

pub complete_cost_on : (stack rest back laid : List Symbol) (top : Symbol) (p : Part) (next : Option Kind) (r : Rule) → stack ≡ rest ++ top ∷ [] → top ≡ Of p → Some r ≡ rule_before p next → back ≡ reverse (right_side r) → laid ≡ rest ++ back → cost (reverse laid) < cost (reverse stack)
complete_cost_on stack rest back laid top p next r e is chosen b l =
    subst (λ x. x < cost (reverse stack)) (ap cost (sym (laid_on rest back (right_side r) laid l b)))
    (subst (λ x. cost (right_side r ++ reverse rest) < x) (ap cost (sym (popped stack rest top (Of p) e is))) (cost_step r p (reverse rest) (rule_before_so p next r (sym chosen)).0))

pub block_part_on : (old : List Symbol) (next : Option Kind) (added : List Node) (stack rest : List Symbol) (top : Symbol) (p : Part) → Completes old next added (reverse stack) → stack ≡ rest ++ top ∷ [] → 1 < length stack → top ≡ Of p → None ≡ rule_before p next → Blocks old next
block_part_on old next added stack rest top p x e long is none =
    let two = second stack rest top e long in
    block_part old next added p two.0 two.1 (sym none) (subst (Completes old next added) (popped stack rest top (Of p) e is ∙ ap (λ x. Of p ∷ x) two.2) x)

pub block_word_on : (old : List Symbol) (next : Option Kind) (added : List Node) (stack rest : List Symbol) (top : Symbol) (w : Kind) → Completes old next added (reverse stack) → stack ≡ rest ++ top ∷ [] → 1 < length stack → top ≡ Word w → Blocks old next
block_word_on old next added stack rest top w x e long is =
    let two = second stack rest top e long in
    block_word old next added w two.0 two.1 (subst (Completes old next added) (popped stack rest top (Word w) e is ∙ ap (λ x. Word w ∷ x) two.2) x)

-- one symbol is left
pub single_on : (old : List Symbol) (next : Option Kind) (added : List Node) (stack : List Symbol) → Completes old next added (reverse stack) → ends_outer false old ≡ true → length stack ≤ 1 → (p : Part) × (stack ≡ Of p ∷ []) × (is_outer p ≡ true)
single_on old next added stack x based short =
    let s = single (reverse stack) (subst (λ n. n ≤ 1) (sym (length-reverse stack)) short) (x.based based) in
    (s.0, sym (reverse-reverse stack) ∙ ap reverse s.1, s.2)
