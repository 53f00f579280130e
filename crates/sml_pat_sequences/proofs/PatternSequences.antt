-- Patterns that sequences build are at least as high as what they are built from.
use Rattle.std.proofs.Common.{◌≡◌, ℕ, zero, suc, if◌then◌else◌, ◌≤◌, ◌<◌, ◌+◌, List, [], ◌∷◌, ◌++◌, false, true, Bool, nat_eq, Option, Some, None, max, map, reverse, length, drop, get_or, arith, refl, ap, sym, ◌∙◌, Result, Ok, Err, rules}
use Rattle.std.proofs.lemmas.Bool.{eqb-true}
use Rattle.std.proofs.lemmas.List.{reverse-append, drop_more}
use Rattle.std.specs.Result.{IsErrAnd}
use Rattle.sml_lex.specs.declared.fault.Place.{Place}
use Rattle.sml_tree.specs.Heights.{highest, pat_height}
use Rattle.sml_tree.specs.Patterns.{Pat, Pats, and_pat, wildcard, pat_constant, pat_name, pat_row, pat_tuple, pat_bracket, pat_apply, pat_typed, pat_as}
use Rattle.sml_tree.specs.Names.{Name}
use Rattle.sml_tree.specs.TypeViews.{ty_of, tys_of}
use Rattle.sml_tree.specs.PatternViews.{pats_of}
use Rattle.sml_tree.specs.Types.{Tys, no_ty, and_ty}
use Rattle.sml_fixity.specs.declared.sequences.Step.{Step}
use Rattle.sml_fixity.specs.declared.sequences.Step.TheVariants.{Push, Apply, Combine}
use Rattle.sml_phrases.specs.PhraseHeights.{low}
use Rattle.sml_phrases.specs.PhraseViews.{Gives}
use Rattle.sml_pat_sequences.specs.LowViews.{GivesPat, building_of, low_pat_of}
use Rattle.sml_phrases.specs.declared.low.LowPat.{LowPat}
use Rattle.sml_phrases.specs.declared.low.LowTy.{LowTy}
use Rattle.sml_phrases.specs.declared.phrase.Failure.{Failure}
use Rattle.sml_phrases.specs.declared.phrase.Failure.TheVariants.{TooHigh, Memory}
use Rattle.sml_pat_sequences.specs.PatternSequences.{Building, no_operand, operator_of, paired, applied, combined, joined, step, list_of_pats, pat_of_steps, typed_by, pat_place, sequence_pat, begins, round_sequence}
use Rattle.sml_fixity.specs.Shapes.{Shape, tree, headed}

applied-height : (f x : Pat Place) → max (pat_height f) (pat_height x) ≤ pat_height (applied f x)
applied-height (wildcard p) x = omega arith
applied-height (pat_constant p c) x = omega arith
applied-height (pat_name p c) x = omega arith
applied-height (pat_row p fs flexible) x = omega arith
applied-height (pat_tuple p qs) x = omega arith
applied-height (pat_bracket p q) x = omega arith
applied-height (pat_apply p c q) x = omega arith
applied-height (pat_typed p q t) x = omega arith
applied-height (pat_as p y t q) x = omega arith

joined-height : (q : Pat Place) (rs : List (Pat Place)) → max (pat_height q) (highest pat_height rs) ≤ pat_height (joined q rs)
joined-height q [] = omega arith
joined-height q (r ∷ rs) = omega (arith, joined-height (paired r q) rs)

stack-height : (qs : List (Pat Place)) → highest pat_height qs ≤ pat_height (joined (get_or qs 0 no_operand) (drop 1 qs))
stack-height [] = omega arith
stack-height (q ∷ qs) = joined-height q qs

applied-two-height : (qs : List (Pat Place)) → highest pat_height qs ≤ highest pat_height (applied (get_or qs 1 no_operand) (get_or qs 0 no_operand) ∷ drop 2 qs)
applied-two-height [] = omega arith
applied-two-height (x ∷ []) = omega (arith, applied-height no_operand x)
applied-two-height (x ∷ f ∷ qs) = omega (arith, applied-height f x)

combined-two-height : (f : Name Place) (qs : List (Pat Place)) → highest pat_height qs ≤ highest pat_height (combined f (get_or qs 1 no_operand) (get_or qs 0 no_operand) ∷ drop 2 qs)
combined-two-height f [] = omega arith
combined-two-height f (x ∷ []) = omega arith
combined-two-height f (x ∷ y ∷ qs) = omega arith

step-height : (s : Step) (b : Building) → highest pat_height b.stack ≤ highest pat_height (step s b).stack
step-height (Push i) b = omega arith
step-height Apply b = applied-two-height b.stack
step-height (Combine i) b = combined-two-height (operator_of (get_or b.atoms i no_operand)) b.stack

steps-height : (ss : List Step) (b : Building) → highest pat_height b.stack ≤ pat_height (pat_of_steps ss b)
steps-height [] b = stack-height b.stack
steps-height (s ∷ ss) b = omega (arith, step-height s b, steps-height ss (step s b))

pub typed-height : (p : Place) (q : Pat Place) (ts : Tys Place) → pat_height q ≤ pat_height (typed_by p q ts)
typed-height p q no_ty = omega arith
typed-height p q (and_ty t ts) = omega (arith, typed-height p (pat_typed p q t) ts)

still_too_high : (a b : ℕ) → a ≤ b → low a ≡ false → low b ≡ false
still_too_high a b below high = grind (arith, below, high)

-- a call that fails, in one that gives something that is at least as high

pub pat_fails : (small whole : Pat Place) (e : Failure) (r : Result LowPat Failure)
    → GivesPat small (Err e) → IsErrAnd r (λ f. f ≡ e) → pat_height small ≤ pat_height whole → GivesPat whole r
pat_fails small whole TooHigh (Err TooHigh) high same below = still_too_high (pat_height small) (pat_height whole) below high
pat_fails small whole Memory (Err TooHigh) high same below = search (rules, same)
pat_fails small whole e (Err Memory) high same below = tt
pat_fails small whole e (Ok q) high same below = absurd same

pub step_fails : (b : Building) (whole : Pat Place) (e : Failure) (r : Result LowPat Failure)
    → Gives building_of (λ b. low (highest pat_height b.stack)) b (Err e) → IsErrAnd r (λ f. f ≡ e) → highest pat_height b.stack ≤ pat_height whole → GivesPat whole r
step_fails b whole TooHigh (Err TooHigh) high same below = still_too_high (highest pat_height b.stack) (pat_height whole) below high
step_fails b whole Memory (Err TooHigh) high same below = search (rules, same)
step_fails b whole e (Err Memory) high same below = tt
step_fails b whole e (Ok q) high same below = absurd same

-- the next part of a whole

pub last_first : {A B : Type 0} (f : A → B) (olds rest : List A) (x : A) → olds ≡ rest ++ x ∷ [] → map f (reverse olds) ≡ f x ∷ map f (reverse rest)
last_first f olds rest x e = ap (λ xs. map f (reverse xs)) e ∙ ap (map f) (reverse-append rest (x ∷ []))

pub typed-next-height : (p : Place) (q whole : Pat Place) (olds rest : List LowTy) (t : LowTy)
    → olds ≡ rest ++ t ∷ [] → typed_by p q (tys_of (map (λ t. ty_of t.tree) (reverse olds))) ≡ whole → pat_height (pat_typed p q (ty_of t.tree)) ≤ pat_height whole
typed-next-height p q whole olds rest t e so_far =
    let this : typed_by p (pat_typed p q (ty_of t.tree)) (tys_of (map (λ t. ty_of t.tree) (reverse rest))) ≡ whole
    = sym (ap (λ ts. typed_by p q (tys_of ts)) (last_first (λ t. ty_of t.tree) olds rest t e)) ∙ so_far in
    rw (sym this) (typed-height p (pat_typed p q (ty_of t.tree)) (tys_of (map (λ t. ty_of t.tree) (reverse rest))))

pub joined-next-height : (q whole : Pat Place) (olds rest : List LowPat) (r : LowPat)
    → olds ≡ rest ++ r ∷ [] → joined q (map low_pat_of (reverse olds)) ≡ whole → pat_height (paired (low_pat_of r) q) ≤ pat_height whole
joined-next-height q whole olds rest r e so_far =
    let this : joined (paired (low_pat_of r) q) (map low_pat_of (reverse rest)) ≡ whole
    = sym (ap (joined q) (last_first low_pat_of olds rest r e)) ∙ so_far in
    let high = joined-height (paired (low_pat_of r) q) (map low_pat_of (reverse rest)) in
    rw (sym this) (omega (arith, high))

pub steps-next-height : (ss : List Step) (i : ℕ) (s : Step) (b : Building) (whole : Pat Place)
    → i < length ss → pat_of_steps (drop i ss) b ≡ whole → highest pat_height (step (get_or ss i s) b).stack ≤ pat_height whole
steps-next-height ss i s b whole inside so_far =
    let this : pat_of_steps (drop (i + 1) ss) (step (get_or ss i s) b) ≡ whole
    = sym (ap (λ ts. pat_of_steps ts b) (drop_more ss i s inside)) ∙ so_far in
    rw (sym this) (steps-height (drop (i + 1) ss) (step (get_or ss i s) b))

pub list_of-pats_of : (qs : List (Pat Place)) → list_of_pats (pats_of qs) ≡ qs
list_of-pats_of [] = refl
list_of-pats_of (q ∷ qs) = ap (λ rs. q ∷ rs) (list_of-pats_of qs)

pub all_to_build : (ss : List Step) (qs rs ts : List LowPat) → rs ≡ reverse qs → ts ≡ []
    → pat_of_steps ss (record { atoms = map low_pat_of rs; stack = map low_pat_of (reverse ts) }) ≡ pat_of_steps ss (record { atoms = list_of_pats (pats_of (map low_pat_of (reverse qs))); stack = [] })
all_to_build ss qs rs ts turned empty =
    rw (turned, empty, list_of-pats_of (map low_pat_of (reverse qs))) refl

-- a sequence is at least as high as its first pattern where its steps begin with that

pushed-height : (i : ℕ) (ss : List Step) (q : Pat Place) (qs : Pats Place) (ts : Tys Place) → nat_eq i 0 ≡ true → pat_height q ≤ pat_height (sequence_pat (Some (tree (Push i ∷ ss))) (and_pat q qs) ts)
pushed-height zero ss q qs ts e =
    let b : Building = record { atoms = q ∷ list_of_pats qs; stack = [] } in
    let r = pat_of_steps ss (step (Push 0) b) in
    omega (arith, steps-height ss (step (Push 0) b), typed-height (pat_place r) r ts)
pushed-height (suc i) ss q qs ts e = let none : suc i ≡ 0 = eqb-true _ _ e in absurd (omega (arith, none))

either-height : (c : Bool) (q r : Pat Place) → (c ≡ true → pat_height q ≤ pat_height r) → pat_height q ≤ pat_height (if c then r else q)
either-height true q r above = above refl
either-height false q r above = omega arith

pub round-height : (s : Option Shape) (q : Pat Place) (qs : Pats Place) (ts : Tys Place) → pat_height q ≤ pat_height (round_sequence s q qs ts)
round-height (Some (tree [])) q qs ts = omega arith
round-height (Some (tree (Push i ∷ ss))) q qs ts = either-height (nat_eq i 0) q (sequence_pat (Some (tree (Push i ∷ ss))) (and_pat q qs) ts) (pushed-height i ss q qs ts)
round-height (Some (tree (Apply ∷ ss))) q qs ts = omega arith
round-height (Some (tree (Combine i ∷ ss))) q qs ts = omega arith
round-height (Some (headed h)) q qs ts = omega arith
round-height None q qs ts = omega arith

if_so : (c : Bool) (q r : Pat Place) → c ≡ true → r ≡ (if c then r else q)
if_so true q r e = refl
if_so false q r e = absurd (cc)

if_not : (c : Bool) (q r : Pat Place) → c ≡ false → q ≡ (if c then r else q)
if_not true q r e = absurd (cc)
if_not false q r e = refl

gives_same : (q r : Pat Place) (answer : Result LowPat Failure) → q ≡ r → GivesPat q answer → GivesPat r answer
gives_same q r answer e made = rw (sym e) made

pub round-whole : (s : Option Shape) (q first : Pat Place) (qs all : Pats Place) (ts : Tys Place) (b : Bool) (answer : Result LowPat Failure)
    → b ≡ begins s → b ≡ true → first ≡ q → all ≡ and_pat first qs → GivesPat (sequence_pat s all ts) answer → GivesPat (round_sequence s q qs ts) answer
round-whole s q first qs all ts b answer told so same joint made =
    let e : sequence_pat s all ts ≡ sequence_pat s (and_pat q qs) ts = ap (λ rs. sequence_pat s rs ts) (joint ∙ ap (λ r. and_pat r qs) same) in
    gives_same (sequence_pat s all ts) (round_sequence s q qs ts) answer (e ∙ if_so (begins s) q (sequence_pat s (and_pat q qs) ts) (sym told ∙ so)) made

pub round-alone : (s : Option Shape) (q first : Pat Place) (qs : Pats Place) (ts : Tys Place) (b : Bool)
    → b ≡ begins s → b ≡ false → first ≡ q → first ≡ round_sequence s q qs ts
round-alone s q first qs ts b told not same = same ∙ if_not (begins s) q (sequence_pat s (and_pat q qs) ts) (sym told ∙ not)
