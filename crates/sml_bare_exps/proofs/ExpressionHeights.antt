-- Expressions grow while a loop puts them together, so that one that is too high stays so.
use Rattle.std.proofs.Common.{◌≡◌, ℕ, suc, ◌+◌, ◌<◌, ◌≤◌, max, List, [], ◌∷◌, drop, length, get_or, ap, sym, ◌∙◌, refl, false, Err, arith}
use Rattle.std.proofs.Math.Seq.{drop-cons}
use Rattle.std.proofs.lemmas.Bool.{leb-false, lt-leb}
use Rattle.sml_lex.specs.declared.fault.Place.{Place}
use Rattle.sml_tree.specs.Names.{Name}
use Rattle.sml_tree.specs.Types.{Tys, no_ty, and_ty}
use Rattle.sml_tree.specs.Expressions.{Exp, apply, typed}
use Rattle.sml_tree.specs.ExpressionViews.{exps_of}
use Rattle.sml_tree.specs.Heights.{highest, exp_height}
use Rattle.sml_fixity.specs.declared.sequences.Step.{Step}
use Rattle.sml_fixity.specs.declared.sequences.Step.TheVariants.{Push, Apply, Combine}
use Rattle.sml_phrases.specs.PhraseHeights.{low}
use Rattle.sml_bare_exps.specs.ExpressionViews.{GivesExp, Leaves}
use Rattle.sml_phrases.specs.declared.phrase.Failure.{Failure}
use Rattle.sml_phrases.specs.declared.phrase.Failure.TheVariants.{TooHigh, Memory}
use Rattle.sml_bare_exps.specs.ExpressionSequences.{Building, after, all_of, applied, combined, exp_of_steps, exp_place, joined, list_of_exps, typed_by}

pub too_high : (h k : ℕ) → h ≤ k → low h ≡ false → low k ≡ false
too_high h k more high = let over = leb-false h 4000 high in lt-leb k 4000 (omega (arith, over, more))

-- the expressions on a stack

joined_grows : (e : Exp Place) (es : List (Exp Place)) → max (exp_height e) (highest exp_height es) ≤ exp_height (joined e es)
joined_grows e [] = omega arith
joined_grows e (f ∷ es) = let h = joined_grows (apply (exp_place f) f e) es in omega (arith, h)

all_of_grows : (es : List (Exp Place)) → highest exp_height es ≤ exp_height (all_of es)
all_of_grows [] = omega arith
all_of_grows (e ∷ es) = joined_grows e es

-- the types after an expression

typed_grows : (p : Place) (e : Exp Place) (ts : Tys Place) → exp_height e ≤ exp_height (typed_by p e ts)
typed_grows p e no_ty = omega arith
typed_grows p e (and_ty t ts) = let h = typed_grows p (typed p e t) ts in omega (arith, h)

-- the steps of a sequence

applied_grows : (es : List (Exp Place)) → highest exp_height es ≤ highest exp_height (applied es)
applied_grows [] = omega arith
applied_grows (e ∷ []) = omega arith
applied_grows (e ∷ f ∷ es) = omega arith

combined_grows : (f : Name Place) (es : List (Exp Place)) → highest exp_height es ≤ highest exp_height (combined f es)
combined_grows f [] = omega arith
combined_grows f (e ∷ []) = omega arith
combined_grows f (e ∷ d ∷ es) = omega arith

after_grows : (s : Step) (b : Building) → highest exp_height b.stack ≤ highest exp_height (after s b).stack
after_grows (Push i) b = omega arith
after_grows Apply b = applied_grows b.stack
after_grows (Combine i) b = combined_grows _ b.stack

steps_grow : (ss : List Step) (b : Building) → highest exp_height b.stack ≤ exp_height (exp_of_steps ss b)
steps_grow [] b = all_of_grows b.stack
steps_grow (s ∷ ss) b = let g = after_grows s b in let h = steps_grow ss (after s b) in omega (arith, g, h)

stepped : (whole : Exp Place) (ss : List Step) (i : ℕ) (d : Step) (b : Building) → i < length ss → whole ≡ exp_of_steps (drop i ss) b → whole ≡ exp_of_steps (drop (suc i) ss) (after (get_or ss i d) b)
stepped whole ss i d b within made = made ∙ ap (λ ts. exp_of_steps ts b) (drop-cons ss i d within)

same_building : (a b : Building) → a.stack ≡ b.stack → a.atoms ≡ b.atoms → a ≡ b
same_building a b p q = ap (λ s. record { atoms = a.atoms; stack = s }) p ∙ ap (λ xs. record { atoms = xs; stack = b.stack }) q

pub goes_on : (whole : Exp Place) (ss : List Step) (i : ℕ) (d : Step) (b new : Building) → i < length ss → whole ≡ exp_of_steps (drop i ss) b
    → new.stack ≡ (after (get_or ss i d) b).stack → new.atoms ≡ (after (get_or ss i d) b).atoms → whole ≡ exp_of_steps (drop (i + 1) ss) new
goes_on whole ss i d b new within made p q =
    stepped whole ss i d b within made
    ∙ ap (λ x. exp_of_steps (drop (suc i) ss) x) (sym (same_building new (after (get_or ss i d) b) p q))
    ∙ ap (λ n. exp_of_steps (drop n ss) new) (let e : suc i ≡ i + 1 = omega arith in e)

step_too_high : (whole : Exp Place) (ss : List Step) (i : ℕ) (d : Step) (b : Building) → i < length ss → whole ≡ exp_of_steps (drop i ss) b → low (highest exp_height (after (get_or ss i d) b).stack) ≡ false → low (exp_height whole) ≡ false
step_too_high whole ss i d b within made high =
    too_high (highest exp_height (after (get_or ss i d) b).stack) (exp_height whole)
    (let g = steps_grow (drop (suc i) ss) (after (get_or ss i d) b) in
    let h : exp_height whole ≡ exp_height (exp_of_steps (drop (suc i) ss) (after (get_or ss i d) b)) = ap exp_height (stepped whole ss i d b within made) in
    omega (arith, g, h))
    high

-- the same of a call that gives no expression

pub fails : (e whole : Exp Place) (failure : Failure) → exp_height e ≤ exp_height whole → GivesExp e (Err failure) → GivesExp whole (Err failure)
fails e whole TooHigh more high = too_high (exp_height e) (exp_height whole) more high
fails e whole Memory more high = tt

pub joined_fails : (whole e : Exp Place) (es : List (Exp Place)) (failure : Failure) → whole ≡ joined e es → GivesExp e (Err failure) → GivesExp whole (Err failure)
joined_fails whole e es failure made =
    fails e whole failure (let g = joined_grows e es in let h : exp_height whole ≡ exp_height (joined e es) = ap exp_height made in omega (arith, g, h))

pub typed_fails : (whole : Exp Place) (p : Place) (e : Exp Place) (ts : Tys Place) (failure : Failure) → whole ≡ typed_by p e ts → GivesExp e (Err failure) → GivesExp whole (Err failure)
typed_fails whole p e ts failure made =
    fails e whole failure (let g = typed_grows p e ts in let h : exp_height whole ≡ exp_height (typed_by p e ts) = ap exp_height made in omega (arith, g, h))

pub list_of_exps_of : (es : List (Exp Place)) → list_of_exps (exps_of es) ≡ es
list_of_exps_of [] = refl
list_of_exps_of (e ∷ es) = ap (λ ds. e ∷ ds) (list_of_exps_of es)

pub steps_fail : (A : Type 0) (whole : Exp Place) (ss : List Step) (i : ℕ) (d : Step) (b : Building) (stack : List (Exp Place)) (failure : Failure) → i < length ss → whole ≡ exp_of_steps (drop i ss) b → Leaves {A = A} stack (after (get_or ss i d) b).stack (Err failure) → GivesExp whole (Err failure)
steps_fail A whole ss i d b stack TooHigh within made high = step_too_high whole ss i d b within made high
steps_fail A whole ss i d b stack Memory within made high = tt
