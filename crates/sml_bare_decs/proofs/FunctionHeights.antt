-- The heights of functions and of their clauses.
use Rattle.std.proofs.Common.{◌≡◌, ℕ, zero, suc, ◌+◌, ◌≤◌, List, ◌∷◌, max, false, Result, Ok, Err, ap, sym, ◌∙◌, arith, rules}
use Rattle.sml_lex.specs.declared.fault.Place.{Place}
use Rattle.sml_tree.specs.Trees.{Id}
use Rattle.sml_tree.specs.Expressions.{Exp, ValBind}
use Rattle.sml_tree.specs.ExpressionViews.{bind_of}
use Rattle.std.specs.Result.{IsErrAnd}
use Rattle.sml_phrases.specs.PhraseViews.{Gives}
use Rattle.sml_phrases.specs.declared.low.LowBind.{LowBind}
use Rattle.sml_phrases.specs.declared.phrase.Failure.{Failure}
use Rattle.sml_phrases.specs.declared.phrase.Failure.TheVariants.{TooHigh, Memory}
use Rattle.sml_tree.specs.Heights.{exp_height, exps_height, rule_height, bind_height}
use Rattle.sml_tree.specs.Clauses.{Clause, clause_rule, clause_rules}
use Rattle.sml_derived.specs.Derived.{hidden_from, curried, count, row_of, case_of, function_of}
use Rattle.sml_phrases.specs.PhraseHeights.{clauses_height, low}

curried-height : (p : Place) (k n : ℕ) (e : Exp Place) → 1 ≤ exp_height e → exp_height (curried p k n e) ≡ n + exp_height e
curried-height p k zero e h = omega arith
curried-height p k (suc n) e h = omega (arith, curried-height p (suc k) n e h)

hidden-height : (p : Place) (k n : ℕ) → exps_height (hidden_from p k n) ≤ 1
hidden-height p k zero = omega arith
hidden-height p k (suc n) = omega (arith, hidden-height p (suc k) n)

row-height : (p : Place) (n : ℕ) → exp_height (row_of p (hidden_from p 1 n)) ≤ 2
row-height p zero = omega arith
row-height p (suc zero) = omega arith
row-height p (suc (suc n)) = omega (arith, hidden-height p 3 n)

case-height : (f : Id) (c : Clause Place) (cs : List (Clause Place)) → exp_height (case_of c.place (row_of c.place (hidden_from c.place 1 (count c.pats))) (clause_rules (c ∷ cs))) ≡ max (rule_height (clause_rule c)) (clauses_height cs) + 3
case-height f c cs = let h = row-height c.place (count c.pats) in omega (arith, h)

pub function_height : (f : Id) (c : Clause Place) (cs : List (Clause Place)) → bind_height (function_of f c cs) ≡ count c.pats + (max (rule_height (clause_rule c)) (clauses_height cs) + 3)
function_height f c cs =
    let h = case-height f c cs in
    let g = curried-height c.place 1 (count c.pats) (case_of c.place (row_of c.place (hidden_from c.place 1 (count c.pats))) (clause_rules (c ∷ cs))) (omega (arith, h)) in
    omega (arith, g, h)

number_too_high : (small whole : ℕ) → small ≡ whole → low small ≡ false → low whole ≡ false
number_too_high small whole e h = ap low (sym e) ∙ h

-- what is as high as a function that is too high
pub bind_fails : (small : ℕ) (whole : ValBind Place) (e : Failure) (r : Result LowBind Failure)
    → Gives {A = ℕ} {B = ℕ} (λ h. h) low small (Err e) → IsErrAnd r (λ f. f ≡ e) → small ≡ bind_height whole → Gives (λ b. bind_of b.tree) (λ b. low (bind_height b)) whole r
bind_fails small whole TooHigh (Err TooHigh) high same equal = number_too_high small (bind_height whole) equal high
bind_fails small whole Memory (Err TooHigh) high same equal = search (rules, same)
bind_fails small whole e (Err Memory) high same equal = tt
bind_fails small whole e (Ok q) high same equal = absurd same
