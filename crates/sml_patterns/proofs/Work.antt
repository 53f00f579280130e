-- The work that is left: each step takes one problem away and adds its successors.
use Rattle.std.proofs.Common.{◌≡◌, ℕ, zero, suc, ◌+◌, ◌-◌, ◌<◌, map, append_assoc, subst, List, [], ◌∷◌, ◌++◌, Option, Some, None, Bool, true, false, ◌||◌, Result, Ok, Err, refl, ap, sym, ◌∙◌, arith}
use Rattle.std.specs.Prelude.{Vec, IfOk}
use Rattle.std.specs.Borrow.{Bor}
use Rattle.std.specs.Global.{Global}
use Rattle.sml_narrowing.specs.declared.pattern.Pattern.{Pattern}
use Rattle.sml_narrowing.specs.declared.narrow.Split.{Split}
use Rattle.sml_narrowing.specs.declared.narrow.Split.TheVariants.{Below}
use Rattle.std.specs.List.{list_any}
use Rattle.std.proofs.lemmas.List.{map-append}
use Rattle.sml_patterns.specs.declared.search.Task.{Task}
use Rattle.sml_narrowing.specs.CodeTasks.{line, lines, split_heads}
use Rattle.sml_patterns.specs.CodeTasks.{problem_of, problems}
use Rattle.sml_narrowing.specs.Plain.{Plain}
use Rattle.sml_narrowing.specs.CodeMatrix.{Head, AtConstructor, narrow, narrow_all, below, first_of, heads}
use Rattle.sml_patterns.specs.CodeMatrix.{Problem, with_problem, narrowed, successors_of, successors, is_won, solve, sum_of, problem_weight, is_useful}
use Rattle.sml_patterns.proofs.Weights.{EachProblem, successors_fall, solve_same, each_map}

abbrev pub answer : Problem → Bool
answer x = is_useful x.rows x.question

abbrev pub answer_any : List Problem → Bool
answer_any xs = list_any (answer) xs

abbrev pub steps : ℕ → Problem → ℕ
steps zero x = 0
steps (suc f) x = 1 + sum_of (map (steps f) (successors x))

abbrev pub steps_of : Problem → ℕ
steps_of x = steps (suc (problem_weight x)) x

abbrev pub total : List Problem → ℕ
total xs = sum_of (map (steps_of) xs)

any_answers : (f : ℕ) (xs : List Problem) → EachProblem (λ y. solve f y ≡ answer y) xs → list_any (solve f) xs ≡ answer_any xs
any_answers f [] h = refl
any_answers f (x ∷ xs) h = ap (λ b. b || list_any (solve f) xs) h.0 ∙ ap (λ b. answer x || b) (any_answers f xs h.1)

-- a problem is useful if it is won or a successor is useful
pub answer_step : (x : Problem) → answer x ≡ (is_won x || answer_any (successors x))
answer_step x =
    ap (λ b. is_won x || b)
    (any_answers (problem_weight x) (successors x)
    (each_map (λ y. problem_weight y < problem_weight x) (λ y. solve (problem_weight x) y ≡ answer y)
    (λ y i. solve_same (problem_weight x) (suc (problem_weight y)) y i (omega arith)) (successors x) (successors_fall x)))

pub answer_any-append : (xs ys : List Problem) → answer_any (xs ++ ys) ≡ (answer_any xs || answer_any ys)
answer_any-append [] ys = refl
answer_any-append (x ∷ xs) ys = ap (λ b. answer x || b) (answer_any-append xs ys) ∙ or_assoc (answer x) (answer_any xs) (answer_any ys)
  where
    or_assoc : (p q r : Bool) → (p || (q || r)) ≡ ((p || q) || r)
    or_assoc true q r = refl
    or_assoc false q r = refl

sum_same : (f g : ℕ) (xs : List Problem) → EachProblem (λ y. steps f y ≡ steps g y) xs → sum_of (map (steps f) xs) ≡ sum_of (map (steps g) xs)
sum_same f g [] h = refl
sum_same f g (x ∷ xs) h = omega (arith, h.0, sum_same f g xs h.1)

steps_same : (f g : ℕ) (x : Problem) → problem_weight x < f → problem_weight x < g → steps f x ≡ steps g x
steps_same zero g x h k = absurd (omega arith)
steps_same (suc f) zero x h k = absurd (omega arith)
steps_same (suc f) (suc g) x h k =
    ap (λ n. 1 + n)
    (sum_same f g (successors x)
    (each_map (λ y. problem_weight y < problem_weight x) (λ y. steps f y ≡ steps g y)
    (λ y i. steps_same f g y (omega (arith, i, h)) (omega (arith, i, k))) (successors x) (successors_fall x)))

sum_steps : (f : ℕ) (xs : List Problem) → EachProblem (λ y. steps f y ≡ steps_of y) xs → sum_of (map (steps f) xs) ≡ total xs
sum_steps f [] h = refl
sum_steps f (x ∷ xs) h = omega (arith, h.0, sum_steps f xs h.1)

pub total_step : (x : Problem) → steps_of x ≡ 1 + total (successors x)
total_step x =
    ap (λ n. 1 + n)
    (sum_steps (problem_weight x) (successors x)
    (each_map (λ y. problem_weight y < problem_weight x) (λ y. steps (problem_weight x) y ≡ steps_of y)
    (λ y i. steps_same (problem_weight x) (suc (problem_weight y)) y i (omega arith)) (successors x) (successors_fall x)))

pub total-append : (xs ys : List Problem) → total (xs ++ ys) ≡ total xs + total ys
total-append [] ys = omega arith
total-append (x ∷ xs) ys = omega (arith, total-append xs ys)

-- an empty question has no successors, and every other is narrowed to its heads
none_narrowed : (rs : List (List Plain)) (hs : List Head) → narrowed rs [] hs ≡ []
none_narrowed rs [] = refl
none_narrowed rs (h ∷ hs) = none_narrowed rs hs

pub successors_narrowed : (rs : List (List Plain)) (q : List Plain) → successors_of rs q ≡ narrowed rs q (heads (first_of q) rs)
successors_narrowed rs [] = sym (none_narrowed rs (heads (first_of []) rs))
successors_narrowed rs (p ∷ q) = refl

left_step_at : (rs : List (List Plain)) (q : List Plain) (m : ℕ) (o : Option (List Plain)) (xs : List Problem) → with_problem (narrow_all (AtConstructor m) rs) o xs ≡ with_problem (narrow_all (AtConstructor m) rs) o [] ++ xs
left_step_at rs q m None xs = refl
left_step_at rs q m (Some t) xs = refl

pub left_step : (rs : List (List Plain)) (q : List Plain) (n : ℕ) → 0 < n → narrowed rs q (below n) ≡ with_problem (narrow_all (AtConstructor (n - 1)) rs) (narrow (AtConstructor (n - 1)) q) [] ++ narrowed rs q (below (n - 1))
left_step rs q zero h = absurd (omega arith)
left_step rs q (suc n) h =
    let e : n ≡ suc n - 1 = omega arith in
    subst (λ m. narrowed rs q (below (suc n)) ≡ with_problem (narrow_all (AtConstructor m) rs) (narrow (AtConstructor m) q) [] ++ narrowed rs q (below m)) e
    (left_step_at rs q n (narrow (AtConstructor n) q) (narrowed rs q (below n)))

-- one more head is narrowed to
pub below_kept : (rs : List (List Plain)) (q : List Plain) (all old new : List Problem) (n : ℕ) → 0 < n → all ≡ old ++ narrowed rs q (below n) → new ≡ old ++ with_problem (narrow_all (AtConstructor (n - 1)) rs) (narrow (AtConstructor (n - 1)) q) [] → all ≡ new ++ narrowed rs q (below (n - 1))
below_kept rs q all old new n h i j =
    i ∙ ap (λ xs. old ++ xs) (left_step rs q n h) ∙ sym (append_assoc old (with_problem (narrow_all (AtConstructor (n - 1)) rs) (narrow (AtConstructor (n - 1)) q) []) (narrowed rs q (below (n - 1)))) ∙ ap (λ xs. xs ++ narrowed rs q (below (n - 1))) (sym j)

pub problems_last : (rest : List Task) (task : Task) → problems (rest ++ task ∷ []) ≡ problems rest ++ problem_of task ∷ []
problems_last rest task = map-append problem_of rest (task ∷ [])

answer_last : (rest : List Task) (task : Task) → answer_any (problems (rest ++ task ∷ [])) ≡ (answer_any (problems rest) || (answer (problem_of task) || false))
answer_last rest task =
    ap (answer_any) (problems_last rest task) ∙ answer_any-append (problems rest) (problem_of task ∷ [])

or_last : (p q : Bool) → q ≡ true → (p || (q || false)) ≡ true
or_last true q h = refl
or_last false q h = ap (λ b. b || false) h

or_unit : (q : Bool) → (q || false) ≡ q
or_unit true = refl
or_unit false = refl

pub won : (old rest : List Task) (task : Task) → old ≡ rest ++ task ∷ [] → is_won (problem_of task) ≡ true → answer_any (problems old) ≡ true
won old rest task i h =
    ap (λ ts. answer_any (problems ts)) i ∙ answer_last rest task
    ∙ or_last (answer_any (problems rest)) (answer (problem_of task)) (answer_step (problem_of task) ∙ ap (λ b. b || answer_any (successors (problem_of task))) h)

pub same_answer : (old rest new : List Task) (task : Task) → old ≡ rest ++ task ∷ [] → is_won (problem_of task) ≡ false → problems new ≡ problems rest ++ successors (problem_of task) → answer_any (problems new) ≡ answer_any (problems old)
same_answer old rest new task i h j =
    ap (answer_any) j ∙ answer_any-append (problems rest) (successors (problem_of task))
    ∙ ap (λ b. answer_any (problems rest) || b) (sym (answer_step (problem_of task) ∙ ap (λ b. b || answer_any (successors (problem_of task))) h))
    ∙ ap (λ b. answer_any (problems rest) || b) (sym (or_unit (answer (problem_of task))))
    ∙ sym (ap (λ ts. answer_any (problems ts)) i ∙ answer_last rest task)

pub less_work : (old rest new : List Task) (task : Task) → old ≡ rest ++ task ∷ [] → problems new ≡ problems rest ++ successors (problem_of task) → total (problems new) < total (problems old)
less_work old rest new task i j =
    let before = ap (λ ts. total (problems ts)) i ∙ ap (total) (problems_last rest task) ∙ total-append (problems rest) (problem_of task ∷ []) in
    let after = ap (total) j ∙ total-append (problems rest) (successors (problem_of task)) in
    omega (arith, before, after, total_step (problem_of task))

pub pushed : (rs : List (List Plain)) (q : List Plain) (old new : List Problem) (hs : List Head) → hs ≡ heads (first_of q) rs → new ≡ old ++ narrowed rs q hs → new ≡ old ++ successors_of rs q
pushed rs q old new hs i j =
    j ∙ ap (λ gs. old ++ narrowed rs q gs) i ∙ ap (λ xs. old ++ xs) (sym (successors_narrowed rs q))

-- the same of a step that may fail, over the rows and the question as they stand in a task
pub if_pushed : {A E : Type 0} (rows own : List (Vec (Bor Pattern) Global)) (question asked : List (Bor Pattern)) (old new : List Problem) (n : ℕ) (s : Split) → rows ≡ own → question ≡ asked → s ≡ Below n → split_heads s ≡ heads (first_of (line question)) (lines rows) → (r : Result A E) → IfOk r (λ x. new ≡ old ++ narrowed (lines rows) (line question) (below n)) → IfOk r (λ x. new ≡ old ++ successors_of (lines own) (line asked))
if_pushed rows own question asked old new n s e f g h (Ok x) k =
    let same : below n ≡ heads (first_of (line question)) (lines rows) = subst (λ t. split_heads t ≡ heads (first_of (line question)) (lines rows)) g h in
    subst (λ rs. new ≡ old ++ successors_of (lines rs) (line asked)) e (subst (λ qs. new ≡ old ++ successors_of (lines rows) (line qs)) f (pushed (lines rows) (line question) old new (below n) same k))
if_pushed rows own question asked old new n s e f g h (Err x) k = tt
