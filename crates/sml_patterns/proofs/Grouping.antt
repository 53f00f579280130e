-- The last of the groups of rows, taken off.
use Rattle.std.proofs.Common.{◌≡◌, ℕ, zero, suc, ◌<◌, ◌-◌, length, arith, List, [], ◌∷◌, ◌++◌, Option, refl, ap, sym, ◌∙◌}
use Rattle.sml_narrowing.specs.Plain.{Plain}
use Rattle.sml_narrowing.specs.CodeTasks.{lines, group_at}
use Rattle.sml_narrowing.specs.CodeMatrix.{AtConstructor, narrow, narrow_all, below}
use Rattle.sml_patterns.specs.CodeMatrix.{Problem, with_problem, narrowed}
use Rattle.sml_narrowing.proofs.Grouping.{Group}
use Rattle.sml_patterns.proofs.Work.{below_kept}

-- taking off the last group
group_last : (gs : List Group) (g : Group) → group_at (gs ++ g ∷ []) (length gs) ≡ lines g.items
group_last [] g = refl
group_last (x ∷ gs) g = group_last gs g

group_before : (gs : List Group) (g : Group) (k : ℕ) → k < length gs → group_at (gs ++ g ∷ []) k ≡ group_at gs k
group_before [] g k h = absurd (omega (arith, h))
group_before (x ∷ gs) g zero h = refl
group_before (x ∷ gs) g (suc k) h = group_before gs g k (omega (arith, h))

one_longer : (gs : List Group) (g : Group) → length (gs ++ g ∷ []) ≡ suc (length gs)
one_longer [] g = refl
one_longer (x ∷ gs) g = ap suc (one_longer gs g)

-- the task of the last group's constructor is there, and the rows of the others are still to come
pub next_task : (rs : List (List Plain)) (q : List Plain) (all old new : List Problem) (before gs : List Group) (g : Group) (o : Option (List Plain)) → before ≡ gs ++ g ∷ []
    → all ≡ old ++ narrowed rs q (below (length before)) → ((k : ℕ) → k < length before → group_at before k ≡ narrow_all (AtConstructor k) rs)
    → narrow (AtConstructor (length gs)) q ≡ o → new ≡ old ++ with_problem (lines g.items) o []
    → (all ≡ new ++ narrowed rs q (below (length gs))) × ((k : ℕ) → k < length gs → group_at gs k ≡ narrow_all (AtConstructor k) rs)
next_task rs q all old new before gs g o e a h n p = (tasks, rest)
  where
    long : length before ≡ suc (length gs)
    long = ap length e ∙ one_longer gs g

    less : length before - 1 ≡ length gs
    less = omega (arith, long)

    last : lines g.items ≡ narrow_all (AtConstructor (length gs)) rs
    last = sym (group_last gs g) ∙ ap (λ xs. group_at xs (length gs)) (sym e) ∙ h (length gs) (omega (arith, long))

    added : new ≡ old ++ with_problem (narrow_all (AtConstructor (length before - 1)) rs) (narrow (AtConstructor (length before - 1)) q) []
    added = p ∙ ap (λ xs. old ++ with_problem xs o []) last ∙ ap (λ x. old ++ with_problem (narrow_all (AtConstructor (length gs)) rs) x []) (sym n) ∙ ap (λ m. old ++ with_problem (narrow_all (AtConstructor m) rs) (narrow (AtConstructor m) q) []) (sym less)

    tasks : all ≡ new ++ narrowed rs q (below (length gs))
    tasks = below_kept rs q all old new (length before) (omega (arith, long)) a added ∙ ap (λ m. new ++ narrowed rs q (below m)) less

    rest : (k : ℕ) → k < length gs → group_at gs k ≡ narrow_all (AtConstructor k) rs
    rest k l = sym (group_before gs g k l) ∙ ap (λ xs. group_at xs k) (sym e) ∙ h k (omega (arith, long, l))
