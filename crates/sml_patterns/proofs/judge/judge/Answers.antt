use Rattle.std.proofs.Common.{rules, arith, ◌≡◌, ℕ, refl, ap, subst, sym, ◌∙◌}
use Rattle.std.proofs.lemmas.Grind.{common_steps}
use Rattle.std.specs.List.Sorted.{IsStrictlySortedBy}
use Rattle.sml_patterns.specs.declared.judge.Flaw.{Flaw}
use Rattle.sml_patterns.specs.declared.judge.Flaw.TheVariants.{Redundant, OpenMatch, OpenBinding}
use Rattle.sml_patterns.specs.contracts.judge.FindingOrd.TheImpl.{cmp-value}
use Rattle.sml_patterns.specs.Warnings.{warning_cmp}
use Rattle.sml_patterns.specs.CodeTasks.{rules_of, warning_of, warnings_of}
use Rattle.sml_patterns.proofs.Judged.{judged_by, map_rises}
use Rattle.sml_patterns.proofs.judge.judge.Goals as goal

pub returns-clause-warnings : goal.returns-clause-warnings
returns-clause-warnings c = λ own are.
    judged_by warning_of c.args.holder (rules_of c.deref.result.now) own c.in_ok-found.found.items c.sort_distinct.new.items.items c.in_ok-warnings.warnings.items c.in_ok-found.ensures (c.sort_distinct.ensures.keeps (λ x y e. first_of (search rules, grind (arith, common_steps)))) c.sort_distinct.ensures.adds_none
    (c.in_ok-warnings.ensures ∙ ap warnings_of c.deref-2.ensures.value) (ap rules_of c.deref.ensures.value ∙ c.in_ok-rules.ensures own are)

same_at : (l c m d : ℕ) (a b : Flaw) → cmp-value.it (record { line = l; column = c; flaw = a }) (record { line = m; column = d; flaw = b }) ≡ warning_cmp (warning_of (record { line = l; column = c; flaw = a })) (warning_of (record { line = m; column = d; flaw = b }))
same_at l c m d Redundant Redundant = refl
same_at l c m d Redundant OpenMatch = refl
same_at l c m d Redundant OpenBinding = refl
same_at l c m d OpenMatch Redundant = refl
same_at l c m d OpenMatch OpenMatch = refl
same_at l c m d OpenMatch OpenBinding = refl
same_at l c m d OpenBinding Redundant = refl
same_at l c m d OpenBinding OpenMatch = refl
same_at l c m d OpenBinding OpenBinding = refl

pub returns-clause-sorted : goal.returns-clause-sorted
returns-clause-sorted c =
    subst (λ ws. IsStrictlySortedBy warning_cmp ws) (sym (c.in_ok-warnings.ensures ∙ ap warnings_of c.deref-2.ensures.value))
    (map_rises warning_of warning_cmp cmp-value.it (λ x y. same_at x.line x.column y.line y.column x.flaw y.flaw) c.sort_distinct.new.items.items c.sort_distinct.ensures.rises)
