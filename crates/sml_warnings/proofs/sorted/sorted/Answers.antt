use Rattle.std.proofs.Common.{rules, arith, ◌≡◌, ◌↔◌, ℕ, refl, ap, subst, sym, ◌∙◌, List, map}
use Rattle.std.proofs.lemmas.Grind.{common_steps}
use Rattle.std.specs.List.{Contains}
use Rattle.std.specs.List.Sorted.{IsStrictlySortedBy}
use Rattle.sml_lex.specs.declared.fault.Warning.{Warning}
use Rattle.sml_patterns.specs.Warnings.{warning_cmp}
use Rattle.sml_patterns.proofs.Judged.{map_contains, map_rises}
use Rattle.sml_warnings.specs.Sorting.{warning_of}
use Rattle.sml_warnings.specs.declared.sorted.Flaw.{Flaw}
use Rattle.sml_warnings.specs.declared.sorted.Flaw.TheVariants.{Redundant, OpenMatch, OpenBinding}
use Rattle.sml_warnings.specs.contracts.sorted.KeyOrd.TheImpl.{cmp-value}
use Rattle.sml_warnings.proofs.sorted.sorted.Goals as goal

same_at : (l c m d : ℕ) (a b : Flaw) → cmp-value.it (record { line = l; column = c; flaw = a }) (record { line = m; column = d; flaw = b }) ≡ warning_cmp (warning_of (record { line = l; column = c; flaw = a })) (warning_of (record { line = m; column = d; flaw = b }))
same_at l c m d Redundant Redundant = refl
same_at l c m d Redundant OpenMatch = refl
same_at l c m d Redundant OpenBinding = refl
same_at l c m d OpenMatch Redundant = refl
same_at l c m d OpenMatch OpenMatch = refl
same_at l c m d OpenMatch OpenBinding = refl
same_at l c m d OpenBinding Redundant = refl
same_at l c m d OpenBinding OpenMatch = refl
same_at l c m d OpenBinding OpenBinding = refl

pub returns-clause-rises : goal.returns-clause-rises
returns-clause-rises c =
    subst (λ ws. IsStrictlySortedBy warning_cmp ws) (sym (c.in_ok-found.ensures ∙ ap (map warning_of) c.deref.ensures.value))
    (map_rises warning_of warning_cmp cmp-value.it (λ x y. same_at x.line x.column y.line y.column x.flaw y.flaw) c.sort_distinct.new.items.items c.sort_distinct.ensures.rises)

same_warnings : {X : Type 0} (f : X → Warning) (raw kept : List X) (given final : List Warning) → map f raw ≡ given → ((x : X) → Contains raw x → Contains kept x) → ((x : X) → Contains kept x → Contains raw x) → final ≡ map f kept → (x : Warning) → Contains final x ↔ Contains given x
same_warnings f raw kept given final i keeps adds e x = (
  λ y. subst (λ ys. Contains ys x) i (map_contains f kept raw adds x (subst (λ ys. Contains ys x) e y)),
  λ y. subst (λ ys. Contains ys x) (sym e) (map_contains f raw kept keeps x (subst (λ ys. Contains ys x) (sym i) y)),
)

pub returns-clause-same : goal.returns-clause-same
returns-clause-same c = λ are x.
    same_warnings warning_of c.in_ok-keys.keys.items c.sort_distinct.new.items.items c.args.warnings.now c.in_ok-found.found.items (c.in_ok-keys.ensures are) (c.sort_distinct.ensures.keeps (λ x y e. first_of (search rules, grind (arith, common_steps)))) c.sort_distinct.ensures.adds_none
    (c.in_ok-found.ensures ∙ ap (map warning_of) c.deref.ensures.value) x
