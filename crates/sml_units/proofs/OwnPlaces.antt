-- The units of an order stand at places of their own.
use Rattle.std.proofs.Common.{◌≡◌, ◌<◌, ◌+◌, ℕ, zero, suc, List, [], ◌∷◌, length, take, refl, sym, ◌∙◌, arith}
use Rattle.std.specs.Prelude.{slice_index_or}
use Rattle.std.specs.List.{Contains}
use Rattle.sml_rules.specs.Every.{Every}
use Rattle.sml_projects.specs.ProjectFiles.{UnitLine}
use Rattle.sml_projects.specs.Orders.{IsOrder, UnitText, AreUnitTexts}
use Rattle.sml_units.specs.Checked.{HaveOwnPlaces}

Distinct : List ℕ → Type 0
Distinct [] = Unit {0}
Distinct (k ∷ ks) = Every (λ j. ¬ (k ≡ j)) ks × Distinct ks

every_at : (P : ℕ → Type 0) (ks : List ℕ) → ((i : ℕ) → i < length ks → P (slice_index_or ks i 0)) → Every P ks
every_at P [] h = tt
every_at P (k ∷ ks) h = (h 0 (omega arith), every_at P ks (λ i l. h (suc i) (omega (arith, l))))

distinct : (ks : List ℕ) → ((i : ℕ) → i < length ks → ¬ (Contains (take i ks) (slice_index_or ks i 0))) → Distinct ks
unfolding Distinct
distinct [] h = tt
distinct (k ∷ ks) h = (
  every_at (λ j. ¬ (k ≡ j)) ks (λ i l e. h (suc i) (omega (arith, l)) (0, omega arith, e)),
  distinct ks (λ i l c. h (suc i) (omega (arith, l)) (suc c.0, (let n = c.1 in omega (arith, n)), c.2)),
)

apart : (us : List UnitLine) (texts : List (List ℕ)) (order : List ℕ) (k : ℕ) (u : UnitText) (ks : List ℕ) (rest : List UnitText) → u.place ≡ k
    → AreUnitTexts us texts order ks rest → Every (λ j. ¬ (k ≡ j)) ks → Every (λ v. ¬ (u.place ≡ v.place)) rest
apart us texts order k u [] [] e h d = tt
apart us texts order k u (j ∷ ks) (v ∷ rest) e h d = ((λ s. d.0 (sym e ∙ s ∙ h.0.place)), apart us texts order k u ks rest e h.1 d.1)
apart us texts order k u ks rest e h d = absurd h

own : (us : List UnitLine) (texts : List (List ℕ)) (order ks : List ℕ) (rest : List UnitText) → AreUnitTexts us texts order ks rest → Distinct ks → HaveOwnPlaces rest
unfolding Distinct
own us texts order [] [] h d = tt
own us texts order (k ∷ ks) (u ∷ rest) h d = (apart us texts order k u ks rest h.0.place h.1 d.0, own us texts order ks rest h.1 d.1)
own us texts order ks rest h d = absurd h

pub own_places : (us : List UnitLine) (texts : List (List ℕ)) (order : List ℕ) (rest : List UnitText) → IsOrder us order → AreUnitTexts us texts order order rest → HaveOwnPlaces rest
own_places us texts order rest o h = own us texts order order rest h (distinct order (λ i l. (o.next i l).may.left))
