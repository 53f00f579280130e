-- Counts of declarations, unit by unit.
use Rattle.std.proofs.Common.{◌≡◌, ℕ, ◌+◌, List, [], ◌∷◌, ◌++◌, ap, sym, ◌∙◌, refl}
use Rattle.std.specs.List.{sum_by}
use Rattle.std.proofs.lemmas.List.Sums.{sum_by_push}
use Rattle.sml_bases.specs.Entries.{capped}
use Rattle.sml_bases.proofs.Totals.{capped-more}
use Rattle.sml_projects.specs.Orders.{UnitText}
use Rattle.sml_units.specs.Counts.{IsNumberOf, AreNumbersOf, IsCountOf}

pub count_none : IsCountOf [] 0
count_none = record { numbers = []; are = tt; total = refl }

numbers_push : (us : List UnitText) (ns : List ℕ) (u : UnitText) (n : ℕ) → AreNumbersOf us ns → IsNumberOf u.text n → AreNumbersOf (us ++ u ∷ []) (ns ++ n ∷ [])
numbers_push [] [] u n h k = (k, tt)
numbers_push [] (m ∷ ns) u n h k = absurd h
numbers_push (v ∷ us) [] u n h k = absurd h
numbers_push (v ∷ us) (m ∷ ns) u n h k = (h.0, numbers_push us ns u n h.1 k)

pub count_push : (us : List UnitText) (u : UnitText) (before count after : ℕ) → IsCountOf us before → IsNumberOf u.text count → after ≡ capped (before + count) → IsCountOf (us ++ u ∷ []) after
count_push us u before count after h k e = record {
  numbers = h.numbers ++ count ∷ [];
  are = numbers_push us h.numbers u count h.are k;
  total =
      e ∙ ap (λ n. capped (n + count)) h.total ∙ capped-more (sum_by (λ n. n) h.numbers) count
      ∙ ap capped (sym (sum_by_push (λ n. n) h.numbers count));
}
