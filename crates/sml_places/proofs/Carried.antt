-- Answers to declarations carried to others that are the same but for places.
use Rattle.std.specs.Prelude.{◌≡◌, List, [], ◌∷◌, map, Some}
use mathlib.Core.Path.{refl, sym, ap, subst, ◌∙◌}
use Rattle.sml_lex.specs.declared.fault.Place.{Place}
use Rattle.sml_rules.specs.Answers.{Answer, refused, accepted}
use Rattle.sml_core_rules.specs.Objects.{Basis}
use Rattle.sml_core_rules.specs.States.{Scope}
use Rattle.sml_module_rules.specs.Structures.{Added, nothing, add_basis, IsTopReading}
use Rattle.sml_module_rules.specs.Programs.{basis_after, AreReadings, Pair, same, structures, functors, acceptance, shown, all_shown}
use Rattle.sml_module_rules.specs.Projects.{UnitText, UnitPair, Exports, after_all, exported, beginning, and_unit, in_unit, AreRuns, units_shown}
use Rattle.sml_places.specs.Places.{forget_top}
use Rattle.sml_places.specs.Answers.{place_reading}
use Rattle.sml_places.proofs.Tops.{reading-refused, places-dont-count}
use Rattle.sml_places.specs.Units.{Placed}
use Rattle.sml_places.proofs.Pairs.{IsSide}

module _ {N : Type 0} where
  -- the second is shown as the first is, and adds what it adds
  record Carries (r : Pair Place) (o q : Answer Place (Added Place N)) : Type 0 where
    pub is_shown : shown r q ≡ shown r o
    pub adds : (B : Basis N) → basis_after B q ≡ basis_after B o

  module _ (scope : Scope N) where
    -- an answer to one of two that are the same without places
    forgotten : (d e : Placed) → forget_top d.1 ≡ forget_top e.1 → (B : Basis N) (o : Answer Place (Added Place N)) → IsTopReading scope d.0 B d.1 o
        → (q : Answer Place (Added Place N)) × IsTopReading scope e.0 B e.1 q × (acceptance q ≡ acceptance o) × ((A : Basis N) → basis_after A q ≡ basis_after A o)
    forgotten d e alike B (accepted A) h =
        let t = (places-dont-count scope Place Place).without_places d.0 e.0 B d.1 e.1 A alike h in
        (accepted t.0, t.2, ap (λ E. Some (accepted (record { basis = E; judged = [] }))) (sym t.1.basis), λ C. ap (add_basis C) (sym t.1.basis))
    forgotten d e alike B (refused f) h =
        let g : Place → Unit {0} = λ p. tt in
        let c = places-dont-count scope Place (Unit {0}) in
        let bare : IsTopReading scope tt B (forget_top d.1) (place_reading g (refused f)) = c.all g d.0 B d.1 (refused f) h in
        let t = c.no_others g e.0 B e.1 (place_reading g (refused f)) (subst (λ d. IsTopReading scope tt B d (place_reading g (refused f))) alike bare) in
        let x = reading-refused g t.0 _ (sym t.2) in
        (refused x.0, subst (IsTopReading scope e.0 B e.1) x.1 t.1, refl, λ A. refl)

    module _ (side : Pair Place → Placed) where
      Carried : Pair Place → Basis N → Answer Place (Added Place N) → Type 0
      Carried r B o = (q : Answer Place (Added Place N)) × IsTopReading scope (side r).0 B (side r).1 q × Carries r o q

      carried : (r : Pair Place) (x : Placed) → IsSide side r x → (B : Basis N) (o : Answer Place (Added Place N)) → IsTopReading scope x.0 B x.1 o → Carried r B o
      unfolding Carried
      carried (same p d) x h B o a = (o, subst (λ x. IsTopReading scope x.0 B x.1 o) (sym h) a, record { is_shown = refl; adds = λ A. refl })
      carried (structures p q bs) x h B o a =
          let t = forgotten x (side (structures p q bs)) (sym h) B o a in (t.0, t.1, record { is_shown = t.2; adds = t.3 })
      carried (functors p q bs) x h B o a =
          let t = forgotten x (side (functors p q bs)) (sym h) B o a in (t.0, t.1, record { is_shown = t.2; adds = t.3 })

-- all declarations of a unit, and all units

module _ (side : Pair Place → Placed) where
  abbrev pub AreSides : List (Pair Place) → List Placed → Type 0
  AreSides [] [] = Unit {0}
  AreSides [] (x ∷ xs) = ⊥
  AreSides (r ∷ rs) [] = ⊥
  AreSides (r ∷ rs) (x ∷ xs) = IsSide side r x × AreSides rs xs

  abbrev pub side_unit : UnitPair Place → UnitText Place
  side_unit u = record { number = u.number; declarations = map side u.pairs; needs = u.needs }

  abbrev pub AreUnitSides : List (UnitPair Place) → List (UnitText Place) → Type 0
  AreUnitSides [] [] = Unit {0}
  AreUnitSides [] (x ∷ xs) = ⊥
  AreUnitSides (u ∷ us) [] = ⊥
  AreUnitSides (u ∷ us) (x ∷ xs) = ((x.number ≡ u.number) × (x.needs ≡ u.needs) × AreSides u.pairs x.declarations) × AreUnitSides us xs

  module _ {N : Type 0} where
    readings-carried : (scope : Scope N) (rs : List (Pair Place)) (xs : List Placed) → AreSides rs xs → (B : Basis N) (os : List (Answer Place (Added Place N))) → AreReadings scope B xs os
        → (qs : List (Answer Place (Added Place N))) × AreReadings scope B (map side rs) qs × (all_shown rs qs ≡ all_shown rs os) × ((A : Basis N) → after_all A qs ≡ after_all A os)
    unfolding AreReadings Carried
    readings-carried scope [] [] h B [] a = ([], tt, refl, λ A. refl)
    readings-carried scope [] [] h B (o ∷ os) a = absurd a
    readings-carried scope [] (x ∷ xs) h B os a = absurd h
    readings-carried scope (r ∷ rs) [] h B os a = absurd h
    readings-carried scope (r ∷ rs) (x ∷ xs) h B [] a = absurd a
    readings-carried scope (r ∷ rs) (x ∷ xs) h B (o ∷ os) a =
        let q = carried scope side r x h.0 B o a.0 in
        let qs = readings-carried scope rs xs h.1 (basis_after B o) os a.1 in
        let c = q.2 in (
          q.0 ∷ qs.0,
          (q.1, subst (λ A. AreReadings scope A (map side rs) qs.0) (sym (c.adds B)) qs.1),
          λ i. c.is_shown i ∷ qs.2 i,
          λ A. ap (λ A. after_all A qs.0) (c.adds A) ∙ qs.3 (basis_after A o),
        )

    pub runs-carried : (scope : Scope N) (I : Basis N) (us : List (UnitPair Place)) (xs : List (UnitText Place)) → AreUnitSides us xs → (E : Exports N) (oss : List (List (Answer Place (Added Place N))))
        → AreRuns scope I E xs oss → (qss : List (List (Answer Place (Added Place N)))) × AreRuns scope I E (map side_unit us) qss × (units_shown us qss ≡ units_shown us oss)
    unfolding AreRuns
    runs-carried scope I [] [] h E [] a = ([], tt, refl)
    runs-carried scope I [] [] h E (os ∷ oss) a = absurd a
    runs-carried scope I [] (x ∷ xs) h E oss a = absurd h
    runs-carried scope I (u ∷ us) [] h E oss a = absurd h
    runs-carried scope I (u ∷ us) (x ∷ xs) h E [] a = absurd a
    runs-carried scope I (u ∷ us) (x ∷ xs) h E (os ∷ oss) a =
        let here : AreReadings (in_unit u.number scope) (beginning I E u.needs) x.declarations os =
        coe 0 1 (i. AreReadings (in_unit (h.0.0 i) scope) (beginning I E (h.0.1 i)) x.declarations os) a.0 in
        let qs = readings-carried (in_unit u.number scope) u.pairs x.declarations h.0.2 (beginning I E u.needs) os here in
        let qss = runs-carried scope I us xs h.1 (and_unit E (exported os)) oss a.1 in (
          qs.0 ∷ qss.0,
          (qs.1, subst (λ A. AreRuns scope I (and_unit E A) (map side_unit us) qss.0) (sym (qs.3 nothing)) qss.1),
          λ i. qs.2 i ∷ qss.2 i,
        )
