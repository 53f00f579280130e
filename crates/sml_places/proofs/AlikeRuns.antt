-- Units that are alike, as their declarations are given, are answered the same but for what stands behind seals.
use Rattle.std.specs.Prelude.{◌≡◌, ◌<◌, List, [], ◌∷◌, Option, Some, None, map, drop, is_some}
use mathlib.Core.Path.{refl, sym, ap, ◌∙◌}
use mathlib.Core.Logic.{inl, inr}
use Rattle.std.specs.List.{AllByRecursion}
use Rattle.sml_lex.specs.declared.fault.Place.{Place}
use Rattle.sml_objects.specs.Alike.{Renaming}
use Rattle.sml_objects.specs.Initial.{Name, naming}
use Rattle.sml_core_rules.specs.Initial.{initial_basis}
use Rattle.sml_core_rules.specs.Objects.{Basis}
use Rattle.sml_core_rules.specs.Scopes.{run_scope}
use Rattle.sml_core_rules.specs.States.{Scope}
use Rattle.sml_module_rules.specs.Programs.{basis_after, AreReadings, Pair, same, first, second, acceptance, shown, all_shown}
use Rattle.sml_module_rules.specs.Projects.{UnitText, UnitPair, Exports, exported, and_unit, AreRuns, units_shown}
use Rattle.sml_module_rules.specs.Runs.{at_first, AreAnswers}
use Rattle.sml_module_rules.specs.Statements.{rename_added, rename_shown}
use Rattle.sml_module_rules.proofs.RunSeals.{runs-hide}
use Rattle.sml_places.specs.Units.{Placed, IsAlike, AreAlike, AreUnitsAlike, Given}
use Rattle.sml_places.proofs.Pairs.{IsSide, made}
use Rattle.sml_places.proofs.Carried.{AreSides, AreUnitSides, runs-carried}

abbrev head_or : {A : Type 0} → A → List A → A
head_or d [] = d
head_or d (x ∷ xs) = x

abbrev pub shown_or : Given → Option Given → Given
shown_or d None = d
shown_or d (Some o) = o

-- Declarations are given as the same, or as groups that are alike. One given as a group is accepted in both or refused in both.

abbrev pub AgreesBy : {d e : Placed} → IsAlike d e → Given → Given → Type 0
AgreesBy (inl equal) o q = Unit {0}
AgreesBy (inr alike) o q = is_some (acceptance o) ≡ is_some (acceptance q)

abbrev pub AllAgreeBy : (ds es : List Placed) → AreAlike ds es → List Given → List Given → Type 0
AllAgreeBy (d ∷ ds) (e ∷ es) alike (o ∷ os) (q ∷ qs) = AgreesBy alike.0 o q × AllAgreeBy ds es alike.1 os qs
AllAgreeBy ds es alike os qs = Unit {0}

abbrev pub UnitsAgreeBy : (us ws : List (UnitText Place)) → AreUnitsAlike us ws → List (List Given) → List (List Given) → Type 0
UnitsAgreeBy (u ∷ us) (w ∷ ws) alike (os ∷ oss) (qs ∷ qss) = AllAgreeBy u.declarations w.declarations alike.0.2 os qs × UnitsAgreeBy us ws alike.1 oss qss
UnitsAgreeBy us ws alike oss qss = Unit {0}

-- The answer to the second of two is the answer to the first, renamed. Where they are given as groups, both may be refused instead.
module _ (f : Name → Name) where
  abbrev pub IsRenamedBy : {d e : Placed} → IsAlike d e → Given → Given → Type 0
  IsRenamedBy (inl equal) o q = q ≡ rename_added f o
  IsRenamedBy (inr alike) o q = acceptance q ≡ rename_shown f (acceptance o)

  abbrev pub AreRenamedBy : (ds es : List Placed) → AreAlike ds es → List Given → List Given → Type 0
  AreRenamedBy [] [] alike [] [] = Unit {0}
  AreRenamedBy (d ∷ ds) (e ∷ es) alike (o ∷ os) (q ∷ qs) = IsRenamedBy alike.0 o q × AreRenamedBy ds es alike.1 os qs
  AreRenamedBy ds es alike os qs = ⊥

  abbrev pub UnitsAreRenamedBy : (us ws : List (UnitText Place)) → AreUnitsAlike us ws → List (List Given) → List (List Given) → Type 0
  UnitsAreRenamedBy [] [] alike [] [] = Unit {0}
  UnitsAreRenamedBy (u ∷ us) (w ∷ ws) alike (os ∷ oss) (qs ∷ qss) = AreRenamedBy u.declarations w.declarations alike.0.2 os qs × UnitsAreRenamedBy us ws alike.1 oss qss
  UnitsAreRenamedBy us ws alike oss qss = ⊥

-- the pairs

abbrev pair_of : (x y : Placed) → IsAlike x y → Pair Place
pair_of x y (inl s) = same x.0 x.1
pair_of x y (inr g) = (made x.0 y.0 x.1 y.1 g).pair

abbrev pairs_of : (xs ys : List Placed) → AreAlike xs ys → List (Pair Place)
pairs_of (x ∷ xs) (y ∷ ys) alike = pair_of x y alike.0 ∷ pairs_of xs ys alike.1
pairs_of xs ys alike = []

abbrev units_of : (us ws : List (UnitText Place)) → AreUnitsAlike us ws → List (UnitPair Place)
units_of (u ∷ us) (w ∷ ws) alike = record { number = u.number; pairs = pairs_of u.declarations w.declarations alike.0.2; needs = u.needs } ∷ units_of us ws alike.1
units_of us ws alike = []

first-side : (x y : Placed) (alike : IsAlike x y) → IsSide first (pair_of x y alike) x
first-side x y (inl s) = refl
first-side x y (inr g) = (made x.0 y.0 x.1 y.1 g).is_first

second-side : (x y : Placed) (alike : IsAlike x y) → IsSide second (pair_of x y alike) y
second-side x y (inl s) = s
second-side x y (inr g) = (made x.0 y.0 x.1 y.1 g).is_second

sides : (xs ys : List Placed) (alike : AreAlike xs ys) → AreSides first (pairs_of xs ys alike) xs × AreSides second (pairs_of xs ys alike) ys
sides [] [] alike = (tt, tt)
sides [] (y ∷ ys) alike = absurd alike
sides (x ∷ xs) [] alike = absurd alike
sides (x ∷ xs) (y ∷ ys) alike =
    let rest = sides xs ys alike.1 in ((first-side x y alike.0, rest.0), (second-side x y alike.0, rest.1))

unit-sides : (us ws : List (UnitText Place)) (alike : AreUnitsAlike us ws) → AreUnitSides first (units_of us ws alike) us × AreUnitSides second (units_of us ws alike) ws
unit-sides [] [] alike = (tt, tt)
unit-sides [] (w ∷ ws) alike = absurd alike
unit-sides (u ∷ us) [] alike = absurd alike
unit-sides (u ∷ us) (w ∷ ws) alike =
    let here = sides u.declarations w.declarations alike.0.2 in
    let rest = unit-sides us ws alike.1 in (((refl, refl, here.0), rest.0), ((sym alike.0.0, sym alike.0.1, here.1), rest.1))

numbered : (us ws : List (UnitText Place)) (alike : AreUnitsAlike us ws) → AllByRecursion (λ u. 0 < u.number) us → AllByRecursion (λ u. 0 < u.number) (units_of us ws alike)
numbered [] ws alike h = tt
numbered (u ∷ us) [] alike h = tt
numbered (u ∷ us) (w ∷ ws) alike h = (h.0, numbered us ws alike.1 h.1)

-- what agrees

answer-agrees : (x y : Placed) (alike : IsAlike x y) (o q : Given) → AgreesBy alike o q → is_some (shown (pair_of x y alike) o) ≡ is_some (shown (pair_of x y alike) q)
answer-agrees x y (inl s) o q h = refl
answer-agrees x y (inr g) o q h =
    let m = made x.0 y.0 x.1 y.1 g in ap (λ a. is_some a) (m.is_shown o) ∙ (h ∙ ap (λ a. is_some a) (sym (m.is_shown q)))

answers-agree : (s t : Scope Name) (xs ys : List Placed) (alike : AreAlike xs ys) (B C : Basis Name) (os qs : List Given) → AreReadings s B xs os → AreReadings t C ys qs
    → AllAgreeBy xs ys alike os qs → map is_some (all_shown (pairs_of xs ys alike) os) ≡ map is_some (all_shown (pairs_of xs ys alike) qs)
unfolding AreReadings
answers-agree s t [] ys alike B C os qs a b h = refl
answers-agree s t (x ∷ xs) [] alike B C os qs a b h = refl
answers-agree s t (x ∷ xs) (y ∷ ys) alike B C [] qs a b h = absurd a
answers-agree s t (x ∷ xs) (y ∷ ys) alike B C (o ∷ os) [] a b h = absurd b
answers-agree s t (x ∷ xs) (y ∷ ys) alike B C (o ∷ os) (q ∷ qs) a b h =
    let e = answer-agrees x y alike.0 o q h.0 in
    let rest = answers-agree s t xs ys alike.1 (basis_after B o) (basis_after C q) os qs a.1 b.1 h.1 in λ i. e i ∷ rest i

units-agree : (s : Scope Name) (I : Basis Name) (us ws : List (UnitText Place)) (alike : AreUnitsAlike us ws) (E F : Exports Name) (oss qss : List (List Given)) → AreRuns s I E us oss
    → AreRuns s I F ws qss → UnitsAgreeBy us ws alike oss qss
    → map (map is_some) (units_shown (units_of us ws alike) oss) ≡ map (map is_some) (units_shown (units_of us ws alike) qss)
unfolding AreRuns
units-agree s I [] ws alike E F oss qss a b h = refl
units-agree s I (u ∷ us) [] alike E F oss qss a b h = refl
units-agree s I (u ∷ us) (w ∷ ws) alike E F [] qss a b h = absurd a
units-agree s I (u ∷ us) (w ∷ ws) alike E F (os ∷ oss) [] a b h = absurd b
units-agree s I (u ∷ us) (w ∷ ws) alike E F (os ∷ oss) (qs ∷ qss) a b h =
    let e = answers-agree _ _ u.declarations w.declarations alike.0.2 _ _ os qs a.0 b.0 h.0 in
    let rest = units-agree s I us ws alike.1 (and_unit E (exported os)) (and_unit F (exported qs)) oss qss a.1 b.1 h.1 in λ i. e i ∷ rest i

-- what is renamed

module _ (f : Name → Name) where
  answer-renamed : (x y : Placed) (alike : IsAlike x y) (o q : Given) → shown (pair_of x y alike) q ≡ rename_shown f (shown (pair_of x y alike) o) → IsRenamedBy f alike o q
  answer-renamed x y (inl s) o q h = ap (shown_or q) h
  answer-renamed x y (inr g) o q h =
      let m = made x.0 y.0 x.1 y.1 g in sym (m.is_shown q) ∙ (h ∙ ap (λ a. rename_shown f a) (m.is_shown o))

  answers-renamed : (s t : Scope Name) (xs ys : List Placed) (alike : AreAlike xs ys) (B C : Basis Name) (os qs : List Given) → AreReadings s B xs os → AreReadings t C ys qs
      → all_shown (pairs_of xs ys alike) qs ≡ map (rename_shown f) (all_shown (pairs_of xs ys alike) os) → AreRenamedBy f xs ys alike os qs
  unfolding AreReadings
  answers-renamed s t [] [] alike B C [] [] a b h = tt
  answers-renamed s t [] [] alike B C [] (q ∷ qs) a b h = absurd b
  answers-renamed s t [] [] alike B C (o ∷ os) qs a b h = absurd a
  answers-renamed s t [] (y ∷ ys) alike B C os qs a b h = absurd alike
  answers-renamed s t (x ∷ xs) [] alike B C os qs a b h = absurd alike
  answers-renamed s t (x ∷ xs) (y ∷ ys) alike B C [] qs a b h = absurd a
  answers-renamed s t (x ∷ xs) (y ∷ ys) alike B C (o ∷ os) [] a b h = absurd b
  answers-renamed s t (x ∷ xs) (y ∷ ys) alike B C (o ∷ os) (q ∷ qs) a b h = (
    answer-renamed x y alike.0 o q (ap (head_or None) h),
    answers-renamed s t xs ys alike.1 (basis_after B o) (basis_after C q) os qs a.1 b.1 (ap (drop 1) h),
  )

  units-renamed : (s : Scope Name) (I : Basis Name) (us ws : List (UnitText Place)) (alike : AreUnitsAlike us ws) (E F : Exports Name) (oss qss : List (List Given)) → AreRuns s I E us oss
      → AreRuns s I F ws qss → units_shown (units_of us ws alike) qss ≡ map (map (rename_shown f)) (units_shown (units_of us ws alike) oss) → UnitsAreRenamedBy f us ws alike oss qss
  unfolding AreRuns
  units-renamed s I [] [] alike E F [] [] a b h = tt
  units-renamed s I [] [] alike E F [] (qs ∷ qss) a b h = absurd b
  units-renamed s I [] [] alike E F (os ∷ oss) qss a b h = absurd a
  units-renamed s I [] (w ∷ ws) alike E F oss qss a b h = absurd alike
  units-renamed s I (u ∷ us) [] alike E F oss qss a b h = absurd alike
  units-renamed s I (u ∷ us) (w ∷ ws) alike E F [] qss a b h = absurd a
  units-renamed s I (u ∷ us) (w ∷ ws) alike E F (os ∷ oss) [] a b h = absurd b
  units-renamed s I (u ∷ us) (w ∷ ws) alike E F (os ∷ oss) (qs ∷ qss) a b h = (
    answers-renamed _ _ u.declarations w.declarations alike.0.2 _ _ os qs a.0 b.0 (ap (head_or []) h),
    units-renamed s I us ws alike.1 (and_unit E (exported os)) (and_unit F (exported qs)) oss qss a.1 b.1 (ap (drop 1) h),
  )

pub units-hide : (us ws : List (UnitText Place)) → AllByRecursion (λ u. 0 < u.number) us → (alike : AreUnitsAlike us ws) → (oss qss : List (List Given)) → AreAnswers us oss → AreAnswers ws qss
    → UnitsAgreeBy us ws alike oss qss → (f : Renaming naming) × UnitsAreRenamedBy f.to us ws alike oss qss
units-hide us ws counted alike oss qss a b agree =
    let rs = units_of us ws alike in
    let on = unit-sides us ws alike in
    let x = runs-carried first (run_scope 1) initial_basis rs us on.0 at_first oss a in
    let y = runs-carried second (run_scope 1) initial_basis rs ws on.1 at_first qss b in
    let both = ap (λ s. map (map is_some) s) x.2 ∙ (units-agree (run_scope 1) initial_basis us ws alike at_first at_first oss qss a b agree ∙ ap (λ s. map (map is_some) s) (sym y.2)) in
    let r = runs-hide rs (numbered us ws alike counted) x.0 y.0 x.1 y.1 both in
    (r.0, units-renamed r.0.to (run_scope 1) initial_basis us ws alike at_first at_first oss qss a b (sym y.2 ∙ (r.1 ∙ ap (λ s. map (map (rename_shown r.0.to)) s) x.2)))
