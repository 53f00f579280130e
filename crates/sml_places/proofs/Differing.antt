-- Units that are alike are answered the same, whether declarations are given as the same or as groups: it need not be known whether
-- two declarations are equal.
use Rattle.std.specs.Prelude.{◌≡◌, Bool, true, false, List, [], ◌∷◌, Option, Some, None, is_some}
use mathlib.Core.Path.{refl, sym, ap, ◌∙◌}
use mathlib.Core.Logic.{inl, inr}
use mathlib.Core.Bool.{true≢false}
use Rattle.sml_lex.specs.declared.fault.Place.{Place}
use Rattle.sml_objects.specs.Initial.{Name}
use Rattle.sml_rules.specs.Answers.{refused, accepted}
use Rattle.sml_rules.proofs.Sound.{not_refused}
use Rattle.sml_core_rules.specs.Objects.{Basis}
use Rattle.sml_core_rules.specs.States.{Judged}
use Rattle.sml_module_rules.specs.Programs.{acceptance}
use Rattle.sml_module_rules.specs.Projects.{UnitText}
use Rattle.sml_module_rules.specs.Statements.{rename_added, rename_shown}
use Rattle.sml_places.specs.Units.{Placed, IsAlike, AreAlike, AreUnitsAlike, Given, AllAgree, UnitsAgree, IsRenamed, AreRenamed, UnitsAreRenamed, RunsOfAlikeUnitsHide}
use Rattle.sml_places.proofs.AlikeRuns.{shown_or, AgreesBy, AllAgreeBy, UnitsAgreeBy, IsRenamedBy, AreRenamedBy, UnitsAreRenamedBy, units-hide}

-- accepted in both or refused in both

abbrev AreBoth : Given → Given → Type 0
AreBoth o q = is_some (acceptance o) ≡ is_some (acceptance q)

abbrev AllBoth : List Placed → List Placed → List Given → List Given → Type 0
AllBoth (d ∷ ds) (e ∷ es) (o ∷ os) (q ∷ qs) = AreBoth o q × AllBoth ds es os qs
AllBoth ds es os qs = Unit {0}

abbrev UnitsBoth : List (UnitText Place) → List (UnitText Place) → List (List Given) → List (List Given) → Type 0
UnitsBoth (u ∷ us) (w ∷ ws) (os ∷ oss) (qs ∷ qss) = AllBoth u.declarations w.declarations os qs × UnitsBoth us ws oss qss
UnitsBoth us ws oss qss = Unit {0}

-- it is so if it can't be otherwise

bool-stable : (b c : Bool) → ¬ (¬ (b ≡ c)) → b ≡ c
bool-stable true true h = refl
bool-stable true false h = absurd (h true≢false)
bool-stable false true h = absurd (h (λ e. true≢false (sym e)))
bool-stable false false h = refl

all-stable : (ds es : List Placed) (os qs : List Given) → ¬ (¬ (AllBoth ds es os qs)) → AllBoth ds es os qs
all-stable [] es os qs h = tt
all-stable (d ∷ ds) [] os qs h = tt
all-stable (d ∷ ds) (e ∷ es) [] qs h = tt
all-stable (d ∷ ds) (e ∷ es) (o ∷ os) [] h = tt
all-stable (d ∷ ds) (e ∷ es) (o ∷ os) (q ∷ qs) h =
    (bool-stable (is_some (acceptance o)) (is_some (acceptance q)) (λ k. h (λ x. k x.0)), all-stable ds es os qs (λ k. h (λ x. k x.1)))

units-stable : (us ws : List (UnitText Place)) (oss qss : List (List Given)) → ¬ (¬ (UnitsBoth us ws oss qss)) → UnitsBoth us ws oss qss
units-stable [] ws oss qss h = tt
units-stable (u ∷ us) [] oss qss h = tt
units-stable (u ∷ us) (w ∷ ws) [] qss h = tt
units-stable (u ∷ us) (w ∷ ws) (os ∷ oss) [] h = tt
units-stable (u ∷ us) (w ∷ ws) (os ∷ oss) (qs ∷ qss) h =
    (all-stable u.declarations w.declarations os qs (λ k. h (λ x. k x.0)), units-stable us ws oss qss (λ k. h (λ x. k x.1)))

-- from both, however declarations are given

both-agrees : (d e : Placed) (alike : IsAlike d e) (o q : Given) → AreBoth o q → AgreesBy alike o q
both-agrees d e (inl s) o q h = tt
both-agrees d e (inr g) o q h = h

both-agree : (ds es : List Placed) (alike : AreAlike ds es) (os qs : List Given) → AllBoth ds es os qs → AllAgreeBy ds es alike os qs
both-agree [] es alike os qs h = tt
both-agree (d ∷ ds) [] alike os qs h = tt
both-agree (d ∷ ds) (e ∷ es) alike [] qs h = tt
both-agree (d ∷ ds) (e ∷ es) alike (o ∷ os) [] h = tt
both-agree (d ∷ ds) (e ∷ es) alike (o ∷ os) (q ∷ qs) h = (both-agrees d e alike.0 o q h.0, both-agree ds es alike.1 os qs h.1)

units-both-agree : (us ws : List (UnitText Place)) (alike : AreUnitsAlike us ws) (oss qss : List (List Given)) → UnitsBoth us ws oss qss → UnitsAgreeBy us ws alike oss qss
units-both-agree [] ws alike oss qss h = tt
units-both-agree (u ∷ us) [] alike oss qss h = tt
units-both-agree (u ∷ us) (w ∷ ws) alike [] qss h = tt
units-both-agree (u ∷ us) (w ∷ ws) alike (os ∷ oss) [] h = tt
units-both-agree (u ∷ us) (w ∷ ws) alike (os ∷ oss) (qs ∷ qss) h =
    (both-agree u.declarations w.declarations alike.0.2 os qs h.0, units-both-agree us ws alike.1 oss qss h.1)

-- the declarations can be given so that they agree

can-agree-one : (d e : Placed) → IsAlike d e → (o q : Given) → (¬ (d ≡ e) → AreBoth o q) → ¬ (¬ ((alike : IsAlike d e) × AgreesBy alike o q))
can-agree-one d e (inl s) o q h = λ k. k (inl s, tt)
can-agree-one d e (inr g) o q h = λ k. k (inr g, h (λ s. k (inl s, tt)))

can-agree : (ds es : List Placed) → AreAlike ds es → (os qs : List Given) → AllAgree ds es os qs → ¬ (¬ ((alike : AreAlike ds es) × AllAgreeBy ds es alike os qs))
can-agree [] es alike os qs h = λ k. k (alike, tt)
can-agree (d ∷ ds) [] alike os qs h = λ k. k (alike, tt)
can-agree (d ∷ ds) (e ∷ es) alike [] qs h = λ k. k (alike, tt)
can-agree (d ∷ ds) (e ∷ es) alike (o ∷ os) [] h = λ k. k (alike, tt)
can-agree (d ∷ ds) (e ∷ es) alike (o ∷ os) (q ∷ qs) h =
    λ k. can-agree-one d e alike.0 o q h.0 (λ x. can-agree ds es alike.1 os qs h.1 (λ y. k ((x.0, y.0), (x.1, y.1))))

units-can-agree : (us ws : List (UnitText Place)) → AreUnitsAlike us ws → (oss qss : List (List Given)) → UnitsAgree us ws oss qss
    → ¬ (¬ ((alike : AreUnitsAlike us ws) × UnitsAgreeBy us ws alike oss qss))
units-can-agree [] ws alike oss qss h = λ k. k (alike, tt)
units-can-agree (u ∷ us) [] alike oss qss h = λ k. k (alike, tt)
units-can-agree (u ∷ us) (w ∷ ws) alike [] qss h = λ k. k (alike, tt)
units-can-agree (u ∷ us) (w ∷ ws) alike (os ∷ oss) [] h = λ k. k (alike, tt)
units-can-agree (u ∷ us) (w ∷ ws) alike (os ∷ oss) (qs ∷ qss) h =
    λ k. can-agree u.declarations w.declarations alike.0.2 os qs h.0 (λ x. units-can-agree us ws alike.1 oss qss h.1 (λ y. k (((alike.0.0, alike.0.1, x.0), y.0), (x.1, y.1))))

-- parts of answers

abbrev basis_or : Basis Name → Given → Basis Name
basis_or B (refused x) = B
basis_or B (accepted A) = A.basis

abbrev judged_or : List (Judged Place) → Given → List (Judged Place)
judged_or js (refused x) = js
judged_or js (accepted A) = A.judged

module _ (f : Name → Name) where
  -- what is renamed is both

  acceptance-renamed : (o : Given) → acceptance (rename_added f o) ≡ rename_shown f (acceptance o)
  acceptance-renamed (refused x) = refl
  acceptance-renamed (accepted A) = refl

  some-renamed : (o : Option Given) → is_some (rename_shown f o) ≡ is_some o
  some-renamed None = refl
  some-renamed (Some o) = refl

  accepted-renamed : (d e : Placed) (alike : IsAlike d e) (o q : Given) → IsRenamedBy f alike o q → acceptance q ≡ rename_shown f (acceptance o)
  accepted-renamed d e (inl s) o q h = ap (λ a. acceptance a) h ∙ acceptance-renamed o
  accepted-renamed d e (inr g) o q h = h

  renamed-both : (ds es : List Placed) (alike : AreAlike ds es) (os qs : List Given) → AreRenamedBy f ds es alike os qs → AllBoth ds es os qs
  renamed-both [] es alike os qs h = tt
  renamed-both (d ∷ ds) [] alike os qs h = tt
  renamed-both (d ∷ ds) (e ∷ es) alike [] qs h = tt
  renamed-both (d ∷ ds) (e ∷ es) alike (o ∷ os) [] h = tt
  renamed-both (d ∷ ds) (e ∷ es) alike (o ∷ os) (q ∷ qs) h =
      (sym (ap (λ a. is_some a) (accepted-renamed d e alike.0 o q h.0) ∙ some-renamed (acceptance o)), renamed-both ds es alike.1 os qs h.1)

  units-renamed-both : (us ws : List (UnitText Place)) (alike : AreUnitsAlike us ws) (oss qss : List (List Given)) → UnitsAreRenamedBy f us ws alike oss qss → UnitsBoth us ws oss qss
  units-renamed-both [] ws alike oss qss h = tt
  units-renamed-both (u ∷ us) [] alike oss qss h = tt
  units-renamed-both (u ∷ us) (w ∷ ws) alike [] qss h = tt
  units-renamed-both (u ∷ us) (w ∷ ws) alike (os ∷ oss) [] h = tt
  units-renamed-both (u ∷ us) (w ∷ ws) alike (os ∷ oss) (qs ∷ qss) h =
      (renamed-both u.declarations w.declarations alike.0.2 os qs h.0, units-renamed-both us ws alike.1 oss qss h.1)

  -- renamed however declarations are given

  same-fault : (g : Name → Name) (o q : Given) → q ≡ rename_added g o → acceptance q ≡ rename_shown f (acceptance o) → q ≡ rename_added f o
  same-fault g (refused x) q h k = h
  same-fault g (accepted A) (refused x) h k = absurd (not_refused (sym h))
  same-fault g (accepted A) (accepted C) h k =
      let basis = ap (λ o. basis_or A.basis (shown_or (accepted A) o)) k in
      let judged = ap (λ o. judged_or A.judged o) h in λ i. accepted (record { basis = basis i; judged = judged i })

  is-renamed : (d e : Placed) (o q : Given) → ((alike : IsAlike d e) → (g : Name → Name) × IsRenamedBy g alike o q) → (alike : IsAlike d e) → IsRenamedBy f alike o q → IsRenamed f d e o q
  is-renamed d e o q however alike h =
      let a = accepted-renamed d e alike o q h in
      (λ s. let r = however (inl s) in same-fault r.0 o q r.1 a, a)

  are-renamed : (ds es : List Placed) (os qs : List Given) → ((alike : AreAlike ds es) → (g : Name → Name) × AreRenamedBy g ds es alike os qs) → (alike : AreAlike ds es)
      → AreRenamedBy f ds es alike os qs → AreRenamed f ds es os qs
  are-renamed [] [] [] [] however alike h = tt
  are-renamed [] [] [] (q ∷ qs) however alike h = absurd h
  are-renamed [] [] (o ∷ os) qs however alike h = absurd h
  are-renamed [] (e ∷ es) os qs however alike h = absurd alike
  are-renamed (d ∷ ds) [] os qs however alike h = absurd alike
  are-renamed (d ∷ ds) (e ∷ es) [] qs however alike h = absurd h
  are-renamed (d ∷ ds) (e ∷ es) (o ∷ os) [] however alike h = absurd h
  are-renamed (d ∷ ds) (e ∷ es) (o ∷ os) (q ∷ qs) however alike h = (
    is-renamed d e o q (λ a. let r = however (a, alike.1) in (r.0, r.1.0)) alike.0 h.0,
    are-renamed ds es os qs (λ a. let r = however (alike.0, a) in (r.0, r.1.1)) alike.1 h.1,
  )

  units-are-renamed : (us ws : List (UnitText Place)) (oss qss : List (List Given)) → ((alike : AreUnitsAlike us ws) → (g : Name → Name) × UnitsAreRenamedBy g us ws alike oss qss)
      → (alike : AreUnitsAlike us ws) → UnitsAreRenamedBy f us ws alike oss qss → UnitsAreRenamed f us ws oss qss
  units-are-renamed [] [] [] [] however alike h = tt
  units-are-renamed [] [] [] (qs ∷ qss) however alike h = absurd h
  units-are-renamed [] [] (os ∷ oss) qss however alike h = absurd h
  units-are-renamed [] (w ∷ ws) oss qss however alike h = absurd alike
  units-are-renamed (u ∷ us) [] oss qss however alike h = absurd alike
  units-are-renamed (u ∷ us) (w ∷ ws) [] qss however alike h = absurd h
  units-are-renamed (u ∷ us) (w ∷ ws) (os ∷ oss) [] however alike h = absurd h
  units-are-renamed (u ∷ us) (w ∷ ws) (os ∷ oss) (qs ∷ qss) however alike h = (
    are-renamed u.declarations w.declarations os qs (λ a. let r = however ((alike.0.0, alike.0.1, a), alike.1) in (r.0, r.1.0)) alike.0.2 h.0,
    units-are-renamed us ws oss qss (λ a. let r = however (alike.0, a) in (r.0, r.1.1)) alike.1 h.1,
  )

pub alike-units : RunsOfAlikeUnitsHide
alike-units us ws counted alike oss qss a b agree =
    let both : UnitsBoth us ws oss qss = units-stable us ws oss qss (λ k. units-can-agree us ws alike oss qss agree (λ x.
    let r = units-hide us ws counted x.0 oss qss a b x.1 in k (units-renamed-both r.0.to us ws x.0 oss qss r.1))) in
    let r = units-hide us ws counted alike oss qss a b (units-both-agree us ws alike oss qss both) in
    (r.0, units-are-renamed r.0.to us ws oss qss (λ x. let r = units-hide us ws counted x oss qss a b (units-both-agree us ws x oss qss both) in (r.0.to, r.1)) alike r.1)
