-- Projects that are alike but for what stands behind seals.
use Rattle.std.specs.Prelude.{◌≡◌, List, [], ◌∷◌}
use Rattle.sml_places.specs.Likeness.{AreDeclarationsAlike}
use Rattle.sml_run_rules.specs.Sources.{Source}

-- Units with the same names, numbers, needs and last faults.
abbrev pub AreSourcesAlike : List Source → List Source → Type 0
AreSourcesAlike [] [] = Unit {0}
AreSourcesAlike [] (w ∷ ws) = ⊥
AreSourcesAlike (u ∷ us) [] = ⊥
AreSourcesAlike (u ∷ us) (w ∷ ws) =
    ((u.name ≡ w.name) × (u.number ≡ w.number) × (u.needs ≡ w.needs) × (u.last ≡ w.last) × AreDeclarationsAlike u.declarations w.declarations) × AreSourcesAlike us ws
