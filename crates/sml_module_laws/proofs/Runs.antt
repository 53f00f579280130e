-- What the units of a project export speaks of no unknown, and of names that were made.
use Rattle.std.specs.Prelude.{◌⊎◌, ℕ, zero, suc, List, [], ◌∷◌, ◌++◌, get_or}
use Rattle.std.specs.List.{AllByRecursion}
use mathlib.Core.Logic.{inl, inr}
use Rattle.sml_lex.specs.declared.fault.Place.{Place}
use Rattle.sml_tree.specs.Structures.{TopDec}
use Rattle.sml_objects.specs.Appearance.{Stands}
use Rattle.sml_objects.specs.Initial.{Name, naming}
use Rattle.sml_objects.specs.Names.{Initial}
use Rattle.sml_objects.specs.Objects.{Head}
use Rattle.sml_objects.proofs.Standing.{left, right, either}
use Rattle.sml_rules.specs.Answers.{Answer, refused, accepted}
use Rattle.sml_core_rules.specs.Initial.{initial_names, initial_basis, initial_env}
use Rattle.sml_core_rules.specs.Objects.{Basis}
use Rattle.sml_core_rules.specs.Scopes.{run_scope}
use Rattle.sml_core_laws.specs.Made.{Takes}
use Rattle.sml_core_laws.proofs.MadeInitial.{beginnings-are-well-made}
use Rattle.sml_core_laws.proofs.MadeTakes.{takes-shape}
use Rattle.sml_core_laws.proofs.MadeTypes.{all-more}
use Rattle.sml_module_rules.specs.Structures.{Added, nothing, add_basis}
use Rattle.sml_module_rules.specs.Programs.{AreReadings}
use Rattle.sml_module_rules.specs.Projects.{UnitText, Exports, AreRuns, after_all, exported, with_needs, beginning, and_unit}
use Rattle.sml_module_rules.specs.Runs.{at_first}
use Rattle.sml_module_laws.specs.Made.{HasNoOverloaded, IsPartIn, IsBasisIn}
use Rattle.sml_module_laws.specs.Runs.{ExportsSpeak, RunsSpeakOfWhatWasMade}
use Rattle.sml_module_laws.proofs.Bodies.{body-empty}
use Rattle.sml_module_laws.proofs.Listed.{Among}
use Rattle.sml_module_laws.proofs.Made.{variables}
use Rattle.sml_module_laws.proofs.Tops.{part-more, part-extend, basis-more, basis-extend, tops-part, tops-in}

abbrev S : Head Name → ℕ → Type 0
S = Takes naming

-- the initial names are among these
abbrev HasInitial : List Name → Type 0
HasInitial ns = (k : Initial) → Stands (naming.initial k) ns

initial-in : IsBasisIn S initial_names initial_basis
unfolding HasNoOverloaded initial_env
initial-in = ((beginnings-are-well-made.0, tt), (tt, tt))

initial-has : HasInitial initial_names
initial-has k = (beginnings-are-well-made.1 1).initials k

nothing-in : (ns : List Name) → IsPartIn S ns nothing
nothing-in ns = (body-empty S ns, (tt, tt))

-- what a unit begins with

module _ (ns : List Name) where
  one-in : (us : List (Basis Name)) (k : ℕ) → AllByRecursion (IsPartIn S ns) us → IsPartIn S ns (get_or us k nothing)
  one-in [] k h = nothing-in ns
  one-in (A ∷ us) zero h = h.0
  one-in (A ∷ us) (suc k) h = one-in us k h.1

  needs-in : (B : Basis Name) (us : List (Basis Name)) (ks : List ℕ) → IsBasisIn S ns B → AllByRecursion (IsPartIn S ns) us → IsBasisIn S ns (with_needs B us ks)
  needs-in B us [] h e = h
  needs-in B us (k ∷ ks) h e = needs-in (add_basis B (get_or us k nothing)) us ks (basis-extend S ns B (get_or us k nothing) h (one-in us k e)) e

-- the answers to a unit

readings-in : (unit : ℕ) (ds : List (Place × TopDec Place)) (os : List (Answer Place (Added Place Name))) (B X : Basis Name) → HasInitial B.names → IsBasisIn S B.names B
    → IsPartIn S B.names X → AreReadings (run_scope unit) B ds os → IsPartIn S (after_all B os).names (after_all X os)
unfolding AreReadings
readings-in unit [] [] B X k b x r = x
readings-in unit [] (o ∷ os) B X k b x r = absurd r
readings-in unit (d ∷ ds) [] B X k b x r = absurd r
readings-in unit (d ∷ ds) (refused f ∷ os) B X k b x r = readings-in unit ds os B X k b x r.1
readings-in unit (d ∷ ds) (accepted A ∷ os) B X k b x r =
    let M = A.basis.names ++ B.names in
    let more : Among B.names M = λ n s. right n A.basis.names B.names s in
    readings-in unit ds os (add_basis B A.basis) (add_basis X A.basis) (λ i. more (naming.initial i) (k i))
    (tops-in S (run_scope unit) (λ n k e. e) takes-shape variables B k b d.0 d.1 A r.0)
    (part-extend S M X A.basis (part-more S B.names M more X x) (tops-part S (run_scope unit) (λ n k e. e) takes-shape variables B k b d.0 d.1 A r.0)) r.1

-- The names of the basis after a unit are those that were made before it and those that it exports.
after-among : (os : List (Answer Place (Added Place Name))) (B X : Basis Name) (ns : List Name) → Among B.names (X.names ++ ns) → Among (after_all B os).names ((after_all X os).names ++ ns)
after-among [] B X ns h = h
after-among (refused f ∷ os) B X ns h = after-among os B X ns h
after-among (accepted A ∷ os) B X ns h = after-among os (add_basis B A.basis) (add_basis X A.basis) ns (λ n s. go n (either n A.basis.names B.names s))
  where
    own : List Name
    own = A.basis.names ++ X.names

    old : (n : Name) → Stands n X.names ⊎ Stands n ns → Stands n (own ++ ns)
    old n (inl s) = left n own ns (right n A.basis.names X.names s)
    old n (inr s) = right n own ns s

    go : (n : Name) → Stands n A.basis.names ⊎ Stands n B.names → Stands n (own ++ ns)
    go n (inl s) = left n own ns (left n A.basis.names X.names s)
    go n (inr s) = old n (either n X.names ns (h n s))

-- the units, one after the other

units-and : (ns : List Name) (us : List (Basis Name)) (A : Basis Name) → AllByRecursion (IsPartIn S ns) us → IsPartIn S ns A → AllByRecursion (IsPartIn S ns) (us ++ A ∷ [])
units-and ns [] A h a = (a, tt)
units-and ns (B ∷ us) A h a = (h.0, units-and ns us A h.1 a)

runs-in : (us : List (UnitText Place)) (oss : List (List (Answer Place (Added Place Name)))) (E : Exports Name) → HasInitial E.names → IsBasisIn S E.names initial_basis
    → AllByRecursion (IsPartIn S E.names) E.units → AreRuns (run_scope 1) initial_basis E us oss → ExportsSpeak E.names oss
unfolding AreRuns
runs-in us [] E k b e r = tt
runs-in [] (os ∷ oss) E k b e r = absurd r
runs-in (u ∷ us) (os ∷ oss) E k b e r =
    let A = exported os in
    let M = A.names ++ E.names in
    let B = beginning initial_basis E u.needs in
    let more : Among E.names M = λ n s. right n A.names E.names s in
    let own : IsPartIn S (after_all B os).names A = readings-in u.number u.declarations os B nothing k (needs-in E.names initial_basis E.units u.needs b e) (nothing-in E.names) r.0 in
    let a : IsPartIn S M A = part-more S (after_all B os).names M (after-among os B nothing E.names (λ n s. s)) A own in (
      a,
      runs-in us oss (and_unit E A) (λ i. more (naming.initial i) (k i)) (basis-more S E.names M more initial_basis b)
          (units-and M E.units A (all-more (IsPartIn S E.names) (IsPartIn S M) (λ D d. part-more S E.names M more D d) E.units e) a) r.1,
    )

pub runs-speak : RunsSpeakOfWhatWasMade
runs-speak = record { initial = initial-in; exports = λ us oss h. runs-in us oss at_first initial-has initial-in tt h }
