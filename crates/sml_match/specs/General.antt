-- Whether a scheme without unknowns is at least as general as another one, as it is found: by the types that its variables stand for so far.
use Rattle.std.specs.Prelude.{◌≡◌, ◌↔◌, ◌+◌, ℕ, suc, Bool, true, false, List, [], ◌∷◌, map, Option, Some, None, option_map}
use Rattle.sml_objects.specs.Equality.{is_ref, admits_by, has_equality}
use Rattle.sml_objects.specs.Initial.{Name, naming}
use Rattle.sml_objects.specs.Objects.{MlType, MlTypes, free}
use Rattle.sml_objects.specs.Types.{instance_from, replace_type, replace_types}
use Rattle.sml_objects.specs.Views.{type_of}
use Rattle.sml_core_rules.specs.Values.{has_unknown}
use Rattle.sml_type_maps.specs.Functions.{by_attributes}
use Rattle.sml_module_rules.specs.Matching.{AdmitSo}
use Rattle.sml_match.specs.declared.general.VariableImage.{VariableImage}

-- the type that a variable stands for, if it is known, over the variables of the scheme that is specified
abbrev pub stood : VariableImage → Option (MlType Name)
stood v = option_map (λ t. type_of t.now) v.image

abbrev pub IsGiven : Option (MlType Name) → MlType Name → Type 0
IsGiven None t = Unit {0}
IsGiven (Some u) t = t ≡ instance_from 0 u

-- These types are what the variables from k on stand for, where that is known.
abbrev pub Fits : List VariableImage → ℕ → (ℕ → MlType Name) → Type 0
Fits [] k f = Unit {0}
Fits (v ∷ vs) k f = IsGiven (stood v) (f k) × Fits vs (suc k) f

abbrev pub Admits : List Bool → Bool → Option (MlType Name) → Type 0
Admits es e None = Unit {0}
Admits es e (Some u) = e ≡ true → admits_by (is_ref naming) (by_attributes es) (has_equality naming) (instance_from 0 u) ≡ true

-- What is known admits equality where its variable does.
abbrev pub AreAdmitted : List Bool → List VariableImage → Type 0
AreAdmitted es [] = Unit {0}
AreAdmitted es (v ∷ vs) = Admits es v.equality (stood v) × AreAdmitted es vs

abbrev pub IsKnown : Option (MlType Name) → Type 0
IsKnown None = Unit {0}
IsKnown (Some u) = has_unknown u ≡ false

-- No unknown stands in what is known.
abbrev pub AreKnown : List VariableImage → Type 0
AreKnown [] = Unit {0}
AreKnown (v ∷ vs) = IsKnown (stood v) × AreKnown vs

abbrev pub equalities : List VariableImage → List Bool
equalities vs = map (λ v. v.equality) vs

-- These types make a type this one, and a list of types this one.

abbrev pub MakeOne : MlType Name → MlType Name → (ℕ → MlType Name) → Type 0
MakeOne t u f = replace_type f free t ≡ instance_from 0 u

abbrev pub MakeAll : MlTypes Name → MlTypes Name → (ℕ → MlType Name) → Type 0
MakeAll ts us f = replace_types f free ts ≡ replace_types (λ k. free (0 + k)) free us

-- Something is asked of types for the variables. It is so, and they are what was known before, just where they are what is known now;
-- or it is so of none that are what was known before, and admit equality where they have to.
pub record Becomes (es : List Bool) (old : List VariableImage) (IsSo : (ℕ → MlType Name) → Type 0) (found : Bool) (new : List VariableImage) : Type 0 where
  pub same : equalities new ≡ equalities old
  pub known : AreKnown old → found ≡ true → AreKnown new
  pub admitted : AreAdmitted es old → found ≡ true → AreAdmitted es new
  pub yes : found ≡ true → (f : ℕ → MlType Name) → Fits new 0 f ↔ (Fits old 0 f × IsSo f)
  pub no : found ≡ false → (f : ℕ → MlType Name) → AdmitSo naming es (equalities old) 0 f → Fits old 0 f → IsSo f → ⊥
