-- Objects that differ in names alone.
use Rattle.std.specs.Prelude.{◌≡◌, List, [], ◌∷◌}
use Rattle.sml_objects.specs.Names.{Naming, Initial}
use Rattle.sml_objects.specs.Objects.{Sig, Basis, rename_sig, names_basis}

-- a bijection of names that keeps arity, equality, constructors and the unit, and fixes the initial names
pub record Renaming {N : Type 0} (names : Naming N) : Type 0 where
  pub to : N → N
  pub from : N → N
  pub to-from : (n : N) → to (from n) ≡ n
  pub from-to : (n : N) → from (to n) ≡ n
  pub keeps : (n : N) → names.attributes n ≡ names.attributes (to n)
  pub initial : (k : Initial) → to (names.initial k) ≡ names.initial k

unfoldable pub IsFixed : {N : Type 0} → (N → N) → List N → Type 0
IsFixed f [] = Unit {0}
IsFixed f (n ∷ ns) = (f n ≡ n) × IsFixed f ns

-- some renaming fixes every name of the basis and takes x to y
unfoldable pub AlikeOver : {N : Type 0} → Naming N → Basis N → Sig N → Sig N → Type 0
AlikeOver names b x y =
    (f : Renaming names) × IsFixed f.to (names_basis b) × (rename_sig f.to x ≡ y)
