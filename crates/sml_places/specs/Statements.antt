-- What is claimed of places.
use Rattle.std.specs.Prelude.{◌≡◌, map}
use Rattle.sml_tree.specs.Structures.{TopDec}
use Rattle.sml_rules.specs.Answers.{Answer, accepted}
use Rattle.sml_core_rules.specs.Objects.{Basis}
use Rattle.sml_core_rules.specs.States.{Scope}
use Rattle.sml_module_rules.specs.Structures.{Added, IsTopReading}
use Rattle.sml_places.specs.Places.{place_top, forget_top}
use Rattle.sml_places.specs.Answers.{place_reading, forget_judged}

-- the same basis, and the same to be judged but for places
pub record AreSameAdded {P Q N : Type 0} (A : Added P N) (C : Added Q N) : Type 0 where
  pub basis : A.basis ≡ C.basis
  pub judged : map forget_judged A.judged ≡ map forget_judged C.judged

-- A declaration with other places may be answered what it may be answered, with other places, and nothing else. So declarations that
-- are equal without places may be given the same accepted answers, but for the places of what is to be judged.
pub record PlacesDontCount {N : Type 0} (scope : Scope N) (P Q : Type 0) : Type 0 where
  pub all : (f : P → Q) (p : P) (B : Basis N) (d : TopDec P) (o : Answer P (Added P N)) → IsTopReading scope p B d o → IsTopReading scope (f p) B (place_top f d) (place_reading f o)
  pub no_others : (f : P → Q) (p : P) (B : Basis N) (d : TopDec P) (o : Answer Q (Added Q N)) → IsTopReading scope (f p) B (place_top f d) o
      → (a : Answer P (Added P N)) × IsTopReading scope p B d a × (o ≡ place_reading f a)
  pub without_places : (p : P) (q : Q) (B : Basis N) (d : TopDec P) (e : TopDec Q) (A : Added P N) → forget_top d ≡ forget_top e → IsTopReading scope p B d (accepted A)
      → (C : Added Q N) × AreSameAdded A C × IsTopReading scope q B e (accepted C)
