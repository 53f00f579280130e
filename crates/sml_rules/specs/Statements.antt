-- What is claimed of all readings.
use Rattle.std.specs.Prelude.{◌≡◌, ◌⊎◌, ℕ, List, ◌∷◌, map}
use Rattle.std.specs.List.{Contains}
use Rattle.sml_lex.specs.declared.fault.Place.{Place}
use Rattle.sml_lex.specs.Faults.{Fault}
use Rattle.sml_tree.specs.Trees.{Id, Dec, Spec, CoreDec, sealed}
use Rattle.sml_tree.specs.Forget.{forget}
use Rattle.sml_tree.specs.Places.{dec_places}
use Rattle.sml_objects.specs.Names.{Naming}
use Rattle.sml_objects.specs.Objects.{Sig, Basis, one_structure}
use Rattle.sml_objects.specs.Alike.{AlikeOver}
use Rattle.sml_rules.specs.Answers.{Answer, refused, accepted}
use Rattle.sml_rules.specs.Readings.{read_top}
use Rattle.sml_rules.specs.Rules.{SpecifyAll, sum_of}
use Rattle.sml_rules.specs.Sound.{IsSound}

-- Any two readings of one declaration in one basis are the same fault, or objects alike over that basis.
abbrev pub ReadingsAlike : {N : Type 0} → Naming N → Type 0
ReadingsAlike {N} names =
    (p : Place) (unit : ℕ) (B : Basis N) (d : Dec Place) (o q : Answer Place (Sig N)) → read_top names p unit B d o → read_top names p unit B d q
    → (o ≡ q) ⊎ ((x : Sig N) × (y : Sig N) × (o ≡ accepted x) × (q ≡ accepted y) × AlikeOver names B x y)

-- What a reading accepts is derived by the rules.
abbrev pub ReadingsSound : {N : Type 0} → Naming N → Type 0
ReadingsSound {N} names =
    (p : Place) (unit : ℕ) (B : Basis N) (d : Dec Place) (S : Sig N) → read_top names p unit B d (accepted S) → IsSound names unit B d S

-- An accepted sealed structure exports what its specifications give in the basis, whatever its body: their sum, with names
-- of types that stand nowhere in it. Places don't count.
abbrev pub SealsExport : {N : Type 0} → Naming N → Type 0
SealsExport {N} names =
    (p : Place) (unit : ℕ) (B : Basis N) (s : Id) (q : Place) (specs : List (Spec Place)) (decs : List (CoreDec Place)) (S : Sig N)
    → read_top names p unit B (sealed s q specs decs) (accepted S)
    → (Ss : List (Sig N)) × SpecifyAll names unit B (map forget specs) Ss × (S ≡ record { names = (sum_of Ss).names; body = one_structure s (sum_of Ss).body })

-- A fault stands at a place of the declaration's tree, or at the declaration's own place, which is given.
abbrev pub FaultsStandInTheirDeclarations : {N : Type 0} → Naming N → Type 0
FaultsStandInTheirDeclarations {N} names =
    (p : Place) (unit : ℕ) (B : Basis N) (d : Dec Place) (f : Fault Place) → read_top names p unit B d (refused f) → Contains (p ∷ dec_places d) f.place
