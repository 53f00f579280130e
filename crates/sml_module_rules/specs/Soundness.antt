-- What is to be shown of the readings of top-level declarations: what is accepted, the rules derive. It is a statement, on which no
-- contract rests yet.
use Rattle.std.specs.Prelude.{◌≡◌, ℕ, Bool, [], ◌∷◌}
use Rattle.sml_lex.specs.declared.fault.Place.{Place}
use Rattle.sml_tree.specs.Structures.{TopDec}
use Rattle.sml_objects.specs.Alike.{Renaming}
use Rattle.sml_objects.specs.Appearance.{Stands, HaveSameNames}
use Rattle.sml_objects.specs.Maps.{Map}
use Rattle.sml_rules.specs.Answers.{accepted}
use Rattle.sml_core_rules.specs.Objects.{Basis, Sig, FunSig, rename_basis}
use Rattle.sml_core_rules.specs.Scopes.{IsScope}
use Rattle.sml_core_rules.specs.States.{Scope}
use Rattle.sml_module_rules.specs.Rules.{DeclaresTop}
use Rattle.sml_module_rules.specs.Structures.{Added, IsTopReading}
use Rattle.sml_module_rules.specs.WellFormed.{IsBasis}

-- The same objects, whose bound names are sets.

abbrev pub AreSameSigs : {N : Type 0} → Sig N → Sig N → Type 0
AreSameSigs S R = HaveSameNames S.names R.names × (S.body ≡ R.body)

abbrev pub AreSameFunSigs : {N : Type 0} → FunSig N → FunSig N → Type 0
AreSameFunSigs F G = AreSameSigs F.argument G.argument × AreSameSigs F.result G.result

abbrev pub AreSameMaps : {X : Type 0} → (X → X → Type 0) → Map X → Map X → Type 0
AreSameMaps same [] [] = Unit {0}
AreSameMaps same (e ∷ es) (g ∷ gs) = (e.0 ≡ g.0) × same e.1 g.1 × AreSameMaps same es gs
AreSameMaps same es gs = ⊥

-- The names that they list may differ.
pub record AreSameBases {N : Type 0} (A B : Basis N) : Type 0 where
  pub body : A.body ≡ B.body
  pub signatures : AreSameMaps AreSameSigs A.signatures B.signatures
  pub functors : AreSameMaps AreSameFunSigs A.functors B.functors

-- Of each accepted declaration the rules derive a basis that is alike to the one that it is given, over the basis before it.
abbrev pub TopReadingsAreSound : {N : Type 0} → Scope N → Type 0
TopReadingsAreSound {N} scope =
    IsScope scope → (B : Basis N) → IsBasis scope.names B → (p : Place) (d : TopDec Place) (A : Added Place N) → IsTopReading scope p B d (accepted A)
    → (equality : ℕ → Bool) × (D : Basis N) × DeclaresTop scope equality B d D
    × (f : Renaming scope.names) × ((n : N) → Stands n B.names → f.to n ≡ n) × AreSameBases (rename_basis f.to D) A.basis
