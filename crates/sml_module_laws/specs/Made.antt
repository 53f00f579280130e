-- That readings of modules keep to what was made: names that were made and, in environments, unknowns that were made. A signature has
-- no unknown, and no overloaded identifier, which only the initial basis has.
use Rattle.std.specs.Prelude.{◌≡◌, ◌≤◌, ℕ, true, false, List, [], ◌∷◌, ◌++◌}
use Rattle.std.specs.List.{AllByRecursion}
use Rattle.sml_lex.specs.declared.fault.Place.{Place}
use Rattle.sml_tree.specs.Signatures.{SigExp}
use Rattle.sml_tree.specs.declared.structures.Ascription.{Ascription}
use Rattle.sml_tree.specs.Structures.{StrExp, StrDec, TopDec}
use Rattle.sml_objects.specs.Appearance.{Stands}
use Rattle.sml_objects.specs.Initial.{Name, naming}
use Rattle.sml_objects.specs.Maps.{Map}
use Rattle.sml_objects.specs.Names.{Initial}
use Rattle.sml_objects.specs.Objects.{Head}
use Rattle.sml_rules.specs.Answers.{accepted}
use Rattle.sml_core_rules.specs.Objects.{Env, Structures, Status, TyStr, Value, Sig, FunSig, Basis, variable, constructor, exception, overloaded, maps, no_structure, and_structure, structures}
use Rattle.sml_core_rules.specs.Scopes.{run_scope}
use Rattle.sml_core_rules.specs.Scripts.{Script, IsAnswer}
use Rattle.sml_core_rules.specs.States.{State, no_window}
use Rattle.sml_core_laws.specs.Made.{IsEnvIn, IsWellMade, IsGrown, Takes}
use Rattle.sml_module_rules.specs.Matching.{ascribe, apply_functor}
use Rattle.sml_module_rules.specs.Signatures.{read_sig}
use Rattle.sml_module_rules.specs.Structures.{Added, add_basis, read_str, read_strdec, parts, IsTopReading}

abbrev pub IsNotOverloaded : Status → Type 0
IsNotOverloaded variable = Unit {0}
IsNotOverloaded (constructor k n) = Unit {0}
IsNotOverloaded exception = Unit {0}
IsNotOverloaded (overloaded c) = ⊥

module _ {N : Type 0} where
  -- no value is overloaded, at any depth
  unfoldable mutual
    pub HasNoOverloaded : Env N → Type 0
    HasNoOverloaded (maps ss ts vs) = HaveNoOverloaded ss × AllByRecursion (λ v. IsNotOverloaded v.1.status) vs

    pub HaveNoOverloaded : Structures (TyStr N) (Value N) → Type 0
    HaveNoOverloaded no_structure = Unit {0}
    HaveNoOverloaded (and_structure s E ss) = HasNoOverloaded E × HaveNoOverloaded ss

module _ {N : Type 0} (S : Head N → ℕ → Type 0) (names : List N) where
  -- what stands behind a signature: no unknown
  abbrev pub IsBodyIn : Env N → Type 0
  IsBodyIn E = IsEnvIn S 0 names E × HasNoOverloaded E

  -- The names that a signature binds were made too, so they are among these.
  abbrev pub AreSignaturesIn : Map (Sig N) → Type 0
  AreSignaturesIn G = AllByRecursion (λ e. IsBodyIn e.1.body) G

  abbrev pub IsFunctorIn : FunSig N → Type 0
  IsFunctorIn F = IsBodyIn F.argument.body × IsBodyIn F.result.body

  -- the signatures and the functors of a basis
  abbrev pub IsScopeIn : Basis N → Type 0
  IsScopeIn B = AreSignaturesIn B.signatures × AllByRecursion (λ e. IsFunctorIn e.1) B.functors

-- An environment speaks of what a state has made, and of no unknown where none may stand in what was bound.
abbrev pub IsEnvAt : {P N : Type 0} → (Head N → ℕ → Type 0) → State P N → Env N → Type 0
IsEnvAt S s E = IsEnvIn S s.made s.names E × (s.is_open ≡ false → IsEnvIn S 0 s.names E)

-- In an environment that is read in only values of its own may be overloaded, as those of the initial basis are: its structures have none.
abbrev pub IsContextAt : {P N : Type 0} → (Head N → ℕ → Type 0) → State P N → Env N → Type 0
IsContextAt S s C = IsEnvAt S s C × HaveNoOverloaded (structures C)

abbrev pub IsResultAt : {P N : Type 0} → (Head N → ℕ → Type 0) → State P N → Env N → Type 0
IsResultAt S s E = IsEnvAt S s E × HasNoOverloaded E

-- All names stay. Where an unknown may stand in what was bound, all unknowns stay too.
pub record IsLater {P N : Type 0} (s t : State P N) : Type 0 where
  pub names : (n : N) → Stands n s.names → Stands n t.names
  pub stays_open : t.is_open ≡ false → s.is_open ≡ false
  pub made : s.is_open ≡ true → s.made ≤ t.made

-- Signature expressions: with as many parts for each head as it takes.
abbrev pub SignaturesSpeakOfWhatWasMade : Type 0
SignaturesSpeakOfWhatWasMade =
    (unit : ℕ) (G : Map (Sig Name)) (C : Env Name) (e : SigExp Place) (s t : State Place Name) (R : Sig Name)
    → IsWellMade (Takes naming) (run_scope unit) s → AreSignaturesIn (Takes naming) s.names G → IsEnvIn (Takes naming) s.made s.names C
    → IsAnswer (run_scope unit) (read_sig (run_scope unit) G C e) s (accepted (R, t))
    → IsWellMade (Takes naming) (run_scope unit) t × IsGrown s t × IsBodyIn (Takes naming) t.names R.body

-- Realisation and matching: a structure behind a signature, and what a functor gives for an argument. Nothing of them is unknown.

abbrev pub AscriptionsSpeakOfWhatWasMade : Type 0
AscriptionsSpeakOfWhatWasMade =
    (unit : ℕ) (p : Place) (E : Env Name) (a : Ascription) (R : Sig Name) (s t : State Place Name) (F : Env Name)
    → IsWellMade (Takes naming) (run_scope unit) s → IsEnvIn (Takes naming) s.made s.names E → IsBodyIn (Takes naming) s.names R.body
    → IsAnswer (run_scope unit) (ascribe (run_scope unit) p E a R) s (accepted (F, t))
    → IsWellMade (Takes naming) (run_scope unit) t × IsGrown s t × IsBodyIn (Takes naming) t.names F

abbrev pub ApplicationsSpeakOfWhatWasMade : Type 0
ApplicationsSpeakOfWhatWasMade =
    (unit : ℕ) (p : Place) (F : FunSig Name) (E : Env Name) (s t : State Place Name) (R : Env Name)
    → IsWellMade (Takes naming) (run_scope unit) s → IsFunctorIn (Takes naming) s.names F → IsEnvIn (Takes naming) s.made s.names E
    → IsAnswer (run_scope unit) (apply_functor (run_scope unit) p F E) s (accepted (R, t))
    → IsWellMade (Takes naming) (run_scope unit) t × IsGrown s t × IsBodyIn (Takes naming) t.names R

-- Structure expressions and structure-level declarations, which are read where the window is empty, in an environment at the state. So
-- is what they give.

abbrev pub KeepsStructures : ((unit : ℕ) → Basis Name → Env Name → State Place Name → Env Name → State Place Name → Type 0) → Type 0
KeepsStructures IsRead =
    (unit : ℕ) (B : Basis Name) (C : Env Name) (s t : State Place Name) (E : Env Name) → IsWellMade (Takes naming) (run_scope unit) s → s.window ≡ no_window
    → IsScopeIn (Takes naming) s.names B → IsContextAt (Takes naming) s C → IsRead unit B C s E t
    → IsWellMade (Takes naming) (run_scope unit) t × (t.window ≡ no_window) × IsLater s t × IsResultAt (Takes naming) t E

abbrev pub StructuresSpeakOfWhatWasMade : Type 0
StructuresSpeakOfWhatWasMade =
    (e : StrExp Place) → KeepsStructures (λ unit B C s E t. IsAnswer (run_scope unit) (read_str (run_scope unit) B C e) s (accepted (E, t)))

abbrev pub DeclarationsSpeakOfWhatWasMade : Type 0
DeclarationsSpeakOfWhatWasMade =
    (d : StrDec Place) → KeepsStructures (λ unit B C s E t. IsAnswer (run_scope unit) (read_strdec (run_scope unit) B C d) s (accepted (E, t)))

-- The parts of top-level declarations: what each binds, before its types are determined. The result of a functor is an environment at
-- the state.

abbrev pub IsAddedAt : {P N : Type 0} → (Head N → ℕ → Type 0) → State P N → Basis N → Type 0
IsAddedAt S s A =
    IsResultAt S s A.body × AreSignaturesIn S s.names A.signatures × AllByRecursion (λ e. IsBodyIn S s.names e.1.argument.body × IsResultAt S s e.1.result.body) A.functors

abbrev pub PartKeeps : ℕ → Basis Name → Script Place Name (Basis Name) → Type 0
PartKeeps unit B k =
    (s t : State Place Name) (A : Basis Name) → IsWellMade (Takes naming) (run_scope unit) s → s.window ≡ no_window → IsScopeIn (Takes naming) s.names B
    → IsContextAt (Takes naming) s B.body → IsAnswer (run_scope unit) k s (accepted (A, t))
    → IsWellMade (Takes naming) (run_scope unit) t × (t.window ≡ no_window) × IsLater s t × IsAddedAt (Takes naming) t A

abbrev pub AllKeep : ℕ → Basis Name → List (Script Place Name (Basis Name)) → Type 0
AllKeep unit B [] = Unit {0}
AllKeep unit B (k ∷ ks) = PartKeeps unit B k × AllKeep unit B ks

abbrev pub PartsSpeakOfWhatWasMade : Type 0
PartsSpeakOfWhatWasMade = (unit : ℕ) (B : Basis Name) (d : TopDec Place) → AllKeep unit B (parts (run_scope unit) B d)

-- Top-level declarations: a basis speaks of no unknown, and only of names that are listed.

-- what is added, whose environment is behind structures too
abbrev pub IsPartIn : {N : Type 0} → (Head N → ℕ → Type 0) → List N → Basis N → Type 0
IsPartIn S names A = IsBodyIn S names A.body × IsScopeIn S names A

abbrev pub IsBasisIn : {N : Type 0} → (Head N → ℕ → Type 0) → List N → Basis N → Type 0
IsBasisIn S names B = (IsEnvIn S 0 names B.body × HaveNoOverloaded (structures B.body)) × IsScopeIn S names B

-- With the names of the basis, among them the initial ones, the names that a declaration lists are all that it adds.
abbrev pub ReadingsOfModulesSpeakOfWhatWasMade : Type 0
ReadingsOfModulesSpeakOfWhatWasMade =
    (unit : ℕ) (B : Basis Name) (p : Place) (d : TopDec Place) (A : Added Place Name) → ((k : Initial) → Stands (naming.initial k) B.names) → IsBasisIn (Takes naming) B.names B
    → IsTopReading (run_scope unit) p B d (accepted A) → IsBasisIn (Takes naming) (A.basis.names ++ B.names) (add_basis B A.basis)
