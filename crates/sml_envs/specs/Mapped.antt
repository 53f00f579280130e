-- What environments become by what variables and names become.
use Rattle.std.specs.Prelude.{ℕ, [], ◌∷◌, Option, None, Some}
use Rattle.sml_objects.specs.Maps.{Map}
use Rattle.sml_objects.specs.Objects.{MlType, MlTypes}
use Rattle.sml_core_rules.specs.Objects.{Env, FunSig, Maps, Sig, Structures, TyStr, Value, maps, no_structure, and_structure, replace}
use Rattle.sml_bases.specs.declared.objects.Basis.{Basis as Held}
use Rattle.sml_bases.specs.Layers.{bound_env, bound_functors, bound_signatures}
use Rattle.sml_type_maps.specs.Mapped.{mapped_body}
use Rattle.sml_type_maps.specs.Orders.{AreOrdered, IsOrdered, scheme_by, schemes_by}

-- the thing in the place of another, if that changed
abbrev pub changed_or : {X : Type 0} → X → Option X → X
changed_or x None = x
changed_or x (Some y) = y

-- what stands in a map
abbrev pub Each : {X : Type 0} → (X → Type 0) → Map X → Type 0
Each P [] = Unit {0}
Each P (e ∷ es) = P e.1 × Each P es

-- The schemes of an environment have their variables numbered by first appearance. Type functions keep their order.
abbrev pub HasOrdered : {N : Type 0} → TyStr N → Type 0
HasOrdered t = AreOrdered t.constructors

abbrev pub HaveOrdered : {N : Type 0} → Map (TyStr N) → Type 0
HaveOrdered ts = Each HasOrdered ts

abbrev pub IsOrderedValue : {N : Type 0} → Value N → Type 0
IsOrderedValue v = IsOrdered v.scheme

unfoldable mutual
  pub AllIn : {T V : Type 0} → (T → Type 0) → (V → Type 0) → Maps T V → Type 0
  AllIn P Q (maps ss ts vs) = AllInStructures P Q ss × (Each P ts × Each Q vs)

  pub AllInStructures : {T V : Type 0} → (T → Type 0) → (V → Type 0) → Structures T V → Type 0
  AllInStructures P Q no_structure = Unit {0}
  AllInStructures P Q (and_structure s E ss) = AllIn P Q E × AllInStructures P Q ss

abbrev pub AreOrderedIn : {N : Type 0} → Env N → Type 0
AreOrderedIn E = AllIn HasOrdered IsOrderedValue E

abbrev pub AreOrderedInAll : {N : Type 0} → Structures (TyStr N) (Value N) → Type 0
AreOrderedInAll ss = AllInStructures HasOrdered IsOrderedValue ss

abbrev pub AreOrderedInFunSig : {N : Type 0} → FunSig N → Type 0
AreOrderedInFunSig F = AreOrderedIn F.argument.body × AreOrderedIn F.result.body

abbrev pub AreOrderedInSignatures : {N : Type 0} → Map (Sig N) → Type 0
AreOrderedInSignatures G = Each (λ S. AreOrderedIn S.body) G

abbrev pub AreOrderedInFunctors : {N : Type 0} → Map (FunSig N) → Type 0
AreOrderedInFunctors F = Each AreOrderedInFunSig F

-- in what a basis binds
abbrev pub AreOrderedInBasis : Held → Type 0
AreOrderedInBasis b = AreOrderedIn (bound_env b) × (AreOrderedInSignatures (bound_signatures b) × AreOrderedInFunctors (bound_functors b))

-- Given are the types for the bound variables, for the free ones, and for a name applied to types.
module _ {N : Type 0} (b f : ℕ → MlType N) (n : N → MlTypes N → MlType N) where
  abbrev pub ty_str_by : TyStr N → TyStr N
  ty_str_by t = record { function = mapped_body b f n t.function; constructors = schemes_by b f n t.constructors }

  abbrev pub value_by : Value N → Value N
  value_by v = record { scheme = scheme_by b f n v.scheme; status = v.status }

  abbrev pub env_by : Env N → Env N
  env_by E = replace ty_str_by value_by E
