-- Type functions in the places of names (the Definition, section 5.2).
use Rattle.std.specs.Prelude.{Bool, true, false, cond, List, [], ◌∷◌, Option, Some, None}
use Rattle.sml_objects.specs.Equality.{is_ref, admits_by, has_equality}
use Rattle.sml_objects.specs.Names.{Naming}
use Rattle.sml_objects.specs.Objects.{Scheme}
use Rattle.sml_objects.specs.Types.{instance_from}
use Rattle.sml_rules.specs.Matching.{Realisation, realise_scheme}
use Rattle.sml_core_rules.specs.Objects.{Env, Value, TyStr, replace, replaced}
use Rattle.sml_core_rules.specs.Datatypes.{constructor_scheme, name_function}

-- A scheme without unknowns whose variables are numbered by first appearance again, and dropped where they appear no more.
abbrev pub renumbered : {N : Type 0} → Scheme N → Scheme N
renumbered σ = constructor_scheme σ.variables (instance_from 0 σ.body)

abbrev pub realise_value : {N : Type 0} → Realisation N → Value N → Value N
realise_value φ v = record { scheme = renumbered (realise_scheme φ v.scheme); status = v.status }

abbrev pub realise_ty_str : {N : Type 0} → Realisation N → TyStr N → TyStr N
realise_ty_str φ t = record { function = realise_scheme φ t.function; constructors = replaced (λ σ. renumbered (realise_scheme φ σ)) t.constructors }

abbrev pub realise_env : {N : Type 0} → Realisation N → Env N → Env N
realise_env φ E = replace (realise_ty_str φ) (realise_value φ) E

module _ {N : Type 0} (names : Naming N) where
  abbrev pub is_same_name : N → N → Bool
  is_same_name m n = elim (names.same m n) [ yes _ ↦ true | no _ ↦ false ]

  -- the type function admits equality, where its arguments do
  abbrev pub admits_function : Scheme N → Bool
  admits_function θ = admits_by (is_ref names) (λ _. true) (has_equality names) (instance_from 0 θ.body)

  abbrev pub no_function : Realisation N
  no_function n = None

  -- this type function for n too
  abbrev pub with_function : N → Scheme N → Realisation N → Realisation N
  with_function n θ φ m = cond (is_same_name m n) (Some θ) (φ m)

  -- names for others, in order
  unfoldable pub with_names : List N → List N → Realisation N → Realisation N
  with_names [] ms φ = φ
  with_names (n ∷ ns) [] φ = φ
  with_names (n ∷ ns) (m ∷ ms) φ = with_function n (name_function m (names.attributes n).arity) (with_names ns ms φ)
