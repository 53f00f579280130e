-- The names in the order in which they appear in the lines of a reply: structures, each with its components, then types, then
-- values; in a line from left to right, where the arguments of a name stand before it; after a type its constructors.
use Rattle.std.specs.Prelude.{ℕ, List, [], ◌++◌, filter}
use Rattle.sml_objects.specs.Appearance.{appear_type, firsts_after}
use Rattle.sml_objects.specs.Canonical.{is_new}
use Rattle.sml_objects.specs.Initial.{Name, naming}
use Rattle.sml_objects.specs.Maps.{Map}
use Rattle.sml_objects.specs.Objects.{Scheme}
use Rattle.sml_core_rules.specs.Objects.{Env, FunSig, Sig, TyStr, Value, names_in, names_map}

abbrev pub appear_scheme : {N : Type 0} → Scheme N → List N
appear_scheme σ = appear_type σ.body

abbrev pub appear_schemes : {N : Type 0} → Map (Scheme N) → List N
appear_schemes σs = names_map appear_scheme σs

abbrev pub appear_ty_str : {N : Type 0} → TyStr N → List N
appear_ty_str t = appear_scheme t.function ++ appear_schemes t.constructors

abbrev pub appear_value : {N : Type 0} → Value N → List N
appear_value v = appear_scheme v.scheme

abbrev pub appear_env : {N : Type 0} → Env N → List N
appear_env E = names_in appear_ty_str appear_value E

abbrev pub appear_sig : {N : Type 0} → Sig N → List N
appear_sig S = appear_env S.body

abbrev pub appear_fun_sig : {N : Type 0} → FunSig N → List N
appear_fun_sig F = appear_sig F.argument ++ appear_sig F.result

-- of an environment, of signatures and of functors
abbrev pub appear_basis : {N : Type 0} → Env N → Map (Sig N) → Map (FunSig N) → List N
appear_basis E G F = appear_env E ++ (names_map appear_sig G ++ names_map appear_fun_sig F)

-- those of them that a unit made with no number below the count, each once
abbrev pub new_in : ℕ → ℕ → List Name → List Name
new_in unit count ns = filter (is_new unit count) (firsts_after naming [] ns)
