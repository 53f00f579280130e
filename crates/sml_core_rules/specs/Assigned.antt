-- Objects in which types stand for the unknowns.
use Rattle.std.specs.Prelude.{ℕ, map}
use Rattle.sml_objects.specs.Objects.{MlType, Scheme}
use Rattle.sml_objects.specs.Types.{assign}
use Rattle.sml_core_rules.specs.Objects.{Env, Value, TyStr, replace, replaced}
use Rattle.sml_core_rules.specs.Patterns.{Bindings}
use Rattle.sml_core_rules.specs.Contexts.{Context}

module _ {N : Type 0} (σ : ℕ → MlType N) where
  abbrev pub assign_scheme : Scheme N → Scheme N
  assign_scheme θ = record { variables = θ.variables; body = assign σ θ.body }

  abbrev pub assign_value : Value N → Value N
  assign_value v = record { scheme = assign_scheme v.scheme; status = v.status }

  abbrev pub assign_ty_str : TyStr N → TyStr N
  assign_ty_str t = record { function = assign_scheme t.function; constructors = replaced assign_scheme t.constructors }

  abbrev pub assign_env : Env N → Env N
  assign_env E = replace assign_ty_str assign_value E

  abbrev pub assign_context : Context N → Context N
  assign_context C = record { names = C.names; explicit = replaced (assign σ) C.explicit; env = assign_env C.env }

  abbrev pub assign_bindings : Bindings N → Bindings N
  assign_bindings bs = map (λ b. (b.0, assign σ b.1)) bs
