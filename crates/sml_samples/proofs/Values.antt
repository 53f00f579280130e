-- Samples of value declarations.
use Rattle.std.specs.Prelude.{◌≡◌, ◌<◌, ℕ, zero, suc, false, List, [], ◌∷◌}
use mathlib.Core.Path.{refl}
use mathlib.Core.Logic.{inr}
use Rattle.std.proofs.Common.{arith}
use Rattle.sml_objects.specs.Initial.{Name, naming}
use Rattle.sml_objects.specs.Names.{int, string}
use Rattle.sml_objects.specs.Objects.{MlType, free, mono}
use Rattle.sml_objects.specs.Sizes.{type_size, types_size}
use Rattle.sml_objects.specs.Types.{replace_type, replace_types}
use Rattle.sml_layers.specs.Demands.{equal}
use Rattle.sml_layers.specs.Worlds.{spread, spread_all}
use Rattle.sml_layers.specs.declared.layer.Layer.TheVariants.{Equations, Finiteness}
use Rattle.sml_core_rules.specs.Answers as A
use Rattle.sml_core_rules.specs.Closing.{unguarded, ty_variables, tys_variables, is_expansive, pat_variables, exp_variables, rules_variables}
use Rattle.sml_core_rules.specs.Lookups.{find_at, type_at, value_at}
use Rattle.sml_core_rules.specs.Patterns.{read_pat}
use Rattle.sml_core_rules.specs.Solutions.{Meets, IsScheme}
use Rattle.sml_core_rules.specs.States.{State, Judged, no_window}
use Rattle.sml_core_rules.specs.Types.{read_ty, read_tys}
use Rattle.sml_core_rules.specs.Values.{has_unknown, have_unknown}
use Rattle.sml_core_rules.specs.Scripts.{IsAnswer, ◌>>=◌}
use Rattle.sml_core_rules.specs.Expressions.{read_dec, read_binds, read_patterns, read_rights, read_exp, read_rules}
use Rattle.sml_samples.proofs.Judged.{scheme-judged, small}
use Rattle.sml_samples.specs.Around.{Place, scope, initial_names, type_of}
use Rattle.sml_samples.specs.Core.{ValueSamples, identity_scheme}
use Rattle.sml_samples.proofs.Functions.{types, met, scheme}
use Rattle.sml_samples.proofs.Steps.{◌⊳◌}
use Rattle.sml_samples.proofs.Unmet.{clash}
use Rattle.sml_samples.proofs.Known as K

-- after `x = 3`: the type of x is int
abbrev pub int-state : State Place Name
int-state = record { made = 1; names = initial_names; demands = equal (free 0) (type_of int) ∷ []; window = no_window; is_open = false; judged = [] }

own-int-scheme : IsScheme scope int-state 0 false (free 0) (mono (type_of int))
unfolding replace_type
own-int-scheme = K.int-scheme int-state (refl, tt) known 0 false (omega arith)
  where
    known : (τ : ℕ → MlType Name) → Meets scope int-state Finiteness τ → (v : ℕ) → v < 1 → τ v ≡ type_of int
    known τ m zero h = m.0
    known τ m (suc v) h = absurd (omega (arith, h))

pub int-scheme : (js : List (Judged Place)) → IsScheme scope (record int-state { judged = js }) 0 false (free 0) (mono (type_of int))
int-scheme js = scheme-judged _ js _ _ _ _ own-int-scheme

pub value-samples : ValueSamples
unfolding IsAnswer ◌>>=◌ A.◌>>=◌ read_dec read_binds read_patterns read_rights read_exp read_rules read_pat read_ty read_tys find_at type_at value_at type_size types_size replace_type replace_types naming unguarded pat_variables exp_variables rules_variables ty_variables tys_variables has_unknown have_unknown is_expansive spread spread_all
value-samples = record {
  val_accepted = (_, refl ⊳ (λ _. type_of int, (refl, tt)) ⊳ tt ⊳ (small _ _ _ _ _ (int-scheme _) (omega arith), tt) ⊳ (mono (type_of int), int-scheme _, refl));
  val_refused = refl ⊳ refl;
  constrained_val_refused = refl ⊳ omega arith ⊳ (λ _. type_of string, (refl, tt)) ⊳ inr (Equations, clash string int (λ e. cc) (equal (free 0) (type_of string) ∷ []), refl);
  rec_accepted = (
    _,
    refl ⊳ (types (type_of int), (met int).1.1) ⊳ refl ⊳ refl ⊳ (types (type_of int), (met int).1) ⊳ (types (type_of int), met int) ⊳ tt
        ⊳ (small _ _ _ _ _ (scheme _) (omega arith), tt) ⊳ (identity_scheme, scheme _, refl),
  );
  rec_refused = refl ⊳ (types (type_of int), (met int).1.1) ⊳ inr (λ e. cc, refl);
}
