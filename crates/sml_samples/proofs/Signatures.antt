-- Samples of signatures and functors.
use Rattle.std.specs.Prelude.{true, false, [], ◌∷◌}
use mathlib.Core.Path.{refl}
use mathlib.Core.Logic.{inl}
use native.Mathlib.Decide.{ℕ_discrete}
use Rattle.std.proofs.Common.{arith}
use Rattle.sml_objects.specs.Appearance.{stands}
use Rattle.sml_objects.specs.Initial.{made, naming}
use Rattle.sml_objects.specs.Objects.{Outside, names_type, names_types}
use Rattle.sml_objects.specs.Sizes.{type_size, types_size}
use Rattle.sml_objects.specs.Fates.{close_as}
use Rattle.sml_objects.specs.Types.{replace_type, replace_types, variables_after, variables_after_all}
use Rattle.sml_rules.specs.Matching.{realise_type, realise_types}
use Rattle.sml_core_rules.specs.Answers as A
use Rattle.sml_core_rules.specs.Closing.{unguarded, ty_variables, tys_variables, is_expansive, pat_variables, exp_variables}
use Rattle.sml_core_rules.specs.Datatypes.{read_type_binds}
use Rattle.sml_core_rules.specs.Lookups.{find_at, type_at, value_at, structure_at}
use Rattle.sml_core_rules.specs.Objects.{names_in, names_structures, replace, replace_structures}
use Rattle.sml_core_rules.specs.Patterns.{read_pat}
use Rattle.sml_core_rules.specs.Types.{read_ty, read_tys}
use Rattle.sml_core_rules.specs.Values.{has_unknown, have_unknown}
use Rattle.sml_core_rules.specs.Scripts.{IsAnswer, ◌>>=◌}
use Rattle.sml_core_rules.specs.Expressions.{read_dec, read_binds, read_patterns, read_rights, read_exp}
use Rattle.sml_module_rules.specs.Lines.{lines, structure_lines}
use Rattle.sml_module_rules.specs.Matching.{read_realisation, require_lines}
use Rattle.sml_core_rules.specs.Functions.{are_parameters}
use Rattle.sml_module_rules.specs.Realising.{with_names}
use Rattle.sml_module_rules.specs.Signatures.{read_sig, read_specs, read_spec, read_values}
use Rattle.sml_module_rules.specs.Structures.{read_str, read_strs, read_strdec, read_str_binds, read_signatures}
use Rattle.sml_samples.specs.Modules.{functor_basis, SignatureSamples}
use Rattle.sml_samples.proofs.Alone.{top, accepts, refuses}
use Rattle.sml_samples.proofs.Steps.{◌⊳◌}
use Rattle.sml_samples.proofs.Names.{first-made, third-made}

pub signature-samples : SignatureSamples
unfolding IsAnswer ◌>>=◌ A.◌>>=◌ read_dec read_binds read_patterns read_rights read_exp read_pat read_type_binds read_ty read_tys find_at type_at value_at structure_at type_size types_size replace_type replace_types close_as variables_after variables_after_all naming unguarded pat_variables exp_variables is_expansive has_unknown have_unknown names_in names_structures names_type names_types read_str read_strs read_strdec read_str_binds lines structure_lines stands read_sig read_specs read_spec read_values read_realisation require_lines are_parameters with_names replace replace_structures realise_type realise_types ty_variables tys_variables read_signatures ℕ_discrete Outside
signature-samples = record {
  signature_accepted =
      accepts top _ _ (made 1 0 0 false ∷ [], first-made 0 false, (omega arith, tt, tt) ⊳ refl ⊳ (omega arith, tt) ⊳ refl ⊳ refl) (λ σ m. refl) (tt, tt) (omega arith) refl;
  signature_refused = refuses top _ refl;
  functor_accepted =
      accepts top _ _ (made 1 0 0 false ∷ [], first-made 0 false, (omega arith, tt, tt) ⊳ refl ⊳ (omega arith, tt) ⊳ refl) (λ σ m. refl) (((omega arith, tt, tt), tt), tt) (omega arith) refl;
  functor_refused = refuses top _ refl;
  application_accepted =
      accepts functor_basis _ _ ((omega arith, tt, tt) ⊳ refl ⊳ refl ⊳ inl refl ⊳ (made 1 2 0 true ∷ [], third-made false true true, (omega arith, tt, (omega arith, tt, tt)) ⊳ refl)) (λ σ m. refl)
      (tt, (omega arith, tt, (omega arith, tt, tt))) (omega arith) refl;
  application_refused = refuses functor_basis _ refl;
  argument_refused = refuses functor_basis _ refl;
}
