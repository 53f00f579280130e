-- Samples of structures.
use Rattle.std.specs.Prelude.{false, [], ◌∷◌, Some, codes}
use mathlib.Core.Path.{refl}
use mathlib.Core.Logic.{inl, inr}
use native.Mathlib.Decide.{ℕ_discrete}
use Rattle.std.proofs.Common.{arith}
use Rattle.sml_tree.specs.Trees.{Id}
use Rattle.sml_objects.specs.Appearance.{stands}
use Rattle.sml_objects.specs.Initial.{Name, made, naming}
use Rattle.sml_objects.specs.Names.{int}
use Rattle.sml_objects.specs.Objects.{names_type, names_types, bound, mono}
use Rattle.sml_objects.specs.Sizes.{type_size, types_size}
use Rattle.sml_objects.specs.Fates.{close_as}
use Rattle.sml_objects.specs.Types.{replace_type, replace_types, variables_after, variables_after_all}
use Rattle.sml_rules.specs.Matching.{realise_type, realise_types}
use Rattle.sml_core_rules.specs.Answers as A
use Rattle.sml_core_rules.specs.Closing.{unguarded, ty_variables, tys_variables, is_expansive, pat_variables, exp_variables}
use Rattle.sml_core_rules.specs.Datatypes.{read_type_binds}
use Rattle.sml_core_rules.specs.Lookups.{find_at, type_at, value_at, structure_at}
use Rattle.sml_core_rules.specs.Objects.{names_in, names_structures, replace, replace_structures}
use Rattle.sml_core_rules.specs.Patterns.{read_pat}
use Rattle.sml_core_rules.specs.Types.{read_ty, read_tys}
use Rattle.sml_core_rules.specs.Values.{has_unknown, have_unknown}
use Rattle.sml_core_rules.specs.Scripts.{IsAnswer, ◌>>=◌}
use Rattle.sml_core_rules.specs.Expressions.{read_dec, read_binds, read_patterns, read_rights, read_exp}
use Rattle.sml_module_rules.specs.Lines.{lines, structure_lines}
use Rattle.sml_module_rules.specs.Matching.{read_realisation, require_lines}
use Rattle.sml_core_rules.specs.Functions.{are_parameters}
use Rattle.sml_module_rules.specs.Realising.{with_names}
use Rattle.sml_module_rules.specs.Signatures.{read_sig, read_specs, read_spec, read_values}
use Rattle.sml_module_rules.specs.Structures.{Added, AreAlone, read_str, read_strs, read_strdec, read_str_binds}
use Rattle.sml_lex.specs.declared.fault.Code.TheVariants.{E3}
use Rattle.sml_rules.specs.Answers.{refused, accepted, fault_at}
use Rattle.sml_samples.proofs.Judged.{small}
use Rattle.sml_samples.specs.Around.{Place, inner, type_of}
use Rattle.sml_samples.specs.Modules.{AcceptsTop, RefusesTop, named_alone, two_structures, both_structures, StructureSamples}
use Rattle.sml_samples.proofs.Alone.{top, accepts, refuses}
use Rattle.sml_samples.proofs.Steps.{◌⊳◌}
use Rattle.sml_samples.proofs.Names.{first-made, second-made}
use Rattle.sml_samples.proofs.Values.{int-scheme}

-- a group of two structures

abbrev unjudged_alone : Id → Added Place Name
unjudged_alone x = record { basis = named_alone x inner; judged = [] }

group-accepted : AcceptsTop (two_structures (codes "S")) both_structures
unfolding IsAnswer ◌>>=◌ AreAlone A.◌>>=◌ find_at structure_at read_str replace replace_structures replace_type names_in names_structures names_type names_types lines structure_lines stands naming type_size types_size
group-accepted = (
  [],
  (
    accepted (Some (unjudged_alone (codes "A")) ∷ Some (unjudged_alone (codes "B")) ∷ []),
    inr (
      _,
      (accepted _, refl, inl (_, (λ σ m. refl), refl)),
      _,
      inr (_, (accepted _, refl, inl (_, (λ σ m. refl), refl)), _, refl, refl),
      refl,
    ),
    inr (inr ((tt, (omega arith, tt, (omega arith, (omega arith, tt, (omega arith, tt))))), omega arith, refl)),
  ),
)

group-refused : RefusesTop (two_structures (codes "A")) (fault_at E3 8 (codes "A" ∷ []))
unfolding IsAnswer ◌>>=◌ AreAlone A.◌>>=◌ find_at structure_at read_str replace replace_structures replace_type
group-refused = (refused _, inr (Some (unjudged_alone (codes "A")), (accepted _, refl, inl (_, (λ σ m. refl), refl)), _, inl (_, (refused _, refl, refl), refl), refl), refl)

pub structure-samples : StructureSamples
unfolding IsAnswer ◌>>=◌ A.◌>>=◌ read_dec read_binds read_patterns read_rights read_exp read_pat read_type_binds read_ty read_tys find_at type_at value_at structure_at type_size types_size replace_type replace_types close_as variables_after variables_after_all naming unguarded pat_variables exp_variables is_expansive has_unknown have_unknown names_in names_structures names_type names_types read_str read_strs read_strdec read_str_binds lines structure_lines stands read_sig read_specs read_spec read_values read_realisation require_lines are_parameters with_names replace replace_structures realise_type realise_types ty_variables tys_variables ℕ_discrete
structure-samples = record {
  structure_accepted =
      accepts top _ _ ((omega arith, tt) ⊳ refl ⊳ (λ _. type_of int, (refl, tt)) ⊳ tt ⊳ (small _ _ _ _ _ (int-scheme _) (omega arith), tt) ⊳ (mono (type_of int), int-scheme _, refl)) (λ σ m. refl)
      (tt, (omega arith, tt, (omega arith, tt))) (omega arith) refl;
  anew_accepted =
      accepts top _ _ (refl ⊳ (λ _. type_of int, (refl, tt)) ⊳ tt ⊳ (small _ _ _ _ _ (int-scheme _) (omega arith), tt) ⊳ (
        mono (type_of int),
        int-scheme _,
        refl ⊳ (λ _. type_of int, (refl, tt)) ⊳ tt ⊳ (small _ _ _ _ _ (int-scheme _) (omega arith), tt) ⊳ (mono (type_of int), int-scheme _, refl),
      )) (λ σ m. refl) (tt, (omega arith, (omega arith, tt))) (omega arith) refl;
  named_accepted = accepts top _ _ refl (λ σ m. refl) (tt, (omega arith, tt, (omega arith, tt))) (omega arith) refl;
  structure_refused = refuses top _ refl;
  transparent_accepted =
      accepts top _ _ ((omega arith, tt) ⊳ refl ⊳ (λ _. type_of int, (refl, tt)) ⊳ tt ⊳ (small _ _ _ _ _ (int-scheme _) (omega arith), tt) ⊳ (
        mono (type_of int),
        int-scheme _,
        (
          made 1 0 0 false ∷ [],
          first-made 0 false,
          (omega arith, tt, tt) ⊳ refl ⊳ (omega arith, tt) ⊳ refl
              ⊳ (omega arith, tt, (omega arith, tt)) ⊳ refl ⊳ refl ⊳ inl refl ⊳ refl ⊳ (bound, tt, refl) ⊳ refl,
        ),
      )) (λ σ m. refl) (tt, (omega arith, tt, (omega arith, tt))) (omega arith) refl;
  transparent_refused =
      refuses top _ ((omega arith, tt) ⊳ (
        made 1 0 0 false ∷ [],
        first-made 0 false,
        (omega arith, tt, tt) ⊳ refl ⊳ (omega arith, tt) ⊳ refl
            ⊳ (omega arith, tt, (omega arith, tt)) ⊳ refl ⊳ refl ⊳ inl refl ⊳ refl,
      ));
  opaque_accepted =
      accepts top _ _ ((omega arith, tt) ⊳ refl ⊳ (λ _. type_of int, (refl, tt)) ⊳ tt ⊳ (small _ _ _ _ _ (int-scheme _) (omega arith), tt) ⊳ (
        mono (type_of int),
        int-scheme _,
        (
          made 1 0 0 false ∷ [],
          first-made 0 false,
          (omega arith, tt, tt) ⊳ refl ⊳ (omega arith, tt) ⊳ refl
              ⊳ (omega arith, tt, (omega arith, tt)) ⊳ refl ⊳ refl ⊳ inl refl ⊳ refl ⊳ (bound, tt, refl)
              ⊳ (made 1 1 0 false ∷ [], second-made false false, refl),
        ),
      )) (λ σ m. refl) (tt, (omega arith, tt, (omega arith, tt))) (omega arith) refl;
  opaque_refused =
      refuses top _ ((omega arith, tt) ⊳ (
        made 1 0 0 false ∷ [],
        first-made 0 false,
        (omega arith, tt, tt) ⊳ refl ⊳ (omega arith, tt) ⊳ refl
            ⊳ (omega arith, tt, (omega arith, tt)) ⊳ refl ⊳ refl ⊳ inl refl ⊳ refl,
      ));
  group_accepted = group-accepted;
  group_refused = group-refused;
  local_accepted = accepts top _ _ refl (λ σ m. refl) (tt, (omega arith, tt, (omega arith, tt))) (omega arith) refl;
  local_refused = refuses top _ refl;
  let_accepted = accepts top _ _ ((omega arith, tt) ⊳ (omega arith, tt) ⊳ refl) (λ σ m. refl) (tt, (omega arith, tt, tt)) (omega arith) refl;
  let_refused = refuses top _ ((omega arith, tt) ⊳ refl);
}
