-- Samples of specifications.
use Rattle.std.specs.Prelude.{◌≡◌, ℕ, true, false, List, [], ◌∷◌, codes}
use mathlib.Core.Path.{refl, ap, ◌∙◌}
use mathlib.Core.Logic.{inl, inr}
use native.Mathlib.Decide.{ℕ_discrete}
use Rattle.std.proofs.Common.{arith}
use Rattle.sml_objects.specs.Equality.{admits_by, all_admit_by}
use Rattle.sml_objects.specs.Appearance.{stands}
use Rattle.sml_objects.specs.Initial.{Name, made, naming}
use Rattle.sml_objects.specs.Objects.{names_type, names_types}
use Rattle.sml_objects.specs.Sizes.{type_size, types_size}
use Rattle.sml_objects.specs.Fates.{close_as}
use Rattle.sml_objects.specs.Types.{replace_type, replace_types, variables_after, variables_after_all}
use Rattle.sml_tree.specs.Trees.{Id}
use Rattle.sml_rules.specs.Lookups.{Found, found, no_path, no_entry}
use Rattle.sml_core_rules.specs.Objects.{identifiers}
use Rattle.sml_rules.specs.Matching.{realise_type, realise_types}
use Rattle.sml_core_rules.specs.Answers as A
use Rattle.sml_core_rules.specs.Closing.{ty_variables, tys_variables}
use Rattle.sml_core_rules.specs.Datatypes.{read_type_binds, read_arguments, read_all_arguments}
use Rattle.sml_core_rules.specs.Lookups.{find_at, type_at, value_at, structure_at}
use Rattle.sml_core_rules.specs.Objects.{TyStr, names_in, names_structures, replace, replace_structures}
use Rattle.sml_core_rules.specs.Types.{read_ty, read_tys}
use Rattle.sml_core_rules.specs.Scripts.{IsAnswer, ◌>>=◌}
use Rattle.sml_module_rules.specs.Lines.{lines, structure_lines}
use Rattle.sml_core_rules.specs.Functions.{are_parameters}
use Rattle.sml_module_rules.specs.Realising.{with_names}
use Rattle.sml_module_rules.specs.Signatures.{read_sig, read_specs, read_spec, read_values, read_exceptions, need_names, share_others, need_structures, share_paths, share_with, share_pairs}
use Rattle.sml_module_rules.specs.Structures.{read_signatures}
use Rattle.sml_samples.specs.Around.{initial_names}
use Rattle.sml_samples.specs.Specifications.{with_signature, SpecificationSamples}
use Rattle.sml_samples.proofs.Alone.{top, accepts, refuses}
use Rattle.sml_samples.proofs.Steps.{◌⊳◌}
use Rattle.sml_samples.proofs.Names.{first-made, second-made, third-made, made-new, outside-by}
use Rattle.sml_samples.proofs.Datatypes.{first-datatype, new-datatype, with-equality}

-- the identifiers of the constructors of what is found
abbrev constructors_of : Found (TyStr Name) → List Id
constructors_of (found t) = identifiers t.constructors
constructors_of (no_path s) = []
constructors_of no_entry = []

abbrev first_letter : List Id → ℕ
first_letter [] = 0
first_letter ([] ∷ xs) = 0
first_letter ((b ∷ bs) ∷ xs) = b

letters-differ : codes "D" ∷ [] ≡ codes "E" ∷ [] → ⊥
letters-differ e = let n : 68 ≡ 69 = ap first_letter e in omega (arith, n)

pub specification-samples : SpecificationSamples
unfolding IsAnswer ◌>>=◌ A.◌>>=◌ read_type_binds read_arguments read_all_arguments read_ty read_tys find_at type_at value_at structure_at type_size types_size replace_type replace_types close_as variables_after variables_after_all naming names_in names_structures names_type names_types lines structure_lines stands read_sig read_specs read_spec read_values read_exceptions need_names share_others need_structures share_paths share_with share_pairs are_parameters with_names replace replace_structures realise_type realise_types ty_variables tys_variables read_signatures admits_by all_admit_by ℕ_discrete
specification-samples = record {
  name_accepted = accepts with_signature _ _ ((made 1 1 0 false ∷ [], second-made false false, refl)) (λ σ m. refl) (tt, tt) (omega arith) refl;
  val_refused = refuses top _ (refl);
  type_refused = refuses top _ ((
    made 1 0 0 false ∷ [],
    first-made 0 false,
    (omega arith, tt, tt) ⊳ refl
        ⊳ (made 1 1 0 false ∷ [], second-made false false, (omega arith, tt, tt) ⊳ inr (λ e. cc, refl)),
  ));
  eqtype_accepted = accepts top _ _ ((made 1 0 0 true ∷ [], first-made 0 true, (omega arith, tt, tt) ⊳ refl ⊳ refl)) (λ σ m. refl) (tt, tt) (omega arith) refl;
  datatype_accepted = accepts top _ _ ((
    made 1 0 0 true ∷ [],
    first-datatype _ _ true,
    (refl, tt),
    inr (_, refl, with-equality 0 0 _ refl, (omega arith, (omega arith, tt), (omega arith, tt)) ⊳ refl ⊳ refl),
  )) (λ σ m. refl) (tt, tt) (omega arith) refl;
  datatype_refused = refuses top _ ((made 1 0 0 true ∷ [], first-datatype _ _ true, (refl, tt), inl (_, refl, refl)));
  copy_accepted = accepts top _ _ (refl ⊳ refl) (λ σ m. refl) (tt, tt) (omega arith) refl;
  copy_refused = refuses top _ (refl);
  exception_accepted = accepts top _ _ ((omega arith, tt) ⊳ refl ⊳ refl) (λ σ m. refl) (tt, tt) (omega arith) refl;
  exception_refused = refuses top _ (refl);
  structure_accepted = accepts top _ _ ((made 1 0 0 false ∷ [], first-made 0 false, (omega arith, tt, tt) ⊳ refl ⊳ refl ⊳ refl)) (λ σ m. refl) (tt, tt) (omega arith) refl;
  structure_refused = refuses top _ (refl);
  include_accepted = accepts top _ _ ((made 1 0 0 false ∷ [], first-made 0 false, (omega arith, tt, tt) ⊳ refl ⊳ refl ⊳ refl)) (λ σ m. refl) (tt, tt) (omega arith) refl;
  include_refused = refuses top _ (refl);
  sharing_accepted = accepts top _ _ ((
    made 1 0 0 false ∷ [],
    first-made 0 false,
    (omega arith, tt, tt) ⊳ refl
        ⊳ (
          made 1 1 0 false ∷ [],
          second-made false false,
          (omega arith, tt, tt) ⊳ refl ⊳ refl
              ⊳ (made 1 2 0 false ∷ [], third-made false false false, inl refl ⊳ refl),
        ),
  )) (λ σ m. refl) (tt, tt) (omega arith) refl;
  sharing_refused = refuses top _ (refl ⊳ (made 1 0 0 false ∷ [], first-made 0 false, (omega arith, tt, tt) ⊳ refl ⊳ refl));
  arities_refused = refuses top _ ((
    made 1 0 0 false ∷ [],
    first-made 0 false,
    (omega arith, tt, tt) ⊳ refl
        ⊳ (made 1 1 1 false ∷ [], made-new 1 1 false _ (outside-by (made 1 1 1 false) (made 1 0 0 false ∷ initial_names) refl), (omega arith, tt, tt) ⊳ refl ⊳ inr (λ e. cc, refl)),
  ));
  constructors_refused = refuses top _ ((
    made 1 0 0 true ∷ [],
    first-datatype _ _ true,
    (refl, tt),
    inr (
      _,
      refl,
      with-equality 0 0 _ refl,
      (omega arith, (omega arith, tt), (omega arith, tt)) ⊳ refl
          ⊳ (
            made 1 1 0 true ∷ [],
            new-datatype 1 true _ _ _ _ (outside-by (made 1 1 0 true) _ refl),
            (refl, tt),
            inr (
              _,
              refl,
              with-equality 1 0 _ refl,
              (omega arith, (omega arith, tt), (omega arith, tt)) ⊳ refl ⊳ refl
                  ⊳ (made 1 2 0 true ∷ [], third-made true true true, inr (λ o. elim o [ inl e ↦ absurd cc | inr p ↦ elim p [ inl e ↦ absurd cc | inr e ↦ absurd (letters-differ e) ] ], refl)),
            ),
          ),
    ),
  ));
  structures_accepted = accepts top _ _ ((
    made 1 0 0 false ∷ [],
    first-made 0 false,
    (omega arith, tt, tt) ⊳ refl ⊳ refl
        ⊳ (
          made 1 1 0 false ∷ [],
          second-made false false,
          (omega arith, tt, tt) ⊳ refl ⊳ refl ⊳ refl
              ⊳ (made 1 2 0 false ∷ [], third-made false false false, inl refl ⊳ refl),
        ),
  )) (λ σ m. refl) (tt, tt) (omega arith) refl;
  structures_refused = refuses top _ ((made 1 0 0 false ∷ [], first-made 0 false, (omega arith, tt, tt) ⊳ refl ⊳ refl ⊳ refl));
  where_accepted = accepts top _ _ ((made 1 0 0 false ∷ [], first-made 0 false, (omega arith, tt, tt) ⊳ refl ⊳ refl ⊳ refl ⊳ inl refl ⊳ (omega arith, tt, tt) ⊳ refl)) (λ σ m. refl) (tt, tt) (omega arith) refl;
  where_refused = refuses top _ ((made 1 0 0 false ∷ [], first-made 0 false, (omega arith, tt, tt) ⊳ refl ⊳ refl));
  where_equality_refused = refuses top _ ((made 1 0 0 true ∷ [], first-made 0 true, (omega arith, tt, tt) ⊳ refl ⊳ refl ⊳ inr (λ e. cc, refl)));
  where_constructors_refused = refuses top _ ((
    made 1 0 0 true ∷ [],
    first-datatype _ _ true,
    (refl, tt),
    inr (
      _,
      refl,
      with-equality 0 0 _ refl,
      (omega arith, (omega arith, tt), (omega arith, tt)) ⊳ refl ⊳ refl ⊳ refl ⊳ inr (λ o. elim o [ inl e ↦ absurd cc | inr h ↦ let e : codes "false" ∷ codes "true" ∷ [] ≡ codes "D" ∷ [] = ap constructors_of h.1 ∙ h.2 in absurd cc ], refl),
    ),
  ));
}
