-- Samples of what is to be judged.
use mathlib.Core.Path.{refl}
use Rattle.std.proofs.Common.{arith}
use Rattle.sml_objects.specs.Initial.{naming}
use Rattle.sml_objects.specs.Names.{int}
use Rattle.sml_objects.specs.Objects.{mono}
use Rattle.sml_objects.specs.Sizes.{type_size, types_size}
use Rattle.sml_objects.specs.Types.{replace_type, replace_types}
use Rattle.sml_core_rules.specs.Answers as A
use Rattle.sml_core_rules.specs.Closing.{unguarded, ty_variables, tys_variables, is_expansive, pat_variables, exp_variables, rules_variables}
use Rattle.sml_core_rules.specs.Lookups.{find_at, type_at, value_at}
use Rattle.sml_core_rules.specs.Patterns.{read_pat}
use Rattle.sml_core_rules.specs.Types.{read_ty, read_tys}
use Rattle.sml_core_rules.specs.Values.{has_unknown, have_unknown}
use Rattle.sml_core_rules.specs.Scripts.{IsAnswer, ◌>>=◌}
use Rattle.sml_core_rules.specs.Expressions.{read_dec, read_decs, read_binds, read_patterns, read_rights, read_exp, read_rules}
use Rattle.sml_samples.proofs.Judged.{small}
use Rattle.sml_samples.specs.Around.{type_of}
use Rattle.sml_samples.specs.Core.{identity_scheme}
use Rattle.sml_samples.specs.Judged.{JudgedSamples}
use Rattle.sml_samples.proofs.Functions.{types, met, scheme}
use Rattle.sml_samples.proofs.Phrases.{ints, handled-scheme}
use Rattle.sml_samples.proofs.Steps.{◌⊳◌}
use Rattle.sml_samples.proofs.Values.{int-scheme}

pub judged-samples : JudgedSamples
unfolding IsAnswer ◌>>=◌ A.◌>>=◌ read_dec read_decs read_binds read_patterns read_rights read_exp read_rules read_pat read_ty read_tys find_at type_at value_at type_size types_size replace_type replace_types naming unguarded pat_variables exp_variables rules_variables ty_variables tys_variables has_unknown have_unknown is_expansive
judged-samples = record {
  binding = (_, _, refl ⊳ (ints, (refl, tt)) ⊳ tt ⊳ (small _ _ _ _ _ (int-scheme _) (omega arith), tt) ⊳ (mono (type_of int), int-scheme _, refl), refl);
  function = (
    _,
    _,
    refl ⊳ (types (type_of int), (met int).1.1) ⊳ refl ⊳ refl ⊳ (types (type_of int), (met int).1) ⊳ (types (type_of int), met int) ⊳ tt
        ⊳ (small _ _ _ _ _ (scheme _) (omega arith), tt) ⊳ (identity_scheme, scheme _, refl),
    refl,
  );
  handler = (
    _,
    _,
    (omega arith, tt) ⊳ refl ⊳ (ints, (refl, tt)) ⊳ refl ⊳ refl ⊳ omega arith ⊳ (ints, (refl, (refl, tt))) ⊳ (ints, (refl, (refl, (refl, tt))))
        ⊳ (ints, (refl, (refl, (refl, (refl, tt))))) ⊳ tt ⊳ (small _ _ _ _ _ (handled-scheme _) (omega arith), tt) ⊳ (mono (type_of int), handled-scheme _, refl),
    refl,
  );
}
