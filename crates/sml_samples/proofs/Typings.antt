-- Samples in which unknown types are settled, closed, or left open.
use Rattle.std.specs.Prelude.{true, false, [], ◌∷◌}
use mathlib.Core.Path.{refl}
use mathlib.Core.Logic.{inr}
use Rattle.std.proofs.Common.{arith}
use Rattle.sml_objects.specs.Initial.{made, naming}
use Rattle.sml_objects.specs.Names.{int}
use Rattle.sml_objects.specs.Objects.{names_type, names_types, arrow_of, free, bound, named, mono}
use Rattle.sml_objects.specs.Equality.{admits_by, all_admit_by}
use Rattle.sml_objects.specs.Sizes.{type_size, types_size}
use Rattle.sml_objects.specs.Fates.{close_as}
use Rattle.sml_objects.specs.Types.{replace_type, replace_types, variables_after, variables_after_all}
use Rattle.sml_layers.specs.declared.layer.Layer.TheVariants.{Finiteness, Newness, Locality, Equality, Classes, Rigidity}
use Rattle.sml_core_rules.specs.Answers as A
use Rattle.sml_core_rules.specs.Closing.{unguarded, ty_variables, tys_variables, is_expansive, is_any_field_expansive, pat_variables, pat_field_variables, exp_variables, exps_variables, rules_variables, field_variables, decs_variables, dec_variables}
use Rattle.sml_core_rules.specs.Datatypes.{read_all_arguments, read_arguments}
use Rattle.sml_core_rules.specs.Objects.{names_in, names_structures}
use Rattle.sml_core_rules.specs.Lookups.{find_at, type_at, value_at}
use Rattle.sml_core_rules.specs.Patterns.{read_pat, read_pat_fields}
use Rattle.sml_core_rules.specs.Solutions.{HasOneSetOfLabels}
use Rattle.sml_core_rules.specs.Types.{read_ty, read_tys}
use Rattle.sml_core_rules.specs.Values.{has_unknown, have_unknown}
use Rattle.sml_core_rules.specs.Scripts.{IsAnswer, ◌>>=◌}
use Rattle.sml_core_rules.specs.Expressions.{read_dec, read_decs, read_binds, read_patterns, read_rights, read_exp, read_exps, read_fields, read_rules}
use Rattle.sml_samples.proofs.Judged.{small}
use Rattle.sml_samples.specs.Around.{type_of}
use Rattle.sml_samples.specs.Core.{identity_scheme}
use Rattle.sml_samples.specs.Typing.{TypingSamples}
use Rattle.sml_samples.proofs.Steps.{◌⊳◌}
use Rattle.sml_samples.proofs.Functions as F
use Rattle.sml_samples.proofs.Overloads as O
use Rattle.sml_samples.proofs.Defaults as D
use Rattle.sml_samples.proofs.Inner as I
use Rattle.sml_samples.proofs.Equalities as E
use Rattle.sml_samples.proofs.Scopings as S
use Rattle.sml_samples.proofs.Expansive as X
use Rattle.sml_samples.proofs.Rows as R
use Rattle.sml_samples.proofs.Unmet.{rigid, circular, escaping, of-no-class, unequal, too-new}
use Rattle.sml_samples.proofs.Datatypes.{with-equality, first-datatype}

pub typing-samples : TypingSamples
unfolding IsAnswer ◌>>=◌ A.◌>>=◌ read_dec read_decs read_binds read_patterns read_rights read_exp read_exps read_fields read_rules read_pat read_pat_fields read_ty read_tys find_at type_at value_at type_size types_size replace_type replace_types naming unguarded pat_variables pat_field_variables exp_variables exps_variables rules_variables field_variables decs_variables dec_variables ty_variables tys_variables has_unknown have_unknown is_expansive is_any_field_expansive read_all_arguments read_arguments close_as variables_after variables_after_all HasOneSetOfLabels names_in names_structures names_type names_types admits_by all_admit_by
typing-samples = record {
  overloaded_accepted = (
    _,
    refl ⊳ (F.types (type_of int), (O.met int refl).1.1.1.1) ⊳ refl ⊳ refl ⊳ (F.types (type_of int), (O.met int refl).1.1.1) ⊳ (F.types (type_of int), (O.met int refl).1.1)
        ⊳ (F.types (type_of int), (O.met int refl).1) ⊳ (F.types (type_of int), O.met int refl) ⊳ O.overloaded _ ⊳ (F.types (type_of int), O.met-settled) ⊳ tt
        ⊳ (small _ _ _ _ _ (O.scheme _) (omega arith), tt) ⊳ (mono (arrow_of (type_of int) (type_of int)), O.scheme _, refl),
  );
  default_accepted = (
    _,
    refl ⊳ (F.types (type_of int), D.met.1.1.1.1.1.1) ⊳ refl ⊳ refl ⊳ (F.types (type_of int), D.met.1.1.1.1.1) ⊳ (F.types (type_of int), D.met.1.1.1.1)
        ⊳ (F.types (type_of int), D.met.1.1.1) ⊳ (F.types (type_of int), D.met.1.1) ⊳ (F.types (type_of int), D.met.1) ⊳ (F.types (type_of int), D.met)
        ⊳ inr (D.one-type _ 2 D.second, inr (D.one-type _ 3 D.third, tt ⊳ (small _ _ _ _ _ (D.scheme _) (omega arith), tt) ⊳ (mono (arrow_of (type_of int) (type_of int)), D.scheme _, refl))),
  );
  fixed_accepted = (
    _,
    refl ⊳ (F.types (type_of int), (I.met int).1.1.1.1.1) ⊳ refl ⊳ refl ⊳ (F.types (type_of int), (I.met int).1.1.1.1) ⊳ refl ⊳ (F.types (type_of int), (I.met int).1.1.1)
        ⊳ tt ⊳ (small _ _ _ _ _ (I.inner-scheme _) (omega arith), tt) ⊳ (
          mono (free 1),
          I.inner-scheme _,
          (F.types (type_of int), (I.met int).1.1) ⊳ (F.types (type_of int), (I.met int).1)
              ⊳ (F.types (type_of int), I.met int) ⊳ tt ⊳ (small _ _ _ _ _ (I.scheme _) (omega arith), tt) ⊳ (identity_scheme, I.scheme _, refl),
        ),
  );
  class_refused = refl ⊳ (λ _. type_of int, (λ h. (int, refl, refl), tt)) ⊳ inr (Classes, of-no-class, refl);
  unequal_refused = refl ⊳ (λ _. type_of int, (λ h. refl, tt)) ⊳ inr (Equality, unequal, refl);
  equality_accepted = (
    _,
    (E.types E.itself, E.met.1.1.1.1.1) ⊳ (E.types E.itself, E.met.1.1.1.1) ⊳ refl ⊳ (E.types E.itself, E.met.1.1.1) ⊳ refl ⊳ refl ⊳ omega arith
        ⊳ (E.types E.itself, E.met.1.1) ⊳ (E.types E.itself, E.met.1) ⊳ (E.types E.itself, E.met) ⊳ (E.general _, tt)
        ⊳ (small _ _ _ _ _ (E.scheme _) (omega arith), tt) ⊳ (record { variables = true ∷ []; body = arrow_of (bound 0) (bound 0) }, E.scheme _, refl),
  );
  rigid_refused = (λ _. named (made 0 0 0 false), (λ h. refl, tt)) ⊳ refl ⊳ omega arith ⊳ (λ _. named (made 0 0 0 false), (refl, (λ h. refl, tt))) ⊳ inr (Rigidity, rigid 0, refl);
  scoped_accepted = (
    _,
    (S.types S.itself, S.met.1.1.1.1.1.1) ⊳ refl ⊳ omega arith ⊳ (S.types S.itself, S.met.1.1.1.1.1) ⊳ (S.types S.itself, S.met.1.1.1.1) ⊳ omega arith
        ⊳ (S.types S.itself, S.met.1.1.1) ⊳ (S.types S.itself, S.met.1.1) ⊳ tt ⊳ tt ⊳ (S.types S.itself, S.met.1) ⊳ (S.types S.itself, S.met) ⊳ (S.general _, tt) ⊳ tt ⊳ refl,
  );
  scoped_refused =
      (λ _. named (made 0 1 0 false), (λ h. refl, tt)) ⊳ omega arith ⊳ (λ _. named (made 0 1 0 false), (refl, (λ h. refl, tt))) ⊳ inr (Rigidity, rigid 1, refl);
  circular_refused = refl ⊳ (F.types (type_of int), (F.met int).1.1) ⊳ refl ⊳ refl ⊳ (F.types (type_of int), (F.met int).1) ⊳ inr (Finiteness, circular, refl);
  expansive_accepted = (
    _,
    refl ⊳ refl ⊳ (X.types (type_of int), X.met-int.1.1.1) ⊳ refl ⊳ (X.types (type_of int), X.met-int.1.1) ⊳ (X.types (type_of int), X.met-int.1)
        ⊳ (X.types (type_of int), X.met-int) ⊳ tt ⊳ (small _ _ _ _ _ (X.scheme _) (omega arith), tt) ⊳ (mono (arrow_of (free 2) (free 2)), X.scheme _, (X.types (type_of int), X.met-closed-int) ⊳ refl),
  );
  local_type_refused =
      refl ⊳ (made 1 0 0 true ∷ [], first-datatype _ _ true, (refl, tt), inr (_, refl, with-equality 0 0 _ refl, (omega arith, tt) ⊳ inr (Locality, escaping, refl)));
  new_type_refused =
      refl ⊳ (F.types (type_of int), (F.met int).1.1) ⊳ refl ⊳ refl ⊳ (F.types (type_of int), (F.met int).1)
      ⊳ (made 1 0 0 true ∷ [], first-datatype _ _ true, (refl, tt), inr (_, refl, with-equality 0 0 _ refl, (omega arith, tt) ⊳ omega arith ⊳ inr (Newness, too-new, refl)));
  row_accepted = (
    _,
    refl ⊳ (R.types, R.met.1) ⊳ (R.types, R.met) ⊳ R.one-set [] ⊳ tt ⊳ (small _ _ _ _ _ (R.scheme _) (omega arith), tt) ⊳ (mono (type_of int), R.scheme _, refl),
  );
  row_refused =
      refl ⊳ (R.open_types R.one_field, R.met-open-one.1.1.1) ⊳ refl ⊳ refl ⊳ (R.open_types R.one_field, R.met-open-one.1.1) ⊳ (R.open_types R.one_field, R.met-open-one.1)
      ⊳ (R.open_types R.one_field, R.met-open-one) ⊳ inr (R.several-sets [], refl);
}
