-- Samples of structures against signatures.
use Rattle.std.specs.Prelude.{◌≡◌, ◌++◌, true, false, List, [], ◌∷◌, codes, None}
use mathlib.Core.Path.{refl, ap}
use mathlib.Core.Logic.{inl, inr}
use native.Mathlib.Decide.{ℕ_discrete}
use Rattle.std.proofs.Common.{arith}
use Rattle.sml_objects.specs.Equality.{admits_by, all_admit_by}
use Rattle.sml_objects.specs.Appearance.{stands}
use Rattle.sml_objects.specs.Initial.{Name, made, naming}
use Rattle.sml_objects.specs.Maps.{Map}
use Rattle.sml_objects.specs.Names.{int, bool}
use Rattle.sml_objects.specs.Objects.{MlType, Outside, names_type, names_types, arrow_of, free, named, mono}
use Rattle.sml_objects.specs.Sizes.{type_size, types_size}
use Rattle.sml_objects.specs.Fates.{close_as}
use Rattle.sml_objects.specs.Types.{replace_type, replace_types, variables_after, variables_after_all, index_among}
use Rattle.sml_lex.specs.declared.fault.Code.TheVariants.{E3}
use Rattle.sml_rules.specs.Answers.{refused, accepted, fault_at}
use Rattle.sml_rules.specs.Matching.{realise_type, realise_types}
use Rattle.sml_layers.specs.Demands.{equal, asks, Mentions}
use Rattle.sml_layers.specs.Demands as D
use Rattle.sml_core_rules.specs.Answers as A
use Rattle.sml_core_rules.specs.Closing.{unguarded, ty_variables, tys_variables, is_expansive, pat_variables, exp_variables}
use Rattle.sml_core_rules.specs.Datatypes.{AreNew, read_type_binds, read_arguments, read_all_arguments}
use Rattle.sml_core_rules.specs.Lookups.{find_at, type_at, value_at, structure_at}
use Rattle.sml_core_rules.specs.Objects.{Basis, Value, no_structure, and_structure, structures, variable, values, of_values, names_in, names_structures, names_env, replace, replace_structures}
use Rattle.sml_core_rules.specs.Patterns.{read_pat}
use Rattle.sml_core_rules.specs.Solutions.{IsAlways, IsFixed}
use Rattle.sml_core_rules.specs.States.{State, Judged, words, with_demand, with_unknowns}
use Rattle.sml_core_rules.specs.Types.{read_ty, read_tys}
use Rattle.sml_core_rules.specs.Values.{has_unknown, have_unknown}
use Rattle.sml_core_rules.specs.Scripts.{IsAnswer, ◌>>=◌}
use Rattle.sml_core_rules.specs.Expressions.{read_dec, read_binds, read_patterns, read_rights, read_exp}
use Rattle.sml_module_rules.specs.Lines.{lines, structure_lines}
use Rattle.sml_module_rules.specs.Matching.{read_realisation, require_lines}
use Rattle.sml_core_rules.specs.Functions.{are_parameters}
use Rattle.sml_module_rules.specs.Realising.{with_names}
use Rattle.sml_module_rules.specs.Signatures.{read_sig, read_specs, read_spec, read_values, read_exceptions}
use Rattle.sml_module_rules.specs.Structures.{AreAlone, read_str, read_strs, read_strdec, read_str_binds}
use Rattle.sml_samples.proofs.Judged.{small}
use Rattle.sml_samples.specs.Around.{Place, scope, initial_names, around, type_of, value_of}
use Rattle.sml_samples.specs.Modules.{RefusesTop, one_structure}
use Rattle.sml_samples.specs.Matches.{MatchSamples, boxes_binding, open_group}
use Rattle.sml_samples.proofs.Alone.{top, accepts, refuses, stays-open}
use Rattle.sml_samples.proofs.Steps.{◌⊳◌}
use Rattle.sml_samples.proofs.Names.{first-made, made-outside, outside-both}
use Rattle.sml_samples.proofs.Values.{int-scheme}
use Rattle.sml_samples.proofs.Datatypes.{first-datatype, with-equality}
use Rattle.sml_samples.proofs.Expansive as X

-- `datatype 'a d = D of 'a`, and once more after it
boxes-new : (p : Place) → AreNew naming (names_env around ++ initial_names) (boxes_binding p ∷ []) (made 1 0 1 true ∷ [])
unfolding AreNew names_in names_structures names_type names_types naming
boxes-new p = (made 1 0 1 true, [], made-outside 1 0 1 true _ refl, λ k e. cc, refl, refl, refl, refl)

boxes-again : (p : Place) → AreNew naming (names_env around ++ made 1 0 1 true ∷ initial_names) (boxes_binding p ∷ []) (made 1 1 1 true ∷ [])
unfolding AreNew names_in names_structures names_type names_types naming Outside
boxes-again p = (
  made 1 1 1 true,
  [],
  outside-both (made 1 1 1 true) (names_env around) (made 1 0 1 true ∷ initial_names) (made-outside 1 1 1 true (names_env around) refl) (λ e. cc, made-outside 1 1 1 true initial_names refl),
  λ k e. cc,
  refl,
  refl,
  refl,
  refl,
)

-- after the open value, a variable of a signature's value, which is number 3

abbrev itself : MlType Name
itself = named (made 0 3 0 false)

itself-within : Mentions ((words scope).Allows initial_names) itself
unfolding Mentions
itself-within = (inr (record { number = 3; equality = false }, refl), tt)

abbrev matched : State Place Name
matched =
    with_demand (equal (arrow_of (free 2) (free 2)) (arrow_of (free 3) (free 3)))
    (with_demand (asks (D.variable (record { number = 3; equality = false })) (free 3)) (with_unknowns 1 X.closed))

fixed : (js : List (Judged Place)) → IsFixed scope (record matched { judged = js }) 3 [] 3
unfolding IsFixed replace_type replace_types
fixed js σ τ m k same u =
    let a : arrow_of (σ 2) (σ 2) ≡ arrow_of (σ 3) (σ 3) = m.0 in
    let b : arrow_of (τ 2) (τ 2) ≡ arrow_of (τ 3) (τ 3) = k.0 in
    let c : σ 2 ≡ τ 2 = same 2 (omega arith) in cc

-- the structure `A` with `i` of this type, and `j` of type int
abbrev with_values : MlType Name → Basis Name
with_values t = one_structure [] (of_values ((codes "i", value_of variable t) ∷ (codes "j", value_of variable (type_of int)) ∷ []))

-- the type of the first value

abbrev type_of_first : Map (Value Name) → MlType Name
type_of_first [] = itself
type_of_first (e ∷ vs) = e.1.scheme.body

abbrev first_type : Basis Name → MlType Name
first_type C = type_of_first (values C.body)

-- an open type in a part, and a fault in the next one

abbrev inner_type : Basis Name → MlType Name
inner_type C = elim (structures C.body) [ no_structure ↦ itself | and_structure x E ss ↦ type_of_first (values E) ]

group-refused : RefusesTop open_group (fault_at E3 24 (codes "C" ∷ []))
unfolding AreAlone IsAnswer ◌>>=◌ A.◌>>=◌ read_dec read_binds read_patterns read_rights read_exp read_pat find_at structure_at value_at type_size types_size replace_type replace_types close_as variables_after variables_after_all index_among naming unguarded pat_variables exp_variables is_expansive read_str read_strs read_strdec replace replace_structures IsAlways has_unknown
group-refused =
    let open_part =
    refl ⊳ refl ⊳ (X.types (type_of int), X.met-int.1.1.1) ⊳ refl ⊳ (X.types (type_of int), X.met-int.1.1)
    ⊳ (X.types (type_of int), X.met-int.1) ⊳ (X.types (type_of int), X.met-int) ⊳ tt
    ⊳ (small _ _ _ _ _ (X.scheme _) (omega arith), tt) ⊳ (mono (arrow_of (free 2) (free 2)), X.scheme _, (X.types (type_of int), X.met-closed-int) ⊳ refl) in
    (refused _, inr (None, (accepted _, open_part, inr ((λ C h. X.open-ended [] (inner_type C) (λ σ m. ap inner_type (h σ m))), refl)), _, inl (_, (refused _, refl, refl), refl), refl), refl)

pub match-samples : MatchSamples
unfolding IsAnswer ◌>>=◌ A.◌>>=◌ read_dec read_binds read_patterns read_rights read_exp read_pat read_type_binds read_ty read_tys find_at type_at value_at structure_at type_size types_size replace_type replace_types close_as variables_after variables_after_all index_among naming unguarded pat_variables exp_variables is_expansive has_unknown have_unknown names_in names_structures names_type names_types read_str read_strs read_strdec read_str_binds lines structure_lines stands read_sig read_specs read_spec read_values read_realisation require_lines are_parameters with_names replace replace_structures realise_type realise_types ty_variables tys_variables IsAlways ℕ_discrete read_arguments read_all_arguments read_exceptions admits_by all_admit_by
match-samples = record {
  datatype_accepted = accepts top _ _ (
    made 1 0 1 true ∷ [],
    boxes-new _,
    (refl, tt),
    inr (
      _,
      refl,
      with-equality 0 1 _ refl,
      (omega arith, tt)
          ⊳ (
            made 1 1 1 true ∷ [],
            boxes-again _,
            (refl, tt),
            inr (
              _,
              refl,
              with-equality 1 1 _ refl,
              (omega arith, (omega arith, tt), (omega arith, tt)) ⊳ refl ⊳ (omega arith, (omega arith, tt), (omega arith, tt)) ⊳ refl ⊳ refl ⊳ inr refl ⊳ refl ⊳ (free, (λ e. absurd cc, tt), refl) ⊳ refl,
            ),
          ),
    ),
  ) (λ σ m. refl) (tt, (omega arith, (omega arith, tt), (omega arith, tt))) (omega arith) refl;
  arity_refused = refuses top _ ((omega arith, tt) ⊳ (made 1 0 1 false ∷ [], first-made 1 false, (omega arith, tt, tt) ⊳ refl ⊳ refl));
  equality_refused = refuses top _ ((omega arith, tt) ⊳ (made 1 0 0 true ∷ [], first-made 0 true, (omega arith, tt, tt) ⊳ refl ⊳ refl));
  type_refused =
      refuses top _ ((omega arith, tt) ⊳ (
        made 1 0 0 false ∷ [],
        first-made 0 false,
        (omega arith, tt, tt) ⊳ refl ⊳ refl ⊳ refl ⊳ inl refl ⊳ (omega arith, tt, tt)
            ⊳ (omega arith, tt, tt) ⊳ refl ⊳ inr (λ e. cc, refl),
      ));
  constructors_refused =
      refuses top _ ((omega arith, tt) ⊳ (
        made 1 0 0 true ∷ [],
        first-datatype _ _ true,
        (refl, tt),
        inr (
          _,
          refl,
          with-equality 0 0 _ refl,
          (omega arith, (omega arith, tt), (omega arith, tt)) ⊳ refl ⊳ (omega arith, (omega arith, tt), (omega arith, tt)) ⊳ refl ⊳ refl
              ⊳ inr (λ o. elim o [ inl e ↦ absurd cc | inr e ↦ absurd cc ], refl),
        ),
      ));
  value_refused =
      refuses top _ (refl ⊳ (λ _. type_of int, (refl, tt)) ⊳ tt ⊳ (small _ _ _ _ _ (int-scheme _) (omega arith), tt) ⊳ (
        mono (type_of int),
        int-scheme _,
        (omega arith, tt) ⊳ refl ⊳ (omega arith, tt) ⊳ refl
            ⊳ inr (λ g. let e : type_of int ≡ type_of bool = g.2 in cc, refl),
      ));
  status_refused =
      refuses top _ (refl ⊳ (λ _. type_of int, (refl, tt)) ⊳ tt ⊳ (small _ _ _ _ _ (int-scheme _) (omega arith), tt) ⊳ (
        mono (type_of int),
        int-scheme _,
        (omega arith, tt) ⊳ refl ⊳ (omega arith, tt)
            ⊳ inr (λ e. cc, refl),
      ));
  open_accepted = accepts top _ _ (
      refl ⊳ refl ⊳ (X.types (type_of int), X.met-int.1.1.1) ⊳ refl ⊳ (X.types (type_of int), X.met-int.1.1)
      ⊳ (X.types (type_of int), X.met-int.1) ⊳ (X.types (type_of int), X.met-int) ⊳ tt
      ⊳ (small _ _ _ _ _ (X.scheme _) (omega arith), tt) ⊳ (
        mono (arrow_of (free 2) (free 2)),
        X.scheme _,
        (X.types (type_of int), X.met-closed-int)
            ⊳ (omega arith, tt) ⊳ refl ⊳ (omega arith, tt) ⊳ refl ⊳ (X.types (type_of int), (refl, X.met-closed-int)) ⊳ tt ⊳ refl,
      )) (λ σ m. refl) (tt, (omega arith, tt)) (omega arith) refl;
  open_refused =
      refuses top _ (refl ⊳ refl ⊳ (X.types (type_of int), X.met-int.1.1.1) ⊳ refl ⊳ (X.types (type_of int), X.met-int.1.1)
      ⊳ (X.types (type_of int), X.met-int.1) ⊳ (X.types (type_of int), X.met-int) ⊳ tt
      ⊳ (small _ _ _ _ _ (X.scheme _) (omega arith), tt) ⊳ (
        mono (arrow_of (free 2) (free 2)),
        X.scheme _,
        (X.types (type_of int), X.met-closed-int)
            ⊳ (omega arith, tt) ⊳ refl ⊳ (omega arith, tt) ⊳ refl ⊳ (X.types itself, (λ h. refl, X.met-closed itself itself-within))
            ⊳ (X.types itself, (refl, (λ h. refl, X.met-closed itself itself-within))) ⊳ inr (λ f. f.0 (fixed _), refl),
      ));
  later_accepted = accepts top _ _ (
      refl ⊳ refl ⊳ (X.types (type_of int), X.met-int.1.1.1) ⊳ refl ⊳ (X.types (type_of int), X.met-int.1.1) ⊳ (X.types (type_of int), X.met-int.1)
      ⊳ (X.types (type_of int), X.met-int) ⊳ tt ⊳ (small _ _ _ _ _ (X.scheme _) (omega arith), tt) ⊳ (
        mono (arrow_of (free 2) (free 2)),
        X.scheme _,
        (X.types (type_of int), X.met-closed-int)
            ⊳ refl ⊳ (X.types (type_of int), X.met-later.1) ⊳ (X.types (type_of int), X.met-later) ⊳ tt ⊳ (small _ _ _ _ _ (X.later-scheme _) (omega arith), tt) ⊳ (mono (type_of int), X.later-scheme _, refl),
      )) (λ σ m i. with_values (X.turned-out [] σ m i)) (tt, (omega arith, (omega arith, tt))) (omega arith) refl;
  group_refused = group-refused;
  top_refused =
      stays-open top _ _ (refl ⊳ refl ⊳ (X.types (type_of int), X.met-int.1.1.1) ⊳ refl ⊳ (X.types (type_of int), X.met-int.1.1)
      ⊳ (X.types (type_of int), X.met-int.1) ⊳ (X.types (type_of int), X.met-int) ⊳ tt
      ⊳ (small _ _ _ _ _ (X.scheme _) (omega arith), tt) ⊳ (mono (arrow_of (free 2) (free 2)), X.scheme _, (X.types (type_of int), X.met-closed-int) ⊳ refl)) (λ C h. X.open-ended [] (first_type C) (λ σ m. ap first_type (h σ m)));
}
