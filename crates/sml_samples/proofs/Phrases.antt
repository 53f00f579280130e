-- Samples of phrases.
use Rattle.std.specs.Prelude.{◌≡◌, ◌<◌, ℕ, zero, suc, true, false, List, [], ◌∷◌, codes}
use mathlib.Core.Path.{refl, sym, ◌∙◌}
use mathlib.Core.Logic.{inl, inr}
use Rattle.std.proofs.Common.{arith}
use Rattle.sml_objects.specs.Initial.{Name, made, naming}
use Rattle.sml_objects.specs.Names.{int, word, char, bool, exn, string, real}
use Rattle.sml_objects.specs.Objects.{MlType, app, row, names_type, names_types, no_type, and_type, arrow_of, tuple_of, free, named, mono}
use Rattle.sml_objects.specs.Equality.{admits_by, all_admit_by}
use Rattle.sml_objects.specs.Sizes.{type_size, types_size}
use Rattle.sml_objects.specs.Fates.{close_as}
use Rattle.sml_objects.specs.declared.fates.Fate.TheVariants.{Keep}
use Rattle.sml_objects.specs.Types.{replace_type, replace_types, variables_after, variables_after_all}
use Rattle.sml_layers.specs.declared.layer.Layer.TheVariants.{Equations, Finiteness, Rigidity}
use Rattle.sml_layers.specs.Demands.{equal}
use Rattle.sml_core_rules.specs.Answers as A
use Rattle.sml_core_rules.specs.Closing.{unguarded, ty_variables, tys_variables, is_expansive, is_any_field_expansive, pat_variables, pat_field_variables, exp_variables, exps_variables, rules_variables, field_variables, decs_variables, dec_variables}
use Rattle.sml_core_rules.specs.Datatypes.{read_type_binds, read_all_arguments, read_arguments}
use Rattle.sml_core_rules.specs.Objects.{names_in, names_structures}
use Rattle.sml_core_rules.specs.Lookups.{find_at, type_at, value_at}
use Rattle.sml_core_rules.specs.Patterns.{read_pat, read_pat_fields}
use Rattle.sml_core_rules.specs.Solutions.{Meets, IsScheme, StandsFor, IsOfLeft, AreOfLeft}
use Rattle.sml_core_rules.specs.Types.{read_ty, read_tys}
use Rattle.sml_core_rules.specs.States.{State, Judged, no_window}
use Rattle.sml_core_rules.specs.Values.{has_unknown, have_unknown}
use Rattle.sml_core_rules.specs.Scripts.{IsAnswer, ◌>>=◌}
use Rattle.sml_core_rules.specs.Expressions.{read_dec, read_decs, read_binds, read_patterns, read_rights, read_exp, read_exps, read_fields, read_rules}
use Rattle.sml_samples.proofs.Judged.{scheme-judged, small}
use Rattle.sml_samples.specs.Around.{Place, scope, initial_names, type_of, twice}
use Rattle.sml_samples.specs.Phrases.{PhraseSamples}
use Rattle.sml_samples.proofs.Steps.{◌⊳◌}
use Rattle.sml_samples.proofs.Unmet.{clash}
use Rattle.sml_samples.proofs.Datatypes.{first-datatype, with-equality}
use Rattle.sml_samples.proofs.Known as K

-- `val (x as (_, (3)), true) = ((3, 3), true)`: unknown 0 is the type of x, and 1 that of its first part

abbrev pair : MlType Name → MlType Name → MlType Name
pair t u = tuple_of (and_type t (and_type u no_type))

abbrev of_pair : State Place Name
of_pair = record {
  made = 2;
  names = initial_names;
  demands = equal (pair (free 0) (type_of bool)) (pair (twice (type_of int)) (type_of bool)) ∷ equal (free 0) (pair (free 1) (type_of int)) ∷ [];
  window = no_window;
  is_open = false;
  judged = [];
}

abbrev types : ℕ → MlType Name
types zero = twice (type_of int)
types (suc v) = type_of int

met : Meets scope of_pair Rigidity types
unfolding replace_type replace_types
met = (refl, (refl, tt))

finitely : Meets scope of_pair Finiteness types
unfolding replace_type replace_types
finitely = (refl, (refl, tt))

module _ (τ : ℕ → MlType Name) (m : Meets scope of_pair Finiteness τ) where
  whole : τ 0 ≡ twice (type_of int)
  unfolding replace_type replace_types
  whole = let e : pair (τ 0) (type_of bool) ≡ pair (twice (type_of int)) (type_of bool) = m.0 in cc

  part : τ 1 ≡ type_of int
  unfolding replace_type replace_types
  part = let e : τ 0 ≡ pair (τ 1) (type_of int) = m.1.0 in let f = whole in cc

own-pair-scheme : IsScheme scope of_pair 0 false (free 0) (mono (twice (type_of int)))
unfolding IsScheme StandsFor IsOfLeft AreOfLeft replace_type replace_types close_as variables_after variables_after_all
own-pair-scheme = (twice (type_of int), ((tt, (tt, tt)), λ τ m. sym (whole τ m)), λ _. Keep, tt, refl)

pair-scheme : (js : List (Judged Place)) → IsScheme scope (record of_pair { judged = js }) 0 false (free 0) (mono (twice (type_of int)))
pair-scheme js = scheme-judged _ js _ _ _ _ own-pair-scheme

-- `val D x = D 3`

abbrev box : MlType Name
box = named (made 1 0 0 true)

abbrev of_box : State Place Name
of_box = record {
  made = 1;
  names = made 1 0 0 true ∷ initial_names;
  demands = equal box box ∷ equal (type_of int) (type_of int) ∷ equal (type_of int) (free 0) ∷ [];
  window = no_window;
  is_open = false;
  judged = [];
}

own-box-scheme : IsScheme scope of_box 0 false (free 0) (mono (type_of int))
unfolding replace_type replace_types
own-box-scheme = K.int-scheme of_box (refl, (refl, (refl, tt))) known 0 false (omega arith)
  where
    known : (τ : ℕ → MlType Name) → Meets scope of_box Finiteness τ → (v : ℕ) → v < 1 → τ v ≡ type_of int
    known τ m zero h = sym m.1.1.0
    known τ m (suc v) h = absurd (omega (arith, h))

box-scheme : (js : List (Judged Place)) → IsScheme scope (record of_box { judged = js }) 0 false (free 0) (mono (type_of int))
box-scheme js = scheme-judged _ js _ _ _ _ own-box-scheme

-- `val x = (raise X) handle X => 3 : int`: unknown 1 is the type of what is raised

abbrev handler : MlType Name → MlType Name
handler t = arrow_of (type_of exn) t

abbrev handled : State Place Name
handled = record {
  made = 2;
  names = initial_names;
  demands = equal (free 0) (free 1) ∷ equal (handler (type_of int)) (handler (free 1)) ∷ equal (type_of int) (type_of int) ∷ equal (type_of exn) (type_of exn) ∷ [];
  window = no_window;
  is_open = false;
  judged = [];
}

own-handled-scheme : IsScheme scope handled 0 true (free 0) (mono (type_of int))
unfolding replace_type replace_types
own-handled-scheme = K.int-scheme handled (refl, (refl, (refl, (refl, tt)))) known 0 true (omega arith)
  where
    second : (τ : ℕ → MlType Name) → Meets scope handled Finiteness τ → τ 1 ≡ type_of int
    second τ m = let e : handler (type_of int) ≡ handler (τ 1) = m.1.0 in cc

    known : (τ : ℕ → MlType Name) → Meets scope handled Finiteness τ → (v : ℕ) → v < 2 → τ v ≡ type_of int
    known τ m zero h = m.0 ∙ second τ m
    known τ m (suc zero) h = second τ m
    known τ m (suc (suc v)) h = absurd (omega (arith, h))

pub handled-scheme : (js : List (Judged Place)) → IsScheme scope (record handled { judged = js }) 0 true (free 0) (mono (type_of int))
handled-scheme js = scheme-judged _ js _ _ _ _ own-handled-scheme

-- `val {a = x} = {a = 3}`

abbrev one_field : MlType Name → MlType Name
one_field t = app (row (codes "a" ∷ [])) (and_type t no_type)

abbrev of_row : State Place Name
of_row = record { made = 1; names = initial_names; demands = equal (one_field (free 0)) (one_field (type_of int)) ∷ []; window = no_window; is_open = false; judged = [] }

own-of-row-scheme : IsScheme scope of_row 0 false (free 0) (mono (type_of int))
unfolding replace_type replace_types
own-of-row-scheme = K.int-scheme of_row (refl, tt) known 0 false (omega arith)
  where
    known : (τ : ℕ → MlType Name) → Meets scope of_row Finiteness τ → (v : ℕ) → v < 1 → τ v ≡ type_of int
    known τ m zero h = let e : one_field (τ 0) ≡ one_field (type_of int) = m.0 in cc
    known τ m (suc v) h = absurd (omega (arith, h))

of-row-scheme : (js : List (Judged Place)) → IsScheme scope (record of_row { judged = js }) 0 false (free 0) (mono (type_of int))
of-row-scheme js = scheme-judged _ js _ _ _ _ own-of-row-scheme

-- all unknowns are int
abbrev pub ints : ℕ → MlType Name
ints v = type_of int

pub phrase-samples : PhraseSamples
unfolding IsAnswer ◌>>=◌ A.◌>>=◌ read_dec read_decs read_binds read_patterns read_rights read_exp read_exps read_fields read_rules read_pat read_pat_fields read_ty read_tys find_at type_at value_at type_size types_size replace_type replace_types naming unguarded pat_variables pat_field_variables exp_variables exps_variables rules_variables field_variables decs_variables dec_variables ty_variables tys_variables has_unknown have_unknown is_expansive is_any_field_expansive read_all_arguments read_arguments close_as variables_after variables_after_all names_in names_structures names_type names_types admits_by read_type_binds all_admit_by
phrase-samples = record {
  types_accepted = (_, (omega arith, tt) ⊳ refl);
  arity_refused = refl;
  misapplied_refused = (made 1 0 0 true ∷ [], first-datatype _ _ true, (refl, tt), inl (_, refl, refl));
  variable_refused = refl;
  patterns_accepted = (
    _,
    refl ⊳ refl ⊳ (types, met.1) ⊳ refl ⊳ refl ⊳ (types, met) ⊳ tt ⊳ (small _ _ _ _ _ (pair-scheme _) (omega arith), tt) ⊳ (mono (twice (type_of int)), pair-scheme _, refl),
  );
  row_accepted = (_, refl ⊳ (ints, (refl, tt)) ⊳ tt ⊳ (small _ _ _ _ _ (of-row-scheme _) (omega arith), tt) ⊳ (mono (type_of int), of-row-scheme _, refl));
  repeated_refused = refl ⊳ inr (λ e. cc, refl);
  constructor_accepted = (
    _,
    (
      made 1 0 0 true ∷ [],
      first-datatype _ _ true,
      (refl, tt),
      inr (
        _,
        refl,
        with-equality 0 0 _ refl,
        (omega arith, tt) ⊳ refl ⊳ refl ⊳ refl ⊳ (ints, (refl, tt))
            ⊳ (ints, (refl, (refl, tt))) ⊳ (ints, (refl, (refl, (refl, tt)))) ⊳ tt ⊳ (small _ _ _ _ _ (box-scheme _) (omega arith), tt) ⊳ (mono (type_of int), box-scheme _, refl),
      ),
    ),
  );
  constructor_refused = inr (λ e. cc, refl);
  argument_refused = refl ⊳ inr (λ e. cc, refl);
  no_argument_refused = (
    made 1 0 0 true ∷ [],
    first-datatype _ _ true,
    (refl, tt),
    inr (_, refl, with-equality 0 0 _ refl, (omega arith, tt) ⊳ refl ⊳ inr (λ e. cc, refl)),
  );
  string_accepted = (_, omega arith ⊳ (λ _. type_of string, (refl, tt)) ⊳ (λ _. type_of string, (refl, (refl, tt))) ⊳ tt ⊳ tt ⊳ refl);
  real_accepted = (_, omega arith ⊳ (λ _. type_of real, (refl, tt)) ⊳ (λ _. type_of real, (refl, (refl, tt))) ⊳ tt ⊳ tt ⊳ refl);
  character_refused = omega arith ⊳ inr (Equations, clash char string (λ e. cc) [], refl);
  word_refused = omega arith ⊳ inr (Equations, clash word int (λ e. cc) [], refl);
  handle_accepted = (
    _,
    (omega arith, tt) ⊳ refl ⊳ (ints, (refl, tt)) ⊳ refl ⊳ refl ⊳ omega arith ⊳ (ints, (refl, (refl, tt))) ⊳ (ints, (refl, (refl, (refl, tt))))
        ⊳ (ints, (refl, (refl, (refl, (refl, tt))))) ⊳ tt ⊳ (small _ _ _ _ _ (handled-scheme _) (omega arith), tt) ⊳ (mono (type_of int), handled-scheme _, refl),
  );
  raise_refused = refl ⊳ inr (Equations, clash bool exn (λ e. cc) [], refl);
  typed_refused = refl ⊳ omega arith ⊳ inr (Equations, clash int string (λ e. cc) [], refl);
}
