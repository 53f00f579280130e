-- Samples of datatypes.
use Rattle.std.specs.Prelude.{◌≡◌, ◌++◌, ℕ, Bool, true, false, List, [], ◌∷◌, Some, codes}
use mathlib.Core.Path.{refl, ap, ◌∙◌, sym}
use mathlib.Core.Logic.{inl, inr}
use Rattle.std.proofs.Common.{arith}
use Rattle.sml_tree.specs.Trees.{Id}
use Rattle.sml_tree.specs.Expressions.{ConBind}
use Rattle.sml_objects.specs.Appearance.{Stands}
use Rattle.sml_objects.specs.Equality.{is_ref, admits_by, all_admit_by, has_equality}
use Rattle.sml_objects.specs.Initial.{Name, initial, made, naming}
use Rattle.sml_objects.specs.Names.{real}
use Rattle.sml_objects.specs.Objects.{Outside, names_type, names_types}
use Rattle.sml_objects.specs.Sizes.{type_size, types_size}
use Rattle.sml_objects.specs.Fates.{close_as}
use Rattle.sml_objects.specs.Types.{replace_type, replace_types, variables_after, variables_after_all, index_among}
use Rattle.sml_core_rules.specs.Answers as A
use Rattle.sml_core_rules.specs.Datatypes.{AreNew, AdmitAsManyAsCan, Arguments, Respects, arguments_admit, read_all_arguments, read_arguments, read_type_binds}
use Rattle.sml_core_rules.specs.Lookups.{find_at, type_at}
use Rattle.sml_core_rules.specs.Objects.{names_in, names_structures, names_env}
use Rattle.sml_core_rules.specs.Scripts.{IsAnswer, ◌>>=◌}
use Rattle.sml_core_rules.specs.Expressions.{read_dec}
use Rattle.sml_core_rules.specs.Types.{read_ty, read_tys}
use Rattle.sml_samples.specs.Around.{Place, initial_names, type_of, around}
use Rattle.sml_samples.specs.Core.{DatatypeSamples, datatype_binding, parametric_binding}
use Rattle.sml_samples.proofs.Steps.{◌⊳◌}
use Rattle.sml_samples.proofs.Names.{made-outside, stands-alone}

-- a datatype admits equality where the arguments of its constructors do
pub with-equality : (k a : ℕ) (cs : Arguments Name) → arguments_admit (is_ref naming) (has_equality naming) cs ≡ true → AdmitAsManyAsCan naming ((made 1 k a true, cs) ∷ [])
unfolding AdmitAsManyAsCan naming
with-equality k a cs d = ((λ e. d, tt), λ eq f r n s e. ap (has_equality naming) (stands-alone n (made 1 k a true) s))

-- one of real numbers doesn't
abbrev of_reals : Arguments Name
of_reals = (codes "D", Some (type_of real)) ∷ []

without-equality : AdmitAsManyAsCan naming ((made 1 0 0 false, of_reals) ∷ [])
unfolding AdmitAsManyAsCan naming admits_by all_admit_by
without-equality = ((λ e. absurd cc, tt), none)
  where
    none : (eq : Name → Bool) → ((n : Name) → ¬ (Stands n (made 1 0 0 false ∷ [])) → eq n ≡ has_equality naming n)
        → Respects (is_ref naming) eq ((made 1 0 0 false, of_reals) ∷ []) → (n : Name) → Stands n (made 1 0 0 false ∷ []) → eq n ≡ true → has_equality naming n ≡ true
    none eq f r n s e =
        let same = stands-alone n (made 1 0 0 false) s in
        let h : eq (initial real) ≡ false = f (initial real) (λ s. let e = stands-alone (initial real) (made 1 0 0 false) s in cc) in
        let a = rw h at r.0 (ap eq (sym same) ∙ e) in absurd cc

-- names of datatypes, each where it is none of those before
pub new-datatype : (k : ℕ) (q : Bool) (old : List Name) (p : Place) (x : Id) (c : ConBind Place) → Outside (made 1 k 0 q) old
    → AreNew naming old (datatype_binding p x c ∷ []) (made 1 k 0 q ∷ [])
unfolding AreNew naming
new-datatype k q old p x c o = (made 1 k 0 q, [], o, λ j e. cc, refl, refl, refl, refl)

pub first-datatype : (p : Place) (c : ConBind Place) (q : Bool) → AreNew naming (names_env around ++ initial_names) (datatype_binding p (codes "d") c ∷ []) (made 1 0 0 q ∷ [])
unfolding names_in names_structures names_type names_types
first-datatype p c q = new-datatype 0 q _ p (codes "d") c (made-outside 1 0 0 q (names_env around ++ initial_names) refl)

parametric : (x y : Id) → AreNew naming (names_env around ++ initial_names) (parametric_binding x y ∷ []) (made 1 0 1 true ∷ [])
unfolding AreNew naming names_in names_structures names_type names_types
parametric x y = (made 1 0 1 true, [], made-outside 1 0 1 true (names_env around ++ initial_names) refl, λ j e. cc, refl, refl, refl, refl)

pub datatype-samples : DatatypeSamples
unfolding IsAnswer ◌>>=◌ A.◌>>=◌ read_dec read_type_binds read_all_arguments read_arguments read_ty read_tys find_at type_at naming type_size types_size replace_type replace_types close_as variables_after variables_after_all index_among admits_by all_admit_by
datatype-samples = record {
  datatype_accepted = (_, (made 1 0 0 true ∷ [], first-datatype _ _ true, (refl, tt), inr (_, refl, with-equality 0 0 _ refl, (omega arith, tt) ⊳ refl)));
  recursive_datatype_accepted = (_, (made 1 0 0 true ∷ [], first-datatype _ _ true, (refl, tt), inr (_, refl, with-equality 0 0 _ refl, (omega arith, tt) ⊳ refl)));
  real_datatype_accepted = (_, (made 1 0 0 false ∷ [], first-datatype _ _ false, (refl, tt), inr (_, refl, without-equality, (omega arith, tt) ⊳ refl)));
  datatype_refused = (made 1 0 0 true ∷ [], first-datatype _ _ true, (refl, tt), inl (_, refl, refl));
  parametric_accepted = (_, (made 1 0 1 true ∷ [], parametric _ _, (refl, tt), inr (_, refl, with-equality 0 1 _ refl, (omega arith, tt) ⊳ refl)));
  equality_accepted = (_, (made 1 0 1 true ∷ [], parametric _ _, (refl, tt), inr (_, refl, with-equality 0 1 _ refl, (omega arith, tt) ⊳ refl)));
  parametric_refused = (made 1 0 1 true ∷ [], parametric _ _, (refl, tt), inl (_, refl, refl));
  withtype_accepted = (_, (made 1 0 0 true ∷ [], first-datatype _ _ true, (refl, tt), inr (_, refl, with-equality 0 0 _ refl, (omega arith, tt) ⊳ (omega arith, tt) ⊳ refl)));
  withtype_refused = (made 1 0 0 true ∷ [], first-datatype _ _ true, (refl, tt), inl (_, refl, refl));
}
