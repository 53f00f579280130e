-- Flexible rows.
use Rattle.std.specs.Prelude.{◌≡◌, ℕ, zero, suc, false, List, [], ◌∷◌, codes, Some}
use Rattle.std.specs.List.Sorted.{IsStrictlySortedBy}
use mathlib.Core.Path.{refl, sym, subst, ◌∙◌}
use Rattle.sml_tree.specs.Trees.{Id}
use Rattle.sml_objects.specs.Fates.{close_as}
use Rattle.sml_objects.specs.declared.fates.Fate.TheVariants.{Keep}
use Rattle.sml_objects.specs.Initial.{Name}
use Rattle.sml_objects.specs.Labels.{with_labels}
use Rattle.sml_objects.specs.Maps.{lookup}
use Rattle.sml_objects.specs.Names.{int}
use Rattle.sml_objects.specs.Objects.{MlType, app, row, free, no_type, and_type, arrow_of, mono, types_of}
use Rattle.sml_objects.specs.Types.{replace_type, replace_types, variables_after, variables_after_all}
use Rattle.sml_layers.specs.Demands.{equal, has_fields, asks, within, Mentions}
use Rattle.sml_layers.specs.declared.layer.Bound.TheVariants.{Newness}
use Rattle.sml_layers.specs.declared.layer.Layer.TheVariants.{Finiteness, Rigidity}
use Rattle.sml_layers.specs.Rows.{HasFields}
use Rattle.sml_layers.specs.Worlds.{finite}
use Rattle.sml_core_rules.specs.Solutions.{Meets, HasOneSetOfLabels, IsScheme, StandsFor, IsOfLeft, AreOfLeft}
use Rattle.sml_core_rules.specs.States.{State, Judged, words, no_window}
use Rattle.sml_samples.proofs.Judged.{scheme-judged}
use Rattle.sml_samples.specs.Around.{Place, scope, initial_names, type_of}
use Rattle.sml_samples.proofs.Names.{initial-within}

-- `{a : int}` and `{a : int, b : int}`

abbrev both_labels : List Id
both_labels = codes "a" ∷ codes "b" ∷ []

abbrev pub one_field : MlType Name
one_field = app (row (codes "a" ∷ [])) (and_type (type_of int) no_type)

abbrev pub two_fields : MlType Name
two_fields = app (row both_labels) (and_type (type_of int) (and_type (type_of int) no_type))

one-has : HasFields Name finite one_field ((codes "a", type_of int) ∷ [])
unfolding IsStrictlySortedBy
one-has = record { labels = codes "a" ∷ []; types = type_of int ∷ []; rising = (tt, tt); count = refl; is_row = refl; fields = (refl, tt) }

two-have : HasFields Name finite two_fields ((codes "a", type_of int) ∷ [])
unfolding IsStrictlySortedBy
two-have = record {
  labels = both_labels;
  types = type_of int ∷ type_of int ∷ [];
  rising = ((refl, tt), (tt, tt));
  count = refl;
  is_row = refl;
  fields = (refl, tt);
}

-- the first of two fields
first-field : (t u : MlType Name) → t ≡ two_fields → HasFields Name finite t ((codes "a", u) ∷ []) → u ≡ type_of int
first-field t u e h = by-labels h.labels h.types (sym e ∙ h.is_row) h.fields.0
  where
    of-both : (ts : List (MlType Name)) → and_type (type_of int) (and_type (type_of int) no_type) ≡ types_of ts → lookup (codes "a") (with_labels both_labels ts) ≡ Some u
        → u ≡ type_of int
    of-both [] e f = let d : and_type (type_of int) (and_type (type_of int) no_type) ≡ no_type = e in absurd cc
    of-both (t ∷ ts) e f = let d : and_type (type_of int) (and_type (type_of int) no_type) ≡ and_type t (types_of ts) = e in let g : Some t ≡ Some u = f in cc

    by-labels : (ls : List Id) (ts : List (MlType Name)) → two_fields ≡ app (row ls) (types_of ts) → lookup (codes "a") (with_labels ls ts) ≡ Some u → u ≡ type_of int
    by-labels ls ts e f =
        let p : ls ≡ both_labels = cc in
        let q : and_type (type_of int) (and_type (type_of int) no_type) ≡ types_of ts = cc in
        of-both ts q (subst (λ ls. lookup (codes "a") (with_labels ls ts) ≡ Some u) p f)

-- `val {a, ...} = {a = 3, b = 3}`: unknown 0 is the type of a, and 1 that of the row

abbrev pub types : ℕ → MlType Name
types zero = type_of int
types (suc v) = two_fields

abbrev pub after : State Place Name
after = record { made = 2; names = initial_names; demands = equal (free 1) two_fields ∷ has_fields (free 1) ((codes "a", free 0) ∷ []) ∷ []; window = no_window; is_open = false; judged = [] }

pub met : Meets scope after Rigidity types
unfolding replace_type replace_types
met = (refl, (two-have, tt))

finitely : Meets scope after Finiteness types
unfolding replace_type replace_types
finitely = (refl, (two-have, tt))

field : (τ : ℕ → MlType Name) → Meets scope after Finiteness τ → τ 0 ≡ type_of int
unfolding replace_type replace_types
field τ m = first-field (τ 1) (τ 0) m.0 m.1.0

pub one-set : (js : List (Judged Place)) → HasOneSetOfLabels scope (record after { judged = js }) Rigidity (free 1)
unfolding HasOneSetOfLabels replace_type replace_types
one-set js = (both_labels, λ σ m. (type_of int ∷ type_of int ∷ [], m.0))

own-scheme : IsScheme scope after 0 false (free 0) (mono (type_of int))
unfolding IsScheme StandsFor IsOfLeft AreOfLeft replace_type replace_types close_as variables_after variables_after_all
own-scheme = (type_of int, (tt, λ σ m. sym (field σ m)), λ _. Keep, tt, refl)

pub scheme : (js : List (Judged Place)) → IsScheme scope (record after { judged = js }) 0 false (free 0) (mono (type_of int))
scheme js = scheme-judged _ js _ _ _ _ own-scheme

-- `val rec f = fn {a, ...} => a`: unknown 0 is the type of f, 1 that of a, and 2 that of the row

abbrev pub open_types : MlType Name → ℕ → MlType Name
open_types r zero = arrow_of r (type_of int)
open_types r (suc zero) = type_of int
open_types r (suc (suc v)) = r

abbrev pub open_after : State Place Name
open_after = record {
  made = 3;
  names = initial_names;
  demands = equal (free 0) (arrow_of (free 2) (free 1)) ∷ asks (within Newness initial_names) (free 1) ∷ has_fields (free 2) ((codes "a", free 1) ∷ [])
      ∷ asks (within Newness initial_names) (free 0) ∷ [];
  window = no_window;
  is_open = false;
  judged = [];
}

met-open : (r : MlType Name) → HasFields Name finite r ((codes "a", type_of int) ∷ []) → Mentions ((words scope).Allows initial_names) r
    → Meets scope open_after Rigidity (open_types r)
unfolding replace_type replace_types Mentions
met-open r h w = (refl, (λ _. initial-within int, (h, (λ _. (tt, (w, (initial-within int, tt))), tt))))

pub met-open-one : Meets scope open_after Rigidity (open_types one_field)
unfolding Mentions
met-open-one = met-open one_field one-has (tt, (initial-within int, tt))

met-open-two : Meets scope open_after Rigidity (open_types two_fields)
unfolding Mentions
met-open-two = met-open two_fields two-have (tt, (initial-within int, (initial-within int, tt)))

pub several-sets : (js : List (Judged Place)) → ¬ (HasOneSetOfLabels scope (record open_after { judged = js }) Rigidity (free 2))
unfolding HasOneSetOfLabels replace_type replace_types
several-sets js o =
    let a = o.1 (open_types one_field) met-open-one in
    let b = o.1 (open_types two_fields) met-open-two in
    let e : one_field ≡ app (row o.0) (types_of a.0) = a.1 in
    let d : two_fields ≡ app (row o.0) (types_of b.0) = b.1 in cc
