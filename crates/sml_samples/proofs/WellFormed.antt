-- Objects of the initial basis are well formed: a checker says so, which is right.
use Rattle.std.specs.Prelude.{◌≡◌, ◌≤◌, ◌&&◌, ℕ, zero, suc, Bool, true, false, List, [], ◌∷◌, map, length, codes}
use Rattle.std.specs.Fmt.{digits}
use Rattle.std.specs.List.{AllByRecursion, range_with_len}
use Rattle.std.specs.List.Sorted.{IsStrictlySortedBy}
use Rattle.std.specs.declared.cmp.Ordering.{Ordering}
use Rattle.std.specs.declared.cmp.Ordering.TheVariants.{Less, Equal, Greater}
use Rattle.std.proofs.Common.{arith}
use Rattle.std.proofs.lemmas.Bool.{and_parts}
use mathlib.Core.Path.{refl, sym, ap, subst}
use mathlib.Core.Logic.{inl, inr}
use mathlib.Core.Bool.{true≢false}
use native.Mathlib.Decide.{ℕ_discrete}
use Rattle.sml_objects.specs.Appearance.{Stands}
use Rattle.sml_objects.specs.Initial.{Name, initial, made, naming, initial_attributes}
use Rattle.sml_objects.specs.Labels.{label_order}
use Rattle.sml_objects.specs.Maps.{Map, join, order_of}
use Rattle.sml_objects.specs.Names.{int, word, char, string, bool, exn, real, list, ref}
use Rattle.sml_objects.specs.Objects.{MlType, MlTypes, Head, Scheme, bound, free, app, arrow, row, name, no_type, and_type, named, Outside, names_type, names_types}
use Rattle.sml_objects.specs.Sizes.{type_size}
use Rattle.sml_objects.specs.Types.{instance_from, variables_after, replace_type}
use Rattle.sml_layers.specs.Demands.{HeadMentions, Mentions, AllMention}
use Rattle.sml_core_rules.specs.Contexts.{IsType, AreTypes, Takes}
use Rattle.sml_core_rules.specs.Initial.{initial_basis, initial_env, initial_types, initial_values, plain, mono, poly, ty, of, a, unit, ◌⊗◌, ◌⟶◌, bool_constructors, list_constructors, ref_constructors}
use Rattle.sml_core_rules.specs.Objects.{Value, Status, variable, constructor, exception, overloaded, names_basis, names_env, names_in, names_structures}
use Rattle.sml_core_rules.specs.Soundness.{IsBody, AreBodies, IsWellFormed, schemes_of}
use Rattle.sml_core_rules.specs.Types.{count_types}
use Rattle.sml_module_rules.specs.Lines.{lines, structure_lines}
use Rattle.sml_core_rules.specs.Functions.{are_parameters}
use Rattle.sml_module_rules.specs.WellFormed.{HoldsOfAll, IsSchemeOver, IsFunctionOver, IsTypeStructureOver, IsValueOver, IsEnvOver, AreEnvsOver, IsSigOver, IsFunSigOver, IsBasis, Gives, AgreesWith}
use Rattle.sml_samples.specs.Around.{initial_names}
use Rattle.sml_samples.specs.WellFormed.{WellFormedSamples, type_and_value, signature, functor}
use Rattle.sml_samples.proofs.Names.{initial-stands, are_initial}

-- truth values, numbers and lists

abbrev same_number : ℕ → ℕ → Bool
same_number a b = elim (ℕ_discrete a b) [ yes _ ↦ true | no _ ↦ false ]

same-number : (a b : ℕ) → same_number a b ≡ true → a ≡ b
same-number a b h = go (ℕ_discrete a b) h
  where
    go : (d : Dec (a ≡ b)) → ◌≡◌ {A = Bool} (elim d [ yes _ ↦ true | no _ ↦ false ]) true → a ≡ b
    go (yes e) k = e
    go (no n) k = absurd (true≢false (sym k))

abbrev same_numbers : List ℕ → List ℕ → Bool
same_numbers [] [] = true
same_numbers (a ∷ ks) (b ∷ js) = same_number a b && same_numbers ks js
same_numbers ks js = false

same-numbers : (ks js : List ℕ) → same_numbers ks js ≡ true → ks ≡ js
same-numbers [] [] h = refl
same-numbers [] (b ∷ js) h = absurd (true≢false (sym h))
same-numbers (a ∷ ks) [] h = absurd (true≢false (sym h))
same-numbers (a ∷ ks) (b ∷ js) h =
    let p = and_parts (same_number a b) (same_numbers ks js) h in let e = same-number a b p.0 in let r = same-numbers ks js p.1 in λ i. e i ∷ r i

abbrev at_most : ℕ → ℕ → Bool
at_most zero b = true
at_most (suc a) zero = false
at_most (suc a) (suc b) = at_most a b

at-most : (a b : ℕ) → at_most a b ≡ true → a ≤ b
at-most zero b h = omega (arith)
at-most (suc a) zero h = absurd (true≢false (sym h))
at-most (suc a) (suc b) h = let r = at-most a b h in omega (arith, r)

abbrev is_less : Ordering → Bool
is_less Less = true
is_less Equal = false
is_less Greater = false

is-less : (o : Ordering) → is_less o ≡ true → o ≡ Less
is-less Less h = refl
is-less Equal h = absurd (true≢false (sym h))
is-less Greater h = absurd (true≢false (sym h))

module _ {K : Type 0} (c : K → K → Ordering) where
  abbrev below_all : K → List K → Bool
  below_all k [] = true
  below_all k (x ∷ xs) = is_less (c k x) && below_all k xs

  below-all : (k : K) (xs : List K) → below_all k xs ≡ true → AllByRecursion (λ y. c k y ≡ Less) xs
  below-all k [] h = tt
  below-all k (x ∷ xs) h = let p = and_parts (is_less (c k x)) (below_all k xs) h in (is-less (c k x) p.0, below-all k xs p.1)

  abbrev sorted : List K → Bool
  sorted [] = true
  sorted (x ∷ xs) = below_all x xs && sorted xs

  are-sorted : (xs : List K) → sorted xs ≡ true → IsStrictlySortedBy c xs
  unfolding IsStrictlySortedBy
  are-sorted [] h = tt
  are-sorted (x ∷ xs) h = let p = and_parts (below_all x xs) (sorted xs) h in (below-all x xs p.0, are-sorted xs p.1)

-- types over the initial names

abbrev takes : Head Name → ℕ → Bool
takes arrow k = same_number k 2
takes (row ls) k = same_number k (length ls) && sorted label_order ls
takes (name (initial j)) k = same_number k (initial_attributes j).arity
takes (name (made u n a q)) k = false

abbrev mutual
  type_ok : MlType Name → Bool
  type_ok (bound k) = false
  type_ok (free v) = true
  type_ok (app h ts) = takes h (count_types ts) && types_ok ts

  types_ok : MlTypes Name → Bool
  types_ok no_type = true
  types_ok (and_type t ts) = type_ok t && types_ok ts

takes-ok : (h : Head Name) (k : ℕ) → takes h k ≡ true → Takes naming h k
unfolding naming
takes-ok arrow k h = same-number k 2 h
takes-ok (row ls) k h = let p = and_parts (same_number k (length ls)) (sorted label_order ls) h in (same-number k (length ls) p.0, are-sorted label_order ls p.1)
takes-ok (name (initial j)) k h = same-number k (initial_attributes j).arity h
takes-ok (name (made u n a q)) k h = absurd (true≢false (sym h))

mutual
  unfolding IsType AreTypes

  type-ok : (t : MlType Name) → type_ok t ≡ true → IsType naming t
  type-ok (bound k) h = absurd (true≢false (sym h))
  type-ok (free v) h = tt
  type-ok (app g ts) h = let p = and_parts (takes g (count_types ts)) (types_ok ts) h in (takes-ok g (count_types ts) p.0, types-ok ts p.1)

  types-ok : (ts : MlTypes Name) → types_ok ts ≡ true → AreTypes naming ts
  types-ok no_type h = tt
  types-ok (and_type t ts) h = let p = and_parts (type_ok t) (types_ok ts) h in (type-ok t p.0, types-ok ts p.1)

head-mentions : (h : Head Name) (k : ℕ) → takes h k ≡ true → HeadMentions (λ n. Stands n initial_names) h
head-mentions arrow k e = tt
head-mentions (row ls) k e = tt
head-mentions (name (initial j)) k e = initial-stands j
head-mentions (name (made u n a q)) k e = absurd (true≢false (sym e))

mutual
  unfolding Mentions

  mentions-ok : (t : MlType Name) → type_ok t ≡ true → Mentions (λ n. Stands n initial_names) t
  mentions-ok (bound k) h = tt
  mentions-ok (free v) h = tt
  mentions-ok (app g ts) h = let p = and_parts (takes g (count_types ts)) (types_ok ts) h in (head-mentions g (count_types ts) p.0, all-mention-ok ts p.1)

  all-mention-ok : (ts : MlTypes Name) → types_ok ts ≡ true → AllMention (λ n. Stands n initial_names) ts
  all-mention-ok no_type h = tt
  all-mention-ok (and_type t ts) h = let p = and_parts (type_ok t) (types_ok ts) h in (mentions-ok t p.0, all-mention-ok ts p.1)

-- schemes and values over the initial names

abbrev scheme_ok : Scheme Name → Bool
scheme_ok σ =
    (same_numbers (variables_after [] σ.body) [] && same_numbers (variables_after [] (instance_from 0 σ.body)) (range_with_len 0 (length σ.variables)))
    && (type_ok (instance_from 0 σ.body) && at_most (type_size σ.body) 10000)

scheme-ok : (σ : Scheme Name) → scheme_ok σ ≡ true → IsSchemeOver naming initial_names σ
scheme-ok σ h =
    let halves =
    and_parts (same_numbers (variables_after [] σ.body) [] && same_numbers (variables_after [] (instance_from 0 σ.body)) (range_with_len 0 (length σ.variables)))
    (type_ok (instance_from 0 σ.body) && at_most (type_size σ.body) 10000) h in
    let p = and_parts (same_numbers (variables_after [] σ.body) []) (same_numbers (variables_after [] (instance_from 0 σ.body)) (range_with_len 0 (length σ.variables))) halves.0 in
    let q = and_parts (type_ok (instance_from 0 σ.body)) (at_most (type_size σ.body) 10000) halves.1 in
    record {
      closed = same-numbers (variables_after [] σ.body) [] p.0;
      numbered = same-numbers (variables_after [] (instance_from 0 σ.body)) (range_with_len 0 (length σ.variables)) p.1;
      is_type = (type-ok (instance_from 0 σ.body) q.0, mentions-ok (instance_from 0 σ.body) q.0);
      is_small = at-most (type_size σ.body) 10000 q.1;
    }

-- where a type function mentions each of its parameters, in order
function-ok : (θ : Scheme Name) → scheme_ok θ ≡ true → IsFunctionOver naming initial_names θ
function-ok θ h =
    let s = scheme-ok θ h in
    record { closed = s.closed; own = λ k a. subst (λ ks. Stands k ks) s.numbered a; is_type = s.is_type; is_small = s.is_small }

abbrev no_variables : List Bool → Bool
no_variables [] = true
no_variables (b ∷ bs) = false

no-variables : (bs : List Bool) → no_variables bs ≡ true → bs ≡ []
no-variables [] h = refl
no-variables (b ∷ bs) h = absurd (true≢false (sym h))

abbrev one_variable : List Bool → Bool
one_variable (false ∷ bs) = no_variables bs
one_variable bs = false

one-variable : (bs : List Bool) → one_variable bs ≡ true → bs ≡ false ∷ []
one-variable [] h = absurd (true≢false (sym h))
one-variable (true ∷ bs) h = absurd (true≢false (sym h))
one-variable (false ∷ bs) h = ap (λ bs. false ∷ bs) (no-variables bs h)

abbrev status_ok : Status → Scheme Name → Bool
status_ok variable σ = true
status_ok (constructor k n) σ = at_most (suc k) n
status_ok exception σ = no_variables σ.variables
status_ok (overloaded c) σ = one_variable σ.variables

status-ok : (s : Status) (σ : Scheme Name) → status_ok s σ ≡ true → AgreesWith naming s σ
status-ok variable σ h = tt
status-ok (constructor k n) σ h = at-most (suc k) n h
status-ok exception σ h = no-variables σ.variables h
status-ok (overloaded c) σ h = one-variable σ.variables h

abbrev value_ok : Value Name → Bool
value_ok v = scheme_ok v.scheme && status_ok v.status v.scheme

value-ok : (v : Value Name) → value_ok v ≡ true → IsValueOver naming initial_names v
value-ok v h = let p = and_parts (scheme_ok v.scheme) (status_ok v.status v.scheme) h in record { scheme = scheme-ok v.scheme p.0; status = status-ok v.status v.scheme p.1 }

abbrev values_ok : Map (Value Name) → Bool
values_ok [] = true
values_ok (e ∷ es) = value_ok e.1 && values_ok es

values-ok : (m : Map (Value Name)) → values_ok m ≡ true → HoldsOfAll (IsValueOver naming initial_names) m
values-ok [] h = tt
values-ok (e ∷ es) h = let p = and_parts (value_ok e.1) (values_ok es) h in (value-ok e.1 p.0, values-ok es p.1)

-- the initial basis

plain-ok : (θ : Scheme Name) → scheme_ok θ ≡ true → IsTypeStructureOver naming initial_names (plain θ)
plain-ok θ h = record { function = function-ok θ h; is_map = are-sorted order_of [] refl; schemes = tt; datatype = inl refl }

initial-types : HoldsOfAll (IsTypeStructureOver naming initial_names) (join [] initial_types)
unfolding variables_after replace_type type_size naming ℕ_discrete digits Outside are_parameters
initial-types = (
  record {
    function = function-ok (mono (ty bool)) refl;
    is_map = are-sorted order_of (map (λ c. c.0) bool_constructors) refl;
    schemes = (scheme-ok (mono (ty bool)) refl, (scheme-ok (mono (ty bool)) refl, tt));
    datatype = inr (initial bool, refl, (gives-constant, (gives-constant, tt)));
  },
  (
    plain-ok (mono (ty char)) refl,
    (
      plain-ok (mono (ty exn)) refl,
      (
        plain-ok (mono (ty int)) refl,
        (
          record {
            function = function-ok (poly (of list a)) refl;
            is_map = are-sorted order_of (map (λ c. c.0) list_constructors) refl;
            schemes = (scheme-ok (poly (a ⊗ of list a ⟶ of list a)) refl, (scheme-ok (poly (of list a)) refl, tt));
            datatype = inr (initial list, refl, (gives-argument, (gives-empty, tt)));
          },
          (
            plain-ok (mono (ty real)) refl,
            (
              record {
                function = function-ok (poly (of ref a)) refl;
                is_map = are-sorted order_of (map (λ c. c.0) ref_constructors) refl;
                schemes = (scheme-ok (poly (a ⟶ of ref a)) refl, tt);
                datatype = inr (initial ref, refl, (gives-reference, tt));
              },
              (plain-ok (mono (ty string)) refl, (plain-ok (mono unit) refl, (plain-ok (mono (ty word)) refl, tt))),
            ),
          ),
        ),
      ),
    ),
  ),
)
  where
    gives-constant : Gives naming (initial bool) (mono (ty bool))
    gives-constant = ([], tt, refl, inl refl)

    gives-empty : Gives naming (initial list) (poly (of list a))
    gives-empty = (0 ∷ [], (tt, tt), refl, inl refl)

    gives-argument : Gives naming (initial list) (poly (a ⊗ of list a ⟶ of list a))
    gives-argument = (0 ∷ [], (tt, tt), refl, inr (instance_from 0 (a ⊗ of list a), refl))

    gives-reference : Gives naming (initial ref) (poly (a ⟶ of ref a))
    gives-reference = (0 ∷ [], (tt, tt), refl, inr (free 0, refl))

initial-env : IsEnvOver naming initial_names initial_env
unfolding IsEnvOver AreEnvsOver initial_env variables_after replace_type type_size naming ℕ_discrete digits
initial-env = (
  are-sorted order_of [] refl,
  tt,
  are-sorted order_of (map (λ e. e.0) (join [] initial_types)) refl,
  initial-types,
  are-sorted order_of (map (λ e. e.0) (join [] initial_values)) refl,
  values-ok (join [] initial_values) refl,
)

all-initial : (ns : List Name) → are_initial ns ≡ true → (n : Name) → Stands n ns → Stands n initial_names
unfolding Stands
all-initial [] e n h = absurd h
all-initial (initial k ∷ ns) e n (inl h) = subst (λ m. Stands m initial_names) (sym h) (initial-stands k)
all-initial (initial k ∷ ns) e n (inr h) = all-initial ns e n h
all-initial (made u k a q ∷ ns) e n h = absurd cc

only-initial : are_initial (names_basis initial_basis) ≡ true
unfolding initial_env names_in names_structures names_type names_types
only-initial = refl

initial-basis : IsBasis naming initial_basis
initial-basis = record {
  body = initial-env;
  signature_map = are-sorted order_of [] refl;
  signatures = tt;
  functor_map = are-sorted order_of [] refl;
  functors = tt;
  listed = all-initial (names_basis initial_basis) only-initial;
}

-- bodies of its schemes and type functions

abbrev mutual
  body_ok : ℕ → MlType Name → Bool
  body_ok k (bound j) = at_most (suc j) k
  body_ok k (free v) = false
  body_ok k (app h ts) = takes h (count_types ts) && bodies_ok k ts

  bodies_ok : ℕ → MlTypes Name → Bool
  bodies_ok k no_type = true
  bodies_ok k (and_type t ts) = body_ok k t && bodies_ok k ts

mutual
  unfolding IsBody AreBodies

  body-ok : (k : ℕ) (t : MlType Name) → body_ok k t ≡ true → IsBody naming k t
  body-ok k (bound j) h = at-most (suc j) k h
  body-ok k (free v) h = absurd (true≢false (sym h))
  body-ok k (app g ts) h = let p = and_parts (takes g (count_types ts)) (bodies_ok k ts) h in (takes-ok g (count_types ts) p.0, bodies-ok k ts p.1)

  bodies-ok : (k : ℕ) (ts : MlTypes Name) → bodies_ok k ts ≡ true → AreBodies naming k ts
  bodies-ok k no_type h = tt
  bodies-ok k (and_type t ts) h = let p = and_parts (body_ok k t) (bodies_ok k ts) h in (body-ok k t p.0, bodies-ok k ts p.1)

abbrev schemes_ok : List (Scheme Name) → Bool
schemes_ok [] = true
schemes_ok (θ ∷ θs) = body_ok (length θ.variables) θ.body && schemes_ok θs

schemes-ok : (θs : List (Scheme Name)) → schemes_ok θs ≡ true → (θ : Scheme Name) → Stands θ θs → IsBody naming (length θ.variables) θ.body
unfolding Stands
schemes-ok [] h θ s = absurd s
schemes-ok (θ ∷ θs) h σ (inl e) =
    subst (λ σ. IsBody naming (length σ.variables) σ.body) (sym e) (body-ok (length θ.variables) θ.body (and_parts (body_ok (length θ.variables) θ.body) (schemes_ok θs) h).0)
schemes-ok (θ ∷ θs) h σ (inr s) = schemes-ok θs (and_parts (body_ok (length θ.variables) θ.body) (schemes_ok θs) h).1 σ s

made-is-not-initial : (u k a : ℕ) (q : Bool) (ns : List Name) → are_initial ns ≡ true → ¬ (Stands (made u k a q) ns)
unfolding Stands
made-is-not-initial u k a q [] e h = h
made-is-not-initial u k a q (initial j ∷ ns) e (inl h) = absurd cc
made-is-not-initial u k a q (initial j ∷ ns) e (inr h) = made-is-not-initial u k a q ns e h
made-is-not-initial u k a q (made v l b r ∷ ns) e h = absurd cc

only-initial-body : are_initial (names_env initial_env) ≡ true
unfolding initial_env names_in names_structures names_type names_types
only-initial-body = refl

initial-schemes : schemes_ok (schemes_of initial_env) ≡ true
unfolding initial_env names_in names_structures ℕ_discrete digits naming
initial-schemes = refl

initial-core : IsWellFormed initial_basis
unfolding naming
initial-core = record {
  bodies = schemes-ok (schemes_of initial_env) initial-schemes;
  names = all-initial (names_env initial_env) only-initial-body;
  initials = initial-stands;
  others = λ x. made-is-not-initial 0 x.number 0 x.equality initial_names refl;
}

-- a signature and a functor

made-scheme : (k : ℕ) (T : List Name) → Stands (made 1 k 0 false) T → IsSchemeOver naming T (mono (named (made 1 k 0 false)))
unfolding variables_after replace_type type_size naming IsType Mentions
made-scheme k T h = record { closed = refl; numbered = refl; is_type = ((refl, tt), (h, tt)); is_small = omega (arith) }

made-env : (k : ℕ) (T : List Name) → Stands (made 1 k 0 false) T → IsEnvOver naming T (type_and_value (made 1 k 0 false))
unfolding IsEnvOver AreEnvsOver variables_after replace_type type_size naming IsType Mentions
made-env k T h =
    let σ = made-scheme k T h in (
      are-sorted order_of [] refl,
      tt,
      are-sorted order_of (codes "t" ∷ []) refl,
      (
        record {
          function = record { closed = σ.closed; own = λ j s. s; is_type = σ.is_type; is_small = σ.is_small };
          is_map = are-sorted order_of [] refl;
          schemes = tt;
          datatype = inl refl;
        },
        tt,
      ),
      are-sorted order_of (codes "x" ∷ []) refl,
      (record { scheme = σ; status = tt }, tt),
    )

signature-ok : IsSigOver naming initial_names signature
unfolding Outside lines structure_lines Stands are_parameters
signature-ok = record { distinct = (tt, tt); stand = (inl refl, tt); body = made-env 0 (made 1 0 0 false ∷ initial_names) (inl refl) }

functor-ok : IsFunSigOver naming initial_names functor
unfolding Outside Stands
functor-ok = record {
  argument = signature-ok;
  distinct = (((λ e. cc), tt), (tt, tt));
  result = made-env 1 (made 1 1 0 false ∷ made 1 0 0 false ∷ initial_names) (inl refl);
}

pub well-formed-samples : WellFormedSamples
unfolding Outside lines structure_lines IsEnvOver Mentions variables_after replace_type
well-formed-samples = record {
  initial_is = initial-basis;
  initial_has_no_variables = initial-core;
  signature_is = signature-ok;
  functor_is = functor-ok;
  rebinding_is_not = λ h. h.distinct.0.0 refl;
  nothing_is_not = λ h. h.stand.0;
  leaking_is_not = λ h. made-is-not-initial 1 0 0 false initial_names refl h.body.3.0.function.is_type.1.0;
  too_much_is_not = λ h. let e = h.numbered in absurd cc;
  too_little_is_not = λ h. let e = h.numbered in absurd cc;
  third_is_not = λ h. let e = h.status in omega (arith, e);
}
