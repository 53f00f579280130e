-- Contexts of two layers and local variables, as more is bound.
use Rattle.std.proofs.Common.{◌≡◌, ℕ, Some, refl, ap, sym, ◌∙◌}
use Rattle.sml_tree.specs.Trees.{Id}
use Rattle.sml_tree.specs.Views.{ident_of}
use Rattle.sml_objects.specs.Maps.{lookup, put, order_of}
use Rattle.sml_objects.specs.Objects.{Env, Scheme, env, free, mono, structures, types, values, find_structure, one_value, one_type, empty_env, extend_env}
use Rattle.sml_objects.specs.Initial.{Name}
use Rattle.sml_objects.specs.Views.{scheme_of}
use Rattle.sml_piece.specs.Elaborated.{Shows, Numbers, no_local, or_else, local_scheme, component_of}
use Rattle.sml_piece.specs.declared.expressions.Component.{Component}
use Rattle.sml_piece.specs.declared.expressions.Component.TheVariants.{Value, «Type»}
use Rattle.sml_objects.proofs.Puts.{at, lookup-put, at-through}

pub shows_same : (f g : Numbers) (outer inner C : Env Name) → ((x : Id) → g x ≡ f x) → Shows f outer inner C → Shows g outer inner C
shows_same f g outer inner C h s = record {
  structures_are = s.structures_are;
  types_are = s.types_are;
  values_are = λ x. s.values_are x ∙ ap (λ o. or_else (local_scheme o) (or_else (lookup x (values inner)) (lookup x (values outer)))) (sym (h x));
}

-- an outer environment alone
pub shows_outer : (outer : Env Name) → Shows no_local outer empty_env outer
shows_outer outer = record { structures_are = λ x. refl; types_are = λ x. refl; values_are = λ x. refl }

pub value-values : (C : Env Name) (x : Id) (σ : Scheme Name) → values (extend_env C (one_value x σ)) ≡ put x σ (values C)
value-values (env ss ts vs) x σ = refl

pub value-types : (C : Env Name) (x : Id) (σ : Scheme Name) → types (extend_env C (one_value x σ)) ≡ types C
value-types (env ss ts vs) x σ = refl

value-structures : (C : Env Name) (x : Id) (σ : Scheme Name) → structures (extend_env C (one_value x σ)) ≡ structures C
value-structures (env ss ts vs) x σ = refl

pub type-values : (C : Env Name) (x : Id) (σ : Scheme Name) → values (extend_env C (one_type x σ)) ≡ values C
type-values (env ss ts vs) x σ = refl

pub type-types : (C : Env Name) (x : Id) (σ : Scheme Name) → types (extend_env C (one_type x σ)) ≡ put x σ (types C)
type-types (env ss ts vs) x σ = refl

type-structures : (C : Env Name) (x : Id) (σ : Scheme Name) → structures (extend_env C (one_type x σ)) ≡ structures C
type-structures (env ss ts vs) x σ = refl

-- one local variable more
pub shows_local : (f g : Numbers) (outer inner C : Env Name) (x : Id) (k : ℕ) → ((y : Id) → g y ≡ at (order_of y x) (Some k) (f y))
    → Shows f outer inner C → Shows g outer inner (extend_env C (one_value x (mono (free k))))
shows_local f g outer inner C x k h s = record {
  structures_are = λ y. ap (find_structure y) (value-structures C x (mono (free k))) ∙ s.structures_are y;
  types_are = λ y. ap (lookup y) (value-types C x (mono (free k))) ∙ s.types_are y;
  values_are = λ y.
      let rest = or_else (lookup y (values inner)) (lookup y (values outer)) in
      ap (lookup y) (value-values C x (mono (free k))) ∙ lookup-put y x (mono (free k)) (values C)
      ∙ ap (at (order_of y x) (Some (mono (free k)))) (s.values_are y)
      ∙ sym (ap (λ o. or_else (local_scheme o) rest) (h y) ∙ at-through (λ o. or_else (local_scheme o) rest) (order_of y x) (Some k) (f y));
}

shows_value : (outer inner C : Env Name) (x : Id) (σ : Scheme Name) → Shows no_local outer inner C
    → Shows no_local outer (extend_env inner (one_value x σ)) (extend_env C (one_value x σ))
shows_value outer inner C x σ s = record {
  structures_are = λ y. ap (find_structure y) (value-structures C x σ) ∙ s.structures_are y ∙ ap (λ m. or_else (find_structure y m) (find_structure y (structures outer))) (sym (value-structures inner x σ));
  types_are = λ y. ap (lookup y) (value-types C x σ) ∙ s.types_are y ∙ ap (λ m. or_else (lookup y m) (lookup y (types outer))) (sym (value-types inner x σ));
  values_are = λ y.
      let rest = lookup y (values outer) in
      ap (lookup y) (value-values C x σ) ∙ lookup-put y x σ (values C) ∙ ap (at (order_of y x) (Some σ)) (s.values_are y)
      ∙ sym (ap (λ m. or_else (lookup y m) rest) (value-values inner x σ) ∙ ap (λ o. or_else o rest) (lookup-put y x σ (values inner))
      ∙ at-through (λ o. or_else o rest) (order_of y x) (Some σ) (lookup y (values inner)));
}

shows_type : (outer inner C : Env Name) (x : Id) (σ : Scheme Name) → Shows no_local outer inner C
    → Shows no_local outer (extend_env inner (one_type x σ)) (extend_env C (one_type x σ))
shows_type outer inner C x σ s = record {
  structures_are = λ y. ap (find_structure y) (type-structures C x σ) ∙ s.structures_are y ∙ ap (λ m. or_else (find_structure y m) (find_structure y (structures outer))) (sym (type-structures inner x σ));
  types_are = λ y.
      let rest = lookup y (types outer) in
      ap (lookup y) (type-types C x σ) ∙ lookup-put y x σ (types C) ∙ ap (at (order_of y x) (Some σ)) (s.types_are y)
      ∙ sym (ap (λ m. or_else (lookup y m) rest) (type-types inner x σ) ∙ ap (λ o. or_else o rest) (lookup-put y x σ (types inner))
      ∙ at-through (λ o. or_else o rest) (order_of y x) (Some σ) (lookup y (types inner)));
  values_are = λ y. ap (lookup y) (type-values C x σ) ∙ s.values_are y ∙ ap (λ m. or_else (lookup y m) (lookup y (values outer))) (sym (type-values inner x σ));
}

-- one component more, in the inner environment
pub shows_component : (outer inner C : Env Name) (c : Component) → Shows no_local outer inner C
    → Shows no_local outer (extend_env inner (component_of c)) (extend_env C (component_of c))
shows_component outer inner C (Value x σ) s = shows_value outer inner C (ident_of x) (scheme_of σ.value) s
shows_component outer inner C («Type» x σ) s = shows_type outer inner C (ident_of x) (scheme_of σ.value) s
