-- Types with other types for their variables, and closing (the Definition, sections 4.2 and 4.5).
use Rattle.std.specs.Prelude.{ℕ, zero, suc, ◌+◌, Bool, true, false, List, [], ◌∷◌, ◌++◌, length, replicate, cond, nat_eq}
use Rattle.std.specs.List.{list_any}
use Rattle.sml_objects.specs.Objects.{MlType, MlTypes, Scheme, bound, free, app, no_type, and_type}

unfoldable mutual
  -- the type with `b k` for the bound variable k and `f v` for the free variable v
  pub replace_type : {N : Type 0} → (ℕ → MlType N) → (ℕ → MlType N) → MlType N → MlType N
  replace_type b f (bound k) = b k
  replace_type b f (free v) = f v
  replace_type b f (app h ts) = app h (replace_types b f ts)

  pub replace_types : {N : Type 0} → (ℕ → MlType N) → (ℕ → MlType N) → MlTypes N → MlTypes N
  replace_types b f no_type = no_type
  replace_types b f (and_type t ts) = and_type (replace_type b f t) (replace_types b f ts)

-- the k-th of the types, or else this one
abbrev pub argument_or : {N : Type 0} → MlType N → MlTypes N → ℕ → MlType N
argument_or u no_type k = u
argument_or u (and_type t ts) zero = t
argument_or u (and_type t ts) (suc k) = argument_or u ts k

-- what stands for the bound variable k of a type function that is applied to these types
abbrev pub argument : {N : Type 0} → MlTypes N → ℕ → MlType N
argument ts k = argument_or (bound k) ts k

-- what a type function gives for these types
abbrev pub applied : {N : Type 0} → Scheme N → MlTypes N → MlType N
applied θ ts = replace_type (argument ts) free θ.body

-- the type with other types for its free variables
abbrev pub assign : {N : Type 0} → (ℕ → MlType N) → MlType N → MlType N
assign f t = replace_type bound f t

-- the body of a scheme whose bound variables are free ones, numbered from k on
abbrev pub instance_from : {N : Type 0} → ℕ → MlType N → MlType N
instance_from k t = replace_type (λ j. free (k + j)) free t

unfoldable mutual
  -- the free variables in the order of their first appearance, after those seen before
  pub variables_after : {N : Type 0} → List ℕ → MlType N → List ℕ
  variables_after seen (bound k) = seen
  variables_after seen (free v) = cond (list_any (nat_eq v) seen) seen (seen ++ v ∷ [])
  variables_after seen (app h ts) = variables_after_all seen ts

  pub variables_after_all : {N : Type 0} → List ℕ → MlTypes N → List ℕ
  variables_after_all seen no_type = seen
  variables_after_all seen (and_type t ts) = variables_after_all (variables_after seen t) ts

unfoldable pub index_among : ℕ → List ℕ → ℕ
index_among v [] = 0
index_among v (w ∷ ws) = cond (nat_eq v w) 0 (suc (index_among v ws))

-- closing, where no variable is free in the context
unfoldable pub close : {N : Type 0} → MlType N → Scheme N
close t = record {
  variables = replicate (length (variables_after [] t)) false;
  body = assign (λ v. bound (index_among v (variables_after [] t))) t;
}
