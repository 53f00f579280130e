-- The variables of schemes in the order of their first appearance.
use Rattle.std.specs.Prelude.{◌≡◌, ℕ, Bool, false, cond, nat_eq, slice_index_or, List, [], ◌∷◌, ◌++◌, map}
use Rattle.std.specs.List.{list_any}
use Rattle.sml_objects.specs.Maps.{Map}
use Rattle.sml_objects.specs.Objects as O
use Rattle.sml_objects.specs.Types.{replace_type}
use Rattle.sml_type_maps.specs.Mapped.{bound_at, mapped}

unfoldable mutual
  -- the bound variables in the order of their first appearance, after those seen before
  pub bound_after : {N : Type 0} → List ℕ → O.MlType N → List ℕ
  bound_after seen (O.bound k) = cond (list_any (nat_eq k) seen) seen (seen ++ k ∷ [])
  bound_after seen (O.free v) = seen
  bound_after seen (O.app h ts) = all_bound_after seen ts

  pub all_bound_after : {N : Type 0} → List ℕ → O.MlTypes N → List ℕ
  all_bound_after seen O.no_type = seen
  all_bound_after seen (O.and_type t ts) = all_bound_after (bound_after seen t) ts

-- A type over variables with these equality attributes as the scheme of those that stand in it, numbered by first appearance.
abbrev pub ordered : {N : Type 0} → List Bool → O.MlType N → O.Scheme N
ordered qs t = record {
  variables = map (λ k. slice_index_or qs k false) (bound_after [] t);
  body = replace_type (bound_at (bound_after [] t)) O.free t;
}

-- the variables of a scheme are numbered by first appearance, and all stand in it
abbrev pub IsOrdered : {N : Type 0} → O.Scheme N → Type 0
IsOrdered σ = ordered σ.variables σ.body ≡ σ

-- what a scheme becomes: a type function in the place of a name may change the order of variables, and drop some
abbrev pub scheme_by : {N : Type 0} → (ℕ → O.MlType N) → (ℕ → O.MlType N) → (N → O.MlTypes N → O.MlType N) → O.Scheme N → O.Scheme N
scheme_by b f n σ = ordered σ.variables (mapped b f n σ.body)

abbrev pub AreOrdered : {N : Type 0} → Map (O.Scheme N) → Type 0
AreOrdered [] = Unit {0}
AreOrdered (e ∷ es) = IsOrdered e.1 × AreOrdered es

-- what the schemes of a map become
abbrev pub schemes_by : {N : Type 0} → (ℕ → O.MlType N) → (ℕ → O.MlType N) → (N → O.MlTypes N → O.MlType N) → Map (O.Scheme N) → Map (O.Scheme N)
schemes_by b f n es = map (λ e. (e.0, scheme_by b f n e.1)) es
