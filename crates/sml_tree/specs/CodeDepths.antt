-- How deep variables stand in a type, and how high it is with arguments in their place.
use Rattle.std.specs.Prelude.{ℕ, ◌+◌, ◌-◌, max, nat_eq, List, [], ◌∷◌, if◌then◌else◌}
use Rattle.std.specs.Str.{bytes_eq}
use Rattle.sml_tree.specs.Trees.{Id}
use Rattle.sml_tree.specs.Names.{Name}
use Rattle.sml_tree.specs.Types.{Ty, Tys, TyField, TyFields, ty_variable, ty_row, ty_tuple, ty_constructor, ty_misapplied, ty_arrow, ty_bracket, no_ty, and_ty, ty_field, no_ty_field, and_ty_field}
use Rattle.sml_tree.specs.Height.{counted}
use Rattle.sml_tree.specs.Heights.{ty_height}

-- the level below another
abbrev pub below : ℕ → ℕ
below d = counted (d + 1)

-- how deep a variable stands in a type below so many levels, where it stands deepest; 0 where it stands nowhere
abbrev mutual
  pub depth : {P : Type 0} → ℕ → Id → Ty P → ℕ
  depth d v (ty_variable p u) = if bytes_eq v u then below d else 0
  depth d v (ty_row p fs) = fields_depth (below d) v fs
  depth d v (ty_tuple p ts) = tys_depth (below d) v ts
  depth d v (ty_constructor p ts c) = tys_depth (below d) v ts
  depth d v (ty_misapplied p ts c) = tys_depth (below d) v ts
  depth d v (ty_arrow p t u) = max (depth (below d) v t) (depth (below d) v u)
  depth d v (ty_bracket p t) = depth (below d) v t

  pub tys_depth : {P : Type 0} → ℕ → Id → Tys P → ℕ
  tys_depth d v no_ty = 0
  tys_depth d v (and_ty t ts) = max (depth d v t) (tys_depth d v ts)

  pub field_depth : {P : Type 0} → ℕ → Id → TyField P → ℕ
  field_depth d v (ty_field l t) = depth d v t

  pub fields_depth : {P : Type 0} → ℕ → Id → TyFields P → ℕ
  fields_depth d v no_ty_field = 0
  fields_depth d v (and_ty_field f fs) = max (field_depth d v f) (fields_depth d v fs)

-- depths, without that of a variable
abbrev pub without : Id → (Id → ℕ) → Id → ℕ
without x f = λ v. if bytes_eq v x then 0 else f v

-- the depth of each variable of a list; 0 where one before it has its name
abbrev pub depths : {P : Type 0} → (Id → ℕ) → List (Name P) → List ℕ
depths f [] = []
depths f (x ∷ xs) = f x.id ∷ depths (without x.id f) xs

-- how high something of this height makes what it stands in so deep
abbrev pub reach : ℕ → ℕ → ℕ
reach d h = if nat_eq d 0 then 0 else counted (d - 1 + h)

-- how high arguments make what they stand in so deep
abbrev pub reached : {P : Type 0} → List ℕ → Tys P → ℕ
reached [] ts = 0
reached (d ∷ ds) no_ty = 0
reached (d ∷ ds) (and_ty t ts) = max (reach d (ty_height t)) (reached ds ts)
