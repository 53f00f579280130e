-- Type expressions (the Definition, section 4.10, rules 44 to 49).
use Rattle.std.specs.Prelude.{nat_eq, ℕ, suc, List, [], ◌∷◌, map, Option, Some, None, length}
use Rattle.sml_lex.specs.declared.fault.Code.TheVariants.{E2, E4, E8}
use Rattle.sml_tree.specs.Trees.{Id}
use Rattle.sml_tree.specs.Types.{Ty, Tys, TyFields, ty_variable, ty_row, ty_tuple, ty_constructor, ty_misapplied, ty_arrow, ty_bracket, no_ty, and_ty, ty_field, no_ty_field, and_ty_field}
use Rattle.sml_objects.specs.Labels.{label_order}
use Rattle.sml_objects.specs.Maps.{Map, lookup, by_order}
use Rattle.sml_objects.specs.Objects.{MlType, MlTypes, app, row, no_type, and_type, arrow_of, tuple_of, types_of}
use Rattle.sml_objects.specs.Types.{applied}
use Rattle.sml_rules.specs.Answers.{Answer, refused, fault}
use Rattle.sml_core_rules.specs.Answers.{give, ◌>>=◌, check, need}
use Rattle.sml_core_rules.specs.Objects.{Env}
use Rattle.sml_core_rules.specs.Lookups.{type_at}

-- The fields of a row, each after its label; the labels rise. A label that stands already gets the later type.
abbrev pub Fields : Type 0 → Type 0
Fields X = List (Id × X)

abbrev pub put_field : {X : Type 0} → Id → X → Fields X → Fields X
put_field l x [] = (l, x) ∷ []
put_field l x (e ∷ es) = by_order (label_order l e.0) ((l, x) ∷ e ∷ es) ((l, x) ∷ es) (e ∷ put_field l x es)

abbrev pub row_of : {N : Type 0} → Fields (MlType N) → MlType N
row_of fs = app (row (map (λ f. f.0) fs)) (types_of (map (λ f. f.1) fs))

abbrev pub count_types : {N : Type 0} → MlTypes N → ℕ
count_types no_type = 0
count_types (and_type t ts) = suc (count_types ts)

-- the first token of a type expression
abbrev pub type_place : {P : Type 0} → Ty P → P
type_place (ty_variable p x) = p
type_place (ty_row p fs) = p
type_place (ty_tuple p ts) = p
type_place (ty_constructor p ts c) = p
type_place (ty_misapplied p ts c) = p
type_place (ty_arrow p t u) = p
type_place (ty_bracket p t) = p

-- the type that a variable stands for, where one of its name is in scope
abbrev pub variable_type : {P N : Type 0} → P → Option (MlType N) → Answer P (MlType N)
variable_type p (Some t) = give t
variable_type p None = refused (fault E8 p)

-- The types in `vs` stand for the type variables that are in scope. Arguments come before the type constructor.
module _ {P N : Type 0} (C : Env N) (vs : Map (MlType N)) where
  unfoldable mutual
    pub read_ty : Ty P → Answer P (MlType N)
    read_ty (ty_variable p x) = variable_type p (lookup x vs)
    read_ty (ty_row p fs) = do
      r ← read_fields [] fs
      give (row_of r)
    read_ty (ty_tuple p us) = do
      ts ← read_tys us
      give (tuple_of ts)
    read_ty (ty_constructor p us c) = do
      ts ← read_tys us
      t ← need E2 c.place c.id (type_at C c.id)
      u ← check (nat_eq (length t.function.variables) (count_types ts)) (fault E4 c.place)
      give (applied t.function ts)
    read_ty (ty_misapplied p us c) = do
      ts ← read_tys us
      refused (fault E4 c.place)
    read_ty (ty_arrow p u v) = do
      a ← read_ty u
      b ← read_ty v
      give (arrow_of a b)
    read_ty (ty_bracket p u) = read_ty u

    pub read_tys : Tys P → Answer P (MlTypes N)
    read_tys no_ty = give no_type
    read_tys (and_ty u us) = do
      t ← read_ty u
      ts ← read_tys us
      give (and_type t ts)

    -- fields; fs has the fields before these
    pub read_fields : Fields (MlType N) → TyFields P → Answer P (Fields (MlType N))
    read_fields fs no_ty_field = give fs
    read_fields fs (and_ty_field (ty_field l u) us) = do
      t ← read_ty u
      read_fields (put_field l.id t fs) us
