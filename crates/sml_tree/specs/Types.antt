-- Type expressions without pointers (the Definition, section 2.8). Each form begins with its place.
use Rattle.sml_tree.specs.Trees.{Id}
use Rattle.sml_tree.specs.Names.{Name, LongName}

mutual
  pub data Ty (P : Type 0) : Type 0 where
    ty_variable : P → Id → Ty P
    ty_row : P → TyFields P → Ty P
    -- a row labelled from 1 on
    ty_tuple : P → Tys P → Ty P
    -- a type constructor after its arguments
    ty_constructor : P → Tys P → LongName P → Ty P
    -- a type constructor that is bound after `withtype`, with another number of arguments than it has there
    ty_misapplied : P → Tys P → LongName P → Ty P
    ty_arrow : P → Ty P → Ty P → Ty P
    ty_bracket : P → Ty P → Ty P

  pub data Tys (P : Type 0) : Type 0 where
    no_ty : Tys P
    and_ty : Ty P → Tys P → Tys P

  pub data TyField (P : Type 0) : Type 0 where
    ty_field : Name P → Ty P → TyField P

  pub data TyFields (P : Type 0) : Type 0 where
    no_ty_field : TyFields P
    and_ty_field : TyField P → TyFields P → TyFields P
