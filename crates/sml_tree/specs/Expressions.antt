-- Expressions, matches and declarations of the core without pointers (the Definition, section 2.8). Each form begins
-- with its place.
use Rattle.std.specs.Prelude.{List, Option}
use Rattle.sml_tree.specs.Names.{Name, LongName}
use Rattle.sml_tree.specs.Types.{Ty}
use Rattle.sml_tree.specs.Patterns.{Constant, Pat}

-- type variables, a type constructor and its right side
pub record TypBind (P : Type 0) : Type 0 where
  pub variables : List (Name P)
  pub name : Name P
  pub ty : Ty P

-- a constructor or an exception, and the type of its argument
pub record ConBind (P : Type 0) : Type 0 where
  pub name : Name P
  pub argument : Option (Ty P)

pub record DatBind (P : Type 0) : Type 0 where
  pub variables : List (Name P)
  pub name : Name P
  pub constructors : List (ConBind P)

pub data ExnBind (P : Type 0) : Type 0 where
  new_exception : ConBind P → ExnBind P
  exception_copy : Name P → LongName P → ExnBind P

mutual
  pub data Exp (P : Type 0) : Type 0 where
    constant : P → Constant → Exp P
    name : P → LongName P → Exp P
    row : P → Fields P → Exp P
    -- a row labelled from 1 on
    tuple : P → Exps P → Exp P
    let_in : P → Decs P → Exp P → Exp P
    bracket : P → Exp P → Exp P
    apply : P → Exp P → Exp P → Exp P
    typed : P → Exp P → Ty P → Exp P
    handle : P → Exp P → Rules P → Exp P
    raise : P → Exp P → Exp P
    fn : P → Rules P → Exp P

  pub data Exps (P : Type 0) : Type 0 where
    no_exp : Exps P
    and_exp : Exp P → Exps P → Exps P

  pub data Field (P : Type 0) : Type 0 where
    field : Name P → Exp P → Field P

  pub data Fields (P : Type 0) : Type 0 where
    no_field : Fields P
    and_field : Field P → Fields P → Fields P

  pub data Rule (P : Type 0) : Type 0 where
    rule : P → Pat P → Exp P → Rule P

  pub data Rules (P : Type 0) : Type 0 where
    no_rule : Rules P
    and_rule : Rule P → Rules P → Rules P

  pub data Dec (P : Type 0) : Type 0 where
    -- the explicit type variables, the bindings before the first `rec`, and those after it
    val_dec : P → List (Name P) → ValBinds P → ValBinds P → Dec P
    type_dec : P → List (TypBind P) → Dec P
    datatype_dec : P → List (DatBind P) → Dec P
    -- `datatype .. withtype ..`
    datatype_with : P → List (DatBind P) → List (TypBind P) → Dec P
    datatype_copy : P → Name P → LongName P → Dec P
    exception_dec : P → List (ExnBind P) → Dec P
    local_dec : P → Decs P → Decs P → Dec P
    -- declarations one after the other
    sequence_dec : P → Decs P → Dec P
    open_dec : P → List (LongName P) → Dec P
    -- a directive of fixity, which binds nothing
    fixity_dec : P → Dec P

  pub data Decs (P : Type 0) : Type 0 where
    no_dec : Decs P
    and_dec : Dec P → Decs P → Decs P

  pub data ValBind (P : Type 0) : Type 0 where
    bind : Pat P → Exp P → ValBind P

  pub data ValBinds (P : Type 0) : Type 0 where
    no_bind : ValBinds P
    and_bind : ValBind P → ValBinds P → ValBinds P
