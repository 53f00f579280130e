-- Signature expressions and specifications without pointers (the Definition, section 3.4). Each form begins with its
-- place.
use Rattle.std.specs.Prelude.{List}
use Rattle.sml_tree.specs.Trees.{Id}
use Rattle.sml_tree.specs.Names.{Name, LongName}
use Rattle.sml_tree.specs.Types.{Ty}
use Rattle.sml_tree.specs.Expressions.{ConBind, DatBind}

-- what stands after `where type`
pub record WhereType (P : Type 0) : Type 0 where
  pub variables : List (Name P)
  pub constructor : LongName P
  pub ty : Ty P

pub record ValDesc (P : Type 0) : Type 0 where
  pub name : Name P
  pub ty : Ty P

pub record TypDesc (P : Type 0) : Type 0 where
  pub variables : List (Name P)
  pub name : Name P

mutual
  pub data SigExp (P : Type 0) : Type 0 where
    sig_end : P → Specs P → SigExp P
    sig_name : P → Id → SigExp P
    where_type : P → SigExp P → WhereType P → SigExp P

  pub data Spec (P : Type 0) : Type 0 where
    val_spec : P → List (ValDesc P) → Spec P
    type_spec : P → List (TypDesc P) → Spec P
    eqtype_spec : P → List (TypDesc P) → Spec P
    datatype_spec : P → List (DatBind P) → Spec P
    copy_spec : P → Name P → LongName P → Spec P
    exception_spec : P → List (ConBind P) → Spec P
    structure_spec : P → StrDescs P → Spec P
    include_spec : P → SigExp P → Spec P
    sharing_types : P → List (LongName P) → Spec P
    sharing_structures : P → List (LongName P) → Spec P

  pub data Specs (P : Type 0) : Type 0 where
    no_spec : Specs P
    and_spec : Spec P → Specs P → Specs P

  pub data StrDesc (P : Type 0) : Type 0 where
    str_desc : Name P → SigExp P → StrDesc P

  pub data StrDescs (P : Type 0) : Type 0 where
    no_str_desc : StrDescs P
    and_str_desc : StrDesc P → StrDescs P → StrDescs P
