-- Structure expressions and the declarations of structures, signatures and functors, without pointers (the
-- Definition, section 3.4). Each form begins with its place, or with a phrase or an identifier that has it.
use Rattle.std.specs.Prelude.{List}
use Rattle.sml_tree.specs.Names.{Name, LongName}
use Rattle.sml_tree.specs.Expressions.{Dec}
use Rattle.sml_tree.specs.Signatures.{SigExp}
use Rattle.sml_tree.specs.declared.structures.Ascription.{Ascription}

mutual
  pub data StrExp (P : Type 0) : Type 0 where
    struct_end : P → StrDecs P → StrExp P
    str_name : LongName P → StrExp P
    ascribed : P → StrExp P → Ascription → SigExp P → StrExp P
    -- a functor and its argument
    functor_apply : Name P → StrExp P → StrExp P
    str_let : P → StrDecs P → StrExp P → StrExp P

  pub data StrDec (P : Type 0) : Type 0 where
    core_dec : Dec P → StrDec P
    structure_dec : P → StrBinds P → StrDec P
    str_local : P → StrDecs P → StrDecs P → StrDec P

  pub data StrDecs (P : Type 0) : Type 0 where
    no_str_dec : StrDecs P
    and_str_dec : StrDec P → StrDecs P → StrDecs P

  pub data StrBind (P : Type 0) : Type 0 where
    str_bind : Name P → StrExp P → StrBind P

  pub data StrBinds (P : Type 0) : Type 0 where
    no_str_bind : StrBinds P
    and_str_bind : StrBind P → StrBinds P → StrBinds P

pub record SigBind (P : Type 0) : Type 0 where
  pub name : Name P
  pub signature : SigExp P

pub record FunBind (P : Type 0) : Type 0 where
  pub name : Name P
  pub argument : Name P
  pub signature : SigExp P
  pub body : StrExp P

pub data TopDec (P : Type 0) : Type 0 where
  top_str : StrDec P → TopDec P
  signature_dec : P → List (SigBind P) → TopDec P
  functor_dec : P → List (FunBind P) → TopDec P
