-- The bare trees of a unit (the Definition, sections 2.8 and 3.4), without pointers. A tree has its places at the
-- phrases that a fault can name; `P` is their type.
use Rattle.std.specs.Prelude.{ℕ, List}

-- An identifier is its bytes.
abbrev pub Id : Type 0
Id = List ℕ

pub record LongId : Type 0 where
  pub path : List Id
  pub last : Id

mutual
  pub data Exp (P : Type 0) : Type 0 where
    number : Exp P
    name : P → LongId → Exp P
    tuple : Exps P → Exp P
    bracket : Exp P → Exp P
    function : Id → Exp P → Exp P

  pub data Exps (P : Type 0) : Type 0 where
    no_exp : Exps P
    and_exp : Exp P → Exps P → Exps P

mutual
  pub data Ty (P : Type 0) : Type 0 where
    constructor : P → LongId → Ty P
    product : Tys P → Ty P
    arrow_to : Ty P → Ty P → Ty P
    bracket_ty : Ty P → Ty P

  pub data Tys (P : Type 0) : Type 0 where
    no_ty : Tys P
    and_ty : Ty P → Tys P → Tys P

pub data Spec (P : Type 0) : Type 0 where
  type_spec : P → Id → Spec P
  val_spec : P → Id → Ty P → Spec P

pub data CoreDec (P : Type 0) : Type 0 where
  val_dec : P → Id → Exp P → CoreDec P
  type_dec : P → Id → Ty P → CoreDec P

-- a top-level declaration
pub data Dec (P : Type 0) : Type 0 where
  core : CoreDec P → Dec P
  -- `structure S = struct decs end :> sig specs end`, with the place of the signature expression
  sealed : Id → P → List (Spec P) → List (CoreDec P) → Dec P
  -- a declaration outside the piece of the language whose trees are made so far
  other : P → Dec P
