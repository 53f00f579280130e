-- Identifiers where they stand. `P` is the type of places.
use Rattle.sml_tree.specs.Trees.{Id, LongId}

pub record Name (P : Type 0) : Type 0 where
  pub place : P
  pub id : Id

pub record LongName (P : Type 0) : Type 0 where
  pub place : P
  pub id : LongId
