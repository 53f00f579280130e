-- What matching sees of a pattern: which constructors, values and labels stand where.
use Rattle.std.specs.Prelude.{ℕ, ℤ, List, Bool, false, if◌then◌else◌, nat_eq}
use Rattle.std.specs.Ordering.{int_eq}
use Rattle.std.specs.Str.{bytes_eq}
use Rattle.sml_tree.specs.Trees.{Id}

-- what a constant or an exception constructor stands for
pub data Value : Type 0 where
  Integer : ℤ → Value
  Word : ℕ → Value
  Character : ℕ → Value
  Text : List ℕ → Value
  Exception : Id → Value

mutual
  -- a variable or a wildcard; one of the constructors of a datatype, by its place among so many, before its argument; a
  -- row; a value before its argument. Where there is no argument a wildcard stands for it.
  pub data Plain : Type 0 where
    Wild : Plain
    Made : (number count : ℕ) → Plain → Plain
    Fields : Row → Plain
    Valued : Value → Plain → Plain

  pub data Row : Type 0 where
    Empty : Row
    Labelled : Id → Plain → Row → Row

-- whether two values are one
abbrev pub value_eq : Value → Value → Bool
value_eq (Integer m) (Integer n) = int_eq m n
value_eq (Word m) (Word n) = nat_eq m n
value_eq (Character m) (Character n) = nat_eq m n
value_eq (Text s) (Text t) = bytes_eq s t
value_eq (Exception s) (Exception t) = bytes_eq s t
value_eq _ _ = false

-- the pattern at a label; a wildcard where none is written
abbrev pub field : Id → Row → Plain
field l Empty = Wild
field l (Labelled k p fs) = if bytes_eq l k then p else field l fs

abbrev pub IsWild : Plain → Type 0
IsWild Wild = Unit {0}
IsWild _ = ⊥
