-- Special constants and patterns without pointers (the Definition, sections 2.2 and 2.8). Each form begins with its
-- place.
use Rattle.std.specs.Prelude.{ℕ, List, Bool, Option}
use Rattle.sml_tree.specs.Names.{Name, LongName}
use Rattle.sml_tree.specs.Types.{Ty}
use Rattle.sml_tree.specs.declared.patterns.ConstantKind.{ConstantKind}

-- a special constant: its kind, and the bytes that write it
pub record Constant : Type 0 where
  pub kind : ConstantKind
  pub literal : List ℕ

mutual
  pub data Pat (P : Type 0) : Type 0 where
    wildcard : P → Pat P
    pat_constant : P → Constant → Pat P
    pat_name : P → LongName P → Pat P
    -- a row, and whether it ends in `...`
    pat_row : P → PatFields P → Bool → Pat P
    -- a row labelled from 1 on
    pat_tuple : P → Pats P → Pat P
    pat_bracket : P → Pat P → Pat P
    -- a constructor before its argument
    pat_apply : P → LongName P → Pat P → Pat P
    pat_typed : P → Pat P → Ty P → Pat P
    pat_as : P → Name P → Option (Ty P) → Pat P → Pat P

  pub data Pats (P : Type 0) : Type 0 where
    no_pat : Pats P
    and_pat : Pat P → Pats P → Pats P

  pub data PatField (P : Type 0) : Type 0 where
    pat_field : Name P → Pat P → PatField P

  pub data PatFields (P : Type 0) : Type 0 where
    no_pat_field : PatFields P
    and_pat_field : PatField P → PatFields P → PatFields P
