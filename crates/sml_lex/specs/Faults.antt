-- Faults without pointers.
use Rattle.std.specs.Prelude.{ℕ, List, Option, Some, None}
use Rattle.sml_lex.specs.declared.fault.Code.{Code}
use Rattle.sml_lex.specs.declared.fault.Place.{Place}
use Rattle.sml_lex.specs.declared.fault.Fault as P

-- A code, a place and perhaps a detail; `P` is the type of places.
pub record Fault (P : Type 0) : Type 0 where
  pub code : Code
  pub place : P
  pub detail : Option (List ℕ)

-- the place of a declaration's first token, from which its other places count
abbrev pub first_place : Place
first_place = record { line = 1; column = 1 }

abbrev pub fault_of : P.Fault → Fault Place
fault_of f = record {
  code = f.code;
  place = f.place;
  detail = elim f.detail [ Some bytes ↦ Some bytes.items | None ↦ None ];
}
