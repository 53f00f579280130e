-- Places of bytes, counted from another byte of the unit.
use Rattle.std.specs.Prelude.{◌≡◌, ℕ, ◌+◌, ◌-◌, ◌^◌, ◌≤◌, ◌==◌, not, min, List, slice_get, slice_range, unwrap_or}
use Rattle.std.specs.Option.{option_map}
use Rattle.std.specs.List.{count_by, suffix_len}
use Rattle.sml_lex.specs.declared.fault.Place.{Place}
use Rattle.sml_lex.specs.declared.token.Token.{Token}
use Rattle.sml_reach.specs.declared.place.Walk.{Walk}

-- The place after these bytes, the first of which stands at 1.1: lines end at byte 10, and columns count bytes.
abbrev pub place_after : List ℕ → Place
place_after bytes = record {
  line = min (count_by (λ b. b == 10) bytes + 1) (2 ^ 32 - 1);
  column = min (suffix_len (λ b. not (b == 10)) bytes + 1) (2 ^ 32 - 1);
}

-- the place of the byte `at`, counted from the byte `start`
abbrev pub place_from : List ℕ → ℕ → ℕ → Place
place_from unit start at = place_after (slice_range unit start at)

-- the first byte of the token at this index, or the other byte where there is none
abbrev pub start_of : List Token → ℕ → ℕ → ℕ
start_of tokens index other = unwrap_or (option_map (λ token. token.span.start) (slice_get tokens index)) other

-- the walk knows the place where it stands
pub record IsOnWay (unit : List ℕ) (walk : Walk) : Type 0 where
  pub ahead : walk.start ≤ walk.at
  pub placed : walk.place ≡ place_from unit walk.start walk.at
