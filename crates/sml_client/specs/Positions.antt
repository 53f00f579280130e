-- Lines of a text, and where its bytes lie on them as the client counts.
use Rattle.std.specs.Prelude.{◌≡◌, ◌+◌, ◌-◌, ◌<◌, ◌≤◌, ◌==◌, ◌||◌, ◌&&◌, ◌++◌, ◌∷◌, ℕ, zero, suc, min, Bool, true, false, not, cond, leb, ltb, List, [], Option, codes, decimal, drop, take, length, slice_index, slice_get, slice_range, sum_by, take_while, unwrap_or}
use Rattle.sml_reply.specs.Sinks.{in_turn}
use Rattle.sml_client.specs.declared.positions.Encoding.{Encoding}
use Rattle.sml_client.specs.declared.positions.Encoding.TheVariants.{Utf8, Utf16}
use Rattle.sml_client.specs.declared.positions.Position.{Position}
use Rattle.sml_client.specs.declared.positions.Range.{Range}

-- a byte that goes on a character which began before it
abbrev pub goes_on : ℕ → Bool
goes_on b = leb 128 b && ltb b 192

-- how many units a byte adds to the characters before it
abbrev pub width : Encoding → ℕ → ℕ
width Utf8 b = 1
width Utf16 b = cond (goes_on b) 0 (cond (leb 240 b) 2 1)

-- how many units bytes have
abbrev pub units : Encoding → List ℕ → ℕ
units e bytes = sum_by (width e) bytes

-- a newline or a carriage return
abbrev pub is_end : ℕ → Bool
is_end b = b == 10 || b == 13

-- a line of the file ends after this byte, a newline
abbrev pub ends_in_file : List ℕ → ℕ → Bool
ends_in_file text i = slice_index text i == 10

-- a line of the client ends after this byte, a newline or a carriage return that no newline follows
abbrev pub ends_for_client : List ℕ → ℕ → Bool
ends_for_client text i = slice_index text i == 10 || (slice_index text i == 13 && not (slice_index text (i + 1) == 10))

-- where lines begin up to a byte, but for the first line: after each byte that ends one
abbrev pub line_starts : (ℕ → Bool) → ℕ → List ℕ
line_starts ends zero = []
line_starts ends (suc n) = cond (ends n) (line_starts ends n ++ ((n + 1) ∷ [])) (line_starts ends n)

-- where the line begins on which a byte lies
abbrev pub line_begin : (ℕ → Bool) → ℕ → ℕ
line_begin ends zero = 0
line_begin ends (suc n) = cond (ends n) (n + 1) (line_begin ends n)

-- where the line of this number begins, counted from 0, in a text of this length
abbrev pub begin_of : (ℕ → Bool) → ℕ → ℕ → Option ℕ
begin_of ends size n = slice_get (0 ∷ line_starts ends size) n

-- The byte on a line and in a column of the file, both counted from 1. What lies past the text is the text's end.
abbrev pub byte_of : List ℕ → ℕ → ℕ → ℕ
byte_of text line column = min (unwrap_or (begin_of (ends_in_file text) (length text) (line - 1)) (length text) + (column - 1)) (length text)

-- The position of a byte for the client: how many lines begin up to it after the first one, and the units on its line before it.
abbrev pub place : Encoding → List ℕ → ℕ → Position
place e text at = record {
  line = length (line_starts (ends_for_client text) at);
  character = units e (slice_range text (line_begin (ends_for_client text) at) at);
}

-- from one byte up to another one
abbrev pub span : Encoding → List ℕ → ℕ → ℕ → Range
span e text from to = record { start = place e text from; end = place e text to }

-- the line ends at this byte of it, or a character begins there that has so many units before it
abbrev pub is_stop : Encoding → List ℕ → ℕ → ℕ → Bool
is_stop e line most k = is_end (slice_index line k) || (ltb 0 (width e (slice_index line k)) && leb most (units e (take k line)))

-- the first such byte of what stands from a line's beginning on, or the end of that
pub record IsReached (e : Encoding) (line : List ℕ) (most n : ℕ) : Type 0 where
  pub within : n ≤ length line
  pub stops : n < length line → is_stop e line most n ≡ true
  pub first : (k : ℕ) → k < n → is_stop e line most k ≡ false

-- the byte after the character at this byte, on the same line
abbrev pub byte_after : List ℕ → ℕ → ℕ
byte_after text at = cond (ltb at (length text) && not (is_end (slice_index text at))) (at + 1 + length (take_while goes_on (drop (at + 1) text))) at

-- a position, as JSON
abbrev pub position_json : Position → List ℕ
position_json p = in_turn (codes "{\"line\":" ∷ decimal p.line ∷ codes ",\"character\":" ∷ decimal p.character ∷ codes "}" ∷ [])

-- a range after a name, as a member of an object of JSON
abbrev pub range_json : List ℕ → Range → List ℕ
range_json name r = in_turn (codes "\"" ∷ name ∷ codes "\":{\"start\":" ∷ position_json r.start ∷ codes ",\"end\":" ∷ position_json r.end ∷ codes "}" ∷ [])
