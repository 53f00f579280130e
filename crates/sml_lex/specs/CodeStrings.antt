-- The item of a string at the front of a text, read byte by byte.
use Rattle.std.specs.Prelude.{◌≡◌, ℕ, List, [], ◌∷◌, ◌++◌, length, ◌&&◌, ◌==◌, nat_lt, if◌then◌else◌, Option, Some, None}
use Rattle.sml_lex.specs.declared.items.Element.{Element}
use Rattle.sml_lex.specs.declared.strings.Extent.{Extent}
use Rattle.sml_lex.specs.Bytes.{is_within, is_white, is_digit, is_hex_digit, all_are}
use Rattle.sml_lex.specs.Numbers.{number}
use Rattle.sml_lex.specs.Strings.{Item, item_text, item_value, is_plain, is_escape_letter, AreItems, quoted, string_value}
use Rattle.sml_lex.specs.Strings.Item.{Plain, Letter, Control, Decimal, Hexadecimal, Gap}

-- the white space before a backslash
abbrev pub white_at : List ℕ → Option (List ℕ)
white_at [] = None
white_at (c ∷ rest) = if is_white c then elim (white_at rest) [ None ↦ None | Some white ↦ Some (c ∷ white) ] else if c == 92 then Some [] else None

abbrev pub gap_at : List ℕ → Option Item
gap_at rest = elim (white_at rest) [ None ↦ None | Some white ↦ Some (Gap white) ]

abbrev pub control_at : List ℕ → Option Item
control_at [] = None
control_at (c ∷ rest) = if is_within 64 95 c then Some (Control c) else None

abbrev pub decimal_at : List ℕ → Option Item
decimal_at [] = None
decimal_at (a ∷ []) = None
decimal_at (a ∷ b ∷ []) = None
decimal_at (a ∷ b ∷ c ∷ rest) = if all_are is_digit (a ∷ b ∷ c ∷ []) && nat_lt (number 10 (a ∷ b ∷ c ∷ [])) 256 then Some (Decimal a b c) else None

abbrev pub hexadecimal_at : List ℕ → Option Item
hexadecimal_at [] = None
hexadecimal_at (a ∷ []) = None
hexadecimal_at (a ∷ b ∷ []) = None
hexadecimal_at (a ∷ b ∷ c ∷ []) = None
hexadecimal_at (a ∷ b ∷ c ∷ d ∷ rest) = if all_are is_hex_digit (a ∷ b ∷ c ∷ d ∷ []) && nat_lt (number 16 (a ∷ b ∷ c ∷ d ∷ [])) 256 then Some (Hexadecimal a b c d) else None

-- after a backslash
abbrev pub escape_at : List ℕ → Option Item
escape_at [] = None
escape_at (c ∷ rest) = if is_escape_letter c then Some (Letter c) else if c == 94 then control_at rest else if c == 117 then hexadecimal_at rest else if is_digit c then decimal_at (c ∷ rest) else if is_white c then gap_at (c ∷ rest) else None

abbrev pub item_at : List ℕ → Option Item
item_at [] = None
item_at (c ∷ rest) = if c == 92 then escape_at rest else if is_plain c then Some (Plain c) else None

abbrev pub first_of : List ℕ → Option ℕ
first_of [] = None
first_of (c ∷ rest) = Some c

-- how many bytes an item has, and what character it stands for
abbrev pub element_of : Item → Element
element_of item = record {
  bytes = length (item_text item);
  value = first_of (item_value item);
}

abbrev pub element : Option Item → Option Element
element None = None
element (Some item) = Some (element_of item)

abbrev pub count_of : Option ℕ → ℕ
count_of None = 0
count_of (Some value) = 1

abbrev pub earlier_of : Option ℕ → Option ℕ → Option ℕ
earlier_of None next = next
earlier_of (Some value) next = Some value

-- The string at the front has so many bytes and characters.
pub record IsQuoted (text : List ℕ) (size : Extent) : Type 0 where
  pub items : List Item
  pub rest : List ℕ
  pub are_items : AreItems items
  pub spelled : text ≡ quoted items ++ rest
  pub bytes : size.bytes ≡ length (quoted items)
  pub characters : size.characters ≡ length (string_value items)
  pub first : size.first ≡ first_of (string_value items)
