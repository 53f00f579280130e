-- Strings and characters.
-- (The Definition of Standard ML (Revised), section 2.2.)
use Rattle.std.specs.Prelude.{◌≡◌, ℕ, ◌+◌, ◌-◌, ◌<◌, ◌⊎◌, List, [], ◌∷◌, ◌++◌, length, drop, flat_map, Bool, true, false, not, ◌&&◌, ◌||◌, ◌==◌, if◌then◌else◌}
use Rattle.sml_lex.specs.declared.fault.Code.TheVariants.{L2, L3, L4}
use Rattle.sml_lex.specs.declared.token.Stop.{Stop}
use Rattle.sml_lex.specs.Bytes.{newline, small_u, quote, hash, backslash, caret, is_within, is_white, is_digit, is_hex_digit, starts_with, starts_with_both, all_are, is_run}
use Rattle.sml_lex.specs.Numbers.{number}

-- what stands in a string: a byte for itself, an escape by a letter, by a control character, by decimal or hexadecimal
-- digits, and a gap
pub data Item : Type 0 where
  Plain : ℕ → Item
  Letter : ℕ → Item
  Control : ℕ → Item
  Decimal : ℕ → ℕ → ℕ → Item
  Hexadecimal : ℕ → ℕ → ℕ → ℕ → Item
  Gap : List ℕ → Item

abbrev pub item_text : Item → List ℕ
item_text (Plain c) = c ∷ []
item_text (Letter c) = backslash ∷ c ∷ []
item_text (Control c) = backslash ∷ caret ∷ c ∷ []
item_text (Decimal a b c) = backslash ∷ a ∷ b ∷ c ∷ []
item_text (Hexadecimal a b c d) = backslash ∷ small_u ∷ a ∷ b ∷ c ∷ d ∷ []
item_text (Gap white) = backslash ∷ (white ++ backslash ∷ [])

-- bytes 32 to 126 other than the quote and the backslash
abbrev pub is_plain : ℕ → Bool
is_plain c = is_within 32 126 c && not ((c == quote) || (c == backslash))

-- a b t n v f r, the quote and the backslash
abbrev pub is_escape_letter : ℕ → Bool
is_escape_letter c = (c == 97) || ((c == 98) || ((c == 116) || ((c == 110) || ((c == 118) || ((c == 102) || ((c == 114) || ((c == quote) || (c == backslash))))))))

abbrev pub escape_value : ℕ → ℕ
escape_value c = if c == 97 then 7 else if c == 98 then 8 else if c == 116 then 9 else if c == 110 then 10 else if c == 118 then 11 else if c == 102 then 12 else if c == 114 then 13 else c

abbrev pub IsItem : Item → Type 0
IsItem (Plain c) = is_plain c ≡ true
IsItem (Letter c) = is_escape_letter c ≡ true
IsItem (Control c) = is_within 64 95 c ≡ true
IsItem (Decimal a b c) = (all_are is_digit (a ∷ b ∷ c ∷ []) ≡ true) × (number 10 (a ∷ b ∷ c ∷ []) < 256)
IsItem (Hexadecimal a b c d) = (all_are is_hex_digit (a ∷ b ∷ c ∷ d ∷ []) ≡ true) × (number 16 (a ∷ b ∷ c ∷ d ∷ []) < 256)
IsItem (Gap white) = is_run is_white is_white white ≡ true

-- the characters that an item stands for
abbrev pub item_value : Item → List ℕ
item_value (Plain c) = c ∷ []
item_value (Letter c) = escape_value c ∷ []
item_value (Control c) = (c - 64) ∷ []
item_value (Decimal a b c) = number 10 (a ∷ b ∷ c ∷ []) ∷ []
item_value (Hexadecimal a b c d) = number 16 (a ∷ b ∷ c ∷ d ∷ []) ∷ []
item_value (Gap white) = []

abbrev pub AreItems : List Item → Type 0
AreItems [] = Unit {0}
AreItems (item ∷ items) = IsItem item × AreItems items

abbrev pub items_text : List Item → List ℕ
items_text items = flat_map item_text items

-- the characters that items stand for
abbrev pub string_value : List Item → List ℕ
string_value items = flat_map item_value items

abbrev pub quoted : List Item → List ℕ
quoted items = quote ∷ (items_text items ++ quote ∷ [])

abbrev pub IsString : List ℕ → Type 0
IsString text = (items : List Item) × AreItems items × (text ≡ quoted items)

-- a string of length one after #
abbrev pub IsCharacter : List ℕ → Type 0
IsCharacter text = (items : List Item) × AreItems items × (length (string_value items) ≡ 1) × (text ≡ hash ∷ quoted items)

-- the value of a string constant is its characters
abbrev pub IsStringValue : List ℕ → List ℕ → Type 0
IsStringValue text value = (items : List Item) × AreItems items × (text ≡ quoted items) × (value ≡ string_value items)

-- the value of a character constant is its one character
abbrev pub IsCharacterValue : List ℕ → ℕ → Type 0
IsCharacterValue text value = (items : List Item) × AreItems items × (text ≡ hash ∷ quoted items) × (string_value items ≡ value ∷ [])

-- the fault where neither an item nor the closing quote begins, so many bytes after the opening one
abbrev pub break_of : List ℕ → ℕ → Stop
break_of [] point = record {
  code = L2;
  at = 0;
}
break_of (c ∷ rest) point =
    if c == backslash then record {
      code = L3;
      at = point;
    } else if c == newline then record {
      code = L2;
      at = 0;
    } else record {
      code = L4;
      at = point;
    }

-- The string that opens at the front breaks off.
pub record IsBroken (text : List ℕ) (stop : Stop) : Type 0 where
  pub items : List Item
  pub rest : List ℕ
  pub are_items : AreItems items
  pub spelled : text ≡ quote ∷ (items_text items ++ rest)
  pub not_closed : starts_with quote rest ≡ false
  pub no_item : (item : Item) (more : List ℕ) → IsItem item → rest ≡ item_text item ++ more → ⊥
  pub fault : stop ≡ break_of rest (1 + length (items_text items))

-- The string at the front isn't of length one.
pub record HasOtherLength (text : List ℕ) : Type 0 where
  pub items : List Item
  pub rest : List ℕ
  pub are_items : AreItems items
  pub spelled : text ≡ quoted items ++ rest
  pub other : length (string_value items) ≡ 1 → ⊥

abbrev pub opens_string : List ℕ → Bool
opens_string text = starts_with quote text

-- a lone # directly before a quote
abbrev pub opens_character : List ℕ → Bool
opens_character text = starts_with_both hash quote text

-- the faults in a string or a character at the front
abbrev pub IsStringFault : List ℕ → Stop → Type 0
IsStringFault text stop = IsBroken text stop ⊎ ((opens_character text ≡ true) × (inner : Stop) × IsBroken (drop 1 text) inner × (stop ≡ record {
  code = inner.code;
  at = inner.at + 1;
})) ⊎ ((opens_character text ≡ true) × HasOtherLength (drop 1 text) × (stop ≡ record {
  code = L3;
  at = 0;
}))
