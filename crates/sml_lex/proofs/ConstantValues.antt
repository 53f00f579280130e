-- Which texts are strings and characters, and their values.
use Rattle.std.proofs.Common.{◌≡◌, ℕ, ◌+◌, List, [], ◌∷◌, ◌++◌, drop, length, true, false, None, refl, sym, ap, ◌∙◌, subst, arith, append-nil}
use Rattle.std.specs.Option.{MatchOption}
use Rattle.std.proofs.lemmas.List.{length-append, length-drop}
use Rattle.sml_lex.specs.declared.strings.Extent.{Extent}
use Rattle.sml_lex.specs.declared.token.Stop.{Stop}
use Rattle.sml_lex.specs.Bytes.{starts_with, starts_with_both}
use Rattle.sml_lex.specs.Strings.{Item, AreItems, items_text, string_value, quoted, break_of, opens_character, IsString, IsStringValue, IsCharacter, IsCharacterValue, IsBroken}
use Rattle.sml_lex.specs.CodeStrings.{first_of, item_at, element, IsQuoted}
use Rattle.sml_lex.proofs.MachineRuns.{false_is_true}
use Rattle.sml_lex.proofs.FirstTokens.{hash_first, quoted_unique}
use Rattle.sml_lex.proofs.FirstPieces.{closed_or_broken}
use Rattle.sml_lex.proofs.StringScans.{Scanned, quote_first, scan_closed, scan_broken}

none_left : (rest : List ℕ) → length rest ≡ 0 → rest ≡ []
none_left [] l = refl
none_left (c ∷ rest) l = absurd (omega (arith, l))

-- a text that is quoted up to its end
whole : (text : List ℕ) (size : Extent) → (q : IsQuoted text size) → size.bytes ≡ length text → text ≡ quoted q.items
whole text size q e =
    let l = ap length q.spelled in
    let m = length-append (quoted q.items) q.rest in
    let b = q.bytes in
    q.spelled ∙ ap (λ r. quoted q.items ++ r) (none_left q.rest (omega (arith, l, m, b, e))) ∙ append-nil (quoted q.items)

-- what is quoted is the string
same_items : (text : List ℕ) (size : Extent) → (q : IsQuoted text size) → (items : List Item) → AreItems items → text ≡ quoted items → (q.items ≡ items) × (q.rest ≡ [])
same_items text size q items i e = quoted_unique q.items items q.rest [] q.are_items i (sym q.spelled ∙ e ∙ sym (append-nil (quoted items)))

pub string_whole : (text : List ℕ) (bytes : ℕ) (value : List ℕ) → starts_with 34 (drop bytes text) ≡ true → bytes + 1 ≡ length text → Scanned text bytes value → IsStringValue text value
string_whole text bytes value o e s = (s.items, s.are_items, s.spelled ∙ ap (λ t. 34 ∷ (items_text s.items ++ t)) (quote_first (drop bytes text) o ∙ ap (λ t. 34 ∷ t) (none_left (drop 1 (drop bytes text)) last)), s.value_is)
  where
    last : length (drop 1 (drop bytes text)) ≡ 0
    last = let l = length-drop bytes text in let m = length-drop 1 (drop bytes text) in omega (arith, l, m, e)

pub string_longer : (text : List ℕ) (bytes : ℕ) (value : List ℕ) → starts_with 34 (drop bytes text) ≡ true → (bytes + 1 ≡ length text → ⊥) → Scanned text bytes value → IsString text → ⊥
string_longer text bytes value o n s t =
    let q = scan_closed text bytes (length value) (first_of value) value o s refl refl in
    let w = same_items text _ q t.0 t.1 t.2 in
    let l = ap length q.spelled in
    let m = length-append (quoted q.items) q.rest in
    let r = ap length w.1 in
    let b = q.bytes in
    n (omega (arith, l, m, r, b))

pub string_broken : (text : List ℕ) (bytes : ℕ) (value : List ℕ) → starts_with 34 (drop bytes text) ≡ false → element (item_at (drop bytes text)) ≡ None → Scanned text bytes value → IsString text → ⊥
string_broken text bytes value o n s t = closed_or_broken text [] t.0 _ t.1 (t.2 ∙ sym (append-nil (quoted t.0))) (scan_broken text bytes value (break_of (drop bytes text) bytes) o n refl s)

pub character_whole : (text : List ℕ) (size : Extent) → opens_character text ≡ true → IsQuoted (drop 1 text) size → size.characters ≡ 1 → size.bytes + 1 ≡ length text → MatchOption size.first (IsCharacter text → ⊥) (IsCharacterValue text)
character_whole text size o q one e = go (string_value q.items) refl
  where
    spelled : text ≡ 35 ∷ quoted q.items
    spelled = hash_first text o ∙ ap (λ t. 35 ∷ t) (whole (drop 1 text) size q (let l = length-drop 1 text in omega (arith, l, e)))

    go : (v : List ℕ) → string_value q.items ≡ v → MatchOption size.first (IsCharacter text → ⊥) (IsCharacterValue text)
    go [] v = let n = q.characters ∙ ap length v in absurd (omega (arith, n, one))
    go (c ∷ []) v = subst (λ f. MatchOption f (IsCharacter text → ⊥) (IsCharacterValue text)) (sym (q.first ∙ ap first_of v)) (q.items, q.are_items, spelled, v)
    go (c ∷ d ∷ rest) v = let n = q.characters ∙ ap length v in absurd (omega (arith, n, one))

pub character_longer : (text : List ℕ) (size : Extent) → opens_character text ≡ true → IsQuoted (drop 1 text) size → (size.bytes + 1 ≡ length text → ⊥) → IsCharacter text → ⊥
character_longer text size o q n t =
    let w = same_items (drop 1 text) size q t.0 t.1 (ap (drop 1) t.3) in
    let l = ap length q.spelled in
    let m = length-append (quoted q.items) q.rest in
    let r = ap length w.1 in
    let b = q.bytes in
    let d = ap length (hash_first text o) in
    n (omega (arith, l, m, r, b, d))

pub character_other : (text : List ℕ) (size : Extent) → IsQuoted (drop 1 text) size → (size.characters ≡ 1 → ⊥) → IsCharacter text → ⊥
character_other text size q n t = n (q.characters ∙ ap (λ i. length (string_value i)) (same_items (drop 1 text) size q t.0 t.1 (ap (drop 1) t.3)).0 ∙ t.2)

pub character_broken : (text : List ℕ) (stop : Stop) → IsBroken (drop 1 text) stop → IsCharacter text → ⊥
character_broken text stop b t = closed_or_broken (drop 1 text) [] t.0 stop t.1 (ap (drop 1) t.3 ∙ sym (append-nil (quoted t.0))) b

pub character_starts_not : (text : List ℕ) → opens_character text ≡ false → IsCharacter text → ⊥
character_starts_not text o t = false_is_true (sym o ∙ ap (starts_with_both 35 34) t.3)
