-- A string, item by item.
use Rattle.std.proofs.Common.{◌≡◌, ℕ, ◌+◌, ◌<◌, ◌≤◌, List, [], ◌∷◌, ◌++◌, drop, length, true, false, Option, Some, None, unwrap_or, refl, sym, ap, ◌∙◌, arith, append_assoc}
use Rattle.std.specs.Prelude.{flat_map}
use Rattle.std.specs.Option.{option_to_list}
use Rattle.std.proofs.lemmas.Bool.{eqb-true}
use Rattle.std.proofs.Math.Seq.{drop-append_seam}
use Rattle.std.proofs.lemmas.List.{drop-drop, length-append, length-drop, flat_map_more}
use Rattle.sml_lex.specs.declared.token.Stop.{Stop}
use Rattle.sml_lex.specs.declared.items.Element.{Element}
use Rattle.sml_lex.specs.Bytes.{starts_with}
use Rattle.sml_lex.specs.Strings.{Item, item_text, item_value, IsItem, AreItems, items_text, string_value, break_of, IsBroken}
use Rattle.sml_lex.specs.Strings.Item.{Plain, Letter, Control, Decimal, Hexadecimal, Gap}
use Rattle.sml_lex.specs.CodeStrings.{first_of, count_of, earlier_of, item_at, element_of, element, IsQuoted}
use Rattle.sml_lex.proofs.MachineRuns.{false_is_true}
use Rattle.sml_lex.proofs.StringItems.{none_is_item, item_sound, item_complete}

-- the bytes of a string so far, and their characters
pub record Scanned (text : List ℕ) (bytes : ℕ) (value : List ℕ) : Type 0 where
  pub items : List Item
  pub are_items : AreItems items
  pub spelled : text ≡ 34 ∷ (items_text items ++ drop bytes text)
  pub bytes_are : bytes ≡ 1 + length (items_text items)
  pub value_is : value ≡ string_value items
  pub few : length value ≤ bytes
  pub within : bytes ≤ length text

pub quote_first : (text : List ℕ) → starts_with 34 text ≡ true → text ≡ 34 ∷ drop 1 text
quote_first [] e = absurd (false_is_true e)
quote_first (c ∷ text) e = ap (λ c. c ∷ text) (eqb-true _ _ e)

pub scan_start : (text : List ℕ) → starts_with 34 text ≡ true → Scanned text 1 []
scan_start text e = record {
  items = [];
  are_items = tt;
  spelled = quote_first text e;
  bytes_are = refl;
  value_is = refl;
  few = omega arith;
  within = let l = ap length (quote_first text e) in omega (arith, l);
}

items_more : (items : List Item) (item : Item) → AreItems items → IsItem item → AreItems (items ++ item ∷ [])
items_more [] item a i = (i, tt)
items_more (first ∷ items) item a i = (a.0, items_more items item a.1 i)

length_more : (f : Item → List ℕ) (items : List Item) (item : Item) → length (flat_map f (items ++ item ∷ [])) ≡ length (flat_map f items) + length (f item)
length_more f items item = ap length (sym (flat_map_more f [] items item)) ∙ length-append (flat_map f items) (f item)

fewer : (item : Item) → length (item_value item) ≤ length (item_text item)
fewer (Plain c) = omega arith
fewer (Letter c) = omega arith
fewer (Control c) = omega arith
fewer (Decimal a b c) = omega arith
fewer (Hexadecimal a b c d) = omega arith
fewer (Gap white) = omega arith

some_bytes : (item : Item) → 0 < length (item_text item)
some_bytes (Plain c) = omega arith
some_bytes (Letter c) = omega arith
some_bytes (Control c) = omega arith
some_bytes (Decimal a b c) = omega arith
some_bytes (Hexadecimal a b c d) = omega arith
some_bytes (Gap white) = omega arith

-- the item found
pub record Found (rest : List ℕ) (found : Element) : Type 0 where
  pub item : Item
  pub is_item : IsItem item
  pub after : List ℕ
  pub spelled : rest ≡ item_text item ++ after
  pub bytes : found.bytes ≡ length (item_text item)
  pub value : found.value ≡ first_of (item_value item)

pub found : (rest : List ℕ) (size : Element) → element (item_at rest) ≡ Some size → Found rest size
found rest size e = go (item_at rest) refl e
  where
    go : (o : Option Item) → item_at rest ≡ o → element o ≡ Some size → Found rest size
    go None o e = absurd (none_is_item size e)
    go (Some item) o e =
        let same : element_of item ≡ size = ap (λ x. unwrap_or x (element_of item)) e in
        let s = item_sound rest item o in record {
          item = item;
          is_item = s.0;
          after = s.1;
          spelled = s.2;
          bytes = sym (ap (λ x. x.bytes) same);
          value = sym (ap (λ x. x.value) same);
        }

value_list : (item : Item) → option_to_list (first_of (item_value item)) ≡ item_value item
value_list (Plain c) = refl
value_list (Letter c) = refl
value_list (Control c) = refl
value_list (Decimal a b c) = refl
value_list (Hexadecimal a b c d) = refl
value_list (Gap white) = refl

pub scan_on : (text : List ℕ) (bytes : ℕ) (value : List ℕ) (size : Element) → Found (drop bytes text) size → Scanned text bytes value → Scanned text (bytes + size.bytes) (value ++ option_to_list size.value)
scan_on text bytes value size f s =
    let after : drop (bytes + size.bytes) text ≡ f.after = sym (drop-drop size.bytes bytes text) ∙ ap (λ n. drop n (drop bytes text)) f.bytes ∙ ap (drop (length (item_text f.item))) f.spelled ∙ drop-append_seam (item_text f.item) f.after in
    let own : option_to_list size.value ≡ item_value f.item = ap option_to_list f.value ∙ value_list f.item in
    let b = s.bytes_are in
    let fb = f.bytes in
    let few = s.few in
    let less = fewer f.item in
    let lb = length_more item_text s.items f.item in
    let lv = length-append value (option_to_list size.value) in
    let lo = ap length own in
    let ld = length-drop bytes text in
    let within = s.within in
    let lf = ap length f.spelled ∙ length-append (item_text f.item) f.after in record {
      items = s.items ++ f.item ∷ [];
      are_items = items_more s.items f.item s.are_items f.is_item;
      spelled = s.spelled ∙ ap (λ t. 34 ∷ (items_text s.items ++ t)) f.spelled ∙ ap (λ t. 34 ∷ t) (sym (append_assoc (items_text s.items) (item_text f.item) f.after) ∙ ap (λ t. t ++ f.after) (flat_map_more item_text [] s.items f.item)) ∙ ap (λ t. 34 ∷ (items_text (s.items ++ f.item ∷ []) ++ t)) (sym after);
      bytes_are = omega (arith, b, fb, lb);
      value_is = ap (λ v. v ++ option_to_list size.value) s.value_is ∙ ap (λ v. string_value s.items ++ v) own ∙ flat_map_more item_value [] s.items f.item;
      few = omega (arith, few, fb, lv, lo, less);
      within = omega (arith, ld, lf, fb, within);
    }

pub scan_smaller : (text : List ℕ) (bytes : ℕ) (value : List ℕ) (size : Element) → Found (drop bytes text) size → Scanned text bytes value → (0 < size.bytes) × (bytes + size.bytes ≤ length text)
scan_smaller text bytes value size f s =
    let some = some_bytes f.item in
    let fb = f.bytes in
    let ld = length-drop bytes text in
    let within = s.within in
    let lf = ap length f.spelled ∙ length-append (item_text f.item) f.after in
    (omega (arith, some, fb), omega (arith, ld, lf, fb, within))

pub scan_closed : (text : List ℕ) (bytes characters : ℕ) (first : Option ℕ) (value : List ℕ) → starts_with 34 (drop bytes text) ≡ true → Scanned text bytes value → characters ≡ length value → first ≡ first_of value → IsQuoted text (record {
  bytes = bytes + 1;
  characters = characters;
  first = first;
})
scan_closed text bytes characters first value e s n f =
    let rest : List ℕ = drop 1 (drop bytes text) in
    let b = s.bytes_are in
    let l = length-append (items_text s.items) (34 ∷ []) in record {
      items = s.items;
      rest = rest;
      are_items = s.are_items;
      spelled = s.spelled ∙ ap (λ t. 34 ∷ (items_text s.items ++ t)) (quote_first (drop bytes text) e) ∙ ap (λ t. 34 ∷ t) (sym (append_assoc (items_text s.items) (34 ∷ []) rest));
      bytes = omega (arith, b, l);
      characters = n ∙ ap length s.value_is;
      first = f ∙ ap first_of s.value_is;
    }

pub scan_broken : (text : List ℕ) (bytes : ℕ) (value : List ℕ) (stop : Stop) → starts_with 34 (drop bytes text) ≡ false → element (item_at (drop bytes text)) ≡ None → stop ≡ break_of (drop bytes text) bytes → Scanned text bytes value → IsBroken text stop
scan_broken text bytes value stop o n b s = record {
  items = s.items;
  rest = drop bytes text;
  are_items = s.are_items;
  spelled = s.spelled;
  not_closed = o;
  no_item = λ item more i e. none_is_item (element_of item) (sym n ∙ ap (λ t. element (item_at t)) e ∙ ap element (item_complete item more i));
  fault = b ∙ ap (break_of (drop bytes text)) s.bytes_are;
}

-- the count and the first of the characters so far
pub record Counted (text : List ℕ) (bytes characters : ℕ) (first : Option ℕ) : Type 0 where
  pub value : List ℕ
  pub scanned : Scanned text bytes value
  pub count : characters ≡ length value
  pub first_is : first ≡ first_of value

pub count_start : (text : List ℕ) → starts_with 34 text ≡ true → Counted text 1 0 None
count_start text e = record {
  value = [];
  scanned = scan_start text e;
  count = refl;
  first_is = refl;
}

length_of : (v : Option ℕ) → length (option_to_list v) ≡ count_of v
length_of None = refl
length_of (Some c) = refl

earlier-append : (value : List ℕ) (v : Option ℕ) → earlier_of (first_of value) v ≡ first_of (value ++ option_to_list v)
earlier-append [] None = refl
earlier-append [] (Some c) = refl
earlier-append (d ∷ value) v = refl

pub count_on : (text : List ℕ) (bytes characters count : ℕ) (first next : Option ℕ) (size : Element) → Found (drop bytes text) size → Counted text bytes characters first → count ≡ count_of size.value → next ≡ earlier_of first size.value → Counted text (bytes + size.bytes) (characters + count) next
count_on text bytes characters count first next size f s n e =
    let l = length-append s.value (option_to_list size.value) in
    let o = length_of size.value in
    let c = s.count in record {
      value = s.value ++ option_to_list size.value;
      scanned = scan_on text bytes s.value size f s.scanned;
      count = omega (arith, l, o, c, n);
      first_is = e ∙ ap (λ f. earlier_of f size.value) s.first_is ∙ earlier-append s.value size.value;
    }
