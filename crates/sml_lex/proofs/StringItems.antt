-- The items of strings, as they are read.
use Rattle.std.proofs.Common.{◌≡◌, ℕ, ◌+◌, ◌<◌, ◌≤◌, List, [], ◌∷◌, ◌++◌, take, drop, length, get_or, Bool, true, false, Option, Some, None, unwrap_or, refl, sym, ap, ◌∙◌, subst, arith}
use Rattle.std.specs.Prelude.{◌&&◌, ◌==◌, nat_lt, if◌then◌else◌}
use Rattle.std.proofs.lemmas.Bool.{cond-true, cond-false, eqb-true, ltb-true, lt-ltb, le-ltb}
use Rattle.std.proofs.lemmas.List.{drop_more, length-append, length-drop}
use Rattle.sml_lex.specs.declared.items.Element.{Element}
use Rattle.sml_lex.specs.Bytes.{is_within, is_white, is_digit, is_hex_digit, starts_with, starts_white}
use Rattle.sml_lex.specs.Numbers.{number}
use Rattle.sml_lex.specs.Bytes.{all_are, is_run}
use Rattle.sml_lex.specs.Strings.{Item, item_text, is_plain, is_escape_letter, IsItem}
use Rattle.sml_lex.specs.Strings.Item.{Plain, Letter, Control, Decimal, Hexadecimal, Gap}
use Rattle.sml_lex.proofs.MachineRuns.{and_false, false_is_true, both_true, first_true, second_true, apart}
use Rattle.sml_lex.proofs.ByteClasses.{digit_no_escape, white_no_escape, white_no_digit}
use Rattle.sml_lex.specs.CodeStrings.{white_at, gap_at, control_at, decimal_at, hexadecimal_at, escape_at, item_at, element}

-- a gap, of which some bytes of white space are known
pub with_white : ℕ → Option (List ℕ) → Option Element
with_white before None = None
with_white before (Some white) = Some (record {
  bytes = before + length white + 2;
  value = None;
})

pub gap_element : ℕ → List ℕ → Option Element
gap_element before rest = with_white before (white_at rest)

abbrev gap_of : ℕ → Option Element
gap_of bytes = Some (record {
  bytes = bytes;
  value = None;
})

pub gap_first : (text : List ℕ) → gap_element 0 text ≡ element (gap_at text)
unfolding gap_element with_white
gap_first text = go (white_at text)
  where
    go : (w : Option (List ℕ)) → with_white 0 w ≡ element (elim w [ None ↦ None | Some white ↦ Some (Gap white) ])
    go None = refl
    go (Some white) = ap gap_of (let l = length-append white (92 ∷ []) in omega (arith, l))

gap_one : (before c : ℕ) (rest : List ℕ) → is_white c ≡ true → gap_element before (c ∷ rest) ≡ gap_element (before + 1) rest
unfolding gap_element with_white
gap_one before c rest w = ap (with_white before) (cond-true _ _ _ w) ∙ go (white_at rest)
  where
    go : (o : Option (List ℕ)) → with_white before (elim o [ None ↦ None | Some white ↦ Some (c ∷ white) ]) ≡ with_white (before + 1) o
    go None = refl
    go (Some white) = ap gap_of (omega arith)

pub gap_more : (text : List ℕ) (i : ℕ) → i < length text → is_white (get_or text i 0) ≡ true → gap_element i (drop i text) ≡ gap_element (i + 1) (drop (i + 1) text)
gap_more text i within w = ap (gap_element i) (drop_more text i 0 within) ∙ gap_one i (get_or text i 0) (drop (i + 1) text) w

pub gap_closed : (before : ℕ) (rest : List ℕ) → starts_with 92 rest ≡ true → gap_element before rest ≡ gap_of (before + 2)
unfolding gap_element with_white
gap_closed before [] e = absurd (false_is_true e)
gap_closed before (c ∷ rest) e = ap (λ c. with_white before (white_at (c ∷ rest))) (eqb-true _ _ e) ∙ ap gap_of (omega arith)

pub gap_open : (before : ℕ) (rest : List ℕ) → starts_with 92 rest ≡ false → starts_white rest ≡ false → gap_element before rest ≡ None
unfolding gap_element with_white
gap_open before [] e w = refl
gap_open before (c ∷ rest) e w = ap (with_white before) (cond-false _ _ _ w ∙ cond-false _ _ _ e)

pub white_ends : (text : List ℕ) (i : ℕ) → length text ≤ i → starts_white (drop i text) ≡ false
white_ends text i past = go (drop i text) (let l = length-drop i text in omega (arith, l, past))
  where
    go : (rest : List ℕ) → length rest ≡ 0 → starts_white rest ≡ false
    go [] l = refl
    go (c ∷ rest) l = absurd (omega (arith, l))

pub white_stops : (text : List ℕ) (i : ℕ) → i < length text → is_white (get_or text i 0) ≡ false → starts_white (drop i text) ≡ false
white_stops text i within w = ap starts_white (drop_more text i 0 within) ∙ w

-- four hexadecimal digits
abbrev pub six_bytes : ℕ → Option Element
six_bytes value = Some (record {
  bytes = 6;
  value = Some value;
})

pub hexadecimal_found : (text : List ℕ) → 4 ≤ length text → all_are is_hex_digit (take 4 text) ≡ true → number 16 (take 4 text) < 256 → element (hexadecimal_at text) ≡ six_bytes (number 16 (take 4 text))
hexadecimal_found [] l d n = absurd (omega (arith, l))
hexadecimal_found (a ∷ []) l d n = absurd (omega (arith, l))
hexadecimal_found (a ∷ b ∷ []) l d n = absurd (omega (arith, l))
hexadecimal_found (a ∷ b ∷ c ∷ []) l d n = absurd (omega (arith, l))
hexadecimal_found (a ∷ b ∷ c ∷ d ∷ rest) l h n = ap element (cond-true _ _ _ (both_true _ _ h (lt-ltb _ _ n)))

pub hexadecimal_large : (text : List ℕ) → 4 ≤ length text → 256 ≤ number 16 (take 4 text) → element (hexadecimal_at text) ≡ None
hexadecimal_large [] l n = absurd (omega (arith, l))
hexadecimal_large (a ∷ []) l n = absurd (omega (arith, l))
hexadecimal_large (a ∷ b ∷ []) l n = absurd (omega (arith, l))
hexadecimal_large (a ∷ b ∷ c ∷ []) l n = absurd (omega (arith, l))
hexadecimal_large (a ∷ b ∷ c ∷ d ∷ rest) l n = ap element (cond-false _ _ _ (and_false (all_are is_hex_digit (a ∷ b ∷ c ∷ d ∷ [])) _ (le-ltb _ _ n)))

-- an item read is one, and stands there
by_if : {A : Type 0} (R : Type 0) (t : Bool) (x y : Option A) (v : A) → (t ≡ true → x ≡ Some v → R) → (t ≡ false → y ≡ Some v → R) → (if t then x else y) ≡ Some v → R
by_if {A} R t x y v on_true on_false e = go t refl e
  where
    go : (b : Bool) → t ≡ b → (if b then x else y) ≡ Some v → R
    go true h e = on_true h e
    go false h e = on_false h e

pub none_is_item : {A : Type 0} (v : A) → None ≡ Some v → ⊥
none_is_item v e = cc

pub same_item : (v w : Item) → Some v ≡ Some w → v ≡ w
same_item v w e = ap (λ o. unwrap_or o v) e

same_white : (v w : List ℕ) → Some v ≡ Some w → v ≡ w
same_white v w e = ap (λ o. unwrap_or o v) e

Front : List ℕ → Item → Type 0
Front text item = IsItem item × (more : List ℕ) × (text ≡ item_text item ++ more)

front_is : (text more : List ℕ) (v item : Item) → Some v ≡ Some item → IsItem v → text ≡ item_text v ++ more → Front text item
unfolding Front
front_is text more v item e i t = subst (λ item. IsItem item × (more : List ℕ) × (text ≡ item_text item ++ more)) (same_item v item e) (i, more, t)

white_sound : (text white : List ℕ) → white_at text ≡ Some white → (all_are is_white white ≡ true) × (more : List ℕ) × (text ≡ (white ++ 92 ∷ []) ++ more)
white_sound [] white e = absurd (none_is_item white e)
white_sound (c ∷ text) white e =
    by_if ((all_are is_white white ≡ true) × (more : List ℕ) × (c ∷ text ≡ (white ++ 92 ∷ []) ++ more)) (is_white c) (elim (white_at text) [ None ↦ None | Some white ↦ Some (c ∷ white) ]) (if c == 92 then Some [] else None) white (λ w e. more (white_at text) refl w e (λ white e. white_sound text white e)) (
    λ w e. by_if ((all_are is_white white ≡ true) × (more : List ℕ) × (c ∷ text ≡ (white ++ 92 ∷ []) ++ more)) (c == 92) (Some []) None white (λ b e. closed b (same_white [] white e)) (λ b e. absurd (none_is_item white e)) e
    ) e
  where
    closed : (c == 92) ≡ true → [] ≡ white → (all_are is_white white ≡ true) × (more : List ℕ) × (c ∷ text ≡ (white ++ 92 ∷ []) ++ more)
    closed b e = subst (λ white. (all_are is_white white ≡ true) × (more : List ℕ) × (c ∷ text ≡ (white ++ 92 ∷ []) ++ more)) e (refl, text, ap (λ c. c ∷ text) (eqb-true _ _ b))

    more : (o : Option (List ℕ)) → white_at text ≡ o → is_white c ≡ true → elim o [ None ↦ None | Some white ↦ Some (c ∷ white) ] ≡ Some white → ((white : List ℕ) → white_at text ≡ Some white → (all_are is_white white ≡ true) × (more : List ℕ) × (text ≡ (white ++ 92 ∷ []) ++ more)) → (all_are is_white white ≡ true) × (more : List ℕ) × (c ∷ text ≡ (white ++ 92 ∷ []) ++ more)
    more None o w e rest = absurd (none_is_item white e)
    more (Some v) o w e rest =
        let r = rest v o in
        subst (λ white. (all_are is_white white ≡ true) × (more : List ℕ) × (c ∷ text ≡ (white ++ 92 ∷ []) ++ more)) (same_white (c ∷ v) white e) (both_true _ _ w r.0, r.1, ap (λ t. c ∷ t) r.2)

gap_sound : (c : ℕ) (text : List ℕ) (item : Item) → is_white c ≡ true → gap_at (c ∷ text) ≡ Some item → Front (92 ∷ c ∷ text) item
gap_sound c text item w e = go (white_at (c ∷ text)) refl e
  where
    is_run_of : (white : List ℕ) → all_are is_white white ≡ true → (more : List ℕ) → c ∷ text ≡ (white ++ 92 ∷ []) ++ more → is_run is_white is_white white ≡ true
    is_run_of [] a more t = absurd (false_is_true (sym (ap starts_white t) ∙ w))
    is_run_of (d ∷ white) a more t = a

    go : (o : Option (List ℕ)) → white_at (c ∷ text) ≡ o → elim o [ None ↦ None | Some white ↦ Some (Gap white) ] ≡ Some item → Front (92 ∷ c ∷ text) item
    go None o e = absurd (none_is_item item e)
    go (Some white) o e =
        let r = white_sound (c ∷ text) white o in
        front_is (92 ∷ c ∷ text) r.1 (Gap white) item e (is_run_of white r.0 r.1 r.2) (ap (λ t. 92 ∷ t) r.2)

control_sound : (text : List ℕ) (item : Item) → control_at text ≡ Some item → Front (92 ∷ 94 ∷ text) item
control_sound [] item e = absurd (none_is_item item e)
control_sound (c ∷ text) item e = by_if (Front (92 ∷ 94 ∷ c ∷ text) item) (is_within 64 95 c) (Some (Control c)) None item (λ t e. front_is (92 ∷ 94 ∷ c ∷ text) text (Control c) item e t refl) (λ t e. absurd (none_is_item item e)) e

decimal_sound : (text : List ℕ) (item : Item) → decimal_at text ≡ Some item → Front (92 ∷ text) item
decimal_sound [] item e = absurd (none_is_item item e)
decimal_sound (a ∷ []) item e = absurd (none_is_item item e)
decimal_sound (a ∷ b ∷ []) item e = absurd (none_is_item item e)
decimal_sound (a ∷ b ∷ c ∷ text) item e =
    by_if (Front (92 ∷ a ∷ b ∷ c ∷ text) item) (all_are is_digit (a ∷ b ∷ c ∷ []) && nat_lt (number 10 (a ∷ b ∷ c ∷ [])) 256) (Some (Decimal a b c)) None item (
    λ t e. front_is (92 ∷ a ∷ b ∷ c ∷ text) text (Decimal a b c) item e (first_true (all_are is_digit (a ∷ b ∷ c ∷ [])) _ t, ltb-true _ _ (second_true (all_are is_digit (a ∷ b ∷ c ∷ [])) (nat_lt (number 10 (a ∷ b ∷ c ∷ [])) 256) t)) refl
    ) (λ t e. absurd (none_is_item item e)) e

hexadecimal_sound : (text : List ℕ) (item : Item) → hexadecimal_at text ≡ Some item → Front (92 ∷ 117 ∷ text) item
hexadecimal_sound [] item e = absurd (none_is_item item e)
hexadecimal_sound (a ∷ []) item e = absurd (none_is_item item e)
hexadecimal_sound (a ∷ b ∷ []) item e = absurd (none_is_item item e)
hexadecimal_sound (a ∷ b ∷ c ∷ []) item e = absurd (none_is_item item e)
hexadecimal_sound (a ∷ b ∷ c ∷ d ∷ text) item e =
    by_if (Front (92 ∷ 117 ∷ a ∷ b ∷ c ∷ d ∷ text) item) (all_are is_hex_digit (a ∷ b ∷ c ∷ d ∷ []) && nat_lt (number 16 (a ∷ b ∷ c ∷ d ∷ [])) 256) (Some (Hexadecimal a b c d)) None item (
    λ t e. front_is (92 ∷ 117 ∷ a ∷ b ∷ c ∷ d ∷ text) text (Hexadecimal a b c d) item e (first_true (all_are is_hex_digit (a ∷ b ∷ c ∷ d ∷ [])) _ t, ltb-true _ _ (second_true (all_are is_hex_digit (a ∷ b ∷ c ∷ d ∷ [])) (nat_lt (number 16 (a ∷ b ∷ c ∷ d ∷ [])) 256) t)) refl
    ) (λ t e. absurd (none_is_item item e)) e

escape_sound : (text : List ℕ) (item : Item) → escape_at text ≡ Some item → Front (92 ∷ text) item
escape_sound [] item e = absurd (none_is_item item e)
escape_sound (c ∷ text) item e = by_if (Front (92 ∷ c ∷ text) item) (is_escape_letter c) (Some (Letter c)) (if c == 94 then control_at text else if c == 117 then hexadecimal_at text else if is_digit c then decimal_at (c ∷ text) else if is_white c then gap_at (c ∷ text) else None) item (λ t e. front_is (92 ∷ c ∷ text) text (Letter c) item e t refl) (λ t e. not_letter e) e
  where
    not_letter : (if c == 94 then control_at text else if c == 117 then hexadecimal_at text else if is_digit c then decimal_at (c ∷ text) else if is_white c then gap_at (c ∷ text) else None) ≡ Some item → Front (92 ∷ c ∷ text) item
    not_letter e = by_if (Front (92 ∷ c ∷ text) item) (c == 94) (control_at text) (if c == 117 then hexadecimal_at text else if is_digit c then decimal_at (c ∷ text) else if is_white c then gap_at (c ∷ text) else None) item (λ t e. subst (λ c. Front (92 ∷ c ∷ text) item) (sym (eqb-true _ _ t)) (control_sound text item e)) (
        λ t e.
        by_if (Front (92 ∷ c ∷ text) item) (c == 117) (hexadecimal_at text) (if is_digit c then decimal_at (c ∷ text) else if is_white c then gap_at (c ∷ text) else None) item (λ t e. subst (λ c. Front (92 ∷ c ∷ text) item) (sym (eqb-true _ _ t)) (hexadecimal_sound text item e)) (
        λ t e.
        by_if (Front (92 ∷ c ∷ text) item) (is_digit c) (decimal_at (c ∷ text)) (if is_white c then gap_at (c ∷ text) else None) item (λ t e. decimal_sound (c ∷ text) item e) (
        λ t e. by_if (Front (92 ∷ c ∷ text) item) (is_white c) (gap_at (c ∷ text)) None item (λ t e. gap_sound c text item t e) (λ t e. absurd (none_is_item item e)) e
        ) e
        ) e
        ) e

item_front : (text : List ℕ) (item : Item) → item_at text ≡ Some item → Front text item
item_front [] item e = absurd (none_is_item item e)
item_front (c ∷ text) item e = by_if (Front (c ∷ text) item) (c == 92) (escape_at text) (if is_plain c then Some (Plain c) else None) item (λ t e. subst (λ c. Front (c ∷ text) item) (sym (eqb-true _ _ t)) (escape_sound text item e)) (
    λ t e. by_if (Front (c ∷ text) item) (is_plain c) (Some (Plain c)) None item (λ t e. front_is (c ∷ text) text (Plain c) item e t refl) (λ t e. absurd (none_is_item item e)) e
    ) e

pub item_sound : (text : List ℕ) (item : Item) → item_at text ≡ Some item → IsItem item × (more : List ℕ) × (text ≡ item_text item ++ more)
unfolding Front
item_sound text item e = item_front text item e

-- an item that stands there is read
white_complete : (white more : List ℕ) → all_are is_white white ≡ true → white_at ((white ++ 92 ∷ []) ++ more) ≡ Some white
white_complete [] more a = refl
white_complete (c ∷ white) more a = cond-true _ _ _ (first_true (is_white c) (all_are is_white white) a) ∙ ap (λ o. elim o as (λ _. Option (List ℕ)) [ None ↦ None | Some white ↦ Some (c ∷ white) ]) (white_complete white more (second_true (is_white c) (all_are is_white white) a))

pub item_complete : (item : Item) (more : List ℕ) → IsItem item → item_at (item_text item ++ more) ≡ Some item
item_complete (Plain c) more i = cond-false _ _ _ (apart is_plain 92 refl c i) ∙ cond-true _ _ _ i
item_complete (Letter c) more i = cond-true _ _ _ i
item_complete (Control c) more i = cond-true _ _ _ i
item_complete (Decimal a b c) more i =
    let d = first_true (is_digit a) (all_are is_digit (b ∷ c ∷ [])) i.0 in
    cond-false _ _ _ (digit_no_escape a d) ∙ cond-false _ _ _ (apart is_digit 94 refl a d) ∙ cond-false _ _ _ (apart is_digit 117 refl a d) ∙ cond-true _ _ _ d ∙ cond-true _ _ _ (both_true _ _ i.0 (lt-ltb _ _ i.1))
item_complete (Hexadecimal a b c d) more i = cond-true _ _ _ (both_true _ _ i.0 (lt-ltb _ _ i.1))
item_complete (Gap []) more i = absurd (false_is_true i)
item_complete (Gap (c ∷ white)) more i =
    let w = first_true (is_white c) (all_are is_white white) i in
    cond-false _ _ _ (white_no_escape c w) ∙ cond-false _ _ _ (apart is_white 94 refl c w) ∙ cond-false _ _ _ (apart is_white 117 refl c w) ∙ cond-false _ _ _ (white_no_digit c w) ∙ cond-true _ _ _ w
    ∙ ap (λ o. elim o as (λ _. Option Item) [ None ↦ None | Some white ↦ Some (Gap white) ]) (white_complete (c ∷ white) more i)
