-- What a line's words mean, from tests of the words.
use Rattle.std.proofs.Common.{◌≡◌, ℕ, zero, ◌+◌, ◌-◌, ◌<◌, ◌≤◌, Bool, true, false, not, cond, ◌&&◌, ◌||◌, leb, suc, List, [], ◌∷◌, ◌++◌, length, map, take, drop, get_or, codes, Some, None, refl, ap, sym, subst, ◌∙◌, append_assoc, Bor, String, inl, inr, arith, if◌then◌else◌, string_bytes}
use Rattle.std.specs.Global.{Global}
use Rattle.std.specs.Str.{bytes_eq, IsUtf8, IsAscii}
use Rattle.std.specs.List.{list_all, list_any}
use Rattle.std.proofs.lemmas.Bool.{and_parts, and_cases, or_parts, or_cases, or_from, or_left, or_right, lt-leb, le-leb, false≢true}
use Rattle.std.proofs.lemmas.Bool.Decides.{nat_tests}
use Rattle.std.proofs.lemmas.Cmp.{nat_list_eq_equiv}
use Rattle.std.proofs.lemmas.List.{length-drop, length-map, take_all, take_more, take-append-drop, map-append}
use Rattle.std.proofs.lemmas.List.Folds.{list_any-append}
use Rattle.std.proofs.Math.ListN.{get_or-map}
use Rattle.std.proofs.lemmas.List.Elements.{filter_map-append}
use Rattle.std.proofs.lemmas.Str.{IsUtf8-from_ascii}
use Rattle.std.proofs.lemmas.Str.Ascii.{IsAscii-nil, IsAscii-cons}
use Rattle.indexmap.specs.IndexSet.{insert_key}
use Rattle.sml_projects.specs.declared.manifest.ProjectCode.TheVariants.{O3, O4}
use Rattle.sml_projects.specs.ProjectFiles.{UnitLine, Meaning, words_of, passed_over, lists, bad_form, is_remark, is_name_byte, is_unit_name, is_file_name, has_repeats, is_too_much, is_repeated, listing, unit_of, units_of, meaning, meaning_of_words, line_fault}

name_byte_ascii : (b : ℕ) → is_name_byte b ≡ true → b < 128
name_byte_ascii b h = grind (arith, nat_tests)

file_byte_ascii : (b : ℕ) → (leb 33 b && leb b 126) ≡ true → b < 128
file_byte_ascii b h = grind (arith, nat_tests)

name_ascii : (w : List ℕ) → list_all is_name_byte w ≡ true → IsAscii w
name_ascii [] h = IsAscii-nil
name_ascii (b ∷ bs) h = let p = and_parts (is_name_byte b) (list_all is_name_byte bs) h in IsAscii-cons b bs (name_byte_ascii b p.0) (name_ascii bs p.1)

file_ascii : (w : List ℕ) → list_all (λ b. leb 33 b && leb b 126) w ≡ true → IsAscii w
file_ascii [] h = IsAscii-nil
file_ascii (b ∷ bs) h =
    let p = and_parts (leb 33 b && leb b 126) (list_all (λ x. leb 33 x && leb x 126) bs) h in
    IsAscii-cons b bs (file_byte_ascii b p.0) (file_ascii bs p.1)

pub name_utf8 : (w : List ℕ) → is_unit_name w ≡ true → IsUtf8 w
name_utf8 w h = IsUtf8-from_ascii w (name_ascii w (and_parts (leb (length w) 64) _ h).1)

pub file_utf8 : (w : List ℕ) → is_file_name w ≡ true → IsUtf8 w
file_utf8 w h = IsUtf8-from_ascii w (file_ascii w h)

abbrev pub no_word : Bor (List ℕ)
no_word = record { ref_ptr = (0, 0); now = [] }

-- the bytes of the word with so many words before it
abbrev pub word_at : List (Bor (List ℕ)) → ℕ → List ℕ
word_at items k = (get_or items k no_word).now

abbrev pub bytes_in : List (Bor (List ℕ)) → List (List ℕ)
bytes_in items = map (λ w. w.now) items

pub same_word : (items : List (Bor (List ℕ))) (ws : List (List ℕ)) (k : ℕ) → map (λ w. w.now) items ≡ ws → word_at items k ≡ get_or ws k []
same_word items ws k e = sym (get_or-map (λ w. w.now) items k no_word) ∙ ap (λ l. get_or l k []) e

pub same_length : (items : List (Bor (List ℕ))) (ws : List (List ℕ)) → map (λ w. w.now) items ≡ ws → length items ≡ length ws
same_length items ws e = sym (length-map items (λ w. w.now)) ∙ ap length e

no_words : (items : List (Bor (List ℕ))) → length items ≡ 0 → meaning_of_words (bytes_in items) ≡ passed_over
no_words [] h = refl
no_words (w ∷ ws) h = absurd (omega arith)

-- what a line means whose first word is no remark
abbrev meaning_after : List ℕ → List (List ℕ) → Meaning
meaning_after w ws = cond (bytes_eq w (codes "unit")) (listing ws) bad_form

remark : (items : List (Bor (List ℕ))) → (length items ≡ 0 → ⊥) → is_remark (word_at items 0) ≡ true → meaning_of_words (bytes_in items) ≡ passed_over
remark [] h r = absurd (h refl)
remark (w ∷ ws) h r = λ i. cond (r i) passed_over (meaning_after w.now (bytes_in ws))

unremarked : (w : List ℕ) (ws : List (List ℕ)) → is_remark w ≡ false → meaning_of_words (w ∷ ws) ≡ meaning_after w ws
unremarked w ws r = λ i. cond (r i) passed_over (meaning_after w ws)

too_much : (us : List UnitLine) (u : UnitLine) → is_too_much us u ≡ true → line_fault us (lists u) ≡ Some O4
too_much us u e = λ i. cond (e i) (Some O4) (cond (is_repeated us u) (Some O3) None)

fault_of_test : (us : List UnitLine) (b : Bool) (m : Meaning) → line_fault us m ≡ Some O4 → line_fault us (cond b m bad_form) ≡ Some O4
fault_of_test us true m h = h
fault_of_test us false m h = refl

few_words : (us : List UnitLine) (items : List (Bor (List ℕ))) → (length items ≡ 0 → ⊥) → is_remark (word_at items 0) ≡ false → length items < 3 → line_fault us (meaning_of_words (bytes_in items)) ≡ Some O4
few_words us [] h r n = absurd (h refl)
few_words us (w ∷ []) h r n = subst (λ m. line_fault us m ≡ Some O4) (sym (unremarked w.now [] r)) (fault_of_test us (bytes_eq w.now (codes "unit")) bad_form refl)
few_words us (w ∷ x ∷ []) h r n = subst (λ m. line_fault us m ≡ Some O4) (sym (unremarked w.now (x.now ∷ []) r)) (fault_of_test us (bytes_eq w.now (codes "unit")) bad_form refl)
few_words us (w ∷ x ∷ f ∷ ws) h r n = absurd (omega arith)

spelled : (items : List (Bor (List ℕ))) → 3 ≤ length items → bytes_in items ≡ word_at items 0 ∷ word_at items 1 ∷ word_at items 2 ∷ bytes_in (drop 3 items)
spelled [] h = absurd (omega arith)
spelled (w ∷ []) h = absurd (omega arith)
spelled (w ∷ x ∷ []) h = absurd (omega arith)
spelled (w ∷ x ∷ f ∷ ws) h = refl

-- the tests of the words of a listing
abbrev pub listing_tests : List ℕ → List ℕ → List ℕ → List (List ℕ) → Bool
listing_tests w n f ns = bytes_eq w (codes "unit") && (is_unit_name n && (is_file_name f && list_all is_unit_name ns))

bad_words : (us : List UnitLine) (w n f : List ℕ) (ns : List (List ℕ)) → is_remark w ≡ false → listing_tests w n f ns ≡ false → line_fault us (meaning_of_words (w ∷ n ∷ f ∷ ns)) ≡ Some O4
bad_words us w n f ns r h =
    let u : UnitLine = record { name = n; file = f; needs = ns } in
    subst (λ m. line_fault us m ≡ Some O4) (sym (unremarked w (n ∷ f ∷ ns) r))
    (elim (and_cases (bytes_eq w (codes "unit")) (is_unit_name n && (is_file_name f && list_all is_unit_name ns)) h) [
      | inl e ↦ subst (λ b. line_fault us (cond b (listing (n ∷ f ∷ ns)) bad_form) ≡ Some O4) (sym e) refl
      | inr e ↦ fault_of_test us (bytes_eq w (codes "unit")) (listing (n ∷ f ∷ ns)) (subst (λ b. line_fault us (cond b (lists u) bad_form) ≡ Some O4) (sym e) refl)
    ])

over_words : (us : List UnitLine) (w n f : List ℕ) (ns : List (List ℕ)) → is_remark w ≡ false → is_too_much us (record { name = n; file = f; needs = ns }) ≡ true → line_fault us (meaning_of_words (w ∷ n ∷ f ∷ ns)) ≡ Some O4
over_words us w n f ns r h =
    let u : UnitLine = record { name = n; file = f; needs = ns } in
    subst (λ m. line_fault us m ≡ Some O4) (sym (unremarked w (n ∷ f ∷ ns) r))
    (fault_of_test us (bytes_eq w (codes "unit")) (listing (n ∷ f ∷ ns)) (fault_of_test us (is_unit_name n && (is_file_name f && list_all is_unit_name ns)) (lists u) (too_much us u h)))

good_words : (w n f : List ℕ) (ns : List (List ℕ)) → is_remark w ≡ false → bytes_eq w (codes "unit") ≡ true → is_unit_name n ≡ true → is_file_name f ≡ true → list_all is_unit_name ns ≡ true
    → meaning_of_words (w ∷ n ∷ f ∷ ns) ≡ lists (record { name = n; file = f; needs = ns })
good_words w n f ns r a b d g =
    unremarked w (n ∷ f ∷ ns) r ∙ (λ i. cond (a i) (cond (b i && (d i && g i)) (lists (record { name = n; file = f; needs = ns })) bad_form) bad_form)

-- the same of the words that were found in a line

means : (line : List ℕ) (items : List (Bor (List ℕ))) → map (λ w. w.now) items ≡ words_of line → meaning line ≡ meaning_of_words (bytes_in items)
unfolding meaning
means line items e = ap meaning_of_words (sym e)

means_listing : (line : List ℕ) (items : List (Bor (List ℕ))) → map (λ w. w.now) items ≡ words_of line → 3 ≤ length items
    → meaning line ≡ meaning_of_words (word_at items 0 ∷ word_at items 1 ∷ word_at items 2 ∷ bytes_in (drop 3 items))
means_listing line items e h = means line items e ∙ ap meaning_of_words (spelled items h)

pub line_without_words : (line : List ℕ) (items : List (Bor (List ℕ))) → map (λ w. w.now) items ≡ words_of line → length items ≡ 0 → meaning line ≡ passed_over
line_without_words line items e h = means line items e ∙ no_words items h

pub line_of_remark : (line : List ℕ) (items : List (Bor (List ℕ))) → map (λ w. w.now) items ≡ words_of line → (length items ≡ 0 → ⊥) → is_remark (word_at items 0) ≡ true → meaning line ≡ passed_over
line_of_remark line items e h r = means line items e ∙ remark items h r

pub line_of_few_words : (line : List ℕ) (items : List (Bor (List ℕ))) → map (λ w. w.now) items ≡ words_of line → (length items ≡ 0 → ⊥) → is_remark (word_at items 0) ≡ false → length items < 3
    → (us : List UnitLine) → line_fault us (meaning line) ≡ Some O4
line_of_few_words line items e h r n us = ap (line_fault us) (means line items e) ∙ few_words us items h r n

pub line_of_bad_words : (line : List ℕ) (items : List (Bor (List ℕ))) → map (λ w. w.now) items ≡ words_of line → is_remark (word_at items 0) ≡ false → 3 ≤ length items
    → listing_tests (word_at items 0) (word_at items 1) (word_at items 2) (bytes_in (drop 3 items)) ≡ false → (us : List UnitLine) → line_fault us (meaning line) ≡ Some O4
line_of_bad_words line items e r n t us = ap (line_fault us) (means_listing line items e n) ∙ bad_words us (word_at items 0) (word_at items 1) (word_at items 2) (bytes_in (drop 3 items)) r t

-- after as many units as there may be
pub line_too_late : (line : List ℕ) (items : List (Bor (List ℕ))) → map (λ w. w.now) items ≡ words_of line → is_remark (word_at items 0) ≡ false → 3 ≤ length items
    → (us : List UnitLine) → 4096 ≤ length us → line_fault us (meaning line) ≡ Some O4
line_too_late line items e r n us h =
    ap (line_fault us) (means_listing line items e n)
    ∙ over_words us (word_at items 0) (word_at items 1) (word_at items 2) (bytes_in (drop 3 items)) r (or_left (leb 4096 (length us)) _ (le-leb 4096 (length us) h))

-- with a need twice
pub line_of_repeats : (line : List ℕ) (items : List (Bor (List ℕ))) → map (λ w. w.now) items ≡ words_of line → is_remark (word_at items 0) ≡ false → 3 ≤ length items
    → has_repeats (bytes_in (drop 3 items)) ≡ true → (us : List UnitLine) → line_fault us (meaning line) ≡ Some O4
line_of_repeats line items e r n h us =
    ap (line_fault us) (means_listing line items e n)
    ∙ over_words us (word_at items 0) (word_at items 1) (word_at items 2) (bytes_in (drop 3 items)) r (or_right (leb 4096 (length us)) _ h)

pub line_of_good_words : (line : List ℕ) (items : List (Bor (List ℕ))) → map (λ w. w.now) items ≡ words_of line → is_remark (word_at items 0) ≡ false → 3 ≤ length items
    → bytes_eq (word_at items 0) (codes "unit") ≡ true → is_unit_name (word_at items 1) ≡ true → is_file_name (word_at items 2) ≡ true → list_all is_unit_name (bytes_in (drop 3 items)) ≡ true
    → meaning line ≡ lists (record { name = word_at items 1; file = word_at items 2; needs = bytes_in (drop 3 items) })
line_of_good_words line items e r n a b d g = means_listing line items e n ∙ good_words (word_at items 0) (word_at items 1) (word_at items 2) (bytes_in (drop 3 items)) r a b d g

pub differs : (b c : Bool) → c ≡ not b → c ≡ true → b ≡ false
differs true c e h = cc
differs false c e h = refl

pub agrees : (b c : Bool) → c ≡ not b → c ≡ false → b ≡ true
agrees true c e h = refl
agrees false c e h = cc

-- whether a line of good form has a fault

pub clear_listing : (us : List UnitLine) (u : UnitLine) → length us < 4096 → has_repeats u.needs ≡ false → is_repeated us u ≡ false → line_fault us (lists u) ≡ None
clear_listing us u h r n = λ i. cond (lt-leb 4096 (length us) h i || r i) (Some O4) (cond (n i) (Some O3) None)

pub repeated_listing : (us : List UnitLine) (u : UnitLine) → length us < 4096 → has_repeats u.needs ≡ false → is_repeated us u ≡ true → line_fault us (lists u) ≡ Some O3
repeated_listing us u h r n = λ i. cond (lt-leb 4096 (length us) h i || r i) (Some O4) (cond (n i) (Some O3) None)

pub units-more : (ls : List (List ℕ)) (i : ℕ) → i < length ls → units_of (take (i + 1) ls) ≡ units_of (take i ls) ++ units_of (get_or ls i [] ∷ [])
units-more ls i h = ap units_of (take_more ls i [] h) ∙ filter_map-append (λ l. unit_of (meaning l)) (take i ls) (get_or ls i [] ∷ [])

-- words that stand twice

fresh_word : (ws : List (List ℕ)) (w : List ℕ) → has_repeats ws ≡ false → list_any (bytes_eq w) ws ≡ false → has_repeats (ws ++ w ∷ []) ≡ false
fresh_word [] w h n = refl
fresh_word (v ∷ ws) w h n =
    let a = or_parts (list_any (bytes_eq v) ws) (has_repeats ws) h in
    let b = or_parts (bytes_eq w v) (list_any (bytes_eq w) ws) n in
    or_from (list_any (bytes_eq v) (ws ++ w ∷ [])) (has_repeats (ws ++ w ∷ []))
    (list_any-append (bytes_eq v) ws (w ∷ []) ∙ or_from (list_any (bytes_eq v) ws) (bytes_eq v w || false) a.0 (or_from (bytes_eq v w) false (nat_list_eq_equiv.symm v w ∙ b.0) refl))
    (fresh_word ws w a.1 b.1)

word_again : (ws vs : List (List ℕ)) (w : List ℕ) → list_any (bytes_eq w) ws ≡ true → has_repeats (ws ++ w ∷ vs) ≡ true
word_again [] vs w h = absurd (false≢true h)
word_again (v ∷ ws) vs w h =
    elim (or_cases (bytes_eq w v) (list_any (bytes_eq w) ws) h) [
      | inl e ↦ or_left (list_any (bytes_eq v) (ws ++ w ∷ vs)) (has_repeats (ws ++ w ∷ vs))
          (list_any-append (bytes_eq v) ws (w ∷ vs) ∙ or_right (list_any (bytes_eq v) ws) (bytes_eq v w || list_any (bytes_eq v) vs) (or_left (bytes_eq v w) (list_any (bytes_eq v) vs) (nat_list_eq_equiv.symm v w ∙ e)))
      | inr e ↦ or_right (list_any (bytes_eq v) (ws ++ w ∷ vs)) (has_repeats (ws ++ w ∷ vs)) (word_again ws vs w e)
    ]

abbrev pub same_item : Bor (List ℕ) → Bor (List ℕ) → Bool
same_item x y = bytes_eq x.now y.now

any_item : (items : List (Bor (List ℕ))) (x : Bor (List ℕ)) → list_any (same_item x) items ≡ list_any (bytes_eq x.now) (bytes_in items)
any_item [] x = refl
any_item (y ∷ items) x = ap (λ b. bytes_eq x.now y.now || b) (any_item items x)

more_bytes : (items : List (Bor (List ℕ))) (i : ℕ) → i < length items → bytes_in (take (i + 1) items) ≡ bytes_in (take i items) ++ word_at items i ∷ []
more_bytes items i h = ap bytes_in (take_more items i no_word h) ∙ map-append (λ w. w.now) (take i items) (get_or items i no_word ∷ [])

-- the words so far, none of which stands twice
pub record Apart (items : List (Bor (List ℕ))) (i : ℕ) (keys : List (Bor (List ℕ))) : Type 0 where
  pub keys_are : keys ≡ take i items
  pub clear : has_repeats (bytes_in (take i items)) ≡ false

pub apart_none : (items : List (Bor (List ℕ))) (keys : List (Bor (List ℕ))) → keys ≡ [] → Apart items 0 keys
apart_none items keys e = record { keys_are = e; clear = refl }

told_before : (items keys : List (Bor (List ℕ))) (i : ℕ) (x : Bor (List ℕ)) → x ≡ get_or items i no_word → Apart items i keys → list_any (same_item x) keys ≡ list_any (bytes_eq (word_at items i)) (bytes_in (take i items))
told_before items keys i x is a = (λ j. list_any (same_item (is j)) (a.keys_are j)) ∙ any_item (take i items) (get_or items i no_word)

pub apart_more : (items keys new : List (Bor (List ℕ))) (i : ℕ) (x : Bor (List ℕ)) → x ≡ get_or items i no_word → i < length items → Apart items i keys → list_any (same_item x) keys ≡ false
    → new ≡ insert_key same_item keys x → Apart items (i + 1) new
apart_more items keys new i x is h a n e =
    let fresh : list_any (bytes_eq (word_at items i)) (bytes_in (take i items)) ≡ false = sym (told_before items keys i x is a) ∙ n in
    record {
      keys_are = e ∙ ap (λ b. if b then keys else keys ++ x ∷ []) n ∙ (λ j. a.keys_are j ++ is j ∷ []) ∙ sym (take_more items i no_word h);
      clear = ap has_repeats (more_bytes items i h) ∙ fresh_word (bytes_in (take i items)) (word_at items i) a.clear fresh;
    }

pub apart_again : (items keys : List (Bor (List ℕ))) (i : ℕ) (x : Bor (List ℕ)) → x ≡ get_or items i no_word → i < length items → Apart items i keys → list_any (same_item x) keys ≡ true → has_repeats (bytes_in items) ≡ true
apart_again items keys i x is h a n =
    let there : list_any (bytes_eq (word_at items i)) (bytes_in (take i items)) ≡ true = sym (told_before items keys i x is a) ∙ n in
    let split : bytes_in items ≡ bytes_in (take i items) ++ word_at items i ∷ bytes_in (drop (i + 1) items) =
    ap bytes_in (sym (take-append-drop (i + 1) items)) ∙ map-append (λ w. w.now) (take (i + 1) items) (drop (i + 1) items) ∙ ap (λ l. l ++ bytes_in (drop (i + 1) items)) (more_bytes items i h)
    ∙ append_assoc (bytes_in (take i items)) (word_at items i ∷ []) (bytes_in (drop (i + 1) items)) in
    ap has_repeats split ∙ word_again (bytes_in (take i items)) (bytes_in (drop (i + 1) items)) (word_at items i) there

-- words as texts

pub name_at : (items : List (Bor (List ℕ))) (i : ℕ) → i < length items → list_all is_unit_name (bytes_in items) ≡ true → is_unit_name (word_at items i) ≡ true
name_at [] i h n = absurd (omega arith)
name_at (x ∷ items) zero h n = (and_parts (is_unit_name x.now) (list_all is_unit_name (bytes_in items)) n).0
name_at (x ∷ items) (suc i) h n = name_at items i (omega arith) (and_parts (is_unit_name x.now) (list_all is_unit_name (bytes_in items)) n).1

pub texts-more : (items : List (Bor (List ℕ))) (i : ℕ) (made new : List (String Global)) (s : String Global) → i < length items → map string_bytes made ≡ bytes_in (take i items) → string_bytes s ≡ word_at items i
    → new ≡ made ++ s ∷ [] → map string_bytes new ≡ bytes_in (take (i + 1) items)
texts-more items i made new s h m is e = ap (map string_bytes) e ∙ map-append string_bytes made (s ∷ []) ∙ (λ j. m j ++ is j ∷ []) ∙ sym (more_bytes items i h)

-- what is after a listing's first words
pub rest_words : (items : List (Bor (List ℕ))) → take (length items - 3) (drop 3 items) ≡ drop 3 items
rest_words items = take_all (length items - 3) (drop 3 items) (omega (arith, length-drop 3 items))
