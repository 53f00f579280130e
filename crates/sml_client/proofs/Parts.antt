-- The parts of a line that tells a length, which are the same however they are found.
use Rattle.std.proofs.Common.{◌≡◌, ◌++◌, ◌∷◌, ◌+◌, ◌-◌, ◌*◌, ◌<◌, ◌≤◌, ◌↔◌, ◌==◌, inl, inr, ℕ, List, [], Bool, true, false, MatchBool, refl, sym, ap, ◌∙◌, append_assoc, append-nil, length, map, codes, drop, subst, arith}
use Rattle.std.proofs.lemmas.List.{map-append, length-append, length-map}
use Rattle.std.proofs.lemmas.List.Prefix.{end_rest}
use Rattle.std.proofs.lemmas.Bool.{and_parts, leb-true, eqb-true, ne_eqb, or_cases, or_from, cases_from_iff, false_from_ne_true}
use Rattle.std.specs.Char.{is_ascii_digit, to_ascii_lowercase}
use Rattle.sml_client.specs.Lengths.{EachPasses, EndsOff, EndsWithName, IsNamed, Leaves, TellsLength, is_blank, number_after}
use Rattle.sml_client.proofs.Ends.{each_last, has_last, last_same, leaves_same}

pub number_more : (n : ℕ) (ds : List ℕ) (d : ℕ) → number_after n (ds ++ (d ∷ [])) ≡ number_after n ds * 10 + (d - 48)
number_more n [] d = refl
number_more n (x ∷ ds) d = number_more (n * 10 + (x - 48)) ds d

digit_off : (d : ℕ) → is_ascii_digit d ≡ true → is_blank d ≡ false
digit_off d h =
    let p = and_parts _ _ h in
    let low : 48 ≤ d = leb-true 48 d p.0 in
    or_from (d == 32) (d == 9) (ne_eqb d 32 (λ e. omega (arith, e, low))) (ne_eqb d 9 (λ e. omega (arith, e, low)))

blank_off : (b : ℕ) → is_blank b ≡ true → is_ascii_digit b ≡ false
blank_off b h =
    elim (or_cases (b == 32) (b == 9) h) [
      | inl e ↦ ap is_ascii_digit (eqb-true b 32 e)
      | inr e ↦ ap is_ascii_digit (eqb-true b 9 e)
    ]

-- some digits end off a blank
digits_off : (front ds : List ℕ) → 0 < length ds → EachPasses is_ascii_digit ds → EndsOff is_blank (front ++ ds)
digits_off front ds l each =
    elim (has_last ds) [
      | inl e ↦ let n : length ds ≡ 0 = ap length e in absurd (omega (arith, n, l))
      | inr h ↦ inr (
        front ++ h.0,
        h.1,
        ap (λ t. front ++ t) h.2 ∙ sym (append_assoc front h.0 (h.1 ∷ [])),
        digit_off h.1 (each_last is_ascii_digit h.0 (h.1 ∷ []) (subst (EachPasses is_ascii_digit) h.2 each)).0,
      )
    ]

-- a name and blanks end off a digit
front_off : (name front : List ℕ) → IsNamed name → EachPasses is_blank front → EndsOff is_ascii_digit (name ++ front)
front_off name front t each =
    elim (has_last front) [
      | inl e ↦ inr (t.before ++ t.name ++ t.gap, 58, ap (λ f. name ++ f) e ∙ append-nil name ∙ t.whole, refl)
      | inr h ↦ inr (
        name ++ h.0,
        h.1,
        ap (λ t. name ++ t) h.2 ∙ sym (append_assoc name h.0 (h.1 ∷ [])),
        blank_off h.1 (each_last is_blank h.0 (h.1 ∷ []) (subst (EachPasses is_blank) h.2 each)).0,
      )
    ]

-- the letters of the name
abbrev letters : List ℕ
letters = codes "content-length"

lower_blank : (b : ℕ) → is_blank b ≡ true → to_ascii_lowercase b ≡ 104 → ⊥
lower_blank b h e =
    elim (or_cases (b == 32) (b == 9) h) [
      | inl f ↦ let k : 32 ≡ 104 = sym (ap to_ascii_lowercase (eqb-true b 32 f)) ∙ e in omega (arith, k)
      | inr f ↦ let k : 9 ≡ 104 = sym (ap to_ascii_lowercase (eqb-true b 9 f)) ∙ e in omega (arith, k)
    ]

blank_case : (b : ℕ) → to_ascii_lowercase b ≡ 104 → is_blank b ≡ false
blank_case b e = false_from_ne_true (is_blank b) (λ h. lower_blank b h e)

-- the name ends off a blank
name_off : (before name : List ℕ) → map to_ascii_lowercase name ≡ letters → EndsOff is_blank (before ++ name)
name_off before name e =
    elim (has_last name) [
      | inl n ↦ let f : length letters ≡ 0 = ap length (sym e ∙ ap (map to_ascii_lowercase) n) in absurd (omega (arith, f))
      | inr h ↦ inr (
        before ++ h.0,
        h.1,
        ap (λ t. before ++ t) h.2 ∙ sym (append_assoc before h.0 (h.1 ∷ [])),
        blank_case h.1 (last_same (map to_ascii_lowercase h.0) (codes "content-lengt") (to_ascii_lowercase h.1) 104
            (sym (map-append to_ascii_lowercase h.0 (h.1 ∷ [])) ∙ sym (ap (map to_ascii_lowercase) h.2) ∙ e)).1,
      )
    ]

pub name_tested : (b : Bool) (bytes before tail : List ℕ) → bytes ≡ before ++ tail → length tail ≡ 14 → (b ≡ true) ↔ (map to_ascii_lowercase tail ≡ letters)
    → MatchBool b (EndsWithName bytes) (EndsWithName bytes → ⊥)
name_tested b bytes before tail whole size t =
    cases_from_iff (
      λ e. (before, tail, whole, t.0 e),
      λ h.
          let count : length h.1 ≡ 14 = sym (length-map h.1 to_ascii_lowercase) ∙ ap length h.3 in
          let same : tail ≡ h.1 = sym (end_rest bytes tail before whole) ∙ ap (λ n. drop (length bytes - n) bytes) (size ∙ sym count) ∙ end_rest bytes h.1 h.0 h.2 in
          t.1 (ap (map to_ascii_lowercase) same ∙ h.3),
    )

pub named_tested : (b : Bool) (bytes before rest : List ℕ) → bytes ≡ before ++ (58 ∷ []) → Leaves is_blank before rest → MatchBool b (EndsWithName rest) (EndsWithName rest → ⊥)
    → MatchBool b (IsNamed bytes) (IsNamed bytes → ⊥)
named_tested true bytes before rest e l t = record {
  before = t.0;
  name = t.1;
  gap = l.taken;
  whole = e ∙ ap (λ s. s ++ (58 ∷ [])) (l.whole ∙ ap (λ r. r ++ l.taken) t.2);
  named = t.3;
  blank_gap = l.passes;
}
named_tested false bytes before rest e l t =
    λ h.
    let parted = last_same before (h.before ++ h.name ++ h.gap) 58 58 (sym e ∙ h.whole) in
    let same = leaves_same is_blank rest l.taken (h.before ++ h.name) h.gap (sym l.whole ∙ parted.0) l.passes l.stops h.blank_gap (name_off h.before h.name h.named) in
    t (h.before, h.name, same.0, h.named)

-- what stands before the digits, and how many there are
pub parts_of : (line text left : List ℕ) (n : ℕ) → Leaves is_blank line text → Leaves is_ascii_digit text left → (t : TellsLength line n)
    → (left ≡ t.name ++ t.front) × (length text ≡ length left + length t.digits)
parts_of line text left n l k t =
    let body = (t.name ++ t.front) ++ t.digits in
    let one = leaves_same is_blank text l.taken body t.back (sym l.whole ∙ t.whole) l.passes l.stops t.blank_back (digits_off (t.name ++ t.front) t.digits t.some_digit t.all_digits) in
    let two = leaves_same is_ascii_digit left k.taken (t.name ++ t.front) t.digits (sym k.whole ∙ one.0) k.passes k.stops t.all_digits (front_off t.name t.front t.named t.blank_front) in
    (two.0, ap length k.whole ∙ length-append left k.taken ∙ ap (λ d. length left + length d) two.1)

pub none_left : (line text left : List ℕ) → Leaves is_blank line text → Leaves is_ascii_digit text left → length text ≤ length left → (n : ℕ) → TellsLength line n → ⊥
none_left line text left l k few n t = let count = (parts_of line text left n l k t).1 in let some = t.some_digit in omega (arith, count, few, some)

pub none_named : (line text left rest : List ℕ) → Leaves is_blank line text → Leaves is_ascii_digit text left → Leaves is_blank left rest → (IsNamed rest → ⊥)
    → (n : ℕ) → TellsLength line n → ⊥
none_named line text left rest l k m other n t =
    let before = (parts_of line text left n l k t).0 in
    let colon : EndsOff is_blank t.name = inr (t.named.before ++ t.named.name ++ t.named.gap, 58, t.named.whole, refl) in
    let same = leaves_same is_blank rest m.taken t.name t.front (sym m.whole ∙ before) m.passes m.stops t.blank_front colon in
    other (subst IsNamed (sym same.0) t.named)
