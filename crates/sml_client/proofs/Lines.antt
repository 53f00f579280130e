-- Lines of heads, one after the other.
use Rattle.std.proofs.Common.{◌≡◌, ◌++◌, ◌∷◌, ◌+◌, ◌-◌, ◌<◌, ◌==◌, ◌⊎◌, ℕ, List, [], Bool, true, false, Option, Some, None, inl, inr, refl, sym, ap, ◌∙◌, append_assoc, append-nil, length, length-append, subst, arith}
use Rattle.std.proofs.lemmas.Bool.{eqb-true, eqb-false}
use Rattle.std.specs.List.{AllByRecursion}
use Rattle.sml_client.specs.Lengths.{TellsLength, TellsNone}
use Rattle.sml_client.specs.Heads.{BeginsWithHead, HasText, IsHeadOf, IsLine, LineTellsNone, Told, ended, head_with}
use Rattle.sml_client.specs.Streams.{AreEmptyLines}

pub each_more : {X : Type 0} (P : X → Type 0) (xs : List X) (x : X) → AllByRecursion P xs → P x → AllByRecursion P (xs ++ (x ∷ []))
each_more P [] x h k = (k, tt)
each_more P (y ∷ ys) x h k = (h.0, each_more P ys x h.1 k)

-- the lines with one more
pub ended_more : (lines : List (List ℕ)) (line rest : List ℕ) → ended lines ++ (line ++ (10 ∷ rest)) ≡ ended (lines ++ (line ∷ [])) ++ rest
ended_more [] line rest = sym (append_assoc line (10 ∷ []) rest)
ended_more (l ∷ ls) line rest =
    append_assoc l (10 ∷ ended ls) (line ++ (10 ∷ rest)) ∙ ap (λ t. l ++ (10 ∷ t)) (ended_more ls line rest)
    ∙ sym (append_assoc l (10 ∷ ended (ls ++ (line ∷ []))) rest)

-- an empty line after empty lines
pub empty_more : (passed head last : List ℕ) → AreEmptyLines passed → head ≡ last ++ (10 ∷ []) → HasText last [] → AreEmptyLines (passed ++ head)
empty_more passed head last h e t = (
  h.0 ++ (last ∷ []),
  ap (λ l. l ++ head) h.1 ∙ ap (λ l. ended h.0 ++ l) e ∙ ended_more h.0 last [] ∙ append-nil (ended (h.0 ++ (last ∷ []))),
  each_more (λ line. HasText line []) h.0 last h.2 t,
)

-- what is told after one more line
pub told_more : (lines : List (List ℕ)) (o : Option ℕ) (line : List ℕ) → Told lines o → LineTellsNone line → Told (lines ++ (line ∷ [])) o
told_more lines None line h k = each_more LineTellsNone lines line h k
told_more lines (Some n) line h k = (
  h.0,
  h.1,
  h.2 ++ (line ∷ []),
  ap (λ ls. ls ++ (line ∷ [])) h.3 ∙ append_assoc h.0 (h.1 ∷ h.2) (line ∷ []),
  h.4,
  each_more LineTellsNone h.2 line h.5 k,
)

-- what is told after a line with this text
pub told_next : (line text : List ℕ) (o p : Option ℕ) → HasText line text → ((n : ℕ) × (p ≡ Some n) × TellsLength text n) ⊎ ((p ≡ o) × TellsNone text)
    → (lines : List (List ℕ)) → Told lines o → Told (lines ++ (line ∷ [])) p
told_next line text o p t next lines h =
    elim next [
      | inl k ↦ subst (Told (lines ++ (line ∷ []))) (sym k.1) (lines, line, [], refl, (text, t, k.2), tt)
      | inr k ↦ subst (Told (lines ++ (line ∷ []))) (sym k.0) (told_more lines o line h (text, t, k.1))
    ]

pub is_none : (xs : List ℕ) → (length xs == 0) ≡ true → xs ≡ []
is_none [] e = refl
is_none (x ∷ xs) e = let n : length (x ∷ xs) ≡ 0 = eqb-true (length (x ∷ xs)) 0 e in absurd (omega (arith, n))

pub is_some : (xs : List ℕ) → (length xs == 0) ≡ false → 0 < length xs
is_some xs e = let n = eqb-false (length xs) 0 e in omega (arith, n)

-- the lines so far, without an empty one, and the length that they tell
pub record HeadSoFar (bytes rest : List ℕ) (told : Option ℕ) (is_first : Bool) : Type 0 where
  pub lines : List (List ℕ)
  pub whole : bytes ≡ ended lines ++ rest
  pub each : AllByRecursion IsLine lines
  pub tells : Told lines told
  pub first : is_first ≡ true → lines ≡ []
  pub later : is_first ≡ false → 0 < length lines

some_more : {X : Type 0} (xs : List X) (x : X) → 0 < length (xs ++ (x ∷ []))
some_more xs x = omega (arith, length-append xs (x ∷ []))

pub so_far_more : (bytes rest line others : List ℕ) (o p : Option ℕ) (b : Bool) → HeadSoFar bytes rest o b → rest ≡ line ++ (10 ∷ others) → IsLine line
    → ((lines : List (List ℕ)) → Told lines o → Told (lines ++ (line ∷ [])) p) → HeadSoFar bytes others p false
so_far_more bytes rest line others o p b h e l t = record {
  lines = h.lines ++ (line ∷ []);
  whole = h.whole ∙ ap (λ r. ended h.lines ++ r) e ∙ ended_more h.lines line others;
  each = each_more IsLine h.lines line h.each l;
  tells = t h.lines h.tells;
  first = λ f. let g : false ≡ true = f in cc;
  later = λ f. some_more h.lines line;
}

begins : (bytes rest line others : List ℕ) (lines : List (List ℕ)) → bytes ≡ ended lines ++ rest → rest ≡ line ++ (10 ∷ others) → HasText line [] → AllByRecursion IsLine lines
    → BeginsWithHead bytes (length bytes - length others) lines
begins bytes rest line others lines e f t each =
    let head = ended lines ++ (line ++ (10 ∷ [])) in
    let whole : bytes ≡ head ++ others =
    e ∙ ap (λ r. ended lines ++ r) (f ∙ sym (append_assoc line (10 ∷ []) others)) ∙ sym (append_assoc (ended lines) (line ++ (10 ∷ [])) others) in
    let count : length bytes ≡ length head + length others = ap length whole ∙ length-append head others in
    record { head = head; rest = others; whole = whole; counted = omega (arith, count); is_head = record { last = line; whole = refl; empty = t; each = each } }

pub head_ends : (bytes rest line others : List ℕ) (o : Option ℕ) (b : Bool) (size : ℕ) → HeadSoFar bytes rest o b → rest ≡ line ++ (10 ∷ others) → HasText line []
    → size ≡ length bytes - length others → IsHeadOf bytes (head_with size o b)
head_ends bytes rest line others o b size h e t s =
    subst (λ k. IsHeadOf bytes (head_with k o b)) (sym s) (cases o b h)
  where
    cases : (o : Option ℕ) (b : Bool) → HeadSoFar bytes rest o b → IsHeadOf bytes (head_with (length bytes - length others) o b)
    cases (Some n) b h = (h.lines, begins bytes rest line others h.lines h.whole e t h.each, h.tells)
    cases None true h = subst (BeginsWithHead bytes (length bytes - length others)) (h.first refl) (begins bytes rest line others h.lines h.whole e t h.each)
    cases None false h = inl (h.lines, begins bytes rest line others h.lines h.whole e t h.each, h.later refl, h.tells)
