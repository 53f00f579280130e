-- The longest token among the beginnings of a text, byte by byte.
use Rattle.std.proofs.Common.{◌≡◌, ℕ, ◌+◌, ◌-◌, ◌<◌, ◌≤◌, take, drop, length, get_or, List, [], ◌∷◌, ◌++◌, Bool, true, false, refl, sym, ap, ◌∙◌, subst, arith, inl, inr, cond, Option, Some, None, is_some}
use Rattle.std.specs.Prelude.{◌==◌, codes}
use Rattle.std.proofs.Math.Seq.{take-add}
use Rattle.std.proofs.lemmas.List.{take_more, length-drop, get_or-drop}
use Rattle.std.proofs.lemmas.Bool.{cases_lt}
use Rattle.sml_lex.specs.declared.token.Kind.{Kind}
use Rattle.sml_lex.specs.declared.longest.Lexeme.{Lexeme}
use Rattle.sml_lex.specs.declared.machine.State.{State}
use Rattle.sml_lex.specs.declared.machine.State.TheVariants.{Dead}
use Rattle.sml_lex.specs.Words.{is_text, word_kind}
use Rattle.sml_lex.specs.CodeMachine.{Progress, fresh, step_state, part_after, step, run, kind_at, kind_read, token_kind, IsLongestWithin}

pub run-append : (r : Progress) (a b : List ℕ) → run r (a ++ b) ≡ run (run r a) b
run-append r [] b = refl
run-append r (c ∷ a) b = run-append (step r c) a b

run_dead : (r : Progress) (text : List ℕ) → r.state ≡ Dead → (run r text).state ≡ Dead
run_dead r [] e = e
run_dead r (c ∷ text) e = run_dead (step r c) text (still r.state e)
  where
    still : (s : State) → s ≡ Dead → step_state s (is_some (word_kind r.part)) c ≡ Dead
    still s e = subst (λ s. step_state s (is_some (word_kind r.part)) c ≡ Dead) (sym e) refl

pub run_more : (bytes : List ℕ) (i : ℕ) (d : ℕ) → i < length bytes → run fresh (take (i + 1) bytes) ≡ step (run fresh (take i bytes)) (get_or bytes i d)
run_more bytes i d within = ap (run fresh) (take_more bytes i d within) ∙ run-append fresh (take i bytes) (get_or bytes i d ∷ [])

pub longest_none : (bytes : List ℕ) → IsLongestWithin bytes 0 None
longest_none bytes = λ n l. let z : n ≡ 0 = omega (arith, l) in ap (λ n. token_kind (take n bytes)) z

-- where no longer beginning is a token
longer : (bytes : List ℕ) (i most : ℕ) → i ≤ most → (best : Option Lexeme) → ((n : ℕ) → i < n → n ≤ most → token_kind (take n bytes) ≡ None) → IsLongestWithin bytes i best → IsLongestWithin bytes most best
longer bytes i most more None none x = λ n h. elim (cases_lt i n) [ inl b ↦ none n b h | inr b ↦ x n b ]
longer bytes i most more (Some lexeme) none x = (let w = x.0 in omega (arith, w, more), x.1, λ n l h. elim (cases_lt i n) [ inl b ↦ none n b h | inr b ↦ x.2 n l b ])

pub longest_yes : (bytes : List ℕ) (i : ℕ) (kind : Kind) → token_kind (take (i + 1) bytes) ≡ Some kind → IsLongestWithin bytes (i + 1) (Some (record {
  kind = kind;
  size = i + 1;
}))
longest_yes bytes i kind e = (omega arith, e, λ n l h. absurd (omega (arith, l, h)))

pub longest_no : (bytes : List ℕ) (i : ℕ) (best : Option Lexeme) → token_kind (take (i + 1) bytes) ≡ None → IsLongestWithin bytes i best → IsLongestWithin bytes (i + 1) best
longest_no bytes i best e = longer bytes i (i + 1) (omega arith) best (λ n l h. let z : n ≡ i + 1 = omega (arith, l, h) in ap (λ n. token_kind (take n bytes)) z ∙ e)

-- nothing is a token after a byte after which nothing is
pub longest_dead : (bytes : List ℕ) (i : ℕ) (best : Option Lexeme) → i < length bytes → (run fresh (take (i + 1) bytes)).state ≡ Dead → IsLongestWithin bytes i best → IsLongestWithin bytes (length bytes) best
longest_dead bytes i best within e = longer bytes i (length bytes) (omega (arith, within)) best (λ n l h. refused (run fresh (take n bytes)) (dead n (omega (arith, l))))
  where
    dead : (n : ℕ) → i + 1 ≤ n → (run fresh (take n bytes)).state ≡ Dead
    dead n h =
        let split : take n bytes ≡ take (i + 1) bytes ++ take (n - (i + 1)) (drop (i + 1) bytes) = ap (λ k. take k bytes) (omega (arith, h)) ∙ take-add (i + 1) (n - (i + 1)) bytes in
        ap (λ t. (run fresh t).state) split ∙ ap (λ r. r.state) (run-append fresh (take (i + 1) bytes) (take (n - (i + 1)) (drop (i + 1) bytes)))
        ∙ run_dead (run fresh (take (i + 1) bytes)) (take (n - (i + 1)) (drop (i + 1) bytes)) e

    refused : (r : Progress) → r.state ≡ Dead → kind_read r ≡ None
    refused r e = ap (λ s. kind_at s (word_kind r.part) (is_text r.part (codes "*"))) e

-- one more byte
pub state_on : (bytes : List ℕ) (i d c : ℕ) (old new : State) (reserved : Bool) → i < length bytes → c ≡ get_or bytes i d → old ≡ (run fresh (take i bytes)).state → reserved ≡ is_some (word_kind (run fresh (take i bytes)).part) → new ≡ step_state old reserved c → new ≡ (run fresh (take (i + 1) bytes)).state
state_on bytes i d c old new reserved within e s w n =
    n ∙ ap (λ s. step_state s reserved c) s ∙ ap (λ w. step_state (run fresh (take i bytes)).state w c) w
    ∙ ap (λ c. step_state (run fresh (take i bytes)).state (is_some (word_kind (run fresh (take i bytes)).part)) c) e
    ∙ sym (ap (λ r. r.state) (run_more bytes i d within))

part_step : (bytes : List ℕ) (start i d c : ℕ) (dot : Bool) → start ≤ i → i < length bytes → c ≡ get_or bytes i d → take (i + 1 - cond dot (i + 1) start) (drop (cond dot (i + 1) start) bytes) ≡ cond dot [] (take (i - start) (drop start bytes) ++ c ∷ [])
part_step bytes start i d c true before within e = let z : i + 1 - (i + 1) ≡ 0 = omega arith in ap (λ n. take n (drop (i + 1) bytes)) z
part_step bytes start i d c false before within e =
    let l = length-drop start bytes in
    let g : get_or (drop start bytes) (i - start) d ≡ c = get_or-drop start bytes (i - start) d ∙ ap (λ n. get_or bytes n d) (omega (arith, before)) ∙ sym e in
    ap (λ n. take n (drop start bytes)) (omega (arith, before)) ∙ take_more (drop start bytes) (i - start) d (omega (arith, l, before, within))
    ∙ ap (λ x. take (i - start) (drop start bytes) ++ x ∷ []) g

pub part_on : (bytes : List ℕ) (start i d c now : ℕ) → start ≤ i → i < length bytes → c ≡ get_or bytes i d → take (i - start) (drop start bytes) ≡ (run fresh (take i bytes)).part → now ≡ cond (c == 46) (i + 1) start → take (i + 1 - now) (drop now bytes) ≡ (run fresh (take (i + 1) bytes)).part
part_on bytes start i d c now before within e p n =
    ap (λ n. take (i + 1 - n) (drop n bytes)) n ∙ part_step bytes start i d c (c == 46) before within e
    ∙ ap (λ x. part_after x c) p
    ∙ ap (λ c. part_after (run fresh (take i bytes)).part c) e
    ∙ sym (ap (λ r. r.part) (run_more bytes i d within))

-- the kind of what was read
pub kind_on : (bytes : List ℕ) (i : ℕ) (state : State) (part : List ℕ) (word found : Option Kind) (star : Bool) → state ≡ (run fresh (take (i + 1) bytes)).state → part ≡ (run fresh (take (i + 1) bytes)).part → word ≡ word_kind part → star ≡ is_text part (codes "*") → found ≡ kind_at state word star → token_kind (take (i + 1) bytes) ≡ found
kind_on bytes i state part word found star s p w t k =
    ap (λ s. kind_at s (word_kind r.part) (is_text r.part (codes "*"))) (sym s)
    ∙ ap (λ p. kind_at state (word_kind p) (is_text p (codes "*"))) (sym p)
    ∙ ap (λ w. kind_at state w (is_text part (codes "*"))) (sym w)
    ∙ ap (λ t. kind_at state word t) (sym t) ∙ sym k
  where
    r : Progress
    r = run fresh (take (i + 1) bytes)

pub start_on : (start i now : ℕ) (dot : Bool) → start ≤ i → now ≡ cond dot (i + 1) start → now ≤ i + 1
start_on start i now true before e = omega (arith, e)
start_on start i now false before e = omega (arith, e, before)
