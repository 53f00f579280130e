-- Comments, and what reads their ends.
use Rattle.std.proofs.Common.{◌≡◌, ℕ, zero, suc, ◌+◌, ◌-◌, ◌<◌, ◌≤◌, List, [], ◌∷◌, ◌++◌, drop, length, Bool, true, false, Option, Some, None, unwrap_or, refl, sym, ap, ◌∙◌, subst, arith, append_assoc}
use Rattle.std.specs.Prelude.{◌==◌, if◌then◌else◌}
use Rattle.std.proofs.lemmas.Bool.{cond-false, eqb-true}
use Rattle.std.proofs.lemmas.List.{length-append, length-drop}
use Rattle.sml_lex.specs.Bytes.{starts_with_both}
use Rattle.sml_lex.specs.Comments.{opens_comment, closes_comment, Body, body_text, closing, IsBody, comment_text, IsComment}
use Rattle.sml_lex.specs.Comments.Body.{Empty, Byte, Nested}
use Rattle.sml_lex.specs.CodeComments.{after_comments}
use Rattle.sml_lex.proofs.Comments.{opened, closed_last, closed_one, passed_one}
use Rattle.sml_lex.proofs.MachineRuns.{false_is_true, first_true, second_true}

-- what is read of a body
passed_body : (body : Body) (after : List ℕ) (depth : ℕ) → 0 < depth → IsBody body after → after_comments depth (body_text body ++ after) ≡ after_comments depth after
passed_body Empty after depth some i = refl
passed_body (Byte c body) after depth some i = passed_one depth (c ∷ (body_text body ++ after)) i.0 i.1 ∙ passed_body body after depth some i.2
passed_body (Nested inner body) after depth some i =
    ap (λ t. after_comments depth (40 ∷ 42 ∷ t)) (append_assoc (body_text inner) (42 ∷ 41 ∷ body_text body) after)
    ∙ opened depth (40 ∷ 42 ∷ (body_text inner ++ closing (body_text body ++ after))) refl
    ∙ passed_body inner (closing (body_text body ++ after)) (depth + 1) (omega arith) i.0
    ∙ closed_one (depth + 1) (closing (body_text body ++ after)) refl refl (omega (arith, some))
    ∙ ap (λ d. after_comments d (body_text body ++ after)) (omega arith)
    ∙ passed_body body after depth some i.1

pub comment_read : (text : List ℕ) (size : ℕ) → (c : IsComment text size) → after_comments 1 (drop 2 text) ≡ Some c.after
comment_read text size c =
    ap (λ t. after_comments 1 (drop 2 t)) (c.spelled ∙ ap (λ t. 40 ∷ 42 ∷ t) (append_assoc (body_text c.body) (closing []) c.after))
    ∙ passed_body c.body (closing c.after) 1 (omega arith) c.is_body
    ∙ closed_last 1 (closing c.after) refl refl refl

-- so many bodies, each with its closing
Closes : ℕ → List ℕ → List ℕ → Type 0
Closes zero text more = text ≡ more
Closes (suc depth) text more = (body : Body) × (after : List ℕ) × IsBody body (closing after) × (text ≡ body_text body ++ closing after) × Closes depth after more

none_is_text : (text : List ℕ) → None ≡ Some text → ⊥
none_is_text text e = cc

by_if : (R : Type 0) (t : Bool) (x y : Option (List ℕ)) (v : List ℕ) → (t ≡ true → x ≡ Some v → R) → (t ≡ false → y ≡ Some v → R) → (if t then x else y) ≡ Some v → R
by_if R t x y v on_true on_false e = go t refl e
  where
    go : (b : Bool) → t ≡ b → (if b then x else y) ≡ Some v → R
    go true h e = on_true h e
    go false h e = on_false h e

two_bytes : (x y a b : ℕ) (text : List ℕ) → starts_with_both x y (a ∷ b ∷ text) ≡ true → a ∷ b ∷ text ≡ x ∷ y ∷ text
two_bytes x y a b text e = ap (λ a. a ∷ b ∷ text) (eqb-true _ _ (first_true (a == x) (b == y) e)) ∙ ap (λ b. x ∷ b ∷ text) (eqb-true _ _ (second_true (a == x) (b == y) e))

-- an inner comment and what follows it are one body
nested : (depth a b : ℕ) (text more : List ℕ) → a ∷ b ∷ text ≡ 40 ∷ 42 ∷ text → Closes (suc (suc depth)) text more → Closes (suc depth) (a ∷ b ∷ text) more
unfolding Closes
nested depth a b text more o (inner, rest, i, e, (body, after, j, f, c)) = (
  Nested inner body,
  after,
  (subst (λ t. IsBody inner (closing t)) f i, j),
  o ∙ ap (λ t. 40 ∷ 42 ∷ t) (e ∙ ap (λ t. body_text inner ++ closing t) f ∙ sym (append_assoc (body_text inner) (closing (body_text body)) (closing after))),
  c,
)

one_more : (depth c : ℕ) (text more : List ℕ) → opens_comment (c ∷ text) ≡ false → closes_comment (c ∷ text) ≡ false → Closes (suc depth) text more → Closes (suc depth) (c ∷ text) more
unfolding Closes
one_more depth c text more o k (body, after, i, e, rest) = (Byte c body, after, (subst (λ t. opens_comment (c ∷ t) ≡ false) e o, subst (λ t. closes_comment (c ∷ t) ≡ false) e k, i), ap (λ t. c ∷ t) e, rest)

closed_here : (depth a b : ℕ) (text more : List ℕ) → a ∷ b ∷ text ≡ 42 ∷ 41 ∷ text → Closes depth text more → Closes (suc depth) (a ∷ b ∷ text) more
unfolding Closes
closed_here depth a b text more k rest = (Empty, text, tt, k, rest)

closed_none : (text more : List ℕ) → Some text ≡ Some more → Closes 0 text more
unfolding Closes
closed_none text more e = ap (λ o. unwrap_or o text) e

bodies_read : (depth : ℕ) (text more : List ℕ) → after_comments (suc depth) text ≡ Some more → Closes (suc depth) text more
bodies_read depth [] more e = absurd (none_is_text more e)
bodies_read depth (a ∷ []) more e = absurd (none_is_text more e)
bodies_read depth (a ∷ b ∷ text) more e = go depth e (λ depth e. bodies_read depth text more e) (bodies_read depth (b ∷ text) more)
  where
    closing_one : (depth : ℕ) → closes_comment (a ∷ b ∷ text) ≡ true → (if suc depth == 1 then Some text else after_comments (suc depth - 1) text) ≡ Some more → ((depth : ℕ) → after_comments (suc depth) text ≡ Some more → Closes (suc depth) text more) → Closes (suc depth) (a ∷ b ∷ text) more
    closing_one zero k e rest = closed_here 0 a b text more (two_bytes 42 41 a b text k) (closed_none text more e)
    closing_one (suc depth) k e rest = closed_here (suc depth) a b text more (two_bytes 42 41 a b text k) (rest depth (ap (λ d. after_comments d text) less ∙ sym (cond-false _ _ _ more_open) ∙ e))
      where
        less : suc depth ≡ suc (suc depth) - 1
        less = omega arith

        more_open : (suc (suc depth) == 1) ≡ false
        more_open = go (suc (suc depth) == 1) refl
          where
            go : (b : Bool) → (suc (suc depth) == 1) ≡ b → (suc (suc depth) == 1) ≡ false
            go true e = let one : suc (suc depth) ≡ 1 = eqb-true _ _ e in absurd (omega (arith, one))
            go false e = e

    go : (depth : ℕ) → after_comments (suc depth) (a ∷ b ∷ text) ≡ Some more → ((depth : ℕ) → after_comments (suc depth) text ≡ Some more → Closes (suc depth) text more) → (after_comments (suc depth) (b ∷ text) ≡ Some more → Closes (suc depth) (b ∷ text) more) → Closes (suc depth) (a ∷ b ∷ text) more
    go depth e rest next =
        by_if (Closes (suc depth) (a ∷ b ∷ text) more) (opens_comment (a ∷ b ∷ text)) (after_comments (suc depth + 1) text) (if closes_comment (a ∷ b ∷ text) then if suc depth == 1 then Some text else after_comments (suc depth - 1) text else after_comments (suc depth) (b ∷ text)) more (
        λ o e. nested depth a b text more (two_bytes 40 42 a b text o) (rest (suc depth) (ap (λ d. after_comments d text) (omega arith) ∙ e))
        ) (
        λ o e. by_if (Closes (suc depth) (a ∷ b ∷ text) more) (closes_comment (a ∷ b ∷ text)) (if suc depth == 1 then Some text else after_comments (suc depth - 1) text) (after_comments (suc depth) (b ∷ text)) more (λ k e. closing_one depth k e rest) (λ k e. one_more depth a (b ∷ text) more o k (next e)) e
        ) e

opening : (text : List ℕ) → opens_comment text ≡ true → text ≡ 40 ∷ 42 ∷ drop 2 text
opening [] o = absurd (cc)
opening (a ∷ []) o = absurd (false_is_true (second_true (a == 40) false o))
opening (a ∷ b ∷ text) o = two_bytes 40 42 a b text o

-- what is read is a comment
pub comment_is : (text : List ℕ) (size : ℕ) → opens_comment text ≡ true → size ≤ length text → after_comments 1 (drop 2 text) ≡ Some (drop size text) → IsComment text size
unfolding Closes
comment_is text size o within e =
    let w = bodies_read 0 (drop 2 text) (drop size text) e in
    let spelled : text ≡ comment_text w.0 ++ w.1 = opening text o ∙ ap (λ t. 40 ∷ 42 ∷ t) (w.3 ∙ sym (append_assoc (body_text w.0) (closing []) w.1)) in
    let l = ap length spelled in
    let m = length-append (comment_text w.0) w.1 in
    let n = ap length w.4 in
    let d = length-drop size text in record {
      body = w.0;
      after = w.1;
      spelled = spelled;
      is_body = w.2;
      bytes = omega (arith, l, m, n, d, within);
    }

-- a comment has its opening, and ends within the text
pub comment_opens : (text : List ℕ) (size : ℕ) → IsComment text size → opens_comment text ≡ true
comment_opens text size c = ap opens_comment c.spelled

pub comment_bytes : (text : List ℕ) (size : ℕ) → (c : IsComment text size) → (2 ≤ size) × (size + length c.after ≡ length text)
comment_bytes text size c =
    let b = c.bytes in
    let l = ap length c.spelled in
    let m = length-append (comment_text c.body) c.after in
    (omega (arith, b), omega (arith, b, l, m))

pub comment_once : (text : List ℕ) (m n : ℕ) → IsComment text m → IsComment text n → m ≡ n
comment_once text m n a b =
    let same : a.after ≡ b.after = ap (λ o. unwrap_or o []) (sym (comment_read text m a) ∙ comment_read text n b) in
    let l = ap length same in
    let la = (comment_bytes text m a).1 in
    let lb = (comment_bytes text n b).1 in
    omega (arith, l, la, lb)

pub comment_never : (text : List ℕ) (size : ℕ) → after_comments 1 (drop 2 text) ≡ None → IsComment text size → ⊥
comment_never text size n c = none_is_text c.after (sym n ∙ comment_read text size c)
