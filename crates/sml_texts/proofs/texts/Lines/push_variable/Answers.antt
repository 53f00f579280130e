use Rattle.std.proofs.Common.{List, ℕ, ap, sym, ◌∙◌, ◌+◌, ◌%◌, ◌/◌, ◌++◌, ◌∷◌, [], cond, decimal, append_assoc, arith}
use Rattle.std.proofs.lemmas.Bool.{lt-ltb, le-ltb}
use Rattle.sml_texts.specs.Text.{variable}
use Rattle.sml_texts.specs.Spelling.{lines_of}
use Rattle.sml_texts.proofs.Spelling.{said_so}
use Rattle.sml_texts.proofs.texts.Lines.push_variable.Goals as goal

pub returns-in_ok-push_number : goal.returns-in_ok-push_number
unfolding variable
returns-in_ok-push_number c =
    let k = c.args.number in
    let t : List ℕ = c.args.self.now.text.items in
    let a : ℕ = 97 + k % 26 in
    said_so _ (lines_of c.args.self.now) _
    (c.in_ok-push_number.ensures ∙ ap (λ u. u ++ decimal (k / 26)) (c.in_ok-push-2.ensures.items ∙ ap (λ u. u ++ a ∷ []) c.in_ok-push.ensures.items ∙ append_assoc t (39 ∷ []) (a ∷ []))
    ∙ append_assoc t (39 ∷ a ∷ []) (decimal (k / 26))
    ∙ ap (λ b. t ++ 39 ∷ a ∷ cond b [] (decimal (k / 26))) (sym (le-ltb k 26 (omega arith))))

pub returns-else-number-ge26 : goal.returns-else-number-ge26
unfolding variable
returns-else-number-ge26 c =
    let k = c.args.number in
    let t : List ℕ = c.args.self.now.text.items in
    let a : ℕ = 97 + k % 26 in
    said_so _ (lines_of c.args.self.now) _
    (c.in_ok-push-2.ensures.items ∙ ap (λ u. u ++ a ∷ []) c.in_ok-push.ensures.items ∙ append_assoc t (39 ∷ []) (a ∷ [])
    ∙ ap (λ b. t ++ 39 ∷ a ∷ cond b [] (decimal (k / 26))) (sym (lt-ltb k 26 (omega arith))))
