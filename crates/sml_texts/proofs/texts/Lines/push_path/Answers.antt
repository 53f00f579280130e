use Rattle.std.proofs.Common.{◌≡◌, List, ℕ, ap, ◌∙◌, ◌++◌, append_assoc}
use Rattle.sml_tree.specs.Views.{ident_of}
use Rattle.sml_texts.specs.Spelling.{lines_of}
use Rattle.sml_texts.proofs.Spelling.{said_so}
use Rattle.sml_texts.proofs.texts.Lines.push_path.Goals as goal

regroup : (t a b d e : List ℕ) → (((t ++ a) ++ b) ++ d) ++ e ≡ t ++ (a ++ (b ++ (d ++ e)))
regroup t a b d e = simp append_assoc

pub returns : goal.returns
returns c =
    let t = c.args.self.now.text.items in
    let w = c.args.word.now in
    let p = c.args.prefix.now in
    let s = c.args.sign.now in
    said_so _ (lines_of c.args.self.now) _
    (c.in_ok-extend_from_slice-4.ensures.items ∙ ap (λ u. u ++ s) c.in_ok-extend_from_slice-3.ensures.items
    ∙ ap (λ u. (u ++ c.as_slice.result.now) ++ s) c.in_ok-extend_from_slice-2.ensures.items
    ∙ ap (λ u. ((u ++ p) ++ c.as_slice.result.now) ++ s) c.in_ok-extend_from_slice.ensures.items
    ∙ ap (λ n. (((t ++ w) ++ p) ++ n) ++ s) (c.as_slice.ensures.value ∙ ap (λ v. v.items) c.deref.ensures)
    ∙ regroup t w p (ident_of c.args.name.now) s)
