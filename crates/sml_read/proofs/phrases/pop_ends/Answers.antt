use Rattle.std.proofs.Common.{◌≡◌, suc, ◌+◌, ◌∷◌, drop, get_or, reverse, ap, ◌∙◌, arith}
use Rattle.std.proofs.lemmas.List.{get_or-drop, drop-drop}
use Rattle.sml_read.proofs.phrases.pop_ends.Goals as goal

pub loop-taken-preserved : goal.loop-taken-preserved
loop-taken-preserved c =
    let xs = reverse c.args.later.now.items in
    let k = c.loop-taken._taken in
    let other = c.args.other in
    let inv = c.loop-taken.invariant in
    let none : k + 0 ≡ k = omega arith in
    let next : suc k ≡ k + 1 = omega arith in
    record {
      taken = c.pop-end.ensures.value ∙ ap (λ ys. get_or ys 0 other) inv.left ∙ get_or-drop k xs 0 other ∙ ap (λ n. get_or xs n other) none
          ∙ ap (λ n. get_or (c.args.first ∷ xs) n other) next;
      left = c.pop-end.ensures.rest ∙ ap (drop 1) inv.left ∙ drop-drop 1 k xs;
    }
