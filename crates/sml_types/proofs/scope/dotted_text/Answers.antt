use Rattle.std.proofs.Common.{◌≡◌, ◌++◌, ◌+◌, ℕ, List, ◌∷◌, [], map, take, length, ap, sym, ◌∙◌, arith}
use Rattle.std.proofs.lemmas.List.{length-take-le, length-map, map-append}
use Rattle.std.proofs.lemmas.Grind.{take_at_read}
use Rattle.sml_tree.specs.Views.{ident_of}
use Rattle.sml_rules.specs.Answers.{dotted}
use Rattle.sml_rules.proofs.Dotting.{dotted-first, dotted-later}
use Rattle.sml_types.proofs.scope.dotted_text.Goals as goal
use Rattle.sml_types.proofs.scope.dotted_text.Goals.{then-index-gt0+in_ok-push, else-index-gt0}

pub loop-index-preserved : goal.loop-index-preserved
loop-index-preserved c =
    let xs = c.args.idents.now in
    let i = c.loop-index.index in
    let x = c.index-idents-index.result in
    let before = map ident_of (take i xs) in
    let count : length before ≡ i = length-map (take i xs) ident_of ∙ length-take-le i xs (omega arith) in
    let next : map ident_of (take (i + 1) xs) ≡ before ++ ident_of x ∷ [] =
    ap (map ident_of) ((take_at_read xs i x c.loop-index-test.true).1 ∙ ap (λ y. take i xs ++ y ∷ []) (sym c.index-idents-index.is)) ∙ map-append ident_of (take i xs) (x ∷ []) in
    let added = c.in_ok-extend_from_slice.ensures.items in
    let slice = c.as_slice.ensures.value in
    let held = c.deref.ensures in
    let text : List ℕ = c.loop-index.text.items in
    let name : c.as_slice.result.now ≡ ident_of x = slice ∙ ap (λ v. v.items) held in
    elim c.if-index-gt0.branch [
      | then-index-gt0+in_ok-push w ↦
          added ∙ ap (λ v. v.items ++ c.as_slice.result.now) w.text-is ∙ ap (λ t. t ++ c.as_slice.result.now) w.in_ok-push.ensures.items
          ∙ ap (λ y. (text ++ 46 ∷ []) ++ y) name ∙ dotted-later before (ident_of x) text (let some = w.if-index-gt0.true in omega (arith, count, some)) c.loop-index.invariant ∙ ap dotted (sym next)
      | else-index-gt0 w ↦
          added ∙ ap (λ v. v.items ++ c.as_slice.result.now) w.text-is
          ∙ ap (λ y. text ++ y) name ∙ dotted-first before (ident_of x) text (let none = w.if-index-gt0.false in omega (arith, count, none)) c.loop-index.invariant ∙ ap dotted (sym next)
    ]
