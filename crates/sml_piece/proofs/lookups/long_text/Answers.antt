use Rattle.std.proofs.Common.{◌≡◌, ◌++◌, ◌∷◌, [], ℕ, List, map, length, ap, sym, ◌∙◌, arith, vec_len}
use Rattle.std.proofs.lemmas.List.{length-map}
use Rattle.std.proofs.lemmas.Bool.{eqb-true, eqb-false}
use Rattle.sml_tree.specs.Views.{ident_of}
use Rattle.sml_rules.specs.Answers.{dotted}
use Rattle.sml_rules.proofs.Dotting.{dotted-first, dotted-later}
use Rattle.sml_piece.proofs.lookups.long_text.Goals as goal
use Rattle.sml_piece.proofs.lookups.long_text.Goals.{then-not-is_empty+in_ok-push, else-not-is_empty}

pub returns : goal.returns
returns c =
    let x = c.args.long.now.last in
    let path = map ident_of c.args.long.now.path.items in
    let count : length path ≡ vec_len c.args.long.now.path = length-map c.args.long.now.path.items ident_of ∙ sym c.args.long.now.path.ok.0 in
    let added = c.in_ok-extend_from_slice.ensures.items in
    let name : c.as_slice.result.now ≡ ident_of x = c.as_slice.ensures.value ∙ ap (λ v. v.items) c.deref-2.ensures in
    let text : List ℕ = c.in_ok-text.text.items in
    let spelt : text ≡ dotted path = c.in_ok-text.ensures ∙ ap (λ l. dotted (map ident_of l)) c.deref.ensures.value in
    elim c.if-not-is_empty.branch [
      | then-not-is_empty+in_ok-push w ↦
          added ∙ ap (λ v. v.items ++ c.as_slice.result.now) w.text-is ∙ ap (λ t. t ++ c.as_slice.result.now) w.in_ok-push.ensures.items
          ∙ ap (λ y. (text ++ 46 ∷ []) ++ y) name
          ∙ dotted-later path (ident_of x) text (let some = eqb-false _ _ (sym c.is_empty.ensures ∙ w.if-not-is_empty.true) in omega (arith, count, some)) spelt
      | else-not-is_empty w ↦
          added ∙ ap (λ v. v.items ++ c.as_slice.result.now) w.text-is ∙ ap (λ y. text ++ y) name
          ∙ dotted-first path (ident_of x) text (count ∙ eqb-true _ _ (sym c.is_empty.ensures ∙ w.if-not-is_empty.false)) spelt
    ]
