use Rattle.std.proofs.Common.{ap, sym, ◌∙◌, map, ◌++◌, ◌∷◌, [], codes}
use Rattle.std.proofs.lemmas.List.{map-append}
use Rattle.std.specs.Map.Iter.{deref_pair}
use Rattle.sml_tree.specs.Views.{ident_of}
use Rattle.sml_objects.specs.Views.{type_of, scheme_of, schemes_of}
use Rattle.sml_texts.specs.Text.{say, show_type, lines}
use Rattle.sml_texts.specs.Spelling.{lines_of, and_pieces}
use Rattle.sml_texts.proofs.Spelling.{nothing_more, then_more}
use Rattle.sml_texts.proofs.Pieces.{also, line-pieces, lines-push, no-lines}
use Rattle.sml_texts.proofs.texts.Lines.push_lines.Goals as goal

pub loop-name-init : goal.loop-name-init
loop-name-init c =
    let s = lines_of c.args.self.now in
    nothing_more s ∙ ap (and_pieces s) (sym (no-lines c.args.word.now c.args.prefix.now c.args.sign.now))

pub loop-name-preserved : goal.loop-name-preserved
loop-name-preserved c =
    let w = c.args.word.now in
    let p = c.args.prefix.now in
    let s = c.args.sign.now in
    let before = map deref_pair c.loop-name.yielded in
    let x = c.in-Some.name.now in
    let scheme = c.in-Some.scheme.now in
    then_more _ _ _ _ _ _ c.loop-name.invariant
    (also _ _ _ _ _ (also _ _ _ _ _ c.in_ok-push_path.ensures c.in_ok-push_type.ensures) c.in_ok-push.ensures)
    (ap (λ l. lines w p s (schemes_of l)) (map-append deref_pair c.loop-name.yielded ((c.in-Some.name, c.in-Some.scheme) ∷ []))
    ∙ ap (lines w p s) (map-append (λ e. (ident_of e.0, scheme_of e.1.value)) before ((x, scheme) ∷ []))
    ∙ lines-push w p s (schemes_of before) (ident_of x, scheme_of scheme.value)
    ∙ ap (λ l. lines w p s (schemes_of before) ++ l)
    (sym (line-pieces w p s (ident_of x, scheme_of scheme.value))
    ∙ ap (λ u. (say (w ++ (p ++ (ident_of x ++ s))) ++ show_type 0 (type_of u)) ++ say (codes "\n")) (sym (c.deref-in-loop-name.ensures ∙ ap (λ s. s.body.value) c.deref.ensures))))
