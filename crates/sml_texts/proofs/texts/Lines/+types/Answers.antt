use Rattle.std.proofs.Common.{◌≡◌, ◌+◌, not, ltb, ap, sym, ◌∙◌, ◌++◌, ◌∷◌, [], codes, take, length, vec_len, arith}
use Rattle.std.proofs.lemmas.List.{length-take-le, length-map, map-append, take_all}
use Rattle.std.proofs.lemmas.Grind.{take_at_read}
use Rattle.sml_objects.specs.Objects as O
use Rattle.sml_objects.specs.Objects.{types_of}
use Rattle.sml_objects.specs.Views.{type_of, name_of, label_list}
use Rattle.sml_objects.proofs.TypeViews.{parts_of, type_of-bound, type_of-free, type_of-row, type_of-arrow, type_of-name}
use Rattle.sml_texts.specs.Text.{show_type, show_types, joined, bracketed, a_name}
use Rattle.sml_texts.specs.Spelling.{lines_of, and_pieces, level}
use Rattle.sml_objects.proofs.Vectors.{empty_items, some_items}
use Rattle.sml_texts.proofs.Spelling.{nothing_more}
use Rattle.sml_texts.proofs.Pieces.{also, ends, only, opening, brackets, bound-pieces, free-pieces, arrow-pieces, unit-pieces, row-pieces, name-pieces, are_several, are_any, not_none, none-mapped, several-map, any-map, types-push, no-types}
use Rattle.sml_texts.proofs.texts.Lines.+types.Goals as goal

pub push_type-returns-in-Bound : goal.push_type-returns-in-Bound
push_type-returns-in-Bound t c =
    let l = level c.args.around in
    only c.push_variable.result _ _ _ _ (bound-pieces l c.in-Bound.number ∙ ap (show_type l) (sym (ap type_of c.in-Bound.is ∙ type_of-bound c.in-Bound.number))) c.push_variable.ensures

pub push_type-returns-in-Free : goal.push_type-returns-in-Free
push_type-returns-in-Free t c =
    let l = level c.args.around in
    only c.push.result _ _ _ _ (free-pieces l c.in-Free.field-0 ∙ ap (show_type l) (sym (ap type_of c.in-Free.is ∙ type_of-free c.in-Free.field-0))) c.push.ensures

pub push_type-returns-then-is_empty : goal.push_type-returns-then-is_empty
push_type-returns-then-is_empty t c =
    let l = level c.args.around in
    let parts = c.in-Row.parts in
    only c.push-then-is_empty.result _ _ _ _
    (unit-pieces l (label_list c.in-Row.field-0.value) (parts_of parts.items) (ap parts_of (empty_items parts (sym c.if-is_empty.true ∙ c.is_empty.ensures))) ∙ ap (show_type l) (sym (ap type_of c.in-Row.is ∙ type_of-row c.in-Row.field-0 parts)))
    c.push-then-is_empty.ensures

pub push_type-returns-else-is_empty : goal.push_type-returns-else-is_empty
push_type-returns-else-is_empty t c =
    let l = level c.args.around in
    let parts = c.in-Row.parts in
    let b = c.brackets_tuple.result in
    let some : ¬ (parts_of parts.items ≡ []) = λ e. some_items parts (sym c.if-is_empty.false ∙ c.is_empty.ensures) (none-mapped (λ t. type_of t.value) parts.items e) in
    only c.push_types.result _ _ _ _
    (ap (λ ts. bracketed b (joined (codes " * ") (show_types 2 2 (types_of (parts_of ts))))) c.deref-in-Row.ensures.value
    ∙ row-pieces l b (label_list c.in-Row.field-0.value) (parts_of parts.items) some c.brackets_tuple.ensures ∙ ap (show_type l) (sym (ap type_of c.in-Row.is ∙ type_of-row c.in-Row.field-0 parts)))
    c.push_types.ensures

pub push_type-returns-in_ok-push_type-in-Arrow-2 : goal.push_type-returns-in_ok-push_type-in-Arrow-2
push_type-returns-in_ok-push_type-in-Arrow-2 t c =
    let l = level c.args.around in
    let from = type_of c.deref.result.now in
    let to = type_of c.deref-in-Arrow.result.now in
    ends c.push_if-in-Arrow.result _ _ _ _ _ _
    (also _ _ _ _ _ (also _ _ _ _ _ (also _ _ _ _ _ c.in_ok-push_if-in-Arrow.ensures c.in_ok-push_type-in-Arrow.ensures) c.in_ok-push-in-Arrow.ensures) c.in_ok-push_type-in-Arrow-2.ensures)
    (arrow-pieces l c.brackets_arrow-brackets.result from to c.brackets_arrow-brackets.ensures
    ∙ (λ i. show_type l (O.arrow_of (type_of (c.deref.ensures i)) (type_of (c.deref-in-Arrow.ensures i))))
    ∙ ap (show_type l) (sym (ap type_of c.in-Arrow.is ∙ type_of-arrow c.in-Arrow.from c.in-Arrow.to)))
    c.push_if-in-Arrow.ensures

pub push_type-returns-in_ok-push_if-in-Name : goal.push_type-returns-in_ok-push_if-in-Name
push_type-returns-in_ok-push_if-in-Name t c =
    let l = level c.args.around in
    let parts = c.in-Name.parts in
    let n = name_of c.in-Name.name in
    let b = ltb 1 c.len-several.result in
    let s = not c.is_empty-in-Name.result in
    let k = level c.sole_part.result in
    ends c.push_name.result _ _ _ _ _ _
    (also _ _ _ _ _ c.in_ok-push_types-in-Name.ensures c.in_ok-push_if-in-Name.ensures)
    (ap (λ ts. (bracketed b (joined (codes ", ") (show_types k k (types_of (parts_of ts)))) ++ opening s (codes " ")) ++ a_name n ∷ []) c.deref-in-Name.ensures.value
    ∙ name-pieces l k b s n (parts_of parts.items)
    (are_several parts.items c.len-several.result (c.len-several.ensures ∙ parts.ok.0) ∙ several-map (λ t. type_of t.value) parts.items)
    c.sole_part.ensures
    (ap not c.is_empty-in-Name.ensures ∙ not_none parts.items (vec_len parts) parts.ok.0 ∙ any-map (λ t. type_of t.value) parts.items)
    ∙ ap (show_type l) (sym (ap type_of c.in-Name.is ∙ type_of-name c.in-Name.name parts)))
    c.push_name.ensures

pub push_types-loop-index-init : goal.push_types-loop-index-init
push_types-loop-index-init t c =
    let s = lines_of c.push_if.new.self in
    nothing_more s ∙ ap (and_pieces s) (sym (no-types c.args.between.now (level c.args.around)))

pub push_types-loop-index-preserved : goal.push_types-loop-index-preserved
push_types-loop-index-preserved t c =
    let xs = c.args.types.now in
    let x = c.index-types-index.result in
    let i = c.loop-index.index in
    let k = level c.args.around in
    let b = c.args.between.now in
    let before = parts_of (take i xs) in
    let count : i ≡ length before = sym (length-map (take i xs) (λ t. type_of t.value) ∙ length-take-le i xs (omega arith)) in
    let taken : parts_of (take (i + 1) xs) ≡ before ++ type_of x.value ∷ [] =
    ap parts_of ((take_at_read xs i x c.loop-index-test.true).1 ∙ ap (λ y. take i xs ++ y ∷ []) (sym c.index-types-index.is)) ∙ map-append (λ t. type_of t.value) (take i xs) (x ∷ []) in
    also _ _ _ _ _ (also _ _ _ _ _ c.loop-index.invariant c.in_ok-push_if-2.ensures) c.in_ok-push_type.ensures
    ∙ ap (and_pieces (lines_of c.push_if.new.self))
    ((λ j. (joined b (show_types k k (types_of before)) ++ opening (are_any before i count j) b) ++ show_type k (type_of (c.deref.ensures j)))
    ∙ sym (types-push b k before (type_of x.value)) ∙ ap (λ ts. joined b (show_types k k (types_of ts))) (sym taken))

pub push_types-returns : goal.push_types-returns
push_types-returns t c =
    let xs = c.args.types.now in
    let i = c.loop-index.index in
    let k = level c.args.around in
    let all : take i xs ≡ xs = take_all i xs (omega arith) in
    ends c.push_if-2.result _ _ _ _ _ _
    (also _ _ _ _ _ c.in_ok-push_if.ensures c.loop-index.invariant)
    (brackets c.args.brackets _ ∙ ap (λ ts. bracketed c.args.brackets (joined c.args.between.now (show_types k k (types_of (parts_of ts))))) all)
    c.push_if-2.ensures
