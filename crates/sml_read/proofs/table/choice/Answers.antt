use Rattle.std.proofs.Common.{◌≡◌, ℕ, List, Option, Some, None, Bor, length, get_or, refl, ap, sym, ◌∙◌, ltb}
use Rattle.std.specs.Prelude.{slice_get}
use Rattle.std.specs.Option.{is_some, IfSome, option_copied}
use Rattle.std.proofs.lemmas.Bool.{ltb-true, ltb-false}
use Rattle.std.proofs.lemmas.Option.{slice_get_past, slice_get_read}
use Rattle.sml_read.specs.declared.grammar.Rule.{Rule}
use Rattle.sml_read.specs.Numbers.{kind_number}
use Rattle.sml_read.specs.CodeAll.{rules_of}
use Rattle.sml_read.specs.CodeTable.{row_of}
use Rattle.sml_read.proofs.Tables.{cell_none, cell_some}
use Rattle.sml_read.proofs.table.choice.Goals as goal

pub returns-then-cell-lt48 : goal.returns-then-cell-lt48
returns-then-cell-lt48 c =
    let e : get_or c.row.result.now c.number.result 0 ≡ get_or (row_of c.args.part) (kind_number c.args.kind) 0 = cc in
    cell_none c.args.part c.args.kind _ e c.if-cell-lt48.true

got : (r : Option (Bor Rule)) (xs : List Rule) (i : ℕ) → is_some r ≡ ltb i (length xs) → IfSome r (λ x. x.now ≡ get_or xs i x.now) → option_copied r ≡ slice_get xs i
got None xs i h e = sym (slice_get_past xs i (ltb-false _ _ (sym h)))
got (Some x) xs i h e = sym (slice_get_read xs (length xs) i x.now refl (ltb-true _ _ (sym h)) e)

pub returns : goal.returns
returns c =
    let e : get_or c.row.result.now c.number.result 0 ≡ get_or (row_of c.args.part) (kind_number c.args.kind) 0 = cc in
    let h = cell_some c.args.part c.args.kind _ e c.if-cell-lt48.false in
    c.copied.ensures
    ∙ got c.get.result c.rules_of_part.result.now c.from.result c.get.ensures.lookup.0 c.get.ensures.lookup.1
    ∙ ap (λ xs. slice_get xs c.from.result) c.rules_of_part.ensures
    ∙ ap (slice_get (rules_of c.args.part)) c.from.ensures
    ∙ h
