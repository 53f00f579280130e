use Rattle.std.proofs.Common.{◌≡◌, ◌∙◌, ap, sym, map, length, arith}
use Rattle.std.specs.Option.{option_map}
use Rattle.sml_tree.specs.Views.{ident_of}
use Rattle.sml_tree.specs.BindingViews.{typ_bind_of}
use Rattle.sml_tree.specs.Withtype.{bound}
use Rattle.sml_tree.specs.CodeSides.{parts_of, side_of}
use Rattle.sml_tree.proofs.RightSides.{fits, fits_not, fits_nowhere, no_path}
use Rattle.sml_tree.proofs.sides.Sides.side.Goals as goal

pub returns-in_default-clause-none : goal.returns-in_default-clause-none
returns-in_default-clause-none c = λ p ts x same count.
    let binds = map typ_bind_of c.args.self.now.types.items in
    let empty : length c.args.constructor.now.path.items ≡ 0 = grind (arith, c.len.ensures, c.if-len-ne0.false) in
    fits_nowhere binds p ts x (ap (λ l. l.path) same ∙ no_path c.args.constructor.now.path.items empty)
    (ap (option_map side_of) c.in_default.ensures.value ∙ c.args.self.now.knows (ident_of c.args.constructor.now.last) ∙ ap (λ l. option_map parts_of (bound l.last binds)) (sym same))

pub returns-in-true-clause-some : goal.returns-in-true-clause-some
returns-in-true-clause-some c =
    let binds = map typ_bind_of c.args.self.now.types.items in
    let empty : length c.args.constructor.now.path.items ≡ 0 = grind (arith, c.len.ensures, c.if-len-ne0.false) in
    let n : length c.in-Some.side.now.depths.items ≡ c.args.arguments = grind (arith, c.in-true.is, c.len-2.ensures) in (
      n,
      λ p ts x same count. fits binds p ts x c.in-Some.side.now (ap (λ l. l.path) same ∙ no_path c.args.constructor.now.path.items empty)
          (ap (option_map side_of) c.in-Some.ensures.value ∙ c.args.self.now.knows (ident_of c.args.constructor.now.last) ∙ ap (λ l. option_map parts_of (bound l.last binds)) (sym same)) (count ∙ sym n),
    )

pub returns-in-false-clause-none : goal.returns-in-false-clause-none
returns-in-false-clause-none c = λ p ts x same count.
    let binds = map typ_bind_of c.args.self.now.types.items in
    let empty : length c.args.constructor.now.path.items ≡ 0 = grind (arith, c.len.ensures, c.if-len-ne0.false) in
    fits_not binds p ts x c.in-Some.side.now (ap (λ l. l.path) same ∙ no_path c.args.constructor.now.path.items empty)
    (ap (option_map side_of) c.in-Some.ensures.value ∙ c.args.self.now.knows (ident_of c.args.constructor.now.last) ∙ ap (λ l. option_map parts_of (bound l.last binds)) (sym same))
    (λ n. grind (arith, count, n, c.in-false.is, c.len-2.ensures))
