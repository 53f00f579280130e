use Rattle.std.proofs.Common.{◌≡◌, map, min, take, length, ap, ◌∙◌, sym, refl, arith}
use Rattle.std.proofs.lemmas.List.{take-map, take_min}
use Rattle.sml_tree.specs.Views.{ident_of}
use Rattle.sml_rules.specs.Answers.{dotted}
use Rattle.sml_match.proofs.way.Way.fault_before.Goals as goal

pub returns : goal.returns
returns c =
    let xs = c.args.self.now.idents.items in
    let l = c.len.ensures in
    let o = c.args.self.now.idents.ok.0 in
    let m : c.len.result ≡ length xs = omega (arith, l, o) in
    let n : c.min-length.result ≡ min c.args.length (length xs) = c.min-length.ensures ∙ ap (min c.args.length) m in (
      refl,
      c.in_ok-path.ensures ∙ ap (λ l. dotted (map ident_of (take c.min-length.result l))) c.deref.ensures.value
          ∙ ap (λ k. dotted (map ident_of (take k xs))) n ∙ ap (λ l. dotted (map ident_of l)) (take_min c.args.length xs)
          ∙ ap dotted (sym (take-map ident_of c.args.length xs)),
    )
