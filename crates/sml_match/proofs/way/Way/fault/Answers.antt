use Rattle.std.proofs.Common.{map, subst, arith, IfOk}
use Rattle.std.proofs.lemmas.List.{take_all, length-map}
use Rattle.sml_tree.specs.Views.{ident_of}
use Rattle.sml_match.specs.Mismatches.{IsMismatch}
use Rattle.sml_match.proofs.way.Way.fault.Goals as goal

pub returns : goal.returns
returns c =
    let xs = c.args.self.now.idents.items in
    let l = c.len.ensures in
    let o = c.args.self.now.idents.ok.0 in
    let n = length-map xs ident_of in
    subst (λ s. IfOk c.fault_before.result (λ m. IsMismatch m c.args.code s)) (take_all c.len.result (map ident_of xs) (omega (arith, l, o, n))) c.fault_before.ensures
