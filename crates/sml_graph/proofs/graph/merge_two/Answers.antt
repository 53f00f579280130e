use Rattle.std.proofs.Common.{◌≡◌, ◌++◌, ◌∷◌, [], ap, ◌∙◌, refl}
use Rattle.sml_graph.proofs.Wholeness.{equal_is, clash_is}
use Rattle.sml_graph.proofs.graph.merge_two.Goals as goal

pub returns-in-Ok-clause-same : goal.returns-in-Ok-clause-same
returns-in-Ok-clause-same c w σ =
    let e : c.push.new.self.items ≡ (c.args.left, c.args.right) ∷ [] = c.in_default.ensures.items ∙ ap (λ ps. ps ++ (c.args.left, c.args.right) ∷ []) c.new-pending.ensures.items in
    equal_is c.args.nodes.now.items c.solve.new.nodes.items c.push.new.self.items c.args.left c.args.right e c.in-Ok.ensures.same w σ

pub returns-in-Err-Clash-clause-clash : goal.returns-in-Err-Clash-clause-clash
returns-in-Err-Clash-clause-clash c l x w σ m q =
    let e : c.push.new.self.items ≡ (c.args.left, c.args.right) ∷ [] = c.in_default.ensures.items ∙ ap (λ ps. ps ++ (c.args.left, c.args.right) ∷ []) c.new-pending.ensures.items in
    clash_is c.args.nodes.now.items c.push.new.self.items c.args.left c.args.right e (c.in-Err-Clash.ensures.clash (rw c.in-Err-Clash.field-0-is refl)) w σ m q
