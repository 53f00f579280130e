use Rattle.std.proofs.Common.{◌≡◌, [], ◌∷◌, ◌++◌, length, ◌-◌, get_or, take, reverse, refl, ap, sym, ◌∙◌, append_assoc, arith}
use Rattle.sml_read.specs.declared.grammar.Node.TheVariants.{Inner}
use Rattle.sml_read.specs.Grammar.{right_side}
use Rattle.sml_read.proofs.Trees.{complete_on, complete_cost_on, block_part_on, block_word_on, top_of}
use Rattle.sml_read.proofs.read.complete.Goals as goal

pub returns-in_default : goal.returns-in_default
returns-in_default c =
    let inv = c.loop-next.invariant in
    let e : get_or c.loop-next.stack.items (length c.loop-next.stack.items - 1) c.index.result.now ≡ c.index.result.now = cc in
    (inv.0, inv.1, inv.2, block_word_on _ _ inv.0 _ _ _ _ inv.2 (top_of c.loop-next.stack.items c.index.result.now (omega arith)) (omega arith) (e ∙ c.in_default.is))

pub returns-in_default-expected : goal.returns-in_default-expected
returns-in_default-expected c =
    let inv = c.loop-next.invariant in
    let e : get_or c.loop-next.stack.items (length c.loop-next.stack.items - 1) c.index.result.now ≡ c.index.result.now = cc in
    (inv.0, inv.1, inv.2, block_part_on _ _ inv.0 _ _ _ _ inv.2 (top_of c.loop-next.stack.items c.index.result.now (omega arith)) (omega arith) (e ∙ c.in-Of.is) (sym c.in_default-expected.is ∙ c.expected.ensures))

pub loop-next-smaller : goal.loop-next-smaller
loop-next-smaller c =
    let e : get_or c.loop-next.stack.items (length c.loop-next.stack.items - 1) c.index.result.now ≡ c.index.result.now = cc in
    let r : c.pop.new.self.items ≡ take (length c.loop-next.stack.items - 1) c.loop-next.stack.items = c.pop.ensures.rest ∙ ap (λ n. take (n - 1) c.loop-next.stack.items) (omega arith) in
    complete_cost_on _ _ _ _ _ _ _ _ (top_of c.loop-next.stack.items c.index.result.now (omega arith)) (e ∙ c.in-Of.is) c.in-Some.ensures refl (c.in_ok-expand.ensures.stack ∙ ap (λ x. x ++ reverse (right_side c.in-Some.rule)) r)

pub loop-next-preserved : goal.loop-next-preserved
loop-next-preserved c =
    let inv = c.loop-next.invariant in
    let e : get_or c.loop-next.stack.items (length c.loop-next.stack.items - 1) c.index.result.now ≡ c.index.result.now = cc in
    let r : c.pop.new.self.items ≡ take (length c.loop-next.stack.items - 1) c.loop-next.stack.items = c.pop.ensures.rest ∙ ap (λ n. take (n - 1) c.loop-next.stack.items) (omega arith) in (
      inv.0 ++ Inner c.in-Some.rule ∷ [],
      c.in_ok-expand.ensures.nodes ∙ ap (λ x. x ++ Inner c.in-Some.rule ∷ []) inv.1 ∙ append_assoc c.args.nodes.now.items inv.0 (Inner c.in-Some.rule ∷ []),
      complete_on _ _ inv.0 _ _ _ _ _ _ _ inv.2 (top_of c.loop-next.stack.items c.index.result.now (omega arith)) (omega arith) (e ∙ c.in-Of.is) c.in-Some.ensures refl (c.in_ok-expand.ensures.stack ∙ ap (λ x. x ++ reverse (right_side c.in-Some.rule)) r),
    )
