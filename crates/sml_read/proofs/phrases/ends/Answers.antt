use Rattle.std.proofs.Common.{◌-◌, ◌∷◌, drop, get_or, reverse, refl, sym, ap, ◌∙◌, subst, arith}
use Rattle.sml_read.specs.declared.grammar.Node.TheVariants.{Leaf, Inner}
use Rattle.sml_read.proofs.Extents.{Ends, leaf_ends, inner_on, before, pushed, ends_on, later}
use Rattle.sml_read.proofs.phrases.ends.Goals.{in-Leaf, in-Inner}
use Rattle.sml_read.proofs.phrases.ends.Goals as goal

pub loop-i-preserved : goal.loop-i-preserved
loop-i-preserved c =
    let nodes = c.args.nodes.now in
    let i = c.loop-i.i in
    let inv = c.loop-i.invariant in
    let n = c.match-nodes-i.end in
    let after = later nodes i (reverse c.loop-i.later.items) (omega arith) inv.later in
    let all : Ends nodes (i - 1) (n ∷ reverse c.match-nodes-i.later.items) = elim c.match-nodes-i.branch [
      | in-Leaf w ↦ subst (λ v. Ends nodes (i - 1) (n ∷ reverse v.items)) (sym w.later-is)
          (leaf_ends nodes (i - 1) (drop i nodes) (reverse c.loop-i.later.items) n (before nodes i _ Leaf (omega arith) (omega arith) w.in-Leaf.is) after w.end-is)
      | in-Inner w ↦ inner_on nodes (i - 1) w.in-Inner.rule (drop i nodes) (reverse c.loop-i.later.items) (reverse c.match-nodes-i.later.items) n _ w.backwards.result.now (before nodes i _ (Inner w.in-Inner.rule) (omega arith) (omega arith) w.in-Inner.is) after w.backwards.ensures refl (w.end-is ∙ w.pop_ends-end.ensures.value) (ap (λ v. reverse v.items) w.later-is ∙ w.pop_ends-end.ensures.rest)
    ] in
    record {
      kept = ends_on nodes i (get_or nodes (i - 1) Leaf) c.loop-i.ends.items c.push-in-loop-i.new.self.items (reverse c.match-nodes-i.later.items) n (omega arith) (before nodes i Leaf (get_or nodes (i - 1) Leaf) (omega arith) (omega arith) refl) inv.kept c.in_ok-push-2.ensures.items all;
      later = subst (Ends nodes (i - 1)) (sym (pushed c.push.new.self.items c.match-nodes-i.later.items n c.in_ok-push.ensures.items)) all;
    }
