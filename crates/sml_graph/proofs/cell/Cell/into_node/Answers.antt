use Rattle.std.proofs.Common.{sym, ap, ◌∙◌}
use Rattle.sml_graph.specs.CodeCells.{node_in}
use Rattle.sml_graph.proofs.Celling.{two-parts}
use Rattle.sml_graph.proofs.cell.Cell.into_node.Goals as goal

pub returns-in-Arrow : goal.returns-in-Arrow
returns-in-Arrow c =
    let e = c.push_reserved.ensures in
    let o = c.one-parts.ensures in
    two-parts c.in-Arrow.kids c.one-parts.result c.push_reserved.new.self (rw c.in-Arrow.is at c.self.invariant) o.items e.items (e.capacity ∙ o.capacity) ∙ (sym (ap node_in c.in-Arrow.is) ∙ c.self.view_is)
