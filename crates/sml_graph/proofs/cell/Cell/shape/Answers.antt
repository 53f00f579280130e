use Rattle.std.proofs.Common.{sym, ap, ◌∙◌}
use Rattle.sml_graph.specs.CodeCells.{node_in}
use Rattle.sml_graph.proofs.cell.Cell.shape.Goals as goal

pub returns-in-Open : goal.returns-in-Open
returns-in-Open c = (c.in-Open.fields, sym c.self.view_is ∙ ap node_in c.in-Open.is, c.deref-in-Open.ensures)
