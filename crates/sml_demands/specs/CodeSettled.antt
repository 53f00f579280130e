-- Rows whose labels are known.
use Rattle.std.specs.Prelude.{Bool, true, false}
use Rattle.sml_graph.specs.declared.node.Head.{Head}
use Rattle.sml_graph.specs.declared.node.Head.TheVariants.{Arrow, Row, Name}
use Rattle.sml_graph.specs.declared.node.Node.{Node}
use Rattle.sml_graph.specs.declared.node.Node.TheVariants.{Unknown, Link, App, Open}

abbrev pub is_row : Head → Bool
is_row Arrow = false
is_row (Row ls) = true
is_row (Name m) = false

-- the node is a row whose labels are known
abbrev pub has_labels : Node → Bool
has_labels Unknown = false
has_labels (Link j) = false
has_labels (App h kids) = is_row h
has_labels (Open fs) = false
