use Rattle.std.proofs.Common.{◌++◌, ◌∷◌, [], ap, ◌∙◌}
use Rattle.sml_graph.specs.Graphs.{fields_of}
use Rattle.sml_demands.proofs.demands.push_row.Goals as goal

pub returns-clause-nodes : goal.returns-clause-nodes
returns-clause-nodes c = record {
  row = c.in_ok-fields.fields;
  fields = ap fields_of c.in_ok-fields.ensures.ok;
  nodes = c.in_ok-fill.ensures.nodes ∙ (c.in_ok-push.ensures.items ∙ ap (λ n. c.args.graph.now.nodes.items ++ n ∷ []) c.in_ok-of.ensures);
}
