use Rattle.std.proofs.Common.{map, ap, ◌∙◌}
use Rattle.sml_tree.specs.Views.{ident_of}
use Rattle.sml_graph.proofs.Rowing.{labels-seen}
use Rattle.sml_graph.proofs.fields.Fields.labels.Goals as goal

pub returns : goal.returns
returns c = ap (map ident_of) (c.as_slice.ensures ∙ c.keys.ensures.rest) ∙ labels-seen c.args.self.now.map.entries
