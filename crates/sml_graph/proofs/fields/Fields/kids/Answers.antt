use Rattle.std.proofs.Common.{◌∙◌}
use Rattle.sml_graph.proofs.Rowing.{kids-seen}
use Rattle.sml_graph.proofs.fields.Fields.kids.Goals as goal

pub returns : goal.returns
returns c = c.as_slice.ensures ∙ (c.values.ensures.rest ∙ kids-seen c.args.self.now.map.entries)
