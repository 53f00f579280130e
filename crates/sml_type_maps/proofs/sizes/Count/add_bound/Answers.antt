use Rattle.sml_type_maps.proofs.Counts.{use-added, bound-added}
use Rattle.sml_type_maps.proofs.sizes.Count.add_bound.Goals as goal

pub returns-in-Some : goal.returns-in-Some
returns-in-Some c =
    use-added c.args.self.now c.args.times c.args.variable c.saturating_add.result c.in-Some.uses.now c.in-Some.ensures.item.3.0
    (c.in-Some.ensures.item.3.1 0) c.saturating_add.ensures

pub returns-in-None : goal.returns-in-None
returns-in-None c = bound-added c.args.self.now c.add.new.self c.args.times c.args.variable c.in-None.ensures.item.3 c.add.ensures.nodes c.add.ensures.uses
