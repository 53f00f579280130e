use Rattle.std.proofs.Common.{map}
use Rattle.sml_tree.specs.Views.{ident_of}
use Rattle.sml_reach.proofs.Parts.{cut_more, cut_all}
use Rattle.sml_reach.proofs.names.Names.long.Goals as goal

pub loop-dot-preserved : goal.loop-dot-preserved
loop-dot-preserved c =
    cut_more ident_of c.loop-dot.path.items c.push.new.self.items c.in_ok-ident.field-0 c.args.text.now c.loop-dot.rest.now c.in-Some.dot c.loop-dot.invariant c.in-Some.ensures c.in_ok-ident.ensures c.in_ok-push.ensures.items

pub returns-clause-parts : goal.returns-clause-parts
returns-clause-parts c =
    cut_all (map ident_of c.loop-dot.path.items) c.args.text.now c.loop-dot.rest.now _ c.loop-dot.invariant c.in_default.ensures c.in_ok-last.ensures
