use Rattle.sml_tree.specs.SignatureViews.{spec_of}
use Rattle.sml_tree.specs.TypeViews.{name_of}
use Rattle.sml_derived.proofs.Lists.{next_include}
use Rattle.sml_derived.proofs.expander.Expander.includes.Goals as goal

pub loop-name-preserved : goal.loop-name-preserved
loop-name-preserved c =
    next_include spec_of name_of c.loop-name.specs.items c.push.new.self.items c.include.result c.args.place c.loop-name.yielded c.in-Some.name c.in_ok-push.ensures.items c.include.ensures c.loop-name.invariant
