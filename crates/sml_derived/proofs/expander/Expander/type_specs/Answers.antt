use Rattle.sml_tree.specs.BindingViews.{typ_bind_of}
use Rattle.sml_tree.specs.SignatureViews.{spec_of}
use Rattle.sml_derived.proofs.Lists.{next_type_spec}
use Rattle.sml_derived.proofs.expander.Expander.type_specs.Goals as goal

pub loop-bind-preserved : goal.loop-bind-preserved
loop-bind-preserved c =
    next_type_spec spec_of typ_bind_of c.loop-bind.specs.items c.push-in-loop-bind.new.self.items c.in_ok-type_spec-2.field-0 c.args.place (typ_bind_of c.args.first) c.loop-bind.yielded c.in-Some.bind c.in_ok-push-2.ensures.items c.in_ok-type_spec-2.ensures c.loop-bind.invariant
