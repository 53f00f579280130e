use Rattle.sml_objects.specs.Views.{scheme_of}
use Rattle.sml_asks.proofs.Making.{instance-asked}
use Rattle.sml_asks.proofs.asks.ask_instance.Goals as goal

pub returns-clause-ok : goal.returns-clause-ok
returns-clause-ok c =
    instance-asked c.args.solver.now c.know_body.new.solver c.instance.new.self (scheme_of c.args.scheme.now) c.know_body.result c.instance.result c.know_body.ensures.same
    c.instance.ensures.ty c.instance.ensures.count c.instance.ensures.same c.instance.ensures.call
