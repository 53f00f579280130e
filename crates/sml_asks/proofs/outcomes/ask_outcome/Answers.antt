use Rattle.std.proofs.Common.{true, subst}
use Rattle.std.specs.Prelude.{option_map}
use Rattle.sml_objects.specs.Views.{type_of, scheme_of}
use Rattle.sml_asks.specs.Closings.{AsksScheme}
use Rattle.sml_asks.proofs.Determining.{large-after, outcome-after}
use Rattle.sml_asks.proofs.outcomes.ask_outcome.Goals as goal

pub returns-in-Ok-None-clause-ok : goal.returns-in-Ok-None-clause-ok
returns-in-Ok-None-clause-ok c =
    large-after c.args.solver.now c.ask_scheme.new.solver (type_of c.args.ty.now) c.args.flags.now c.args.limit
    (subst (λ found. AsksScheme c.args.solver.now (type_of c.args.ty.now) c.args.flags.now true c.args.limit (option_map scheme_of found) c.ask_scheme.new.solver) c.in-Ok-None.field-0-is c.in-Ok-None.ensures.ok)

pub returns-clause-ok : goal.returns-clause-ok
returns-clause-ok c =
    outcome-after c.args.solver.now c.ask_scheme.new.solver (type_of c.args.ty.now) c.args.flags.now c.args.limit (scheme_of c.in-Ok-Some.field-0-0) c.same_or_several.result
    (subst (λ found. AsksScheme c.args.solver.now (type_of c.args.ty.now) c.args.flags.now true c.args.limit (option_map scheme_of found) c.ask_scheme.new.solver) c.in-Ok-Some.field-0-is c.in-Ok-Some.ensures.ok)
    c.choices_are_free.ensures c.same_or_several.ensures
