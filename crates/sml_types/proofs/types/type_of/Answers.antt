use Rattle.std.proofs.Common.{sym, ap, ◌∙◌}
use Rattle.sml_tree.specs.TypeViews.{names_of}
use Rattle.sml_rules.specs.Answers.{accepted}
use Rattle.sml_objects.specs.Initial.{Name}
use Rattle.sml_objects.specs.Objects.{bound}
use Rattle.sml_core_rules.specs.Datatypes.{listed}
use Rattle.sml_types.specs.Meant.{meant}
use Rattle.sml_types.proofs.Readings.{one-meant, one-type, through}
use Rattle.sml_types.proofs.types.type_of.Goals as goal

pub returns-in_err-written : goal.returns-in_err-written
returns-in_err-written g c = λ C bs tells sides un.
    through one-meant one-type c.from_residual-in_err-written.result c.in_err-written.field-0.0 _ _ c.from_residual-in_err-written.ensures.1
    (c.in_err-written.ensures.answer C bs (listed {N = Name} bound 0 (names_of c.args.variables.now)) tells sides
    (c.in_err-written.ensures.stays (listed {N = Name} bound 0 (names_of c.args.variables.now)) c.in_ok-listed.ensures) un) (λ f r. r)

pub returns : goal.returns
returns g c = λ C bs tells sides un.
    c.in_ok-written.ensures.answer C bs (listed {N = Name} bound 0 (names_of c.args.variables.now)) tells sides
    (c.in_ok-written.ensures.stays (listed {N = Name} bound 0 (names_of c.args.variables.now)) c.in_ok-listed.ensures) un
    ∙ ap accepted (sym (c.in_ok-make.ensures ∙ ap meant c.deref.ensures))
