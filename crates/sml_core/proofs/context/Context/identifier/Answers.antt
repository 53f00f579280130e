use Rattle.sml_tree.specs.Expressions.{name}
use Rattle.sml_tree.specs.TypeViews.{long_name_of}
use Rattle.sml_bases.specs.Views.{value_of}
use Rattle.sml_core.proofs.Sequences.{by-err}
use Rattle.sml_core.proofs.Finding.{identifier-not, identifier-read}
use Rattle.sml_core.specs.Answered.{Reads}
use Rattle.sml_core.proofs.context.Context.identifier.Goals as goal

pub returns-in_err-value : goal.returns-in_err-value
returns-in_err-value c =
    by-err (Reads c.args.self.now (name c.args.place (long_name_of c.args.long.now)) c.args.self.now) c.from_residual.result c.in_err-value.field-0.0 c.from_residual.ensures.1
    (identifier-not c.args.self.now c.args.self.now c.args.place (long_name_of c.args.long.now) c.in_err-value.field-0.0 c.in_err-value.ensures)

pub returns : goal.returns
returns c =
    identifier-read c.args.self.now c.instance.new.self c.args.place (long_name_of c.args.long.now) c.instance.result (value_of c.in_ok-value.value) c.in_ok-value.ensures c.instance.ensures
