use Rattle.std.proofs.Common.{rules}
use Rattle.sml_tree.specs.Views.{ident_of}
use Rattle.sml_narrowing.proofs.Rows.{label_there, label_new}
use Rattle.sml_narrowing.proofs.narrow.add_label.Goals as goal

pub returns-in_ok-push : goal.returns-in_ok-push
returns-in_ok-push c =
    label_new c.args.labels.now.items c.push.new.self.items c.args.label (search rules) (search rules)

pub returns-else-not-has_label : goal.returns-else-not-has_label
returns-else-not-has_label c =
    label_there c.args.labels.now.items (ident_of c.args.label.now) (search rules)
