use Rattle.sml_tree.specs.Views.{long_of}
use Rattle.sml_patterns.specs.Stands.{long_text}
use Rattle.sml_patterns.proofs.Known.{given}
use Rattle.sml_patterns.proofs.names.Names.insert.Goals as goal

pub returns : goal.returns
returns c = λ x.
    given c.args.self.now.meanings.entries c.insert.new.self.entries c.in_ok-text.text c.args.meaning (long_text (long_of c.args.long.now)) (long_text x) c.in_ok-insert.ensures.entries c.in_ok-text.ensures
