use Rattle.sml_texts.specs.Spelling.{lines_of}
use Rattle.sml_texts.proofs.Spelling.{said_so}
use Rattle.sml_texts.proofs.texts.Lines.push.Goals as goal

pub returns : goal.returns
returns c = said_so _ (lines_of c.args.self.now) c.args.bytes.now c.in_ok-extend_from_slice.ensures.items
