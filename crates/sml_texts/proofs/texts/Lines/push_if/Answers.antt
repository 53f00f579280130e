use Rattle.std.proofs.Common.{ap, sym, ◌∙◌, cond, []}
use Rattle.sml_texts.specs.Text.{say}
use Rattle.sml_texts.specs.Spelling.{lines_of, and_pieces}
use Rattle.sml_texts.proofs.Spelling.{nothing_more}
use Rattle.sml_texts.proofs.texts.Lines.push_if.Goals as goal

pub returns-else-wanted : goal.returns-else-wanted
returns-else-wanted c =
    let t = lines_of c.args.self.now in
    nothing_more t ∙ ap (λ b. and_pieces t (cond b (say c.args.bytes.now) [])) (sym c.if-wanted.false)
