use Rattle.std.proofs.Common.{refl}
use Rattle.sml_lex.proofs.FirstTokens.{string_lexeme}
use Rattle.sml_lex.proofs.pieces.string_piece.Goals as goal

pub returns-in-Ok : goal.returns-in-Ok
returns-in-Ok c = (string_lexeme c.args.rest.now c.in-Ok.extent c.in-Ok.ensures, refl)
