use Rattle.std.proofs.Common.{refl, inl}
use Rattle.sml_lex.proofs.CommentBodies.{comment_is, comment_never}
use Rattle.sml_lex.proofs.pieces.comment_piece.Goals as goal

pub returns-in-Some : goal.returns-in-Some
returns-in-Some c = comment_is c.args.rest.now c.in-Some.end c.requires c.in-Some.ensures.1 c.in-Some.ensures.2

pub returns-in-None : goal.returns-in-None
returns-in-None c = inl (record {
  opens = c.requires;
  never_closed = λ size k. comment_never c.args.rest.now size c.in-None.ensures k;
  fault = refl;
})
