use Rattle.std.proofs.Common.{refl, subst, inl, inr}
use Rattle.sml_lex.specs.Strings.{IsBroken}
use Rattle.sml_lex.specs.CodeStrings.{IsQuoted}
use Rattle.sml_lex.proofs.FirstTokens.{character_lexeme, other_length}
use Rattle.sml_lex.proofs.pieces.character_piece.Goals as goal

pub returns-then-extent-eq1 : goal.returns-then-extent-eq1
returns-then-extent-eq1 c = (character_lexeme c.args.rest.now c.in-Ok.extent c.requires (subst (λ t. IsQuoted t c.in-Ok.extent) c.after.ensures c.in-Ok.ensures) c.if-extent-eq1.true, refl)

pub returns-else-extent-eq1 : goal.returns-else-extent-eq1
returns-else-extent-eq1 c = inr (inl (inr (inr (c.requires, other_length _ c.in-Ok.extent (subst (λ t. IsQuoted t c.in-Ok.extent) c.after.ensures c.in-Ok.ensures) c.if-extent-eq1.false, refl))))

pub returns-in-Err : goal.returns-in-Err
returns-in-Err c = inr (inl (inr (inl (c.requires, c.in-Err.stop, subst (λ t. IsBroken t c.in-Err.stop) c.after.ensures c.in-Err.ensures, refl))))
