use Rattle.std.proofs.Common.{refl, sym, ◌∙◌, inl, inr}
use Rattle.sml_lex.proofs.FirstTokens.{machine_lexeme, no_token}
use Rattle.sml_lex.proofs.pieces.token_piece.Goals as goal

pub returns-then-is_within_limit : goal.returns-then-is_within_limit
returns-then-is_within_limit c = (machine_lexeme c.args.rest.now c.in-Some.lexeme c.requires.comment c.requires.string c.requires.character c.in-Some.ensures, sym c.is_within_limit.ensures ∙ c.if-is_within_limit.true)

pub returns-else-is_within_limit : goal.returns-else-is_within_limit
returns-else-is_within_limit c = inr (
    inr (
    inr (
    record {
      kind = c.in-Some.lexeme.kind;
      size = c.in-Some.lexeme.size;
      lexeme = machine_lexeme c.args.rest.now c.in-Some.lexeme c.requires.comment c.requires.string c.requires.character c.in-Some.ensures;
      large = sym c.is_within_limit.ensures ∙ c.if-is_within_limit.false;
      fault = refl;
    }
    )
    )
    )

pub returns-in-None : goal.returns-in-None
returns-in-None c = inr (
    inr (
    inl (
    record {
      not_white = c.requires.white;
      no_comment = c.requires.comment;
      no_string = c.requires.string;
      no_character = c.requires.character;
      no_token = λ n kind l t. no_token c.args.rest.now n kind c.requires.string c.requires.character (c.in-None.ensures n l) t;
      fault = refl;
    }
    )
    )
    )
