-- The end of comments, read byte by byte.
use Rattle.std.specs.Prelude.{ℕ, ◌+◌, ◌-◌, List, [], ◌∷◌, ◌==◌, if◌then◌else◌, Option, Some, None}
use Rattle.sml_lex.specs.Comments.{opens_comment, closes_comment}

-- what follows the end of that many open comments, if they all end
abbrev pub after_comments : ℕ → List ℕ → Option (List ℕ)
after_comments depth [] = None
after_comments depth (a ∷ []) = None
after_comments depth (a ∷ b ∷ bytes) =
    if opens_comment (a ∷ b ∷ bytes) then after_comments (depth + 1) bytes else if closes_comment (a ∷ b ∷ bytes) then if depth == 1 then Some bytes else after_comments (depth - 1) bytes else after_comments depth (b ∷ bytes)
