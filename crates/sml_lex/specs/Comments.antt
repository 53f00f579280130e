-- Comments.
-- (The Definition of Standard ML (Revised), section 2.3.)
use Rattle.std.specs.Prelude.{◌≡◌, ℕ, List, [], ◌∷◌, ◌++◌, length, Bool, true, false}
use Rattle.sml_lex.specs.declared.fault.Code.TheVariants.{L1}
use Rattle.sml_lex.specs.declared.token.Stop.{Stop}
use Rattle.sml_lex.specs.Bytes.{open_round, close_round, asterisk, starts_with_both}

abbrev pub opens_comment : List ℕ → Bool
opens_comment text = starts_with_both open_round asterisk text

abbrev pub closes_comment : List ℕ → Bool
closes_comment text = starts_with_both asterisk close_round text

-- what stands in a comment: bytes and comments in turn
pub data Body : Type 0 where
  Empty : Body
  Byte : ℕ → Body → Body
  Nested : Body → Body → Body

abbrev pub body_text : Body → List ℕ
body_text Empty = []
body_text (Byte c body) = c ∷ body_text body
body_text (Nested inner body) = open_round ∷ asterisk ∷ (body_text inner ++ asterisk ∷ close_round ∷ body_text body)

abbrev pub closing : List ℕ → List ℕ
closing after = asterisk ∷ close_round ∷ after

-- where this text follows, no byte begins the opening or the closing of a comment
abbrev pub IsBody : Body → List ℕ → Type 0
IsBody Empty after = Unit {0}
IsBody (Byte c body) after = (opens_comment (c ∷ (body_text body ++ after)) ≡ false) × (closes_comment (c ∷ (body_text body ++ after)) ≡ false) × IsBody body after
IsBody (Nested inner body) after = IsBody inner (closing (body_text body ++ after)) × IsBody body after

abbrev pub comment_text : Body → List ℕ
comment_text body = open_round ∷ asterisk ∷ (body_text body ++ closing [])

-- The comment at the front has this many bytes.
pub record IsComment (text : List ℕ) (size : ℕ) : Type 0 where
  pub body : Body
  pub after : List ℕ
  pub spelled : text ≡ comment_text body ++ after
  pub is_body : IsBody body (closing after)
  pub bytes : size ≡ length (comment_text body)

-- The comment that opens at the front is never closed.
pub record IsOpenComment (text : List ℕ) (stop : Stop) : Type 0 where
  pub opens : opens_comment text ≡ true
  pub never_closed : (size : ℕ) → IsComment text size → ⊥
  pub fault : stop ≡ record {
    code = L1;
    at = 0;
  }
