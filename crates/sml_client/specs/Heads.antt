-- Heads of frames: lines, of which the last one is empty.
use Rattle.std.specs.Prelude.{◌≡◌, ◌++◌, ◌∷◌, ◌<◌, ◌≤◌, ◌==◌, ◌⊎◌, ℕ, List, [], Bool, false, true, length, Option, None, Some}
use Rattle.std.specs.List.{AllByRecursion}
use Rattle.sml_client.specs.Lengths.{EndsOff, TellsLength, TellsNone}
use Rattle.sml_client.specs.declared.heads.Head.{Head}
use Rattle.sml_client.specs.declared.heads.Head.TheVariants.{Open, Blank, Bad, Whole}

-- no newline stands in a line
abbrev pub IsOneLine : List ℕ → Type 0
IsOneLine line = AllByRecursion (λ b. (b == 10) ≡ false) line

-- a line, and what stands after its newline
abbrev pub IsFirstLine : List ℕ → List ℕ → List ℕ → Type 0
IsFirstLine bytes line others = (bytes ≡ line ++ (10 ∷ others)) × IsOneLine line

-- the text of a line: the line without the carriage return at its end, if it has one
abbrev pub HasText : List ℕ → List ℕ → Type 0
HasText line text = (line ≡ text ++ (13 ∷ [])) ⊎ ((line ≡ text) × EndsOff (λ b. b == 13) line)

-- lines, each with the newline after it
abbrev pub ended : List (List ℕ) → List ℕ
ended [] = []
ended (line ∷ lines) = line ++ (10 ∷ ended lines)

-- a line with some text
pub record IsLine (line : List ℕ) : Type 0 where
  pub one : IsOneLine line
  pub text : List ℕ
  pub has_text : HasText line text
  pub some : 0 < length text

-- the text of a line tells this length
abbrev pub LineTells : List ℕ → ℕ → Type 0
LineTells line n = (text : List ℕ) × HasText line text × TellsLength text n

-- the text of a line tells no length
abbrev pub LineTellsNone : List ℕ → Type 0
LineTellsNone line = (text : List ℕ) × HasText line text × TellsNone text

-- the length that the last line tells which tells one
abbrev pub Told : List (List ℕ) → Option ℕ → Type 0
Told lines None = AllByRecursion LineTellsNone lines
Told lines (Some n) = (before : List (List ℕ)) × (line : List ℕ) × (after : List (List ℕ)) × (lines ≡ before ++ (line ∷ after))
    × LineTells line n × AllByRecursion LineTellsNone after

-- A head with these lines: they have texts, and one without a text stands after them.
pub record IsHead (head : List ℕ) (lines : List (List ℕ)) : Type 0 where
  pub last : List ℕ
  pub whole : head ≡ ended lines ++ (last ++ (10 ∷ []))
  pub empty : HasText last []
  pub each : AllByRecursion IsLine lines

-- The bytes begin with a head of this size that has these lines.
pub record BeginsWithHead (bytes : List ℕ) (size : ℕ) (lines : List (List ℕ)) : Type 0 where
  pub head : List ℕ
  pub rest : List ℕ
  pub whole : bytes ≡ head ++ rest
  pub counted : size ≡ length head
  pub is_head : IsHead head lines

-- No head ends in the bytes: whole lines with texts, and the beginning of another one.
pub record HasNoEnd (bytes : List ℕ) : Type 0 where
  pub lines : List (List ℕ)
  pub rest : List ℕ
  pub whole : bytes ≡ ended lines ++ rest
  pub each : AllByRecursion IsLine lines
  pub one : IsOneLine rest

-- What the first bytes are: no head yet, an empty line, a head that tells no length or none although there are too many
-- bytes, or a head and the length that it tells.
abbrev pub IsHeadOf : List ℕ → Head → Type 0
IsHeadOf bytes Open = HasNoEnd bytes × (length bytes ≤ 8192)
IsHeadOf bytes (Blank size) = BeginsWithHead bytes size []
IsHeadOf bytes (Bad size) = ((lines : List (List ℕ)) × BeginsWithHead bytes size lines × (0 < length lines) × Told lines None)
    ⊎ (HasNoEnd bytes × (8192 < length bytes) × (size ≡ length bytes))
IsHeadOf bytes (Whole size n) = (lines : List (List ℕ)) × BeginsWithHead bytes size lines × Told lines (Some n)

-- a head of this size that tells this length, or whose first line is empty
abbrev pub head_with : ℕ → Option ℕ → Bool → Head
head_with size (Some n) is_first = Whole size n
head_with size None true = Blank size
head_with size None false = Bad size
