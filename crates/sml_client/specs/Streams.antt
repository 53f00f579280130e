-- What is taken of a stream of bytes: those that were read and not yet taken, and those that the source will give, where these
-- are known.
use Rattle.std.specs.Prelude.{◌≡◌, ◌++◌, ◌<◌, ◌⊎◌, ℕ, List, [], ⊤, Option, None, Some, length}
use Rattle.std.specs.List.{AllByRecursion}
use Rattle.std.specs.Io.KnownBytes.{Consumes, prepend_known}
use Rattle.sml_client.specs.Heads.{HasNoEnd, HasText, IsHead, Told, ended}
use Rattle.sml_client.specs.declared.frames.Frame.{Frame}
use Rattle.sml_client.specs.declared.frames.Frame.TheVariants.{Body, NoLength, TooLarge, Ended, CutOff}

-- the stream from here on
abbrev pub stream : List ℕ → Option (List ℕ) → Option (List ℕ)
stream read left = prepend_known read left

-- empty lines, each with its newline
abbrev pub AreEmptyLines : List ℕ → Type 0
AreEmptyLines bytes = (lines : List (List ℕ)) × (bytes ≡ ended lines) × AllByRecursion (λ line. HasText line []) lines

-- a head tells this length: the last line that tells one does
abbrev pub TellsInHead : List ℕ → ℕ → Type 0
TellsInHead head n = (lines : List (List ℕ)) × IsHead head lines × Told lines (Some n)

-- a head tells no length, or has more bytes than a head may have
abbrev pub TellsNoLength : List ℕ → Type 0
TellsNoLength head = ((lines : List (List ℕ)) × IsHead head lines × (0 < length lines) × Told lines None) ⊎ (HasNoEnd head × (8192 < length head))

-- What was taken of a stream for a frame. A body is as long as its head tells, and stands right after it; a frame without a
-- length has a head that tells none; one that is too large has a head that tells more than a body may have.
abbrev pub IsTaken : Option (List ℕ) → Option (List ℕ) → Frame → Type 0
IsTaken old new (Body body) = (passed : List ℕ) × (head : List ℕ) × Consumes old new (passed ++ head ++ body.items) × AreEmptyLines passed × TellsInHead head (length body.items)
IsTaken old new NoLength = (passed : List ℕ) × (head : List ℕ) × Consumes old new (passed ++ head) × AreEmptyLines passed × TellsNoLength head
IsTaken old new TooLarge = (passed : List ℕ) × (head : List ℕ) × (skipped : List ℕ) × (n : ℕ) × Consumes old new (passed ++ head ++ skipped) × AreEmptyLines passed × TellsInHead head n × (16777216 < n)
IsTaken old new Ended = ⊤
IsTaken old new CutOff = ⊤

-- the same after a head that tells this length
abbrev pub IsTakenAfter : ℕ → Option (List ℕ) → Option (List ℕ) → Frame → Type 0
IsTakenAfter n old new (Body body) = Consumes old new body.items × (length body.items ≡ n)
IsTakenAfter n old new NoLength = ⊥
IsTakenAfter n old new TooLarge = (skipped : List ℕ) × Consumes old new skipped × (16777216 < n)
IsTakenAfter n old new Ended = ⊤
IsTakenAfter n old new CutOff = ⊤

-- bytes are passed over
abbrev pub IsSkipped : Option (List ℕ) → Option (List ℕ) → Frame → Type 0
IsSkipped old new (Body body) = ⊥
IsSkipped old new NoLength = ⊥
IsSkipped old new TooLarge = (skipped : List ℕ) × Consumes old new skipped
IsSkipped old new Ended = ⊤
IsSkipped old new CutOff = ⊤
