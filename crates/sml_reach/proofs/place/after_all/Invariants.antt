use Rattle.std.proofs.Common.{◌≡◌, ℕ, List, ◌++◌, take}
use Rattle.sml_reach.specs.Places.{place_after}
use Rattle.sml_reach.proofs.place.after_all.Given as goal

abbrev pub invariant-loop-byte : goal.invariant-loop-byte
invariant-loop-byte l =
    (before : List ℕ) → l.fn.place ≡ place_after before → l.reached ≡ place_after (before ++ take l.byte-index l.bytes)
