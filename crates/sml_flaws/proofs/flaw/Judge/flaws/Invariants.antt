-- The faults so far, and those of the marks to come.
use Rattle.std.proofs.Common.{◌≡◌, ◌++◌, List, [], reverse, take, drop}
use Rattle.sml_reach.specs.Events.{text_at}
use Rattle.sml_reach.specs.Fits.{Fit}
use Rattle.sml_flaws.specs.Flaws.{KnowsFits, Knows, flaws_of}
use Rattle.sml_flaws.proofs.flaw.Judge.flaws.Given as goal

abbrev pub invariant-loop-mark : goal.invariant-loop-mark
invariant-loop-mark l = record {
  seen : Knows (text_at l.self.unit.now l.self.tokens.now) (reverse (take l.mark-index l.marks)) l.seen;
  kept : (fits : List Fit) → KnowsFits fits l.self → flaws_of (text_at l.self.unit.now l.self.tokens.now) fits [] l.marks ≡ l.flaws.items ++ flaws_of (text_at l.self.unit.now l.self.tokens.now) fits (reverse (take l.mark-index l.marks)) (drop l.mark-index l.marks);
}
