-- The faults so far, and those of the marks to come.
use Rattle.std.proofs.Common.{◌≡◌, ◌++◌, drop}
use Rattle.sml_reach.specs.Events.{text_at}
use Rattle.sml_flaws.specs.Flaws.{scoped_of}
use Rattle.sml_flaws.specs.CodeScopes.{KnowsPassed}
use Rattle.sml_flaws.proofs.flaw.Judge.push_scoped.Given as goal

abbrev pub invariant-loop-mark : goal.invariant-loop-mark
invariant-loop-mark l =
    let text = text_at l.self.unit.now l.self.tokens.now in
    record {
      kept : l.fn.flaws.items ++ scoped_of text l.ends l.marks l.marks ≡ l.flaws.items ++ scoped_of text l.ends l.marks (drop l.mark-index l.marks);
      known : KnowsPassed text l.ends l.scopes.owned.items l.passed;
    }
