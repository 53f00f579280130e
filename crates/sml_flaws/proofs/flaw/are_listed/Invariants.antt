-- No variable is listed from here on.
use Rattle.std.proofs.Common.{◌≡◌, ◌≤◌, ℕ, List, [], drop, length}
use Rattle.sml_tree.specs.Trees.{Id}
use Rattle.sml_flaws.specs.declared.mark.Mark.{Mark}
use Rattle.sml_flaws.specs.Flaws.{scoped_of}
use Rattle.sml_flaws.proofs.flaw.are_listed.Given as goal

abbrev pub invariant-loop-i : goal.invariant-loop-i
invariant-loop-i l = record {
  none : (text : ℕ → Id) (ends : List ℕ) (all : List Mark) → scoped_of text ends all (drop l.i l.marks) ≡ [];
  within : l.i ≤ length l.marks;
}
