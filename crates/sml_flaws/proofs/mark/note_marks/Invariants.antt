-- The marks so far, and those of the nodes to come.
use Rattle.std.proofs.Common.{◌≡◌, ◌+◌, ◌++◌, ◌≤◌, [], ◌∷◌, drop}
use Rattle.sml_flaws.specs.Marks.{start, marks_of}
use Rattle.sml_flaws.specs.CodeContexts.{contexts_of}
use Rattle.sml_flaws.proofs.mark.note_marks.Given as goal

abbrev pub invariant-loop-i : goal.invariant-loop-i
invariant-loop-i l = record {
  kept : marks_of 0 l.begun (start ∷ []) l.nodes ≡ l.marks.items ++ marks_of l.i l.token (contexts_of l.runs) (drop l.i l.nodes);
  few : l.token ≤ l.begun + l.i;
}
