use Rattle.std.proofs.Common.{◌≡◌}
use Rattle.sml_core.proofs.recorder.Recorder.+note.Given as goal

abbrev pub invariant-loop-name : goal.invariant-loop-name
invariant-loop-name l = ((goal.iterator-loop-name).can_next l.name-iterator × (goal.iterator-loop-name).is_finite l.name-iterator) × (l.self.wanted ≡ l.fn.self.wanted)

abbrev pub invariant-loop-name-2 : goal.invariant-loop-name-2
invariant-loop-name-2 l = ((goal.iterator-loop-name-2).can_next l.name-iterator × (goal.iterator-loop-name-2).is_finite l.name-iterator) × (l.self.wanted ≡ l.fn.self.wanted)
