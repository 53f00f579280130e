-- What is left to look at, after what was.
use Rattle.std.proofs.Common.{◌≡◌, ◌&&◌, Bool, ℕ, drop}
use Rattle.std.specs.List.{list_all}
use Rattle.sml_equality.specs.Runs.{arguments_admit}
use Rattle.sml_equality.specs.CodeUsers.{AreInside}
use Rattle.sml_equality.proofs.needs.arguments_may_admit.Given as goal

abbrev pub invariant-loop-argument : goal.invariant-loop-argument
invariant-loop-argument l = record {
  left : (kept : ℕ → Bool) → (list_all kept l.needs.items && arguments_admit l.run kept (drop l.argument-index l.arguments)) ≡ (list_all kept l.fn.needs.items && arguments_admit l.run kept l.arguments);
  inside : AreInside l.run.count l.fn.needs.items → AreInside l.run.count l.needs.items;
}
