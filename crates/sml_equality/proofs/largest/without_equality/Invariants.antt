use Rattle.std.proofs.Common.{◌≡◌, ◌<◌, ◌↔◌, ℕ, Bool, true, [], length}
use Rattle.sml_equality.specs.CodeUsers.{AreInside, IsSound, Spares, users_of}
use Rattle.sml_equality.specs.Runs.{arguments_admit, arguments_at}
use Rattle.sml_equality.proofs.largest.without_equality.Given as goal

abbrev pub invariant-loop : goal.invariant-loop
invariant-loop l = record {
  len : length l.users.items ≡ l.counter;
  none : (i : ℕ) → users_of l.users.items i ≡ [];
}

abbrev pub invariant-loop-index : goal.invariant-loop-index
invariant-loop-index l = record {
  len : length l.users.items ≡ length l.arguments;
  sound : IsSound (length l.arguments) l.users.items;
  inside : AreInside (length l.arguments) l.lost.items;
  spares : (kept : ℕ → Bool) → Spares kept l.users.items l.lost.items ↔ ((k : ℕ) → k < l.index → kept k ≡ true → arguments_admit l.run kept (arguments_at l.arguments k) ≡ true);
}
