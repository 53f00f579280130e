use Rattle.std.proofs.Common.{◌≡◌, ◌<◌, ◌↔◌, ℕ, Bool, true, List, length, take}
use Rattle.sml_equality.specs.CodeUsers.{AreKept, IsSound, Spares}
use Rattle.sml_equality.proofs.users.add_user.Given as goal

abbrev pub invariant-loop-need : goal.invariant-loop-need
invariant-loop-need l = record {
  len : length l.users.items ≡ length l.fn.users.items;
  sound : l.user < length l.fn.users.items → IsSound (length l.fn.users.items) l.fn.users.items → IsSound (length l.fn.users.items) l.users.items;
  spares : (kept : ℕ → Bool) → (from : List ℕ) → Spares kept l.users.items from ↔ (Spares kept l.fn.users.items from × (kept l.user ≡ true → AreKept kept (take l.need-index l.needs)));
}
