-- No scope was opened in the changes from here on.
use Rattle.std.proofs.Common.{◌≡◌, ◌≤◌, drop, length, false}
use Rattle.std.specs.List.{list_any}
use Rattle.sml_fixity.specs.Scopes.{is_scope}
use Rattle.sml_fixity.proofs.scopes.has_scope.Given as goal

abbrev pub invariant-loop-i : goal.invariant-loop-i
invariant-loop-i l = record {
  none : list_any is_scope (drop l.i l.changes) ≡ false;
  within : l.i ≤ length l.changes;
}
