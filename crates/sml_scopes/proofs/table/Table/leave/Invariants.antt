use Rattle.std.proofs.Common.{◌≡◌, ◌≤◌, ℕ}
use Rattle.std.specs.Vec.{vec_len}
use Rattle.sml_tree.specs.Trees.{Id}
use Rattle.sml_scopes.specs.CodeTables.{bound_at}
use Rattle.sml_scopes.proofs.table.Table.leave.Given as goal

abbrev pub invariant-loop-self : goal.invariant-loop-self
invariant-loop-self g l = record {
  before : (least : ℕ) → least ≤ l.first → least ≤ vec_len l.initial.self.log → (x : Id) → bound_at least l.self x ≡ bound_at least l.initial.self x;
  inside : l.first ≤ vec_len l.initial.self.log → l.first ≤ vec_len l.self.log;
}

abbrev pub decreases-loop-self : goal.decreases-loop-self
decreases-loop-self g l = vec_len l.self.log
