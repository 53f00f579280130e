use Rattle.std.proofs.Common.{◌≡◌, map}
use Rattle.sml_types.proofs.rows.parted.Given as goal

abbrev pub invariant-loop-label : goal.invariant-loop-label
invariant-loop-label g l = (l.labels.items ≡ map (λ e. e.0.1) l.yielded) × (l.parts.items ≡ map (λ e. e.1) l.yielded)
