use Rattle.std.proofs.Common.{◌≡◌, map, take, get_or}
use Rattle.sml_projects.proofs.project.each_at.Given as goal

abbrev pub invariant-loop-index : goal.invariant-loop-index
invariant-loop-index l = l.found.items ≡ map (λ i. get_or l.places i 0) (take l.index-index l.indices)
