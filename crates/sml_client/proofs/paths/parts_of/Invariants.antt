use Rattle.std.proofs.Common.{◌≡◌, [], map}
use Rattle.std.specs.List.{fold}
use Rattle.sml_client.specs.Paths.{with_part}
use Rattle.sml_client.proofs.paths.parts_of.Given as goal

abbrev pub invariant-loop-part : goal.invariant-loop-part
invariant-loop-part l = map (λ p. p.now) l.parts.items ≡ fold (with_part l.is_absolute) [] (map (λ p. p.now) l.yielded)
