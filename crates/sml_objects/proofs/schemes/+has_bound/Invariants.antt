use Rattle.std.proofs.Common.{◌≡◌, ℕ, map, take}
use Rattle.sml_objects.specs.Types.{instance_from}
use Rattle.sml_objects.specs.Views.{type_of}
use Rattle.sml_objects.proofs.TypeViews.{parts_of}
use Rattle.sml_objects.proofs.schemes.+has_bound.Given as goal

abbrev pub invariant-have_bound-loop-part : goal.invariant-have_bound-loop-part
invariant-have_bound-loop-part l =
    (k : ℕ) → map (λ t. instance_from k (type_of t.value)) (take l.part-index l.parts) ≡ parts_of (take l.part-index l.parts)
