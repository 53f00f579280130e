-- What is left to look at, after what was.
use Rattle.std.proofs.Common.{◌≡◌, ◌&&◌, Bool, true, ℕ, map, drop}
use Rattle.std.specs.List.{list_all}
use Rattle.sml_objects.specs.Objects.{types_of}
use Rattle.sml_objects.specs.Views.{type_of}
use Rattle.sml_objects.specs.Equality.{is_reference_name, all_admit_by}
use Rattle.sml_equality.specs.Runs.{admits_in}
use Rattle.sml_equality.specs.CodeUsers.{AreInside}
use Rattle.sml_equality.proofs.needs.+admits.Given as goal

abbrev pub invariant-all_may_admit-loop-part : goal.invariant-all_may_admit-loop-part
invariant-all_may_admit-loop-part l = record {
  left : (kept : ℕ → Bool) → (list_all kept l.needs.items && all_admit_by is_reference_name (λ _. true) (admits_in l.run kept) (types_of (map (λ t. type_of t.value) (drop l.part-index l.parts)))) ≡ (list_all kept l.fn.needs.items && all_admit_by is_reference_name (λ _. true) (admits_in l.run kept) (types_of (map (λ t. type_of t.value) l.parts)));
  inside : AreInside l.run.count l.fn.needs.items → AreInside l.run.count l.needs.items;
}
