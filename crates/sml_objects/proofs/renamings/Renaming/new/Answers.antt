use Rattle.sml_objects.specs.Exchanges.{renamed_by}
use Rattle.sml_objects.proofs.RenamingPairs.{renaming-none, renamed-none}
use Rattle.sml_objects.proofs.renamings.Renaming.new.Goals as goal

pub invariant_of-result : goal.invariant_of-result
invariant_of-result c = record { one_to_one = ∣ renaming-none (renamed_by c.new.result.entries) (λ n. renamed-none c.new.result.entries n c.new.ensures.empty) ∣₁ }

pub returns : goal.returns
returns c = λ n. renamed-none c.new.result.entries n c.new.ensures.empty
