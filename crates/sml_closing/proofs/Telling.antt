-- An answer that is right in an environment, where two questions are one.
use Rattle.std.proofs.Common.{◌≡◌, Bool, Result, Ok, Err, IfOk, ◌∙◌}
use Rattle.sml_lex.specs.declared.fault.Memory.{Memory}
use Rattle.sml_tree.specs.Trees.{LongId}
use Rattle.sml_objects.specs.Initial.{Name}
use Rattle.sml_core_rules.specs.Objects.{Env}
use Rattle.sml_closing.specs.Statuses.{TellsOf}

pub told : (says : LongId → Bool → Type 0) (f g : Env Name → Bool) (r : Result Bool Memory) → ((C : Env Name) → TellsOf says C → g C ≡ f C)
    → ((C : Env Name) → TellsOf says C → IfOk r (λ b. b ≡ g C)) → (C : Env Name) → TellsOf says C → IfOk r (λ b. b ≡ f C)
told says f g (Ok b) e h C t = h C t ∙ e C t
told says f g (Err m) e h C t = tt
