-- Answers step by step.
use Rattle.std.specs.Prelude.{◌⊎◌}
use mathlib.Core.Logic.{inl}

-- what is tested or demanded holds, and what follows is answered so
pub ◌⊳◌ : {C A B : Type 0} → C → A → (C × A) ⊎ B
c ⊳ a = inl (c, a)

infixr 20 ◌⊳◌
