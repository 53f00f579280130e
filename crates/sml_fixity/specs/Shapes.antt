-- What sequences of atomic phrases stand for.
use Rattle.std.specs.Prelude.{List, [], ◌∷◌}
use Rattle.sml_fixity.specs.declared.sequences.Step.{Step}
use Rattle.sml_fixity.specs.declared.sequences.Step.TheVariants.{Push}
use Rattle.sml_fixity.specs.declared.heads.Head.{Head}
use Rattle.sml_fixity.specs.declared.shape.Shape as P
use Rattle.sml_fixity.specs.declared.shape.Shape.TheVariants as V

-- the steps of an expression or of a pattern, or how the head of a clause is written
pub data Shape : Type 0 where
  tree : List Step → Shape
  headed : Head → Shape

-- the program's values as these
abbrev pub shape_of : P.Shape → Shape
shape_of V.First = tree (Push 0 ∷ [])
shape_of (V.Tree operand) = tree operand.steps.items
shape_of (V.Head how) = headed how
