-- The layers of demands.
use Rattle.std.specs.Prelude.{ℕ}
use Rattle.sml_lex.specs.declared.fault.Code.{Code}
use Rattle.sml_lex.specs.declared.fault.Code.TheVariants.{U1, U2, U3, E6, U4, U5, U7}
use Rattle.sml_layers.specs.declared.layer.Layer.{Layer}
use Rattle.sml_layers.specs.declared.layer.Layer.TheVariants.{Equations, Finiteness, Newness, Locality, Equality, Classes, Rigidity}

-- the fault of a layer that can't be met: types clash, circular type, type name too new, local type escapes, no equality, not
-- of the class, explicit type variable not general
abbrev pub code_of : Layer → Code
code_of Equations = U1
code_of Finiteness = U2
code_of Newness = U3
code_of Locality = E6
code_of Equality = U4
code_of Classes = U5
code_of Rigidity = U7

-- the place in the order of layers
abbrev pub index_of : Layer → ℕ
index_of Equations = 0
index_of Finiteness = 1
index_of Newness = 2
index_of Locality = 3
index_of Equality = 4
index_of Classes = 5
index_of Rigidity = 6
