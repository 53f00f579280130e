-- Explicit type variables as names.
use Rattle.sml_objects.specs.Initial.{Name, made}
use Rattle.sml_layers.specs.declared.variable.Variable.{Variable}

-- the name that stands for an explicit variable
abbrev pub variable_name : Variable → Name
variable_name x = made 0 x.number 0 x.equality
