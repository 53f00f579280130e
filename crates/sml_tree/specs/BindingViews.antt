-- The program's bindings of types and datatypes as those of the definitions.
use Rattle.std.specs.Prelude.{map}
use Rattle.std.specs.Option.{option_map}
use Rattle.sml_lex.specs.declared.fault.Place.{Place}
use Rattle.sml_tree.specs.Expressions as E
use Rattle.sml_tree.specs.TypeViews.{name_of, names_of, ty_of}
use Rattle.sml_tree.specs.declared.expressions.TypBind.{TypBind}
use Rattle.sml_tree.specs.declared.expressions.DatBind.{DatBind}
use Rattle.sml_tree.specs.declared.expressions.ConBind.{ConBind}

abbrev pub typ_bind_of : TypBind → E.TypBind Place
typ_bind_of b = record { variables = names_of b.variables.items; name = name_of b.name; ty = ty_of b.ty }

abbrev pub con_bind_of : ConBind → E.ConBind Place
con_bind_of b = record { name = name_of b.name; argument = option_map ty_of b.argument }

abbrev pub dat_bind_of : DatBind → E.DatBind Place
dat_bind_of b = record { variables = names_of b.variables.items; name = name_of b.name; constructors = map con_bind_of b.constructors.items }
