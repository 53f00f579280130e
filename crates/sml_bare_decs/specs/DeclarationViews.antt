-- The program's parts of declarations as those of the definitions.
use Rattle.std.specs.Prelude.{map, reverse}
use Rattle.sml_tree.specs.BindingViews.{con_bind_of, dat_bind_of, typ_bind_of}
use Rattle.sml_bare_decs.specs.DeclarationRules.{Constructors}
use Rattle.sml_bare_decs.specs.declared.declaration_parts.Constructors as P

abbrev pub constructors_of : P.Constructors → Constructors
constructors_of w = record { constructors = map con_bind_of (reverse w.constructors.trees.items); datatypes = map dat_bind_of (reverse w.datatypes.trees.items); types = map typ_bind_of (reverse w.types.trees.items) }
