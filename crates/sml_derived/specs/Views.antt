-- The program's constraints as those of the definitions.
use Rattle.sml_lex.specs.declared.fault.Place.{Place}
use Rattle.sml_tree.specs.SignatureViews.{sig_of}
use Rattle.sml_tree.specs.Clauses as D
use Rattle.sml_derived.specs.declared.constraint.Constraint.{Constraint}

abbrev pub constraint_of : Constraint → D.Constraint Place
constraint_of c = record { ascription = c.ascription; signature = sig_of c.signature }
