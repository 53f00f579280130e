-- The program's signatures as those of the definitions.
use Rattle.std.specs.Prelude.{map}
use Rattle.sml_objects.specs.Objects as O
use Rattle.sml_objects.specs.Initial.{Name}
use Rattle.sml_objects.specs.Views.{env_of, name_of}
use Rattle.sml_objects.specs.declared.objects.Sig.{Sig}

abbrev pub signature_of : Sig → O.Sig Name
signature_of s = record { names = map name_of s.names.items; body = env_of s.body }
