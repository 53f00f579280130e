-- What the program's renamings do.
use Rattle.sml_objects.specs.Initial.{Name}
use Rattle.sml_objects.specs.Exchanges.{renamed_by}
use Rattle.sml_objects.specs.declared.renamings.Renaming.{Renaming}

abbrev pub renames : Renaming → Name → Name
renames r = renamed_by r.pairs.entries
