-- That the units of a project keep to what was made, from the initial basis on.
use Rattle.std.specs.Prelude.{List, [], ◌∷◌, ◌++◌}
use Rattle.sml_lex.specs.declared.fault.Place.{Place}
use Rattle.sml_objects.specs.Initial.{Name, naming}
use Rattle.sml_rules.specs.Answers.{Answer}
use Rattle.sml_core_rules.specs.Initial.{initial_names, initial_basis}
use Rattle.sml_core_laws.specs.Made.{Takes}
use Rattle.sml_module_rules.specs.Structures.{Added}
use Rattle.sml_module_rules.specs.Projects.{UnitText, exported}
use Rattle.sml_module_rules.specs.Runs.{AreAnswers}
use Rattle.sml_module_laws.specs.Made.{IsPartIn, IsBasisIn}

-- What each unit exports, by the answers to it, speaks of no unknown, and only of names that it made or that were made before it.
abbrev pub ExportsSpeak : List Name → List (List (Answer Place (Added Place Name))) → Type 0
ExportsSpeak ns [] = Unit {0}
ExportsSpeak ns (os ∷ oss) = IsPartIn (Takes naming) ((exported os).names ++ ns) (exported os) × ExportsSpeak ((exported os).names ++ ns) oss

-- The initial basis is such, and so is what the units of a project export, whichever of the answers that they may be given they are given.
pub record RunsSpeakOfWhatWasMade : Type 0 where
  pub initial : IsBasisIn (Takes naming) initial_names initial_basis
  pub exports : (us : List (UnitText Place)) (oss : List (List (Answer Place (Added Place Name)))) → AreAnswers us oss → ExportsSpeak initial_names oss
