-- What is said of why a session ends, and its status.
use Rattle.std.specs.Prelude.{ℕ, List, ◌++◌, codes, decimal}
use Rattle.sml_projects.specs.declared.manifest.ProjectCode.{ProjectCode}
use Rattle.sml_projects.specs.declared.manifest.ProjectCode.TheVariants.{O1, O2, O3, O4}
use Rattle.sml_projects.specs.declared.manifest.ManifestFault.{ManifestFault}
use Rattle.sml_projects.specs.declared.manifest.ManifestFault.TheVariants as MF
use Rattle.sml_projects.specs.declared.manifest.OrderFault.{OrderFault}
use Rattle.sml_projects.specs.declared.manifest.OrderFault.TheVariants as OF
use Rattle.sml_units.specs.declared.run.RunFault.{RunFault}
use Rattle.sml_units.specs.declared.run.RunFault.TheVariants as RF
use Rattle.sml_session.specs.declared.stops.Stop.{Stop}
use Rattle.sml_session.specs.declared.stops.Stop.TheVariants.{Project, Unreadable, Write, Memory}

abbrev pub code_text : ProjectCode → List ℕ
code_text O1 = codes "O1"
code_text O2 = codes "O2"
code_text O3 = codes "O3"
code_text O4 = codes "O4"

-- after the program's name
abbrev pub reason : Stop → List ℕ
reason (Project f) = codes ": " ++ code_text f.code ++ codes " line " ++ decimal f.line ++ codes "\n"
reason (Unreadable path) = codes ": cannot read " ++ path.bytes.items ++ codes "\n"
reason Write = codes ": cannot write\n"
reason Memory = codes ": out of memory\n"

-- 2 for a fault of the project, 3 for a file that can't be read, output that fails and want of memory
abbrev pub status_of : Stop → ℕ
status_of (Project f) = 2
status_of (Unreadable path) = 3
status_of Write = 3
status_of Memory = 3

-- why a session ends where a project file is no manifest, where units have no order, and where a run has no summary
abbrev pub stop_of_manifest : ManifestFault → Stop
stop_of_manifest MF.Memory = Memory
stop_of_manifest (MF.Fault f) = Project f

abbrev pub stop_of_order : OrderFault → Stop
stop_of_order OF.Memory = Memory
stop_of_order (OF.Fault f) = Project f

abbrev pub stop_of_run : RunFault → Stop
stop_of_run RF.Memory = Memory
stop_of_run RF.Write = Write
