use Rattle.std.proofs.Common.{rules}
use Rattle.sml_projects.specs.ProjectFiles.{units_in}
use Rattle.sml_projects.proofs.InOrder.{need-fault}
use Rattle.sml_projects.proofs.project.Project.new.Goals as goal

pub returns-in_err-needed-clause-fault : goal.returns-in_err-needed-clause-fault
returns-in_err-needed-clause-fault c =
    let m = c.args.manifest in
    let h = need-fault (units_in m) m.lines.items c.in_err-needed.field-0.0 c.in_err-needed.ensures.fault in
    search rules
