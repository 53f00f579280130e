use Rattle.std.proofs.Common.{subst}
use Rattle.sml_session.specs.Files.{IsRead}
use Rattle.sml_serve.specs.Overlaid.{overlaid}
use Rattle.sml_serve.proofs.Paths.{outcome_of}
use Rattle.sml_serve.proofs.projects.read_listed.Goals as goal

pub returns-in-Ok : goal.returns-in-Ok
returns-in-Ok g c =
    let path = c.args.path.now in
    let l = c.in-Ok.listed in
    let source = c.new-source.result in
    let read : IsRead (overlaid source.documents.now (g.S.Source.gives source.files.now)) path l = c.in-Ok.ensures.read in
    outcome_of (overlaid c.args.documents.now (g.S.Source.gives c.args.files.now)) path l c.listed_at.result
    (subst (λ d. IsRead (overlaid d (g.S.Source.gives c.args.files.now)) path l) c.new-source.ensures.documents
    (subst (λ f. IsRead (overlaid source.documents.now (g.S.Source.gives f)) path l) c.new-source.ensures.files read))
    c.listed_at.ensures
