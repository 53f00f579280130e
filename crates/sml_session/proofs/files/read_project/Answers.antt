use Rattle.std.proofs.Common.{map, string_bytes, subst, sym}
use Rattle.sml_session.specs.Files.{AreTexts, most_bytes}
use Rattle.sml_session.proofs.Reading.{no_manifest, no_order, project_read, texts_before}
use Rattle.sml_session.proofs.files.read_project.Goals as goal

pub returns-in_err-manifest-clause-unread : goal.returns-in_err-manifest-clause-unread
returns-in_err-manifest-clause-unread g c =
    let Gives = g.S.Source.gives c.args.source.now in
    let given = subst (Gives c.args.path.now most_bytes) (sym c.deref.ensures.value) c.in_ok-text.ensures.given in
    no_manifest Gives c.args.path.now _ _ _ given c.in_err-manifest.ensures c.from_residual-in_err-manifest.ensures.1

pub returns-in_err-project-clause-unread : goal.returns-in_err-project-clause-unread
returns-in_err-project-clause-unread g c =
    let Gives = g.S.Source.gives c.args.source.now in
    let given = subst (Gives c.args.path.now most_bytes) (sym c.deref.ensures.value) c.in_ok-text.ensures.given in
    no_order Gives c.args.path.now _ c.in_ok-manifest.manifest _ _ given c.in_ok-manifest.ensures c.in_err-project.ensures.fault c.from_residual-in_err-project.ensures.1

pub returns-clause-read : goal.returns-clause-read
returns-clause-read g c =
    let Gives = g.S.Source.gives c.args.source.now in
    let given = subst (Gives c.args.path.now most_bytes) (sym c.deref.ensures.value) c.in_ok-text.ensures.given in
    let later = subst (λ fs. AreTexts (g.S.Source.gives c.read.new.source) c.args.path.now (map string_bytes fs) (map (λ t. t.items) c.in_ok-texts.texts.items)) c.deref-2.ensures.value c.in_ok-texts.ensures.given in
    let texts = texts_before Gives (g.S.Source.gives c.read.new.source) c.args.path.now _ _ c.read.ensures.stays later in
    project_read Gives c.args.path.now _ c.in_ok-manifest.manifest _ c.in_ok-texts.texts given c.in_ok-manifest.ensures c.in_ok-files.ensures texts c.in_ok-project.ensures.units
