use Rattle.std.proofs.Common.{ap, subst, ◌∙◌, [], ◌∷◌, ◌++◌, if◌then◌else◌, string_bytes}
use Rattle.sml_session.specs.Files.{IsUnitPath, most_bytes}
use Rattle.sml_session.proofs.Texts.{texts-more}
use Rattle.sml_session.proofs.files.read_units.Goals as goal

pub loop-file-preserved : goal.loop-file-preserved
loop-file-preserved g c =
    let Gives = g.S.Source.gives c.args.source.now in
    let text = c.in_ok-text.text in
    let stays = c.loop-file.invariant.1 in
    let made = c.loop-file.texts.items in
    let pushed = c.push.ensures.items ∙ ap (λ b. if b then made ++ text ∷ [] else made) c.if-is_err.ensures.negation in
    let beside = subst (λ f. IsUnitPath c.args.project.now f (string_bytes c.in_ok-path.path)) c.deref.ensures c.in_ok-path.ensures in
    let given = subst (λ p. Gives p most_bytes text.items) c.deref-in-loop-file.ensures (stays _ _ _ c.in_ok-text.ensures.given) in (
      texts-more Gives c.args.project.now c.args.files.now c.loop-file.file-index c.file-item.result made c.push.new.self.items text
          c.loop-file-test.true c.file-item.is c.loop-file.invariant.0 (string_bytes c.in_ok-path.path, beside, given) pushed,
      λ path most later it. stays path most later (c.read.ensures.stays path most later it),
    )
