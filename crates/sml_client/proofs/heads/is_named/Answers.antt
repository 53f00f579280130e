use Rattle.std.proofs.Common.{◌∷◌, ◌++◌, [], ap, ◌∙◌}
use Rattle.sml_client.proofs.Parts.{named_tested}
use Rattle.sml_client.proofs.heads.is_named.Goals as goal

pub returns-in-Some : goal.returns-in-Some
returns-in-Some c =
    named_tested c.ends_with_name.result c.args.bytes.now c.in-Some.before.now c.before_blanks.result.now
    (c.in-Some.ensures.cases.0 ∙ ap (λ b. c.in-Some.before.now ++ (b ∷ [])) c.if-last-eq58.true) c.before_blanks.ensures c.ends_with_name.ensures
