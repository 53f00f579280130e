use Rattle.std.proofs.Common.{codes, ap}
use Rattle.std.specs.Fmt.{signed_decimal}
use Rattle.sml_client.specs.Answers.{version_member}
use Rattle.sml_client.proofs.Growing.{adds_more}
use Rattle.sml_client.proofs.published.push_version.Goals as goal

pub returns-in-Some : goal.returns-in-Some
returns-in-Some c =
    adds_more c.args.text.now c.push.new.self c.push_signed.new.text (codes ",\"version\":") (signed_decimal c.in-Some.number) _ c.push.ensures.added c.push_signed.ensures (ap version_member c.in-Some.is)
