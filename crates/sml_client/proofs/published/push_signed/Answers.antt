use Rattle.std.proofs.Common.{◌≡◌, ap, ◌∙◌, subst, to_z-of_z, arith}
use Rattle.std.specs.Fmt.{signed_decimal}
use Rattle.sml_client.specs.Texts.{Adds}
use Rattle.sml_client.proofs.published.push_signed.Goals as goal

pub returns : goal.returns
returns c =
    let text : c.format.result.now ≡ signed_decimal c.args.number.now = c.format.ensures.text ∙ ap signed_decimal (grind (arith, to_z-of_z)) in
    subst (Adds c.args.text.now c.push.new.self) (c.as_bytes.ensures.value ∙ text) c.push.ensures.added
