use Rattle.std.proofs.Common.{◌++◌, codes, ap, ◌∙◌}
use Rattle.percent_encoding.specs.Iter.{encoded_text}
use Rattle.percent_encoding.specs.Percent.{percent_encode}
use Rattle.sml_client.specs.declared.paths.TheConstants.{ESCAPED}
use Rattle.sml_client.proofs.Addresses.{all_bytes}
use Rattle.sml_client.proofs.paths.uri_of.Goals as goal

pub returns : goal.returns
returns c =
    c.in_ok-append_to.ensures.ok ∙ ap (λ l. l ++ encoded_text c.percent_encode.result) c.in_ok-uri.ensures.ok
    ∙ ap (λ l. codes "file://" ++ l) (c.percent_encode.ensures.text ∙ ap (percent_encode ESCAPED) c.as_bytes.ensures.value ∙ all_bytes c.args.path.now)
