use Rattle.sml_objects.specs.Appearance.{appear_sig}
use Rattle.sml_objects.specs.Objects.{names_sig}
use Rattle.sml_objects.specs.Signatures.{signature_of}
use Rattle.sml_objects.proofs.SameNames.{stand-collected}
use Rattle.sml_objects.proofs.StandingObjects.{sig-appears, sig-stands}
use Rattle.sml_objects.proofs.named.SigNamed.names.Goals as goal

pub returns : goal.returns
returns c =
    let x = signature_of c.args.self.now in
    stand-collected c.collect_signature.new.seen.keys c.new-names.result.keys (appear_sig x) (names_sig x) c.in_ok-collect_signature.ensures c.new-names.ensures.empty
    (λ n s. sig-stands n x s) (λ n s. sig-appears n x s)
