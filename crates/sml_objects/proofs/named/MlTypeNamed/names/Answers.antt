use Rattle.sml_objects.specs.Appearance.{appear_type}
use Rattle.sml_objects.specs.Objects.{names_type}
use Rattle.sml_objects.specs.Views.{type_of}
use Rattle.sml_objects.proofs.SameNames.{stand-collected}
use Rattle.sml_objects.proofs.StandingObjects.{type-appears, type-stands}
use Rattle.sml_objects.proofs.named.MlTypeNamed.names.Goals as goal

pub returns : goal.returns
returns c =
    let x = type_of c.args.self.now in
    stand-collected c.collect_type.new.seen.keys c.new-names.result.keys (appear_type x) (names_type x) c.in_ok-collect_type.ensures c.new-names.ensures.empty
    (λ n s. type-stands n x s) (λ n s. type-appears n x s)
