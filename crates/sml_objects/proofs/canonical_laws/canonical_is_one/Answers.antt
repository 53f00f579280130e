use Rattle.sml_objects.proofs.CanonicalForms.{canonical-one}
use Rattle.sml_objects.proofs.canonical_laws.canonical_is_one.Goals as goal

pub returns : goal.returns
returns c = canonical-one
