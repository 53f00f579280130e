use Rattle.sml_objects.proofs.CanonicalForms.{canonical-renames}
use Rattle.sml_objects.proofs.canonical_laws.canonical_renames.Goals as goal

pub returns : goal.returns
returns c = canonical-renames
