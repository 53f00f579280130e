use Rattle.sml_objects.proofs.CanonicalForms.{canonical-numbers}
use Rattle.sml_objects.proofs.canonical_laws.canonical_numbers.Goals as goal

pub returns : goal.returns
returns c = canonical-numbers
