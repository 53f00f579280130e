use Rattle.sml_objects.proofs.Renaming.{type_laws, scheme_laws, env_laws, sig_laws, basis_laws}
use Rattle.sml_objects.proofs.laws.renaming_obeys_laws.Goals as goal

pub returns : goal.returns
returns c = record { types = type_laws; schemes = scheme_laws; environments = env_laws; signatures = sig_laws; bases = basis_laws }
