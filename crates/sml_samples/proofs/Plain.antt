-- Samples that make no name and ask nothing of unknown types.
use mathlib.Core.Path.{refl}
use Rattle.std.proofs.Common.{arith}
use Rattle.sml_objects.specs.Initial.{naming}
use Rattle.sml_objects.specs.Sizes.{type_size, types_size}
use Rattle.sml_objects.specs.Types.{replace_type, replace_types}
use Rattle.sml_core_rules.specs.Answers as A
use Rattle.sml_core_rules.specs.Lookups.{find_at, type_at, value_at, structure_at}
use Rattle.sml_core_rules.specs.Datatypes.{read_type_binds}
use Rattle.sml_core_rules.specs.Types.{read_ty, read_tys}
use Rattle.sml_core_rules.specs.Scripts.{IsAnswer, ◌>>=◌}
use Rattle.sml_core_rules.specs.Expressions.{read_dec, read_decs}
use Rattle.sml_samples.specs.Core.{PlainSamples}
use Rattle.sml_samples.proofs.Steps.{◌⊳◌}

pub plain-samples : PlainSamples
unfolding IsAnswer ◌>>=◌ A.◌>>=◌ read_dec read_decs read_type_binds read_ty read_tys find_at type_at value_at structure_at type_size types_size replace_type replace_types naming
plain-samples = record {
  fixity_accepted = (_, refl);
  type_accepted = (_, (omega arith, tt) ⊳ refl);
  type_refused = refl;
  replication_accepted = (_, refl);
  replication_refused = refl;
  exception_accepted = (_, (omega arith, tt) ⊳ refl);
  exception_of_accepted = (_, (omega arith, tt) ⊳ refl);
  exception_refused = refl;
  exception_copy_refused = refl;
  local_accepted = (_, (omega arith, tt) ⊳ (omega arith, tt) ⊳ refl);
  local_refused = (omega arith, tt) ⊳ refl;
  sequence_accepted = (_, (omega arith, tt) ⊳ (omega arith, tt) ⊳ refl);
  sequence_refused = refl;
  open_accepted = (_, refl);
  open_refused = refl;
}
