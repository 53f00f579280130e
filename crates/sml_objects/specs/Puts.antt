-- Environments with one more entry, which hides an older one of its identifier.
use Rattle.sml_tree.specs.Trees.{Id}
use Rattle.sml_objects.specs.Maps.{put}
use Rattle.sml_objects.specs.Objects.{Env, Scheme, env, structures, types, values, put_structure}

abbrev pub with_structure : {N : Type 0} → Id → Env N → Env N → Env N
with_structure s e' e = env (put_structure s e' (structures e)) (types e) (values e)

abbrev pub with_type : {N : Type 0} → Id → Scheme N → Env N → Env N
with_type t θ e = env (structures e) (put t θ (types e)) (values e)

abbrev pub with_value : {N : Type 0} → Id → Scheme N → Env N → Env N
with_value x σ e = env (structures e) (types e) (put x σ (values e))
