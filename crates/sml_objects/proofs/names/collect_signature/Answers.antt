use Rattle.std.proofs.Common.{sym, ap, map, ◌++◌}
use Rattle.sml_objects.specs.Appearance.{appear_sig, appear_env}
use Rattle.sml_objects.specs.Views.{env_of, name_of}
use Rattle.sml_objects.proofs.Appearances.{collected}
use Rattle.sml_objects.proofs.names.collect_signature.Goals as goal

pub returns : goal.returns
unfolding appear_sig
returns c =
    let env = appear_env (env_of c.args.sig.now.body) in
    collected (map name_of c.args.seen.now.keys) _ _ env _ _ c.in_ok-collect_env.ensures c.in_ok-collect_names.ensures
    (ap (λ ns. env ++ map name_of ns) (sym c.deref.ensures.value))
