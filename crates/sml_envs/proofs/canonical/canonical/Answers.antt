use Rattle.std.proofs.Common.{◌≡◌, ◌+◌, ap, sym, subst, ◌∙◌, length, map, [], true, arith}
use Rattle.std.proofs.lemmas.List.{length-map}
use Rattle.sml_objects.specs.Appearance.{firsts_after, stands}
use Rattle.sml_objects.specs.Canonical.{is_new, renumber}
use Rattle.sml_objects.specs.Initial.{naming}
use Rattle.sml_objects.specs.Views.{entries_of, maker_of, name_of}
use Rattle.sml_objects.proofs.EnvViews.{map-map}
use Rattle.sml_core_rules.specs.Objects.{rename_env, rename_fun_sig, rename_sig, replaced}
use Rattle.sml_bases.specs.Layers.{bound_env, bound_functors, bound_signatures}
use Rattle.sml_bases.specs.Views.{env_of, fun_sig_of, sig_of}
use Rattle.sml_bases.specs.declared.objects.Basis.TheViews.{out-roll-Basis}
use Rattle.sml_type_maps.specs.NewNames.{carried_of, carries}
use Rattle.sml_envs.specs.Appearing.{appear_basis}
use Rattle.sml_envs.proofs.Numbers.{collected-new, stands-to-keep}
use Rattle.sml_envs.proofs.canonical.canonical.Goals as goal

pub invariant_of-by : goal.invariant_of-by
invariant_of-by c =
    let names = appear_basis (bound_env c.args.basis) (bound_signatures c.args.basis) (bound_functors c.args.basis) in
    let listed = collected-new (maker_of c.args.unit) c.args.count names c.new-names.result.keys c.add_basis.new.seen.keys c.in_ok-add_basis.ensures c.new-names.ensures.empty in
    let many : c.len.result ≡ length c.add_basis.new.seen.keys = c.len.ensures.len in
    let sum = c.in_ok-next.ensures.sum in
    let fits = c.in_ok-next.ensures.fits in
    record {
      fits = omega (arith, many, sum, fits);
      are_new = λ n h. stands-to-keep (is_new (maker_of c.args.unit) c.args.count) n (firsts_after naming [] names) (subst (λ l. stands naming n l ≡ true) listed h);
    }

pub returns-clause-env : goal.returns-clause-env
returns-clause-env c = λ o.
    let names = appear_basis (bound_env c.args.basis) (bound_signatures c.args.basis) (bound_functors c.args.basis) in
    let listed = collected-new (maker_of c.args.unit) c.args.count names c.new-names.result.keys c.add_basis.new.seen.keys c.in_ok-add_basis.ensures c.new-names.ensures.empty in
    ap (λ b. env_of b.env) (out-roll-Basis _)
    ∙ c.in_ok-own.ensures.env o
    ∙ ap (λ ns. rename_env (renumber (maker_of c.args.unit) c.args.count ns) (bound_env c.args.basis)) listed

pub returns-clause-signatures : goal.returns-clause-signatures
returns-clause-signatures c = λ o.
    let names = appear_basis (bound_env c.args.basis) (bound_signatures c.args.basis) (bound_functors c.args.basis) in
    let listed = collected-new (maker_of c.args.unit) c.args.count names c.new-names.result.keys c.add_basis.new.seen.keys c.in_ok-add_basis.ensures c.new-names.ensures.empty in
    ap (λ b. entries_of (λ s. sig_of s.value) b.signatures.entries) (out-roll-Basis _)
    ∙ c.in_ok-own.ensures.signatures o
    ∙ ap (λ ns. replaced (rename_sig (renumber (maker_of c.args.unit) c.args.count ns)) (bound_signatures c.args.basis)) listed

pub returns-clause-functors : goal.returns-clause-functors
returns-clause-functors c = λ o.
    let names = appear_basis (bound_env c.args.basis) (bound_signatures c.args.basis) (bound_functors c.args.basis) in
    let listed = collected-new (maker_of c.args.unit) c.args.count names c.new-names.result.keys c.add_basis.new.seen.keys c.in_ok-add_basis.ensures c.new-names.ensures.empty in
    ap (λ b. entries_of (λ f. fun_sig_of f.value) b.functors.entries) (out-roll-Basis _)
    ∙ c.in_ok-own.ensures.functors o
    ∙ ap (λ ns. replaced (rename_fun_sig (renumber (maker_of c.args.unit) c.args.count ns)) (bound_functors c.args.basis)) listed

pub returns-clause-count : goal.returns-clause-count
returns-clause-count c =
    let names = appear_basis (bound_env c.args.basis) (bound_signatures c.args.basis) (bound_functors c.args.basis) in
    let listed = collected-new (maker_of c.args.unit) c.args.count names c.new-names.result.keys c.add_basis.new.seen.keys c.in_ok-add_basis.ensures c.new-names.ensures.empty in
    ap (λ b. b.count) (out-roll-Basis _)
    ∙ c.in_ok-next.ensures.sum
    ∙ ap (λ k. c.args.count + k) (c.len.ensures.len ∙ sym (length-map c.add_basis.new.seen.keys name_of) ∙ ap length listed)

pub returns-clause-names : goal.returns-clause-names
returns-clause-names c =
    let names = appear_basis (bound_env c.args.basis) (bound_signatures c.args.basis) (bound_functors c.args.basis) in
    let listed = collected-new (maker_of c.args.unit) c.args.count names c.new-names.result.keys c.add_basis.new.seen.keys c.in_ok-add_basis.ensures c.new-names.ensures.empty in
    ap (λ b. map carried_of b.names.items) (out-roll-Basis _)
    ∙ c.in_ok-carried.ensures
    ∙ sym (map-map (carries c.args.made.now) name_of c.add_basis.new.seen.keys)
    ∙ ap (map (carries c.args.made.now)) listed
