use Rattle.std.proofs.Common.{◌≡◌, ℕ, ◌+◌, ◌-◌, ◌^◌, refl, ap, sym, ◌∙◌, map, rules}
use Rattle.std.proofs.lemmas.Map.Iter.{iter_end}
use Rattle.std.specs.Map.Iter.{deref_pair}
use Rattle.sml_objects.specs.Initial.{Name}
use Rattle.sml_objects.specs.Views.{entries_of}
use Rattle.sml_core_rules.specs.Objects as O
use Rattle.sml_bases.specs.Entries.{capped, total}
use Rattle.sml_bases.specs.Layers.{bound_env, bound_functors, bound_signatures}
use Rattle.sml_bases.specs.Views.{env_of, fun_sig_of, sig_of}
use Rattle.sml_bases.specs.declared.objects.Basis.TheViews.{out-Basis}
use Rattle.sml_bases.specs.declared.objects.FunSig.{FunSig}
use Rattle.sml_bases.specs.declared.objects.Sig.{Sig}
use Rattle.sml_bases.proofs.Totals.{total-more}
use Rattle.sml_envs.specs.Extents.{env_bytes}
use Rattle.sml_envs.proofs.Caps.{added, added-to, regrouped}
use Rattle.sml_envs.proofs.extents.least_text.Goals as goal

abbrev sig_bytes : O.Sig Name → ℕ
sig_bytes S = env_bytes S.body

abbrev fun_sig_bytes : O.FunSig Name → ℕ
fun_sig_bytes F = env_bytes F.argument.body + env_bytes F.result.body

pub loop-signature-preserved : goal.loop-signature-preserved
loop-signature-preserved c =
    let own = env_bytes (bound_env c.args.basis.now) in
    let before = total sig_bytes (entries_of (λ s. sig_of s.value) (map deref_pair c.loop-signature.yielded)) in
    let this = env_bytes (env_of c.in-Some.signature.now.value.env.value) in
    let bytes : c.env_bytes.result ≡ capped this =
    c.env_bytes.ensures 0 refl
    ∙ ap (λ e. capped (env_bytes (env_of e))) c.deref-in-loop-signature.ensures
    ∙ ap (λ (s : Sig). capped (env_bytes (env_of s.env.value))) c.deref.ensures in
    added (2 ^ 64 - 1) (own + before) this _ _ _ c.loop-signature.invariant bytes c.saturating_add-bytes.ensures
    ∙ ap capped (regrouped own before this)
    ∙ ap (λ n. capped (own + n)) (sym (total-more (λ s. sig_of s.value) sig_bytes c.loop-signature.yielded c.in-Some.field-0-0 c.in-Some.signature))

pub loop-functor-preserved : goal.loop-functor-preserved
loop-functor-preserved c =
    let most = 2 ^ 64 - 1 in
    let own = c.loop-signature.bytes in
    let before = total fun_sig_bytes (entries_of (λ f. fun_sig_of f.value) (map deref_pair c.loop-functor.yielded)) in
    let f = c.in-Some-2.functor.now.value in
    let argument = env_bytes (env_of f.argument.env.value) in
    let result = env_bytes (env_of f.result.env.value) in
    let first : c.env_bytes-in-loop-functor.result ≡ capped argument =
    c.env_bytes-in-loop-functor.ensures 0 refl
    ∙ ap (λ e. capped (env_bytes (env_of e))) c.deref-in-loop-functor-2.ensures
    ∙ ap (λ (g : FunSig). capped (env_bytes (env_of g.argument.env.value))) c.deref-in-loop-functor.ensures in
    let second : c.env_bytes-in-loop-functor-2.result ≡ capped result =
    c.env_bytes-in-loop-functor-2.ensures 0 refl
    ∙ ap (λ e. capped (env_bytes (env_of e))) c.deref-in-loop-functor-4.ensures
    ∙ ap (λ (g : FunSig). capped (env_bytes (env_of g.result.env.value))) c.deref-in-loop-functor-3.ensures in
    added most (own + before + argument) result _ _ _ (added most (own + before) argument _ _ _ c.loop-functor.invariant first c.saturating_add-bytes-in-loop-functor.ensures)
    second c.saturating_add-bytes-in-loop-functor-2.ensures
    ∙ ap capped (regrouped (own + before) argument result ∙ regrouped own before (argument + result))
    ∙ ap (λ n. capped (own + n)) (sym (total-more (λ f. fun_sig_of f.value) fun_sig_bytes c.loop-functor.yielded c.in-Some-2.field-0-0 c.in-Some-2.functor))

pub returns : goal.returns
returns c =
    let b = out-Basis c.args.basis.now in
    let own = env_bytes (bound_env c.args.basis.now) in
    let signatures : map deref_pair c.loop-signature.yielded ≡ b.signatures.entries = search (rules, iter_end) in
    let functors : map deref_pair c.loop-functor.yielded ≡ b.functors.entries = search (rules, iter_end) in
    let ss = total sig_bytes (bound_signatures c.args.basis.now) in
    let fs = total fun_sig_bytes (bound_functors c.args.basis.now) in
    added-to (2 ^ 64 - 1) (own + ss) fs _ _
    (c.loop-signature.invariant ∙ ap (λ l. capped (own + total sig_bytes (entries_of (λ s. sig_of s.value) l))) signatures)
    (c.loop-functor.invariant ∙ ap (λ l. capped (c.loop-signature.bytes + total fun_sig_bytes (entries_of (λ f. fun_sig_of f.value) l))) functors)
    ∙ ap capped (regrouped own ss fs)
