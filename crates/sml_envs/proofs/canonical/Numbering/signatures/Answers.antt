use Rattle.std.proofs.Common.{◌≡◌, ap, sym, subst, ◌∙◌, map, [], ◌∷◌, rules}
use Rattle.std.proofs.lemmas.List.{map-append}
use Rattle.std.proofs.lemmas.Map.Iter.{iter_end}
use Rattle.std.specs.Map.Iter.{deref_pair}
use Rattle.sml_objects.specs.Canonical.{renumber}
use Rattle.sml_objects.specs.Maps.{join}
use Rattle.sml_objects.specs.Views.{entries_of, maker_of, name_of}
use Rattle.sml_objects.proofs.SortedMaps.{mapped-next, put-in-order}
use Rattle.sml_core_rules.specs.Objects.{rename_sig, replaced}
use Rattle.sml_bases.specs.Views.{env_of, sig_of}
use Rattle.sml_envs.specs.Mapped.{AreOrderedIn, AreOrderedInSignatures}
use Rattle.sml_envs.proofs.EntryMaps.{each-split}
use Rattle.sml_envs.proofs.canonical.Numbering.signatures.Goals as goal

pub loop-name-preserved-in_ok-insert : goal.loop-name-preserved-in_ok-insert
loop-name-preserved-in_ok-insert c = λ o.
    let h = rename_sig (renumber (maker_of c.args.self.now.unit) c.args.self.now.count (map name_of c.args.self.now.names.now.keys)) in
    let ys = map deref_pair c.loop-name.yielded in
    let w = c.in-Some.signature.now in
    let more = map-append deref_pair c.loop-name.yielded ((c.in-Some.name, c.in-Some.signature) ∷ []) in
    let parts = each-split (λ s. sig_of s.value) (λ x. AreOrderedIn x.body) ys c.in-Some.name.now w (subst (λ l. AreOrderedInSignatures (entries_of (λ s. sig_of s.value) l)) more o) in
    let this : sig_of c.in_ok-copy.copy.value ≡ h (sig_of w.value) =
    subst (λ x. sig_of c.in_ok-copy.copy.value ≡ h (sig_of x)) c.deref.ensures
    (ap sig_of c.in_ok-copy.ensures.ok ∙ c.in_ok-sig.ensures (subst (λ x. AreOrderedIn (env_of x.env.value)) (sym c.deref.ensures) parts.1)) in
    mapped-next (λ s. sig_of s.value) h c.loop-name.numbered.entries c.insert.new.self.entries ys _ c.in_ok-clone.field-0 c.in-Some.name.now c.in_ok-copy.copy
    w c.in_ok-insert.ensures.entries more (ap (λ v. v.items) c.in_ok-clone.ensures.cases) this (c.loop-name.invariant parts.0)

pub loop-name-preserved : goal.loop-name-preserved
loop-name-preserved c = λ o.
    let h = rename_sig (renumber (maker_of c.args.self.now.unit) c.args.self.now.count (map name_of c.args.self.now.names.now.keys)) in
    let ys = map deref_pair c.loop-name.yielded in
    let w = c.in-Some.signature.now in
    let more = map-append deref_pair c.loop-name.yielded ((c.in-Some.name, c.in-Some.signature) ∷ []) in
    let parts = each-split (λ s. sig_of s.value) (λ x. AreOrderedIn x.body) ys c.in-Some.name.now w (subst (λ l. AreOrderedInSignatures (entries_of (λ s. sig_of s.value) l)) more o) in
    let this : sig_of c.in_ok-copy.copy.value ≡ h (sig_of w.value) =
    subst (λ x. sig_of c.in_ok-copy.copy.value ≡ h (sig_of x)) c.deref.ensures
    (ap sig_of c.in_ok-copy.ensures.ok ∙ c.in_ok-sig.ensures (subst (λ x. AreOrderedIn (env_of x.env.value)) (sym c.deref.ensures) parts.1)) in
    mapped-next (λ s. sig_of s.value) h c.loop-name.numbered.entries c.insert.new.self.entries ys _ c.in_ok-clone.field-0 c.in-Some.name.now c.in_ok-copy.copy
    w c.in_ok-insert.ensures.entries more (ap (λ v. v.items) c.in_ok-clone.ensures.cases) this (c.loop-name.invariant parts.0)

pub returns : goal.returns
returns c = λ o.
    let h = rename_sig (renumber (maker_of c.args.self.now.unit) c.args.self.now.count (map name_of c.args.self.now.names.now.keys)) in
    let all = c.args.signatures.now.entries in
    let whole : map deref_pair c.loop-name.yielded ≡ all = search (rules, iter_end) in
    c.loop-name.invariant (subst (λ l. AreOrderedInSignatures (entries_of (λ s. sig_of s.value) l)) (sym whole) o)
    ∙ ap (λ l. join [] (replaced h (entries_of (λ s. sig_of s.value) l))) whole
    ∙ put-in-order (λ s. sig_of s.value) h all c.into_iter-name-iterator.ensures.into_iter_gives.5
