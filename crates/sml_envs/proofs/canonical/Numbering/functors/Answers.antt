use Rattle.std.proofs.Common.{◌≡◌, ap, sym, subst, ◌∙◌, map, [], ◌∷◌, rules}
use Rattle.std.proofs.lemmas.List.{map-append}
use Rattle.std.proofs.lemmas.Map.Iter.{iter_end}
use Rattle.std.specs.Map.Iter.{deref_pair}
use Rattle.sml_objects.specs.Canonical.{renumber}
use Rattle.sml_objects.specs.Maps.{join}
use Rattle.sml_objects.specs.Views.{entries_of, maker_of, name_of}
use Rattle.sml_objects.proofs.SortedMaps.{mapped-next, put-in-order}
use Rattle.sml_core_rules.specs.Objects.{rename_fun_sig, replaced}
use Rattle.sml_bases.specs.Views.{fun_sig_of}
use Rattle.sml_envs.specs.Mapped.{AreOrderedInFunSig, AreOrderedInFunctors}
use Rattle.sml_envs.proofs.EntryMaps.{each-split}
use Rattle.sml_envs.proofs.canonical.Numbering.functors.Goals as goal

pub loop-name-preserved-in_ok-insert : goal.loop-name-preserved-in_ok-insert
loop-name-preserved-in_ok-insert c = λ o.
    let h = rename_fun_sig (renumber (maker_of c.args.self.now.unit) c.args.self.now.count (map name_of c.args.self.now.names.now.keys)) in
    let ys = map deref_pair c.loop-name.yielded in
    let w = c.in-Some.functor.now in
    let more = map-append deref_pair c.loop-name.yielded ((c.in-Some.name, c.in-Some.functor) ∷ []) in
    let parts = each-split (λ s. fun_sig_of s.value) (λ x. AreOrderedInFunSig x) ys c.in-Some.name.now w (subst (λ l. AreOrderedInFunctors (entries_of (λ s. fun_sig_of s.value) l)) more o) in
    let this : fun_sig_of c.in_ok-copy.copy.value ≡ h (fun_sig_of w.value) =
    subst (λ x. fun_sig_of c.in_ok-copy.copy.value ≡ h (fun_sig_of x)) c.deref.ensures
    (ap fun_sig_of c.in_ok-copy.ensures.ok ∙ c.in_ok-functor.ensures (subst (λ x. AreOrderedInFunSig (fun_sig_of x)) (sym c.deref.ensures) parts.1)) in
    mapped-next (λ s. fun_sig_of s.value) h c.loop-name.numbered.entries c.insert.new.self.entries ys _ c.in_ok-clone.field-0 c.in-Some.name.now c.in_ok-copy.copy
    w c.in_ok-insert.ensures.entries more (ap (λ v. v.items) c.in_ok-clone.ensures.cases) this (c.loop-name.invariant parts.0)

pub loop-name-preserved : goal.loop-name-preserved
loop-name-preserved c = λ o.
    let h = rename_fun_sig (renumber (maker_of c.args.self.now.unit) c.args.self.now.count (map name_of c.args.self.now.names.now.keys)) in
    let ys = map deref_pair c.loop-name.yielded in
    let w = c.in-Some.functor.now in
    let more = map-append deref_pair c.loop-name.yielded ((c.in-Some.name, c.in-Some.functor) ∷ []) in
    let parts = each-split (λ s. fun_sig_of s.value) (λ x. AreOrderedInFunSig x) ys c.in-Some.name.now w (subst (λ l. AreOrderedInFunctors (entries_of (λ s. fun_sig_of s.value) l)) more o) in
    let this : fun_sig_of c.in_ok-copy.copy.value ≡ h (fun_sig_of w.value) =
    subst (λ x. fun_sig_of c.in_ok-copy.copy.value ≡ h (fun_sig_of x)) c.deref.ensures
    (ap fun_sig_of c.in_ok-copy.ensures.ok ∙ c.in_ok-functor.ensures (subst (λ x. AreOrderedInFunSig (fun_sig_of x)) (sym c.deref.ensures) parts.1)) in
    mapped-next (λ s. fun_sig_of s.value) h c.loop-name.numbered.entries c.insert.new.self.entries ys _ c.in_ok-clone.field-0 c.in-Some.name.now c.in_ok-copy.copy
    w c.in_ok-insert.ensures.entries more (ap (λ v. v.items) c.in_ok-clone.ensures.cases) this (c.loop-name.invariant parts.0)

pub returns : goal.returns
returns c = λ o.
    let h = rename_fun_sig (renumber (maker_of c.args.self.now.unit) c.args.self.now.count (map name_of c.args.self.now.names.now.keys)) in
    let all = c.args.functors.now.entries in
    let whole : map deref_pair c.loop-name.yielded ≡ all = search (rules, iter_end) in
    c.loop-name.invariant (subst (λ l. AreOrderedInFunctors (entries_of (λ s. fun_sig_of s.value) l)) (sym whole) o)
    ∙ ap (λ l. join [] (replaced h (entries_of (λ s. fun_sig_of s.value) l))) whole
    ∙ put-in-order (λ s. fun_sig_of s.value) h all c.into_iter-name-iterator.ensures.into_iter_gives.5
