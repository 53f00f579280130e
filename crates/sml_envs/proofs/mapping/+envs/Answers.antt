use Rattle.std.proofs.Common.{◌≡◌, refl, ap, sym, subst, ◌∙◌, map, [], ◌∷◌, rules}
use Rattle.std.proofs.lemmas.List.{map-append}
use Rattle.std.proofs.lemmas.Map.Iter.{iter_end}
use Rattle.std.specs.Map.Iter.{deref_pair}
use Rattle.std.specs.Option.{option_map}
use Rattle.sml_objects.specs.Maps.{join}
use Rattle.sml_objects.specs.Views.{entries_of}
use Rattle.sml_objects.proofs.SortedMaps.{mapped-next, put-in-order}
use Rattle.sml_core_rules.specs.Objects.{replaced}
use Rattle.sml_bases.specs.Views.{env_of, structures_of}
use Rattle.sml_bases.specs.declared.objects.Env.TheViews.{out-Env}
use Rattle.sml_bases.proofs.EnvViews.{env_of-out}
use Rattle.sml_envs.specs.Mapped.{AreOrderedIn, Each, changed_or, env_by}
use Rattle.sml_envs.proofs.EntryMaps.{each-split, stays-next}
use Rattle.sml_envs.proofs.EnvMaps.{each-ordered, made-by, ordered-parts, stays-by, structures-by}
use Rattle.sml_envs.proofs.mapping.+envs.Goals as goal

pub mapped_structures-loop-name-preserved-in_ok-insert : goal.mapped_structures-loop-name-preserved-in_ok-insert
mapped_structures-loop-name-preserved-in_ok-insert g t c = λ o.
    let h = env_by (g.M.Mapping.bound_gives c.args.by.now) (g.M.Mapping.free_gives c.args.by.now) (g.M.Mapping.name_gives c.args.by.now) in
    let ys = map deref_pair c.loop-name.yielded in
    let w = c.in-Some.structure.now in
    let more = map-append deref_pair c.loop-name.yielded ((c.in-Some.name, c.in-Some.structure) ∷ []) in
    let parts = each-split (λ s. env_of s.value) AreOrderedIn ys c.in-Some.name.now w (subst (λ l. Each AreOrderedIn (entries_of (λ s. env_of s.value) l)) more o) in
    let before = c.loop-name.invariant parts.0 in
    let this : changed_or (env_of w.value) (option_map (λ e. env_of e.value) c.in_ok-changed.changed) ≡ h (env_of w.value) =
    subst (λ x. changed_or (env_of x) (option_map (λ e. env_of e.value) c.in_ok-changed.changed) ≡ h (env_of x)) c.deref.ensures
    (c.in_ok-changed.ensures (subst (λ x. AreOrderedIn (env_of x)) (sym c.deref.ensures) parts.1)) in (
      mapped-next (λ s. env_of s.value) h c.loop-name.copies.entries c.insert.new.self.entries ys _ c.in_ok-clone.field-0 c.in-Some.name.now c.in_ok-copy.copy
          w c.in_ok-insert.ensures.entries more (ap (λ v. v.items) c.in_ok-clone.ensures.cases) (c.in_ok-copy.ensures.becomes ∙ this) before.0,
      λ no.
          let stays = c.in_ok-copy.ensures.stays no in
          let old = before.1 stays.0 in
          (old.0, stays-next (λ s. env_of s.value) h ys _ c.in-Some.name.now w more old.1 (sym this ∙ ap (changed_or (env_of w.value)) stays.1)),
    )

pub mapped_structures-loop-name-preserved : goal.mapped_structures-loop-name-preserved
mapped_structures-loop-name-preserved g t c = λ o.
    let h = env_by (g.M.Mapping.bound_gives c.args.by.now) (g.M.Mapping.free_gives c.args.by.now) (g.M.Mapping.name_gives c.args.by.now) in
    let ys = map deref_pair c.loop-name.yielded in
    let w = c.in-Some.structure.now in
    let more = map-append deref_pair c.loop-name.yielded ((c.in-Some.name, c.in-Some.structure) ∷ []) in
    let parts = each-split (λ s. env_of s.value) AreOrderedIn ys c.in-Some.name.now w (subst (λ l. Each AreOrderedIn (entries_of (λ s. env_of s.value) l)) more o) in
    let before = c.loop-name.invariant parts.0 in
    let this : changed_or (env_of w.value) (option_map (λ e. env_of e.value) c.in_ok-changed.changed) ≡ h (env_of w.value) =
    subst (λ x. changed_or (env_of x) (option_map (λ e. env_of e.value) c.in_ok-changed.changed) ≡ h (env_of x)) c.deref.ensures
    (c.in_ok-changed.ensures (subst (λ x. AreOrderedIn (env_of x)) (sym c.deref.ensures) parts.1)) in (
      mapped-next (λ s. env_of s.value) h c.loop-name.copies.entries c.insert.new.self.entries ys _ c.in_ok-clone.field-0 c.in-Some.name.now c.in_ok-copy.copy
          w c.in_ok-insert.ensures.entries more (ap (λ v. v.items) c.in_ok-clone.ensures.cases) (c.in_ok-copy.ensures.becomes ∙ this) before.0,
      λ no.
          let stays = c.in_ok-copy.ensures.stays no in
          let old = before.1 stays.0 in
          (old.0, stays-next (λ s. env_of s.value) h ys _ c.in-Some.name.now w more old.1 (sym this ∙ ap (changed_or (env_of w.value)) stays.1)),
    )

pub mapped_structures-returns-clause-becomes : goal.mapped_structures-returns-clause-becomes
mapped_structures-returns-clause-becomes g t c = λ o.
    let h = env_by (g.M.Mapping.bound_gives c.args.by.now) (g.M.Mapping.free_gives c.args.by.now) (g.M.Mapping.name_gives c.args.by.now) in
    let all = c.args.structures.now.entries in
    let whole : map deref_pair c.loop-name.yielded ≡ all = search (rules, iter_end) in
    let each = subst (λ l. Each AreOrderedIn (entries_of (λ s. env_of s.value) l)) (sym whole) (each-ordered (entries_of (λ s. env_of s.value) all) o) in
    ap structures_of ((c.loop-name.invariant each).0
    ∙ ap (λ l. join [] (replaced h (entries_of (λ s. env_of s.value) l))) whole
    ∙ put-in-order (λ s. env_of s.value) h all c.into_iter-name-iterator.ensures.into_iter_gives.5)
    ∙ structures-by (g.M.Mapping.bound_gives c.args.by.now) (g.M.Mapping.free_gives c.args.by.now) (g.M.Mapping.name_gives c.args.by.now) (entries_of (λ s. env_of s.value) all)

pub mapped_structures-returns-clause-stays : goal.mapped_structures-returns-clause-stays
mapped_structures-returns-clause-stays g t c = λ o no.
    let h = env_by (g.M.Mapping.bound_gives c.args.by.now) (g.M.Mapping.free_gives c.args.by.now) (g.M.Mapping.name_gives c.args.by.now) in
    let all = c.args.structures.now.entries in
    let whole : map deref_pair c.loop-name.yielded ≡ all = search (rules, iter_end) in
    let each = subst (λ l. Each AreOrderedIn (entries_of (λ s. env_of s.value) l)) (sym whole) (each-ordered (entries_of (λ s. env_of s.value) all) o) in
    let old = (c.loop-name.invariant each).1 no in
    (old.0, sym (structures-by (g.M.Mapping.bound_gives c.args.by.now) (g.M.Mapping.free_gives c.args.by.now) (g.M.Mapping.name_gives c.args.by.now) (entries_of (λ s. env_of s.value) all)) ∙ ap structures_of (subst (λ l. replaced h (entries_of (λ s. env_of s.value) l) ≡ entries_of (λ s. env_of s.value) l) whole old.1))

pub changed_env-returns-then-not-branch-2 : goal.changed_env-returns-then-not-branch-2
changed_env-returns-then-not-branch-2 g t c = λ o.
    let split = ordered-parts (out-Env c.args.env.now) (subst AreOrderedIn (env_of-out c.args.env.now) o) in
    let structures = c.in_ok-structures.ensures.stays split.0 c.if-not-is_changed.true in
    stays-by (g.M.Mapping.bound_gives c.args.by.now) (g.M.Mapping.free_gives c.args.by.now) (g.M.Mapping.name_gives c.args.by.now) c.args.env.now structures.1
    (c.in_ok-types_change.ensures split.1.0 c.if-not-branch.true) (c.in_ok-values_change.ensures split.1.1 c.if-not-branch-2.true)

pub changed_env-returns : goal.changed_env-returns
changed_env-returns g t c = λ o.
    let split = ordered-parts (out-Env c.args.env.now) (subst AreOrderedIn (env_of-out c.args.env.now) o) in
    c.in_ok-shared.ensures.env
    ∙ made-by (g.M.Mapping.bound_gives c.args.by.now) (g.M.Mapping.free_gives c.args.by.now) (g.M.Mapping.name_gives c.args.by.now) c.args.env.now _ _ refl
    (c.in_ok-structures.ensures.becomes split.0) (c.in_ok-types.ensures split.1.0) (c.in_ok-values.ensures split.1.1)
