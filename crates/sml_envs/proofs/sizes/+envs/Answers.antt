use Rattle.std.proofs.Common.{◌≡◌, ap, sym, ◌∙◌, map, rules}
use Rattle.std.proofs.lemmas.Bool.{true≢false}
use Rattle.std.proofs.lemmas.Map.Iter.{iter_end}
use Rattle.std.specs.Map.Iter.{deref_pair}
use Rattle.sml_objects.specs.Views.{entries_of}
use Rattle.sml_bases.specs.Views.{env_of}
use Rattle.sml_bases.specs.Entries.{some_entry}
use Rattle.sml_envs.specs.Large.{has_large}
use Rattle.sml_bases.proofs.SomeEntries.{found, none-more}
use Rattle.sml_envs.proofs.LargeEntries.{by-rest, by-structures, by-types, some-structure}
use Rattle.sml_envs.proofs.sizes.+envs.Goals as goal
use Rattle.sml_envs.proofs.sizes.+envs.Goals.{has_large-then-branch, has_large-else-branch+in_ok-is_large-2}

pub has_large-returns-then-branch-2 : goal.has_large-returns-then-branch-2
has_large-returns-then-branch-2 g t c =
    let b = g.M.Mapping.bound_gives c.args.by.now in
    let f = g.M.Mapping.free_gives c.args.by.now in
    let n = g.M.Mapping.name_gives c.args.by.now in
    elim c.if-branch.branch [
      | has_large-then-branch w ↦ c.if-branch-2.true ∙ sym (by-structures b f n c.args.env.now (sym c.in_ok-is_large.ensures ∙ w.if-branch.true))
      | has_large-else-branch+in_ok-is_large-2 w ↦
          c.if-branch-2.true ∙ sym (by-types b f n c.args.env.now (sym w.in_ok-is_large-2.ensures ∙ sym w.value-is ∙ c.if-branch-2.true))
    ]

pub has_large-returns-in_ok-is_large-3 : goal.has_large-returns-in_ok-is_large-3
has_large-returns-in_ok-is_large-3 g t c =
    let b = g.M.Mapping.bound_gives c.args.by.now in
    let f = g.M.Mapping.free_gives c.args.by.now in
    let n = g.M.Mapping.name_gives c.args.by.now in
    elim c.if-branch.branch [
      | has_large-then-branch w ↦ absurd (true≢false (sym (w.value-is ∙ w.if-branch.true) ∙ c.if-branch-2.false))
      | has_large-else-branch+in_ok-is_large-2 w ↦
          by-rest b f n c.args.env.now c.in_ok-is_large-3.is_large
          (sym c.in_ok-is_large.ensures ∙ w.if-branch.false)
          (sym w.in_ok-is_large-2.ensures ∙ sym w.value-is ∙ c.if-branch-2.false)
          (sym c.in_ok-is_large-3.ensures)
    ]

pub have_large-returns-then-branch : goal.have_large-returns-then-branch
have_large-returns-then-branch g t c =
    let b = g.M.Mapping.bound_gives c.args.by.now in
    let f = g.M.Mapping.free_gives c.args.by.now in
    let n = g.M.Mapping.name_gives c.args.by.now in
    sym
    (some-structure b f n (entries_of (λ s. env_of s.value) c.args.structures.now.entries)
    ∙ found (λ s. env_of s.value) (has_large b f n) c.args.structures.now.entries c.into_iter-structure-iterator.result c.loop-structure.structure-iterator
    c.next.new.self c.loop-structure.yielded c.next.result (c.in-Some.field-0-0, c.in-Some.structure) c.into_iter-structure-iterator.ensures.into_iter_gives.0
    c.loop-structure.yielded_by c.in-Some.is c.next.ensures.steps
    (ap (λ e. has_large b f n (env_of e)) (sym c.deref.ensures) ∙ sym c.in_ok-has_large.ensures ∙ c.if-branch.true))

pub have_large-loop-structure-preserved : goal.have_large-loop-structure-preserved
have_large-loop-structure-preserved g t c =
    let b = g.M.Mapping.bound_gives c.args.by.now in
    let f = g.M.Mapping.free_gives c.args.by.now in
    let n = g.M.Mapping.name_gives c.args.by.now in
    none-more (λ s. env_of s.value) (has_large b f n) c.loop-structure.yielded c.in-Some.field-0-0 c.in-Some.structure c.loop-structure.invariant
    (ap (λ e. has_large b f n (env_of e)) (sym c.deref.ensures) ∙ sym c.in_ok-has_large.ensures ∙ c.if-branch.false)

pub have_large-returns : goal.have_large-returns
have_large-returns g t c =
    let b = g.M.Mapping.bound_gives c.args.by.now in
    let f = g.M.Mapping.free_gives c.args.by.now in
    let n = g.M.Mapping.name_gives c.args.by.now in
    let all = c.args.structures.now.entries in
    let whole : map deref_pair c.loop-structure.yielded ≡ all = search (rules, iter_end) in
    sym
    (some-structure b f n (entries_of (λ s. env_of s.value) all)
    ∙ ap (λ l. some_entry (has_large b f n) (entries_of (λ s. env_of s.value) l)) (sym whole)
    ∙ c.loop-structure.invariant)
