use Rattle.std.proofs.Common.{◌≡◌, ap, sym, ◌∙◌, map, [], ◌∷◌, rules}
use Rattle.std.proofs.lemmas.List.{map-append}
use Rattle.std.proofs.lemmas.Map.Iter.{iter_end}
use Rattle.std.specs.Map.Iter.{deref_pair}
use Rattle.sml_objects.specs.Objects.{rename_env}
use Rattle.sml_objects.specs.Maps.{join}
use Rattle.sml_objects.specs.Views.{structures_of, entries_of, env_of}
use Rattle.sml_objects.specs.declared.objects.Env.TheViews.{out-Env}
use Rattle.sml_objects.proofs.EnvViews.{env_of-out}
use Rattle.sml_objects.proofs.Joins.{mapped}
use Rattle.sml_objects.proofs.RenamedParts.{structures-mapped, env-renamed}
use Rattle.sml_objects.proofs.SortedMaps.{mapped-next, put-in-order}
use Rattle.sml_objects.proofs.renames.+renamed.Goals as goal

pub renamed_env-returns : goal.renamed_env-returns
renamed_env-returns g t c =
    let f = g.M.NameMap.gives c.args.by.now in
    env-renamed f (out-Env c.args.env.now) (record { structures = c.in_ok-structures.structures; types = c.in_ok-types.types; values = c.in_ok-values.values })
    c.in_ok-structures.ensures c.in_ok-types.ensures c.in_ok-values.ensures
    ∙ ap (rename_env f) (sym (env_of-out c.args.env.now))

pub renamed_structures-loop-name-preserved-in_ok-insert :
    goal.renamed_structures-loop-name-preserved-in_ok-insert
renamed_structures-loop-name-preserved-in_ok-insert g t c =
    let f = g.M.NameMap.gives c.args.by.now in
    mapped-next (λ s. env_of s.value) (rename_env f) c.loop-name.copies.entries c.insert.new.self.entries (map deref_pair c.loop-name.yielded) _
    c.in_ok-clone.field-0 c.in-Some.name.now c.in_ok-new.field-0 c.in-Some.structure.now c.in_ok-insert.ensures.entries
    (map-append deref_pair c.loop-name.yielded ((c.in-Some.name, c.in-Some.structure) ∷ [])) (ap (λ v. v.items) c.in_ok-clone.ensures.cases)
    (ap env_of c.in_ok-new.ensures.ok ∙ c.in_ok-copy.ensures ∙ ap (λ s. rename_env f (env_of s)) c.deref.ensures)
    c.loop-name.invariant

pub renamed_structures-loop-name-preserved : goal.renamed_structures-loop-name-preserved
renamed_structures-loop-name-preserved g t c =
    let f = g.M.NameMap.gives c.args.by.now in
    mapped-next (λ s. env_of s.value) (rename_env f) c.loop-name.copies.entries c.insert.new.self.entries (map deref_pair c.loop-name.yielded) _
    c.in_ok-clone.field-0 c.in-Some.name.now c.in_ok-new.field-0 c.in-Some.structure.now c.in_ok-insert.ensures.entries
    (map-append deref_pair c.loop-name.yielded ((c.in-Some.name, c.in-Some.structure) ∷ [])) (ap (λ v. v.items) c.in_ok-clone.ensures.cases)
    (ap env_of c.in_ok-new.ensures.ok ∙ c.in_ok-copy.ensures ∙ ap (λ s. rename_env f (env_of s)) c.deref.ensures)
    c.loop-name.invariant

pub renamed_structures-returns : goal.renamed_structures-returns
renamed_structures-returns g t c =
    let f = g.M.NameMap.gives c.args.by.now in
    let whole : map deref_pair c.loop-name.yielded ≡ c.args.structures.now.entries = search (rules, iter_end) in
    ap structures_of
    (c.loop-name.invariant
    ∙ ap (λ l. join [] (mapped (rename_env f) (entries_of (λ s. env_of s.value) l))) whole
    ∙ put-in-order (λ s. env_of s.value) (rename_env f) c.args.structures.now.entries c.into_iter-name-iterator.ensures.into_iter_gives.5)
    ∙ structures-mapped f (entries_of (λ s. env_of s.value) c.args.structures.now.entries)
