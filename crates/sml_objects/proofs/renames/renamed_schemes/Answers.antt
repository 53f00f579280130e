use Rattle.std.proofs.Common.{◌≡◌, ap, ◌∙◌, map, [], ◌∷◌, rules}
use Rattle.std.proofs.lemmas.List.{map-append}
use Rattle.std.proofs.lemmas.Map.Iter.{iter_end}
use Rattle.std.specs.Map.Iter.{deref_pair}
use Rattle.sml_objects.specs.Objects.{rename_scheme}
use Rattle.sml_objects.specs.Maps.{join}
use Rattle.sml_objects.specs.Views.{scheme_of, schemes_of}
use Rattle.sml_objects.proofs.Joins.{mapped}
use Rattle.sml_objects.proofs.RenamedParts.{map-mapped}
use Rattle.sml_objects.proofs.SortedMaps.{mapped-next, put-in-order}
use Rattle.sml_objects.proofs.renames.renamed_schemes.Goals as goal

pub loop-name-preserved-in_ok-insert : goal.loop-name-preserved-in_ok-insert
loop-name-preserved-in_ok-insert g c =
    let f = g.M.NameMap.gives c.args.by.now in
    mapped-next (λ s. scheme_of s.value) (rename_scheme f) c.loop-name.copies.entries c.insert.new.self.entries (map deref_pair c.loop-name.yielded) _
    c.in_ok-clone.field-0 c.in-Some.name.now c.in_ok-new.field-0 c.in-Some.scheme.now c.in_ok-insert.ensures.entries
    (map-append deref_pair c.loop-name.yielded ((c.in-Some.name, c.in-Some.scheme) ∷ [])) (ap (λ v. v.items) c.in_ok-clone.ensures.cases)
    (ap scheme_of c.in_ok-new.ensures.ok ∙ c.in_ok-copy.ensures ∙ ap (λ s. rename_scheme f (scheme_of s)) c.deref.ensures)
    c.loop-name.invariant

pub loop-name-preserved : goal.loop-name-preserved
loop-name-preserved g c =
    let f = g.M.NameMap.gives c.args.by.now in
    mapped-next (λ s. scheme_of s.value) (rename_scheme f) c.loop-name.copies.entries c.insert.new.self.entries (map deref_pair c.loop-name.yielded) _
    c.in_ok-clone.field-0 c.in-Some.name.now c.in_ok-new.field-0 c.in-Some.scheme.now c.in_ok-insert.ensures.entries
    (map-append deref_pair c.loop-name.yielded ((c.in-Some.name, c.in-Some.scheme) ∷ [])) (ap (λ v. v.items) c.in_ok-clone.ensures.cases)
    (ap scheme_of c.in_ok-new.ensures.ok ∙ c.in_ok-copy.ensures ∙ ap (λ s. rename_scheme f (scheme_of s)) c.deref.ensures)
    c.loop-name.invariant

pub returns : goal.returns
returns g c =
    let f = g.M.NameMap.gives c.args.by.now in
    let whole : map deref_pair c.loop-name.yielded ≡ c.args.schemes.now.entries = search (rules, iter_end) in
    c.loop-name.invariant
    ∙ ap (λ l. join [] (mapped (rename_scheme f) (schemes_of l))) whole
    ∙ put-in-order (λ s. scheme_of s.value) (rename_scheme f) c.args.schemes.now.entries c.into_iter-name-iterator.ensures.into_iter_gives.5
    ∙ map-mapped f (schemes_of c.args.schemes.now.entries)
