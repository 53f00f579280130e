use Rattle.std.proofs.Common.{ap, map, [], ◌∷◌}
use Rattle.std.proofs.lemmas.List.{map-append}
use Rattle.std.specs.Map.Iter.{deref_pair}
use Rattle.sml_objects.specs.Views.{entries_of}
use Rattle.sml_objects.proofs.Joins.{joined-next}
use Rattle.sml_bases.specs.Views.{value_of}
use Rattle.sml_bases.proofs.environments.put_values.Goals as goal

pub loop-name-preserved-in_ok-insert : goal.loop-name-preserved-in_ok-insert
loop-name-preserved-in_ok-insert c =
    joined-next value_of (entries_of value_of c.args.map.now.entries) c.loop-name.map.entries c.insert.new.self.entries (map deref_pair c.loop-name.yielded) _
    c.in_ok-clone.field-0 c.in-Some.name.now c.in_ok-share.field-0 c.in-Some.value.now c.in_ok-insert.ensures.entries
    (map-append deref_pair c.loop-name.yielded ((c.in-Some.name, c.in-Some.value) ∷ [])) (ap (λ v. v.items) c.in_ok-clone.ensures.cases) c.in_ok-share.ensures.value c.loop-name.invariant

pub loop-name-preserved : goal.loop-name-preserved
loop-name-preserved c =
    joined-next value_of (entries_of value_of c.args.map.now.entries) c.loop-name.map.entries c.insert.new.self.entries (map deref_pair c.loop-name.yielded) _
    c.in_ok-clone.field-0 c.in-Some.name.now c.in_ok-share.field-0 c.in-Some.value.now c.in_ok-insert.ensures.entries
    (map-append deref_pair c.loop-name.yielded ((c.in-Some.name, c.in-Some.value) ∷ [])) (ap (λ v. v.items) c.in_ok-clone.ensures.cases) c.in_ok-share.ensures.value c.loop-name.invariant
