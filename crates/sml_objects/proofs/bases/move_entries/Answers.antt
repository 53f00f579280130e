use Rattle.std.proofs.Common.{refl}
use Rattle.sml_objects.specs.Views.{entries_of}
use Rattle.sml_objects.proofs.Joins.{joined-next}
use Rattle.sml_objects.proofs.bases.move_entries.Goals as goal

pub loop-name-preserved-in_ok-insert : goal.loop-name-preserved-in_ok-insert
loop-name-preserved-in_ok-insert g c =
    joined-next (λ x. x.value) (entries_of (λ x. x.value) c.args.map.now.entries) c.loop-name.map.entries c.insert.new.self.entries c.loop-name.yielded _
    c.in-Some.name c.in-Some.name c.in-Some.value c.in-Some.value c.in_ok-insert.ensures.entries refl refl refl c.loop-name.invariant

pub loop-name-preserved : goal.loop-name-preserved
loop-name-preserved g c =
    joined-next (λ x. x.value) (entries_of (λ x. x.value) c.args.map.now.entries) c.loop-name.map.entries c.insert.new.self.entries c.loop-name.yielded _
    c.in-Some.name c.in-Some.name c.in-Some.value c.in-Some.value c.in_ok-insert.ensures.entries refl refl refl c.loop-name.invariant
