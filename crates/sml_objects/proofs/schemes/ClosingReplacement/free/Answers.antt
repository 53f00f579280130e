use Rattle.std.proofs.Common.{ap, ◌∙◌}
use Rattle.sml_objects.specs.Objects as O
use Rattle.sml_objects.specs.declared.objects.MlType.{Bound}
use Rattle.sml_objects.proofs.TypeViews.{type_of-bound}
use Rattle.sml_objects.proofs.TypeCopies.{shared-type}
use Rattle.sml_objects.proofs.Closings.{place-found, place-missing}
use Rattle.sml_objects.proofs.schemes.ClosingReplacement.free.Goals as goal
use Rattle.sml_objects.proofs.schemes.ClosingReplacement.free.Goals.{in-Some, in-None}

pub returns-in-Ok : goal.returns-in-Ok
returns-in-Ok c =
    shared-type c.shared.result (Bound c.in-Ok.place) _ (type_of-bound c.in-Ok.place
    ∙ ap O.bound (c.in-Ok.ensures.1
    ∙ elim c.match-get_index_of.branch [
      | in-Some w ↦ w.place-is ∙ place-found c.args.variable c.args.self.now.places.now.keys w.in-Some.place w.in-Some.ensures.index
      | in-None w ↦ w.place-is ∙ w.len-place.ensures.len ∙ place-missing c.args.variable c.args.self.now.places.now.keys w.in-None.ensures.index
    ])) c.shared.ensures
