use Rattle.std.proofs.Common.{ap, ◌∙◌}
use Rattle.sml_objects.specs.Views.{entries_of}
use Rattle.sml_objects.proofs.EnvViews.{entries-put}
use Rattle.sml_types.specs.declared.sides.RightSide.{RightSide}
use Rattle.sml_types.proofs.datatypes.put_side.Goals as goal

pub returns : goal.returns
returns c =
    ap (entries_of (λ (r : RightSide). r)) c.in_ok-insert.ensures.entries ∙ entries-put (λ (r : RightSide). r) c.args.sides.now.entries c.args.name c.args.side
