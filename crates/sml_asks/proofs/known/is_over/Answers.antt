use Rattle.sml_objects.specs.Views.{type_of}
use Rattle.sml_asks.proofs.Overs.{over-body, body-over}
use Rattle.sml_asks.proofs.known.is_over.Goals as goal

pub returns : goal.returns
returns c = (
  λ h. over-body c.args.count (type_of c.args.ty.now) (c.is_body_over.ensures.0 h),
  λ h. c.is_body_over.ensures.1 (body-over 0 c.args.count (type_of c.args.ty.now) h),
)
