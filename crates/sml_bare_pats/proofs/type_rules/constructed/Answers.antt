use Rattle.sml_tree.specs.Heights.{ty_height}
use Rattle.sml_tree.specs.Types.{ty_constructor, no_ty, and_ty}
use Rattle.sml_tree.specs.TypeViews.{long_name_of}
use Rattle.sml_pat_sequences.specs.LowViews.{low_ty_of}
use Rattle.sml_phrases.proofs.Failures.{fails}
use Rattle.sml_bare_pats.proofs.TypeChains.{constructed-next-height}
use Rattle.sml_bare_pats.proofs.type_rules.constructed.Goals as goal

pub returns-in_err-ty : goal.returns-in_err-ty
returns-in_err-ty c =
    fails low_ty_of ty_height low_ty_of ty_height (ty_constructor c.args.place (and_ty (low_ty_of c.loop-constructor.ty) no_ty) (long_name_of c.in-Some.constructor)) _ c.in_err-ty.field-0.0 c.from_residual.result c.in_err-ty.ensures c.from_residual.ensures.1
    (constructed-next-height c.args.place (low_ty_of c.loop-constructor.ty) _ c.loop-constructor.constructors.items c.pop.new.self.items c.in-Some.constructor c.in-Some.ensures.items c.loop-constructor.invariant)
