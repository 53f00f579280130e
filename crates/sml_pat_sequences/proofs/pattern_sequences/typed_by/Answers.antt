use Rattle.sml_tree.specs.Patterns.{pat_typed}
use Rattle.sml_tree.specs.TypeViews.{ty_of}
use Rattle.sml_pat_sequences.proofs.PatternSequences.{pat_fails, typed-next-height}
use Rattle.sml_pat_sequences.specs.LowViews.{low_pat_of}
use Rattle.sml_pat_sequences.proofs.pattern_sequences.typed_by.Goals as goal

pub returns-in_err-pat : goal.returns-in_err-pat
returns-in_err-pat c =
    pat_fails (pat_typed c.args.place (low_pat_of c.loop-ty.pat) (ty_of c.in-Some.ty.tree)) _ c.in_err-pat.field-0.0 c.from_residual.result c.in_err-pat.ensures c.from_residual.ensures.1
    (typed-next-height c.args.place (low_pat_of c.loop-ty.pat) _ c.loop-ty.types.items c.pop.new.self.items c.in-Some.ty c.in-Some.ensures.items c.loop-ty.invariant)
