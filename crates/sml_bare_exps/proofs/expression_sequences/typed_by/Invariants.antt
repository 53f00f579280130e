use Rattle.std.proofs.Common.{◌≡◌, map, reverse, length}
use Rattle.sml_tree.specs.TypeViews.{tys_of}
use Rattle.sml_bare_exps.specs.ExpressionSequences.{typed_by}
use Rattle.sml_bare_exps.specs.ExpressionViews.{low_exp_of, low_ty_of}
use Rattle.sml_bare_exps.proofs.expression_sequences.typed_by.Given as goal

abbrev pub invariant-loop-ty : goal.invariant-loop-ty
invariant-loop-ty l =
    typed_by l.place (low_exp_of l.fn.exp) (tys_of (map low_ty_of (reverse l.fn.tys.items)))
    ≡ typed_by l.place (low_exp_of l.exp) (tys_of (map low_ty_of (reverse l.tys.items)))

abbrev pub decreases-loop-ty : goal.decreases-loop-ty
decreases-loop-ty l = length l.tys.items
