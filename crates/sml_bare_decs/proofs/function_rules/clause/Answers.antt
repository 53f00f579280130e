use Rattle.std.proofs.Common.{Some, None, ap, sym, arith}
use Rattle.std.specs.Option.{option_map}
use Rattle.sml_tree.specs.TypeViews.{ty_of}
use Rattle.sml_tree.specs.ExpressionViews.{exp_of}
use Rattle.sml_pat_sequences.specs.LowViews.{low_ty_of, low_pats_of}
use Rattle.sml_bare_decs.proofs.Clauses.{made_same, made_fails}
use Rattle.sml_bare_decs.proofs.function_rules.clause.Goals as goal

pub returns-in_ok-pats-in-None : goal.returns-in_ok-pats-in-None
returns-in_ok-pats-in-None c = made_same c.args.place _ _ _ _ (exp_of c.args.body.tree) c.in_ok-pats-in-None.ensures.pats (ap (option_map low_ty_of) (sym c.in-None.is))

pub returns-in_ok-pats-in-Some : goal.returns-in_ok-pats-in-Some
returns-in_ok-pats-in-Some c = made_same c.args.place _ _ _ _ (exp_of c.args.body.tree) c.in_ok-pats-in-Some.ensures.pats (ap (option_map low_ty_of) (sym c.in-Some.is))

pub returns-in_err-pats-in-None : goal.returns-in_err-pats-in-None
returns-in_err-pats-in-None c =
    made_fails c.args.place (low_pats_of c.args.arguments) (option_map low_ty_of c.args.ty) None (exp_of c.args.body.tree) c.max.result c.in_err-pats-in-None.field-0.0 c.from_residual.result
    c.in_err-pats-in-None.ensures.value c.from_residual.ensures.1 (ap (option_map low_ty_of) c.in-None.is)
    (omega (arith, c.max.ensures, c.row_height-row.ensures.value, c.args.body.measured))

pub returns-in_err-pats-in-Some : goal.returns-in_err-pats-in-Some
returns-in_err-pats-in-Some c =
    made_fails c.args.place (low_pats_of c.args.arguments) (option_map low_ty_of c.args.ty) (Some (ty_of c.in-Some.ty.tree)) (exp_of c.args.body.tree) c.max-height.result c.in_err-pats-in-Some.field-0.0 c.from_residual-in_err-pats-in-Some.result
    c.in_err-pats-in-Some.ensures.value c.from_residual-in_err-pats-in-Some.ensures.1 (ap (option_map low_ty_of) c.in-Some.is)
    (omega (arith, c.max-in-Some.ensures, c.max-height.ensures, c.row_height-row.ensures.value, c.args.body.measured, c.in-Some.ty.measured))
