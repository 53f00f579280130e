use Rattle.std.proofs.Common.{rules}
use Rattle.sml_tree.specs.TypeViews.{name_of}
use Rattle.sml_tree.specs.Types.{ty_field}
use Rattle.sml_tree.specs.declared.types.Ty.TheFolds.{fold-roll-TyField}
use Rattle.sml_pat_sequences.specs.LowViews.{low_ty_of}
use Rattle.sml_bare_pats.proofs.TypeFields.{field_pushed, field_heights}
use Rattle.sml_bare_pats.proofs.type_rules.and_field.Goals as goal

pub returns : goal.returns
returns c = field_pushed _ _ _ (ty_field (name_of c.args.label) (low_ty_of c.args.ty)) c.in_ok-push.ensures.items (search (rules, fold-roll-TyField))

pub invariant_of-result-clause-measured : goal.invariant_of-result-clause-measured
invariant_of-result-clause-measured c =
    field_heights _ _ (name_of c.args.label) (low_ty_of c.args.ty) _ _ _
    (field_pushed _ _ _ (ty_field (name_of c.args.label) (low_ty_of c.args.ty)) c.in_ok-push.ensures.items (search (rules, fold-roll-TyField)))
    c.args.ty.measured c.args.fields.measured c.max-height.ensures
