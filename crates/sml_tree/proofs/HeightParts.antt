-- The heights of the parts of a phrase that is kept in a list.
use Rattle.std.proofs.Common.{◌≡◌, max, ap}
use Rattle.sml_lex.specs.declared.fault.Place.{Place}
use Rattle.sml_tree.specs.declared.types.TyField.{TyField, out-TyField, fold_out-TyField}
use Rattle.sml_tree.specs.declared.patterns.PatField.{PatField, out-PatField, fold_out-PatField}
use Rattle.sml_tree.specs.declared.expressions.ExpField.{ExpField, out-ExpField, fold_out-ExpField}
use Rattle.sml_tree.specs.declared.expressions.Rule.{Rule, out-Rule, fold_out-Rule}
use Rattle.sml_tree.specs.declared.expressions.ValBind.{ValBind, out-ValBind, fold_out-ValBind}
use Rattle.sml_tree.specs.declared.signatures.StrDesc.{StrDesc, out-StrDesc, fold_out-StrDesc}
use Rattle.sml_tree.specs.declared.structures.StrBind.{StrBind, out-StrBind, fold_out-StrBind}
use Rattle.sml_tree.specs.Types as T
use Rattle.sml_tree.specs.Patterns as P
use Rattle.sml_tree.specs.Expressions as E
use Rattle.sml_tree.specs.Signatures as S
use Rattle.sml_tree.specs.Structures as R
use Rattle.sml_tree.specs.Heights.{ty_height, ty_field_height, pat_height, pat_field_height, exp_height, field_height, rule_height, bind_height, sig_height, str_desc_height, str_height, str_bind_height}
use Rattle.sml_tree.specs.TypeViews.{ty_of, ty_layer, ty_field_layer, ty_field_of}
use Rattle.sml_tree.specs.PatternViews.{pat_of, pat_layer, pat_field_layer, pat_field_of}
use Rattle.sml_tree.specs.ExpressionViews.{exp_of, dec_layer, exp_layer, field_layer, rule_layer, bind_layer, field_of, rule_of, bind_of}
use Rattle.sml_tree.specs.SignatureViews.{sig_of, sig_layer, spec_layer, str_desc_layer, str_desc_of}
use Rattle.sml_tree.specs.StructureViews.{str_of, str_dec_layer, str_layer, str_bind_layer, str_bind_of}

pub ty_field_height-parts : (x : TyField) → ty_field_height (ty_field_of x) ≡ ty_height (ty_of (out-TyField x).ty)
ty_field_height-parts x = ap ty_field_height (fold_out-TyField (T.Ty Place) (T.TyField Place) ty_layer ty_field_layer x)

pub pat_field_height-parts : (x : PatField) → pat_field_height (pat_field_of x) ≡ pat_height (pat_of (out-PatField x).pat)
pat_field_height-parts x = ap pat_field_height (fold_out-PatField (P.Pat Place) (P.PatField Place) pat_layer pat_field_layer x)

pub field_height-parts : (x : ExpField) → field_height (field_of x) ≡ exp_height (exp_of (out-ExpField x).exp)
field_height-parts x = ap field_height (fold_out-ExpField (E.Dec Place) (E.Exp Place) (E.Field Place) (E.Rule Place) (E.ValBind Place) dec_layer exp_layer field_layer rule_layer bind_layer x)

pub rule_height-parts : (x : Rule) → rule_height (rule_of x) ≡ max (pat_height (pat_of (out-Rule x).pat)) (exp_height (exp_of (out-Rule x).exp))
rule_height-parts x = ap rule_height (fold_out-Rule (E.Dec Place) (E.Exp Place) (E.Field Place) (E.Rule Place) (E.ValBind Place) dec_layer exp_layer field_layer rule_layer bind_layer x)

pub bind_height-parts : (x : ValBind) → bind_height (bind_of x) ≡ max (pat_height (pat_of (out-ValBind x).pat)) (exp_height (exp_of (out-ValBind x).exp))
bind_height-parts x = ap bind_height (fold_out-ValBind (E.Dec Place) (E.Exp Place) (E.Field Place) (E.Rule Place) (E.ValBind Place) dec_layer exp_layer field_layer rule_layer bind_layer x)

pub str_desc_height-parts : (x : StrDesc) → str_desc_height (str_desc_of x) ≡ sig_height (sig_of (out-StrDesc x).signature)
str_desc_height-parts x = ap str_desc_height (fold_out-StrDesc (S.SigExp Place) (S.Spec Place) (S.StrDesc Place) sig_layer spec_layer str_desc_layer x)

pub str_bind_height-parts : (x : StrBind) → str_bind_height (str_bind_of x) ≡ str_height (str_of (out-StrBind x).body)
str_bind_height-parts x = ap str_bind_height (fold_out-StrBind (R.StrDec Place) (R.StrExp Place) (R.StrBind Place) str_dec_layer str_layer str_bind_layer x)
