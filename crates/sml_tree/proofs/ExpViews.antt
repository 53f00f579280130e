-- The views of a few expressions.
use Rattle.std.proofs.Common.{◌≡◌, map, ap, sym, ◌∙◌, Vec, Box, Global}
use Rattle.sml_lex.specs.declared.fault.Place.{Place}
use Rattle.sml_tree.specs.Expressions as E
use Rattle.sml_tree.specs.TypeViews.{ty_of}
use Rattle.sml_tree.specs.ExpressionViews.{exp_of, exps_of, field_of, fields_of, exp_layer, field_layer, rule_layer, dec_layer, bind_layer}
use Rattle.sml_tree.specs.declared.types.Ty.{Ty}
use Rattle.sml_tree.specs.declared.expressions.Exp.{Exp}
use Rattle.sml_tree.specs.declared.expressions.ExpField.{ExpField}
use Rattle.sml_tree.specs.declared.expressions.Dec.TheOpen as EO
use Rattle.sml_tree.specs.declared.expressions.Exp.TheVariants as EV
use Rattle.sml_tree.specs.declared.expressions.Dec.TheFolds.{fold-roll-Exp}

pub exp_of-bracket : (p : Place) (e : Box Exp Global) → exp_of (EV.Bracket p e) ≡ E.bracket p (exp_of e.value)
exp_of-bracket p e =
    ap exp_of (sym (EV.rolls-Bracket p e))
    ∙ fold-roll-Exp (E.Dec Place) (E.Exp Place) (E.Field Place) (E.Rule Place) (E.ValBind Place) dec_layer exp_layer field_layer rule_layer bind_layer (EO.Bracket p e)

pub exp_of-typed : (p : Place) (e : Box Exp Global) (t : Box Ty Global) → exp_of (EV.Typed p e t) ≡ E.typed p (exp_of e.value) (ty_of t.value)
exp_of-typed p e t =
    ap exp_of (sym (EV.rolls-Typed p e t))
    ∙ fold-roll-Exp (E.Dec Place) (E.Exp Place) (E.Field Place) (E.Rule Place) (E.ValBind Place) dec_layer exp_layer field_layer rule_layer bind_layer (EO.Typed p e t)

pub exp_of-row : (p : Place) (fs : Vec ExpField Global) → exp_of (EV.Row p fs) ≡ E.row p (fields_of (map field_of fs.items))
exp_of-row p fs =
    ap exp_of (sym (EV.rolls-Row p fs))
    ∙ fold-roll-Exp (E.Dec Place) (E.Exp Place) (E.Field Place) (E.Rule Place) (E.ValBind Place) dec_layer exp_layer field_layer rule_layer bind_layer (EO.Row p fs)

pub exp_of-tuple : (p : Place) (es : Vec Exp Global) → exp_of (EV.Tuple p es) ≡ E.tuple p (exps_of (map exp_of es.items))
exp_of-tuple p es =
    ap exp_of (sym (EV.rolls-Tuple p es))
    ∙ fold-roll-Exp (E.Dec Place) (E.Exp Place) (E.Field Place) (E.Rule Place) (E.ValBind Place) dec_layer exp_layer field_layer rule_layer bind_layer (EO.Tuple p es)

pub exp_of-application : (p : Place) (f e : Box Exp Global) → exp_of (EV.Application p f e) ≡ E.apply p (exp_of f.value) (exp_of e.value)
exp_of-application p f e =
    ap exp_of (sym (EV.rolls-Application p f e))
    ∙ fold-roll-Exp (E.Dec Place) (E.Exp Place) (E.Field Place) (E.Rule Place) (E.ValBind Place) dec_layer exp_layer field_layer rule_layer bind_layer (EO.Application p f e)
