-- The views of expressions; of declarations no contract speaks yet.
use Rattle.std.proofs.Common.{◌≡◌, ◌<◌, ◌+◌, ℕ, Result, List, ◌∷◌, drop, length, map, ap, sym, subst, ◌∙◌, Vec, Box, Global}
use lib.ListN.{get_or}
use Rattle.std.proofs.lemmas.List.{drop_more}
use Rattle.std.specs.declared.rc.Rc.{Rc}
use Rattle.sml_lex.specs.declared.fault.Place.{Place}
use Rattle.sml_tree.specs.Expressions as E
use Rattle.sml_tree.specs.TypeViews.{name_of, long_name_of}
use Rattle.sml_tree.specs.PatternViews.{constant_of, pat_of}
use Rattle.sml_tree.specs.ExpressionViews.{bind_of, binds_of, exp_of, field_of, rule_of, rules_of, exp_layer, field_layer, rule_layer, dec_layer, bind_layer}
use Rattle.sml_tree.specs.declared.bare.LongIdent.{LongIdent}
use Rattle.sml_tree.specs.declared.patterns.Constant.{Constant}
use Rattle.sml_tree.specs.declared.expressions.Exp.{Exp}
use Rattle.sml_tree.specs.declared.expressions.ExpField.{ExpField, out-ExpField, fold_out-ExpField}
use Rattle.sml_tree.specs.declared.expressions.Dec.{Dec}
use Rattle.sml_tree.specs.declared.expressions.Rule.{Rule, out-Rule, fold_out-Rule}
use Rattle.sml_tree.specs.declared.expressions.ValBind.{ValBind, out-ValBind, fold_out-ValBind}
use Rattle.sml_tree.specs.declared.expressions.Dec.TheOpen as EO
use Rattle.sml_tree.specs.declared.expressions.Exp.TheVariants as EV
use Rattle.sml_tree.specs.declared.expressions.Dec.TheFolds.{fold-roll-Exp}
use Rattle.sml_objects.specs.declared.objects.MlType as P
use Rattle.sml_types.specs.declared.fault.CoreFault.{CoreFault}
use Rattle.sml_core.specs.declared.context.Context.{Context}
use Rattle.sml_core.specs.Answered.{IsPlain, Reads}

pub exp_of-constant : (p : Place) (c : Constant) → exp_of (EV.Constant p c) ≡ E.constant p (constant_of c)
exp_of-constant p c = ap exp_of (sym (EV.rolls-Constant p c)) ∙ fold-roll-Exp (E.Dec Place) (E.Exp Place) (E.Field Place) (E.Rule Place) (E.ValBind Place) dec_layer exp_layer field_layer rule_layer bind_layer (EO.Constant p c)

pub exp_of-identifier : (p : Place) (x : LongIdent) → exp_of (EV.Identifier p x) ≡ E.name p (long_name_of x)
exp_of-identifier p x = ap exp_of (sym (EV.rolls-Identifier p x)) ∙ fold-roll-Exp (E.Dec Place) (E.Exp Place) (E.Field Place) (E.Rule Place) (E.ValBind Place) dec_layer exp_layer field_layer rule_layer bind_layer (EO.Identifier p x)

pub exp_of-raise : (p : Place) (e : Box Exp Global) → exp_of (EV.Raise p e) ≡ E.raise p (exp_of e.value)
exp_of-raise p e = ap exp_of (sym (EV.rolls-Raise p e)) ∙ fold-roll-Exp (E.Dec Place) (E.Exp Place) (E.Field Place) (E.Rule Place) (E.ValBind Place) dec_layer exp_layer field_layer rule_layer bind_layer (EO.Raise p e)

pub exp_of-handle : (p : Place) (e : Box Exp Global) (rs : Vec Rule Global) → exp_of (EV.Handle p e rs) ≡ E.handle p (exp_of e.value) (rules_of (map rule_of rs.items))
exp_of-handle p e rs = ap exp_of (sym (EV.rolls-Handle p e rs)) ∙ fold-roll-Exp (E.Dec Place) (E.Exp Place) (E.Field Place) (E.Rule Place) (E.ValBind Place) dec_layer exp_layer field_layer rule_layer bind_layer (EO.Handle p e rs)

pub exp_of-function : (p : Place) (rs : Vec Rule Global) → exp_of (EV.Function p rs) ≡ E.fn p (rules_of (map rule_of rs.items))
exp_of-function p rs = ap exp_of (sym (EV.rolls-Function p rs)) ∙ fold-roll-Exp (E.Dec Place) (E.Exp Place) (E.Field Place) (E.Rule Place) (E.ValBind Place) dec_layer exp_layer field_layer rule_layer bind_layer (EO.Function p rs)

pub rule_of-parts : (r : Rule) → rule_of r ≡ E.rule (out-Rule r).place (pat_of (out-Rule r).pat) (exp_of (out-Rule r).exp)
rule_of-parts r = fold_out-Rule (E.Dec Place) (E.Exp Place) (E.Field Place) (E.Rule Place) (E.ValBind Place) dec_layer exp_layer field_layer rule_layer bind_layer r

pub field_of-parts : (f : ExpField) → field_of f ≡ E.field (name_of (out-ExpField f).label) (exp_of (out-ExpField f).exp)
field_of-parts f = fold_out-ExpField (E.Dec Place) (E.Exp Place) (E.Field Place) (E.Rule Place) (E.ValBind Place) dec_layer exp_layer field_layer rule_layer bind_layer f

pub bind_of-parts : (b : ValBind) → bind_of b ≡ E.bind (pat_of (out-ValBind b).pat) (exp_of (out-ValBind b).exp)
bind_of-parts b = fold_out-ValBind (E.Dec Place) (E.Exp Place) (E.Field Place) (E.Rule Place) (E.ValBind Place) dec_layer exp_layer field_layer rule_layer bind_layer b

-- the rules from one of them on
pub rules-left : (rs : List Rule) (i : ℕ) (r : Rule) → i < length rs → r ≡ get_or rs i r
    → rules_of (map rule_of (drop i rs)) ≡ E.and_rule (E.rule (out-Rule r).place (pat_of (out-Rule r).pat) (exp_of (out-Rule r).exp)) (rules_of (map rule_of (drop (i + 1) rs)))
rules-left rs i r lt at =
    ap (λ ss. rules_of (map rule_of ss)) (drop_more rs i r lt ∙ ap (λ s. s ∷ drop (i + 1) rs) (sym at)) ∙ ap (λ s. E.and_rule s (rules_of (map rule_of (drop (i + 1) rs)))) (rule_of-parts r)

-- the bindings from one of them on
pub binds-left : (bs : List ValBind) (i : ℕ) (b : ValBind) → i < length bs → b ≡ get_or bs i b
    → binds_of (map bind_of (drop i bs)) ≡ E.and_bind (E.bind (pat_of (out-ValBind b).pat) (exp_of (out-ValBind b).exp)) (binds_of (map bind_of (drop (i + 1) bs)))
binds-left bs i b lt at =
    ap (λ cs. binds_of (map bind_of cs)) (drop_more bs i b lt ∙ ap (λ c. c ∷ drop (i + 1) bs) (sym at)) ∙ ap (λ c. E.and_bind c (binds_of (map bind_of (drop (i + 1) bs)))) (bind_of-parts b)

-- declarations are not plain

pub let-never : (old new : Context) (e : Exp) (result : Result (Rc P.MlType Global) CoreFault) (p : Place) (ds : Vec Dec Global) (d : Box Exp Global) → e ≡ EV.Let p ds d → Reads old (exp_of e) new result
unfolding Reads IsPlain
let-never old new e result p ds d is =
    λ h. absurd (subst IsPlain (ap exp_of is ∙ (ap exp_of (sym (EV.rolls-Let p ds d)) ∙ fold-roll-Exp (E.Dec Place) (E.Exp Place) (E.Field Place) (E.Rule Place) (E.ValBind Place) dec_layer exp_layer field_layer rule_layer bind_layer (EO.Let p ds d))) h)
