-- The views of a few forms, and of what a loop has made of them.
use Rattle.std.proofs.Common.{◌≡◌, List, [], ◌∷◌, map, length, ap, sym, ◌∙◌, refl, Vec, Box, Global}
use Rattle.sml_lex.specs.declared.fault.Place.{Place}
use Rattle.sml_tree.specs.Patterns as P
use Rattle.sml_tree.specs.PatternViews.{pat_of, pats_of, pat_layer, pat_field_layer}
use Rattle.sml_tree.specs.Expressions as E
use Rattle.sml_tree.specs.ExpressionViews.{exp_of, exps_of, rule_of, rules_of, bind_of, exp_layer, field_layer, rule_layer, dec_layer, bind_layer}
use Rattle.sml_tree.specs.Signatures as S
use Rattle.sml_tree.specs.SignatureViews.{sig_of, where_of, sig_layer, spec_layer, str_desc_layer}
use Rattle.sml_tree.specs.declared.patterns.Pat.{Pat}
use Rattle.sml_tree.specs.declared.patterns.Pat.TheOpen as PO
use Rattle.sml_tree.specs.declared.patterns.Pat.TheVariants as PV
use Rattle.sml_tree.specs.declared.patterns.Pat.TheFolds.{fold-roll-Pat}
use Rattle.sml_tree.specs.declared.expressions.Exp.{Exp}
use Rattle.sml_tree.specs.declared.expressions.Rule.{Rule}
use Rattle.sml_tree.specs.declared.expressions.Dec.TheOpen as EO
use Rattle.sml_tree.specs.declared.expressions.Exp.TheVariants as EV
use Rattle.sml_tree.specs.declared.expressions.Dec.TheFolds.{fold-roll-Exp, fold-roll-ValBind}
use Rattle.sml_tree.specs.declared.expressions.ValBind.{roll-ValBind}
use Rattle.sml_tree.specs.declared.signatures.SigExp.{SigExp}
use Rattle.sml_tree.specs.declared.signatures.WhereType.{WhereType}
use Rattle.sml_tree.specs.declared.signatures.SigExp.TheOpen as SO
use Rattle.sml_tree.specs.declared.signatures.SigExp.TheVariants as SV
use Rattle.sml_tree.specs.declared.signatures.SigExp.TheFolds.{fold-roll-SigExp}
use Rattle.sml_tree.specs.Clauses.{pat_row_of}
use Rattle.sml_derived.specs.Derived.{row_of}

pub exp_of-tuple : (p : Place) (es : Vec Exp Global) → exp_of (EV.Tuple p es) ≡ E.tuple p (exps_of (map exp_of es.items))
exp_of-tuple p es =
    ap exp_of (sym (EV.rolls-Tuple p es))
    ∙ fold-roll-Exp (E.Dec Place) (E.Exp Place) (E.Field Place) (E.Rule Place) (E.ValBind Place) dec_layer exp_layer field_layer rule_layer bind_layer (EO.Tuple p es)

pub exp_of-function : (p : Place) (rs : Vec Rule Global) → exp_of (EV.Function p rs) ≡ E.fn p (rules_of (map rule_of rs.items))
exp_of-function p rs =
    ap exp_of (sym (EV.rolls-Function p rs))
    ∙ fold-roll-Exp (E.Dec Place) (E.Exp Place) (E.Field Place) (E.Rule Place) (E.ValBind Place) dec_layer exp_layer field_layer rule_layer bind_layer (EO.Function p rs)

pub bind_of-parts : (q : Pat) (e : Exp) → bind_of (roll-ValBind (record { pat = q; exp = e })) ≡ E.bind (pat_of q) (exp_of e)
bind_of-parts q e =
    fold-roll-ValBind (E.Dec Place) (E.Exp Place) (E.Field Place) (E.Rule Place) (E.ValBind Place) dec_layer exp_layer field_layer rule_layer bind_layer (record { pat = q; exp = e })

pub pat_of-tuple : (p : Place) (qs : Vec Pat Global) → pat_of (PV.Tuple p qs) ≡ P.pat_tuple p (pats_of (map pat_of qs.items))
pat_of-tuple p qs =
    ap pat_of (sym (PV.rolls-Tuple p qs)) ∙ fold-roll-Pat (P.Pat Place) (P.PatField Place) pat_layer pat_field_layer (PO.Tuple p qs)

pub sig_of-where : (p : Place) (s : Box SigExp Global) (w : WhereType) → sig_of (SV.WhereType p s w) ≡ S.where_type p (sig_of s.value) (where_of w)
sig_of-where p s w =
    ap sig_of (sym (SV.rolls-WhereType p s w)) ∙ fold-roll-SigExp (S.SigExp Place) (S.Spec Place) (S.StrDesc Place) sig_layer spec_layer str_desc_layer (SO.WhereType p s w)

-- rows of other than one phrase

pub row_of-others : (p : Place) (es : List Exp) → (length es ≡ 1 → ⊥) → E.tuple p (exps_of (map exp_of es)) ≡ row_of p (exps_of (map exp_of es))
row_of-others p [] other = refl
row_of-others p (e ∷ []) other = absurd (other refl)
row_of-others p (e ∷ d ∷ es) other = refl

pub pat_row_of-others : (p : Place) (qs : List Pat) → (length qs ≡ 1 → ⊥) → P.pat_tuple p (pats_of (map pat_of qs)) ≡ pat_row_of p (pats_of (map pat_of qs))
pat_row_of-others p [] other = refl
pat_row_of-others p (q ∷ []) other = absurd (other refl)
pat_row_of-others p (q ∷ r ∷ qs) other = refl
