-- The views of trees, variant by variant.
use Rattle.std.proofs.Common.{◌≡◌, map, ap, ◌∙◌, sym, Vec, Box, Global, ℕ}
use Rattle.std.specs.declared.rc.Rc.{Rc}
use Rattle.sml_lex.specs.declared.fault.Place.{Place}
use Rattle.sml_tree.specs.Trees as T
use Rattle.sml_tree.specs.Views.{brackets, ident_of, long_of, exp_of, exps_of, exp_layer, ty_of, tys_of, ty_layer}
use Rattle.sml_tree.specs.declared.bare.LongIdent.{LongIdent}
use Rattle.sml_tree.specs.declared.bare.Exp.{Exp, Number, Identifier}
use Rattle.sml_tree.specs.declared.bare.Exp.TheViews as V
use Rattle.sml_tree.specs.declared.bare.Exp.TheOpen as F
use Rattle.sml_tree.specs.declared.bare.Exp.TheFolds.{fold-roll-Exp}
use Rattle.sml_tree.specs.declared.bare.Exp.TheVariants as R
use Rattle.sml_tree.specs.declared.bare.Ty.{Ty, Constructor}
use Rattle.sml_tree.specs.declared.bare.Ty.TheViews as W
use Rattle.sml_tree.specs.declared.bare.Ty.TheOpen as G
use Rattle.sml_tree.specs.declared.bare.Ty.TheFolds.{fold-roll-Ty}
use Rattle.sml_tree.specs.declared.bare.Ty.TheVariants as S

pub exp_of-number : exp_of Number ≡ T.number
exp_of-number = ap exp_of (sym R.rolls-Number) ∙ fold-roll-Exp (T.Exp Place) exp_layer F.Number

pub exp_of-identifier : (x : LongIdent) → exp_of (Identifier x) ≡ T.name x.place (long_of x)
exp_of-identifier x = ap exp_of (sym (R.rolls-Identifier x)) ∙ fold-roll-Exp (T.Exp Place) exp_layer (F.Identifier x)

pub exp_of-tuple : (v : Vec Exp Global) → exp_of (V.Tuple v) ≡ T.tuple (exps_of (map exp_of v.items))
exp_of-tuple v = ap exp_of (sym (R.rolls-Tuple v)) ∙ fold-roll-Exp (T.Exp Place) exp_layer (F.Tuple v)

pub exp_of-brackets : (e : Box Exp Global) (n : ℕ) → exp_of (V.Brackets e n) ≡ brackets n (exp_of e.value)
exp_of-brackets e n = ap exp_of (sym (R.rolls-Brackets e n)) ∙ fold-roll-Exp (T.Exp Place) exp_layer (F.Brackets e n)

pub exp_of-function : (x : Rc (Vec ℕ Global) Global) (e : Box Exp Global) → exp_of (V.Function x e) ≡ T.function (ident_of x) (exp_of e.value)
exp_of-function x e = ap exp_of (sym (R.rolls-Function x e)) ∙ fold-roll-Exp (T.Exp Place) exp_layer (F.Function x e)

pub ty_of-constructor : (x : LongIdent) → ty_of (Constructor x) ≡ T.constructor x.place (long_of x)
ty_of-constructor x = ap ty_of (sym (S.rolls-Constructor x)) ∙ fold-roll-Ty (T.Ty Place) ty_layer (G.Constructor x)

pub ty_of-tuple : (v : Vec Ty Global) → ty_of (W.Tuple v) ≡ T.product (tys_of (map ty_of v.items))
ty_of-tuple v = ap ty_of (sym (S.rolls-Tuple v)) ∙ fold-roll-Ty (T.Ty Place) ty_layer (G.Tuple v)

pub ty_of-arrow : (t u : Box Ty Global) → ty_of (W.Arrow t u) ≡ T.arrow_to (ty_of t.value) (ty_of u.value)
ty_of-arrow t u = ap ty_of (sym (S.rolls-Arrow t u)) ∙ fold-roll-Ty (T.Ty Place) ty_layer (G.Arrow t u)

pub ty_of-bracket : (t : Box Ty Global) → ty_of (W.Bracket t) ≡ T.bracket_ty (ty_of t.value)
ty_of-bracket t = ap ty_of (sym (S.rolls-Bracket t)) ∙ fold-roll-Ty (T.Ty Place) ty_layer (G.Bracket t)
