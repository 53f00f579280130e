-- The program's trees as those of the definitions.
use Rattle.std.specs.Prelude.{ℕ, zero, suc, List, [], ◌∷◌, map}
use Rattle.sml_lex.specs.declared.fault.Place.{Place}
use Rattle.sml_tree.specs.Trees as T
use Rattle.sml_tree.specs.declared.bare.LongIdent.{LongIdent}
use Rattle.sml_tree.specs.declared.bare.Exp.{Exp}
use Rattle.sml_tree.specs.declared.bare.Exp.TheOpen.{Exp-F, Number, Identifier, Tuple, Brackets, Function}
use Rattle.sml_tree.specs.declared.bare.Exp.TheFolds.{fold-Exp}
use Rattle.sml_tree.specs.declared.bare.Ty.{Ty}
use Rattle.sml_tree.specs.declared.bare.Ty.TheOpen as O
use Rattle.sml_tree.specs.declared.bare.Ty.TheFolds.{fold-Ty}
use Rattle.sml_tree.specs.declared.bare.Spec.{Spec}
use Rattle.sml_tree.specs.declared.bare.SpecForm.{SpecForm}
use Rattle.sml_tree.specs.declared.bare.SpecForm.TheVariants as S
use Rattle.sml_tree.specs.declared.bare.CoreDec.{CoreDec}
use Rattle.sml_tree.specs.declared.bare.CoreForm.{CoreForm}
use Rattle.sml_tree.specs.declared.bare.CoreForm.TheVariants as D
use Rattle.sml_tree.specs.declared.bare.BareDec.{BareDec}
use Rattle.sml_tree.specs.declared.bare.BareDec.TheVariants.{Core, Structure, Other}
use Rattle.std.specs.declared.rc.Rc.{Rc}
use Rattle.std.specs.Prelude.{Vec}
use Rattle.std.specs.Global.{Global}

abbrev pub ident_of : Rc (Vec ℕ Global) Global → T.Id
ident_of x = x.value.items

abbrev pub long_of : LongIdent → T.LongId
long_of x = record { path = map ident_of x.path.items; last = ident_of x.last }

abbrev pub exps_of : List (T.Exp Place) → T.Exps Place
exps_of [] = T.no_exp
exps_of (e ∷ es) = T.and_exp e (exps_of es)

-- an expression in so many pairs of brackets
abbrev pub brackets : {P : Type 0} → ℕ → T.Exp P → T.Exp P
brackets zero e = e
brackets (suc n) e = T.bracket (brackets n e)

-- one layer of an expression, with its parts already seen
abbrev pub exp_layer : Exp-F (T.Exp Place) → T.Exp Place
exp_layer Number = T.number
exp_layer (Identifier x) = T.name x.place (long_of x)
exp_layer (Tuple es) = T.tuple (exps_of es.items)
exp_layer (Brackets e n) = brackets n e.value
exp_layer (Function x e) = T.function (ident_of x) e.value

abbrev pub exp_of : Exp → T.Exp Place
exp_of = fold-Exp (T.Exp Place) exp_layer

abbrev pub tys_of : List (T.Ty Place) → T.Tys Place
tys_of [] = T.no_ty
tys_of (t ∷ ts) = T.and_ty t (tys_of ts)

abbrev pub ty_layer : O.Ty-F (T.Ty Place) → T.Ty Place
ty_layer (O.Constructor x) = T.constructor x.place (long_of x)
ty_layer (O.Tuple ts) = T.product (tys_of ts.items)
ty_layer (O.Arrow t u) = T.arrow_to t.value u.value
ty_layer (O.Bracket t) = T.bracket_ty t.value

abbrev pub ty_of : Ty → T.Ty Place
ty_of = fold-Ty (T.Ty Place) ty_layer

abbrev pub spec_form_of : Place → SpecForm → T.Spec Place
spec_form_of p (S.Type x) = T.type_spec p (ident_of x)
spec_form_of p (S.Value x t) = T.val_spec p (ident_of x) (ty_of t)

abbrev pub spec_of : Spec → T.Spec Place
spec_of s = spec_form_of s.place s.form

abbrev pub core_form_of : Place → CoreForm → T.CoreDec Place
core_form_of p (D.Value x e) = T.val_dec p (ident_of x) (exp_of e)
core_form_of p (D.Type x t) = T.type_dec p (ident_of x) (ty_of t)

abbrev pub core_dec_of : CoreDec → T.CoreDec Place
core_dec_of d = core_form_of d.place d.form

abbrev pub dec_of : BareDec → T.Dec Place
dec_of (Core d) = T.core (core_dec_of d)
dec_of (Structure s) = T.sealed (ident_of s.name) s.signature.place (map spec_of s.signature.specs.items) (map core_dec_of s.body.items)
dec_of (Other p) = T.other p
