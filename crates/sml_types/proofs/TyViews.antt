-- The views of type expressions, form by form, and of the parts that they have.
use Rattle.std.proofs.Common.{◌≡◌, ℕ, List, [], ◌∷◌, map, refl, ap, sym, ◌∙◌, Vec, Box, Global}
use Rattle.std.specs.declared.rc.Rc.{Rc}
use Rattle.sml_lex.specs.declared.fault.Place.{Place}
use Rattle.sml_tree.specs.Trees.{Id}
use Rattle.sml_tree.specs.Names as N
use Rattle.sml_tree.specs.Types as T
use Rattle.sml_tree.specs.Expressions as E
use Rattle.sml_tree.specs.Views.{ident_of}
use Rattle.sml_tree.specs.Withtype.{applied, binding, replaced, all_replaced, fields_replaced, field_replaced}
use Rattle.sml_tree.specs.TypeViews.{long_name_of, name_of, ty_of, tys_of, ty_layer, ty_field_layer, ty_field_of, ty_fields_of}
use Rattle.sml_tree.specs.declared.bare.LongIdent.{LongIdent}
use Rattle.sml_tree.specs.declared.types.Ty.{Ty, Variable}
use Rattle.sml_tree.specs.declared.types.TyField.{TyField, out-TyField, fold_out-TyField}
use Rattle.sml_tree.specs.declared.types.Ty.TheViews as W
use Rattle.sml_tree.specs.declared.types.Ty.TheOpen as F
use Rattle.sml_tree.specs.declared.types.Ty.TheFolds.{fold-roll-Ty}
use Rattle.sml_tree.specs.declared.types.Ty.TheVariants as V

pub ty_of-variable : (p : Place) (x : Rc (Vec ℕ Global) Global) → ty_of (Variable p x) ≡ T.ty_variable p (ident_of x)
ty_of-variable p x = ap ty_of (sym (V.rolls-Variable p x)) ∙ fold-roll-Ty (T.Ty Place) (T.TyField Place) ty_layer ty_field_layer (F.Variable p x)

pub ty_of-row : (p : Place) (fs : Vec TyField Global) → ty_of (W.Row p fs) ≡ T.ty_row p (ty_fields_of (map ty_field_of fs.items))
ty_of-row p fs = ap ty_of (sym (V.rolls-Row p fs)) ∙ fold-roll-Ty (T.Ty Place) (T.TyField Place) ty_layer ty_field_layer (F.Row p fs)

pub ty_of-tuple : (p : Place) (ts : Vec Ty Global) → ty_of (W.Tuple p ts) ≡ T.ty_tuple p (tys_of (map ty_of ts.items))
ty_of-tuple p ts = ap ty_of (sym (V.rolls-Tuple p ts)) ∙ fold-roll-Ty (T.Ty Place) (T.TyField Place) ty_layer ty_field_layer (F.Tuple p ts)

pub ty_of-constructor : (p : Place) (ts : Vec Ty Global) (c : LongIdent) → ty_of (W.Constructor p ts c) ≡ T.ty_constructor p (tys_of (map ty_of ts.items)) (long_name_of c)
ty_of-constructor p ts c = ap ty_of (sym (V.rolls-Constructor p ts c)) ∙ fold-roll-Ty (T.Ty Place) (T.TyField Place) ty_layer ty_field_layer (F.Constructor p ts c)

pub ty_of-misapplied : (p : Place) (ts : Vec Ty Global) (c : LongIdent) → ty_of (W.Misapplied p ts c) ≡ T.ty_misapplied p (tys_of (map ty_of ts.items)) (long_name_of c)
ty_of-misapplied p ts c = ap ty_of (sym (V.rolls-Misapplied p ts c)) ∙ fold-roll-Ty (T.Ty Place) (T.TyField Place) ty_layer ty_field_layer (F.Misapplied p ts c)

pub ty_of-arrow : (p : Place) (t u : Box Ty Global) → ty_of (W.Arrow p t u) ≡ T.ty_arrow p (ty_of t.value) (ty_of u.value)
ty_of-arrow p t u = ap ty_of (sym (V.rolls-Arrow p t u)) ∙ fold-roll-Ty (T.Ty Place) (T.TyField Place) ty_layer ty_field_layer (F.Arrow p t u)

pub ty_of-bracket : (p : Place) (t : Box Ty Global) → ty_of (W.Bracket p t) ≡ T.ty_bracket p (ty_of t.value)
ty_of-bracket p t = ap ty_of (sym (V.rolls-Bracket p t)) ∙ fold-roll-Ty (T.Ty Place) (T.TyField Place) ty_layer ty_field_layer (F.Bracket p t)

pub ty_field_of-parts : (f : TyField) → ty_field_of f ≡ T.ty_field (name_of (out-TyField f).label) (ty_of (out-TyField f).ty)
ty_field_of-parts f = fold_out-TyField (T.Ty Place) (T.TyField Place) ty_layer ty_field_layer f

-- a list of types in which right sides stand, one by one
pub all_replaced-list : (bs : List (E.TypBind Place)) (ts : List Ty) → all_replaced bs (tys_of (map ty_of ts)) ≡ tys_of (map (λ t. replaced bs (ty_of t)) ts)
all_replaced-list bs [] = refl
all_replaced-list bs (t ∷ ts) = ap (T.and_ty (replaced bs (ty_of t))) (all_replaced-list bs ts)

pub fields_replaced-list : (bs : List (E.TypBind Place)) (fs : List TyField) → fields_replaced bs (ty_fields_of (map ty_field_of fs)) ≡ ty_fields_of (map (λ f. field_replaced bs (ty_field_of f)) fs)
fields_replaced-list bs [] = refl
fields_replaced-list bs (f ∷ fs) = ap (T.and_ty_field (field_replaced bs (ty_field_of f))) (fields_replaced-list bs fs)

unbound_stays : (p : Place) (us ts : T.Tys Place) (c : N.LongName Place) → ts ≡ us → (path : List Id) → applied p ts c (binding path c.id.last []) ≡ T.ty_constructor p us c
unbound_stays p us ts c e [] = ap (λ vs. T.ty_constructor p vs c) e
unbound_stays p us ts c e (s ∷ path) = ap (λ vs. T.ty_constructor p vs c) e

-- where there are no right sides, nothing is replaced
mutual
  pub none_replaced : (t : T.Ty Place) → replaced [] t ≡ t
  none_replaced (T.ty_variable p v) = refl
  none_replaced (T.ty_row p fs) = ap (T.ty_row p) (no_field_replaced fs)
  none_replaced (T.ty_tuple p us) = ap (T.ty_tuple p) (not_any_replaced us)
  none_replaced (T.ty_constructor p us c) = unbound_stays p us (all_replaced [] us) c (not_any_replaced us) c.id.path
  none_replaced (T.ty_misapplied p us c) = ap (λ ts. T.ty_misapplied p ts c) (not_any_replaced us)
  none_replaced (T.ty_arrow p t u) = λ i. T.ty_arrow p (none_replaced t i) (none_replaced u i)
  none_replaced (T.ty_bracket p t) = ap (T.ty_bracket p) (none_replaced t)

  pub not_any_replaced : (us : T.Tys Place) → all_replaced [] us ≡ us
  not_any_replaced T.no_ty = refl
  not_any_replaced (T.and_ty u us) = λ i. T.and_ty (none_replaced u i) (not_any_replaced us i)

  no_field_replaced : (fs : T.TyFields Place) → fields_replaced [] fs ≡ fs
  no_field_replaced T.no_ty_field = refl
  no_field_replaced (T.and_ty_field (T.ty_field l u) fs) = λ i. T.and_ty_field (T.ty_field l (none_replaced u i)) (no_field_replaced fs i)
