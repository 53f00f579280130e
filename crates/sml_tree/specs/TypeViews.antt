-- The program's identifiers and types as those of the definitions.
use Rattle.std.specs.Prelude.{List, [], ◌∷◌, map}
use Rattle.sml_lex.specs.declared.fault.Place.{Place}
use Rattle.sml_tree.specs.Names as N
use Rattle.sml_tree.specs.Types as T
use Rattle.sml_tree.specs.Views.{ident_of, long_of}
use Rattle.sml_tree.specs.declared.bare.LongIdent.{LongIdent}
use Rattle.sml_tree.specs.declared.names.Name.{Name}
use Rattle.sml_tree.specs.declared.types.Ty.{Ty}
use Rattle.sml_tree.specs.declared.types.TyField.{TyField}
use Rattle.sml_tree.specs.declared.types.Ty.TheOpen as O
use Rattle.sml_tree.specs.declared.types.Ty.TheFolds.{fold-Ty, fold-TyField}

abbrev pub name_of : Name → N.Name Place
name_of x = record { place = x.place; id = ident_of x.ident }

abbrev pub names_of : List Name → List (N.Name Place)
names_of xs = map name_of xs

abbrev pub long_name_of : LongIdent → N.LongName Place
long_name_of x = record { place = x.place; id = long_of x }

abbrev pub tys_of : List (T.Ty Place) → T.Tys Place
tys_of [] = T.no_ty
tys_of (t ∷ ts) = T.and_ty t (tys_of ts)

abbrev pub ty_fields_of : List (T.TyField Place) → T.TyFields Place
ty_fields_of [] = T.no_ty_field
ty_fields_of (f ∷ fs) = T.and_ty_field f (ty_fields_of fs)

-- one layer of a type, with its parts already seen
abbrev pub ty_layer : O.Ty-F (T.Ty Place) (T.TyField Place) → T.Ty Place
ty_layer (O.Variable p v) = T.ty_variable p (ident_of v)
ty_layer (O.Row p fs) = T.ty_row p (ty_fields_of fs.items)
ty_layer (O.Tuple p ts) = T.ty_tuple p (tys_of ts.items)
ty_layer (O.Constructor p ts c) = T.ty_constructor p (tys_of ts.items) (long_name_of c)
ty_layer (O.Misapplied p ts c) = T.ty_misapplied p (tys_of ts.items) (long_name_of c)
ty_layer (O.Arrow p t u) = T.ty_arrow p t.value u.value
ty_layer (O.Bracket p t) = T.ty_bracket p t.value

abbrev pub ty_field_layer : O.TyField-F (T.Ty Place) (T.TyField Place) → T.TyField Place
ty_field_layer f = T.ty_field (name_of f.label) f.ty

abbrev pub ty_of : Ty → T.Ty Place
ty_of = fold-Ty (T.Ty Place) (T.TyField Place) ty_layer ty_field_layer

abbrev pub ty_field_of : TyField → T.TyField Place
ty_field_of = fold-TyField (T.Ty Place) (T.TyField Place) ty_layer ty_field_layer
