-- A field of a record type before others, which the program has after them.
use Rattle.std.proofs.Common.{◌≡◌, ℕ, List, [], ◌∷◌, ◌++◌, map, reverse, max, ap, ◌∙◌, arith}
use Rattle.std.proofs.lemmas.List.{reverse-append}
use Rattle.sml_lex.specs.declared.fault.Place.{Place}
use Rattle.sml_tree.specs.Names.{Name}
use Rattle.sml_tree.specs.Heights.{ty_height, ty_fields_height}
use Rattle.sml_tree.specs.Types.{Ty, TyField, TyFields, ty_field, and_ty_field}
use Rattle.sml_tree.specs.TypeViews.{ty_field_of, ty_fields_of}
use Rattle.sml_tree.specs.declared.types.TyField as T

pub field_pushed : (old new : List T.TyField) (f : T.TyField) (x : TyField Place) → new ≡ old ++ f ∷ [] → ty_field_of f ≡ x → ty_fields_of (map ty_field_of (reverse new)) ≡ and_ty_field x (ty_fields_of (map ty_field_of (reverse old)))
field_pushed old new f x pushed seen =
    ap (λ fs. ty_fields_of (map ty_field_of (reverse fs))) pushed
    ∙ ap (λ fs. ty_fields_of (map ty_field_of fs)) (reverse-append old (f ∷ []))
    ∙ ap (λ y. and_ty_field y (ty_fields_of (map ty_field_of (reverse old)))) seen

pub field_heights : (whole fs : TyFields Place) (l : Name Place) (t : Ty Place) (h k m : ℕ) → whole ≡ and_ty_field (ty_field l t) fs → ty_height t ≡ h → ty_fields_height fs ≡ k → m ≡ max h k → ty_fields_height whole ≡ m
field_heights whole fs l t h k m made th fh mh = let g = ap ty_fields_height made in omega (arith, g, th, fh, mh)
