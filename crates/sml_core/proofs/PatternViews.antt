-- The views of patterns, form by form.
use Rattle.std.proofs.Common.{◌≡◌, Bool, Option, map, ap, sym, ◌∙◌, Vec, Box, Global}
use Rattle.std.specs.Option.{option_map}
use Rattle.sml_lex.specs.declared.fault.Place.{Place}
use Rattle.sml_tree.specs.Patterns as T
use Rattle.sml_tree.specs.TypeViews.{name_of, long_name_of, ty_of}
use Rattle.sml_tree.specs.PatternViews.{constant_of, pat_of, pats_of, pat_layer, pat_field_of, pat_fields_of, pat_field_layer}
use Rattle.sml_tree.specs.declared.bare.LongIdent.{LongIdent}
use Rattle.sml_tree.specs.declared.names.Name.{Name}
use Rattle.sml_tree.specs.declared.types.Ty.{Ty}
use Rattle.sml_tree.specs.declared.patterns.Constant.{Constant}
use Rattle.sml_tree.specs.declared.patterns.Pat.{Pat}
use Rattle.sml_tree.specs.declared.patterns.Pat.TheOpen as O
use Rattle.sml_tree.specs.declared.patterns.Pat.TheVariants as V
use Rattle.sml_tree.specs.declared.patterns.Pat.TheFolds.{fold-roll-Pat}
use Rattle.sml_tree.specs.declared.patterns.PatField.{PatField, out-PatField, fold_out-PatField}

pub pat_of-wildcard : (p : Place) → pat_of (V.Wildcard p) ≡ T.wildcard p
pat_of-wildcard p = ap pat_of (sym (V.rolls-Wildcard p)) ∙ fold-roll-Pat (T.Pat Place) (T.PatField Place) pat_layer pat_field_layer (O.Wildcard p)

pub pat_of-constant : (p : Place) (c : Constant) → pat_of (V.Constant p c) ≡ T.pat_constant p (constant_of c)
pat_of-constant p c = ap pat_of (sym (V.rolls-Constant p c)) ∙ fold-roll-Pat (T.Pat Place) (T.PatField Place) pat_layer pat_field_layer (O.Constant p c)

pub pat_of-identifier : (p : Place) (x : LongIdent) → pat_of (V.Identifier p x) ≡ T.pat_name p (long_name_of x)
pat_of-identifier p x = ap pat_of (sym (V.rolls-Identifier p x)) ∙ fold-roll-Pat (T.Pat Place) (T.PatField Place) pat_layer pat_field_layer (O.Identifier p x)

pub pat_of-row : (p : Place) (fs : Vec PatField Global) (b : Bool) → pat_of (V.Row p fs b) ≡ T.pat_row p (pat_fields_of (map pat_field_of fs.items)) b
pat_of-row p fs b = ap pat_of (sym (V.rolls-Row p fs b)) ∙ fold-roll-Pat (T.Pat Place) (T.PatField Place) pat_layer pat_field_layer (O.Row p fs b)

pub pat_of-tuple : (p : Place) (qs : Vec Pat Global) → pat_of (V.Tuple p qs) ≡ T.pat_tuple p (pats_of (map pat_of qs.items))
pat_of-tuple p qs = ap pat_of (sym (V.rolls-Tuple p qs)) ∙ fold-roll-Pat (T.Pat Place) (T.PatField Place) pat_layer pat_field_layer (O.Tuple p qs)

pub pat_of-bracket : (p : Place) (q : Box Pat Global) → pat_of (V.Bracket p q) ≡ T.pat_bracket p (pat_of q.value)
pat_of-bracket p q = ap pat_of (sym (V.rolls-Bracket p q)) ∙ fold-roll-Pat (T.Pat Place) (T.PatField Place) pat_layer pat_field_layer (O.Bracket p q)

pub pat_of-applied : (p : Place) (x : LongIdent) (q : Box Pat Global) → pat_of (V.Applied p x q) ≡ T.pat_apply p (long_name_of x) (pat_of q.value)
pat_of-applied p x q = ap pat_of (sym (V.rolls-Applied p x q)) ∙ fold-roll-Pat (T.Pat Place) (T.PatField Place) pat_layer pat_field_layer (O.Applied p x q)

pub pat_of-typed : (p : Place) (q : Box Pat Global) (t : Box Ty Global) → pat_of (V.Typed p q t) ≡ T.pat_typed p (pat_of q.value) (ty_of t.value)
pat_of-typed p q t = ap pat_of (sym (V.rolls-Typed p q t)) ∙ fold-roll-Pat (T.Pat Place) (T.PatField Place) pat_layer pat_field_layer (O.Typed p q t)

pub pat_of-as : (p : Place) (x : Name) (t : Option (Box Ty Global)) (q : Box Pat Global)
    → pat_of (V.As p x t q) ≡ T.pat_as p (name_of x) (option_map (λ u. ty_of u.value) t) (pat_of q.value)
pat_of-as p x t q = ap pat_of (sym (V.rolls-As p x t q)) ∙ fold-roll-Pat (T.Pat Place) (T.PatField Place) pat_layer pat_field_layer (O.As p x t q)

pub pat_field_of-parts : (f : PatField) → pat_field_of f ≡ T.pat_field (name_of (out-PatField f).label) (pat_of (out-PatField f).pat)
pat_field_of-parts f = fold_out-PatField (T.Pat Place) (T.PatField Place) pat_layer pat_field_layer f
