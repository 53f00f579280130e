-- The views of a few patterns.
use Rattle.std.proofs.Common.{◌≡◌, Bool, map, ap, sym, ◌∙◌, Vec, Global}
use Rattle.sml_lex.specs.declared.fault.Place.{Place}
use Rattle.sml_tree.specs.Patterns as T
use Rattle.sml_tree.specs.PatternViews.{pat_of, pats_of, pat_layer, pat_field_of, pat_fields_of, pat_field_layer}
use Rattle.sml_tree.specs.declared.patterns.Pat.{Pat}
use Rattle.sml_tree.specs.declared.patterns.Pat.TheViews as V
use Rattle.sml_tree.specs.declared.patterns.Pat.TheOpen as O
use Rattle.sml_tree.specs.declared.patterns.Pat.TheVariants as R
use Rattle.sml_tree.specs.declared.patterns.Pat.TheFolds.{fold-roll-Pat}
use Rattle.sml_tree.specs.declared.patterns.PatField.{PatField}

pub pat_of-row : (p : Place) (v : Vec PatField Global) (b : Bool) → pat_of (V.Row p v b) ≡ T.pat_row p (pat_fields_of (map pat_field_of v.items)) b
pat_of-row p v b = ap pat_of (sym (R.rolls-Row p v b)) ∙ fold-roll-Pat (T.Pat Place) (T.PatField Place) pat_layer pat_field_layer (O.Row p v b)

pub pat_of-tuple : (p : Place) (v : Vec Pat Global) → pat_of (V.Tuple p v) ≡ T.pat_tuple p (pats_of (map pat_of v.items))
pat_of-tuple p v = ap pat_of (sym (R.rolls-Tuple p v)) ∙ fold-roll-Pat (T.Pat Place) (T.PatField Place) pat_layer pat_field_layer (O.Tuple p v)
