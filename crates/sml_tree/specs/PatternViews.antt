-- The program's patterns as those of the definitions.
use Rattle.std.specs.Prelude.{List, [], ◌∷◌}
use Rattle.std.specs.Option.{option_map}
use Rattle.sml_lex.specs.declared.fault.Place.{Place}
use Rattle.sml_tree.specs.Patterns as P
use Rattle.sml_tree.specs.Views.{ident_of}
use Rattle.sml_tree.specs.TypeViews.{name_of, long_name_of, ty_of}
use Rattle.sml_tree.specs.declared.patterns.Constant.{Constant}
use Rattle.sml_tree.specs.declared.patterns.Pat.{Pat}
use Rattle.sml_tree.specs.declared.patterns.PatField.{PatField}
use Rattle.sml_tree.specs.declared.patterns.Pat.TheOpen as O
use Rattle.sml_tree.specs.declared.patterns.Pat.TheFolds.{fold-Pat, fold-PatField}

abbrev pub constant_of : Constant → P.Constant
constant_of c = record { kind = c.kind; literal = ident_of c.literal }

abbrev pub pats_of : List (P.Pat Place) → P.Pats Place
pats_of [] = P.no_pat
pats_of (q ∷ qs) = P.and_pat q (pats_of qs)

abbrev pub pat_fields_of : List (P.PatField Place) → P.PatFields Place
pat_fields_of [] = P.no_pat_field
pat_fields_of (f ∷ fs) = P.and_pat_field f (pat_fields_of fs)

-- one layer of a pattern, with its parts already seen
abbrev pub pat_layer : O.Pat-F (P.Pat Place) (P.PatField Place) → P.Pat Place
pat_layer (O.Wildcard p) = P.wildcard p
pat_layer (O.Constant p c) = P.pat_constant p (constant_of c)
pat_layer (O.Identifier p x) = P.pat_name p (long_name_of x)
pat_layer (O.Row p fs flexible) = P.pat_row p (pat_fields_of fs.items) flexible
pat_layer (O.Tuple p qs) = P.pat_tuple p (pats_of qs.items)
pat_layer (O.Bracket p q) = P.pat_bracket p q.value
pat_layer (O.Applied p c q) = P.pat_apply p (long_name_of c) q.value
pat_layer (O.Typed p q t) = P.pat_typed p q.value (ty_of t.value)
pat_layer (O.As p x t q) = P.pat_as p (name_of x) (option_map (λ u. ty_of u.value) t) q.value

abbrev pub pat_field_layer : O.PatField-F (P.Pat Place) (P.PatField Place) → P.PatField Place
pat_field_layer f = P.pat_field (name_of f.label) f.pat

abbrev pub pat_of : Pat → P.Pat Place
pat_of = fold-Pat (P.Pat Place) (P.PatField Place) pat_layer pat_field_layer

abbrev pub pat_field_of : PatField → P.PatField Place
pat_field_of = fold-PatField (P.Pat Place) (P.PatField Place) pat_layer pat_field_layer
