-- The program's expressions and declarations of the core as those of the definitions.
use Rattle.std.specs.Prelude.{List, [], ◌∷◌, map}
use Rattle.sml_lex.specs.declared.fault.Place.{Place}
use Rattle.sml_tree.specs.Expressions as E
use Rattle.sml_tree.specs.TypeViews.{name_of, names_of, long_name_of, ty_of}
use Rattle.sml_tree.specs.BindingViews.{typ_bind_of, con_bind_of, dat_bind_of}
use Rattle.sml_tree.specs.PatternViews.{constant_of, pat_of}
use Rattle.sml_tree.specs.declared.expressions.Exp.{Exp}
use Rattle.sml_tree.specs.declared.expressions.ExpField.{ExpField}
use Rattle.sml_tree.specs.declared.expressions.Rule.{Rule}
use Rattle.sml_tree.specs.declared.expressions.Dec.{Dec}
use Rattle.sml_tree.specs.declared.expressions.ValBind.{ValBind}
use Rattle.sml_tree.specs.declared.expressions.ExnBind.{ExnBind}
use Rattle.sml_tree.specs.declared.expressions.ExnBind.TheVariants.{New, Copy}
use Rattle.sml_tree.specs.declared.expressions.Dec.TheOpen as O
use Rattle.sml_tree.specs.declared.expressions.Dec.TheFolds as F

abbrev pub exn_bind_of : ExnBind → E.ExnBind Place
exn_bind_of (New b) = E.new_exception (con_bind_of b)
exn_bind_of (Copy x y) = E.exception_copy (name_of x) (long_name_of y)

abbrev pub exps_of : List (E.Exp Place) → E.Exps Place
exps_of [] = E.no_exp
exps_of (e ∷ es) = E.and_exp e (exps_of es)

abbrev pub fields_of : List (E.Field Place) → E.Fields Place
fields_of [] = E.no_field
fields_of (f ∷ fs) = E.and_field f (fields_of fs)

abbrev pub rules_of : List (E.Rule Place) → E.Rules Place
rules_of [] = E.no_rule
rules_of (r ∷ rs) = E.and_rule r (rules_of rs)

abbrev pub decs_of : List (E.Dec Place) → E.Decs Place
decs_of [] = E.no_dec
decs_of (d ∷ ds) = E.and_dec d (decs_of ds)

abbrev pub binds_of : List (E.ValBind Place) → E.ValBinds Place
binds_of [] = E.no_bind
binds_of (b ∷ bs) = E.and_bind b (binds_of bs)

-- one layer of an expression, with its parts already seen
abbrev pub exp_layer : O.Exp-F (E.Dec Place) (E.Exp Place) (E.Field Place) (E.Rule Place) (E.ValBind Place) → E.Exp Place
exp_layer (O.Constant p c) = E.constant p (constant_of c)
exp_layer (O.Identifier p x) = E.name p (long_name_of x)
exp_layer (O.Row p fs) = E.row p (fields_of fs.items)
exp_layer (O.Tuple p es) = E.tuple p (exps_of es.items)
exp_layer (O.Let p ds e) = E.let_in p (decs_of ds.items) e.value
exp_layer (O.Bracket p e) = E.bracket p e.value
exp_layer (O.Application p f e) = E.apply p f.value e.value
exp_layer (O.Typed p e t) = E.typed p e.value (ty_of t.value)
exp_layer (O.Handle p e rs) = E.handle p e.value (rules_of rs.items)
exp_layer (O.Raise p e) = E.raise p e.value
exp_layer (O.Function p rs) = E.fn p (rules_of rs.items)

abbrev pub field_layer : O.ExpField-F (E.Dec Place) (E.Exp Place) (E.Field Place) (E.Rule Place) (E.ValBind Place) → E.Field Place
field_layer f = E.field (name_of f.label) f.exp

abbrev pub rule_layer : O.Rule-F (E.Dec Place) (E.Exp Place) (E.Field Place) (E.Rule Place) (E.ValBind Place) → E.Rule Place
rule_layer r = E.rule r.place (pat_of r.pat) r.exp

abbrev pub dec_layer : O.Dec-F (E.Dec Place) (E.Exp Place) (E.Field Place) (E.Rule Place) (E.ValBind Place) → E.Dec Place
dec_layer (O.Value p vs bs rs) = E.val_dec p (names_of vs.items) (binds_of bs.items) (binds_of rs.items)
dec_layer (O.Type p bs) = E.type_dec p (map typ_bind_of bs.items)
dec_layer (O.Datatype p bs) = E.datatype_dec p (map dat_bind_of bs.items)
dec_layer (O.DatatypeWith p w) = E.datatype_with p (map dat_bind_of w.datatypes.items) (map typ_bind_of w.types.items)
dec_layer (O.Replication p t u) = E.datatype_copy p (name_of t) (long_name_of u)
dec_layer (O.Exception p bs) = E.exception_dec p (map exn_bind_of bs.items)
dec_layer (O.Local p ds es) = E.local_dec p (decs_of ds.items) (decs_of es.items)
dec_layer (O.Sequence p ds) = E.sequence_dec p (decs_of ds.items)
dec_layer (O.Open p ss) = E.open_dec p (map long_name_of ss.items)
dec_layer (O.Fixity p) = E.fixity_dec p

abbrev pub bind_layer : O.ValBind-F (E.Dec Place) (E.Exp Place) (E.Field Place) (E.Rule Place) (E.ValBind Place) → E.ValBind Place
bind_layer b = E.bind (pat_of b.pat) b.exp

abbrev pub exp_of : Exp → E.Exp Place
exp_of = F.fold-Exp (E.Dec Place) (E.Exp Place) (E.Field Place) (E.Rule Place) (E.ValBind Place) dec_layer exp_layer field_layer rule_layer bind_layer

abbrev pub field_of : ExpField → E.Field Place
field_of = F.fold-ExpField (E.Dec Place) (E.Exp Place) (E.Field Place) (E.Rule Place) (E.ValBind Place) dec_layer exp_layer field_layer rule_layer bind_layer

abbrev pub rule_of : Rule → E.Rule Place
rule_of = F.fold-Rule (E.Dec Place) (E.Exp Place) (E.Field Place) (E.Rule Place) (E.ValBind Place) dec_layer exp_layer field_layer rule_layer bind_layer

abbrev pub dec_of : Dec → E.Dec Place
dec_of = F.fold-Dec (E.Dec Place) (E.Exp Place) (E.Field Place) (E.Rule Place) (E.ValBind Place) dec_layer exp_layer field_layer rule_layer bind_layer

abbrev pub bind_of : ValBind → E.ValBind Place
bind_of = F.fold-ValBind (E.Dec Place) (E.Exp Place) (E.Field Place) (E.Rule Place) (E.ValBind Place) dec_layer exp_layer field_layer rule_layer bind_layer
