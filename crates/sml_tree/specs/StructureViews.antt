-- The program's structure expressions and declarations as those of the definitions.
use Rattle.std.specs.Prelude.{List, [], ◌∷◌, map}
use Rattle.sml_lex.specs.declared.fault.Place.{Place}
use Rattle.sml_tree.specs.Structures as S
use Rattle.sml_tree.specs.TypeViews.{name_of, long_name_of}
use Rattle.sml_tree.specs.ExpressionViews.{dec_of}
use Rattle.sml_tree.specs.SignatureViews.{sig_of}
use Rattle.sml_tree.specs.declared.structures.StrExp.{StrExp}
use Rattle.sml_tree.specs.declared.structures.StrDec.{StrDec}
use Rattle.sml_tree.specs.declared.structures.StrBind.{StrBind}
use Rattle.sml_tree.specs.declared.structures.SigBind.{SigBind}
use Rattle.sml_tree.specs.declared.structures.FunBind.{FunBind}
use Rattle.sml_tree.specs.declared.structures.TopDec.{TopDec}
use Rattle.sml_tree.specs.declared.structures.TopDec.TheVariants.{Structure, Signature, Functor}
use Rattle.sml_tree.specs.declared.structures.StrDec.TheOpen as O
use Rattle.sml_tree.specs.declared.structures.StrDec.TheFolds as F

abbrev pub str_decs_of : List (S.StrDec Place) → S.StrDecs Place
str_decs_of [] = S.no_str_dec
str_decs_of (d ∷ ds) = S.and_str_dec d (str_decs_of ds)

abbrev pub str_binds_of : List (S.StrBind Place) → S.StrBinds Place
str_binds_of [] = S.no_str_bind
str_binds_of (b ∷ bs) = S.and_str_bind b (str_binds_of bs)

-- one layer of a structure expression, with its parts already seen
abbrev pub str_layer : O.StrExp-F (S.StrDec Place) (S.StrExp Place) (S.StrBind Place) → S.StrExp Place
str_layer (O.Decs p ds) = S.struct_end p (str_decs_of ds.items)
str_layer (O.Identifier x) = S.str_name (long_name_of x)
str_layer (O.Ascribed p e a s) = S.ascribed p e.value a (sig_of s.value)
str_layer (O.Application f e) = S.functor_apply (name_of f) e.value
str_layer (O.Let p ds e) = S.str_let p (str_decs_of ds.items) e.value

abbrev pub str_dec_layer : O.StrDec-F (S.StrDec Place) (S.StrExp Place) (S.StrBind Place) → S.StrDec Place
str_dec_layer (O.Core d) = S.core_dec (dec_of d)
str_dec_layer (O.Structure p bs) = S.structure_dec p (str_binds_of bs.items)
str_dec_layer (O.Local p ds es) = S.str_local p (str_decs_of ds.items) (str_decs_of es.items)

abbrev pub str_bind_layer : O.StrBind-F (S.StrDec Place) (S.StrExp Place) (S.StrBind Place) → S.StrBind Place
str_bind_layer b = S.str_bind (name_of b.name) b.body

abbrev pub str_of : StrExp → S.StrExp Place
str_of = F.fold-StrExp (S.StrDec Place) (S.StrExp Place) (S.StrBind Place) str_dec_layer str_layer str_bind_layer

abbrev pub str_dec_of : StrDec → S.StrDec Place
str_dec_of = F.fold-StrDec (S.StrDec Place) (S.StrExp Place) (S.StrBind Place) str_dec_layer str_layer str_bind_layer

abbrev pub str_bind_of : StrBind → S.StrBind Place
str_bind_of = F.fold-StrBind (S.StrDec Place) (S.StrExp Place) (S.StrBind Place) str_dec_layer str_layer str_bind_layer

abbrev pub sig_bind_of : SigBind → S.SigBind Place
sig_bind_of b = record { name = name_of b.name; signature = sig_of b.signature }

abbrev pub fun_bind_of : FunBind → S.FunBind Place
fun_bind_of b = record { name = name_of b.name; argument = name_of b.argument; signature = sig_of b.signature; body = str_of b.body }

abbrev pub top_of : TopDec → S.TopDec Place
top_of (Structure d) = S.top_str (str_dec_of d)
top_of (Signature p bs) = S.signature_dec p (map sig_bind_of bs.items)
top_of (Functor p bs) = S.functor_dec p (map fun_bind_of bs.items)
