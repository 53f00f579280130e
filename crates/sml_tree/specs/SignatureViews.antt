-- The program's signature expressions and specifications as those of the definitions.
use Rattle.std.specs.Prelude.{List, [], ◌∷◌, map}
use Rattle.sml_lex.specs.declared.fault.Place.{Place}
use Rattle.sml_tree.specs.Signatures as S
use Rattle.sml_tree.specs.Views.{ident_of}
use Rattle.sml_tree.specs.TypeViews.{name_of, names_of, long_name_of, ty_of}
use Rattle.sml_tree.specs.BindingViews.{con_bind_of, dat_bind_of}
use Rattle.sml_tree.specs.declared.signatures.SigExp.{SigExp}
use Rattle.sml_tree.specs.declared.signatures.Spec.{Spec}
use Rattle.sml_tree.specs.declared.signatures.StrDesc.{StrDesc}
use Rattle.sml_tree.specs.declared.signatures.WhereType.{WhereType}
use Rattle.sml_tree.specs.declared.signatures.ValDesc.{ValDesc}
use Rattle.sml_tree.specs.declared.signatures.TypDesc.{TypDesc}
use Rattle.sml_tree.specs.declared.signatures.SigExp.TheOpen as O
use Rattle.sml_tree.specs.declared.signatures.SigExp.TheFolds as F

abbrev pub where_of : WhereType → S.WhereType Place
where_of w = record { variables = names_of w.variables.items; constructor = long_name_of w.constructor; ty = ty_of w.ty }

abbrev pub val_desc_of : ValDesc → S.ValDesc Place
val_desc_of d = record { name = name_of d.name; ty = ty_of d.ty }

abbrev pub typ_desc_of : TypDesc → S.TypDesc Place
typ_desc_of d = record { variables = names_of d.variables.items; name = name_of d.name }

abbrev pub specs_of : List (S.Spec Place) → S.Specs Place
specs_of [] = S.no_spec
specs_of (s ∷ ss) = S.and_spec s (specs_of ss)

abbrev pub str_descs_of : List (S.StrDesc Place) → S.StrDescs Place
str_descs_of [] = S.no_str_desc
str_descs_of (d ∷ ds) = S.and_str_desc d (str_descs_of ds)

-- one layer of a signature expression, with its parts already seen
abbrev pub sig_layer : O.SigExp-F (S.SigExp Place) (S.Spec Place) (S.StrDesc Place) → S.SigExp Place
sig_layer (O.Specs p ss) = S.sig_end p (specs_of ss.items)
sig_layer (O.Identifier p s) = S.sig_name p (ident_of s)
sig_layer (O.WhereType p s w) = S.where_type p s.value (where_of w)

abbrev pub spec_layer : O.Spec-F (S.SigExp Place) (S.Spec Place) (S.StrDesc Place) → S.Spec Place
spec_layer (O.Value p ds) = S.val_spec p (map val_desc_of ds.items)
spec_layer (O.Type p ds) = S.type_spec p (map typ_desc_of ds.items)
spec_layer (O.Eqtype p ds) = S.eqtype_spec p (map typ_desc_of ds.items)
spec_layer (O.Datatype p bs) = S.datatype_spec p (map dat_bind_of bs.items)
spec_layer (O.Replication p t u) = S.copy_spec p (name_of t) (long_name_of u)
spec_layer (O.Exception p bs) = S.exception_spec p (map con_bind_of bs.items)
spec_layer (O.Structure p ds) = S.structure_spec p (str_descs_of ds.items)
spec_layer (O.Include p s) = S.include_spec p s
spec_layer (O.SharingType p ts) = S.sharing_types p (map long_name_of ts.items)
spec_layer (O.Sharing p ss) = S.sharing_structures p (map long_name_of ss.items)

abbrev pub str_desc_layer : O.StrDesc-F (S.SigExp Place) (S.Spec Place) (S.StrDesc Place) → S.StrDesc Place
str_desc_layer d = S.str_desc (name_of d.name) d.signature

abbrev pub sig_of : SigExp → S.SigExp Place
sig_of = F.fold-SigExp (S.SigExp Place) (S.Spec Place) (S.StrDesc Place) sig_layer spec_layer str_desc_layer

abbrev pub spec_of : Spec → S.Spec Place
spec_of = F.fold-Spec (S.SigExp Place) (S.Spec Place) (S.StrDesc Place) sig_layer spec_layer str_desc_layer

abbrev pub str_desc_of : StrDesc → S.StrDesc Place
str_desc_of = F.fold-StrDesc (S.SigExp Place) (S.Spec Place) (S.StrDesc Place) sig_layer spec_layer str_desc_layer
