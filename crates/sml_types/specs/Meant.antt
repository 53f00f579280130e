-- The types that are meant by what is written.
use Rattle.std.specs.Prelude.{List, map}
use Rattle.std.specs.Global.{Global}
use Rattle.std.specs.declared.rc.Rc.{Rc}
use Rattle.sml_objects.specs.Initial.{Name}
use Rattle.sml_objects.specs.Objects as O
use Rattle.sml_objects.specs.Types.{applied, argument, replace_type}
use Rattle.sml_objects.specs.Views.{label_list, name_of, row_of, scheme_of, type_of}
use Rattle.sml_types.specs.declared.written.Written.{Written}
use Rattle.sml_types.specs.declared.written.Written.TheOpen.{Written-F, Made, Row, Arrow, Name as Named, Applied, Side}
use Rattle.sml_types.specs.declared.written.Written.TheFolds.{fold-Written}

-- one layer of what is written, with its parts already seen
abbrev pub meant_layer : Written-F (O.MlType Name) → O.MlType Name
meant_layer (Made t) = type_of t.value
meant_layer (Row ls ts) = row_of (label_list ls.value) (map (λ t. t.value) ts.items)
meant_layer (Arrow t u) = O.arrow_of t.value u.value
meant_layer (Named n ts) = O.app (O.name (name_of n)) (O.types_of (map (λ t. t.value) ts.items))
meant_layer (Applied θ ts) = applied (scheme_of θ.value) (O.types_of (map (λ t. t.value) ts.items))
meant_layer (Side t ts) = replace_type (argument (O.types_of (map (λ t. t.value) ts.items))) O.free t.value

-- the type that is meant
abbrev pub meant : Written → O.MlType Name
meant = fold-Written (O.MlType Name) meant_layer

abbrev pub all_meant : List (Rc Written Global) → O.MlTypes Name
all_meant ws = O.types_of (map (λ w. meant w.value) ws)
