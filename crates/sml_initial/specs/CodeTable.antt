-- What the rows of the code's table stand for. No public contract rests on it.
use Rattle.std.specs.Prelude.{ℕ, Bool, List, [], map}
use Rattle.std.specs.Borrow.{Bor}
use Rattle.sml_tree.specs.Trees.{Id}
use Rattle.sml_objects.specs.Initial.{Name, initial}
use Rattle.sml_objects.specs.Maps.{join}
use Rattle.sml_objects.specs.Objects as O
use Rattle.sml_objects.specs.Views.{initial_of}
use Rattle.sml_core_rules.specs.Objects.{Value, TyStr}
use Rattle.sml_bases.specs.Views.{status_of}
use Rattle.sml_bases.specs.declared.objects.Status.{Status}
use Rattle.sml_objects.specs.declared.objects.Initial.{Initial}
use Rattle.sml_objects.specs.declared.objects.Initial.TheVariants.{List as Lists}
use Rattle.sml_initial.specs.declared.table.Part.{Part}
use Rattle.sml_initial.specs.declared.table.Part.TheVariants as P
use Rattle.sml_initial.specs.declared.table.Shape.{Shape}
use Rattle.sml_initial.specs.declared.table.Shape.TheVariants as S

abbrev pub name_of_variable : Initial → ℕ → O.MlType Name
name_of_variable k n = O.app (O.name (initial (initial_of k))) (O.and_type (O.bound n) O.no_type)

abbrev pub part_of : Part → O.MlType Name
part_of P.Unit = O.app (O.row []) O.no_type
part_of (P.Variable n) = O.bound n
part_of (P.Name k) = O.named (initial (initial_of k))
part_of (P.Of k n) = name_of_variable k n
part_of (P.Function m n) = O.arrow_of (O.bound m) (O.bound n)
part_of (P.OfLists m n) = O.arrow_of (name_of_variable Lists m) (name_of_variable Lists n)

abbrev pub shape_of : Shape → O.MlType Name
shape_of (S.Plain t) = part_of t
shape_of (S.OfOne t u) = O.arrow_of (part_of t) (part_of u)
shape_of (S.OfTwo t u v) = O.arrow_of (O.tuple_of (O.and_type (part_of t) (O.and_type (part_of u) O.no_type))) (part_of v)

abbrev pub row_scheme : List Bool → Shape → O.Scheme Name
row_scheme es t = record { variables = es; body = shape_of t }

abbrev pub constructor_row : List Bool → Bor (List ℕ) × Shape → Id × O.Scheme Name
constructor_row es r = (r.0.now, row_scheme es r.1)

abbrev pub type_row : Bor (List ℕ) × Bor (List Bool) × Shape × Bor (List (Bor (List ℕ) × Shape)) → Id × TyStr Name
type_row r = (r.0.now, record { function = row_scheme r.1.now r.2; constructors = join [] (map (constructor_row r.1.now) r.3.now) })

abbrev pub value_row : Bor (List ℕ) × Status × Bor (List Bool) × Shape → Id × Value Name
value_row r = (r.0.now, record { scheme = row_scheme r.2.now r.3; status = status_of r.1 })
