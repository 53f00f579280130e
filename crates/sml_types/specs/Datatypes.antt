-- The names that bindings of datatypes make, and the types of their constructors' arguments.
use Rattle.std.specs.Prelude.{◌≡◌, ◌+◌, ◌≤◌, ℕ, suc, true, List, [], ◌∷◌, ◌++◌, length, map, None, Some, Option, Vec, Result, Ok, Err}
use Rattle.std.specs.List.{AllByRecursion}
use Rattle.std.specs.Global.{Global}
use Rattle.std.specs.Option.{option_map}
use Rattle.std.specs.declared.rc.Rc.{Rc}
use Rattle.sml_lex.specs.Faults.{fault_of}
use Rattle.sml_lex.specs.declared.fault.Code.TheVariants.{E7}
use Rattle.sml_lex.specs.declared.fault.Place.{Place}
use Rattle.sml_rules.specs.Answers.{fault}
use Rattle.sml_objects.specs.Sizes.{type_size}
use Rattle.sml_types.specs.declared.fault.CoreFault.{CoreFault}
use Rattle.sml_types.specs.declared.fault.CoreFault.TheVariants.{Memory, Fault}
use Rattle.sml_tree.specs.Expressions.{DatBind}
use Rattle.sml_tree.specs.Views.{ident_of}
use Rattle.sml_tree.specs.Withtype.{unlisted}
use Rattle.sml_tree.specs.declared.expressions.ConBind.{ConBind}
use Rattle.sml_tree.specs.declared.expressions.DatBind as declared
use Rattle.sml_core_rules.specs.Datatypes.{Arguments, listed}
use Rattle.sml_objects.specs.Maps.{lookup}
use Rattle.sml_objects.specs.Initial.{Name, made}
use Rattle.sml_objects.specs.Objects.{MlType, free}
use Rattle.sml_objects.specs.Views.{type_of}
use Rattle.sml_objects.specs.declared.objects.MlType as P
use Rattle.sml_types.specs.Meant.{meant}
use Rattle.sml_types.specs.declared.written.Written.{Written}

-- a unit's names from this number on, one for each binding, as if each admitted equality
abbrev pub names_from : ℕ → ℕ → List (DatBind Place) → List Name
names_from u k [] = []
names_from u k (d ∷ ds) = made u k (length d.variables) true ∷ names_from u (suc k) ds

abbrev pub made_argument : Option (Rc P.MlType Global) → Option (MlType Name)
made_argument o = option_map (λ t. type_of t.value) o

abbrev pub meant_argument : Option (Rc Written Global) → Option (MlType Name)
meant_argument o = option_map (λ t. meant t.value) o

-- the arguments after the constructors' identifiers
abbrev pub with_idents : List ConBind → List (Option (MlType Name)) → Arguments Name
with_idents [] ts = []
with_idents (c ∷ cs) [] = []
with_idents (c ∷ cs) (t ∷ ts) = (ident_of c.name.ident, t) ∷ with_idents cs ts

abbrev pub idents_in : List declared.DatBind → List (List (Option (MlType Name))) → List (Arguments Name)
idents_in [] gs = []
idents_in (d ∷ ds) [] = []
idents_in (d ∷ ds) (g ∷ gs) = with_idents d.constructors.items g ∷ idents_in ds gs

abbrev pub all_with_idents : List declared.DatBind → List (Vec (Option (Rc Written Global)) Global) → List (Arguments Name)
all_with_idents ds gs = idents_in ds (map (λ g. map meant_argument g.items) gs)

-- as many arguments as constructors
abbrev pub HaveAll : List declared.DatBind → List (Vec (Option (Rc Written Global)) Global) → Type 0
HaveAll [] [] = Unit {0}
HaveAll [] (g ∷ gs) = ⊥
HaveAll (d ∷ ds) [] = ⊥
HaveAll (d ∷ ds) (g ∷ gs) = (length g.items ≡ length d.constructors.items) × HaveAll ds gs

-- No binding lists the variable that no source spells.
abbrev pub ListSpelt : List (DatBind Place) → Type 0
ListSpelt ds = AllByRecursion (λ d. lookup unlisted (listed {N = Name} free 0 d.variables) ≡ None) ds

-- the size of a constructor's type, whose datatype has so many parameters
abbrev pub constructor_size : ℕ → Option (MlType Name) → ℕ
constructor_size k None = k + 1
constructor_size k (Some t) = k + 1 + 1 + type_size t

abbrev pub constructor_sizes : List declared.DatBind → List (Vec (Option (Rc Written Global)) Global) → List ℕ
constructor_sizes [] gs = []
constructor_sizes (d ∷ ds) [] = []
constructor_sizes (d ∷ ds) (g ∷ gs) = map (constructor_size (length d.variables.items)) (map meant_argument g.items) ++ constructor_sizes ds gs

-- whether these sizes are small, where one that isn't is E7 at the place
abbrev pub SmallAnswer : Result (Unit {0}) CoreFault → Place → List ℕ → Type 0
SmallAnswer (Ok u) p ks = AllByRecursion (λ k. k ≤ 10000) ks
SmallAnswer (Err Memory) p ks = Unit {0}
SmallAnswer (Err (Fault f)) p ks = (¬ AllByRecursion (λ k. k ≤ 10000) ks) × (fault_of f ≡ fault E7 p)

-- the sizes of constructors' types, by their arguments
abbrev pub argument_sizes : List (DatBind Place) → List (Arguments Name) → List ℕ
argument_sizes [] gs = []
argument_sizes (d ∷ ds) [] = []
argument_sizes (d ∷ ds) (a ∷ gs) = map (λ c. constructor_size (length d.variables) c.1) a ++ argument_sizes ds gs
