-- What bindings of datatypes are answered (the Definition, section 4.10, rules 17, 28 and 29, and section 4.9).
use Rattle.std.specs.Prelude.{◌≡◌, ◌≤◌, List, [], ◌∷◌, map, Option, Vec, Result, Ok, Err}
use Rattle.std.specs.List.{AllByRecursion}
use Rattle.std.specs.Global.{Global}
use Rattle.std.specs.declared.rc.Rc.{Rc}
use Rattle.sml_lex.specs.Faults.{fault_of}
use Rattle.sml_lex.specs.declared.fault.Code.TheVariants.{E7}
use Rattle.sml_lex.specs.declared.fault.Place.{Place}
use Rattle.sml_tree.specs.BindingViews.{dat_bind_of}
use Rattle.sml_tree.specs.declared.expressions.DatBind.{DatBind}
use Rattle.sml_objects.specs.Initial.{Name}
use Rattle.sml_objects.specs.Views.{name_of}
use Rattle.sml_objects.specs.declared.objects.MlType.{MlType}
use Rattle.sml_objects.specs.declared.objects.TyName.{TyName}
use Rattle.sml_bases.specs.Views.{env_of}
use Rattle.sml_bases.specs.declared.objects.Env as P
use Rattle.sml_rules.specs.Answers.{Answer, accepted, fault, refused}
use Rattle.sml_core_rules.specs.Datatypes.{Arguments, datatype_types}
use Rattle.sml_core_rules.specs.Objects.{Env, extend, of_types}
use Rattle.sml_equality.specs.declared.runs.Run.{Run}
use Rattle.sml_types.specs.Datatypes.{argument_sizes, idents_in, made_argument}
use Rattle.sml_types.specs.Losses.{AreDatatypes}
use Rattle.sml_types.specs.declared.fault.CoreFault.{CoreFault}
use Rattle.sml_types.specs.declared.fault.CoreFault.TheVariants.{Memory, Fault}

-- an environment with datatypes that have these names
abbrev pub with_datatypes : Env Name → List DatBind → List Name → Env Name
with_datatypes C ds ns = extend C (of_types (datatype_types [] (map dat_bind_of ds) ns))

-- An environment has datatypes with these names and arguments, without the equality that they lose.
pub record AreGiven (r : Run) (ds : List DatBind) (ns : List Name) (gs : List (Arguments Name)) (E : Env Name) : Type 0 where
  pub names : List TyName
  pub made : List (Vec (Option (Rc MlType Global)) Global)
  pub named : map name_of names ≡ ns
  pub arguments : idents_in ds (map (λ g. map made_argument g.items) made) ≡ gs
  pub datatypes : AreDatatypes r ds names made E

-- the types of the constructors are small
abbrev pub ConstructorsAreSmall : List DatBind → List (Arguments Name) → Type 0
ConstructorsAreSmall ds gs = AllByRecursion (λ k. k ≤ 10000) (argument_sizes (map dat_bind_of ds) gs)

-- What bindings are answered at a place, where the arguments of their constructors are answered so, over these names.
abbrev pub DatatypesAnswer : Result P.Env CoreFault → Place → Run → List DatBind → List Name → Answer Place (List (Arguments Name)) → Type 0
DatatypesAnswer (Ok e) p r ds ns (accepted gs) = ConstructorsAreSmall ds gs × AreGiven r ds ns gs (env_of e)
DatatypesAnswer (Ok e) p r ds ns (refused f) = ⊥
DatatypesAnswer (Err Memory) p r ds ns a = Unit {0}
DatatypesAnswer (Err (Fault g)) p r ds ns (accepted gs) = (¬ ConstructorsAreSmall ds gs) × (fault_of g ≡ fault E7 p)
DatatypesAnswer (Err (Fault g)) p r ds ns (refused f) = fault_of g ≡ f

-- the place of the first binding, or the first of all where there is none
abbrev pub first_place : List DatBind → Place
first_place [] = record { line = 1; column = 1 }
first_place (d ∷ ds) = d.name.place
