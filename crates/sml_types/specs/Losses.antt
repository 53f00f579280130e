-- Names of a run that lose their equality.
use Rattle.std.specs.Prelude.{◌≡◌, ℕ, Bool, true, false, ◌&&◌, not, List, [], ◌∷◌, length, map, slice_index_or, Vec, Option, Some, None}
use Rattle.sml_objects.specs.Initial.{Name, initial, made, attributes_of}
use Rattle.std.specs.Global.{Global}
use Rattle.std.specs.declared.rc.Rc.{Rc}
use Rattle.sml_objects.specs.Objects.{MlType, rename_type}
use Rattle.sml_objects.specs.Views.{name_of, type_of}
use Rattle.sml_objects.specs.declared.objects.MlType as P
use Rattle.sml_objects.specs.declared.objects.TyName.{TyName}
use Rattle.sml_tree.specs.Views.{ident_of}
use Rattle.sml_tree.specs.BindingViews.{dat_bind_of}
use Rattle.sml_tree.specs.declared.expressions.ConBind.{ConBind}
use Rattle.sml_tree.specs.declared.expressions.DatBind.{DatBind}
use Rattle.sml_core_rules.specs.Datatypes.{Arguments, datatype_envs, with_names}
use Rattle.sml_core_rules.specs.Objects.{Env}
use Rattle.sml_equality.specs.Runs.{IsLargest, place_in}
use Rattle.sml_equality.specs.declared.runs.Run.{Run}

-- the equality attribute that is left, where these lose it
abbrev pub unless_lost : List Bool → Bool → Option ℕ → Bool
unless_lost lost q None = q
unless_lost lost q (Some k) = q && not (slice_index_or lost k false)

-- the name as it is in the end
abbrev pub losing : Run → List Bool → Name → Name
losing r lost (initial k) = initial k
losing r lost (made u n a q) = made u n a (unless_lost lost q (place_in r (made u n a q)))

-- the type of a constructor's argument, as it is in the end
abbrev pub losing_argument : Run → List Bool → Option (Rc P.MlType Global) → Option (MlType Name)
losing_argument r lost None = None
losing_argument r lost (Some t) = Some (rename_type (losing r lost) (type_of t.value))

-- the same after the constructors' identifiers
abbrev pub losing_arguments : Run → List Bool → List ConBind → List (Option (Rc P.MlType Global)) → Arguments Name
losing_arguments r lost [] ts = []
losing_arguments r lost (c ∷ cs) [] = []
losing_arguments r lost (c ∷ cs) (t ∷ ts) = (ident_of c.name.ident, losing_argument r lost t) ∷ losing_arguments r lost cs ts

abbrev pub all_losing_arguments : Run → List Bool → List DatBind → List (Vec (Option (Rc P.MlType Global)) Global) → List (Arguments Name)
all_losing_arguments r lost [] gs = []
all_losing_arguments r lost (d ∷ ds) [] = []
all_losing_arguments r lost (d ∷ ds) (g ∷ gs) = losing_arguments r lost d.constructors.items g.items ∷ all_losing_arguments r lost ds gs

-- datatypes with their names and arguments, as they are in the end
abbrev pub losing_datatypes : Run → List Bool → List DatBind → List TyName → List (Vec (Option (Rc P.MlType Global)) Global) → List (Name × Arguments Name)
losing_datatypes r lost ds ns gs = with_names (map (λ n. losing r lost (name_of n)) ns) (all_losing_arguments r lost ds gs)

-- An environment has these datatypes, where those lose their equality that are not in the largest set that respects it.
pub record AreDatatypes (r : Run) (ds : List DatBind) (ns : List TyName) (gs : List (Vec (Option (Rc P.MlType Global)) Global)) (E : Env Name) : Type 0 where
  pub lost : List Bool
  pub flags : length lost ≡ length gs
  pub largest : IsLargest (record { unit = r.unit; first = r.first; count = length gs }) (λ k. not (slice_index_or lost k true)) gs
  pub env : E ≡ datatype_envs (map dat_bind_of ds) (losing_datatypes r lost ds ns gs)

-- each admits equality
abbrev pub AllAdmit : List Name → Type 0
AllAdmit [] = Unit {0}
AllAdmit (n ∷ ns) = ((attributes_of n).equality ≡ true) × AllAdmit ns

-- as many bindings, names and lists of arguments, and as many arguments as constructors
abbrev pub Fit : List DatBind → List TyName → List (Vec (Option (Rc P.MlType Global)) Global) → Type 0
Fit [] [] [] = Unit {0}
Fit (d ∷ ds) (n ∷ ns) (g ∷ gs) = (length d.constructors.items ≡ length g.items) × Fit ds ns gs
Fit [] [] (g ∷ gs) = ⊥
Fit [] (n ∷ ns) gs = ⊥
Fit (d ∷ ds) [] gs = ⊥
Fit (d ∷ ds) (n ∷ ns) [] = ⊥
