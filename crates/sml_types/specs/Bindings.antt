-- Bindings of types: what their right sides are answered, and the type structures that they give.
use Rattle.std.specs.Prelude.{◌≡◌, List, [], ◌∷◌, None, Result, Ok, Err}
use Rattle.std.specs.List.{AllByRecursion}
use Rattle.sml_lex.specs.Faults.{fault_of}
use Rattle.sml_lex.specs.declared.fault.Code.TheVariants.{E7}
use Rattle.sml_lex.specs.declared.fault.Place.{Place}
use Rattle.sml_tree.specs.Trees.{Id}
use Rattle.sml_tree.specs.Expressions.{TypBind}
use Rattle.sml_tree.specs.Withtype.{unlisted}
use Rattle.sml_objects.specs.Initial.{Name}
use Rattle.sml_objects.specs.Maps.{Map, lookup, put}
use Rattle.sml_objects.specs.Objects.{MlType, Outside, bound}
use Rattle.sml_bases.specs.Views.{env_of}
use Rattle.sml_bases.specs.declared.objects.Env as P
use Rattle.sml_rules.specs.Answers.{Answer, accepted, fault, refused}
use Rattle.sml_core_rules.specs.Answers.{give, ◌>>=◌}
use Rattle.sml_core_rules.specs.Datatypes.{AreSmall, listed, type_function}
use Rattle.sml_core_rules.specs.Objects.{Env, TyStr, of_types}
use Rattle.sml_core_rules.specs.Types.{read_ty}
use Rattle.sml_types.specs.declared.fault.CoreFault.{CoreFault}
use Rattle.sml_types.specs.declared.fault.CoreFault.TheVariants.{Memory, Fault}

-- No binding lists the variable that no source spells.
abbrev pub AreSpelt : {P : Type 0} → List (TypBind P) → Type 0
AreSpelt bs = AllByRecursion (λ b. lookup unlisted (listed {N = Name} bound 0 b.variables) ≡ None) bs

-- No identifier stands twice.
abbrev pub AreApart : List Id → Type 0
AreApart [] = Unit {0}
AreApart (x ∷ xs) = Outside x xs × AreApart xs

module _ {P N : Type 0} where
  -- what the right sides mean, or the first fault
  unfoldable pub read_sides : Env N → List (TypBind P) → Answer P (List (MlType N))
  read_sides C [] = give []
  read_sides C (b ∷ bs) = do
    t ← read_ty C (listed bound 0 b.variables) b.ty
    ts ← read_sides C bs
    give (t ∷ ts)

  -- the type structure that a binding gives, whose right side means this type
  abbrev pub type_str_of : TypBind P → MlType N → TyStr N
  type_str_of b t = record { function = type_function b.variables t; constructors = [] }

  -- a map with those that bindings give, whose right sides mean these types
  abbrev pub put_types : Map (TyStr N) → List (TypBind P) → List (MlType N) → Map (TyStr N)
  put_types m [] ts = m
  put_types m (b ∷ bs) [] = m
  put_types m (b ∷ bs) (t ∷ ts) = put_types (put b.name.id (type_str_of b t) m) bs ts

-- what bindings of types are answered at this place
abbrev pub TypesAnswer : Result P.Env CoreFault → Place → Answer Place (Map (TyStr Name)) → Type 0
TypesAnswer (Ok e) p (accepted ts) = AreSmall (λ t. t.function) ts × (env_of e ≡ of_types ts)
TypesAnswer (Ok e) p (refused f) = ⊥
TypesAnswer (Err Memory) p a = Unit {0}
TypesAnswer (Err (Fault g)) p (refused f) = fault_of g ≡ f
TypesAnswer (Err (Fault g)) p (accepted ts) = (¬ AreSmall (λ t. t.function) ts) × (fault_of g ≡ fault E7 p)
