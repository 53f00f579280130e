-- What is supposed where a type expression is read, and what is said of its variables afterwards.
use Rattle.std.specs.Prelude.{◌≡◌, nat_eq, length, List, Option, None, Result, Ok, Err}
use Rattle.sml_lex.specs.declared.fault.Code.TheVariants.{E2, E4}
use Rattle.sml_lex.specs.declared.fault.Place.{Place}
use Rattle.sml_tree.specs.Trees.{Id}
use Rattle.sml_tree.specs.Expressions.{TypBind}
use Rattle.sml_tree.specs.Withtype.{unlisted}
use Rattle.sml_objects.specs.Initial.{Name}
use Rattle.sml_objects.specs.Maps.{Map, lookup}
use Rattle.sml_tree.specs.Names.{LongName}
use Rattle.sml_objects.specs.Objects.{MlType, MlTypes}
use Rattle.sml_objects.specs.Types.{applied}
use Rattle.sml_rules.specs.Answers.{Answer, fault}
use Rattle.sml_core_rules.specs.Answers.{give, ◌>>=◌, check, need}
use Rattle.sml_core_rules.specs.Lookups.{type_at}
use Rattle.sml_core_rules.specs.Types.{count_types}
use Rattle.sml_core_rules.specs.Objects.{Env, TyStr}
use Rattle.sml_types.specs.Answered.{TellsOf}
use Rattle.sml_types.specs.Sides.{HasSides}
use Rattle.sml_types.specs.declared.fault.CoreFault.{CoreFault}
use Rattle.sml_types.specs.declared.fault.CoreFault.TheVariants.{Memory, Fault}
use Rattle.sml_types.specs.declared.sides.RightSide.{RightSide}

-- Where a scope tells of an environment and has the right sides of these bindings, and these types may be said to stand for
-- the variables, this holds of the three. A variable that no source spells stands for none.
abbrev pub Supposing : (Id → Option (Env Name) → Type 0) → (Id → Option (TyStr Name) → Type 0) → (Id → Option RightSide → Type 0)
    → (Map (MlType Name) → Type 0) → (Env Name → List (TypBind Place) → Map (MlType Name) → Type 0) → Type 0
Supposing structure type_str side says holds =
    (C : Env Name) (bs : List (TypBind Place)) (vs : Map (MlType Name)) → TellsOf structure type_str C → HasSides side C bs → says vs
    → lookup unlisted vs ≡ None → holds C bs vs

-- where the answer isn't want of memory
abbrev pub IfAnswered : {X : Type 0} → Result X CoreFault → Type 0 → Type 0
IfAnswered (Ok x) T = T
IfAnswered (Err Memory) T = Unit {0}
IfAnswered (Err (Fault f)) T = T

-- a type constructor after these arguments
abbrev pub application_answer : {P N : Type 0} → Env N → LongName P → MlTypes N → Answer P (MlType N)
application_answer C c ts = do
  t ← need E2 c.place c.id (type_at C c.id)
  u ← check (nat_eq (length t.function.variables) (count_types ts)) (fault E4 c.place)
  give (applied t.function ts)
