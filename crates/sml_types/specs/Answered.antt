-- What a scope tells of an environment, and answers of the program to what long identifiers find.
use Rattle.std.specs.Prelude.{◌≡◌, List, [], Option, Some, None, Result, Ok, Err}
use Rattle.std.specs.Borrow.{Bor}
use Rattle.std.specs.Global.{Global}
use Rattle.std.specs.declared.rc.Rc.{Rc}
use Rattle.sml_lex.specs.declared.fault.Code.TheVariants.{E3}
use Rattle.sml_bases.specs.declared.objects.Env as P
use Rattle.sml_bases.specs.Views.{env_of}
use Rattle.sml_lex.specs.Faults as F
use Rattle.sml_lex.specs.Faults.{fault_of}
use Rattle.sml_lex.specs.declared.fault.Place.{Place}
use Rattle.sml_tree.specs.Trees.{Id}
use Rattle.sml_objects.specs.Initial.{Name}
use Rattle.sml_objects.specs.Maps.{lookup}
use Rattle.sml_rules.specs.Answers.{Answer, accepted, fault_at, refused}
use Rattle.sml_rules.specs.Lookups.{Found, found, no_path}
use Rattle.sml_core_rules.specs.Objects.{Env, TyStr, find_structure, structures, types}
use Rattle.sml_core_rules.specs.Lookups.{find_at}
use Rattle.sml_types.specs.declared.fault.CoreFault.{CoreFault}
use Rattle.sml_types.specs.declared.fault.CoreFault.TheVariants.{Memory, Fault}

-- Whatever is said of identifiers holds in this environment: which structures they are, and which type structures.
pub record TellsOf (structure : Id → Option (Env Name) → Type 0) (type_str : Id → Option (TyStr Name) → Type 0) (C : Env Name) : Type 0 where
  pub structures_are : (x : Id) (o : Option (Env Name)) → structure x o → o ≡ find_structure x (structures C)
  pub types_are : (x : Id) (o : Option (TyStr Name)) → type_str x o → o ≡ lookup x (types C)

-- what is there, or else whatever is said
abbrev pub there_or : {X : Type 0} → Option X → (Option X → Type 0) → Option X → Type 0
there_or (Some x) says o = o ≡ Some x
there_or None says o = says o

-- the environment at the end of a path
abbrev pub env_at : Env Name → List Id → Found (Env Name)
env_at C path = find_at (λ E. Some E) [] path C

-- this answer, or want of memory
abbrev pub IsAnswer : {X Y : Type 0} → (X → Y) → Result X CoreFault → Answer Place Y → Type 0
IsAnswer view (Ok x) a = a ≡ accepted (view x)
IsAnswer view (Err Memory) a = Unit {0}
IsAnswer view (Err (Fault f)) a = a ≡ refused (fault_of f)

-- this fault
abbrev pub IsFault : CoreFault → F.Fault Place → Type 0
IsFault Memory f = ⊥
IsFault (Fault g) f = fault_of g ≡ f

-- this fault, or want of memory
abbrev pub IsFaultOf : CoreFault → F.Fault Place → Type 0
IsFaultOf Memory f = Unit {0}
IsFaultOf (Fault g) f = fault_of g ≡ f

-- A path that isn't empty leads to this structure, or to a fault.
abbrev pub LeadsTo : Env Name → Place → List Id → Result (Option (Bor (Rc P.Env Global))) CoreFault → Type 0
LeadsTo C p path (Ok None) = path ≡ []
LeadsTo C p path (Ok (Some e)) = env_at C path ≡ found (env_of e.now.value)
LeadsTo C p path (Err Memory) = Unit {0}
LeadsTo C p path (Err (Fault f)) = (s : List Id) × (env_at C path ≡ no_path s) × (fault_of f ≡ fault_at E3 p s)
