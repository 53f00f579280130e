-- What the functions of elaboration give, as answers of readings.
use Rattle.std.specs.Prelude.{◌≡◌, ◌<◌, ◌≤◌, ◌+◌, ℕ, length, true, ◌∷◌, Result, Ok, Err, Option, Some, None, List, [], map}
use Rattle.std.specs.Option.{is_some}
use Rattle.sml_lex.specs.declared.fault.Place.{Place}
use Rattle.sml_lex.specs.Faults as F
use Rattle.sml_lex.specs.Faults.{fault_of, first_place}
use Rattle.sml_lex.specs.declared.fault.Code.TheVariants.{E3, N2, Q3}
use Rattle.sml_tree.specs.Trees.{Id, LongId, Spec}
use Rattle.sml_objects.specs.Maps.{lookup}
use Rattle.sml_objects.specs.Objects.{MlType, MlTypes, Scheme, Env, Sig, Basis, names_basis, names_sig, empty_env, free, mono, structures, types, values, find_structure, one_value, one_type, types_of}
use Rattle.sml_objects.specs.Initial.{Name, initial, made, naming}
use Rattle.sml_objects.specs.Canonical.{new_names, canonical}
use Rattle.sml_objects.specs.declared.objects.Basis as PB
use Rattle.sml_objects.specs.declared.objects.Sig as PG
use Rattle.sml_objects.specs.declared.objects.TyName.{TyName}
use Rattle.sml_rules.specs.Every.{Every}
use Rattle.sml_rules.specs.Open.{OpenEnv}
use Rattle.sml_rules.specs.Rules.{Item, a_type, a_value, item_of, Specified, sum_from}
use Rattle.sml_piece.specs.declared.signatures.Specified as PS
use Rattle.sml_objects.specs.Views.{entries_of, type_of, scheme_of, env_of, name_of, maker_of, sig_of}
use Rattle.sml_rules.specs.Readings as R
use Rattle.sml_rules.specs.Lookups.{find_at, entry, no_path}
use Rattle.sml_rules.specs.Answers.{Reading, refused, accepted, fault_at, give, ◌>>=◌, test, fault}
use Rattle.sml_piece.specs.declared.top_fault.TopFault.{TopFault}
use Rattle.sml_piece.specs.declared.top_fault.TopFault.TheVariants.{Memory, Fault}
use Rattle.sml_piece.specs.declared.locals.Locals.{Locals}
use Rattle.sml_piece.specs.declared.expressions.Typed.{Typed}
use Rattle.sml_piece.specs.declared.expressions.TypedList.{TypedList}
use Rattle.sml_piece.specs.declared.expressions.Component.{Component}
use Rattle.sml_piece.specs.declared.expressions.Component.TheVariants.{Value, «Type»}
use Rattle.sml_tree.specs.Views.{ident_of}

abbrev pub NameEnv : Type 0
NameEnv = Env Name

-- The function answers as the reading does, unless memory was refused; `view` shows its result.
abbrev pub Answers : {X Y : Type 0} → (X → Y) → Result X TopFault → Reading Place Y → Type 0
Answers view (Ok x) R = R (accepted (view x))
Answers view (Err Memory) R = Unit {0}
Answers view (Err (Fault f)) R = R (refused (fault_of f))

-- this object was made, unless memory was refused
abbrev pub IsMade : {X Y : Type 0} → Y → (X → Y) → Result X TopFault → Type 0
IsMade y view (Ok x) = view x ≡ y
IsMade y view (Err Memory) = Unit {0}
IsMade y view (Err (Fault f)) = ⊥

-- this fault, or want of memory
abbrev pub IsFaultOf : TopFault → F.Fault Place → Type 0
IsFaultOf Memory f = Unit {0}
IsFaultOf (Fault g) f = fault_of g ≡ f

-- the first that is there
abbrev pub or_else : {X : Type 0} → Option X → Option X → Option X
or_else None o = o
or_else (Some x) o = Some x

-- the numbers of the unknowns that are the types of local variables
abbrev pub Numbers : Type 0
Numbers = Id → Option ℕ

abbrev pub no_local : Numbers
no_local x = None

abbrev pub flat : Option (Option ℕ) → Option ℕ
flat None = None
flat (Some o) = o

abbrev pub numbers_in : Locals → Numbers
numbers_in l x = flat (lookup x (entries_of (λ o. o) l.numbers.entries))

abbrev pub local_scheme : Option ℕ → Option (Scheme Name)
local_scheme None = None
local_scheme (Some k) = Some (mono (free k))

-- C has the components of an outer environment, hidden by those of an inner one, and these by local variables.
pub record Shows (locals : Numbers) (outer inner C : Env Name) : Type 0 where
  pub structures_are : (x : Id) → find_structure x (structures C) ≡ or_else (find_structure x (structures inner)) (find_structure x (structures outer))
  pub types_are : (x : Id) → lookup x (types C) ≡ or_else (lookup x (types inner)) (lookup x (types outer))
  pub values_are : (x : Id) → lookup x (values C) ≡ or_else (local_scheme (locals x)) (or_else (lookup x (values inner)) (lookup x (values outer)))

abbrev pub typed_of : Typed → R.Typed (MlType Name)
typed_of t = R.typed t.made (type_of t.ty.value)

abbrev pub typed_list_of : TypedList → R.Typed (MlTypes Name)
typed_list_of t = R.typed t.made (types_of (map (λ t. type_of t.value) t.types.items))

abbrev pub component_of : Component → Env Name
component_of (Value x s) = one_value (ident_of x) (scheme_of s.value)
component_of («Type» x s) = one_type (ident_of x) (scheme_of s.value)

-- What a path that isn't empty leads to: an environment, or nowhere after its shortest prefix that leads nowhere.
abbrev pub LeadsTo : {X : Type 0} → (X → Env Name) → Env Name → Place → List Id → Result X TopFault → Type 0
LeadsTo view C p path (Ok e) = (pick : Env Name → Option (Scheme Name)) → find_at pick [] path C ≡ entry (pick (view e))
LeadsTo view C p path (Err Memory) = Unit {0}
LeadsTo view C p path (Err (Fault f)) =
    (s : List Id) × ((pick : Env Name → Option (Scheme Name)) → find_at pick [] path C ≡ no_path s) × (fault_of f ≡ fault_at E3 p s)

-- no local variable hides what the long identifier finds
abbrev pub IsFree : Numbers → LongId → Type 0
IsFree locals x = x.path ≡ [] → locals x.last ≡ None

-- what else the names of the unit are: those with a lower number
abbrev pub IsBelow : ℕ → ℕ → Name → Type 0
IsBelow unit count (initial k) = Unit {0}
IsBelow unit count (made u k a q) = u ≡ unit → k < count

-- the program's basis as one of the definition, where the unit's names have numbers below their count
pub record IsBasisOf (p : PB.Basis) (B : Basis Name) : Type 0 where
  pub body_is : B.body ≡ env_of p.env
  pub count_is : B.count ≡ length p.names.items
  pub below : Every (IsBelow (maker_of p.unit) (length p.names.items)) (names_basis B)
  pub opened : OpenEnv B.body

-- what a declaration gives belongs to the basis' unit, and its names have the numbers after those of the basis
pub record IsOwnBasis (p own : PB.Basis) : Type 0 where
  pub unit_is : own.unit ≡ p.unit
  pub own_below : Every (IsBelow (maker_of p.unit) (length p.names.items + length own.names.items)) (names_sig (sig_of own))

-- an object whose new names are renumbered, if there aren't too many of them
abbrev pub read_numbered : ℕ → ℕ → Sig Name → Reading Place (Sig Name)
read_numbered unit count S = do
  u ← test (count + length (new_names unit count S) ≤ 1048576) (fault Q3 first_place)
  give (canonical unit count S)

abbrev pub no_signature : Sig Name
no_signature = record { names = []; body = empty_env }

abbrev pub signature_of : PG.Sig → Sig Name
signature_of s = record { names = map name_of s.names.items; body = env_of s.body }

-- what was specified stands in the environment, and nothing else
pub record Tells (seen : List Item) (E : Env Name) : Type 0 where
  pub type_stands : (t : Id) → Specified (a_type t) seen → is_some (lookup t (types E)) ≡ true
  pub type_specified : (t : Id) → is_some (lookup t (types E)) ≡ true → Specified (a_type t) seen
  pub value_stands : (x : Id) → Specified (a_value x) seen → is_some (lookup x (values E)) ≡ true
  pub value_specified : (x : Id) → is_some (lookup x (values E)) ≡ true → Specified (a_value x) seen

abbrev pub names_in : Option TyName → List Name
names_in None = []
names_in (Some n) = name_of n ∷ []

abbrev pub specified_of : PS.Specified → Sig Name
specified_of s = record { names = names_in s.name; body = component_of s.component }

-- one specification, and that it isn't among those seen
abbrev pub read_new : ℕ → Basis Name → List Item → Spec Place → Reading Place (Sig Name)
read_new unit B seen q = do
  S ← R.read_spec naming unit B q
  u ← test (¬ (Specified (item_of q) seen)) (fault N2 (R.place_of q))
  give S

-- the sum of the signature and what is read
abbrev pub summed : Sig Name → Reading Place (List (Sig Name)) → Reading Place (Sig Name)
summed T m = do
  Ss ← m
  give (sum_from T Ss)

-- its names have numbers below the count with its own
abbrev pub IsNumbered : ℕ → ℕ → PS.Specified → Type 0
IsNumbered unit count s = Every (IsBelow unit (count + length (names_in s.name))) (names_sig (specified_of s))
