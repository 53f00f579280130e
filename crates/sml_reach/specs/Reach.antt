-- How far directives reach, and what sequences of atomic phrases stand for (the Definition, section 2.6): a
-- directive reaches over the text after it, up to the end of the innermost scope that it stands in.
use Rattle.std.specs.Prelude.{◌≡◌, ℕ, suc, ◌-◌, ◌<◌, Bool, false, ◌&&◌, ◌||◌, ◌==◌, nat_lt, nat_le, List, [], ◌∷◌, Option, Some, None, map, take, length, get_or, if◌then◌else◌}
use Rattle.std.specs.List.{cons_option}
use Rattle.std.specs.Option.{option_map}
use Rattle.sml_lex.specs.declared.fault.Code.{Code}
use Rattle.sml_lex.specs.declared.fault.Code.TheVariants as C
use Rattle.sml_tree.specs.Trees.{Id}
use Rattle.sml_fixity.specs.declared.sequences.Item.{Item}
use Rattle.sml_fixity.specs.declared.sequences.Step.{Step}
use Rattle.sml_fixity.specs.declared.sequences.FixFault.{FixFault}
use Rattle.sml_fixity.specs.declared.sequences.FixFault.TheVariants.{NoOperand, MixedSides, Malformed, Memory}
use Rattle.sml_fixity.specs.declared.heads.Head.{Head}
use Rattle.sml_fixity.specs.declared.scopes.Fixity.{Fixity}
use Rattle.sml_fixity.specs.Scopes.{Map, here, outer, changed_all, Gives, initial_map}
use Rattle.sml_fixity.specs.Infix.{IsTheTree, FaultStands}
use Rattle.sml_fixity.specs.Patterns.{IsThePattern, PatternFaultStands}
use Rattle.sml_fixity.specs.Heads.{IsHead}
use Rattle.sml_fixity.specs.Sequences.{roles_of}
use Rattle.sml_reach.specs.declared.reach.Misfit.{Misfit}
use Rattle.sml_reach.specs.declared.reach.Reach.{Reach}
use Rattle.sml_reach.specs.declared.reach.Outcome as P
use Rattle.sml_reach.specs.declared.reach.Outcome.TheVariants as V
use Rattle.sml_fixity.specs.ItemNames.{Name, short, name_of}
use Rattle.sml_reach.specs.Founds.{Atom}
use Rattle.sml_reach.specs.Events.{Event, begins, enters, leaves, directs, expression, pattern, head}
use Rattle.sml_fixity.specs.Shapes.{Shape, tree, headed}
use Rattle.sml_reach.specs.Fits.{Fit, Fitted, fit_of}

-- The fixities in force, those at the beginning of each open scope, the innermost first, how many declarations have
-- begun, and the first token of the last of them.
pub record State : Type 0 where
  pub here : Map
  pub outer : List Map
  pub count : ℕ
  pub begun : ℕ

-- the state that the program is in
abbrev pub state_of : Reach → State
state_of r = record { here = here r.fixities; outer = outer r.fixities; count = r.count; begun = r.begun }

-- a unit begins with the fixities of the initial basis
abbrev pub start : State
start = record { here = initial_map; outer = []; count = 0; begun = 0 }

abbrev pub misfit : State → ℕ → Code → Misfit
misfit s token code = record { number = s.count; begun = s.begun; token = token; code = code }

abbrev pub token_of : List Atom → ℕ → ℕ
token_of atoms index = get_or (map (λ (a : Atom). a.token) atoms) index 0

-- the items that a sequence of atomic phrases is to the operators
abbrev pub AreItems : List Item → List Atom → Type 0
AreItems items atoms = map name_of items ≡ map (λ (a : Atom). a.name) atoms

-- where a fault of a sequence stands: at an operator, or at the first token
abbrev pub misfit_of : State → List Atom → FixFault → Option Misfit
misfit_of s atoms (NoOperand index) = Some (misfit s (token_of atoms index) C.F1)
misfit_of s atoms (MixedSides index) = Some (misfit s (token_of atoms index) C.F2)
misfit_of s atoms Malformed = Some (misfit s (token_of atoms 0) C.F4)
misfit_of s atoms Memory = None

-- What an event comes to: a declaration at the top begins at this token; or no sequence stands here, and there is no
-- fault; or a sequence stands for this; or there is this fault.
pub data Outcome : Type 0 where
  declares : ℕ → Outcome
  idle : Outcome
  stands : Fit → Outcome
  fails : Misfit → Outcome

-- the sequence of these atomic phrases, which stands for this
abbrev pub fit_at : List Atom → Shape → Fit
fit_at atoms shape = record { token = token_of atoms 0; shape = shape }

-- the sequence stands for this expression, or has this fault
abbrev pub IsExpression : State → List Atom → Outcome → Type 0
IsExpression s atoms (stands fit) = (items : List Item) × (steps : List Step) × AreItems items atoms × IsTheTree (roles_of s.here items) steps × (fit ≡ fit_at atoms (tree steps))
IsExpression s atoms (fails m) = (items : List Item) × (fault : FixFault) × AreItems items atoms × FaultStands (roles_of s.here items) fault × (misfit_of s atoms fault ≡ Some m)
IsExpression s atoms _ = ⊥

-- the sequence stands for this pattern, or has this fault
abbrev pub IsPattern : State → List Atom → Outcome → Type 0
IsPattern s atoms (stands fit) = (items : List Item) × (steps : List Step) × AreItems items atoms × IsThePattern items (roles_of s.here items) steps × (fit ≡ fit_at atoms (tree steps))
IsPattern s atoms (fails m) = (items : List Item) × (fault : FixFault) × AreItems items atoms × PatternFaultStands items (roles_of s.here items) fault × (misfit_of s atoms fault ≡ Some m)
IsPattern s atoms _ = ⊥

-- what the first atomic phrase has in round brackets
abbrev pub first_inner : List Atom → List Name
first_inner [] = []
first_inner (a ∷ atoms) = a.inner

-- the sequence is the head of a clause in this way, or isn't one
abbrev pub IsClauseHead : State → List Atom → Outcome → Type 0
IsClauseHead s atoms (stands fit) = (items inner : List Item) × (how : Head) × AreItems items atoms × (map name_of inner ≡ first_inner atoms) × IsHead s.here items inner how × (fit ≡ fit_at atoms (headed how))
IsClauseHead s atoms (fails m) = (items inner : List Item) × AreItems items atoms × (map name_of inner ≡ first_inner atoms) × ((how : Head) → ¬ IsHead s.here items inner how) × (misfit_of s atoms Malformed ≡ Some m)
IsClauseHead s atoms _ = ⊥

-- the identifiers of a directive
abbrev pub id_in : Name → Option Id
id_in (short x) = Some x
id_in _ = None

abbrev pub ids_of : List Atom → List Id
ids_of [] = []
ids_of (a ∷ atoms) = cons_option (id_in a.name) (ids_of atoms)

-- the bytes of a level, none where it isn't written
abbrev pub level_text : (ℕ → Id) → Option ℕ → Id
level_text text None = []
level_text text (Some token) = text token

abbrev pub level_token : Option ℕ → ℕ
level_token None = 0
level_token (Some token) = token

-- An event in a state: what it comes to, and the state after it. The bytes of each token are known.
abbrev pub Happens : (ℕ → Id) → State → Event → Outcome → State → Type 0
Happens text s (begins token) o t = (o ≡ declares token) × (t ≡ record { here = s.here; outer = s.outer; count = suc s.count; begun = token })
Happens text s enters o t = (o ≡ idle) × (t ≡ record { here = s.here; outer = s.here ∷ s.outer; count = s.count; begun = s.begun })
Happens text s leaves o t = (o ≡ idle) × (t.count ≡ s.count) × (t.begun ≡ s.begun) × ((before : Map) (others : List Map) → s.outer ≡ before ∷ others → (t.here ≡ before) × (t.outer ≡ others)) × (s.outer ≡ [] → (t.here ≡ s.here) × (t.outer ≡ []))
Happens text s (directs directive level atoms) idle t = (fixity : Option Fixity) × Gives directive (level_text text level) fixity × (t ≡ record { here = changed_all s.here (ids_of atoms) fixity; outer = s.outer; count = s.count; begun = s.begun })
Happens text s (directs directive level atoms) (fails m) t = ((fixity : Option Fixity) → ¬ Gives directive (level_text text level) fixity) × (m ≡ misfit s (level_token level) C.F3) × (t ≡ s)
Happens text s (directs directive level atoms) _ t = ⊥
Happens text s (expression atoms) o t = (atoms ≡ [] → o ≡ idle) × (0 < length atoms → IsExpression s atoms o) × (t ≡ s)
Happens text s (pattern atoms) o t = (atoms ≡ [] → o ≡ idle) × (0 < length atoms → IsPattern s atoms o) × (t ≡ s)
Happens text s (head atoms) o t = IsClauseHead s atoms o × (t ≡ s)

-- what these events come to, one after another
abbrev pub Outcomes : (ℕ → Id) → State → List Event → List Outcome → Type 0
Outcomes text s [] all = all ≡ []
Outcomes text s (event ∷ events) all = (o : Outcome) × (t : State) × (more : List Outcome) × Happens text s event o t × Outcomes text t events more × (all ≡ o ∷ more)

-- the faults among outcomes
abbrev pub misfit_in : Outcome → Option Misfit
misfit_in (fails m) = Some m
misfit_in _ = None

abbrev pub misfits_in : List Outcome → List Misfit
misfits_in [] = []
misfits_in (o ∷ os) = cons_option (misfit_in o) (misfits_in os)

-- what the sequences before the next declaration stand for
abbrev pub fits_before : List Outcome → List Fit
fits_before [] = []
fits_before (declares token ∷ os) = []
fits_before (stands fit ∷ os) = fit ∷ fits_before os
fits_before (o ∷ os) = fits_before os

-- the declarations that begin, each with what the sequences before the next one stand for
abbrev pub declarations_in : List Outcome → List Fitted
declarations_in [] = []
declarations_in (declares token ∷ os) = record { begun = token; fits = fits_before os } ∷ declarations_in os
declarations_in (o ∷ os) = declarations_in os

abbrev pub code_number : Code → ℕ
code_number C.F1 = 1
code_number C.F2 = 2
code_number C.F3 = 3
code_number _ = 4

-- whether a fault comes before another of its declaration: at an earlier token, or there with a lower number
abbrev pub misfit_precedes : Misfit → Misfit → Bool
misfit_precedes a b = nat_lt a.token b.token || (a.token == b.token && nat_le (code_number a.code) (code_number b.code))

abbrev pub earlier_misfit : Misfit → Option Misfit → Misfit
earlier_misfit a None = a
earlier_misfit a (Some b) = if misfit_precedes a b then a else b

-- the first fault of the declaration with this number
abbrev pub first_misfit_in : ℕ → List Misfit → Option Misfit
first_misfit_in number [] = None
first_misfit_in number (m ∷ ms) = if m.number == number then Some (earlier_misfit m (first_misfit_in number ms)) else first_misfit_in number ms

-- the first fault of the first declaration that has one
abbrev pub first_misfit : List Misfit → Option Misfit
first_misfit [] = None
first_misfit (m ∷ ms) = first_misfit_in m.number (m ∷ ms)

-- how many declarations stand before the one with a fault of fixity
abbrev pub before_misfit : Option Misfit → Option ℕ
before_misfit misfit = option_map (λ (m : Misfit). m.number - 1) misfit

-- so many declarations at most
abbrev pub up_to : {A : Type 0} → Option ℕ → List A → List A
up_to None decs = decs
up_to (Some n) decs = take n decs

-- whether there are that many
abbrev pub is_full : Option ℕ → ℕ → Bool
is_full None count = false
is_full (Some most) count = nat_le most count

-- the first fault of fixity that these events have, and the declarations before the one that has it, or all of them
-- where none has one, each with what its sequences stand for
pub record AreFitted (text : ℕ → Id) (events : List Event) (fitted : List Fitted) (first : Option Misfit) : Type 0 where
  pub outcomes : List Outcome
  pub happen : Outcomes text start events outcomes
  pub is_first : first ≡ first_misfit (misfits_in outcomes)
  pub are_fitted : fitted ≡ up_to (before_misfit first) (declarations_in outcomes)

-- the program's outcomes as these
abbrev pub outcome_of : P.Outcome → Outcome
outcome_of (V.Declares token) = declares token
outcome_of V.Idle = idle
outcome_of (V.Stands fit) = stands (fit_of fit)
outcome_of (V.Fails m) = fails m
