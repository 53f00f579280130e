-- Which of new datatypes admit equality (the Definition, section 4.9): there is always one largest set of them.
use Rattle.std.specs.Prelude.{◌≡◌, ℕ, Bool, true, List, map}
use Rattle.sml_lex.specs.declared.fault.Place.{Place}
use Rattle.sml_tree.specs.Expressions.{DatBind}
use Rattle.sml_objects.specs.Appearance.{Stands}
use Rattle.sml_objects.specs.Equality.{is_ref}
use Rattle.sml_objects.specs.Initial.{Name}
use Rattle.sml_objects.specs.Names.{Naming}
use Rattle.sml_rules.specs.Answers.{Answer}
use Rattle.sml_core_rules.specs.Datatypes.{Arguments, Respects}
use Rattle.sml_core_rules.specs.Objects.{Env}
use Rattle.sml_core_rules.specs.Scopes.{run_scope}
use Rattle.sml_core_rules.specs.Scripts.{IsAnswer, give, makes_datatypes}
use Rattle.sml_core_rules.specs.States.{State}

-- of all other names than those of the datatypes both say the same
abbrev pub AgreeOutside : {N : Type 0} → List (N × Arguments N) → (N → Bool) → (N → Bool) → Type 0
AgreeOutside {N} ds f g = (n : N) → ¬ (Stands n (map (λ d. d.0) ds)) → f n ≡ g n

-- Of names that admit equality, around datatypes with their arguments and among them: a set that respects it, and contains every other
-- that does.
pub record IsLargest {N : Type 0} (names : Naming N) (around : N → Bool) (ds : List (N × Arguments N)) (eq : N → Bool) : Type 0 where
  pub outside : AgreeOutside ds eq around
  pub respects : Respects (is_ref names) eq ds
  pub largest : (other : N → Bool) → AgreeOutside ds other around → Respects (is_ref names) other ds → (n : N) → other n ≡ true → eq n ≡ true

-- it is there, whatever admits equality around the datatypes, and there is one
pub record LargestIsOne {N : Type 0} (names : Naming N) : Type 0 where
  pub there : (around : N → Bool) (ds : List (N × Arguments N)) → (eq : N → Bool) × IsLargest names around ds eq
  pub one : (around : N → Bool) (ds : List (N × Arguments N)) (f g : N → Bool) → IsLargest names around ds f → IsLargest names around ds g → (n : N) → f n ≡ g n

-- Bindings of datatypes always have an answer, over the names of a run and in every state: new names with the equality attributes that
-- the largest set gives them, or the fault of an argument.
abbrev pub DatatypesHaveAnswers : Type 0
DatatypesHaveAnswers =
    (unit : ℕ) (C : Env Name) (ds : List (DatBind Place)) (s : State Place Name)
    → (o : Answer Place ((List Name × List (Arguments Name)) × State Place Name)) × IsAnswer (run_scope unit) (makes_datatypes C ds (λ ns gs. give (ns, gs))) s o
