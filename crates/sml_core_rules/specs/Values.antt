-- Instances of values, and what is asked of types (the Definition, sections 4.5 and 4.8, and appendix E).
use Rattle.std.specs.Prelude.{ℕ, suc, Bool, true, false, ◌||◌, List, [], ◌∷◌, length, Option, Some, None}
use Rattle.sml_lex.specs.declared.fault.Code.TheVariants.{E1}
use Rattle.sml_tree.specs.Trees.{Id}
use Rattle.sml_tree.specs.Names.{LongName}
use Rattle.sml_objects.specs.Maps.{lookup}
use Rattle.sml_objects.specs.Objects.{MlType, MlTypes, bound, free, app, arrow, row, name, no_type, and_type, arrow_of}
use Rattle.sml_objects.specs.Types.{instance_from}
use Rattle.sml_layers.specs.declared.layer.Bound.{Bound}
use Rattle.sml_layers.specs.Demands.{equal, asks, within, equality, of_class}
use Rattle.sml_core_rules.specs.Objects.{Env, Value, Status, variable, constructor, exception, overloaded, values}
use Rattle.sml_core_rules.specs.Lookups.{value_at}
use Rattle.sml_core_rules.specs.Scripts.{Script, give, ◌>>=◌, need, new_unknown, new_unknowns, new_overloaded, require, so_far}

abbrev pub constructs : Status → Bool
constructs variable = false
constructs (constructor k n) = true
constructs exception = true
constructs (overloaded c) = false

abbrev pub value_constructs : {N : Type 0} → Option (Value N) → Bool
value_constructs None = false
value_constructs (Some v) = constructs v.status

-- whether the short identifier is a constructor or an exception
abbrev pub is_constructor : {N : Type 0} → Env N → Id → Bool
is_constructor C x = value_constructs (lookup x (values C))

abbrev pub is_arrow : {N : Type 0} → MlType N → Bool
is_arrow (bound k) = false
is_arrow (free v) = false
is_arrow (app arrow ts) = true
is_arrow (app (row ls) ts) = false
is_arrow (app (name n) ts) = false

-- whether an unknown stands in a type
unfoldable mutual
  pub has_unknown : {N : Type 0} → MlType N → Bool
  has_unknown (bound k) = false
  has_unknown (free v) = true
  has_unknown (app h ts) = have_unknown ts

  pub have_unknown : {N : Type 0} → MlTypes N → Bool
  have_unknown no_type = false
  have_unknown (and_type t ts) = has_unknown t || have_unknown ts

module _ {P N : Type 0} where
  abbrev pub require_equal : P → MlType N → MlType N → Script P N (Unit {0})
  require_equal p t u = require (equal t u) p

  -- the type mentions only names made so far
  abbrev pub require_so_far : Bound → P → MlType N → Script P N (Unit {0})
  require_so_far b p t = do
    s ← so_far
    require (asks (within b s.names) t) p

  -- unknowns from k on stand for variables with these equality attributes
  abbrev pub require_attributes : P → ℕ → List Bool → Script P N (Unit {0})
  require_attributes p k [] = give tt
  require_attributes p k (false ∷ es) = require_attributes p (suc k) es
  require_attributes p k (true ∷ es) = do
    u ← require (asks equality (free k)) p
    require_attributes p (suc k) es

  abbrev pub require_status : P → ℕ → Status → Script P N (Unit {0})
  require_status p k variable = give tt
  require_status p k (constructor i n) = give tt
  require_status p k exception = give tt
  require_status p k (overloaded c) = do
    u ← require (asks (of_class c) (free k)) p
    new_overloaded k

  -- an instance with new unknowns
  abbrev pub instance : P → Value N → Script P N (MlType N)
  instance p v = do
    k ← new_unknowns (length v.scheme.variables)
    u ← require_attributes p k v.scheme.variables
    w ← require_status p k v.status
    give (instance_from k v.scheme.body)

  -- The result of what has this type applied to an argument of that one: a type that is written as an arrow is taken apart.
  abbrev pub apply_general : P → MlType N → MlType N → Script P N (MlType N)
  apply_general p t a = do
    b ← new_unknown
    u ← require_equal p t (arrow_of a b)
    give b

  abbrev pub applied : P → MlType N → MlType N → Script P N (MlType N)
  applied p (app arrow (and_type from (and_type to no_type))) a = do
    u ← require_equal p from a
    give to
  applied p t a = apply_general p t a

  abbrev pub find_value : Env N → LongName P → Script P N (Value N)
  find_value C x = need E1 x.place x.id (value_at C x.id)
