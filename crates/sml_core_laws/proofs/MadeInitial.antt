-- The initial environment speaks of the initial names.
use Rattle.std.specs.Prelude.{◌≡◌, ◌<◌, ◌&&◌, nat_lt, ℕ, Bool, true, false, [], ◌∷◌, length}
use Rattle.std.specs.Fmt.{digits}
use Rattle.std.proofs.lemmas.Bool.{ltb-true, false≢true}
use mathlib.Core.Path.{refl}
use mathlib.Core.Logic.{inl, inr}
use Rattle.sml_objects.specs.Appearance.{Stands}
use Rattle.sml_objects.specs.Initial.{Name, initial, made, naming}
use Rattle.sml_objects.specs.Maps.{Map}
use Rattle.sml_objects.specs.Names.{Initial, int, word, char, string, bool, exn, real, list, ref}
use Rattle.sml_objects.specs.Objects.{MlType, MlTypes, Head, Scheme, bound, free, app, arrow, row, name, no_type, and_type}
use Rattle.sml_core_rules.specs.Initial.{initial_names, initial_types, initial_values, initial_env}
use Rattle.sml_core_rules.specs.Objects.{Value, TyStr, Status, variable, constructor, exception, overloaded}
use Rattle.sml_core_rules.specs.Types.{count_types}
use Rattle.sml_core_laws.specs.Made.{Speaks, AllSpeak, IsHeadIn, IsClosedIn, IsTyStrIn, IsValueIn, IsEnvIn, HasVariable, Takes, BeginningsAreWellMade}
use Rattle.sml_core_laws.proofs.MadeEnvs.{closed-scheme}
use Rattle.sml_core_laws.proofs.MadeShapes.{both-true}
use Rattle.sml_core_laws.proofs.MadeTakes.{takes, rises, is_below, takes-tested}
use Rattle.sml_core_laws.proofs.MadeTypes.{Each, each-join}

initial-stands : (k : Initial) → Stands (initial k) initial_names
unfolding Stands
initial-stands int = inl refl
initial-stands word = inr (inl refl)
initial-stands char = inr (inr (inl refl))
initial-stands string = inr (inr (inr (inl refl)))
initial-stands bool = inr (inr (inr (inr (inl refl))))
initial-stands exn = inr (inr (inr (inr (inr (inl refl)))))
initial-stands real = inr (inr (inr (inr (inr (inr (inl refl))))))
initial-stands list = inr (inr (inr (inr (inr (inr (inr (inl refl)))))))
initial-stands ref = inr (inr (inr (inr (inr (inr (inr (inr (inl refl))))))))

-- tests

is_initial : Head Name → Bool
is_initial arrow = true
is_initial (row ls) = true
is_initial (name (initial k)) = true
is_initial (name (made u n a q)) = false

unfoldable mutual
  is_closed : ℕ → MlType Name → Bool
  is_closed n (bound k) = nat_lt k n
  is_closed n (free v) = false
  is_closed n (app h ts) = (is_initial h && takes h (count_types ts)) && are_closed n ts

  are_closed : ℕ → MlTypes Name → Bool
  are_closed n no_type = true
  are_closed n (and_type t ts) = is_closed n t && are_closed n ts

abbrev is_scheme : Scheme Name → Bool
is_scheme σ = is_closed (length σ.variables) σ.body

has_variable : Status → Scheme Name → Bool
has_variable variable σ = true
has_variable (constructor k n) σ = true
has_variable exception σ = true
has_variable (overloaded c) σ = nat_lt 0 (length σ.variables)

abbrev is_value : Value Name → Bool
is_value v = is_scheme v.scheme && has_variable v.status v.scheme

abbrev all_of : {X : Type 0} → (X → Bool) → Map X → Bool
all_of f [] = true
all_of f (e ∷ m) = f e.1 && all_of f m

abbrev is_str : TyStr Name → Bool
is_str t = is_scheme t.function && all_of is_scheme t.constructors

-- what they say

initial-head : (h : Head Name) (k : ℕ) → is_initial h ≡ true → Takes naming h k → IsHeadIn (Takes naming) initial_names h k
unfolding is_initial
initial-head arrow k e t = (tt, t)
initial-head (row ls) k e t = (tt, t)
initial-head (name (initial j)) k e t = (initial-stands j, t)
initial-head (name (made u n a q)) k e t = absurd (false≢true e)

mutual
  unfolding Speaks is_closed

  closed-speaks : (n : ℕ) (t : MlType Name) → is_closed n t ≡ true → Speaks (λ k. k < n) (λ v. ⊥) (IsHeadIn (Takes naming) initial_names) t
  closed-speaks n (bound k) e = ltb-true k n e
  closed-speaks n (free v) e = false≢true e
  closed-speaks n (app h ts) e =
      let b = both-true (is_initial h && takes h (count_types ts)) (are_closed n ts) e in
      let c = both-true (is_initial h) (takes h (count_types ts)) b.0 in (initial-head h (count_types ts) c.0 (takes-tested h (count_types ts) c.1), all-closed-speak n ts b.1)

  all-closed-speak : (n : ℕ) (ts : MlTypes Name) → are_closed n ts ≡ true → AllSpeak (λ k. k < n) (λ v. ⊥) (IsHeadIn (Takes naming) initial_names) ts
  all-closed-speak n no_type e = tt
  all-closed-speak n (and_type t ts) e = let b = both-true (is_closed n t) (are_closed n ts) e in (closed-speaks n t b.0, all-closed-speak n ts b.1)

each-tested : {X : Type 0} (f : X → Bool) (F : X → Type 0) → ((x : X) → f x ≡ true → F x) → (m : Map X) → all_of f m ≡ true → Each F m
each-tested f F h [] e = tt
each-tested f F h (d ∷ m) e = let b = both-true (f d.1) (all_of f m) e in (h d.1 b.0, each-tested f F h m b.1)

scheme-tested : (σ : Scheme Name) → is_scheme σ ≡ true → IsClosedIn (Takes naming) initial_names σ
scheme-tested σ e = closed-speaks (length σ.variables) σ.body e

str-tested : (t : TyStr Name) → is_str t ≡ true → IsTyStrIn (Takes naming) initial_names t
str-tested t e =
    let b = both-true (is_scheme t.function) (all_of is_scheme t.constructors) e in
    (scheme-tested t.function b.0, each-tested is_scheme (IsClosedIn (Takes naming) initial_names) scheme-tested t.constructors b.1)

variable-tested : (w : Status) (σ : Scheme Name) → has_variable w σ ≡ true → HasVariable w σ
unfolding has_variable
variable-tested variable σ e = tt
variable-tested (constructor k n) σ e = tt
variable-tested exception σ e = tt
variable-tested (overloaded c) σ e = ltb-true 0 (length σ.variables) e

value-tested : (v : Value Name) → is_value v ≡ true → IsValueIn (Takes naming) 0 initial_names v
value-tested v e =
    let b = both-true (is_scheme v.scheme) (has_variable v.status v.scheme) e in
    (closed-scheme (Takes naming) 0 initial_names v.scheme (scheme-tested v.scheme b.0), variable-tested v.status v.scheme b.1)

all-types : all_of is_str initial_types ≡ true
unfolding is_closed is_initial has_variable takes rises is_below naming digits
all-types = refl

all-values : all_of is_value initial_values ≡ true
unfolding is_closed is_initial has_variable takes rises is_below naming digits
all-values = refl

initial-in : IsEnvIn (Takes naming) 0 initial_names initial_env
unfolding IsEnvIn initial_env
initial-in = (
  tt,
  each-join (IsTyStrIn (Takes naming) initial_names) [] initial_types tt (each-tested is_str (IsTyStrIn (Takes naming) initial_names) str-tested initial_types all-types),
  each-join (IsValueIn (Takes naming) 0 initial_names) [] initial_values tt (each-tested is_value (IsValueIn (Takes naming) 0 initial_names) value-tested initial_values all-values),
)

pub beginnings-are-well-made : BeginningsAreWellMade
unfolding naming
beginnings-are-well-made = (initial-in, (λ unit. record { initials = initial-stands; demands = tt; window = (tt, tt); met = (free, tt) }))
