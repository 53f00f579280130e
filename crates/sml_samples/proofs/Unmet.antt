-- Demands that can't be met, each in its first layer.
use Rattle.std.specs.Prelude.{◌≡◌, ◌<◌, ℕ, zero, suc, true, false, List, [], ◌∷◌, Option, Some, None}
use mathlib.Core.Path.{subst, refl, sym, ap, ◌∙◌}
use mathlib.Core.Logic.{inl, inr}
use Rattle.std.proofs.Common.{arith}
use Rattle.sml_objects.specs.Appearance.{Stands}
use Rattle.sml_objects.specs.Initial.{Name, initial, made, naming}
use Rattle.sml_objects.specs.Names.{Initial, int, bool, real}
use Rattle.sml_objects.specs.Objects.{MlType, Head, arrow, free, name, arrow_of, named}
use Rattle.sml_objects.specs.Equality.{admits, admits_by, all_admit_by}
use Rattle.sml_objects.specs.Sizes.{type_size, types_size}
use Rattle.sml_objects.specs.Types.{replace_type, replace_types}
use Rattle.sml_layers.specs.declared.layer.Bound.TheVariants.{Newness, Locality}
use Rattle.sml_layers.specs.declared.layer.Layer.{Layer}
use Rattle.sml_layers.specs.declared.layer.Layer.TheVariants as L
use Rattle.sml_layers.specs.declared.class.Class.TheVariants.{Num}
use Rattle.sml_layers.specs.Classes.{names_in, allows}
use Rattle.sml_layers.specs.Demands.{Demand, equal, asks, equality, of_class, within, variable, Mentions, CanBeMet, IsFirstUnmet}
use Rattle.sml_layers.specs.Layers.{index_of}
use Rattle.sml_layers.specs.Worlds.{InfiniteType, tree, spread, spread_all}
use Rattle.sml_core_rules.specs.States.{words}
use Rattle.sml_samples.specs.Around.{scope, initial_names, type_of, twice}
use Rattle.sml_samples.proofs.Names.{made-stands-not}

-- two names

abbrev head_of : Option (Head Name × ℕ) → Head Name
head_of None = arrow
head_of (Some h) = h.0

pub clash : (j k : Initial) → (j ≡ k → ⊥) → (ds : List (Demand Name (List Name))) → IsFirstUnmet (words scope) L.Equations (equal (type_of j) (type_of k) ∷ ds)
unfolding spread spread_all
clash j k n ds = (λ m. let e : name (initial j) ≡ name (initial k) = ap (λ t. head_of (t [])) m.1.0 in n cc, λ l h. absurd (omega (arith, h)))

-- `val rec f = fn x => x x`: the type of x would be `t` with `t = t -> u`

abbrev pub asked : List (Demand Name (List Name))
asked = asks (within Newness initial_names) (free 1) ∷ asks (within Newness initial_names) (free 0) ∷ []

-- this type without end
abbrev nothing : InfiniteType Name
nothing path = None

unfoldable endless : InfiniteType Name
endless [] = Some (arrow, 2)
endless (zero ∷ path) = endless path
endless (suc k ∷ path) = None

endless-is : (path : List ℕ) → endless path ≡ tree arrow (endless ∷ nothing ∷ []) path
unfolding endless
endless-is [] = refl
endless-is (zero ∷ path) = refl
endless-is (suc zero ∷ path) = refl
endless-is (suc (suc k) ∷ path) = refl

-- the types of unknowns 1 and 2
abbrev without_end : ℕ → InfiniteType Name
without_end zero = nothing
without_end (suc zero) = endless
without_end (suc (suc v)) = nothing

pub circular : IsFirstUnmet (words scope) L.Finiteness (equal (free 1) (arrow_of (free 1) (free 2)) ∷ asked)
unfolding spread spread_all type_size types_size replace_type replace_types
circular = (
  λ m. let e : type_size (m.0 1) ≡ type_size (arrow_of (m.0 1) (m.0 2)) = ap type_size m.1.0 in omega (arith, e),
  below,
)
  where
    below : (k : Layer) → index_of k < 1 → CanBeMet (words scope) k (equal (free 1) (arrow_of (free 1) (free 2)) ∷ asked)
    below L.Equations h = (without_end, (λ i path. endless-is path i, (tt, (tt, tt))))
    below L.Finiteness h = absurd (omega (arith, h))
    below L.Newness h = absurd (omega (arith, h))
    below L.Locality h = absurd (omega (arith, h))
    below L.Equality h = absurd (omega (arith, h))
    below L.Classes h = absurd (omega (arith, h))
    below L.Rigidity h = absurd (omega (arith, h))

-- `val x : 'a = 3`, where unknown k is the explicit variable

abbrev pub own : ℕ → Demand Name (List Name)
own k = asks (variable (record { number = k; equality = false })) (free k)

abbrev rigid_demands : ℕ → List (Demand Name (List Name))
rigid_demands k = equal (free k) (type_of int) ∷ equal (free (suc k)) (free k) ∷ own k ∷ []

pub rigid : (k : ℕ) → IsFirstUnmet (words scope) L.Rigidity (rigid_demands k)
unfolding spread spread_all replace_type replace_types
rigid k = (
  λ m.
      let e : m.0 k ≡ type_of int = m.1.0 in
      let f : m.0 k ≡ named (made 0 k 0 false) = m.1.1.1.0 (omega arith) in
      let d : type_of int ≡ named (made 0 k 0 false) = sym e ∙ f in cc,
  below,
)
  where
    below : (l : Layer) → index_of l < 6 → CanBeMet (words scope) l (rigid_demands k)
    below L.Equations h = (λ _. tree (name (initial int)) [], (refl, (refl, (tt, tt))))
    below L.Finiteness h = (λ _. type_of int, (refl, (refl, (λ h. absurd (omega (arith, h)), tt))))
    below L.Newness h = (λ _. type_of int, (refl, (refl, (λ h. absurd (omega (arith, h)), tt))))
    below L.Locality h = (λ _. type_of int, (refl, (refl, (λ h. absurd (omega (arith, h)), tt))))
    below L.Equality h = (λ _. type_of int, (refl, (refl, (λ h. absurd (omega (arith, h)), tt))))
    below L.Classes h = (λ _. type_of int, (refl, (refl, (λ h. absurd (omega (arith, h)), tt))))
    below L.Rigidity h = absurd (omega (arith, h))

-- `let datatype d = D in D end`

abbrev escaping_demands : List (Demand Name (List Name))
escaping_demands = asks (within Locality initial_names) (named (made 1 0 0 true)) ∷ []

not-allowed : (words scope).Allows initial_names (made 1 0 0 true) → ⊥
not-allowed (inl s) = made-stands-not 1 0 0 true initial_names refl s
not-allowed (inr x) = let e = x.1 in cc

pub escaping : IsFirstUnmet (words scope) L.Locality escaping_demands
unfolding replace_type replace_types Mentions Stands
escaping = (λ m. not-allowed (m.1.0 (omega arith)).0, below)
  where
    below : (k : Layer) → index_of k < 3 → CanBeMet (words scope) k escaping_demands
    below L.Equations h = (λ _ path. None, (tt, tt))
    below L.Finiteness h = (free, (λ h. absurd (omega (arith, h)), tt))
    below L.Newness h = (free, (λ h. absurd (omega (arith, h)), tt))
    below L.Locality h = absurd (omega (arith, h))
    below L.Equality h = absurd (omega (arith, h))
    below L.Classes h = absurd (omega (arith, h))
    below L.Rigidity h = absurd (omega (arith, h))

-- `true + true`

abbrev class_demands : List (Demand Name (List Name))
class_demands = equal (twice (free 1)) (twice (type_of bool)) ∷ asks (of_class Num) (free 1) ∷ []

pub of-no-class : IsFirstUnmet (words scope) L.Classes class_demands
unfolding spread spread_all replace_type replace_types naming
of-no-class = (λ m. none (m.0 1) m.1.0 (m.1.1.0 (omega arith)), below)
  where
    none : (t : MlType Name) → twice t ≡ twice (type_of bool) → (k : Initial) × (allows (names_in Num) k ≡ true) × (t ≡ type_of k) → ⊥
    none t e c = let f : t ≡ type_of bool = cc in let g : type_of bool ≡ type_of c.0 = sym f ∙ c.2 in let h : bool ≡ c.0 = cc in
        let w : false ≡ true = subst (λ k. allows (names_in Num) k ≡ true) (sym h) c.1 in absurd cc

    below : (k : Layer) → index_of k < 5 → CanBeMet (words scope) k class_demands
    below L.Equations h = (λ _. tree (name (initial bool)) [], (refl, (tt, tt)))
    below L.Finiteness h = (λ _. type_of bool, (refl, (λ h. absurd (omega (arith, h)), tt)))
    below L.Newness h = (λ _. type_of bool, (refl, (λ h. absurd (omega (arith, h)), tt)))
    below L.Locality h = (λ _. type_of bool, (refl, (λ h. absurd (omega (arith, h)), tt)))
    below L.Equality h = (λ _. type_of bool, (refl, (λ h. absurd (omega (arith, h)), tt)))
    below L.Classes h = absurd (omega (arith, h))
    below L.Rigidity h = absurd (omega (arith, h))

-- `3.0 = 3.0`

abbrev equality_demands : List (Demand Name (List Name))
equality_demands = equal (twice (free 1)) (twice (type_of real)) ∷ asks equality (free 1) ∷ []

pub unequal : IsFirstUnmet (words scope) L.Equality equality_demands
unfolding spread spread_all replace_type replace_types naming admits_by all_admit_by
unequal = (
  λ m.
      let e : twice (m.0 1) ≡ twice (type_of real) = m.1.0 in
      let f : m.0 1 ≡ type_of real = cc in
      let g : false ≡ true = sym (ap (admits naming) f) ∙ m.1.1.0 (omega arith) in absurd cc,
  below,
)
  where
    below : (k : Layer) → index_of k < 4 → CanBeMet (words scope) k equality_demands
    below L.Equations h = (λ _. tree (name (initial real)) [], (refl, (tt, tt)))
    below L.Finiteness h = (λ _. type_of real, (refl, (λ h. absurd (omega (arith, h)), tt)))
    below L.Newness h = (λ _. type_of real, (refl, (λ h. absurd (omega (arith, h)), tt)))
    below L.Locality h = (λ _. type_of real, (refl, (λ h. absurd (omega (arith, h)), tt)))
    below L.Equality h = absurd (omega (arith, h))
    below L.Classes h = absurd (omega (arith, h))
    below L.Rigidity h = absurd (omega (arith, h))

-- `fn x => let datatype d = D in x : d end`

abbrev newness_demands : List (Demand Name (List Name))
newness_demands = equal (free 1) (named (made 1 0 0 true)) ∷ asked

pub too-new : IsFirstUnmet (words scope) L.Newness newness_demands
unfolding spread spread_all replace_type replace_types Mentions
too-new = (λ m. none (m.0 1) m.1.0 (m.1.1.0 (omega arith)), below)
  where
    none : (t : MlType Name) → t ≡ named (made 1 0 0 true) → Mentions ((words scope).Allows initial_names) t → ⊥
    none t e h = not-allowed (subst (Mentions ((words scope).Allows initial_names)) e h).0

    below : (k : Layer) → index_of k < 2 → CanBeMet (words scope) k newness_demands
    below L.Equations h = (λ _. tree (name (made 1 0 0 true)) [], (refl, (tt, (tt, tt))))
    below L.Finiteness h = (λ _. named (made 1 0 0 true), (refl, (λ h. absurd (omega (arith, h)), (λ h. absurd (omega (arith, h)), tt))))
    below L.Newness h = absurd (omega (arith, h))
    below L.Locality h = absurd (omega (arith, h))
    below L.Equality h = absurd (omega (arith, h))
    below L.Classes h = absurd (omega (arith, h))
    below L.Rigidity h = absurd (omega (arith, h))
