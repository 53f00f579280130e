-- The initial names among those that stood first.
use Rattle.std.specs.Prelude.{◌≡◌, ◌++◌, ℕ, Bool, true, false, List, [], ◌∷◌}
use mathlib.Core.Path.{refl, sym}
use mathlib.Core.Logic.{inl, inr}
use Rattle.sml_objects.specs.Appearance.{Stands, stands}
use Rattle.sml_objects.specs.Initial.{Name, initial, made, naming}
use Rattle.sml_objects.specs.Names.{Attributes, Initial, int, word, char, string, bool, exn, real, list, ref}
use Rattle.sml_objects.specs.Objects.{Outside}
use Rattle.sml_layers.specs.Demands.{Mentions}
use Rattle.sml_core_rules.specs.States.{words, AreMade}
use Rattle.sml_samples.specs.Around.{scope, initial_names, type_of}

pub initial-stands : (k : Initial) → Stands (initial k) initial_names
unfolding Stands
initial-stands int = inl refl
initial-stands word = inr (inl refl)
initial-stands char = inr (inr (inl refl))
initial-stands string = inr (inr (inr (inl refl)))
initial-stands bool = inr (inr (inr (inr (inl refl))))
initial-stands exn = inr (inr (inr (inr (inr (inl refl)))))
initial-stands real = inr (inr (inr (inr (inr (inr (inl refl))))))
initial-stands list = inr (inr (inr (inr (inr (inr (inr (inl refl)))))))
initial-stands ref = inr (inr (inr (inr (inr (inr (inr (inr (inl refl))))))))

-- types of these names are within them
pub initial-within : (k : Initial) → Mentions ((words scope).Allows initial_names) (type_of k)
unfolding Mentions
initial-within k = (inl (initial-stands k), tt)

-- A made name is none of some initial ones.

abbrev pub are_initial : List Name → Bool
are_initial [] = true
are_initial (initial k ∷ ns) = are_initial ns
are_initial (made u k a q ∷ ns) = false

pub made-outside : (u k a : ℕ) (q : Bool) (ns : List Name) → are_initial ns ≡ true → Outside (made u k a q) ns
unfolding Outside
made-outside u k a q [] e = tt
made-outside u k a q (initial j ∷ ns) e = (λ f. cc, made-outside u k a q ns e)
made-outside u k a q (made v l b p ∷ ns) e = absurd cc

pub outside-both : (n : Name) (ms ns : List Name) → Outside n ms → Outside n ns → Outside n (ms ++ ns)
unfolding Outside
outside-both n [] ns h k = k
outside-both n (m ∷ ms) ns h k = (h.0, outside-both n ms ns h.1 k)

-- the same of any names, found by comparing them
pub outside-by : (n : Name) (ns : List Name) → stands naming n ns ≡ false → Outside n ns
unfolding Outside stands
outside-by n [] e = tt
outside-by n (m ∷ ms) e = go (naming.same n m) (outside-by n ms) e
  where
    go : (d : Dec (n ≡ m)) → (stands naming n ms ≡ false → Outside n ms) → elim d [ yes _ ↦ true | no _ ↦ stands naming n ms ] ≡ false → Outside n (m ∷ ms)
    go (yes p) f e = absurd cc
    go (no f) g e = (λ q. f (sym q), g e)

pub made-stands-not : (u k a : ℕ) (q : Bool) (ns : List Name) → are_initial ns ≡ true → Stands (made u k a q) ns → ⊥
unfolding Stands
made-stands-not u k a q [] e h = absurd h
made-stands-not u k a q (initial j ∷ ns) e (inl f) = cc
made-stands-not u k a q (initial j ∷ ns) e (inr h) = made-stands-not u k a q ns e h
made-stands-not u k a q (made v l b p ∷ ns) e h = absurd cc

pub stands-alone : (n m : Name) → Stands n (m ∷ []) → n ≡ m
unfolding Stands
stands-alone n m (inl e) = e
stands-alone n m (inr h) = absurd h

-- names that are made, each where it is none of those before

abbrev pub attributes : ℕ → Bool → Attributes
attributes a q = record { maker = 1; arity = a; equality = q; constructors = [] }

pub made-new : (k a : ℕ) (q : Bool) (old : List Name) → Outside (made 1 k a q) old → AreMade scope old (attributes a q ∷ []) (made 1 k a q ∷ [])
unfolding AreMade naming
made-new k a q old o = (made 1 k a q, [], o, λ j e. cc, refl, refl, refl)

pub first-made : (a : ℕ) (q : Bool) → AreMade scope initial_names (attributes a q ∷ []) (made 1 0 a q ∷ [])
first-made a q = made-new 0 a q initial_names (made-outside 1 0 a q initial_names refl)

pub second-made : (p q : Bool) → AreMade scope (made 1 0 0 p ∷ initial_names) (attributes 0 q ∷ []) (made 1 1 0 q ∷ [])
unfolding Outside
second-made p q = made-new 1 0 q (made 1 0 0 p ∷ initial_names) (λ e. cc, made-outside 1 1 0 q initial_names refl)

pub third-made : (r p q : Bool) → AreMade scope (made 1 1 0 p ∷ made 1 0 0 r ∷ initial_names) (attributes 0 q ∷ []) (made 1 2 0 q ∷ [])
unfolding Outside
third-made r p q = made-new 2 0 q (made 1 1 0 p ∷ made 1 0 0 r ∷ initial_names) (λ e. cc, (λ e. cc, made-outside 1 2 0 q initial_names refl))
