-- Heads with the parts that they take: those that readings make have them, and it can be tested.
use Rattle.std.specs.Prelude.{◌≡◌, ◌^◌, ◌&&◌, ◌||◌, not, nat_eq, nat_lt, ℕ, zero, suc, Bool, true, false, List, [], ◌∷◌, length, decimal}
use Rattle.std.specs.List.{AllByRecursion}
use Rattle.std.specs.List.Sorted.{IsStrictlySortedBy}
use Rattle.std.specs.Ordering.{is_lt}
use Rattle.std.proofs.Common.{arith}
use Rattle.std.specs.declared.cmp.Ordering.TheVariants.{Less}
use Rattle.std.proofs.lemmas.Bool.{eqb-true, eq-eqb, ltb-true, lt-ltb}
use mathlib.Core.Path.{refl, sym, ap, subst, ◌∙◌}
use Rattle.sml_tree.specs.Trees.{Id}
use Rattle.sml_objects.specs.Initial.{Name, naming}
use Rattle.sml_objects.specs.Labels.{AreRising, label_order, numbers}
use Rattle.sml_objects.specs.Names.{Naming, Initial, int, word, char, string, bool, exn, real, list, ref}
use Rattle.sml_objects.specs.Objects.{MlTypes, Head, arrow, row, name, no_type, and_type, labels_of}
use Rattle.sml_objects.proofs.DecimalLabels.{numbers-rise}
use Rattle.sml_objects.proofs.RisingLabels.{lower-less}
use Rattle.sml_core_rules.specs.Types.{count_types}
use Rattle.sml_core_laws.specs.Made.{Takes}
use Rattle.sml_core_laws.proofs.MadeShapes.{IsShape, IsAlone, both-true}

tuple-labels : {N : Type 0} (k : ℕ) (ts : MlTypes N) → labels_of k ts ≡ numbers k (count_types ts)
tuple-labels k no_type = refl
tuple-labels k (and_type t ts) = ap (λ ls. decimal k ∷ ls) (tuple-labels (suc k) ts)

count-numbers : (k n : ℕ) → length (numbers k n) ≡ n
count-numbers k zero = refl
count-numbers k (suc n) = ap suc (count-numbers (suc k) n)

tuple-takes : {N : Type 0} (names : Naming N) (ts : MlTypes N) → Takes names (row (labels_of 1 ts)) (count_types ts)
tuple-takes names ts = (
  sym (ap length (tuple-labels 1 ts) ∙ count-numbers 1 (count_types ts)),
  λ l. subst AreRising (sym (tuple-labels 1 ts)) (numbers-rise 1 (count_types ts) (omega arith) (omega arith)),
)

-- whether labels rise

unfoldable pub is_below : Id → List Id → Bool
is_below l [] = true
is_below l (m ∷ ls) = is_lt (label_order l m) && is_below l ls

unfoldable pub rises : List Id → Bool
rises [] = true
rises (l ∷ ls) = is_below l ls && rises ls

below-tested : (l : Id) (ls : List Id) → is_below l ls ≡ true → AllByRecursion (λ m. label_order l m ≡ Less) ls
unfolding is_below
below-tested l [] e = tt
below-tested l (m ∷ ls) e = let b = both-true (is_lt (label_order l m)) (is_below l ls) e in (lower-less (label_order l m) b.0, below-tested l ls b.1)

below-passes : (l : Id) (ls : List Id) → AllByRecursion (λ m. label_order l m ≡ Less) ls → is_below l ls ≡ true
unfolding is_below
below-passes l [] h = refl
below-passes l (m ∷ ls) h = λ i. is_lt (h.0 i) && below-passes l ls h.1 i

rises-tested : (ls : List Id) → rises ls ≡ true → AreRising ls
unfolding rises IsStrictlySortedBy
rises-tested [] e = tt
rises-tested (l ∷ ls) e = let b = both-true (is_below l ls) (rises ls) e in (below-tested l ls b.0, rises-tested ls b.1)

rises-passes : (ls : List Id) → AreRising ls → rises ls ≡ true
unfolding rises IsStrictlySortedBy
rises-passes [] h = refl
rises-passes (l ∷ ls) h = λ i. below-passes l ls h.0 i && rises-passes ls h.1 i

-- whether a head takes so many

unfoldable pub takes : Head Name → ℕ → Bool
takes arrow k = nat_eq k 2
takes (row ls) k = nat_eq k (length ls) && (not (nat_lt k (2 ^ 64)) || rises ls)
takes (name n) k = nat_eq k (naming.attributes n).arity

pub takes-tested : (h : Head Name) (k : ℕ) → takes h k ≡ true → Takes naming h k
unfolding takes
takes-tested arrow k e = eqb-true k 2 e
takes-tested (row ls) k e =
    let b = both-true (nat_eq k (length ls)) (not (nat_lt k (2 ^ 64)) || rises ls) e in
    (eqb-true k (length ls) b.0, (λ l. rises-tested ls (go (nat_lt k (2 ^ 64)) (lt-ltb k (2 ^ 64) l) b.1)))
  where
    go : (b : Bool) → b ≡ true → (not b || rises ls) ≡ true → rises ls ≡ true
    go true e h = h
    go false e h = absurd cc
takes-tested (name n) k e = eqb-true k (naming.attributes n).arity e

takes-passes : (h : Head Name) (k : ℕ) → Takes naming h k → takes h k ≡ true
unfolding takes
takes-passes arrow k h = eq-eqb k 2 h
takes-passes (row ls) k h = λ i. eq-eqb k (length ls) h.0 i && go (nat_lt k (2 ^ 64)) refl i
  where
    go : (b : Bool) → nat_lt k (2 ^ 64) ≡ b → (not b || rises ls) ≡ true
    go true e = rises-passes ls (h.1 (ltb-true k (2 ^ 64) e))
    go false e = refl
takes-passes (name n) k h = eq-eqb k (naming.attributes n).arity h

alone-takes : (k : Initial) → IsAlone k → Takes naming (name (naming.initial k)) 0
unfolding naming
alone-takes int a = refl
alone-takes word a = refl
alone-takes char a = refl
alone-takes string a = refl
alone-takes bool a = refl
alone-takes exn a = refl
alone-takes real a = refl
alone-takes list a = absurd a
alone-takes ref a = absurd a

pub takes-shape : IsShape naming (Takes naming)
takes-shape = record {
  arrows = refl;
  rows = λ ls r. (refl, (λ l. r));
  tuples = tuple-takes naming;
  names_alone = alone-takes;
  named = λ n. refl;
  test = takes;
  tested = takes-tested;
  passes = takes-passes;
}
