-- Programs that differ behind seals alone are answered the same elsewhere.
use Rattle.std.specs.Prelude.{◌≡◌, Bool, true, false, List, [], ◌∷◌, map, drop, None, is_some}
use mathlib.Core.Path.{sym, ap, ◌∙◌}
use Rattle.sml_layers.specs.declared.variable.Variable.{Variable}
use Rattle.sml_rules.specs.Answers.{Answer, refused, accepted}
use Rattle.sml_core_rules.specs.Objects.{Basis}
use Rattle.sml_core_rules.specs.States.{Scope}
use Rattle.sml_module_rules.specs.Structures.{Added, unjudged, add_basis, IsTopReading}
use Rattle.sml_module_rules.specs.Statements.{SealsHide}
use Rattle.sml_module_rules.specs.Programs.{basis_after, AreReadings, StructurePair, FunctorPair, Places, Pair, same, structures, functors, first, second, all_shown}
use Rattle.sml_module_rules.proofs.Grown.{IsWhole}
use Rattle.sml_module_rules.proofs.Programs.{HasInitials, IsAddition, answer-added, answered-own, accepted-agree, after-whole, after-all, SameAnswer, SameAnswers, first-agrees, one-agrees, answers-alike}
use Rattle.sml_module_rules.proofs.Seals.{structures-agree}
use Rattle.sml_module_rules.proofs.FunctorSeals.{functors-agree}

abbrev get_first : Bool → List Bool → Bool
get_first b [] = b
get_first b (c ∷ cs) = c

module _ {P N : Type 0} (scope : Scope N) (far : (x : Variable) → ¬ ((scope.names.attributes (scope.variable x)).maker ≡ scope.unit)) where
  -- two accepted answers to groups that are alike

  structure-answers : (B : Basis N) → IsWhole B → HasInitials scope B → (p r : Places P) (bs : List (StructurePair P)) (A C : Added P N)
      → IsTopReading scope (first (structures p r bs)).0 B (first (structures p r bs)).1 (accepted A) → IsTopReading scope (second (structures p r bs)).0 B (second (structures p r bs)).1 (accepted C)
      → SameAnswer {P = P} scope B (accepted (unjudged A)) (accepted (unjudged C))
  structure-answers B w z p r bs A C (ms, a, d) (ns, b, e) =
      let x = (answered-own scope B p.declaration ms A d).0 in
      let y = (answered-own scope B r.declaration ns C e).0 in
      accepted-agree scope B p.declaration r.declaration ms ns (structures-agree scope far B w z bs ms ns a b x y) A C d e

  functor-answers : (B : Basis N) → IsWhole B → HasInitials scope B → (p r : Places P) (bs : List (FunctorPair P)) (A C : Added P N)
      → IsTopReading scope (first (functors p r bs)).0 B (first (functors p r bs)).1 (accepted A) → IsTopReading scope (second (functors p r bs)).0 B (second (functors p r bs)).1 (accepted C)
      → SameAnswer {P = P} scope B (accepted (unjudged A)) (accepted (unjudged C))
  functor-answers B w z p r bs A C (ms, a, d) (ns, b, e) =
      let x = (answered-own scope B p.declaration ms A d).0 in
      let y = (answered-own scope B r.declaration ns C e).0 in
      accepted-agree scope B p.declaration r.declaration ms ns (functors-agree scope far B w z bs ms ns a b x y) A C d e

  -- accepted in both, or refused in both
  abbrev AreBoth : List (Pair P) → List (Answer P (Added P N)) → List (Answer P (Added P N)) → Type 0
  AreBoth ds os qs = map is_some (all_shown ds os) ≡ map is_some (all_shown ds qs)

  -- what follows a pair whose answers agree
  after-pair : (d : Pair P) (ds : List (Pair P)) (B : Basis N) → IsWhole B → HasInitials scope B → (o q : Answer P (Added P N)) → IsAddition B q → SameAnswer scope B o q
      → (os qs : List (Answer P (Added P N))) → AreReadings scope (basis_after B o) (map first ds) os → AreBoth ds os qs
      → ((ps : List (Answer P (Added P N))) → IsWhole (basis_after B q) → HasInitials scope (basis_after B q) → AreReadings scope (basis_after B q) (map first ds) ps → AreBoth ds ps qs
      → SameAnswers scope ds (basis_after B q) ps qs)
      → SameAnswers scope (d ∷ ds) B (o ∷ os) (q ∷ qs)
  after-pair d ds B w z o q c ρ os qs a m rest =
      first-agrees scope d ds B w o q c ρ os qs a
      (λ ps c' n. rest ps (after-whole scope B q w c) (λ j. after-all scope B q (scope.names.initial j) (z j)) c' (sym n ∙ m))

  pub answers-agree : (ds : List (Pair P)) (B : Basis N) → IsWhole B → HasInitials scope B → (os qs : List (Answer P (Added P N))) → AreReadings scope B (map first ds) os
      → AreReadings scope B (map second ds) qs → AreBoth ds os qs → SameAnswers scope ds B os qs
  unfolding AreReadings
  answers-agree [] B w z [] [] a b m = λ i. (N, scope, B, [])
  answers-agree [] B w z [] (q ∷ qs) a b m = absurd b
  answers-agree [] B w z (o ∷ os) qs a b m = absurd a
  answers-agree (d ∷ ds) B w z [] qs a b m = absurd a
  answers-agree (d ∷ ds) B w z (o ∷ os) [] a b m = absurd b
  answers-agree (same p d ∷ ds) B w z (o ∷ os) (q ∷ qs) (h, a) (k, b) m =
      after-pair (same p d) ds B w z o q (answer-added scope B p d q k) (one-agrees scope far B w z p d o q h k) os qs a (ap (drop 1) m) (λ ps y i c n. answers-agree ds (basis_after B q) y i ps qs c b n)
  answers-agree (structures d e bs ∷ ds) B w z (refused f ∷ os) (refused g ∷ qs) a b m = let τ = answers-agree ds B w z os qs a.1 b.1 (ap (drop 1) m) in λ i. ((τ i).0, (τ i).1, (τ i).2, None ∷ (τ i).3)
  answers-agree (structures d e bs ∷ ds) B w z (refused f ∷ os) (accepted C ∷ qs) a b m = let n : false ≡ true = ap (get_first false) m in absurd cc
  answers-agree (structures d e bs ∷ ds) B w z (accepted A ∷ os) (refused g ∷ qs) a b m = let n : true ≡ false = ap (get_first true) m in absurd cc
  answers-agree (structures d e bs ∷ ds) B w z (accepted A ∷ os) (accepted C ∷ qs) (h, a) (k, b) m =
      after-pair (structures d e bs) ds B w z (accepted (unjudged A)) (accepted (unjudged C)) (answer-added scope B (second (structures d e bs)).0 (second (structures d e bs)).1 (accepted C) k) (structure-answers B w z d e bs A C h k) os qs a (ap (drop 1) m)
      (λ ps y i c n. answers-agree ds (add_basis B C.basis) y i ps qs c b n)
  answers-agree (functors d e bs ∷ ds) B w z (refused f ∷ os) (refused g ∷ qs) a b m = let τ = answers-agree ds B w z os qs a.1 b.1 (ap (drop 1) m) in λ i. ((τ i).0, (τ i).1, (τ i).2, None ∷ (τ i).3)
  answers-agree (functors d e bs ∷ ds) B w z (refused f ∷ os) (accepted C ∷ qs) a b m = let n : false ≡ true = ap (get_first false) m in absurd cc
  answers-agree (functors d e bs ∷ ds) B w z (accepted A ∷ os) (refused g ∷ qs) a b m = let n : true ≡ false = ap (get_first true) m in absurd cc
  answers-agree (functors d e bs ∷ ds) B w z (accepted A ∷ os) (accepted C ∷ qs) (h, a) (k, b) m =
      after-pair (functors d e bs) ds B w z (accepted (unjudged A)) (accepted (unjudged C)) (answer-added scope B (second (functors d e bs)).0 (second (functors d e bs)).1 (accepted C) k) (functor-answers B w z d e bs A C h k) os qs a (ap (drop 1) m)
      (λ ps y i c n. answers-agree ds (add_basis B C.basis) y i ps qs c b n)

pub seals-hide : {N : Type 0} (scope : Scope N) → SealsHide scope
seals-hide scope far B inside initials ds os qs a b m =
    let π = answers-agree scope far ds B inside initials os qs a b m in answers-alike scope B.names (all_shown ds os) (all_shown ds qs) (λ i. ((π i).0, (π i).1, (π i).2.names, (π i).3))
