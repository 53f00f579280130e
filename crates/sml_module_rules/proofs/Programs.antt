-- What declarations one after the other add to a basis, and answers along paths of names.
use Rattle.std.specs.Prelude.{◌≡◌, true, List, [], ◌∷◌, ◌++◌, map, Option, Some, None, is_some}
use mathlib.Core.Path.{refl, sym, ap, subst, ◌∙◌}
use mathlib.Core.Logic.{inl, inr}
use std.Path.{PathP, to_path_p}
use Rattle.sml_tree.specs.Structures.{TopDec}
use Rattle.sml_objects.specs.Alike.{Renaming}
use Rattle.sml_objects.specs.Appearance.{Stands}
use Rattle.sml_objects.specs.Names.{Initial}
use Rattle.sml_objects.proofs.Standing.{left, right}
use Rattle.sml_layers.specs.declared.variable.Variable.{Variable}
use Rattle.sml_rules.specs.Answers.{Answer, refused, accepted}
use Rattle.sml_rules.proofs.Sound.{accepted_same, not_refused}
use Rattle.sml_rules.proofs.Within.{both}
use Rattle.sml_rules.proofs.Worlds.{Named}
use Rattle.sml_core_rules.specs.Objects.{Basis, names_basis}
use Rattle.sml_core_rules.specs.Expressions.{at_first}
use Rattle.sml_core_rules.specs.States.{Scope}
use Rattle.sml_core_rules.proofs.Alike.{alike}
use Rattle.sml_core_rules.proofs.Along.{become-list}
use Rattle.sml_core_rules.proofs.Renaming.{basis-id}
use Rattle.sml_module_rules.specs.Structures.{Added, nothing, unjudged, and_bound, all_bound, besides, exported_functors, own_basis, parts, IsExported, IsAnswered, IsTopReading}
use Rattle.sml_module_rules.specs.Programs.{basis_after, AreReadings, Pair, first, shown, all_shown}
use Rattle.sml_module_rules.specs.Statements.{rename_added, rename_shown}
use Rattle.sml_module_rules.proofs.Agree.{basis-kept}
use Rattle.sml_module_rules.proofs.Grown.{every-stands, stands-every, IsWhole, whole-sum, covered}
use Rattle.sml_module_rules.proofs.Parts.{is_whole, unjudged_part, unjudged_parts, SameParts, PartsSettled, parts-agree}

-- an addition to a basis mentions names of the basis, or its own
abbrev IsCovered : {N : Type 0} → Basis N → Basis N → Type 0
IsCovered {N} B A = (n : N) → Stands n (names_basis A) → Stands n (A.names ++ B.names)

abbrev pub HasInitials : {N : Type 0} → Scope N → Basis N → Type 0
HasInitials scope B = (j : Initial) → Stands (scope.names.initial j) B.names

own-covered : {N : Type 0} (scope : Scope N) (B A : Basis N) → IsCovered B (own_basis scope B.names A)
own-covered {N} scope B A =
    let ms = names_basis (record (exported_functors scope B.names A) { names = [] }) in
    let Q : N → Type 0 = λ n. Stands n (besides scope B.names ms ++ B.names) in
    stands-every Q (besides scope B.names ms ++ ms)
    (both Q (besides scope B.names ms) ms (every-stands Q (besides scope B.names ms) (λ n h. left n (besides scope B.names ms) B.names h)) (every-stands Q ms (covered scope B.names ms)))

-- what all parts bind, or nothing

abbrev or_nothing : {P N : Type 0} → Option (Added P N) → Basis N
or_nothing None = nothing
or_nothing (Some A) = A.basis

abbrev pub bound_of : {P N : Type 0} → Answer P (List (Option (Added P N))) → Basis N
bound_of (refused f) = nothing
bound_of (accepted ms) = or_nothing (all_bound ms)

both-unjudged : {P N : Type 0} (m n : Option (Added P N)) → and_bound (unjudged_part m) (unjudged_part n) ≡ unjudged_part (and_bound m n)
both-unjudged None n = refl
both-unjudged (Some A) None = refl
both-unjudged (Some A) (Some C) = refl

all-unjudged : {P N : Type 0} (ms : List (Option (Added P N))) → all_bound (map unjudged_part ms) ≡ unjudged_part (all_bound ms)
all-unjudged [] = refl
all-unjudged (m ∷ ms) = ap (and_bound (unjudged_part m)) (all-unjudged ms) ∙ both-unjudged m (all_bound ms)

same-bound : {P N : Type 0} (m : Option (Added P N)) → or_nothing (unjudged_part m) ≡ or_nothing m
same-bound None = refl
same-bound (Some A) = refl

bound-unjudged : {P N : Type 0} (o : Answer P (List (Option (Added P N)))) → bound_of (unjudged_parts o) ≡ bound_of o
bound-unjudged (refused f) = refl
bound-unjudged (accepted ms) = ap or_nothing (all-unjudged ms) ∙ same-bound (all_bound ms)

module _ {P N : Type 0} (scope : Scope N) (B : Basis N) (p : P) where
  exported-own : (m : Option (Added P N)) (A : Added P N) → IsExported scope B p m (accepted A) → (is_some m ≡ true) × (A.basis ≡ own_basis scope B.names (or_nothing m))
  exported-own None A e = absurd (not_refused e)
  exported-own (Some C) A (inl (n, e)) = absurd (not_refused e)
  exported-own (Some C) A (inr (inl (y, n, e))) = absurd (not_refused e)
  exported-own (Some C) A (inr (inr (y, z, e))) = (refl, ap (λ A. A.basis) (accepted_same e))

  -- an accepted answer is what the parts bind
  pub answered-own : (ms : Answer P (List (Option (Added P N)))) (A : Added P N) → IsAnswered scope B p ms (accepted A) → (is_whole ms ≡ true) × (A.basis ≡ own_basis scope B.names (bound_of ms))
  answered-own (refused f) A e = absurd (not_refused e)
  answered-own (accepted ms) A e = exported-own (all_bound ms) A e

  exported-once : (m : Option (Added P N)) (o q : Answer P (Added P N)) → IsExported scope B p m o → IsExported scope B p m q → o ≡ q
  exported-once None o q a b = a ∙ sym b
  exported-once (Some C) o q (inl (n, a)) (inl (m, b)) = a ∙ sym b
  exported-once (Some C) o q (inl (n, a)) (inr (inl (y, m, b))) = absurd (n y)
  exported-once (Some C) o q (inl (n, a)) (inr (inr (y, z, b))) = absurd (n y)
  exported-once (Some C) o q (inr (inl (y, n, a))) (inl (m, b)) = absurd (m y)
  exported-once (Some C) o q (inr (inl (y, n, a))) (inr (inl (z, m, b))) = a ∙ sym b
  exported-once (Some C) o q (inr (inl (y, n, a))) (inr (inr (z, w, b))) = absurd (n w)
  exported-once (Some C) o q (inr (inr (y, z, a))) (inl (m, b)) = absurd (m y)
  exported-once (Some C) o q (inr (inr (y, z, a))) (inr (inl (w, m, b))) = absurd (m z)
  exported-once (Some C) o q (inr (inr (y, z, a))) (inr (inr (w, v, b))) = a ∙ sym b

  answered-once : (ms : Answer P (List (Option (Added P N)))) (o q : Answer P (Added P N)) → IsAnswered scope B p ms o → IsAnswered scope B p ms q → o ≡ q
  answered-once (refused f) o q a b = a ∙ sym b
  answered-once (accepted ms) o q a b = exported-once (all_bound ms) o q a b

-- what an answer adds to a basis
abbrev pub IsAddition : {P N : Type 0} → Basis N → Answer P (Added P N) → Type 0
IsAddition B (refused f) = Unit {0}
IsAddition B (accepted A) = IsCovered B A.basis

module _ {P N : Type 0} (scope : Scope N) where
  pub answer-added : (B : Basis N) (p : P) (d : TopDec P) (o : Answer P (Added P N)) → IsTopReading scope p B d o → IsAddition B o
  answer-added B p d (refused f) h = tt
  answer-added B p d (accepted A) (ms, a, e) = let own = answered-own scope B p ms A e in subst (IsCovered B) (sym own.1) (own-covered scope B (bound_of ms))

  pub after-whole : (B : Basis N) (o : Answer P (Added P N)) → IsWhole B → IsAddition B o → IsWhole (basis_after B o)
  after-whole B (refused f) w h = w
  after-whole B (accepted A) w h = whole-sum B A.basis w h

  pub after-all : (B : Basis N) (o : Answer P (Added P N)) (n : N) → Stands n B.names → Stands n (basis_after B o).names
  after-all B (refused f) n h = h
  after-all B (accepted A) n h = right n A.basis.names B.names h

  answer-kept : (B : Basis N) (o : Answer P (Added P N)) → IsAddition B o → (r : N ≡ N) → PathP (λ i. Scope (r i)) scope scope
      → PathP (λ i. List (r i)) (basis_after B o).names (basis_after B o).names → PathP (λ i. Answer P (Added P (r i))) o o
  answer-kept B (refused f) h r u l = λ i. refused f
  answer-kept B (accepted A) h r u l = let C = basis-kept scope r u (A.basis.names ++ B.names) l A.basis h in λ i. accepted (record { basis = C i; judged = A.judged })

  -- two answers, over the names of a basis; and two lists of answers, over the basis

  abbrev pub SameAnswer : Basis N → Answer P (Added P N) → Answer P (Added P N) → Type 1
  SameAnswer B o q = ◌≡◌ {A = (M : Type 0) × Scope M × List M × Answer P (Added P M)} (N, scope, B.names, o) (N, scope, B.names, q)

  abbrev pub SameAnswers : List (Pair P) → Basis N → List (Answer P (Added P N)) → List (Answer P (Added P N)) → Type 1
  SameAnswers ds B os qs = ◌≡◌ {A = (M : Type 0) × Scope M × Basis M × List (Option (Answer P (Added P M)))} (N, scope, B, all_shown ds os) (N, scope, B, all_shown ds qs)

  pub first-agrees : (d : Pair P) (ds : List (Pair P)) (B : Basis N) → IsWhole B → (o q : Answer P (Added P N)) → IsAddition B q → SameAnswer B o q
      → (os qs : List (Answer P (Added P N))) → AreReadings scope (basis_after B o) (map first ds) os
      → ((ps : List (Answer P (Added P N))) → AreReadings scope (basis_after B q) (map first ds) ps → map is_some (all_shown ds os) ≡ map is_some (all_shown ds ps)
      → SameAnswers ds (basis_after B q) ps qs)
      → SameAnswers (d ∷ ds) B (o ∷ os) (q ∷ qs)
  first-agrees d ds B w o q k ρ os qs a rest =
      let p : N ≡ N = λ i. (ρ i).0 in
      let u : PathP (λ i. Scope (p i)) scope scope = λ i. (ρ i).1 in
      let C = basis-kept scope p u B.names (λ i. (ρ i).2) B w in
      let ps : List (Answer P (Added P N)) = coe 0 1 (i. List (Answer P (Added P (p i)))) os in
      let c : AreReadings scope (basis_after B q) (map first ds) ps =
      coe 0 1 (i. AreReadings (u i) (basis_after (C i) (ρ i).3) (map first ds) (coe 0 i (j. List (Answer P (Added P (p j)))) os)) a in
      let D : Basis N = basis_after B q in
      let τ = rest ps c (λ i. map is_some (all_shown ds (coe 0 i (j. List (Answer P (Added P (p j)))) os))) in
      let p' : N ≡ N = λ i. (τ i).0 in
      let u' : PathP (λ i. Scope (p' i)) scope scope = λ i. (τ i).1 in
      let l : PathP (λ i. List (p' i)) D.names D.names = λ i. (τ i).2.names in
      let E = basis-kept scope p' u' D.names l B (λ n s. after-all B q n (w n s)) in
      let R = answer-kept B q k p' u' l in
      let x : SameAnswers (d ∷ ds) B (o ∷ os) (q ∷ ps) = λ i. (p i, u i, C i, shown d (ρ i).3 ∷ all_shown ds (coe 0 i (j. List (Answer P (Added P (p j)))) os)) in
      let y : SameAnswers (d ∷ ds) B (q ∷ ps) (q ∷ qs) = λ i. (p' i, u' i, E i, shown d (R i) ∷ (τ i).3) in x ∙ y

  top-settled : (far : (x : Variable) → ¬ ((scope.names.attributes (scope.variable x)).maker ≡ scope.unit)) (B : Basis N) → IsWhole B → HasInitials scope B → (d : TopDec P)
      → PartsSettled {P = P} scope far B.names (parts scope B d)
  top-settled far B w z d = record { scripts = λ p u v. let C = basis-kept scope p u B.names (become-list p B.names B.names v) B w in λ i. parts (u i) (C i) d; initials = z }

  -- two answers to one declaration
  pub one-agrees : (far : (x : Variable) → ¬ ((scope.names.attributes (scope.variable x)).maker ≡ scope.unit)) (B : Basis N) → IsWhole B → HasInitials scope B → (p : P) (d : TopDec P)
      → (o q : Answer P (Added P N)) → IsTopReading scope p B d o → IsTopReading scope p B d q → SameAnswer B o q
  one-agrees far B w z pl d o q (ms, a, e) (ns, b, f) =
      let π = parts-agree scope far (parts scope B d) B.names (top-settled far B w z d) ms ns a b in
      let p : N ≡ N = λ i. (π i).0 in
      let C = basis-kept scope p (λ i. (π i).1) B.names (λ i. (π i).2) B w in
      let moved : IsAnswered scope B pl ns (coe 0 1 (i. Answer P (Added P (p i))) o) =
      coe 0 1 (i. IsAnswered (π i).1 (C i) pl (π i).3 (coe 0 i (j. Answer P (Added P (p j))) o)) e in
      let same = to_path_p (λ i. Answer P (Added P (p i))) (answered-once scope B pl ns (coe 0 1 (i. Answer P (Added P (p i))) o) q moved f) in
      λ i. (p i, (π i).1, (π i).2, same i)

  -- an answer in which nothing is to be judged
  abbrev plainly : Basis N → Answer P (Added P N)
  plainly A = accepted (record { basis = A; judged = [] })

  -- two accepted answers, where the parts agree, but for what is to be judged
  pub accepted-agree : (B : Basis N) (p r : P) (ms ns : Answer P (List (Option (Added P N)))) → SameParts scope B.names (unjudged_parts ms) (unjudged_parts ns)
      → (A C : Added P N) → IsAnswered scope B p ms (accepted A) → IsAnswered scope B r ns (accepted C) → SameAnswer B (accepted (unjudged A)) (accepted (unjudged C))
  accepted-agree B p r ms ns π A C a b =
      let first = (answered-own scope B p ms A a).1 ∙ sym (ap (own_basis scope B.names) (bound-unjudged ms)) in
      let second = (answered-own scope B r ns C b).1 ∙ sym (ap (own_basis scope B.names) (bound-unjudged ns)) in
      let here : SameAnswer B (plainly (own_basis scope B.names (bound_of (unjudged_parts ms)))) (plainly (own_basis scope B.names (bound_of (unjudged_parts ns)))) =
      λ i. ((π i).0, (π i).1, (π i).2, accepted (record { basis = own_basis (π i).1 (π i).2 (bound_of (π i).3); judged = [] })) in
      subst (λ A. SameAnswer B (plainly A) (plainly C.basis)) (sym first)
      (subst (λ C. SameAnswer B (plainly (own_basis scope B.names (bound_of (unjudged_parts ms)))) (plainly C)) (sym second) here)

-- shown answers, over the names of a basis

abbrev pub Shown : Type 0 → Type 0 → Type 0
Shown P N = List (Option (Answer P (Added P N)))

pub added-id : {P N : Type 0} (o : Answer P (Added P N)) → rename_added (λ n. n) o ≡ o
added-id (refused f) = refl
added-id (accepted A) = λ i. accepted (record { basis = basis-id A.basis i; judged = A.judged })

one-shown-id : {P N : Type 0} (o : Option (Answer P (Added P N))) → rename_shown (λ n. n) o ≡ o
one-shown-id None = refl
one-shown-id (Some o) = λ i. Some (added-id o i)

pub shown-id : {P N : Type 0} (os : Shown P N) → map (rename_shown (λ n. n)) os ≡ os
shown-id [] = refl
shown-id (o ∷ os) = λ i. one-shown-id o i ∷ shown-id os i

shown_named : {P : Type 0} → Named (Shown P)
shown_named = record { rename = λ f os. map (rename_shown f) os; rename-id = shown-id }

-- a path between two lists of shown answers, as a renaming
pub answers-alike : {P N : Type 0} (scope : Scope N) (ns : List N) (os qs : Shown P N)
    → ◌≡◌ {A = (M : Type 0) × Scope M × List M × Shown P M} (N, scope, ns, os) (N, scope, ns, qs)
    → (f : Renaming scope.names) × ((n : N) → Stands n ns → f.to n ≡ n) × (qs ≡ map (rename_shown f.to) os)
unfolding shown_named
answers-alike {P} scope ns os qs π =
    let f =
    alike {P = P} {F = Shown P} shown_named scope ns (accepted (os, at_first [])) (accepted (qs, at_first [])) (λ i. ((π i).0, (π i).1, (π i).2, accepted ((π i).3, at_first []))) in
    (f.0, f.1, ap (λ q. q.0) (accepted_same f.2))
