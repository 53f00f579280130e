-- Projects that differ behind seals alone are answered the same elsewhere.
use Rattle.std.specs.Prelude.{◌≡◌, List, [], ◌∷◌, ◌++◌, Option, Some, None, map, drop, is_some}
use Rattle.std.specs.List.{AllByRecursion}
use mathlib.Core.Path.{refl, sym, ap, subst, ◌∙◌}
use std.Path.{PathP}
use Rattle.sml_lex.specs.declared.fault.Place.{Place}
use Rattle.sml_objects.specs.Appearance.{Stands}
use Rattle.sml_objects.specs.Names.{Initial, int}
use Rattle.sml_objects.proofs.Standing.{right}
use Rattle.sml_layers.specs.declared.variable.Variable.{Variable}
use Rattle.sml_rules.specs.Answers.{Answer, refused, accepted}
use Rattle.sml_rules.proofs.Sound.{accepted_same}
use Rattle.sml_rules.proofs.Worlds.{Named}
use Rattle.sml_core_rules.specs.Objects.{Basis}
use Rattle.sml_core_rules.specs.Expressions.{at_first}
use Rattle.sml_core_rules.specs.States.{Scope}
use Rattle.sml_core_rules.proofs.Alike.{alike}
use Rattle.sml_core_rules.proofs.Along.{become-list, become-known}
use Rattle.sml_module_rules.specs.Structures.{Added, nothing}
use Rattle.sml_module_rules.specs.Programs.{first, second, all_shown}
use Rattle.sml_module_rules.specs.Projects.{UnitPair, Exports, exported, beginning, and_unit, in_unit, AreRuns, first_unit, second_unit, units_shown}
use Rattle.sml_module_rules.specs.Statements.{ProjectsHide, rename_shown}
use Rattle.sml_module_rules.proofs.Agree.{basis-kept}
use Rattle.sml_module_rules.proofs.Programs.{Shown, SameAnswers, shown-id}
use Rattle.sml_module_rules.proofs.Isolation.{answers-agree}
use Rattle.sml_module_rules.proofs.UnitNames.{Mentions, EachMentions, nothing-mentions, more-mention, and-mentions, beginning-whole, ShownMention, after_shown, exported-shown, shown-mention}

-- a path that leaves these names leaves what mentions no other
module _ {N : Type 0} (scope : Scope N) (p : N ≡ N) (u : PathP (λ i. Scope (p i)) scope scope) (ns : List N) (l : PathP (λ i. List (p i)) ns ns) where
  bases-kept : (us : List (Basis N)) → EachMentions us ns → PathP (λ i. List (Basis (p i))) us us
  unfolding EachMentions
  bases-kept [] h = λ i. []
  bases-kept (A ∷ us) h =
      let C = basis-kept scope p u ns l A h.0 in
      let rest = bases-kept us h.1 in λ i. C i ∷ rest i

  exports-kept : (E : Exports N) → ((n : N) → Stands n E.names → Stands n ns) → EachMentions E.units ns → PathP (λ i. Exports (p i)) E E
  exports-kept E h e =
      let m = become-list p E.names E.names (become-known p (scope.names.initial int) (scope.names.initial int) (λ i. (u i).names.initial int) ns l E.names h) in
      let us = bases-kept E.units e in λ i. record { names = m i; units = us i }

  shown-kept : {P : Type 0} (os : List (Option (Answer P (Added P N)))) → ShownMention os ns → PathP (λ i. List (Option (Answer P (Added P (p i))))) os os
  unfolding ShownMention
  shown-kept [] h = λ i. []
  shown-kept (None ∷ os) h = let rest = shown-kept os h in λ i. None ∷ rest i
  shown-kept (Some (refused f) ∷ os) h = let rest = shown-kept os h in λ i. Some (refused f) ∷ rest i
  shown-kept (Some (accepted A) ∷ os) h =
      let C = basis-kept scope p u ns l A.basis h.0 in
      let rest = shown-kept os h.1 in λ i. Some (accepted (record { basis = C i; judged = A.judged })) ∷ rest i

abbrev first_list : {A : Type 0} → List (List A) → List A
first_list [] = []
first_list (x ∷ xs) = x

-- shown answers to units
abbrev UnitsShown : Type 0 → Type 0 → Type 0
UnitsShown P N = List (Shown P N)

module _ {P N : Type 0} (scope : Scope N) where
  -- explicit variables, whose names none of these units makes
  abbrev AreFar : List (UnitPair P) → Type 0
  AreFar us = AllByRecursion (λ u. (x : Variable) → ¬ ((scope.names.attributes (scope.variable x)).maker ≡ u.number)) us

  abbrev SameRuns : List (UnitPair P) → Basis N → Exports N → List (List (Answer P (Added P N))) → List (List (Answer P (Added P N))) → Type 1
  SameRuns us I E oss qss =
      ◌≡◌ {A = (M : Type 0) × Scope M × Basis M × Exports M × UnitsShown P M} (N, scope, I, E, units_shown us oss) (N, scope, I, E, units_shown us qss)

  abbrev AreBothRuns : List (UnitPair P) → List (List (Answer P (Added P N))) → List (List (Answer P (Added P N))) → Type 0
  AreBothRuns us oss qss = map (map is_some) (units_shown us oss) ≡ map (map is_some) (units_shown us qss)

  runs-agree : (us : List (UnitPair P)) → AreFar us → (I : Basis N) (E : Exports N) → Mentions I E.names → EachMentions E.units E.names → ((j : Initial) → Stands (scope.names.initial j) E.names)
      → (oss qss : List (List (Answer P (Added P N)))) → AreRuns scope I E (map first_unit us) oss → AreRuns scope I E (map second_unit us) qss → AreBothRuns us oss qss
      → SameRuns us I E oss qss
  unfolding AreRuns
  runs-agree [] far I E h e z [] [] a b m = λ i. (N, scope, I, E, [])
  runs-agree [] far I E h e z [] (qs ∷ qss) a b m = absurd b
  runs-agree [] far I E h e z (os ∷ oss) qss a b m = absurd a
  runs-agree (u ∷ us) far I E h e z [] qss a b m = absurd a
  runs-agree (u ∷ us) far I E h e z (os ∷ oss) [] a b m = absurd b
  runs-agree (u ∷ us) far I E h e z (os ∷ oss) (qs ∷ qss) (a, later) (b, others) m =
      let B : Basis N = beginning I E u.needs in
      let here : Scope N = in_unit u.number scope in
      let whole = beginning-whole I E u.needs h e in
      let σ : SameAnswers here u.pairs B os qs = answers-agree here far.0 u.pairs B whole z os qs a b (ap first_list m) in
      let p : N ≡ N = λ i. (σ i).0 in
      let v : PathP (λ i. Scope (p i)) scope scope = λ i. record (σ i).1 { unit = scope.unit } in
      let l : PathP (λ i. List (p i)) E.names E.names = λ i. (σ i).2.names in
      let C = basis-kept scope p v E.names l I h in
      let D = exports-kept scope p v E.names l E (λ n s. s) e in
      let moved : AreRuns scope I (and_unit E (after_shown nothing (all_shown u.pairs os))) (map first_unit us) oss =
      subst (λ A. AreRuns scope I (and_unit E A) (map first_unit us) oss) (sym (exported-shown here first u.pairs B nothing os a)) later in
      let ps : List (List (Answer P (Added P N))) = coe 0 1 (i. List (List (Answer P (Added P (p i))))) oss in
      let cs : AreRuns scope I (and_unit E (after_shown nothing (all_shown u.pairs qs))) (map first_unit us) ps =
      coe 0 1 (i. AreRuns (v i) (C i) (and_unit (D i) (after_shown nothing (σ i).3)) (map first_unit us) (coe 0 i (j. List (List (Answer P (Added P (p j))))) oss)) moved in
      let cs' = subst (λ A. AreRuns scope I (and_unit E A) (map first_unit us) ps) (exported-shown here second u.pairs B nothing qs b) cs in
      let r = shown-mention here second E.names u.pairs B nothing whole (nothing-mentions E.names) (λ n s. s) qs b in
      let all : List N = (exported qs).names ++ E.names in
      let grow : (n : N) → Stands n E.names → Stands n all = λ n s. right n (exported qs).names E.names s in
      let more = more-mention E.units E.names all grow e in
      let both : AreBothRuns us ps qss = sym (λ i. map (map is_some) (units_shown us (coe 0 i (j. List (List (Answer P (Added P (p j))))) oss))) ∙ ap (drop 1) m in
      let τ = runs-agree us far.1 I (and_unit E (exported qs)) (λ n s. grow n (h n s)) (and-mentions E.units (exported qs) all more r.0) (λ j. grow (scope.names.initial j) (z j)) ps qss cs' others both in
      let p' : N ≡ N = λ i. (τ i).0 in
      let v' : PathP (λ i. Scope (p' i)) scope scope = λ i. (τ i).1 in
      let l' : PathP (λ i. List (p' i)) all all = λ i. (τ i).3.names in
      let C' = basis-kept scope p' v' all l' I (λ n s. grow n (h n s)) in
      let D' = exports-kept scope p' v' all l' E grow more in
      let R = shown-kept scope p' v' all l' (all_shown u.pairs qs) r.1 in
      let x : SameRuns (u ∷ us) I E (os ∷ oss) (qs ∷ ps) = λ i. (p i, v i, C i, D i, (σ i).3 ∷ units_shown us (coe 0 i (j. List (List (Answer P (Added P (p j))))) oss)) in
      let y : SameRuns (u ∷ us) I E (qs ∷ ps) (qs ∷ qss) = λ i. (p' i, v' i, C' i, D' i, R i ∷ (τ i).4) in x ∙ y

units-shown-id : {P N : Type 0} (oss : UnitsShown P N) → map (map (rename_shown (λ n. n))) oss ≡ oss
units-shown-id [] = refl
units-shown-id (os ∷ oss) = λ i. shown-id os i ∷ units-shown-id oss i

units_shown_named : {P : Type 0} → Named (UnitsShown P)
units_shown_named = record { rename = λ f oss. map (map (rename_shown f)) oss; rename-id = units-shown-id }

pub projects-hide : {N : Type 0} (scope : Scope N) → ProjectsHide scope
unfolding EachMentions units_shown_named
projects-hide {N} scope us far B inside initials oss qss a b m =
    let π = runs-agree scope us far B (record { names = B.names; units = [] }) inside tt initials oss qss a b m in
    let f =
    alike {P = Place} {F = UnitsShown Place} units_shown_named scope B.names (accepted (units_shown us oss, at_first [])) (accepted (units_shown us qss, at_first []))
    (λ i. ((π i).0, (π i).1, (π i).3.names, accepted ((π i).4, at_first []))) in
    (f.0, f.1, ap (λ q. q.0) (accepted_same f.2))
