-- Two groups of bindings of which some are the same in both and the others alike.
use Rattle.std.specs.Prelude.{◌≡◌, true, false, List, [], ◌∷◌, ◌++◌, map, Option, Some, None}
use mathlib.Core.Path.{refl, sym, ap, subst, ◌∙◌}
use mathlib.Core.Logic.{inl, inr}
use std.Path.{PathP}
use Rattle.sml_objects.specs.Appearance.{Stands}
use Rattle.sml_objects.specs.Names.{Initial}
use Rattle.sml_objects.proofs.Standing.{right}
use Rattle.sml_layers.specs.declared.variable.Variable.{Variable}
use Rattle.sml_rules.specs.Answers.{Answer, refused, accepted}
use Rattle.sml_core_rules.specs.Objects.{Basis, names_basis}
use Rattle.sml_core_rules.specs.States.{Scope}
use Rattle.sml_core_rules.specs.Scripts.{Script}
use Rattle.sml_core_rules.proofs.Along.{Become, become-list}
use Rattle.sml_module_rules.specs.Structures.{Added, unjudged, and_part, IsAlone, AreAlone}
use Rattle.sml_module_rules.proofs.Parts.{is_whole, unjudged_part, unjudged_mark, unjudged_parts, whole-parts, SameMark, SameParts, leaves-others, PartsSettled, carry, behind}

-- the first names are among the others
abbrev pub Among : {N : Type 0} → List N → List N → Type 0
Among {N} old ns = (n : N) → Stands n old → Stands n ns

module _ {P N : Type 0} (scope : Scope N) (far : (x : Variable) → ¬ ((scope.names.attributes (scope.variable x)).maker ≡ scope.unit)) where
  -- two parts whose accepted answers agree, but for what is to be judged in them, after names among which the old ones are
  abbrev pub AreAlike : List N → Script P N (Basis N) → Script P N (Basis N) → Type 1
  AreAlike old k j =
      (ns : List N) → Among old ns → (A C : Added P N) → IsAlone scope ns k (accepted (Some A)) → IsAlone scope ns j (accepted (Some C))
      → SameMark {P = P} scope ns (accepted (Some (unjudged A))) (accepted (Some (unjudged C)))

  pub same-unjudged : (ns : List N) (o q : Answer P (Option (Added P N))) → SameMark {P = P} scope ns o q → SameMark {P = P} scope ns (unjudged_mark o) (unjudged_mark q)
  same-unjudged ns o q ρ = λ i. ((ρ i).0, (ρ i).1, (ρ i).2, unjudged_mark (ρ i).3)

  first-unjudged : (m : Option (Added P N)) (o : Answer P (List (Option (Added P N)))) → unjudged_parts (and_part m o) ≡ and_part (unjudged_part m) (unjudged_parts o)
  first-unjudged m (refused f) = refl
  first-unjudged m (accepted ms) = refl

  same-parts : (ns : List N) (o q : Answer P (List (Option (Added P N)))) → o ≡ q → SameParts {P = P} scope ns o q
  same-parts ns o q e = λ i. (N, scope, ns, e i)

  module _ {X : Type 0} (k j : X → Script P N (Basis N)) (old : List N) (initials : (i : Initial) → Stands (scope.names.initial i) old)
      (along : (p : N ≡ N) → PathP (λ i. Scope (p i)) scope scope → Become p old old → PathP (λ i. X → Script P (p i) (Basis (p i))) k k)
      (alike : (b : X) → AreAlike old (k b) (j b)) where
    group-settled : (bs : List X) (ns : List N) → Among old ns → PartsSettled {P = P} scope far ns (map k bs)
    group-settled bs ns inside = record {
      scripts = λ p u v. let K = along p u (leaves-others scope p u ns (become-list p ns ns v) old inside) in λ i. map (K i) bs;
      initials = λ i. inside (scope.names.initial i) (initials i);
    }

    -- where all parts are accepted in both, and no type is open
    pub groups-agree : (bs : List X) (ns : List N) → Among old ns → (o q : Answer P (List (Option (Added P N)))) → AreAlone scope ns (map k bs) o → AreAlone scope ns (map j bs) q
        → is_whole o ≡ true → is_whole q ≡ true → SameParts scope ns (unjudged_parts o) (unjudged_parts q)
    unfolding AreAlone
    groups-agree [] ns inside o q a b w z = λ i. (N, scope, ns, unjudged_parts ((a ∙ sym b) i))
    groups-agree (x ∷ bs) ns inside o q (inl (f, a, d)) b w z = let e : false ≡ true = sym (ap is_whole d) ∙ w in absurd cc
    groups-agree (x ∷ bs) ns inside o q (inr a) (inl (g, b, e)) w z = let e : false ≡ true = sym (ap is_whole e) ∙ z in absurd cc
    groups-agree (x ∷ bs) ns inside o q (inr (None, a, os, c, d)) b w z = let n : false ≡ true = (whole-parts None os (sym (ap is_whole d) ∙ w)).0 in absurd cc
    groups-agree (x ∷ bs) ns inside o q (inr (Some A, a, os, c, d)) (inr (None, b, qs, y, e)) w z = let n : false ≡ true = (whole-parts None qs (sym (ap is_whole e) ∙ z)).0 in absurd cc
    groups-agree (h ∷ bs) ns inside o q (inr (Some A, a, os, c, d)) (inr (Some C, b, qs, later, e)) w z =
        let ρ = alike h ns inside A C a b in
        let r = carry scope far (Some (unjudged A)) (Some (unjudged C)) ns ρ (map k bs) (group-settled bs ns inside) os c in
        let whole = sym r.3 ∙ (whole-parts (Some A) os (sym (ap is_whole d) ∙ w)).1 in
        let τ =
        groups-agree bs (names_basis C.basis ++ ns) (λ n s. right n (names_basis C.basis) ns (inside n s)) r.0 qs r.1 later whole (whole-parts (Some C) qs (sym (ap is_whole e) ∙ z)).1 in
        let x = same-parts ns _ _ (first-unjudged (Some A) os ∙ sym (first-unjudged (Some (unjudged A)) os)) in
        let y : SameParts {P = P} scope ns (unjudged_parts (and_part (Some (unjudged A)) os)) (unjudged_parts (and_part (Some (unjudged C)) r.0)) =
        λ i. ((r.2 i).0, (r.2 i).1, (r.2 i).2, unjudged_parts (r.2 i).3) in
        let g = same-parts ns _ _ (first-unjudged (Some (unjudged C)) r.0) in
        let v = same-parts ns _ _ (sym (first-unjudged (Some C) qs)) in
        let here : SameParts scope ns (unjudged_parts (and_part (Some A) os)) (unjudged_parts (and_part (Some C) qs)) =
        x ∙ (y ∙ (g ∙ (behind scope far (Some (unjudged C)) ns (unjudged_parts r.0) (unjudged_parts qs) τ ∙ v))) in
        subst (λ o. SameParts scope ns (unjudged_parts o) (unjudged_parts q)) (sym d)
        (subst (λ q. SameParts scope ns (unjudged_parts (and_part (Some A) os)) (unjudged_parts q)) (sym e) here)
