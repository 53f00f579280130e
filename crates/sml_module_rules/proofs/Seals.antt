-- What stands behind `:>` can't be seen.
use Rattle.std.specs.Prelude.{◌≡◌, ℕ, true, false, List, [], ◌∷◌, map, Option, Some, None, is_some}
use mathlib.Core.Path.{refl, sym, ap, subst, ◌∙◌}
use mathlib.Core.Logic.{inl, inr}
use Rattle.sml_tree.specs.Names.{Name}
use Rattle.sml_tree.specs.Signatures.{SigExp}
use Rattle.sml_tree.specs.declared.structures.Ascription.TheVariants.{Opaque}
use Rattle.sml_objects.specs.Objects.{MlType, Outside, app, row, no_type}
use Rattle.sml_layers.specs.declared.variable.Variable.{Variable}
use Rattle.sml_rules.specs.Answers.{Answer, refused, accepted}
use Rattle.sml_rules.proofs.Sound.{accepted_same, not_refused}
use Rattle.sml_core_rules.specs.Objects.{Env, Sig, Basis, empty, replace, replace_structures}
use Rattle.sml_core_rules.specs.Expressions.{at_first}
use Rattle.sml_core_rules.specs.States.{Scope, State}
use Rattle.sml_core_rules.specs.Scripts.{Script, give, ◌>>=◌, IsAnswer}
use Rattle.sml_core_rules.proofs.Accepted.{given, bind-accepted, bind-joined, kept, kept-outside}
use Rattle.sml_core_rules.proofs.Agree.{Settled}
use Rattle.sml_core_rules.proofs.Along.{become-list}
use Rattle.sml_core_rules.proofs.Plain.{IsPlain, plain-bind, Fixed, agree-plain}
use Rattle.sml_module_rules.specs.Matching.{match_signature, renewed_signature, ascribe}
use Rattle.sml_module_rules.specs.Signatures.{read_sig}
use Rattle.sml_module_rules.specs.Structures.{Added, read_str, read_structure, structure_parts, of_body, one_structure, signature_place, basis_with_types, IsAlone, AreAlone}
use Rattle.sml_module_rules.specs.Programs.{Behind, SealedStructure, StructurePair, kept_structure, sealed_structure, sealed, structure_name, structure_body, structure_group}
use Rattle.sml_module_rules.proofs.Agree.{basis-kept}
use Rattle.sml_module_rules.proofs.Earlier.{Within, earlier}
use Rattle.sml_module_rules.proofs.Grown.{IsWhole}
use Rattle.sml_module_rules.proofs.Groups.{Among, AreAlike, same-unjudged, groups-agree}
use Rattle.sml_module_rules.proofs.Parts.{is_whole, unjudged_parts, SameMark, SameParts, part-agrees}
use Rattle.sml_module_rules.proofs.PlainSignatures.{plain-sig, plain-renewed}
use Rattle.sml_module_rules.proofs.Programs.{HasInitials}
use Rattle.sml_module_rules.proofs.Settled.{EachOf, EachInside, EachValue, HasNoUnknown, env-settled, realised-closed}

-- the signature with new names
abbrev pub fresh : {P N : Type 0} → Scope N → Basis N → Env N → SigExp P → Script P N (Sig N)
fresh scope B C s = read_sig scope B.signatures C s >>= renewed_signature scope

pub plain-fresh : (P : Type 0) {N : Type 0} (scope : Scope N) (B : Basis N) (C : Env N) (s : SigExp P) → IsPlain (fresh scope B C s)
plain-fresh P scope B C s = plain-bind _ _ (plain-sig scope B.signatures C s) (λ S. plain-renewed P scope S)

module _ {P N : Type 0} (scope : Scope N) where
  ended : {X : Type 0} (x : X) (s : State P N) (r : X × State P N) → IsAnswer scope (give x) s (accepted r) → r.1 ≡ s
  unfolding IsAnswer
  ended x s r h = ap (λ q. q.1) (accepted_same h)

  renewed-settled : (S : Sig N) (t : State P N) (r : Sig N × State P N) → IsAnswer scope (renewed_signature scope S) t (accepted r) → EachValue HasNoUnknown r.0.body
  unfolding IsAnswer ◌>>=◌
  renewed-settled S t r (ns, new, h) = subst (λ r. EachValue HasNoUnknown r.0.body) (sym (accepted_same h)) (realised-closed _ S.body)

  ascribed-opaque : (q : P) (S : Sig N) (E : Env N) (t : State P N) (r : Env N × State P N) → IsAnswer scope (ascribe scope q E Opaque S) t (accepted r)
      → (R : Sig N) × (z : State P N) × IsAnswer scope (renewed_signature scope S) t (accepted (R, z)) × (r.0 ≡ R.body) × EachValue HasNoUnknown R.body × Within z r.1
  ascribed-opaque q S E t r h =
      let m = bind-accepted scope (match_signature scope q E S) _ t r h in
      let n = bind-accepted scope (renewed_signature scope S) _ m.0.1 r m.2 in
      let e = earlier scope (renewed_signature scope S) (plain-renewed P scope S) t m.0.1 (kept-outside scope t m.0.1 (kept scope (match_signature scope q E S) t m.0 m.1)) n.0 n.1 in
      (n.0.0, e.0, e.1, given scope _ n.0.1 r n.2, renewed-settled S m.0.1 n.0 n.1, subst (Within e.0) (sym (ended n.0.0.body n.0.1 r n.2)) e.2)

  -- what stands behind `:>`, read in a state in which such names were made
  pub sealed-read : (B : Basis N) (C : Env N) (s : SigExp P) (old : List N) (e : Behind P) (t : State P N) → ((n : N) → Outside n t.names → Outside n old) → (u : Env N × State P N)
      → IsAnswer scope (read_str scope B C (sealed e s)) t (accepted u)
      → (w : State P N) × ((n : N) → Outside n w.names → Outside n old) × (R : Sig N × State P N) × IsAnswer scope (fresh scope B C s) w (accepted R) × (u.0 ≡ R.0.body)
      × EachValue HasNoUnknown R.0.body × Within R.1 u.1
  unfolding read_str
  sealed-read B C s old e t c u h =
      let b = bind-accepted scope (read_str scope B C e.body) _ t u h in
      let g = bind-accepted scope (read_sig scope B.signatures C s) _ b.0.1 u b.2 in
      let a = ascribed-opaque (signature_place s) g.0.0 b.0.0 g.0.1 u g.2 in
      let k = kept scope (read_str scope B C e.body) t b.0 b.1 in (
        b.0.1,
        (λ n o. c n (kept-outside scope t b.0.1 k n o)),
        (a.0, a.1),
        bind-joined scope (read_sig scope B.signatures C s) (renewed_signature scope) b.0.1 g.0 (accepted (a.0, a.1)) g.1 a.2,
        a.3,
        a.4,
        a.5,
      )

-- parts of answers

abbrev basis_or : {P N : Type 0} → Basis N → Option (Added P N) → Basis N
basis_or A None = A
basis_or A (Some C) = C.basis

-- a basis in which nothing is to be judged
abbrev pub added : {P N : Type 0} → Basis N → Added P N
added A = record { basis = A; judged = [] }

abbrev pub body_or_none : {P N : Type 0} → Answer P (Sig N) → Env N
body_or_none (refused f) = empty
body_or_none (accepted R) = R.body

module _ {P N : Type 0} (scope : Scope N) where
  -- an accepted answer to a part, all types of which are determined, and which is closed
  pub alone-accepted : (k : Script P N (Basis N)) (ns : List N) (A : Added P N) → IsAlone scope ns k (accepted (Some A))
      → (r : Basis N × State P N) × IsAnswer scope k (at_first ns) (accepted r) × ((C : Basis N) → ((σ : ℕ → MlType N) → basis_with_types σ r.0 ≡ C) → A.basis ≡ C)
  alone-accepted k ns A (refused f, a, e) = absurd (not_refused e)
  alone-accepted k ns A (accepted r, a, inl (C, d, e)) =
      let m = (kept scope k (at_first ns) r a).met ((λ v. app (row []) no_type), tt) in
      (r, a, (λ D f. ap (basis_or A.basis) (accepted_same e) ∙ (sym (d m.0 m.1) ∙ f m.0)))
  alone-accepted k ns A (accepted r, a, inr (n, e)) = let f : true ≡ false = ap (λ m. is_some m) (accepted_same e) in absurd cc

module _ {P N : Type 0} (scope : Scope N) (B : Basis N) where
  -- a sealed structure is what its signature with new names gives
  structure-read : (x : Name P) (s : SigExp P) (e : Behind P) (ns : List N) (A : Added P N) → IsAlone scope ns (read_structure scope B x (sealed e s)) (accepted (Some A))
      → (w : State P N) × ((n : N) → Outside n w.names → Outside n ns) × (R : Sig N × State P N) × IsAnswer scope (fresh scope B B.body s) w (accepted R)
      × (A.basis ≡ of_body (one_structure x.id R.0.body))
  unfolding EachValue EachInside EachOf replace replace_structures
  structure-read x s e ns A h =
      let a = alone-accepted scope (read_structure scope B x (sealed e s)) ns A h in
      let b = bind-accepted scope (read_str scope B B.body (sealed e s)) _ (at_first ns) a.0 a.1 in
      let g = sealed-read scope B B.body s ns e (at_first ns) (λ n o. o) b.0 b.1 in
      let same : a.0.0 ≡ of_body (one_structure x.id g.2.0.body) = given scope _ b.0.1 a.0 b.2 ∙ ap (λ E. of_body (one_structure x.id E)) g.4 in
      let closed : (σ : ℕ → MlType N) → basis_with_types σ a.0.0 ≡ of_body (one_structure x.id g.2.0.body) =
      λ σ. ap (basis_with_types σ) same ∙ ap (λ E. of_body (one_structure x.id E)) (env-settled σ g.2.0.body g.5) in
      (g.0, g.1, g.2, g.3, a.2 (of_body (one_structure x.id g.2.0.body)) closed)

module _ {P N : Type 0} (scope : Scope N) (far : (x : Variable) → ¬ ((scope.names.attributes (scope.variable x)).maker ≡ scope.unit)) (B : Basis N) (whole : IsWhole B)
    (initials : HasInitials scope B) where
  sealed-alike : (x : Name P) (s : SigExp P) (e f : Behind P) → AreAlike {P = P} scope far B.names (read_structure scope B x (sealed e s)) (read_structure scope B x (sealed f s))
  sealed-alike x s e f ns inside A C h k =
      let a = structure-read scope B x s e ns A h in
      let b = structure-read scope B x s f ns C k in
      let π = agree-plain Sig scope far (fresh scope B B.body s) (plain-fresh P scope B B.body s) ns fixed a.0 b.0 a.1 b.1 (accepted a.2) (accepted b.2) a.3 b.3 in
      let here : SameMark {P = P} scope ns (accepted (Some (added (of_body (one_structure x.id a.2.0.body))))) (accepted (Some (added (of_body (one_structure x.id b.2.0.body))))) =
      λ i. ((π i).0, (π i).1, (π i).2, accepted (Some (added (of_body (one_structure x.id (body_or_none (π i).3)))))) in
      subst (λ A. SameMark {P = P} scope ns (accepted (Some (added A))) (accepted (Some (added C.basis)))) (sym a.4)
      (subst (λ C. SameMark {P = P} scope ns (accepted (Some (added (of_body (one_structure x.id a.2.0.body))))) (accepted (Some (added C)))) (sym b.4) here)
    where
      fixed : Fixed Sig scope far ns (fresh scope B B.body s)
      fixed = record {
        script = λ r u v. let C = basis-kept scope r u ns (become-list r ns ns v) B (λ n m. inside n (whole n m)) in λ i. fresh (u i) (C i) (C i).body s;
        initials = λ j. inside (scope.names.initial j) (initials j);
      }

  structure_part : (SealedStructure P → Behind P) → StructurePair P → Script P N (Basis N)
  structure_part side b = read_structure scope B (structure_name b) (structure_body side b)

  structures-alike : (b : StructurePair P) → AreAlike {P = P} scope far B.names (structure_part (λ b. b.first) b) (structure_part (λ b. b.second) b)
  unfolding structure_part
  structures-alike (sealed_structure b) = sealed-alike b.name b.signature b.first b.second
  structures-alike (kept_structure x e) = λ ns inside A C h k.
      same-unjudged scope far ns (accepted (Some A)) (accepted (Some C)) (part-agrees {P = P} scope far (read_structure scope B x e) ns (settled ns inside) (accepted (Some A)) (accepted (Some C)) h k)
    where
      settled : (ns : List N) → Among B.names ns → Settled {P = P} Basis scope far (read_structure scope B x e) (at_first ns)
      settled ns inside = record {
        script = λ r u v. let C = basis-kept scope r u ns (become-list r ns ns v) B (λ n m. inside n (whole n m)) in λ i. read_structure (u i) (C i) x e;
        state = λ r u v. let l = become-list r ns ns v in λ i. at_first (l i);
        initials = λ j. inside (scope.names.initial j) (initials j);
        met = ((λ v. app (row []) no_type), tt);
      }

  group-parts : (side : SealedStructure P → Behind P) (bs : List (StructurePair P)) → structure_parts scope B (structure_group side bs) ≡ map (structure_part side) bs
  unfolding structure_part
  group-parts side [] = refl
  group-parts side (b ∷ bs) = ap (λ ks. structure_part side b ∷ ks) (group-parts side bs)

  pub structures-agree : (bs : List (StructurePair P)) (o q : Answer P (List (Option (Added P N)))) → AreAlone scope B.names (structure_parts scope B (structure_group (λ b. b.first) bs)) o
      → AreAlone scope B.names (structure_parts scope B (structure_group (λ b. b.second) bs)) q → is_whole o ≡ true → is_whole q ≡ true → SameParts scope B.names (unjudged_parts o) (unjudged_parts q)
  unfolding structure_part
  structures-agree bs o q a b w z =
      groups-agree scope far (structure_part (λ b. b.first)) (structure_part (λ b. b.second)) B.names initials
      (λ r u v. let C = basis-kept scope r u B.names (become-list r B.names B.names v) B whole in λ i b. read_structure (u i) (C i) (structure_name b) (structure_body (λ b. b.first) b))
      structures-alike bs B.names (λ n s. s) o q (subst (λ ks. AreAlone scope B.names ks o) (group-parts (λ b. b.first) bs) a)
      (subst (λ ks. AreAlone scope B.names ks q) (group-parts (λ b. b.second) bs) b) w z
