-- Parts of declarations that are read alone: any two answers to them differ in the names that were made.
use Rattle.std.specs.Prelude.{◌≡◌, Bool, true, false, List, [], ◌∷◌, ◌++◌, map, Option, Some, None, is_some}
use mathlib.Core.Path.{refl, sym, subst, ◌∙◌}
use mathlib.Core.Logic.{inl, inr}
use std.Path.{PathP, to_path_p}
use Rattle.sml_objects.specs.Appearance.{Stands}
use Rattle.sml_objects.specs.Names.{Initial, int}
use Rattle.sml_objects.specs.Objects.{app, row, no_type}
use Rattle.sml_objects.proofs.Standing.{right}
use Rattle.sml_layers.specs.declared.layer.Layer.TheVariants.{Rigidity}
use Rattle.sml_layers.specs.declared.variable.Variable.{Variable}
use Rattle.sml_layers.specs.Demands.{CanBeMet}
use Rattle.sml_rules.specs.Answers.{Answer, refused, accepted}
use Rattle.sml_core_rules.specs.Objects.{Basis, names_basis}
use Rattle.sml_core_rules.specs.Expressions.{at_first}
use Rattle.sml_core_rules.specs.States.{Scope, State, words}
use Rattle.sml_core_rules.specs.Scripts.{Script, give, IsAnswer}
use Rattle.sml_core_rules.proofs.Accepted.{kept}
use Rattle.sml_core_rules.proofs.Agree.{Settled, Same, agree}
use Rattle.sml_core_rules.proofs.Along.{Become, become-list, become-left, become-right, become-known}
use Rattle.sml_module_rules.specs.Structures.{Added, nothing, unjudged, names_part, and_part, and_bound, all_bound, IsDetermined, IsMarked, IsAlone, AreAlone}
use Rattle.sml_module_rules.proofs.Agree.{basis-along}

-- parts of answers

abbrev is_accepted : {P X : Type 0} → Answer P X → Bool
is_accepted (refused f) = false
is_accepted (accepted x) = true

-- the fault, or another answer
abbrev fault_or : {P X Y : Type 0} → Answer P X → Answer P Y → Answer P Y
fault_or (refused f) o = refused f
fault_or (accepted x) o = o

abbrev basis_of : {P N : Type 0} → Answer P (Basis N × State P N) → Basis N
basis_of (refused f) = nothing
basis_of (accepted r) = r.0

abbrev state_of : {P N : Type 0} → Answer P (Basis N × State P N) → State P N
state_of (refused f) = at_first []
state_of (accepted r) = r.1

abbrev mark_of : {P N : Type 0} → Answer P (Option (Added P N)) → Option (Added P N)
mark_of (refused f) = None
mark_of (accepted m) = m

abbrev first_script : {P N : Type 0} → List (Script P N (Basis N)) → Script P N (Basis N)
first_script [] = give nothing
first_script (k ∷ ks) = k

abbrev other_scripts : {P N : Type 0} → List (Script P N (Basis N)) → List (Script P N (Basis N))
other_scripts [] = []
other_scripts (k ∷ ks) = ks

-- all parts were accepted, and have no open type
abbrev pub is_whole : {P N : Type 0} → Answer P (List (Option (Added P N))) → Bool
is_whole (refused f) = false
is_whole (accepted ms) = is_some (all_bound ms)

both-bound : {P N : Type 0} (m n : Option (Added P N)) → is_some (and_bound m n) ≡ true → (is_some m ≡ true) × (is_some n ≡ true)
both-bound None n e = let f : false ≡ true = e in absurd cc
both-bound (Some A) None e = let f : false ≡ true = e in absurd cc
both-bound (Some A) (Some C) e = (refl, refl)

pub whole-parts : {P N : Type 0} (m : Option (Added P N)) (o : Answer P (List (Option (Added P N)))) → is_whole (and_part m o) ≡ true → (is_some m ≡ true) × (is_whole o ≡ true)
whole-parts m (refused f) e = let f : false ≡ true = e in absurd cc
whole-parts m (accepted ms) e = both-bound m (all_bound ms) e

-- answers to parts without what is to be judged

abbrev pub unjudged_part : {P N : Type 0} → Option (Added P N) → Option (Added P N)
unjudged_part None = None
unjudged_part (Some A) = Some (unjudged A)

abbrev pub unjudged_mark : {P N : Type 0} → Answer P (Option (Added P N)) → Answer P (Option (Added P N))
unjudged_mark (refused f) = refused f
unjudged_mark (accepted m) = accepted (unjudged_part m)

abbrev pub unjudged_parts : {P N : Type 0} → Answer P (List (Option (Added P N))) → Answer P (List (Option (Added P N)))
unjudged_parts (refused f) = refused f
unjudged_parts (accepted ms) = accepted (map unjudged_part ms)

-- a path that leaves these names leaves others that are among them
pub leaves-others : {N : Type 0} (scope : Scope N) (p : N ≡ N) → PathP (λ i. Scope (p i)) scope scope → (ns : List N) → PathP (λ i. List (p i)) ns ns → (ms : List N)
    → ((n : N) → Stands n ms → Stands n ns) → Become p ms ms
leaves-others scope p u ns l ms h = become-known p (scope.names.initial int) (scope.names.initial int) (λ i. (u i).names.initial int) ns l ms h

mark-kept : {P N : Type 0} (m : Option (Added P N)) (ns : List N) (p : N ≡ N) → Become p (names_part m ++ ns) (names_part m ++ ns) → PathP (λ i. Option (Added P (p i))) m m
mark-kept None ns p v = λ i. None
mark-kept (Some A) ns p v = let C = basis-along p A.basis (become-left p (names_basis A.basis) ns v) in λ i. Some (record { basis = C i; judged = A.judged })

module _ {P N : Type 0} (scope : Scope N) where
  abbrev pub SameMark : List N → Answer P (Option (Added P N)) → Answer P (Option (Added P N)) → Type 1
  SameMark ns o q = ◌≡◌ {A = (M : Type 0) × Scope M × List M × Answer P (Option (Added P M))} (N, scope, ns, o) (N, scope, ns, q)

  abbrev pub SameParts : List N → Answer P (List (Option (Added P N))) → Answer P (List (Option (Added P N))) → Type 1
  SameParts ns o q = ◌≡◌ {A = (M : Type 0) × Scope M × List M × Answer P (List (Option (Added P M)))} (N, scope, ns, o) (N, scope, ns, q)

  -- the demands of an accepted answer can be met
  abbrev IsMet : Answer P (Basis N × State P N) → Type 0
  IsMet (refused f) = Unit {0}
  IsMet (accepted r) = CanBeMet (words scope) Rigidity r.1.demands

  met-at-first : (k : Script P N (Basis N)) (ns : List N) (r : Answer P (Basis N × State P N)) → IsAnswer scope k (at_first ns) r → IsMet r
  met-at-first k ns (refused f) h = tt
  met-at-first k ns (accepted r) h = (kept scope k (at_first ns) r h).met ((λ v. app (row []) no_type), tt)

  determined-once : (s : State P N) (A C D : Basis N) → CanBeMet (words scope) Rigidity s.demands → IsDetermined scope s A C → IsDetermined scope s A D → C ≡ D
  determined-once s A C D m a b = sym (a m.0 m.1) ∙ b m.0 m.1

  module _ (far : (x : Variable) → ¬ ((scope.names.attributes (scope.variable x)).maker ≡ scope.unit)) where
    marks-same : (ns : List N) (r t : Answer P (Basis N × State P N)) → Same Basis scope far ns r t → IsMet r → IsMet t → (o q : Answer P (Option (Added P N))) → IsMarked scope r o → IsMarked scope t q
        → SameMark ns o q
    marks-same ns (refused f) (refused g) ρ m n o q a b =
        let here : SameMark ns (refused f) (refused g) = λ i. ((ρ i).0, (ρ i).1, (ρ i).2, fault_or (ρ i).3 (accepted None)) in
        subst (λ o. SameMark ns o q) (sym a) (subst (SameMark ns (refused f)) (sym b) here)
    marks-same ns (refused f) (accepted t) ρ m n o q a b = let e : false ≡ true = λ i. is_accepted (ρ i).3 in absurd cc
    marks-same ns (accepted r) (refused g) ρ m n o q a b = let e : true ≡ false = λ i. is_accepted (ρ i).3 in absurd cc
    marks-same ns (accepted r) (accepted t) ρ m n o q (inl (C, d, a)) (inl (D, e, b)) =
        let p : N ≡ N = λ i. (ρ i).0 in
        let moved : IsDetermined scope t.1 t.0 (coe 0 1 (i. Basis (p i)) C) =
        coe 0 1 (i. IsDetermined (ρ i).1 (state_of (ρ i).3) (basis_of (ρ i).3) (coe 0 i (j. Basis (p j)) C)) d in
        let same = to_path_p (λ i. Basis (p i)) (determined-once t.1 t.0 (coe 0 1 (i. Basis (p i)) C) D n moved e) in
        let A : Added P N = record { basis = C; judged = r.1.judged } in
        let E : Added P N = record { basis = D; judged = t.1.judged } in
        let here : SameMark ns (accepted (Some A)) (accepted (Some E)) =
        λ i. (p i, (ρ i).1, (ρ i).2, accepted (Some (record { basis = same i; judged = (state_of (ρ i).3).judged }))) in
        subst (λ o. SameMark ns o q) (sym a) (subst (SameMark ns (accepted (Some A))) (sym b) here)
    marks-same ns (accepted r) (accepted t) ρ m n o q (inl (C, d, a)) (inr (e, b)) =
        let p : N ≡ N = λ i. (ρ i).0 in
        let moved : IsDetermined scope t.1 t.0 (coe 0 1 (i. Basis (p i)) C) =
        coe 0 1 (i. IsDetermined (ρ i).1 (state_of (ρ i).3) (basis_of (ρ i).3) (coe 0 i (j. Basis (p j)) C)) d in absurd (e (coe 0 1 (i. Basis (p i)) C) moved)
    marks-same ns (accepted r) (accepted t) ρ m n o q (inr (d, a)) (inl (D, e, b)) =
        let p : N ≡ N = λ i. (ρ i).0 in
        let moved : IsDetermined scope r.1 r.0 (coe 1 0 (i. Basis (p i)) D) =
        coe 1 0 (i. IsDetermined (ρ i).1 (state_of (ρ i).3) (basis_of (ρ i).3) (coe 1 i (j. Basis (p j)) D)) e in absurd (d (coe 1 0 (i. Basis (p i)) D) moved)
    marks-same ns (accepted r) (accepted t) ρ m n o q (inr (d, a)) (inr (e, b)) =
        let here : SameMark ns (accepted None) (accepted None) = λ i. ((ρ i).0, (ρ i).1, (ρ i).2, accepted None) in
        subst (λ o. SameMark ns o q) (sym a) (subst (SameMark ns (accepted None)) (sym b) here)

    -- one part, answered twice
    pub part-agrees : (k : Script P N (Basis N)) (ns : List N) → Settled Basis scope far k (at_first ns) → (o q : Answer P (Option (Added P N))) → IsAlone scope ns k o → IsAlone scope ns k q → SameMark ns o q
    part-agrees k ns h o q (r, a, c) (t, b, d) =
        marks-same ns r t (agree Basis scope far k (at_first ns) h r t a b) (met-at-first k ns r a) (met-at-first k ns t b) o q c d

    -- a path that leaves what may be seen of names, and these, leaves the parts; the initial names are among them
    pub record PartsSettled (ns : List N) (ks : List (Script P N (Basis N))) : Type 1 where
      pub scripts : (p : N ≡ N) → PathP (λ i. Scope (p i)) scope scope → Become p ns ns → PathP (λ i. List (Script P (p i) (Basis (p i)))) ks ks
      pub initials : (j : Initial) → Stands (scope.names.initial j) ns

    first-settled : (ns : List N) (k : Script P N (Basis N)) (ks : List (Script P N (Basis N))) → PartsSettled ns (k ∷ ks) → Settled Basis scope far k (at_first ns)
    first-settled ns k ks h = record {
      script = λ p u v. let K = h.scripts p u v in λ i. first_script (K i);
      state = λ p u v. let l = become-list p ns ns v in λ i. at_first (l i);
      initials = h.initials;
      met = ((λ v. app (row []) no_type), tt);
    }

    rest-settled : (m : Option (Added P N)) (ns : List N) (k : Script P N (Basis N)) (ks : List (Script P N (Basis N))) → PartsSettled ns (k ∷ ks) → PartsSettled (names_part m ++ ns) ks
    rest-settled m ns k ks h = record {
      scripts = λ p u v. let K = h.scripts p u (become-right p (names_part m) ns v) in λ i. other_scripts (K i);
      initials = λ j. right (scope.names.initial j) (names_part m) ns (h.initials j);
    }

    -- answers to later parts, after one answer to a part and after another
    pub carry : (m n : Option (Added P N)) (ns : List N) → SameMark ns (accepted m) (accepted n) → (ks : List (Script P N (Basis N))) → PartsSettled ns ks
        → (o : Answer P (List (Option (Added P N)))) → AreAlone scope (names_part m ++ ns) ks o
        → (q : Answer P (List (Option (Added P N)))) × AreAlone scope (names_part n ++ ns) ks q × SameParts ns (and_part m o) (and_part n q) × (is_whole o ≡ is_whole q)
    carry m n ns ρ ks h o a =
        let p : N ≡ N = λ i. (ρ i).0 in
        let u : PathP (λ i. Scope (p i)) scope scope = λ i. (ρ i).1 in
        let K = h.scripts p u (leaves-others scope p u ns (λ i. (ρ i).2) ns (λ n s. s)) in
        let q : Answer P (List (Option (Added P N))) = coe 0 1 (i. Answer P (List (Option (Added P (p i))))) o in
        let moved : AreAlone scope (names_part n ++ ns) ks q =
        coe 0 1 (i. AreAlone (u i) (names_part (mark_of (ρ i).3) ++ (ρ i).2) (K i) (coe 0 i (j. Answer P (List (Option (Added P (p j))))) o)) a in (
          q,
          moved,
          (λ i. (p i, u i, (ρ i).2, and_part (mark_of (ρ i).3) (coe 0 i (j. Answer P (List (Option (Added P (p j))))) o))),
          (λ i. is_whole (coe 0 i (j. Answer P (List (Option (Added P (p j))))) o)),
        )

    -- two answers to later parts, behind one answer to a part
    pub behind : (m : Option (Added P N)) (ns : List N) (o q : Answer P (List (Option (Added P N)))) → SameParts (names_part m ++ ns) o q → SameParts ns (and_part m o) (and_part m q)
    behind m ns o q τ =
        let p : N ≡ N = λ i. (τ i).0 in
        let u : PathP (λ i. Scope (p i)) scope scope = λ i. (τ i).1 in
        let v = leaves-others scope p u (names_part m ++ ns) (λ i. (τ i).2) (names_part m ++ ns) (λ n s. s) in
        let M = mark-kept m ns p v in
        let l = become-list p ns ns (become-right p (names_part m) ns v) in λ i. (p i, u i, l i, and_part (M i) (τ i).3)

    pub parts-agree : (ks : List (Script P N (Basis N))) (ns : List N) → PartsSettled ns ks → (o q : Answer P (List (Option (Added P N)))) → AreAlone scope ns ks o → AreAlone scope ns ks q → SameParts ns o q
    unfolding AreAlone
    parts-agree [] ns h o q a b = λ i. (N, scope, ns, (a ∙ sym b) i)
    parts-agree (k ∷ ks) ns h o q (inl (f, a, d)) (inl (g, b, e)) =
        let ρ = part-agrees k ns (first-settled ns k ks h) (refused f) (refused g) a b in
        let here : SameParts ns (refused f) (refused g) = λ i. ((ρ i).0, (ρ i).1, (ρ i).2, fault_or (ρ i).3 (accepted [])) in
        subst (λ o. SameParts ns o q) (sym d) (subst (SameParts ns (refused f)) (sym e) here)
    parts-agree (k ∷ ks) ns h o q (inl (f, a, d)) (inr (n, b, qs, c, e)) =
        let ρ = part-agrees k ns (first-settled ns k ks h) (refused f) (accepted n) a b in
        let e : false ≡ true = λ i. is_accepted (ρ i).3 in absurd cc
    parts-agree (k ∷ ks) ns h o q (inr (m, a, os, c, d)) (inl (g, b, e)) =
        let ρ = part-agrees k ns (first-settled ns k ks h) (accepted m) (refused g) a b in
        let e : true ≡ false = λ i. is_accepted (ρ i).3 in absurd cc
    parts-agree (k ∷ ks) ns h o q (inr (m, a, os, c, d)) (inr (n, b, qs, x, e)) =
        let ρ = part-agrees k ns (first-settled ns k ks h) (accepted m) (accepted n) a b in
        let r = carry m n ns ρ ks (rest-settled None ns k ks h) os c in
        let τ = parts-agree ks (names_part n ++ ns) (rest-settled n ns k ks h) r.0 qs r.1 x in
        let here : SameParts ns (and_part m os) (and_part n qs) = r.2 ∙ behind n ns r.0 qs τ in
        subst (λ o. SameParts ns o q) (sym d) (subst (SameParts ns (and_part m os)) (sym e) here)
