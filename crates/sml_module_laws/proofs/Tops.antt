-- What a top-level declaration adds to a basis speaks of no unknown, and of names that are listed.
use Rattle.std.specs.Prelude.{◌≡◌, ◌<◌, true, ℕ, zero, suc, List, [], ◌∷◌, ◌++◌, Option, Some, None}
use Rattle.std.proofs.Common.{arith}
use mathlib.Core.Path.{refl, sym, ap, subst, ◌∙◌}
use mathlib.Core.Logic.{inl, inr}
use Rattle.sml_tree.specs.Structures.{TopDec}
use Rattle.sml_objects.specs.Appearance.{Stands}
use Rattle.sml_objects.specs.Maps.{Map}
use Rattle.sml_objects.specs.Names.{Naming, Initial}
use Rattle.sml_objects.specs.Objects.{MlType, Head, Scheme, bound, app, row, name, no_type, names_type}
use Rattle.sml_objects.proofs.Standing.{left, right}
use Rattle.sml_layers.specs.declared.layer.Layer.TheVariants.{Rigidity}
use Rattle.sml_layers.specs.declared.variable.Variable.{Variable}
use Rattle.std.specs.List.Sorted.{IsStrictlySortedBy}
use Rattle.sml_rules.specs.Answers.{refused, accepted}
use Rattle.sml_rules.proofs.Sound.{accepted_same, not_refused}
use Rattle.sml_core_rules.specs.Assigned.{assign_scheme, assign_value}
use Rattle.sml_core_rules.specs.Expressions.{at_first}
use Rattle.sml_core_rules.specs.Objects.{Status, variable, constructor, exception, overloaded, Env, Structures, TyStr, Value, FunSig, Sig, Basis, maps, no_structure, and_structure, replace, replace_structures, replaced, names_map, names_env, names_sig, names_fun_sig}
use Rattle.sml_core_rules.specs.Scripts.{Script}
use Rattle.sml_core_rules.specs.Solutions.{Meets}
use Rattle.sml_core_rules.specs.States.{Scope, State, no_window}
use Rattle.sml_core_laws.specs.Made.{HasVariable, Speaks, IsHeadIn, IsEnvIn, AreStructuresIn, IsTyStrIn, IsValueIn}
use Rattle.sml_core_laws.proofs.MadeShapes.{IsShape, heads-more}
use Rattle.sml_core_laws.proofs.MadeTypes.{Each, all-more, each-join, replaced-speaks, speaks-more}
use Rattle.sml_core_laws.proofs.MadeEnvs.{str-more, env-more, extend-in}
use Rattle.sml_module_rules.specs.Structures.{Added, nothing, add_basis, names_part, and_bound, all_bound, fun_sig, own_basis, with_types, basis_with_types, IsAlone, AreAlone, IsTopReading, IsExported, parts}
use Rattle.sml_module_rules.proofs.Grown.{covered}
use Rattle.sml_module_laws.specs.Made.{HasNoOverloaded, HaveNoOverloaded, IsBodyIn, IsFunctorIn, IsScopeIn, IsContextAt, IsResultAt, IsAddedAt, IsPartIn, IsBasisIn}
use Rattle.sml_module_laws.proofs.Bodies.{body-more, body-extend, body-empty, IsUsual}
use Rattle.sml_module_laws.proofs.Realised.{IsExact}
use Rattle.sml_module_laws.proofs.Steps.{Ready}
use Rattle.sml_module_laws.proofs.Structures.{Reaches}
use Rattle.sml_module_laws.proofs.Parts.{AllReach, parts-reach}
use Rattle.sml_module_laws.proofs.Usual.{extend-inside}
use Rattle.sml_module_laws.proofs.Cleaned.{cleaned, cleaned-speaks, all-cleaned-hold}
use Rattle.sml_module_laws.proofs.Listed.{Among, type-listed, env-listed}

module _ {N : Type 0} (S : Head N → ℕ → Type 0) where
  -- where more is listed

  scope-more : (L M : List N) → Among L M → (A : Basis N) → IsScopeIn S L A → IsScopeIn S M A
  scope-more L M a A h = (
    all-more (λ e. IsBodyIn S L e.1.body) (λ e. IsBodyIn S M e.1.body) (λ e k. body-more S L M a e.1.body k) A.signatures h.0,
    all-more (λ e. IsFunctorIn S L e.1) (λ e. IsFunctorIn S M e.1) (λ e k. (body-more S L M a e.1.argument.body k.0, body-more S L M a e.1.result.body k.1)) A.functors h.1,
  )

  pub part-more : (L M : List N) → Among L M → (A : Basis N) → IsPartIn S L A → IsPartIn S M A
  part-more L M a A h = (body-more S L M a A.body h.0, scope-more L M a A h.1)

  scope-join : (M : List N) (B A : Basis N) → IsScopeIn S M B → IsScopeIn S M A → IsScopeIn S M (add_basis B A)
  scope-join M B A h k = (each-join (λ R. IsBodyIn S M R.body) B.signatures A.signatures h.0 k.0, each-join (IsFunctorIn S M) B.functors A.functors h.1 k.1)

  part-join : (L M : List N) (A C : Basis N) → IsPartIn S L A → IsPartIn S M C → IsPartIn S (L ++ M) (add_basis A C)
  part-join L M A C h k =
      let a = part-more L (L ++ M) (λ n s. left n L M s) A h in
      let b = part-more M (L ++ M) (λ n s. right n L M s) C k in
      (body-extend S (L ++ M) A.body C.body a.0 b.0, scope-join (L ++ M) A C a.1 b.1)

  pub part-extend : (M : List N) (A C : Basis N) → IsPartIn S M A → IsPartIn S M C → IsPartIn S M (add_basis A C)
  part-extend M A C h k = (body-extend S M A.body C.body h.0 k.0, scope-join M A C h.1 k.1)

  pub basis-more : (L M : List N) → Among L M → (B : Basis N) → IsBasisIn S L B → IsBasisIn S M B
  basis-more L M a B h = ((env-more S 0 L 0 M (omega arith) a B.body h.0.0, h.0.1), scope-more L M a B h.1)

  pub basis-extend : (M : List N) (B A : Basis N) → IsBasisIn S M B → IsPartIn S M A → IsBasisIn S M (add_basis B A)
  basis-extend M B A h k = ((extend-in S 0 M B.body A.body h.0.0 k.0.0, extend-inside B.body A.body h.0.1 k.0.1), scope-join M B A h.1 k.1)

  -- types for unknowns

  module _ (made : ℕ) (ns L : List N) (more : Among ns L) (σ : ℕ → MlType N) (given : (v : ℕ) → v < made → Speaks (λ k. ⊥) (λ v. ⊥) (IsHeadIn S L) (σ v)) where
    has-variable : (w : Status) (θ : Scheme N) → HasVariable w θ → HasVariable w (assign_scheme σ θ)
    has-variable variable θ h = tt
    has-variable (constructor k n) θ h = tt
    has-variable exception θ h = tt
    has-variable (overloaded c) θ h = h

    values-given : (vs : Map (Value N)) → Each (IsValueIn S made ns) vs → Each (IsValueIn S 0 L) (replaced (assign_value σ) vs)
    unfolding Speaks
    values-given [] h = tt
    values-given (v ∷ vs) h =
        ((replaced-speaks bound σ _ _ _ _ (IsHeadIn S ns) (IsHeadIn S L) v.1.scheme.body h.0.0 (λ k b. b) (λ u l. speaks-any _ _ (σ u) (given u l)) heads, has-variable v.1.status v.1.scheme h.0.1), values-given vs h.1)
      where
        heads : (h : Head N) (k : ℕ) → IsHeadIn S ns h k → IsHeadIn S L h k
        heads = heads-more S ns L more

        speaks-any : (B V : ℕ → Type 0) (t : MlType N) → Speaks (λ k. ⊥) (λ v. ⊥) (IsHeadIn S L) t → Speaks B V (IsHeadIn S L) t
        speaks-any B V t h = speaks-more _ _ _ _ (IsHeadIn S L) (IsHeadIn S L) t h (λ k b. absurd b) (λ v b. absurd b) (λ h k q. q)

    types-given : (ts : Map (TyStr N)) → Each (IsTyStrIn S ns) ts → Each (IsTyStrIn S L) (replaced (λ t. t) ts)
    types-given [] h = tt
    types-given (t ∷ ts) h = (str-more S 0 ns 0 L (omega arith) more t.1 h.0, types-given ts h.1)

    mutual
      unfolding IsEnvIn replace

      env-given : (E : Env N) → IsEnvIn S made ns E → IsEnvIn S 0 L (with_types σ E)
      env-given (maps ss ts vs) h = (structures-given ss h.0, types-given ts h.1, values-given vs h.2)

      structures-given : (ss : Structures (TyStr N) (Value N)) → AreStructuresIn S made ns ss → AreStructuresIn S 0 L (replace_structures (λ t. t) (assign_value σ) ss)
      structures-given no_structure h = tt
      structures-given (and_structure s E ss) h = (env-given E h.0, structures-given ss h.1)

    usual-values : (vs : Map (Value N)) → Each IsUsual vs → Each IsUsual (replaced (assign_value σ) vs)
    usual-values [] h = tt
    usual-values (v ∷ vs) h = (h.0, usual-values vs h.1)

    mutual
      unfolding HasNoOverloaded replace

      usual-given : (E : Env N) → HasNoOverloaded E → HasNoOverloaded (with_types σ E)
      usual-given (maps ss ts vs) h = (all-usual-given ss h.0, usual-values vs h.1)

      all-usual-given : (ss : Structures (TyStr N) (Value N)) → HaveNoOverloaded ss → HaveNoOverloaded (replace_structures (λ t. t) (assign_value σ) ss)
      all-usual-given no_structure h = tt
      all-usual-given (and_structure s E ss) h = (usual-given E h.0, all-usual-given ss h.1)

    functors-given : (fs : Map (FunSig N)) → Each (λ F. IsBodyIn S ns F.argument.body × (IsEnvIn S made ns F.result.body × HasNoOverloaded F.result.body)) fs
        → Each (IsFunctorIn S L) (replaced (λ F. record { argument = F.argument; result = record { names = F.result.names; body = with_types σ F.result.body } }) fs)
    functors-given [] h = tt
    functors-given (F ∷ fs) h = ((body-more S ns L more F.1.argument.body h.0.0, (env-given F.1.result.body h.0.1.0, usual-given F.1.result.body h.0.1.1)), functors-given fs h.1)

  basis-given : {P : Type 0} (s : State P N) (L : List N) (more : Among s.names L) (σ : ℕ → MlType N) → ((v : ℕ) → v < s.made → Speaks (λ k. ⊥) (λ v. ⊥) (IsHeadIn S L) (σ v)) → (A : Basis N) → IsAddedAt S s A
      → IsPartIn S L (basis_with_types σ A)
  basis-given s L more σ given A h = (
    (env-given s.made s.names L more σ given A.body h.0.0.0, usual-given s.made s.names L more σ given A.body h.0.1),
    (
      all-more (λ e. IsBodyIn S s.names e.1.body) (λ e. IsBodyIn S L e.1.body) (λ e k. body-more S s.names L more e.1.body k) A.signatures h.1,
      functors-given s.made s.names L more σ given A.functors
          (all-more (λ e. IsBodyIn S s.names e.1.argument.body × IsResultAt S s e.1.result.body)
          (λ e. IsBodyIn S s.names e.1.argument.body × (IsEnvIn S s.made s.names e.1.result.body × HasNoOverloaded e.1.result.body)) (λ e k. (k.0, (k.1.0.0, k.1.1))) A.functors h.2),
    ),
  )

  -- over the names that stand in it
  module _ (L M : List N) where
    body-listed : (E : Env N) → IsBodyIn S L E → Among (names_env E) M → IsBodyIn S M E
    body-listed E h a = (env-listed S M L E h.0 a, h.1)

    sig-listed : (R : Sig N) → IsBodyIn S L R.body → Among (names_sig R) M → IsBodyIn S M R.body
    sig-listed R h a = body-listed R.body h (λ n k. a n (right n R.names (names_env R.body) k))

    sigs-listed : (G : Map (Sig N)) → Each (λ R. IsBodyIn S L R.body) G → Among (names_map names_sig G) M → Each (λ R. IsBodyIn S M R.body) G
    sigs-listed [] h a = tt
    sigs-listed (R ∷ G) h a =
        (sig-listed R.1 h.0 (λ n k. a n (left n (names_sig R.1) (names_map names_sig G) k)), sigs-listed G h.1 (λ n k. a n (right n (names_sig R.1) (names_map names_sig G) k)))

    functors-listed : (scope : Scope N) (old : List N) (fs : Map (FunSig N)) → Each (IsFunctorIn S L) fs → Among (names_map names_fun_sig (replaced (fun_sig scope old) fs)) M → Each (IsFunctorIn S M) (replaced (fun_sig scope old) fs)
    functors-listed scope old [] h a = tt
    functors-listed scope old (e ∷ fs) h a =
        let F : FunSig N = fun_sig scope old e.1 in
        let rest = names_map names_fun_sig (replaced (fun_sig scope old) fs) in
        let here : Among (names_fun_sig F) M = λ n k. a n (left n (names_fun_sig F) rest k) in (
          (sig-listed F.argument h.0.0 (λ n k. here n (left n (names_sig F.argument) (names_sig F.result) k)), sig-listed F.result h.0.1 (λ n k. here n (right n (names_sig F.argument) (names_sig F.result) k))),
          functors-listed scope old fs h.1 (λ n k. a n (right n (names_fun_sig F) rest k)),
        )

  own-listed : (scope : Scope N) (old L : List N) (A : Basis N) → IsPartIn S L A → IsPartIn S ((own_basis scope old A).names ++ old) (own_basis scope old A)
  own-listed scope old L A h =
      let M = (own_basis scope old A).names ++ old in
      let fs = names_map names_fun_sig (replaced (fun_sig scope old) A.functors) in
      let gs = names_map names_sig A.signatures in
      let es = names_env A.body in
      let all : Among (fs ++ (gs ++ es)) M = λ n k. covered scope old (fs ++ (gs ++ es)) n k in (
        body-listed L M A.body h.0 (λ n k. all n (right n fs (gs ++ es) (right n gs es k))),
        (sigs-listed L M A.signatures h.1.0 (λ n k. all n (right n fs (gs ++ es) (left n gs es k))), functors-listed L M scope old A.functors h.1.1 (λ n k. all n (left n fs (gs ++ es) k))),
      )

-- the names of the types of the first unknowns
first_names : {N : Type 0} → ℕ → (ℕ → MlType N) → List N
first_names zero σ = []
first_names (suc k) σ = names_type (σ 0) ++ first_names k (λ v. σ (suc v))

among-first : {N : Type 0} (k : ℕ) (σ : ℕ → MlType N) (v : ℕ) → v < k → Among (names_type (σ v)) (first_names k σ)
unfolding first_names
among-first zero σ v l n h = absurd (omega arith)
among-first (suc k) σ zero l n h = left n (names_type (σ 0)) (first_names k (λ v. σ (suc v))) h
among-first (suc k) σ (suc v) l n h = right n (names_type (σ 0)) (first_names k (λ v. σ (suc v))) (among-first k (λ v. σ (suc v)) v (omega arith) n h)

nil-kept : {N : Type 0} (names : Naming N) (S : Head N → ℕ → Type 0) (shape : IsShape names S) → shape.test (row []) 0 ≡ true
unfolding IsStrictlySortedBy
nil-kept names S shape = shape.passes (row []) 0 (shape.rows [] tt)

first-context : (P : Type 0) {N : Type 0} (S : Head N → ℕ → Type 0) (B : Basis N) → IsBasisIn S B.names B → (ns : List N) → Among B.names ns → IsContextAt {P = P} S (at_first ns) B.body
first-context P S B inside ns a = let e = env-more S 0 B.names 0 ns (omega arith) a B.body inside.0.0 in ((e, λ o. e), inside.0.1)

module _ {P N : Type 0} (S : Head N → ℕ → Type 0) (scope : Scope N) (exact : IsExact scope.names S) (shape : IsShape scope.names S) (variables : (x : Variable) → S (name (scope.variable x)) 0) where
  module _ (B : Basis N) (initials : (k : Initial) → Stands (scope.names.initial k) B.names) (inside : IsBasisIn S B.names B) where
    first-state : (ns : List N) → Among B.names ns → Ready {P = P} S scope no_window (at_first ns)
    first-state ns a = record {
      exact = exact;
      known = record {
        shape = shape;
        well = record { initials = λ k. a (scope.names.initial k) (initials k); demands = tt; window = (tt, tt); met = ((λ v. app (row []) no_type), tt) };
      };
      window = refl;
    }

    Told : Added P N → Type 0
    Told A = (L : List N) × IsPartIn S L A.basis

    part-in : (ns : List N) → Among B.names ns → (k : Script P N (Basis N)) → ((s : State P N) → IsScopeIn S s.names B → IsContextAt S s B.body → Reaches S scope s k (λ A t. IsAddedAt S t A)) → (A : Added P N)
        → IsAlone scope ns k (accepted (Some A)) → Told A
    unfolding Told
    part-in ns a k h A (refused f, x, m) = absurd (not_refused m)
    part-in ns a k h A (accepted r, x, inr (undetermined, e)) = let f : Some A ≡ None = accepted_same e in absurd cc
    part-in ns a k h A (accepted r, x, inl (C, det, e)) =
        let reach : Reaches S scope (at_first ns) k (λ A t. IsAddedAt S t A) = h (at_first ns) (scope-more S B.names ns a B inside.1) (first-context P S B inside ns a) in
        let d = reach.ends (first-state ns a) r x in
        let met = d.0.known.well.met in
        let σ : ℕ → MlType N = λ v. cleaned shape.test (met.0 v) in
        let m : Meets scope r.1 Rigidity σ = all-cleaned-hold scope S shape variables r.1 met.0 r.1.demands d.0.known.well.demands met.1 in
        let L = r.1.names ++ first_names r.1.made σ in
        let given : (v : ℕ) → v < r.1.made → Speaks (λ k. ⊥) (λ v. ⊥) (IsHeadIn S L) (σ v) =
        λ v l.
        type-listed S L (λ k. ⊥) (λ v. ⊥) (λ h k. shape.test h k ≡ true) shape.tested (σ v) (cleaned-speaks shape.test (nil-kept scope.names S shape) (met.0 v))
        (λ n s. right n r.1.names (first_names r.1.made σ) (among-first r.1.made σ v l n s)) in
        let q = basis-given S r.1 L (λ n s. left n r.1.names (first_names r.1.made σ) s) σ given r.0 d.2 in
        let D : Added P N = record { basis = C; judged = r.1.judged } in
        let f : Some A ≡ Some D = accepted_same e in
        let g : A ≡ D = cc in
        (L, subst (IsPartIn S L) (det σ m ∙ sym (ap (λ A. A.basis) g)) q)

    parts-in : (ks : List (Script P N (Basis N))) (ns : List N) → Among B.names ns → AllReach S scope B ks → (ms : List (Option (Added P N))) → AreAlone scope ns ks (accepted ms) → (A : Added P N) → all_bound ms ≡ Some A
        → Told A
    unfolding AreAlone Told
    parts-in [] ns a h ms x A e =
        let D : Added P N = record { basis = nothing; judged = [] } in
        let f : Some D ≡ Some A = subst (λ ms. all_bound ms ≡ Some A) (accepted_same x) e in
        let g : D ≡ A = cc in
        ([], subst (λ A. IsPartIn S [] A.basis) g (body-empty S [], (tt, tt)))
    parts-in (k ∷ ks) ns a h ms (inl (f, x, q)) A e = absurd (not_refused q)
    parts-in (k ∷ ks) ns a h ms (inr (m, x, refused f, rest, q)) A e = absurd (not_refused q)
    parts-in (k ∷ ks) ns a h ms (inr (None, x, accepted os, rest, q)) A e =
        let f : None ≡ Some A = subst (λ ms. all_bound ms ≡ Some A) (accepted_same q) e in absurd cc
    parts-in (k ∷ ks) ns a h ms (inr (Some C, x, accepted os, rest, q)) A e =
        go (all_bound os) refl (subst (λ ms. all_bound ms ≡ Some A) (accepted_same q) e)
        (λ D d. parts-in ks (names_part (Some C) ++ ns) (λ n s. right n (names_part (Some C)) ns (a n s)) h.1 os rest D d) (part-in ns a k h.0 C x)
      where
        go : (b : Option (Added P N)) → all_bound os ≡ b → and_bound (Some C) b ≡ Some A → ((D : Added P N) → all_bound os ≡ Some D → Told D) → Told C → Told A
        go None w e next c = let f : None ≡ Some A = e in absurd cc
        go (Some D) w e next c =
            let E : Added P N = record { basis = add_basis C.basis D.basis; judged = C.judged ++ D.judged } in
            let f : Some E ≡ Some A = e in
            let g : E ≡ A = cc in
            let d = next D w in
            (c.0 ++ d.0, subst (λ A. IsPartIn S (c.0 ++ d.0) A.basis) g (part-join S c.0 d.0 C.basis D.basis c.1 d.1))

    -- what was declared, and a basis with it

    own-in : (C : Added P N) → Told C → (X : Basis N) → X ≡ own_basis scope B.names C.basis → IsPartIn S (X.names ++ B.names) X
    unfolding Told
    own-in C c X e = subst (λ X. IsPartIn S (X.names ++ B.names) X) (sym e) (own-listed S scope B.names c.0 C.basis c.1)

    pub tops-part : (p : P) (d : TopDec P) (A : Added P N) → IsTopReading scope p B d (accepted A) → IsPartIn S (A.basis.names ++ B.names) A.basis
    tops-part p d A (refused f, x, e) = absurd (not_refused e)
    tops-part p d A (accepted ms, x, e) = go (all_bound ms) refl e
      where
        go : (b : Option (Added P N)) → all_bound ms ≡ b → IsExported scope B p b (accepted A) → IsPartIn S (A.basis.names ++ B.names) A.basis
        go None w e = absurd (not_refused e)
        go (Some C) w (inl e) = absurd (not_refused e.1)
        go (Some C) w (inr (inl e)) = absurd (not_refused e.2)
        go (Some C) w (inr (inr e)) =
            own-in C (parts-in (parts scope B d) B.names (λ n s. s) (parts-reach S scope B d) ms x C w) A.basis (ap (λ A. A.basis) (accepted_same e.2))

    pub tops-in : (p : P) (d : TopDec P) (A : Added P N) → IsTopReading scope p B d (accepted A) → IsBasisIn S (A.basis.names ++ B.names) (add_basis B A.basis)
    tops-in p d A r =
        let M = A.basis.names ++ B.names in basis-extend S M B A.basis (basis-more S B.names M (λ n s. right n A.basis.names B.names s) B inside) (tops-part p d A r)
