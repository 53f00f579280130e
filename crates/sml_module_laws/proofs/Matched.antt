-- What structures are matched to, and what functors give, speaks of what was made.
use Rattle.std.specs.Prelude.{◌≡◌, ◌+◌, ◌<◌, ◌≤◌, ◌||◌, ℕ, suc, Bool, true, false, cond, nat_eq, List, [], ◌∷◌, ◌++◌, map, length, Option, Some, None}
use Rattle.std.proofs.Common.{arith}
use Rattle.std.proofs.lemmas.Bool.{eqb-true}
use mathlib.Core.Path.{refl, sym, ap, subst, ◌∙◌}
use Rattle.sml_lex.specs.Faults.{Fault}
use Rattle.sml_tree.specs.Trees.{Id, LongId}
use Rattle.sml_tree.specs.declared.structures.Ascription.{Ascription}
use Rattle.sml_tree.specs.declared.structures.Ascription.TheVariants.{Transparent, Opaque}
use Rattle.sml_objects.specs.Maps.{Map}
use Rattle.sml_objects.specs.Objects.{Scheme, Head, free}
use Rattle.sml_objects.specs.Types.{instance_from}
use Rattle.sml_rules.specs.Answers.{Answer, accepted}
use Rattle.sml_rules.specs.Lookups.{Found, found, no_path, no_entry}
use Rattle.sml_rules.specs.Matching.{Realisation}
use Rattle.sml_rules.proofs.Sound.{accepted_same, not_refused}
use Rattle.sml_core_rules.specs.Answers.{check, ◌>>=◌}
use Rattle.sml_core_rules.specs.Lookups.{type_at, value_at}
use Rattle.sml_core_rules.specs.Objects.{Env, Structures, TyStr, Value, Sig, FunSig, maps, no_structure, and_structure}
use Rattle.sml_core_rules.specs.Scripts.{test}
use Rattle.sml_core_rules.specs.States.{Scope, State, Window}
use Rattle.sml_core_rules.specs.Values.{has_unknown}
use Rattle.sml_core_laws.specs.Made.{Speaks, IsEnvIn, AreStructuresIn, IsTyStrIn, IsValueIn, IsSchemeIn, IsTypeIn, IsHeadIn, IsGrown}
use Rattle.sml_core_laws.proofs.MadeShapes.{heads-more}
use Rattle.sml_core_laws.proofs.MadeTypes.{Each, replaced-speaks}
use Rattle.sml_core_laws.proofs.MadeEnvs.{type-found, value-found, str-more, scheme-more}
use Rattle.sml_core_laws.proofs.MadeScripts.{EnvAt, Done, env-up, onwards}
use Rattle.sml_module_rules.specs.Lines.{Line, a_structure, a_type, a_value, lines, structure_lines, type_lines, value_lines, component}
use Rattle.sml_module_rules.specs.Matching.{read_realisation, function_for, is_next, admit_equality, stand_alone, require_general, require_lines, match_signature, ascribe, apply_functor}
use Rattle.sml_core_rules.specs.Functions.{name_of}
use Rattle.sml_module_rules.specs.Realising.{realise_env, no_function, with_function, with_names}
use Rattle.sml_module_laws.proofs.Realised.{IsExact, AreFunctionsIn, none-in, with-in, names-in, named-arity, env-realised}
use Rattle.sml_module_laws.proofs.Steps.{Goes, BodyAt, body-up, first, knows, gives, looks, chooses, checks, unknowns, requires, sees, makes-names}
use Rattle.sml_module_laws.proofs.Described.{SigAt, bound-by}
use Rattle.sml_module_laws.proofs.Signatures.{renewed-goes}

component-found : {P X : Type 0} (p : P) (x : LongId) (r : Found X) (v : X) → component p x r ≡ accepted v → r ≡ found v
component-found p x (found u) v h = ap found (accepted_same h)
component-found p x (no_path s) v h = absurd (not_refused (sym h))
component-found p x no_entry v h = absurd (not_refused (sym h))

was-true : {P : Type 0} (b : Bool) (f : Fault P) (u : Unit {0}) → check b f ≡ accepted u → b ≡ true
was-true true f u h = refl
was-true false f u h = absurd (not_refused (sym h))

module _ {N : Type 0} (S : Head N → ℕ → Type 0) (names : List N) where
  -- what stands in a body, line by line
  abbrev pub AreLinesIn : List (Line (TyStr N) (Value N)) → Type 0
  AreLinesIn [] = Unit {0}
  AreLinesIn ((x, a_structure) ∷ ls) = AreLinesIn ls
  AreLinesIn ((x, a_type t) ∷ ls) = IsTyStrIn S names t × AreLinesIn ls
  AreLinesIn ((x, a_value v) ∷ ls) = IsValueIn S 0 names v × AreLinesIn ls

  lines-join : (xs ys : List (Line (TyStr N) (Value N))) → AreLinesIn xs → AreLinesIn ys → AreLinesIn (xs ++ ys)
  lines-join [] ys h k = k
  lines-join ((x, a_structure) ∷ xs) ys h k = lines-join xs ys h k
  lines-join ((x, a_type t) ∷ xs) ys h k = (h.0, lines-join xs ys h.1 k)
  lines-join ((x, a_value v) ∷ xs) ys h k = (h.0, lines-join xs ys h.1 k)

  type-lines-in : (p : List Id) (ts : Map (TyStr N)) → Each (IsTyStrIn S names) ts → AreLinesIn (type_lines p ts)
  type-lines-in p [] h = tt
  type-lines-in p (t ∷ ts) h = (h.0, type-lines-in p ts h.1)

  value-lines-in : (p : List Id) (vs : Map (Value N)) → Each (IsValueIn S 0 names) vs → AreLinesIn (value_lines p vs)
  value-lines-in p [] h = tt
  value-lines-in p (v ∷ vs) h = (h.0, value-lines-in p vs h.1)

  mutual
    unfolding IsEnvIn lines

    pub lines-in : (p : List Id) (E : Env N) → IsEnvIn S 0 names E → AreLinesIn (lines p E)
    lines-in p (maps ss ts vs) h =
        lines-join (structure_lines p ss) (type_lines p ts ++ value_lines p vs) (structure-lines-in p ss h.0) (lines-join (type_lines p ts) (value_lines p vs) (type-lines-in p ts h.1) (value-lines-in p vs h.2))

    structure-lines-in : (p : List Id) (ss : Structures (TyStr N) (Value N)) → AreStructuresIn S 0 names ss → AreLinesIn (structure_lines p ss)
    structure-lines-in p no_structure h = tt
    structure-lines-in p (and_structure s E ss) h = lines-join (lines (p ++ s ∷ []) E) (structure_lines p ss) (lines-in (p ++ s ∷ []) E h.0) (structure-lines-in p ss h.1)

  -- the realisation
  module _ {P : Type 0} (scope : Scope N) (exact : IsExact scope.names S) (p : P) (bound : List N) (made : ℕ) (E : Env N) (c : IsEnvIn S made names E) where
    function-read : (φ : Realisation N) (x : LongId) (n : N) (t : TyStr N) (θ : Scheme N) → AreFunctionsIn scope.names S names φ → IsTyStrIn S names t → name_of t.function ≡ Some n
        → function_for scope.names p bound E x n t ≡ accepted θ → AreFunctionsIn scope.names S names (with_function scope.names n θ φ)
    function-read φ x n t θ good h e a =
        let b = bound-by (component p x (type_at E x)) _ θ a in
        let d = bound-by (check (nat_eq (length b.0.function.variables) (length t.function.variables)) _) _ θ b.2 in
        let f = bound-by _ _ θ d.2 in
        let u = type-found S made names E x b.0 c (component-found p x (type_at E x) b.0 b.1) in
        let l = eqb-true (length b.0.function.variables) (length t.function.variables) (was-true _ _ d.0 d.1) in
        subst (λ θ. AreFunctionsIn scope.names S names (with_function scope.names n θ φ)) (accepted_same f.2)
        (with-in scope.names S names n b.0.function φ (u.0, l ∙ named-arity scope.names S exact names t.function n h.0 e) good)

    realisation-read : (φ : Realisation N) (ls : List (Line (TyStr N) (Value N))) (ψ : Realisation N) → AreFunctionsIn scope.names S names φ → AreLinesIn ls
        → read_realisation scope.names p bound E φ ls ≡ accepted ψ → AreFunctionsIn scope.names S names ψ
    unfolding read_realisation
    realisation-read φ [] ψ good h a = subst (AreFunctionsIn scope.names S names) (accepted_same a) good
    realisation-read φ ((x, a_structure) ∷ ls) ψ good h a = realisation-read φ ls ψ good h a
    realisation-read φ ((x, a_value v) ∷ ls) ψ good h a = realisation-read φ ls ψ good h.1 a
    realisation-read φ ((x, a_type t) ∷ ls) ψ good h a = go (name_of t.function) refl a (λ χ k b. realisation-read χ ls ψ k h.1 b)
      where
        Next : Type 0
        Next = (χ : Realisation N) → AreFunctionsIn scope.names S names χ → read_realisation scope.names p bound E χ ls ≡ accepted ψ → AreFunctionsIn scope.names S names ψ

        then : (n : N) → name_of t.function ≡ Some n → (b : Bool)
            → cond b (function_for scope.names p bound E x n t >>= (λ θ. read_realisation scope.names p bound E (with_function scope.names n θ φ) ls)) (read_realisation scope.names p bound E φ ls) ≡ accepted ψ → Next
            → AreFunctionsIn scope.names S names ψ
        then n e true a next = let b = bound-by (function_for scope.names p bound E x n t) _ ψ a in next (with_function scope.names n b.0 φ) (function-read φ x n t b.0 good h.0 e b.1) b.2
        then n e false a next = next φ good a

        go : (o : Option N) → name_of t.function ≡ o
            → ◌≡◌ {A = Answer P (Realisation N)} (elim o [
              | None ↦ read_realisation scope.names p bound E φ ls
              | Some n ↦ cond (is_next scope.names p bound E φ n) (function_for scope.names p bound E x n t >>= (λ θ. read_realisation scope.names p bound E (with_function scope.names n θ φ) ls)) (read_realisation scope.names p bound E φ ls)
            ]) (accepted ψ) → Next → AreFunctionsIn scope.names S names ψ
        go None e a next = next φ good a
        go (Some n) e a next = then n e (is_next scope.names p bound E φ n) a next

-- where more was made

lines-more : {N : Type 0} (S : Head N → ℕ → Type 0) {P : Type 0} {s t : State P N} → IsGrown s t → (ls : List (Line (TyStr N) (Value N))) → AreLinesIn S s.names ls → AreLinesIn S t.names ls
lines-more S g [] h = tt
lines-more S g ((x, a_structure) ∷ ls) h = lines-more S g ls h
lines-more S {P} {s} {t} g ((x, a_type u) ∷ ls) h = (str-more S s.made s.names t.made t.names g.made g.names u h.0, lines-more S g ls h.1)
lines-more S {P} {s} {t} g ((x, a_value v) ∷ ls) h = ((scheme-more S 0 s.names 0 t.names (omega arith) g.names v.scheme h.0.0, h.0.1), lines-more S g ls h.1)

functions-up : {P N : Type 0} (scope : Scope N) (S : Head N → ℕ → Type 0) {s t : State P N} → IsGrown s t → (φ : Realisation N) → AreFunctionsIn scope.names S s.names φ → AreFunctionsIn scope.names S t.names φ
functions-up scope S {s} {t} g φ h n θ e =
    let f = h n θ e in ((str-more S s.made s.names t.made t.names g.made g.names (record { function = θ; constructors = [] }) (f.0, tt)).0, f.1)

instance-in : {P N : Type 0} (S : Head N → ℕ → Type 0) {s t : State P N} → IsGrown s t → (k : ℕ) (σ : Scheme N) → IsSchemeIn S s.made s.names σ → k + length σ.variables ≤ t.made → IsTypeIn S t.made t.names (instance_from k σ.body)
unfolding Speaks
instance-in S {s} {t} g k σ h l =
    replaced-speaks (λ j. free (k + j)) free _ _ (λ k. ⊥) (λ v. v < t.made) (IsHeadIn S s.names) (IsHeadIn S t.names) σ.body h (λ j m. omega arith) (λ v m. let x = g.made in omega arith) (heads-more S s.names t.names g.names)

module _ {P N : Type 0} (S : Head N → ℕ → Type 0) where
  abbrev pub FunctorAt : FunSig N → State P N → Type 0
  FunctorAt F s = SigAt S F.argument s × SigAt S F.result s

module _ {P N : Type 0} {S : Head N → ℕ → Type 0} {scope : Scope N} {w : Window P N} where
  passes : {s : State P N} {C : Type 0} {f : Fault P} → Goes S scope w s (test C f) Done
  passes {s} {C} {f} = record { ends = λ y r a. let g : Goes S scope w s (test C f) (λ u t. C) = checks in let c = g.ends y r a in (c.0, c.1, tt) }

  equality-goes : (f : Fault P) (k : ℕ) (es : List Bool) {s : State P N} → k + length es ≤ s.made → Goes S scope w s (admit_equality scope f k es) Done
  unfolding Speaks
  equality-goes f k [] l = gives tt
  equality-goes f k (false ∷ es) l = equality-goes f (suc k) es (omega arith)
  equality-goes f k (true ∷ es) l = first (requires (omega arith)) (λ u t g d. equality-goes f (suc k) es (let x = g.made in omega arith))

  alone-goes : (f : Fault P) (k : ℕ) (es : List Bool) {s : State P N} → k + length es ≤ s.made → Goes S scope w s (stand_alone scope f k es) Done
  unfolding Speaks
  alone-goes f k [] l = gives tt
  alone-goes f k (e ∷ es) l = first (requires (omega arith)) (λ u t g d. alone-goes f (suc k) es (let x = g.made in omega arith))

  general-goes : (f : Fault P) (σ τ : Scheme N) {s : State P N} → IsSchemeIn S s.made s.names σ → IsSchemeIn S s.made s.names τ → Goes S scope w s (require_general scope f σ τ) Done
  general-goes f σ τ h q =
      first (unknowns (length σ.variables)) (λ k s1 g1 l.
      first (equality-goes f k σ.variables l) (λ a s2 g2 d.
      first (unknowns (length τ.variables)) (λ j s3 g3 m.
      first (alone-goes f j τ.variables m) (λ b s4 g4 d.
      let all = onwards g1 (onwards g2 (onwards g3 g4)) in
      first (requires (instance-in S all k σ h (let x = g2.made in let y = g3.made in let z = g4.made in omega arith), instance-in S all j τ q (let z = g4.made in omega arith))) (λ c s5 g5 d.
      first sees (λ x s6 g6 d. passes))))))

  lines-go : (p : P) (E : Env N) (ls : List (Line (TyStr N) (Value N))) {s : State P N} → EnvAt S E s → AreLinesIn S s.names ls → Goes S scope w s (require_lines scope p E ls) Done
  unfolding require_lines
  lines-go p E [] c h = gives tt
  lines-go p E ((x, a_structure) ∷ ls) c h = first (looks {Q = λ F t. Unit {0}} _ (λ F e. tt)) (λ F t g d. lines-go p E ls (env-up S g E c) (lines-more S g ls h))
  lines-go p E ((x, a_type t) ∷ ls) c h =
      first (looks {Q = λ u z. Unit {0}} _ (λ u e. tt)) (λ u s1 g1 d.
      first passes (λ a s2 g2 d.
      first passes (λ b s3 g3 d.
      first passes (λ f s4 g4 d.
      let g = onwards g1 (onwards g2 (onwards g3 g4)) in lines-go p E ls (env-up S g E c) (lines-more S g ls h.1)))))
  lines-go p E ((x, a_value v) ∷ ls) {s} c h =
      first (looks {Q = λ u z. IsSchemeIn S z.made z.names u.scheme} (component p x (value_at E x)) (λ u e. (value-found S s.made s.names E x u c (component-found p x (value_at E x) u e)).0)) (λ u s1 g1 q.
      first passes (λ a s2 g2 d.
      let g12 = onwards g1 g2 in
      first (chooses (has_unknown u.scheme.body || has_unknown v.scheme.body)
      (general-goes _ u.scheme v.scheme (scheme-more S s1.made s1.names s2.made s2.names g2.made g2.names u.scheme q) (scheme-more S 0 s.names s2.made s2.names (omega arith) g12.names v.scheme h.0.0)) passes) (λ b s3 g3 d.
      let g = onwards g12 g3 in lines-go p E ls (env-up S g E c) (lines-more S g ls h.1))))

  pub match-goes : {s : State P N} (p : P) (E : Env N) (R : Sig N) → EnvAt S E s → SigAt S R s → Goes S scope w s (match_signature scope p E R) (λ φ t. AreFunctionsIn scope.names S t.names φ)
  match-goes {s} p E R c h =
      first (knows (λ y. looks {Q = λ φ t. AreFunctionsIn scope.names S t.names φ} (read_realisation scope.names p R.names E (no_function scope.names) (lines [] R.body)) (λ φ e.
      realisation-read S s.names scope y.exact p R.names s.made E c (no_function scope.names) (lines [] R.body) φ (none-in scope.names S s.names) (lines-in S s.names [] R.body h.0) e))) (λ φ s1 g1 q.
      knows (λ y.
      let r = env-realised scope.names S y.exact s1.names φ q R.body (body-up S g1 R.body h) in
      first passes (λ u s2 g2 d.
      first (lines-go p E (lines [] (realise_env φ R.body)) (env-up S (onwards g1 g2) E c) (lines-in S s2.names [] (realise_env φ R.body) (body-up S g2 (realise_env φ R.body) r).0)) (λ a s3 g3 d.
      gives (functions-up scope S (onwards g2 g3) φ q)))))

  pub ascribe-goes : {s : State P N} (p : P) (E : Env N) (a : Ascription) (R : Sig N) → EnvAt S E s → SigAt S R s → Goes S scope w s (ascribe scope p E a R) (BodyAt S)
  ascribe-goes p E Transparent R c h = first (match-goes p E R c h) (λ φ t g q. knows (λ y. gives (env-realised scope.names S y.exact t.names φ q R.body (body-up S g R.body h))))
  ascribe-goes p E Opaque R c h = first (match-goes p E R c h) (λ φ t g q. first (renewed-goes R (body-up S g R.body h)) (λ Q u i k. gives k))

  pub functor-goes : {s : State P N} (p : P) (F : FunSig N) (E : Env N) → FunctorAt S F s → EnvAt S E s → Goes S scope w s (apply_functor scope p F E) (BodyAt S)
  functor-goes p F E f c =
      first (match-goes p E F.argument c f.0) (λ φ s1 g1 q.
      first (makes-names (map (λ n. scope.names.attributes n) F.result.names)) (λ ns s2 g2 k.
      knows (λ y.
      let φ2 = with_names scope.names F.result.names ns φ in
      let r = env-realised scope.names S y.exact s2.names φ2 (names-in scope.names S s2.names F.result.names ns φ k (functions-up scope S g2 φ q)) F.result.body (body-up S (onwards g1 g2) F.result.body f.1) in
      first passes (λ a s3 g3 d. gives (body-up S g3 (realise_env φ2 F.result.body) r)))))
