-- What is bound of types, datatypes, exceptions and structures that are opened speaks of what was made.
use Rattle.std.specs.Prelude.{◌≡◌, ◌<◌, ◌≤◌, ◌+◌, ◌++◌, ℕ, zero, suc, Bool, false, List, [], ◌∷◌, length, map, replicate, Option, Some, None}
use Rattle.std.specs.List.{AllByRecursion}
use Rattle.std.proofs.Common.{arith}
use Rattle.std.proofs.lemmas.List.{length-replicate}
use mathlib.Core.Path.{refl, sym, subst, ap}
use mathlib.Core.Logic.{inl, inr}
use Rattle.sml_tree.specs.Trees.{Id}
use Rattle.sml_tree.specs.Names.{Name, LongName}
use Rattle.sml_tree.specs.Types.{Ty}
use Rattle.sml_tree.specs.Expressions.{TypBind, ConBind, DatBind, ExnBind, new_exception, exception_copy}
use Rattle.sml_objects.specs.Appearance.{Stands}
use Rattle.sml_objects.specs.Maps.{Map, put}
use Rattle.sml_objects.specs.Names.{Naming, Initial, exn}
use Rattle.sml_objects.specs.Objects.{MlType, Scheme, bound, free, app, name, Head}
use Rattle.sml_objects.proofs.Standing.{left, right}
use Rattle.sml_rules.specs.Answers.{accepted}
use Rattle.sml_rules.proofs.Sound.{not_refused}
use Rattle.sml_core_rules.specs.Datatypes.{Arguments, listed, types_from, type_function, name_function, constructor_scheme, constructor_type, constructors_of, constructors_from, constructor_values, read_type_binds, datatype_types, datatype_env, datatype_envs, with_names, is_equality, AreNew}
use Rattle.sml_core_rules.specs.Expressions.{exception_type, read_types, read_datatypes, read_exceptions, read_opened}
use Rattle.sml_core_rules.specs.Objects.{Env, TyStr, Value, empty, extend, maps, no_structure, of_types, names_env}
use Rattle.sml_core_rules.specs.Rules.{BindTypes, MeansArgument, MeanArguments, MeanAllArguments, BindsException, BindExceptions, Opens}
use Rattle.sml_core_rules.specs.Scripts.{IsAnswer, look, give}
use Rattle.sml_core_rules.specs.States.{Scope, State, with_made}
use Rattle.sml_core_rules.proofs.Derived.{type-binds-to, all-arguments-to, exceptions-to, opened-to}
use Rattle.sml_core_rules.specs.Types.{count_types}
use Rattle.sml_core_laws.proofs.MadeShapes.{IsShape}
use Rattle.sml_core_laws.specs.Made.{Speaks, AllSpeak, IsClosedIn, IsTyStrIn, IsValueIn, IsEnvIn, AreTypesIn, IsGrown, IsHeadIn}
use Rattle.sml_core_laws.proofs.MadeTypes.{speaks-more, all-more, Each, each-put}
use Rattle.sml_core_laws.proofs.MadeEnvs.{closed-scheme, str-more, extend-in, empty-in, types-in, value-found, opened-found}
use Rattle.sml_core_laws.proofs.MadeReadings.{ty-speaks}
use Rattle.sml_core_laws.proofs.MadeClosing.{constructor-in}
use Rattle.sml_core_laws.proofs.MadeScripts.{EnvAt, Leads, grown-well, continues, env-up, first, gives, looks, tests, knows, Known, NoneAt, none-up}

Any : ℕ → Type 0
Any k = Unit {0}

module _ {N : Type 0} where
  -- lists of parameters

  listed-all : {P : Type 0} (F : MlType N → Type 0) (f : ℕ → MlType N) (n k : ℕ) (xs : List (Name P)) → k + length xs ≤ n → ((j : ℕ) → j < n → F (f j)) → Each F (listed f k xs)
  listed-all F f n k [] l h = tt
  listed-all F f n k (x ∷ xs) l h = (h k (omega arith), listed-all F f n (suc k) xs (omega arith) h)

  parameters-speak : (B V : ℕ → Type 0) (H : Head N → ℕ → Type 0) (f : ℕ → MlType N) (n k m : ℕ) → k + m ≤ n → ((j : ℕ) → j < n → Speaks B V H (f j)) → AllSpeak B V H (types_from f k m)
  unfolding Speaks
  parameters-speak B V H f n k zero l h = tt
  parameters-speak B V H f n k (suc m) l h = (h k (omega arith), parameters-speak B V H f n (suc k) m (omega arith) h)

  count-parameters : (f : ℕ → MlType N) (k m : ℕ) → count_types (types_from f k m) ≡ m
  count-parameters f k zero = refl
  count-parameters f k (suc m) = ap suc (count-parameters f (suc k) m)

  -- a type function of so many parameters
  function-in : (S : Head N → ℕ → Type 0) (names : List N) (n : ℕ) (t : MlType N) → Speaks (λ k. k < n) (λ v. ⊥) (IsHeadIn S names) t → IsClosedIn S names (record { variables = replicate n false; body = t })
  function-in S names n t h = subst (λ m. Speaks (λ k. k < m) (λ v. ⊥) (IsHeadIn S names) t) (sym (length-replicate n false)) h

  -- the argument of a constructor, in which any number may stand for a parameter
  module _ (S : Head N → ℕ → Type 0) (names : List N) where
    abbrev IsArgumentIn : Option (MlType N) → Type 0
    IsArgumentIn None = Unit {0}
    IsArgumentIn (Some t) = Speaks (λ k. ⊥) Any (IsHeadIn S names) t

  -- what is read in an environment

  module _ (naming : Naming N) (S : Head N → ℕ → Type 0) (shape : IsShape naming S) (made : ℕ) (names : List N) (C : Env N) (inside : IsEnvIn S made names C) where
    bindings-in : {P : Type 0} (m : Map (TyStr N)) (bs : List (TypBind P)) (ts : Map (TyStr N)) → Each (IsTyStrIn S names) m → BindTypes C m bs ts → Each (IsTyStrIn S names) ts
    unfolding BindTypes Speaks
    bindings-in m [] ts i h = subst (Each (IsTyStrIn S names)) (sym h) i
    bindings-in m (b ∷ bs) ts i (t, h, k) =
        let n = length b.variables in
        let f = ty-speaks naming S shape names (λ j. j < n) (λ v. ⊥) made C inside (listed bound 0 b.variables) (listed-all (Speaks (λ j. j < n) (λ v. ⊥) (IsHeadIn S names)) bound n 0 b.variables (omega arith) (λ j l. l)) b.ty t h in
        let s : TyStr N = record { function = type_function b.variables t; constructors = [] } in
        bindings-in (put b.name.id s m) bs ts (each-put (IsTyStrIn S names) b.name.id s m (function-in S names n t f, tt) i) k

    argument-in : {P : Type 0} (vs : Map (MlType N)) → Each (Speaks (λ k. ⊥) Any (IsHeadIn S names)) vs → (u : Option (Ty P)) (a : Option (MlType N)) → MeansArgument C vs u a → IsArgumentIn S names a
    argument-in vs g None a h = subst (IsArgumentIn S names) (sym h) tt
    argument-in vs g (Some u) a (t, h, e) = subst (IsArgumentIn S names) (sym e) (ty-speaks naming S shape names (λ k. ⊥) Any made C inside vs g u t h)

    arguments-in : {P : Type 0} (vs : Map (MlType N)) → Each (Speaks (λ k. ⊥) Any (IsHeadIn S names)) vs → (cs : List (ConBind P)) (xs : Arguments N) → MeanArguments C vs cs xs → Each (IsArgumentIn S names) xs
    unfolding MeanArguments
    arguments-in vs g [] xs h = subst (Each (IsArgumentIn S names)) (sym h) tt
    arguments-in vs g (c ∷ cs) xs (a, rest, h, k, e) = subst (Each (IsArgumentIn S names)) (sym e) (argument-in vs g c.argument a h, arguments-in vs g cs rest k)

    all-arguments-in : {P : Type 0} (ds : List (DatBind P)) (gs : List (Arguments N)) → MeanAllArguments C ds gs → AllByRecursion (Each (IsArgumentIn S names)) gs
    unfolding MeanAllArguments Speaks Any
    all-arguments-in [] gs h = subst (AllByRecursion (Each (IsArgumentIn S names))) (sym h) tt
    all-arguments-in (d ∷ ds) gs (a, rest, h, k, e) =
        subst (AllByRecursion (Each (IsArgumentIn S names))) (sym e)
        (arguments-in (listed free 0 d.variables) (listed-all (Speaks (λ k. ⊥) Any (IsHeadIn S names)) free (length d.variables) 0 d.variables (omega arith) (λ j l. tt)) d.constructors a h, all-arguments-in ds rest k)

    exceptions-in : {P : Type 0} → ((k : Initial) → Stands (naming.initial k) names) → (vs : Map (MlType N)) → AreTypesIn S made names vs → (m : Map (Value N)) (bs : List (ExnBind P)) (xs : Map (Value N))
        → Each (IsValueIn S made names) m → BindExceptions naming C vs m bs xs → Each (IsValueIn S made names) xs
    unfolding BindExceptions Speaks
    exceptions-in {P} known vs g m [] xs i h = subst (Each (IsValueIn S made names)) (sym h) i
    exceptions-in {P} known vs g m (b ∷ bs) xs i (x, v, h, k) = exceptions-in known vs g (put x v m) bs xs (each-put (IsValueIn S made names) x v m (bound-in b h) i) k
      where
        bound-in : (b : ExnBind P) → BindsException naming C vs b x v → IsValueIn S made names v
        bound-in (new_exception c) (a, h, e, f) = subst (IsValueIn S made names) (sym f) (go c.argument a h, tt)
          where
            go : (u : Option (Ty P)) (a : Option (MlType N)) → MeansArgument C vs u a → Speaks (λ k. k < 0) (λ v. v < made) (IsHeadIn S names) (exception_type naming a)
            go None a h = subst (λ a. Speaks (λ k. k < 0) (λ v. v < made) (IsHeadIn S names) (exception_type naming a)) (sym h) ((known exn, shape.names_alone exn tt), tt)
            go (Some u) a (t, h, e) =
                subst (λ a. Speaks (λ k. k < 0) (λ v. v < made) (IsHeadIn S names) (exception_type naming a)) (sym e)
                ((tt, shape.arrows), (speaks-more _ _ _ _ (IsHeadIn S names) (IsHeadIn S names) t (ty-speaks naming S shape names (λ k. ⊥) (λ v. v < made) made C inside vs g u t h) (λ k b. absurd b) (λ v l. l) (λ h k q. q), (((known exn, shape.names_alone exn tt), tt), tt)))
        bound-in (exception_copy y z) h = value-found S made names C z.id v inside h.0

    opened-in : {P : Type 0} (F : Env N) (ss : List (LongName P)) (E : Env N) → IsEnvIn S made names F → Opens C F ss E → IsEnvIn S made names E
    unfolding Opens
    opened-in F [] E i h = subst (IsEnvIn S made names) (sym h) i
    opened-in F (s ∷ ss) E i (G, f, k) = opened-in (extend F G) ss E (extend-in S made names F G i (opened-found S made names C s.id G inside f)) k

  -- datatypes

  module _ (naming : Naming N) (S : Head N → ℕ → Type 0) (shape : IsShape naming S) (names : List N) where
    constructors-in : (t : MlType N) (es : List Bool) (cs : Arguments N) → Speaks (λ k. ⊥) Any (IsHeadIn S names) t → Each (IsArgumentIn S names) cs → Each (IsClosedIn S names) (constructors_of t es cs)
    unfolding Speaks
    constructors-in t es [] h k = tt
    constructors-in t es (c ∷ cs) h k =
        each-put (IsClosedIn S names) c.0 (constructor_scheme es (constructor_type t c.1)) (constructors_of t es cs) (constructor-in Any S names es (constructor_type t c.1) (go c.1 k.0)) (constructors-in t es cs h k.1)
      where
        go : (a : Option (MlType N)) → IsArgumentIn S names a → Speaks (λ k. ⊥) Any (IsHeadIn S names) (constructor_type t a)
        go None i = h
        go (Some u) i = ((tt, shape.arrows), (i, (h, tt)))

    name-function-in : (n : N) (k : ℕ) → IsHeadIn S names (name n) k → IsClosedIn S names (name_function n k)
    unfolding Speaks
    name-function-in n k h = function-in S names k (app (name n) (types_from bound 0 k)) (subst (IsHeadIn S names (name n)) (sym (count-parameters bound 0 k)) h, parameters-speak (λ j. j < k) (λ v. ⊥) (IsHeadIn S names) bound k 0 k (omega arith) (λ j l. l))

    -- names of datatypes, each with as many parts as its binding has parameters
    abbrev AreNamed : {P : Type 0} → List (DatBind P) → List N → Type 0
    AreNamed [] ns = Unit {0}
    AreNamed (d ∷ ds) [] = Unit {0}
    AreNamed (d ∷ ds) (n ∷ ns) = IsHeadIn S names (name n) (length d.variables) × AreNamed ds ns

    new-named : {P : Type 0} (ds : List (DatBind P)) (old ns : List N) → AreNew naming old ds ns → ((n : N) → Stands n ns → Stands n names) → AreNamed ds ns
    unfolding AreNew Stands
    new-named [] old ns new own = tt
    new-named (d ∷ ds) old ns (n, rest, o, i, a, c, h, e) own =
        let here : (m : N) → Stands m (n ∷ rest) → Stands m names = λ m k. own m (subst (Stands m) (sym e) k) in
        subst (AreNamed (d ∷ ds)) (sym e) ((here n (inl refl), subst (S (name n)) a (shape.named n)), new-named ds (n ∷ old) rest h (λ m k. here m (inr k)))

    types-of-datatypes-in : {P : Type 0} (m : Map (TyStr N)) (ds : List (DatBind P)) (ns : List N) → AreNamed ds ns → Each (IsTyStrIn S names) m → Each (IsTyStrIn S names) (datatype_types m ds ns)
    types-of-datatypes-in m [] ns q h = h
    types-of-datatypes-in m (d ∷ ds) [] q h = h
    types-of-datatypes-in m (d ∷ ds) (n ∷ ns) q h =
        let s : TyStr N = record { function = name_function n (length d.variables); constructors = [] } in
        types-of-datatypes-in (put d.name.id s m) ds ns q.1 (each-put (IsTyStrIn S names) d.name.id s m (name-function-in n (length d.variables) q.0, tt) h)

    constructor-values-in : (made k n : ℕ) (cs : Map (Scheme N)) → Each (IsClosedIn S names) cs → Each (IsValueIn S made names) (constructors_from k n cs)
    constructor-values-in made k n [] h = tt
    constructor-values-in made k n (c ∷ cs) h = ((closed-scheme S made names c.1 h.0, tt), constructor-values-in made (suc k) n cs h.1)

    pub copied-in : (made : ℕ) (x : Id) (t : TyStr N) → IsTyStrIn S names t → IsEnvIn S made names (maps no_structure ((x, t) ∷ []) (constructor_values t.constructors))
    unfolding IsEnvIn
    copied-in made x t h = (tt, (h, tt), constructor-values-in made 0 (length t.constructors) t.constructors h.1)

    -- the same with the arguments of their constructors
    abbrev AreDatatypesIn : {P : Type 0} → List (DatBind P) → List (N × Arguments N) → Type 0
    AreDatatypesIn [] gs = Unit {0}
    AreDatatypesIn (d ∷ ds) [] = Unit {0}
    AreDatatypesIn (d ∷ ds) (a ∷ gs) = (IsHeadIn S names (name a.0) (length d.variables) × Each (IsArgumentIn S names) a.1) × AreDatatypesIn ds gs

    with-names-in : {P : Type 0} (ds : List (DatBind P)) (ns : List N) (gs : List (Arguments N)) → AreNamed ds ns → AllByRecursion (Each (IsArgumentIn S names)) gs → AreDatatypesIn ds (with_names ns gs)
    with-names-in [] ns gs h k = tt
    with-names-in (d ∷ ds) [] gs h k = tt
    with-names-in (d ∷ ds) (n ∷ ns) [] h k = tt
    with-names-in (d ∷ ds) (n ∷ ns) (a ∷ gs) h k = ((h.0, k.0), with-names-in ds ns gs h.1 k.1)

    datatypes-in : {P : Type 0} (made : ℕ) (ds : List (DatBind P)) (gs : List (N × Arguments N)) → AreDatatypesIn ds gs → IsEnvIn S made names (datatype_envs ds gs)
    unfolding IsEnvIn Speaks Any
    datatypes-in made [] gs h = empty-in S made names
    datatypes-in made (d ∷ ds) [] h = empty-in S made names
    datatypes-in made (d ∷ ds) (a ∷ gs) h =
        let n : ℕ = length d.variables in
        let t : MlType N = app (name a.0) (types_from free 0 n) in
        let cs : Map (Scheme N) = constructors_of t (map (λ x. is_equality x.id) d.variables) a.1 in
        let own : Each (IsClosedIn S names) cs =
        constructors-in t (map (λ x. is_equality x.id) d.variables) a.1
        (subst (IsHeadIn S names (name a.0)) (sym (count-parameters free 0 n)) h.0.0, parameters-speak (λ k. ⊥) Any (IsHeadIn S names) free n 0 n (omega arith) (λ j l. tt)) h.0.1 in
        extend-in S made names (datatype_env d a.0 a.1) (datatype_envs ds gs)
        (tt, ((name-function-in a.0 n h.0.0, own), tt), constructor-values-in made 0 (length cs) cs own) (datatypes-in made ds gs h.1)

module _ {P N : Type 0} {S : Head N → ℕ → Type 0} {scope : Scope N} {s : State P N} where
  pub types-lead : (p : P) (C : Env N) (bs : List (TypBind P)) → EnvAt S C s → Leads S scope s (read_types scope p C bs) (NoneAt S)
  types-lead p C bs c =
      first (knows (λ w. looks {Q = λ ts s. Each (IsTyStrIn S s.names) ts} (read_type_binds C [] bs) (λ ts e. bindings-in scope.names S w.shape s.made s.names C c [] bs ts tt (type-binds-to C [] bs ts e)))) (λ ts t g q.
      first tests (λ u t' g' d. gives (λ w. types-in S 0 t'.names ts (all-more (λ e. IsTyStrIn S t.names e.1) (λ e. IsTyStrIn S t'.names e.1) (λ e k. str-more S t.made t.names t'.made t'.names g'.made g'.names e.1 k) ts q))))

  -- below whatever number the unknowns are
  pub exceptions-lead : (C : Env N) (vs : Map (MlType N)) (bs : List (ExnBind P))
      → Leads S scope s (look (read_exceptions scope C vs [] bs)) (λ m t. (k : ℕ) → IsEnvIn S k t.names C → AreTypesIn S k t.names vs → Each (IsValueIn S k t.names) m)
  exceptions-lead C vs bs =
      knows (λ w. looks (read_exceptions scope C vs [] bs) (λ m e k c h.
      exceptions-in scope.names S w.shape k s.names C c w.well.initials vs h [] bs m tt (exceptions-to scope C vs [] bs m e)))

  pub opened-leads : (C : Env N) (ss : List (LongName P)) → Leads S scope s (look (read_opened scope C empty ss)) (λ E t. (k : ℕ) → IsEnvIn S k t.names C → IsEnvIn S k t.names E)
  opened-leads C ss =
      knows (λ w. looks (read_opened scope C empty ss) (λ E e k c. opened-in scope.names S w.shape k s.names C c empty ss E (empty-in S k s.names) (opened-to scope C empty ss E e)))

  pub copied-leads : (x : Id) (t : TyStr N) → IsTyStrIn S s.names t → Leads S scope s (give (maps no_structure ((x, t) ∷ []) (constructor_values t.constructors))) (NoneAt S)
  copied-leads x t h = gives (λ w. copied-in scope.names S w.shape s.names 0 x t h)

  pub datatypes-lead : (p : P) (C : Env N) (ds : List (DatBind P)) → EnvAt S C s → Leads S scope s (read_datatypes scope p C ds) (NoneAt S)
  unfolding IsAnswer
  datatypes-lead p C ds c = record { ends = λ w r a. go w r a }
    where
      go : Known S scope s → (r : Env N × State P N) → IsAnswer scope (read_datatypes scope p C ds) s (accepted r) → Known S scope r.1 × IsGrown s r.1 × NoneAt S r.0 r.1
      go w r (ns, new, made, inl h) = absurd (not_refused h.2)
      go w r (ns, new, made, inr (gs, e, admits, a)) =
          let t : State P N = with_made ns s in
          let g : IsGrown s t = record { made = omega arith; names = λ n h. right n ns s.names h; stays_open = λ e. e } in
          let own : AreNamed scope.names S w.shape t.names ds ns = new-named scope.names S w.shape t.names ds (names_env C ++ s.names) ns new (λ n h. left n ns s.names h) in
          let inside : EnvAt S (extend C (of_types (datatype_types [] ds ns))) t =
          extend-in S s.made t.names C (of_types (datatype_types [] ds ns)) (env-up S g C c)
          (types-in S s.made t.names (datatype_types [] ds ns) (types-of-datatypes-in scope.names S w.shape t.names [] ds ns own tt)) in
          let args = all-arguments-in scope.names S w.shape s.made t.names (extend C (of_types (datatype_types [] ds ns))) inside ds gs (all-arguments-to (extend C (of_types (datatype_types [] ds ns))) ds gs e) in
          let given : NoneAt S (datatype_envs ds (with_names ns gs)) t =
          datatypes-in scope.names S w.shape t.names 0 ds (with_names ns gs) (with-names-in scope.names S w.shape t.names ds ns gs own args) in
          continues {Q = NoneAt S} s t _ g (grown-well s t g refl refl)
          (first tests (λ u t' g' d. gives (λ w. none-up S g' (datatype_envs ds (with_names ns gs)) given))) w r a
