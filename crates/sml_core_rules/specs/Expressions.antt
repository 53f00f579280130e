-- Expressions and declarations of the core (the Definition, section 4.10, rules 1 to 26, 30 and 31): what each asks, in text
-- order, and what it is answered. Nothing that runs is proved to meet this yet.
use Rattle.std.specs.Prelude.{is_some, ◌||◌, ◌≡◌, ℕ, Bool, true, false, cond, List, [], ◌∷◌, ◌++◌, map, length, drop, Option, Some, None}
use Rattle.std.specs.List.{AllByRecursion}
use Rattle.sml_lex.specs.declared.fault.Code.TheVariants.{E1, E2, E3, E5, E7, E9, U6, U7}
use Rattle.sml_tree.specs.Trees.{Id}
use Rattle.sml_tree.specs.Names.{LongName}
use Rattle.sml_tree.specs.Withtype.{dat_replaced}
use Rattle.sml_tree.specs.Patterns.{Pat}
use Rattle.sml_tree.specs.Expressions.{Exp, Exps, Fields, Rules, Dec, Decs, ValBinds, TypBind, DatBind, ExnBind, constant, name, row, tuple, let_in, bracket, apply, typed, handle, raise, fn, no_exp, and_exp, field, no_field, and_field, rule, no_rule, and_rule, val_dec, type_dec, datatype_dec, datatype_with, datatype_copy, exception_dec, local_dec, sequence_dec, open_dec, fixity_dec, no_dec, and_dec, bind, no_bind, and_bind, new_exception, exception_copy}
use Rattle.sml_objects.specs.Maps.{Map, lookup, put}
use Rattle.sml_objects.specs.Names.{Naming, int, exn}
use Rattle.sml_objects.specs.Objects.{MlType, MlTypes, Scheme, free, no_type, and_type, arrow_of, named, mono, tuple_of}
use Rattle.sml_layers.specs.declared.layer.Bound.TheVariants.{Newness, Locality}
use Rattle.sml_layers.specs.declared.layer.Layer.TheVariants.{Rigidity}
use Rattle.sml_layers.specs.Demands as D
use Rattle.sml_rules.specs.Answers.{Answer, fault}
use Rattle.sml_core_rules.specs.Answers as A
use Rattle.sml_core_rules.specs.Objects.{Env, Value, Status, variable, constructor, exception, overloaded, of_types, of_values, values, maps, no_structure, empty, extend}
use Rattle.sml_core_rules.specs.Lookups.{status_at, value_at, type_at, structure_at, is_listed}
use Rattle.sml_core_rules.specs.States.{Scope, State, Window, Holder, of_fn, of_handle, of_val, no_window}
use Rattle.sml_core_rules.specs.Scripts.{Script, give, makes_datatypes, ◌>>=◌, look, test, judge, need, new_unknown, new_unknowns, set_window, stay_open, so_far, where_so, require, close, IsAnswer}
use Rattle.sml_core_rules.specs.Solutions.{HasOneSetOfLabels, IsFixed, IsOverloaded, StandsForSmall}
use Rattle.sml_core_rules.specs.Types as T
use Rattle.sml_core_rules.specs.Types.{put_field, row_of}
use Rattle.sml_core_rules.specs.Values.{instance, applied, find_value, has_unknown, require_equal, require_so_far}
use Rattle.sml_core_rules.specs.Patterns.{Bindings, read_constraint, read_pat, pattern_place, constant_type}
use Rattle.sml_core_rules.specs.Closing.{is_expansive, is_function, expression_place, unguarded}
use Rattle.sml_core_rules.specs.Datatypes.{AreSmall, is_equality, with_names, read_type_binds, read_argument, datatype_envs, constructor_values}

-- what a group of patterns binds
abbrev pub bound_values : {N : Type 0} → Bindings N → Map (Value N)
bound_values [] = []
bound_values (b ∷ bs) = put b.0 (record { scheme = mono b.1; status = variable }) (bound_values bs)

-- A variable of a value declaration, its type, and whether its right side is expansive.
pub record Bound (N : Type 0) : Type 0 where
  pub id : Id
  pub type : MlType N
  pub expansive : Bool

abbrev pub bounds : {N : Type 0} → Bool → Bindings N → List (Bound N)
bounds x bs = map (λ b. record { id = b.0; type = b.1; expansive = x }) bs

-- those after the first ones
abbrev pub after : {N : Type 0} → Bindings N → Bindings N → Bindings N
after seen bs = drop (length seen) bs

-- the types that stay open
abbrev pub staying : {N : Type 0} → List (Bound N) → List (MlType N)
staying [] = []
staying (b ∷ bs) = cond b.expansive (b.type ∷ staying bs) (staying bs)

-- the variables with their schemes
abbrev pub closed_values : {N : Type 0} → List (Bound N) → List (Scheme N) → Map (Value N)
closed_values [] σs = []
closed_values (b ∷ bs) [] = []
closed_values (b ∷ bs) (σ ∷ σs) = put b.id (record { scheme = σ; status = variable }) (closed_values bs σs)

-- the variables of a list that are not in scope yet, each once
abbrev pub not_in_scope : {N : Type 0} → Map (MlType N) → List Id → List Id → List Id
not_in_scope vs seen [] = []
not_in_scope vs seen (x ∷ xs) =
    cond (is_some (lookup x vs) || is_listed x seen) (not_in_scope vs seen xs) (x ∷ not_in_scope vs (x ∷ seen) xs)

-- what a value declaration has around it: the unknowns made before it, the window of what is around it, and the unknowns of the
-- explicit variables that are scoped there
pub record Begun (P N : Type 0) : Type 0 where
  pub made : ℕ
  pub window : Window P N
  pub scoped : List ℕ
  pub variables : Map (MlType N)

abbrev pub is_exception : Status → Bool
is_exception variable = false
is_exception (constructor k n) = false
is_exception exception = true
is_exception (overloaded c) = false

abbrev pub exn_type : {N : Type 0} → Scope N → MlType N
exn_type scope = named (scope.names.initial exn)

abbrev pub exception_type : {N : Type 0} → Naming N → Option (MlType N) → MlType N
exception_type names None = named (names.initial exn)
exception_type names (Some t) = arrow_of t (named (names.initial exn))

-- the patterns of a match, each with the place of its rule
abbrev pub rule_patterns : {P : Type 0} → Rules P → List (P × Pat P)
rule_patterns no_rule = []
rule_patterns (and_rule (rule p q e) m) = (p, q) ∷ rule_patterns m

module _ {P N : Type 0} (scope : Scope N) where
  -- the variables of a pattern mention only names made so far
  abbrev pub require_bindings : P → Bindings N → Script P N (Unit {0})
  require_bindings p [] = give tt
  require_bindings p (b ∷ bs) = do
    u ← require_so_far Newness p b.1
    require_bindings p bs

  -- The beginning of a value declaration: explicit variables are scoped, which stand for themselves; those with two primes admit
  -- equality.
  abbrev pub admit_equality : P → Bool → ℕ → Script P N (Unit {0})
  admit_equality p false k = give tt
  admit_equality p true k = require (D.asks D.equality (free k)) p

  abbrev pub scope_variables : P → Map (MlType N) → List Id → Script P N (List ℕ × Map (MlType N))
  scope_variables p vs [] = give ([], vs)
  scope_variables p vs (x ∷ xs) = do
    k ← new_unknowns 1
    u ← require (D.asks (D.variable (record { number = k; equality = is_equality x })) (free k)) p
    e ← admit_equality p (is_equality x) k
    r ← scope_variables p ((x, free k) ∷ vs) xs
    give (k ∷ r.0, r.1)

  abbrev pub begin_values : P → Map (MlType N) → List Id → Script P N (Begun P N)
  begin_values p vs xs = do
    s ← so_far
    u ← set_window no_window
    r ← scope_variables p vs (not_in_scope vs [] xs)
    give (record { made = s.made; window = s.window; scoped = r.0; variables = r.1 })

  -- The end of a value declaration: of the unknowns of its overloaded identifiers, those that more than one type could be are int.
  abbrev pub settle : P → List ℕ → Script P N (Unit {0})
  settle p [] = give tt
  settle p (v ∷ vs) = do
    s ← so_far
    u ← where_so (IsOverloaded scope s v) (require_equal p (free v) (named (scope.names.initial int)))
    settle p vs

  -- each flexible row made in it has one set of labels
  abbrev pub require_labels : List (P × MlType N) → Script P N (Unit {0})
  require_labels [] = give tt
  require_labels (r ∷ rs) = do
    s ← so_far
    u ← test (HasOneSetOfLabels scope s Rigidity r.1) (fault U6 r.0)
    require_labels rs

  -- the explicit variables scoped in it are fixed by nothing that stays open
  abbrev pub require_general : P → Begun P N → List (Bound N) → Script P N (Unit {0})
  require_general p b bs = do
    s ← so_far
    test (AllByRecursion (λ v. ¬ (IsFixed scope s b.made (staying bs) v)) b.scoped) (fault U7 p)

  -- what the types of its variables stand for isn't too large
  abbrev pub require_small : P → List (Bound N) → Script P N (Unit {0})
  require_small p bs = do
    s ← so_far
    test (AllByRecursion (λ b. StandsForSmall scope s b.type) bs) (fault E7 p)

  -- the schemes of its variables
  abbrev pub close_all : ℕ → List (Bound N) → Script P N (List (Scheme N))
  close_all k [] = give []
  close_all k (b ∷ bs) = do
    σ ← close k b.expansive b.type
    σs ← close_all k bs
    give (σ ∷ σs)

  -- what is still unknown in them stays open, and mentions only names made so far
  abbrev pub require_bounds : P → List (Bound N) → List (Scheme N) → Script P N (Unit {0})
  require_bounds p [] σs = give tt
  require_bounds p (b ∷ bs) [] = give tt
  require_bounds p (b ∷ bs) (σ ∷ σs) = cond (has_unknown σ.body) (do
    o ← stay_open
    u ← require_so_far Newness p b.type
    require_bounds p bs σs) (require_bounds p bs σs)

  abbrev pub end_values : P → Begun P N → List (Bound N) → Script P N (Env N)
  end_values p b bs = do
    s ← so_far
    u ← settle p s.window.overloaded
    v ← require_labels s.window.rows
    w ← set_window b.window
    g ← require_general p b bs
    x ← require_small p bs
    σs ← close_all b.made bs
    y ← require_bounds p bs σs
    give (of_values (closed_values bs σs))

  -- types and datatypes
  abbrev pub read_types : P → Env N → List (TypBind P) → Script P N (Env N)
  read_types p C bs = do
    ts ← look (read_type_binds C [] bs)
    u ← test (AreSmall (λ t. t.function) ts) (fault E7 p)
    give (of_types ts)

  abbrev pub read_datatypes : P → Env N → List (DatBind P) → Script P N (Env N)
  read_datatypes p C ds = makes_datatypes C ds (λ ns gs. do
    u ← test (AreSmall (λ v. v.scheme) (values (datatype_envs ds (with_names ns gs)))) (fault E7 p)
    give (datatype_envs ds (with_names ns gs)))

  -- exceptions
  abbrev pub read_exception : Env N → Map (MlType N) → ExnBind P → Answer P (Id × Value N)
  read_exception C vs (new_exception c) =
      A.◌>>=◌ (read_argument C vs c.argument) (λ a. A.give (c.name.id, record { scheme = mono (exception_type scope.names a); status = exception }))
  read_exception C vs (exception_copy x y) =
      A.◌>>=◌ (A.need E1 y.place y.id (value_at C y.id)) (λ v. A.◌>>=◌ (A.check (is_exception v.status) (fault E5 y.place)) (λ u. A.give (x.id, v)))

  abbrev pub read_exceptions : Env N → Map (MlType N) → Map (Value N) → List (ExnBind P) → Answer P (Map (Value N))
  read_exceptions C vs m [] = A.give m
  read_exceptions C vs m (b ∷ bs) = A.◌>>=◌ (read_exception C vs b) (λ e. read_exceptions C vs (put e.0 e.1 m) bs)

  -- the structures that are opened, joined in their order
  abbrev pub read_opened : Env N → Env N → List (LongName P) → Answer P (Env N)
  read_opened C F [] = A.give F
  read_opened C F (s ∷ ss) = A.◌>>=◌ (A.need E3 s.place s.id (structure_at C s.id)) (λ E. read_opened C (extend F E) ss)

  -- warnings are those of these patterns in a context
  abbrev pub judge_patterns : Holder P → Env N → List (P × Pat P) → Script P N (Unit {0})
  judge_patterns h C qs = judge (record { holder = h; patterns = qs; status = status_at C })

  -- A type that is like that of the first rule, if there is one.
  abbrev pub like_first : P → Option (MlType N) → MlType N → Script P N (MlType N)
  like_first p None t = give t
  like_first p (Some f) t = do
    u ← require_equal p f t
    give f

  abbrev pub or_unknown : Option (MlType N) → Script P N (MlType N)
  or_unknown None = new_unknown
  or_unknown (Some t) = give t

  -- C has the environment, vs the types of the explicit type variables in scope.
  unfoldable mutual
    pub read_exp : Env N → Map (MlType N) → Exp P → Script P N (MlType N)
    read_exp C vs (constant p c) = give (constant_type scope.names c.kind)
    read_exp C vs (name p x) = do
      v ← find_value C x
      instance p v
    read_exp C vs (row p fs) = do
      r ← read_fields C vs [] fs
      give (row_of r)
    read_exp C vs (tuple p es) = do
      ts ← read_exps C vs es
      give (tuple_of ts)
    read_exp C vs (let_in p ds e) = do
      s ← so_far
      E ← read_decs C vs empty ds
      t ← read_exp (extend C E) vs e
      u ← require (D.asks (D.within Locality s.names) t) p
      give t
    read_exp C vs (bracket p e) = read_exp C vs e
    read_exp C vs (apply p f e) = do
      t ← read_exp C vs f
      a ← read_exp C vs e
      applied p t a
    read_exp C vs (typed p e ty) = do
      t ← read_exp C vs e
      w ← read_constraint C vs ty
      u ← require_equal p t w
      give w
    read_exp C vs (handle p e m) = do
      t ← read_exp C vs e
      h ← read_rules C vs None m
      u ← require_equal p h (arrow_of (exn_type scope) t)
      j ← judge_patterns (of_handle p) C (rule_patterns m)
      give t
    read_exp C vs (raise p e) = do
      t ← read_exp C vs e
      u ← require_equal p t (exn_type scope)
      new_unknown
    read_exp C vs (fn p m) = do
      t ← read_rules C vs None m
      j ← judge_patterns (of_fn p) C (rule_patterns m)
      give t

    pub read_exps : Env N → Map (MlType N) → Exps P → Script P N (MlTypes N)
    read_exps C vs no_exp = give no_type
    read_exps C vs (and_exp e es) = do
      t ← read_exp C vs e
      ts ← read_exps C vs es
      give (and_type t ts)

    -- fields; fs has the fields before these
    pub read_fields : Env N → Map (MlType N) → T.Fields (MlType N) → Fields P → Script P N (T.Fields (MlType N))
    read_fields C vs fs no_field = give fs
    read_fields C vs fs (and_field (field l e) es) = do
      t ← read_exp C vs e
      read_fields C vs (put_field l.id t fs) es

    -- The rules of a match, after the type of the first; each has the type of the first.
    pub read_rules : Env N → Map (MlType N) → Option (MlType N) → Rules P → Script P N (MlType N)
    read_rules C vs first no_rule = or_unknown first
    read_rules C vs first (and_rule (rule p q e) m) = do
      r ← read_pat scope false C vs [] q
      u ← require_bindings (pattern_place q) r.bound
      t ← read_exp (extend C (of_values (bound_values r.bound))) vs e
      f ← like_first p first (arrow_of r.type t)
      read_rules C vs (Some f) m

    -- declarations one after the other; F has what those before them bind
    pub read_decs : Env N → Map (MlType N) → Env N → Decs P → Script P N (Env N)
    read_decs C vs F no_dec = give F
    read_decs C vs F (and_dec d ds) = do
      E ← read_dec C vs d
      read_decs (extend C E) vs (extend F E) ds

    pub read_dec : Env N → Map (MlType N) → Dec P → Script P N (Env N)
    read_dec C vs (val_dec p xs bs rs) = do
      b ← begin_values p vs (map (λ x. x.id) xs ++ (unguarded bs ++ unguarded rs))
      r ← read_binds C b.variables [] [] bs
      q ← read_patterns C b.variables r.0 [] rs
      u ← read_rights (extend C (of_values (bound_values q.1))) b.variables q.0 rs
      end_values p b (r.1 ++ bounds false q.1)
    read_dec C vs (type_dec p bs) = read_types p C bs
    read_dec C vs (datatype_dec p ds) = read_datatypes p C ds
    read_dec C vs (datatype_with p ds bs) = do
      E ← read_datatypes p C (map (dat_replaced bs) ds)
      F ← read_types p (extend C E) bs
      give (extend E F)
    read_dec C vs (datatype_copy p x c) = do
      t ← need E2 c.place c.id (type_at C c.id)
      give (maps no_structure ((x.id, t) ∷ []) (constructor_values t.constructors))
    read_dec C vs (exception_dec p bs) = do
      m ← look (read_exceptions C vs [] bs)
      u ← test (AreSmall (λ v. v.scheme) m) (fault E7 p)
      give (of_values m)
    read_dec C vs (local_dec p ds es) = do
      E ← read_decs C vs empty ds
      read_decs (extend C E) vs empty es
    read_dec C vs (sequence_dec p ds) = read_decs C vs empty ds
    read_dec C vs (open_dec p ss) = look (read_opened C empty ss)
    read_dec C vs (fixity_dec p) = give empty

    -- Bindings before `rec`: what the patterns bind, whose variables are all apart, and the variables so far.
    pub read_binds : Env N → Map (MlType N) → Bindings N → List (Bound N) → ValBinds P → Script P N (Bindings N × List (Bound N))
    read_binds C vs seen done no_bind = give (seen, done)
    read_binds C vs seen done (and_bind (bind q e) bs) = do
      r ← read_pat scope false C vs seen q
      t ← read_exp C vs e
      u ← require_equal (pattern_place q) r.type t
      j ← judge_patterns (of_val (pattern_place q)) C ((pattern_place q, q) ∷ [])
      read_binds C vs r.bound (done ++ bounds (is_expansive C e) (after seen r.bound)) bs

    -- the patterns after `rec`, their types and what they bind
    pub read_patterns : Env N → Map (MlType N) → Bindings N → Bindings N → ValBinds P → Script P N (List (MlType N) × Bindings N)
    read_patterns C vs seen new no_bind = give ([], new)
    read_patterns C vs seen new (and_bind (bind q e) bs) = do
      r ← read_pat scope true C vs seen q
      u ← require_bindings (pattern_place q) (after seen r.bound)
      s ← read_patterns C vs r.bound (new ++ after seen r.bound) bs
      give (r.type ∷ s.0, s.1)

    -- the right sides after `rec`
    pub read_rights : Env N → Map (MlType N) → List (MlType N) → ValBinds P → Script P N (Unit {0})
    read_rights C vs ts no_bind = give tt
    read_rights C vs [] (and_bind b bs) = give tt
    read_rights C vs (t ∷ ts) (and_bind (bind q e) bs) = do
      u ← test (is_function e ≡ true) (fault E9 (expression_place e))
      a ← read_exp C vs e
      w ← require_equal (pattern_place q) t a
      read_rights C vs ts bs

-- what a declaration may be answered
abbrev pub IsReading : {P N : Type 0} → Scope N → Env N → Map (MlType N) → Dec P → State P N → Answer P (Env N × State P N) → Type 0
IsReading scope C vs d s o = IsAnswer scope (read_dec scope C vs d) s o

-- A declaration of the core in a basis: no unknown has been made and nothing asked.
abbrev pub at_first : {P N : Type 0} → List N → State P N
at_first ns = record { made = 0; names = ns; demands = []; window = no_window; is_open = false; judged = [] }
