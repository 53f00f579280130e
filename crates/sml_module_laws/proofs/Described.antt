-- What specifications of values, exceptions, types and datatypes describe speaks of what was made.
use Rattle.std.specs.Prelude.{◌≡◌, ◌<◌, ◌≤◌, ◌+◌, ℕ, suc, Bool, List, [], ◌∷◌, ◌++◌, map, length, Option, Some, None}
use Rattle.std.proofs.Common.{arith}
use mathlib.Core.Path.{refl, sym, subst}
use mathlib.Core.Logic.{inl, inr}
use Rattle.sml_tree.specs.Trees.{Id}
use Rattle.sml_tree.specs.Names.{Name}
use Rattle.sml_tree.specs.Types.{Ty}
use Rattle.sml_tree.specs.Expressions.{ConBind, DatBind}
use Rattle.sml_tree.specs.Signatures.{ValDesc, TypDesc}
use Rattle.sml_objects.specs.Appearance.{Stands}
use Rattle.sml_objects.specs.Maps.{Map, put}
use Rattle.sml_objects.specs.Names.{Initial, exn}
use Rattle.sml_objects.specs.Objects.{MlType, Head, mono}
use Rattle.sml_rules.specs.Answers.{Answer, refused, accepted}
use Rattle.sml_rules.proofs.Sound.{accepted_same, not_refused}
use Rattle.sml_core_rules.specs.Answers.{◌>>=◌}
use Rattle.sml_core_rules.specs.Closing.{ty_variables}
use Rattle.sml_core_rules.specs.Datatypes.{AreSmall, is_equality, listed, name_function, constructor_scheme, datatype_envs, read_argument}
use Rattle.sml_core_rules.specs.Datatypes as T
use Rattle.sml_core_rules.specs.Expressions.{exception_type}
use Rattle.sml_core_rules.specs.Expressions as Core
use Rattle.sml_core_rules.specs.Objects.{Env, TyStr, Value, Sig, variable, exception, maps, values, of_types, of_values}
use Rattle.sml_core_rules.specs.Scripts as R
use Rattle.sml_core_rules.specs.Scripts.{IsAnswer, look}
use Rattle.sml_core_rules.specs.States.{Scope, State, Window, with_made}
use Rattle.sml_core_rules.specs.Types.{read_ty}
use Rattle.sml_core_rules.proofs.Derived.{ty-to}
use Rattle.sml_core_laws.specs.Made.{Speaks, IsEnvIn, IsTyStrIn, IsValueIn, IsHeadIn, IsGrown}
use Rattle.sml_core_laws.proofs.MadeShapes.{IsShape}
use Rattle.sml_core_laws.proofs.MadeTypes.{Each, each-put, all-more}
use Rattle.sml_core_laws.proofs.MadeEnvs.{closed-scheme, types-in, values-in}
use Rattle.sml_core_laws.proofs.MadeReadings.{ty-speaks}
use Rattle.sml_core_laws.proofs.MadeClosing.{constructor-in}
use Rattle.sml_core_laws.proofs.MadeBindings.{datatypes-lead}
use Rattle.sml_core_laws.proofs.MadeScripts.{EnvAt, NoneAt, Known}
use Rattle.sml_module_rules.specs.Lines.{Line, a_structure, a_type, a_value, lines, type_lines, value_lines, structure_lines, AreAllSmall, IsSmallEnv}
use Rattle.sml_module_rules.specs.Signatures.{once, standing, read_values, read_exceptions, attributes_of, described, read_types, read_datatypes}
use Rattle.sml_module_laws.specs.Made.{IsBodyIn}
use Rattle.sml_module_laws.proofs.Bodies.{IsUsual, values-usual, types-usual, datatypes-usual}
use Rattle.sml_module_laws.proofs.Realised.{AreNamed, name-in}
use Rattle.sml_module_laws.proofs.Steps.{Ready, Goes, BodyAt, body-up, first, knows, gives, looks, checks, makes-names}

abbrev Any : ℕ → Type 0
Any k = Unit {0}

pub bound-by : {P X Y : Type 0} (m : Answer P X) (next : X → Answer P Y) (y : Y) → (m >>= next) ≡ accepted y → (x : X) × (m ≡ accepted x) × (next x ≡ accepted y)
unfolding ◌>>=◌
bound-by (refused f) next y h = absurd (not_refused (sym h))
bound-by (accepted x) next y h = (x, refl, h)

pub listed-all : {P N : Type 0} (F : MlType N → Type 0) (f : ℕ → MlType N) (n k : ℕ) (xs : List (Name P)) → k + length xs ≤ n → ((j : ℕ) → j < n → F (f j)) → Each F (listed f k xs)
listed-all F f n k [] l h = tt
listed-all F f n k (x ∷ xs) l h = (h k (omega arith), listed-all F f n (suc k) xs (omega arith) h)

standing-all : {N : Type 0} (H : Head N → ℕ → Type 0) (k : ℕ) (xs : List Id) → Each (Speaks (λ k. ⊥) Any H) (standing k xs)
unfolding Speaks
standing-all H k [] = tt
standing-all H k (x ∷ xs) = (tt, standing-all H (suc k) xs)

-- what is small

small-after : {N : Type 0} (xs ys : List (Line (TyStr N) (Value N))) → AreAllSmall (xs ++ ys) → AreAllSmall ys
small-after [] ys h = h
small-after ((x, a_structure) ∷ xs) ys h = small-after xs ys h
small-after ((x, a_type t) ∷ xs) ys h = small-after xs ys h.2
small-after ((x, a_value v) ∷ xs) ys h = small-after xs ys h.1

small-lines : {N : Type 0} (vs : Map (Value N)) → AreAllSmall {N = N} (value_lines [] vs) → AreSmall (λ v. v.scheme) vs
small-lines [] h = tt
small-lines (v ∷ vs) h = (h.0, small-lines vs h.1)

small-values : {N : Type 0} (E : Env N) → IsSmallEnv E → AreSmall (λ v. v.scheme) (values E)
unfolding lines
small-values (maps ss ts vs) h = small-lines vs (small-after (type_lines [] ts) (value_lines [] vs) (small-after (structure_lines [] ss) (type_lines [] ts ++ value_lines [] vs) h))

module _ {N : Type 0} (S : Head N → ℕ → Type 0) (names : List N) where
  abbrev pub IsUsualIn : Value N → Type 0
  IsUsualIn v = IsValueIn S 0 names v × IsUsual v

  pub values-body : (vs : Map (Value N)) → Each IsUsualIn vs → IsBodyIn S names (of_values vs)
  values-body vs h =
      (values-in S 0 names vs (all-more (λ v. IsUsualIn v.1) (λ v. IsValueIn S 0 names v.1) (λ v k. k.0) vs h), values-usual vs (all-more (λ v. IsUsualIn v.1) (λ v. IsUsual v.1) (λ v k. k.1) vs h))

  module _ {P : Type 0} (scope : Scope N) (shape : IsShape scope.names S) (made : ℕ) (C : Env N) (c : IsEnvIn S made names C) where
    values-read : (m : Map (Value N)) (ds : List (ValDesc P)) (vs : Map (Value N)) → Each IsUsualIn m → read_values C m ds ≡ accepted vs → Each IsUsualIn vs
    unfolding read_values
    values-read m [] vs i h = subst (Each IsUsualIn) (accepted_same h) i
    values-read m (d ∷ ds) vs i h =
        let xs : List Id = once [] (ty_variables d.ty) in
        let a = bound-by (read_ty C (standing 0 xs) d.ty) _ vs h in
        let t = ty-speaks scope.names S shape names (λ k. ⊥) Any made C c (standing 0 xs) (standing-all (IsHeadIn S names) 0 xs) d.ty a.0 (ty-to C (standing 0 xs) d.ty a.0 a.1) in
        let v : Value N = record { scheme = constructor_scheme (map is_equality xs) a.0; status = variable } in
        values-read (put d.name.id v m) ds vs (each-put IsUsualIn d.name.id v m ((closed-scheme S 0 names v.scheme (constructor-in Any S names (map is_equality xs) a.0 t), tt), tt) i) a.2

    exception-read : ((k : Initial) → Stands (scope.names.initial k) names) → (u : Option (Ty P)) (a : Option (MlType N)) → read_argument C [] u ≡ accepted a
        → Speaks (λ k. k < 0) (λ v. v < 0) (IsHeadIn S names) (exception_type scope.names a)
    unfolding Speaks
    exception-read known None a h =
        subst (λ a. Speaks (λ k. k < 0) (λ v. v < 0) (IsHeadIn S names) (exception_type scope.names a)) (accepted_same h) ((known exn, shape.names_alone exn tt), tt)
    exception-read known (Some u) a h =
        let b = bound-by (read_ty C [] u) _ a h in
        let t = ty-speaks scope.names S shape names (λ k. k < 0) (λ v. v < 0) made C c [] tt u b.0 (ty-to C [] u b.0 b.1) in
        subst (λ a. Speaks (λ k. k < 0) (λ v. v < 0) (IsHeadIn S names) (exception_type scope.names a)) (accepted_same b.2)
        ((tt, shape.arrows), (t, (((known exn, shape.names_alone exn tt), tt), tt)))

    exceptions-read : ((k : Initial) → Stands (scope.names.initial k) names) → (m : Map (Value N)) (cs : List (ConBind P)) (vs : Map (Value N)) → Each IsUsualIn m → read_exceptions scope C m cs ≡ accepted vs → Each IsUsualIn vs
    unfolding read_exceptions
    exceptions-read known m [] vs i h = subst (Each IsUsualIn) (accepted_same h) i
    exceptions-read known m (d ∷ ds) vs i h =
        let a = bound-by (read_argument C [] d.argument) _ vs h in
        let v : Value N = record { scheme = mono (exception_type scope.names a.0); status = exception } in
        exceptions-read known (put d.name.id v m) ds vs (each-put IsUsualIn d.name.id v m ((exception-read known d.argument a.0 a.1, tt), tt) i) a.2

  described-in : {P : Type 0} (scope : Scope N) (e : Bool) (m : Map (TyStr N)) (ds : List (TypDesc P)) (ns : List N) → AreNamed scope.names S names (attributes_of scope e ds) ns → Each (IsTyStrIn S names) m
      → Each (IsTyStrIn S names) (described scope m ds ns)
  described-in scope e m [] ns q h = h
  described-in scope e m (d ∷ ds) [] q h = h
  described-in scope e m (d ∷ ds) (n ∷ ns) q h =
      let t : TyStr N = record { function = name_function n (length d.variables); constructors = [] } in
      described-in scope e (put d.name.id t m) ds ns q.1 (each-put (IsTyStrIn S names) d.name.id t m (name-in scope.names S names n (length d.variables) q.0, tt) h)

module _ {P N : Type 0} (S : Head N → ℕ → Type 0) where
  abbrev pub SigAt : Sig N → State P N → Type 0
  SigAt R s = BodyAt S R.body s

module _ {P N : Type 0} {S : Head N → ℕ → Type 0} {scope : Scope N} {w : Window P N} {s : State P N} where
  pub values-go : (C : Env N) (ds : List (ValDesc P)) → EnvAt S C s → Goes S scope w s (look (read_values C [] ds)) (λ m t. Each (IsUsualIn S t.names) m)
  values-go C ds c = knows (λ y. looks (read_values C [] ds) (λ m e. values-read S s.names scope y.known.shape s.made C c [] ds m tt e))

  pub exceptions-go : (C : Env N) (cs : List (ConBind P)) → EnvAt S C s → Goes S scope w s (look (read_exceptions scope C [] cs)) (λ m t. Each (IsUsualIn S t.names) m)
  exceptions-go C cs c = knows (λ y. looks (read_exceptions scope C [] cs) (λ m e. exceptions-read S s.names scope y.known.shape s.made C c y.known.well.initials [] cs m tt e))

  pub types-go : (p : P) (e : Bool) (ds : List (TypDesc P)) → Goes S scope w s (read_types scope p e ds) (SigAt S)
  types-go p e ds =
      first (makes-names (attributes_of scope e ds)) (λ ns t g h.
      first checks (λ u z i d.
      gives (body-up S i (of_types (described scope [] ds ns)) (types-in S 0 t.names (described scope [] ds ns) (described-in S t.names scope e [] ds ns h tt), types-usual (described scope [] ds ns)))))

  pub datatypes-go : (p : P) (C : Env N) (ds : List (DatBind P)) → EnvAt S C s → Goes S scope w s (read_datatypes scope p C ds) (SigAt S)
  unfolding IsAnswer R.◌>>=◌
  datatypes-go p C ds c = record { ends = λ y r a. go y r a }
    where
      go : Ready S scope w s → (r : Sig N × State P N) → IsAnswer scope (read_datatypes scope p C ds) s (accepted r) → Ready S scope w r.1 × IsGrown s r.1 × SigAt S r.0 r.1
      go y r (ns, new, made, inl h) = absurd (not_refused h.2)
      go y r (ns, new, made, inr (gs, e, admits, inr h)) = absurd (not_refused h.1)
      go y r (ns, new, made, inr (gs, e, admits, inl (small, a))) =
          let E : Env N = datatype_envs ds (T.with_names ns gs) in
          let t : State P N = with_made ns s in
          let b : IsAnswer scope (Core.read_datatypes scope p C ds) s (accepted (E, t)) = (ns, new, made, inr (gs, e, admits, inl (small-values E small, refl))) in
          let l = datatypes-lead p C ds c in
          let d : Known S scope t × IsGrown s t × NoneAt S E t = l.ends y.known (E, t) b in
          subst (λ r. Ready S scope w r.1 × IsGrown s r.1 × SigAt S r.0 r.1) (sym (accepted_same a)) (record { exact = y.exact; known = d.0; window = y.window }, d.1, (d.2, datatypes-usual ds (T.with_names ns gs)))
