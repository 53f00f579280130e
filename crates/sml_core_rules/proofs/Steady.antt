-- Scripts that never start anew: what meets the demands at the end met those before. Patterns are read by such.
use Rattle.std.specs.Prelude.{◌≤◌, ℕ, suc, Bool, true, false, cond, List, [], ◌∷◌, ◌++◌, Option, Some, None}
use mathlib.Core.Path.{ap, subst}
use mathlib.Core.Logic.{inl, inr}
use Rattle.sml_tree.specs.Trees.{Id}
use Rattle.sml_tree.specs.Names.{Name, LongName}
use Rattle.sml_tree.specs.Types.{Ty}
use Rattle.sml_tree.specs.Patterns.{Pat, Pats, PatFields, wildcard, pat_constant, pat_name, pat_row, pat_tuple, pat_bracket, pat_apply, pat_typed, pat_as, no_pat, and_pat, pat_field, no_pat_field, and_pat_field}
use Rattle.sml_objects.specs.Maps.{Map}
use Rattle.sml_objects.specs.Objects.{MlType, MlTypes, Scheme, bound, free, app, arrow, row, name, no_type, and_type, tuple_of}
use Rattle.sml_objects.specs.Sizes.{type_size}
use Rattle.sml_objects.specs.Types.{instance_from}
use Rattle.sml_lex.specs.declared.fault.Code.TheVariants.{E7}
use Rattle.sml_layers.specs.declared.layer.Layer.TheVariants.{Rigidity}
use Rattle.sml_rules.specs.Answers.{Answer, refused, accepted, fault}
use Rattle.sml_rules.specs.Lookups.{Found, found, no_path, no_entry}
use Rattle.sml_rules.proofs.Sound.{accepted_same, not_refused}
use Rattle.sml_core_rules.specs.Objects.{Env, Value, Status, variable, constructor, exception, overloaded}
use Rattle.sml_core_rules.specs.States.{Scope, State, with_demand}
use Rattle.sml_core_rules.specs.Solutions.{Meets}
use Rattle.sml_core_rules.specs.Datatypes.{Arguments}
use Rattle.sml_core_rules.specs.Scripts.{Script, give, refuse, tests, either, makes_unknowns, requires, sees, sets_window, stays_open, judges, starts_anew, requires_or, closes, determines, makes_names, makes_datatypes, ◌>>=◌, look, test, new_overloaded, IsAnswer}
use Rattle.sml_core_rules.specs.Lookups.{value_at}
use Rattle.sml_core_rules.specs.Types.{Fields, put_field, read_ty, type_place}
use Rattle.sml_core_rules.specs.Values.{instance, applied, apply_general, require_attributes, require_status, require_equal, find_value}
use Rattle.sml_core_rules.specs.Patterns.{Bindings, Typed, typed, is_empty, is_variable_alone, read_constraint, bind_variable, constructor_instance, found_constructor, read_named, read_row, bind_layered, read_layered, read_pat, read_pats, read_pat_fields}

unfoldable pub IsSteady : {P N X : Type 0} → Script P N X → Type 0
IsSteady (give x) = Unit {0}
IsSteady (refuse f) = Unit {0}
IsSteady (tests C f k) = IsSteady k
IsSteady (either C k j) = IsSteady k × IsSteady j
IsSteady (makes_unknowns n k) = (v : ℕ) → IsSteady (k v)
IsSteady (requires d p k) = IsSteady k
IsSteady {P} {N} (sees k) = (s : State P N) → IsSteady (k s)
IsSteady (sets_window w k) = IsSteady k
IsSteady (stays_open k) = IsSteady k
IsSteady (judges j k) = IsSteady k
IsSteady (starts_anew k) = ⊥
IsSteady (requires_or d f k) = IsSteady k
IsSteady {N = N} (closes n x t k) = (σ : Scheme N) → IsSteady (k σ)
IsSteady {N = N} (determines t f k) = (u : MlType N) → IsSteady (k u)
IsSteady {N = N} (makes_names ws k) = (ns : List N) → IsSteady (k ns)
IsSteady {N = N} (makes_datatypes C ds k) = (ns : List N) (gs : List (Arguments N)) → IsSteady (k ns gs)

pub steady-bind : {P N X Y : Type 0} (m : Script P N X) (f : X → Script P N Y) → IsSteady m → ((x : X) → IsSteady (f x)) → IsSteady (m >>= f)
unfolding IsSteady ◌>>=◌
steady-bind (give x) f h k = k x
steady-bind (refuse e) f h k = tt
steady-bind (tests C e m) f h k = steady-bind m f h k
steady-bind (either C m n) f h k = (steady-bind m f h.0 k, steady-bind n f h.1 k)
steady-bind (makes_unknowns n m) f h k = λ v. steady-bind (m v) f (h v) k
steady-bind (requires d p m) f h k = steady-bind m f h k
steady-bind (sees m) f h k = λ s. steady-bind (m s) f (h s) k
steady-bind (sets_window w m) f h k = steady-bind m f h k
steady-bind (stays_open m) f h k = steady-bind m f h k
steady-bind (judges j m) f h k = steady-bind m f h k
steady-bind (starts_anew m) f h k = absurd h
steady-bind (requires_or d e m) f h k = steady-bind m f h k
steady-bind (closes n x t m) f h k = λ σ. steady-bind (m σ) f (h σ) k
steady-bind (determines t e m) f h k = λ u. steady-bind (m u) f (h u) k
steady-bind (makes_names ws m) f h k = λ ns. steady-bind (m ns) f (h ns) k
steady-bind (makes_datatypes C ds m) f h k = λ ns gs. steady-bind (m ns gs) f (h ns gs) k

module _ {P N : Type 0} (scope : Scope N) (σ : ℕ → MlType N) where
  pub met-before : {X : Type 0} (k : Script P N X) → IsSteady k → (s : State P N) (r : X × State P N) → IsAnswer scope k s (accepted r) → Meets scope r.1 Rigidity σ → Meets scope s Rigidity σ
  unfolding IsAnswer IsSteady
  met-before (give x) e s r h m = subst (λ s. Meets scope s Rigidity σ) (ap (λ q. q.1) (accepted_same h)) m
  met-before (refuse f) e s r h m = absurd (not_refused h)
  met-before (tests C f k) e s r (inl h) m = met-before k e s r h.1 m
  met-before (tests C f k) e s r (inr h) m = absurd (not_refused h.1)
  met-before (either C k j) e s r (inl h) m = met-before k e.0 s r h.1 m
  met-before (either C k j) e s r (inr h) m = met-before j e.1 s r h.1 m
  met-before (makes_unknowns n k) e s r h m = met-before (k s.made) (e s.made) _ r h m
  met-before (requires d p k) e s r (inl h) m = (met-before k e (with_demand d s) r h.1 m).1
  met-before (requires d p k) e s r (inr h) m = absurd (not_refused h.2)
  met-before (sees k) e s r h m = met-before (k s) (e s) s r h m
  met-before (sets_window w k) e s r h m = met-before k e _ r h m
  met-before (stays_open k) e s r h m = met-before k e _ r h m
  met-before (judges j k) e s r h m = met-before k e _ r h m
  met-before (starts_anew k) e s r h m = absurd e
  met-before (requires_or d f k) e s r (inl h) m = (met-before k e (with_demand d s) r h.1 m).1
  met-before (requires_or d f k) e s r (inr h) m = absurd (not_refused h.1)
  met-before (closes n x t k) e s r (θ, c, h) m = met-before (k θ) (e θ) s r h m
  met-before (determines t f k) e s r (inl (u, c, h)) m = met-before (k u) (e u) s r h m
  met-before (determines t f k) e s r (inr h) m = absurd (not_refused h.1)
  met-before (makes_names ws k) e s r (ns, c, h) m = met-before (k ns) (e ns) _ r h m
  met-before (makes_datatypes C ds k) e s r (ns, c, d, inl h) m = absurd (not_refused h.2)
  met-before (makes_datatypes C ds k) e s r (ns, c, d, inr (gs, f, g, h)) m = met-before (k ns gs) (e ns gs) _ r h m

-- what patterns are read by

module _ (P N : Type 0) where
  pub give-steady : {X : Type 0} (x : X) → IsSteady {P = P} {N = N} (give x)
  unfolding IsSteady
  give-steady x = tt

  pub overloaded-steady : (k : ℕ) → IsSteady {P = P} {N = N} (new_overloaded k)
  unfolding IsSteady ◌>>=◌
  overloaded-steady k = λ s. tt

  look-steady : {X : Type 0} (a : Answer P X) → IsSteady {P = P} {N = N} (look a)
  unfolding IsSteady
  look-steady (refused f) = tt
  look-steady (accepted x) = tt

  pub attributes-steady : (p : P) (k : ℕ) (es : List Bool) → IsSteady {P = P} {N = N} (require_attributes p k es)
  unfolding IsSteady ◌>>=◌
  attributes-steady p k [] = tt
  attributes-steady p k (false ∷ es) = attributes-steady p (suc k) es
  attributes-steady p k (true ∷ es) = attributes-steady p (suc k) es

  pub status-steady : (p : P) (k : ℕ) (w : Status) → IsSteady {P = P} {N = N} (require_status p k w)
  unfolding IsSteady ◌>>=◌
  status-steady p k variable = tt
  status-steady p k (constructor i n) = tt
  status-steady p k exception = tt
  status-steady p k (overloaded c) = overloaded-steady k

module _ {P N : Type 0} where
  pub equal-steady : (p : P) (t u : MlType N) → IsSteady (require_equal p t u)
  unfolding IsSteady
  equal-steady p t u = tt

  instance-steady : (p : P) (v : Value N) → IsSteady (instance p v)
  unfolding IsSteady ◌>>=◌
  instance-steady p v = λ k.
      steady-bind (require_attributes p k v.scheme.variables) (λ _. require_status p k v.status >>= λ _. give (instance_from k v.scheme.body)) (attributes-steady P N p k v.scheme.variables)
      (λ _. steady-bind (require_status p k v.status) (λ _. give (instance_from k v.scheme.body)) (status-steady P N p k v.status) (λ _. tt))

  general-steady : (p : P) (t a : MlType N) → IsSteady (apply_general p t a)
  unfolding IsSteady ◌>>=◌
  general-steady p t a = λ v. tt

  pub applied-steady : (p : P) (t a : MlType N) → IsSteady (applied p t a)
  unfolding IsSteady ◌>>=◌
  applied-steady p (bound k) a = general-steady p (bound k) a
  applied-steady p (free v) a = general-steady p (free v) a
  applied-steady p (app (row ls) ts) a = general-steady p (app (row ls) ts) a
  applied-steady p (app (name n) ts) a = general-steady p (app (name n) ts) a
  applied-steady p (app arrow no_type) a = general-steady p (app arrow no_type) a
  applied-steady p (app arrow (and_type from no_type)) a = general-steady p (app arrow (and_type from no_type)) a
  applied-steady p (app arrow (and_type from (and_type to (and_type u us)))) a = general-steady p (app arrow (and_type from (and_type to (and_type u us)))) a
  applied-steady p (app arrow (and_type from (and_type to no_type))) a = tt

abbrev Read : Type 0 → Type 0 → Type 0 → Type 1
Read P N X = Script P N (Typed N X)

module _ {P N : Type 0} (scope : Scope N) where
  variable-steady : (p : P) (x : Id) (bs : Bindings N) → IsSteady (bind_variable scope p x bs)
  unfolding IsSteady ◌>>=◌
  variable-steady p x bs = λ v. tt

  pub constructor-steady : (p q : P) (b : Bool) (v : Value N) → IsSteady (constructor_instance scope p q b v)
  unfolding IsSteady ◌>>=◌
  constructor-steady p q b v = instance-steady p v

  found-steady : (x : LongName P) (f : Found (Value N)) → IsSteady (found_constructor scope x f)
  unfolding IsSteady
  found-steady x (found v) = tt
  found-steady x (no_path s) = tt
  found-steady x no_entry = tt

  module _ (is_rec : Bool) (C : Env N) (vs : Map (MlType N)) where
    pub constraint-steady : (ty : Ty P) → IsSteady (read_constraint C vs ty)
    unfolding IsSteady ◌>>=◌
    constraint-steady ty = steady-bind (look (read_ty C vs ty)) (λ t. test (type_size t ≤ 10000) (fault E7 (type_place ty)) >>= λ _. give t) (look-steady P N (read_ty C vs ty)) (λ _. tt)

    named-steady : (p : P) (x : LongName P) (bs : Bindings N) → IsSteady {X = Typed N (MlType N)} (read_named scope is_rec C vs p x bs)
    unfolding IsSteady
    named-steady p x bs = go (is_empty x.id.path) (is_variable_alone is_rec C x.id.last) (bind_variable scope x.place x.id.last bs) (variable-steady x.place x.id.last bs)
      where
        constant : IsSteady {X = Typed N (MlType N)} (find_value C x >>= λ v. constructor_instance scope p x.place false v >>= λ t. give (typed t bs))
        constant =
            steady-bind (find_value C x) (λ v. constructor_instance scope p x.place false v >>= λ t. give (typed t bs)) (look-steady P N _)
            (λ v. steady-bind (constructor_instance scope p x.place false v) (λ t. give (typed t bs)) (constructor-steady p x.place false v) (λ t. give-steady P N (typed t bs)))

        go : (b c : Bool) (k : Script P N (Typed N (MlType N))) → IsSteady k
            → IsSteady {X = Typed N (MlType N)}
            (cond b (cond c k (find_value C x >>= λ v. constructor_instance scope p x.place false v >>= λ t. give (typed t bs))) (find_value C x >>= λ v. constructor_instance scope p x.place false v >>= λ t. give (typed t bs)))
        go true true k h = h
        go true false k h = constant
        go false c k h = constant

    pub row-steady : (p : P) (b : Bool) (fs : Fields (MlType N)) → IsSteady (read_row scope is_rec C vs p b fs)
    unfolding IsSteady ◌>>=◌
    row-steady p false fs = tt
    row-steady p true fs = λ v s. tt

    bound-steady : (p : P) (x : Id) (ty : Option (Ty P)) (bs : Bindings N) → IsSteady (bind_layered scope is_rec C vs p x ty bs)
    unfolding IsSteady ◌>>=◌
    bound-steady p x None bs = variable-steady p x bs
    bound-steady p x (Some ty) bs = steady-bind (read_constraint C vs ty) (λ t. give (typed t (bs ++ (x, t) ∷ []))) (constraint-steady ty) (λ _. tt)

    layered-steady : (x : Name P) (ty : Option (Ty P)) (bs : Bindings N) → IsSteady (read_layered scope is_rec C vs x ty bs)
    unfolding IsSteady ◌>>=◌
    layered-steady x ty bs = bound-steady x.place x.id ty bs

    mutual
      unfolding IsSteady read_pat read_pats read_pat_fields ◌>>=◌

      pub pat-steady : (bs : Bindings N) (q : Pat P) → IsSteady (read_pat scope is_rec C vs bs q)
      pat-steady bs (wildcard p) = λ v. tt
      pat-steady bs (pat_constant p c) = tt
      pat-steady bs (pat_name p x) = named-steady p x bs
      pat-steady bs (pat_row p fs b) =
          let last : Typed N (Fields (MlType N)) → Read P N (MlType N) = λ r. read_row scope is_rec C vs p b r.type >>= λ t. give (typed t r.bound) in
          steady-bind (read_pat_fields scope is_rec C vs bs [] fs) last (fields-steady bs [] fs)
          (λ r. steady-bind (read_row scope is_rec C vs p b r.type) (λ t. give (typed t r.bound)) (row-steady p b r.type) (λ _. tt))
      pat-steady bs (pat_tuple p qs) = steady-bind (read_pats scope is_rec C vs bs qs) (λ r. give (typed (tuple_of r.type) r.bound)) (pats-steady bs qs) (λ _. tt)
      pat-steady bs (pat_bracket p q) = pat-steady bs q
      pat-steady bs (pat_apply p x q) =
          let end : MlType N → Typed N (MlType N) → Read P N (MlType N) = λ t r. applied p t r.type >>= λ u. give (typed u r.bound) in
          let inner : MlType N → Read P N (MlType N) = λ t. read_pat scope is_rec C vs bs q >>= λ r. end t r in
          let outer : Value N → Read P N (MlType N) = λ v. constructor_instance scope p x.place true v >>= λ t. inner t in
          steady-bind (found_constructor scope x (value_at C x.id)) outer (found-steady x (value_at C x.id))
          (λ v. steady-bind (constructor_instance scope p x.place true v) inner (constructor-steady p x.place true v)
          (λ t. steady-bind (read_pat scope is_rec C vs bs q) (end t) (pat-steady bs q)
          (λ r. steady-bind (applied p t r.type) (λ u. give (typed u r.bound)) (applied-steady p t r.type) (λ _. tt))))
      pat-steady bs (pat_typed p q ty) =
          let end : Typed N (MlType N) → MlType N → Read P N (MlType N) = λ r t. require_equal p r.type t >>= λ _. give (typed t r.bound) in
          steady-bind (read_pat scope is_rec C vs bs q) (λ r. read_constraint C vs ty >>= λ t. end r t) (pat-steady bs q)
          (λ r. steady-bind (read_constraint C vs ty) (end r) (constraint-steady ty) (λ t. tt))
      pat-steady bs (pat_as p x ty q) =
          let end : Typed N (MlType N) → Typed N (MlType N) → Read P N (MlType N) = λ t r. require_equal p t.type r.type >>= λ _. give (typed t.type r.bound) in
          steady-bind (read_layered scope is_rec C vs x ty bs) (λ t. read_pat scope is_rec C vs t.bound q >>= λ r. end t r) (layered-steady x ty bs)
          (λ t. steady-bind (read_pat scope is_rec C vs t.bound q) (end t) (pat-steady t.bound q) (λ r. tt))

      pub pats-steady : (bs : Bindings N) (qs : Pats P) → IsSteady (read_pats scope is_rec C vs bs qs)
      pats-steady bs no_pat = tt
      pats-steady bs (and_pat q qs) =
          let end : Typed N (MlType N) → Typed N (MlTypes N) → Read P N (MlTypes N) = λ r rs. give (typed (and_type r.type rs.type) rs.bound) in
          steady-bind (read_pat scope is_rec C vs bs q) (λ r. read_pats scope is_rec C vs r.bound qs >>= λ rs. end r rs) (pat-steady bs q)
          (λ r. steady-bind (read_pats scope is_rec C vs r.bound qs) (end r) (pats-steady r.bound qs) (λ _. tt))

      pub fields-steady : (bs : Bindings N) (fs : Fields (MlType N)) (qs : PatFields P) → IsSteady (read_pat_fields scope is_rec C vs bs fs qs)
      fields-steady bs fs no_pat_field = tt
      fields-steady bs fs (and_pat_field (pat_field l q) qs) =
          steady-bind (read_pat scope is_rec C vs bs q) (λ r. read_pat_fields scope is_rec C vs r.bound (put_field l.id r.type fs) qs) (pat-steady bs q)
          (λ r. fields-steady r.bound (put_field l.id r.type fs) qs)
