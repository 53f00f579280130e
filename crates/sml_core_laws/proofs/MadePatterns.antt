-- Patterns are read to types of what was made, and so is what they bind.
use Rattle.std.specs.Prelude.{◌≡◌, ◌<◌, ◌≤◌, ◌+◌, ◌++◌, ℕ, suc, Bool, true, false, List, [], ◌∷◌, length, Option, Some, None}
use Rattle.std.proofs.Common.{arith}
use mathlib.Core.Path.{refl}
use Rattle.sml_tree.specs.Trees.{Id}
use Rattle.sml_tree.specs.Names.{Name, LongName}
use Rattle.sml_tree.specs.declared.patterns.ConstantKind.{ConstantKind}
use Rattle.sml_tree.specs.declared.patterns.ConstantKind.TheVariants as K
use Rattle.sml_tree.specs.Patterns.{Pat, Pats, PatFields, wildcard, pat_constant, pat_name, pat_row, pat_tuple, pat_bracket, pat_apply, pat_typed, pat_as, no_pat, and_pat, pat_field, no_pat_field, and_pat_field}
use Rattle.sml_tree.specs.Types.{Ty}
use Rattle.sml_objects.specs.Appearance.{Stands}
use Rattle.sml_objects.specs.Maps.{Map}
use Rattle.sml_objects.specs.Names.{Naming, Initial, int, word, real, string, char}
use Rattle.sml_objects.specs.Objects.{MlType, MlTypes, Scheme, bound, free, app, arrow, row, name, no_type, and_type, Head}
use Rattle.sml_rules.specs.Lookups.{Found, found, no_path, no_entry}
use Rattle.sml_core_rules.specs.Lookups.{value_at}
use Rattle.sml_core_rules.specs.Objects.{Env, Value, Status, variable, constructor, exception, overloaded}
use Rattle.sml_core_rules.specs.Patterns.{Bindings, Typed, typed, is_empty, is_variable_alone, constant_type, read_constraint, bind_variable, constructor_instance, found_constructor, read_named, read_row, bind_layered, read_layered, read_pat, read_pats, read_pat_fields}
use Rattle.sml_core_rules.specs.Scripts.{give, ◌>>=◌}
use Rattle.sml_core_rules.specs.States.{Scope, State}
use Rattle.sml_core_rules.specs.Types.{Fields, put_field, read_ty}
use Rattle.sml_core_rules.specs.Values.{require_attributes, require_status, instance, apply_general, applied, find_value}
use Rattle.sml_core_rules.proofs.Derived.{needed, ty-to}
use Rattle.std.specs.List.Sorted.{IsStrictlySortedBy}
use Rattle.sml_core_laws.proofs.MadeShapes.{IsShape, Rise, put-rises, row-speaks, heads-more}
use Rattle.sml_core_laws.specs.Made.{Speaks, HasVariable, IsTypeIn, IsValueIn, AllSpeak, IsGrown, IsHeadIn}
use Rattle.sml_core_laws.proofs.MadeTypes.{replaced-speaks, all-more, Each, all-join, each-field}
use Rattle.sml_core_laws.proofs.MadeEnvs.{value-found, scheme-more}
use Rattle.sml_core_laws.proofs.MadeReadings.{ty-speaks}
use Rattle.sml_core_laws.proofs.MadeScripts.{TypeAt, TypesAt, EnvAt, Done, Leads, onwards, type-up, types-up, env-up, first, gives, refuses, looks, chooses, tests, makes, makes-one, requires, equals, rows, overloads, knows}

pub constant-in : {N : Type 0} (names : Naming N) (S : Head N → ℕ → Type 0) → IsShape names S → (made : ℕ) (ns : List N) → ((k : Initial) → Stands (names.initial k) ns) → (c : ConstantKind) → IsTypeIn S made ns (constant_type names c)
unfolding Speaks
constant-in names S shape made ns h K.Integer = ((h int, shape.names_alone int tt), tt)
constant-in names S shape made ns h K.Word = ((h word, shape.names_alone word tt), tt)
constant-in names S shape made ns h K.Real = ((h real, shape.names_alone real tt), tt)
constant-in names S shape made ns h K.String = ((h string, shape.names_alone string tt), tt)
constant-in names S shape made ns h K.Character = ((h char, shape.names_alone char tt), tt)

module _ {P N : Type 0} (S : Head N → ℕ → Type 0) where
  abbrev pub ValueAt : Value N → State P N → Type 0
  ValueAt v s = IsValueIn S s.made s.names v

  abbrev pub AllAt : MlTypes N → State P N → Type 0
  AllAt ts s = AllSpeak (λ k. ⊥) (λ v. v < s.made) (IsHeadIn S s.names) ts

  -- a type and what was bound
  abbrev pub PatternAt : Typed N (MlType N) → State P N → Type 0
  PatternAt r s = TypeAt S r.type s × TypesAt S r.bound s

  abbrev PatternsAt : Typed N (MlTypes N) → State P N → Type 0
  PatternsAt r s = AllAt r.type s × TypesAt S r.bound s

  abbrev FieldsAt : Typed N (Fields (MlType N)) → State P N → Type 0
  FieldsAt r s = (TypesAt S r.type s × Rise r.type) × TypesAt S r.bound s

  value-up : {s t : State P N} → IsGrown s t → (v : Value N) → ValueAt v s → ValueAt v t
  value-up {s} {t} g v h = (scheme-more S s.made s.names t.made t.names g.made g.names v.scheme h.0, h.1)

  pub values-up : {s t : State P N} → IsGrown s t → (vs : Map (Value N)) → Each (IsValueIn S s.made s.names) vs → Each (IsValueIn S t.made t.names) vs
  values-up {s} {t} g vs h = all-more (λ v. ValueAt v.1 s) (λ v. ValueAt v.1 t) (λ v k. value-up g v.1 k) vs h

  pub added : (s : State P N) (bs : Bindings N) (x : Id) (t : MlType N) → TypesAt S bs s → TypeAt S t s → TypesAt S (bs ++ (x, t) ∷ []) s
  added s bs x t h k = all-join (λ b. TypeAt S b.1 s) bs ((x, t) ∷ []) h (k, tt)

module _ {P N : Type 0} {S : Head N → ℕ → Type 0} {scope : Scope N} where
  -- instances

  attributes-lead : (p : P) (k : ℕ) (es : List Bool) {s : State P N} → k + length es ≤ s.made → Leads S scope s (require_attributes p k es) Done
  unfolding Speaks
  attributes-lead p k [] l = gives (λ w. tt)
  attributes-lead p k (false ∷ es) l = attributes-lead p (suc k) es (omega arith)
  attributes-lead p k (true ∷ es) l = first (requires (omega arith)) (λ u t g q. attributes-lead p (suc k) es (let m = g.made in omega arith))

  status-lead : {s : State P N} (p : P) (k : ℕ) (w : Status) (σ : Scheme N) → HasVariable w σ → k + length σ.variables ≤ s.made → Leads S scope s (require_status p k w) Done
  unfolding Speaks
  status-lead p k variable σ h l = gives (λ w. tt)
  status-lead p k (constructor i n) σ h l = gives (λ w. tt)
  status-lead p k exception σ h l = gives (λ w. tt)
  status-lead p k (overloaded c) σ h l = first (requires (omega arith)) (λ u t g q. overloads (let m = g.made in omega arith))

  pub instance-leads : {s : State P N} (p : P) (v : Value N) → ValueAt S v s → Leads S scope s (instance p v) (TypeAt S)
  unfolding Speaks
  instance-leads p v h =
      first (makes (length v.scheme.variables)) (λ k t g below.
      first (attributes-lead p k v.scheme.variables below) (λ u t' g' q.
      first (status-lead p k v.status v.scheme h.1 (let m = g'.made in omega arith)) (λ u t'' g'' q.
      let e = onwards g (onwards g' g'') in
      let m = onwards g' g'' in
      let a = m.made in
      let b = e.made in
      gives (λ w. replaced-speaks (λ j. free (k + j)) free _ _ _ _ (IsHeadIn S _) (IsHeadIn S _) v.scheme.body h.0 (λ j l. omega arith) (λ v l. omega arith) (heads-more S _ _ e.names)))))

  general-leads : {s : State P N} (p : P) (t a : MlType N) → TypeAt S t s → TypeAt S a s → Leads S scope s (apply_general p t a) (TypeAt S)
  unfolding Speaks
  general-leads p t a h k = first makes-one (λ b s g q. first (knows (λ w. equals (type-up S g t h) ((tt, w.shape.arrows), (type-up S g a k, (q, tt))))) (λ u s' g' d. gives (λ w. type-up S g' b q)))

  pub applied-leads : {s : State P N} (p : P) (t a : MlType N) → TypeAt S t s → TypeAt S a s → Leads S scope s (applied p t a) (TypeAt S)
  unfolding Speaks
  applied-leads p (bound j) a h k = absurd h
  applied-leads p (free v) a h k = general-leads p (free v) a h k
  applied-leads p (app (row ls) ts) a h k = general-leads p (app (row ls) ts) a h k
  applied-leads p (app (name n) ts) a h k = general-leads p (app (name n) ts) a h k
  applied-leads p (app arrow no_type) a h k = general-leads p (app arrow no_type) a h k
  applied-leads p (app arrow (and_type from no_type)) a h k = general-leads p (app arrow (and_type from no_type)) a h k
  applied-leads p (app arrow (and_type from (and_type to (and_type u us)))) a h k = general-leads p (app arrow (and_type from (and_type to (and_type u us)))) a h k
  applied-leads p (app arrow (and_type from (and_type to no_type))) a h k = first (equals h.1.0 k) (λ u s g q. gives (λ w. type-up S g to h.1.1.0))

  pub value-leads : {s : State P N} (C : Env N) (x : LongName P) → EnvAt S C s → Leads S scope s (find_value C x) (ValueAt S)
  value-leads {s} C x c = looks _ (λ v e. value-found S s.made s.names C x.id v c (needed _ _ x.id _ v e))

  pub constraint-leads : {s : State P N} (C : Env N) (vs : Map (MlType N)) (ty : Ty P) → EnvAt S C s → TypesAt S vs s → Leads S scope s (read_constraint C vs ty) (TypeAt S)
  constraint-leads {s} C vs ty c h =
      first (knows (λ w. looks {Q = TypeAt S} (read_ty C vs ty) (λ t e. ty-speaks scope.names S w.shape s.names _ _ s.made C c vs h ty t (ty-to C vs ty t e)))) (λ t s' g q.
      first tests (λ u s'' g' d. gives (λ w. type-up S g' t q)))

  -- parts of patterns

  variable-leads : {s : State P N} (p : P) (x : Id) (bs : Bindings N) → TypesAt S bs s → Leads S scope s (bind_variable scope p x bs) (PatternAt S)
  variable-leads p x bs h = first tests (λ u s g d. first makes-one (λ t s' g' q. gives (λ w. (q, added S s' bs x t (types-up S (onwards g g') bs h) q))))

  constructor-leads : {s : State P N} (p q : P) (b : Bool) (v : Value N) → ValueAt S v s → Leads S scope s (constructor_instance scope p q b v) (TypeAt S)
  constructor-leads p q b v h = first tests (λ u s g d. first tests (λ u s' g' d. instance-leads p v (value-up S (onwards g g') v h)))

  found-leads : {s : State P N} (C : Env N) (x : LongName P) → EnvAt S C s → Leads S scope s (found_constructor scope x (value_at C x.id)) (ValueAt S)
  found-leads {s} C x c = go (value_at C x.id) (λ v e. value-found S s.made s.names C x.id v c e)
    where
      go : (f : Found (Value N)) → ((v : Value N) → f ≡ found v → ValueAt S v s) → Leads S scope s (found_constructor scope x f) (ValueAt S)
      go (found v) k = gives (λ w. k v refl)
      go (no_path p) k = refuses
      go no_entry k = refuses

  module _ (is_rec : Bool) (C : Env N) (vs : Map (MlType N)) where
    named-leads : {s : State P N} (p : P) (x : LongName P) (bs : Bindings N) → EnvAt S C s → TypesAt S bs s → Leads S scope s (read_named scope is_rec C vs p x bs) (PatternAt S)
    named-leads {s} p x bs c h = chooses (is_empty x.id.path) (λ e. chooses (is_variable_alone is_rec C x.id.last) (λ e. variable-leads x.place x.id.last bs h) (λ e. constant)) (λ e. constant)
      where
        constant : Leads S scope s (find_value C x >>= λ v. constructor_instance scope p x.place false v >>= λ t. give (typed t bs)) (PatternAt S)
        constant = first (value-leads C x c) (λ v t g q. first (constructor-leads p x.place false v q) (λ u t' g' q. gives (λ w. (q, types-up S (onwards g g') bs h))))

    row-leads : {s : State P N} (p : P) (b : Bool) (fs : Fields (MlType N)) → TypesAt S fs s → Rise fs → Leads S scope s (read_row scope is_rec C vs p b fs) (TypeAt S)
    unfolding Speaks
    row-leads p false fs h k = gives (λ w. row-speaks _ _ (IsHeadIn S _) fs (λ ls r. (tt, w.shape.rows ls r)) h k)
    row-leads p true fs h k = first makes-one (λ t s g q. first (requires (q, types-up S g fs h)) (λ u s' g' d. first (rows (type-up S g' t q)) (λ u s'' g'' d. gives (λ w. type-up S (onwards g' g'') t q))))

    bound-leads : {s : State P N} (p : P) (x : Id) (ty : Option (Ty P)) (bs : Bindings N) → EnvAt S C s → TypesAt S vs s → TypesAt S bs s → Leads S scope s (bind_layered scope is_rec C vs p x ty bs) (PatternAt S)
    bound-leads p x None bs c h k = variable-leads p x bs k
    bound-leads p x (Some ty) bs c h k =
        first tests (λ u s g d. first (constraint-leads C vs ty (env-up S g C c) (types-up S g vs h)) (λ t s' g' q. gives (λ w. (q, added S s' bs x t (types-up S (onwards g g') bs k) q))))

    layered-leads : {s : State P N} (x : Name P) (ty : Option (Ty P)) (bs : Bindings N) → EnvAt S C s → TypesAt S vs s → TypesAt S bs s → Leads S scope s (read_layered scope is_rec C vs x ty bs) (PatternAt S)
    layered-leads x ty bs c h k = first tests (λ u s g d. bound-leads x.place x.id ty bs (env-up S g C c) (types-up S g vs h) (types-up S g bs k))

    mutual
      unfolding read_pat Speaks IsStrictlySortedBy

      pub pat-leads : (bs : Bindings N) (q : Pat P) {s : State P N} → EnvAt S C s → TypesAt S vs s → TypesAt S bs s → Leads S scope s (read_pat scope is_rec C vs bs q) (PatternAt S)
      pat-leads bs (wildcard p) c h k = first makes-one (λ t s g q. gives (λ w. (q, types-up S g bs k)))
      pat-leads bs (pat_constant p x) {s} c h k = gives (λ w. (constant-in scope.names S w.shape s.made s.names w.well.initials x.kind, k))
      pat-leads bs (pat_name p x) c h k = named-leads p x bs c k
      pat-leads bs (pat_row p fs b) c h k =
          first (pat-fields-lead bs [] fs c h k (tt, tt)) (λ r s g q. first (row-leads p b r.type q.0.0 q.0.1) (λ t s' g' q'. gives (λ w. (q', types-up S g' r.bound q.1))))
      pat-leads bs (pat_tuple p qs) c h k = first (pats-lead bs qs c h k) (λ r s g q. gives (λ w. (((tt, w.shape.tuples r.type), q.0), q.1)))
      pat-leads bs (pat_bracket p q) c h k = pat-leads bs q c h k
      pat-leads bs (pat_apply p x q) c h k =
          first (found-leads C x c) (λ v s g a.
          first (constructor-leads p x.place true v a) (λ t s' g' b.
          let f = onwards g g' in
          first (pat-leads bs q (env-up S f C c) (types-up S f vs h) (types-up S f bs k)) (λ r z i d.
          first (applied-leads p t r.type (type-up S i t b) d.0) (λ u y j e. gives (λ w. (e, types-up S j r.bound d.1))))))
      pat-leads bs (pat_typed p q ty) c h k =
          first (pat-leads bs q c h k) (λ r s g a.
          first (constraint-leads C vs ty (env-up S g C c) (types-up S g vs h)) (λ t s' g' b.
          first (equals (type-up S g' r.type a.0) b) (λ u z i d. gives (λ w. (type-up S i t b, types-up S (onwards g' i) r.bound a.1)))))
      pat-leads bs (pat_as p x ty q) c h k =
          first (layered-leads x ty bs c h k) (λ t s g a.
          first (pat-leads t.bound q (env-up S g C c) (types-up S g vs h) a.1) (λ r s' g' b.
          first (equals (type-up S g' t.type a.0) b.0) (λ u z i d. gives (λ w. (type-up S (onwards g' i) t.type a.0, types-up S i r.bound b.1)))))

      pats-lead : (bs : Bindings N) (qs : Pats P) {s : State P N} → EnvAt S C s → TypesAt S vs s → TypesAt S bs s → Leads S scope s (read_pats scope is_rec C vs bs qs) (PatternsAt S)
      pats-lead bs no_pat c h k = gives (λ w. (tt, k))
      pats-lead bs (and_pat q qs) c h k =
          first (pat-leads bs q c h k) (λ r s g a.
          first (pats-lead r.bound qs (env-up S g C c) (types-up S g vs h) a.1) (λ rs s' g' b. gives (λ w. ((type-up S g' r.type a.0, b.0), b.1))))

      pat-fields-lead : (bs : Bindings N) (fs : Fields (MlType N)) (qs : PatFields P) {s : State P N} → EnvAt S C s → TypesAt S vs s → TypesAt S bs s → TypesAt S fs s × Rise fs
          → Leads S scope s (read_pat_fields scope is_rec C vs bs fs qs) (FieldsAt S)
      pat-fields-lead bs fs no_pat_field c h k f = gives (λ w. (f, k))
      pat-fields-lead bs fs (and_pat_field (pat_field l q) qs) c h k f =
          first (pat-leads bs q c h k) (λ r s g a.
          pat-fields-lead r.bound (put_field l.id r.type fs) qs (env-up S g C c) (types-up S g vs h) a.1 (each-field (λ t. TypeAt S t s) l.id r.type fs a.0 (types-up S g fs f.0), put-rises l.id r.type fs f.1))
