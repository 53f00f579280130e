-- Patterns fit the types that they were read to have, whatever types meet the demands.
use Rattle.std.specs.Prelude.{◌≡◌, ◌≤◌, ◌⊎◌, ◌+◌, ℕ, suc, Bool, true, false, ◌&&◌, ◌||◌, not, codes, List, [], ◌∷◌, ◌++◌, length, Option, Some, None}
use Rattle.std.proofs.Common.{arith, append-nil, append_assoc}
use mathlib.Core.Path.{refl, sym, ap, subst, ◌∙◌}
use mathlib.Core.Logic.{inl, inr}
use Rattle.std.proofs.lemmas.Bool.{false≢true}
use Rattle.std.proofs.lemmas.List.{map-append}
use Rattle.sml_objects.specs.Equality.{admits, all_admit, is_ref, admits_by, all_admit_by, has_equality}
use Rattle.sml_tree.specs.Trees.{Id}
use Rattle.sml_objects.specs.Maps.{lookup}
use Rattle.sml_objects.specs.Names.{Naming}
use Rattle.sml_objects.specs.Objects.{MlType, MlTypes, bound, free, app, arrow, row, name, no_type, and_type, arrow_of, tuple_of}
use Rattle.sml_objects.specs.Sizes.{type_size}
use Rattle.sml_objects.specs.Types.{assign, replace_type, instance_from}
use Rattle.sml_layers.specs.declared.layer.Layer.TheVariants.{Rigidity}
use Rattle.sml_layers.specs.Demands.{equal, asks, equality, of_class}
use Rattle.sml_rules.specs.Answers.{Answer, refused, accepted, fault}
use Rattle.sml_rules.proofs.Sound.{accepted_same, not_refused}
use Rattle.sml_core_rules.specs.Objects.{Env, Value, Status, variable, constructor, exception, overloaded, maps, replace, replaced}
use Rattle.sml_core_rules.specs.States.{Scope, State, with_unknowns, with_demand}
use Rattle.sml_core_rules.specs.Solutions.{Meets}
use Rattle.sml_core_rules.specs.Scripts.{give, ◌>>=◌, look, test, new_overloaded, IsAnswer}
use Rattle.sml_core_rules.specs.Values.{instance, apply_general, applied, require_attributes, require_status, value_constructs, is_constructor, is_arrow, find_value, require_equal}
use Rattle.sml_tree.specs.declared.patterns.ConstantKind.{ConstantKind}
use Rattle.sml_tree.specs.declared.patterns.ConstantKind.TheVariants as K
use Rattle.sml_tree.specs.Names.{Name, LongName}
use Rattle.sml_tree.specs.Patterns.{Pat, Pats, PatFields, wildcard, pat_constant, pat_name, pat_row, pat_tuple, pat_bracket, pat_apply, pat_typed, pat_as, no_pat, and_pat, pat_field, no_pat_field, and_pat_field}
use Rattle.sml_core_rules.specs.Patterns.{Bindings, Typed, typed, is_empty, constant_type, is_variable_alone, read_constraint, bind_variable, constructor_instance, found_constructor, read_row, bind_layered, read_layered, read_pat, read_pats, read_pat_fields}
use Rattle.sml_core_rules.specs.Rules.{IsRow, Means, MeansIfAsked, Constructs, Fits, FitAll, FitFields}
use Rattle.sml_core_rules.specs.Types.{Fields, put_field, read_ty, type_place}
use Rattle.sml_tree.specs.Types.{Ty}
use Rattle.sml_core_rules.specs.Lookups.{value_at, is_same}
use Rattle.sml_rules.specs.Lookups.{Found, found, no_path, no_entry}
use Rattle.sml_core_rules.specs.Contexts.{Context, IsType, AdmitWhereAsked, IsOfClass, IsInstance}
use Rattle.sml_core_rules.specs.Assigned.{assign_value, assign_env, assign_context, assign_bindings}
use Rattle.sml_lex.specs.declared.fault.Code.TheVariants.{E1, E7}
use Rattle.sml_lex.specs.Faults.{Fault}
use Rattle.sml_core_rules.specs.Answers.{need}
use Rattle.sml_core_rules.specs.Statements.{AreKnown, PatternsFit}
use Rattle.sml_core_rules.proofs.Derived.{needed, ty-to}
use Rattle.sml_core_rules.proofs.Apart.{pat-apart, apart-assigned}
use Rattle.sml_core_rules.proofs.Accepted.{given, bind-accepted, taken}
use Rattle.sml_core_rules.proofs.Steady.{met-before, give-steady, equal-steady, overloaded-steady, attributes-steady, status-steady, applied-steady, row-steady, constraint-steady, pat-steady, pats-steady, fields-steady}
use Rattle.sml_core_rules.proofs.Assigned.{there, assign_all, lookup-there, value-assigned, tuple-assigned, row-assigned, field-assigned, means-assigned, replaced-assigned}

-- a type that admits equality whatever its variables are

both-true : (b c : Bool) → (b && c) ≡ true → (b ≡ true) × (c ≡ true)
both-true true c h = (refl, h)
both-true false c h = absurd (false≢true h)

module _ {N : Type 0} (names : Naming N) (eq : ℕ → Bool) where
  mutual
    unfolding admits_by

    admits-more : (t : MlType N) → admits names t ≡ true → admits_by (is_ref names) eq (has_equality names) t ≡ true
    admits-more (bound k) h = absurd (false≢true h)
    admits-more (free v) h = absurd (false≢true h)
    admits-more (app arrow ts) h = absurd (false≢true h)
    admits-more (app (row ls) ts) h = all-admit-more ts h
    admits-more (app (name n) ts) h = go (is_ref names n) (has_equality names n) h (all-admit-more ts)
      where
        go : (b c : Bool) → (b || (c && all_admit names ts)) ≡ true → (all_admit names ts ≡ true → all_admit_by (is_ref names) eq (has_equality names) ts ≡ true)
            → (b || (c && all_admit_by (is_ref names) eq (has_equality names) ts)) ≡ true
        go true c h r = refl
        go false true h r = r h
        go false false h r = absurd (false≢true h)

    all-admit-more : (ts : _) → all_admit names ts ≡ true → all_admit_by (is_ref names) eq (has_equality names) ts ≡ true
    all-admit-more no_type h = refl
    all-admit-more (and_type t ts) h =
        let b = both-true (admits names t) (all_admit names ts) h in
        ap (λ b. b && all_admit_by (is_ref names) eq (has_equality names) ts) (admits-more t b.0) ∙ all-admit-more ts b.1

module _ {P N : Type 0} (scope : Scope N) (σ : ℕ → MlType N) (are : (v : ℕ) → IsType scope.names (σ v)) (eq : ℕ → Bool) where
  attributes-met : (p : P) (k j : ℕ) (es : List Bool) (s : State P N) (r : Unit {0} × State P N) → IsAnswer scope (require_attributes p (k + j) es) s (accepted r) → Meets scope r.1 Rigidity σ
      → AdmitWhereAsked scope.names eq j es (λ i. σ (k + i))
  unfolding IsAnswer ◌>>=◌ replace_type
  attributes-met p k j [] s r h m = tt
  attributes-met p k j (false ∷ es) s r h m =
      ((λ e. absurd (false≢true e)), attributes-met p k (suc j) es s r (subst (λ i. IsAnswer scope (require_attributes p i es) s (accepted r)) next h) m)
    where
      next : suc (k + j) ≡ k + suc j
      next = omega arith
  attributes-met p k j (true ∷ es) s r (inl h) m =
      let d = with_demand (asks equality (free (k + j))) s in
      let b = met-before scope σ (require_attributes p (suc (k + j)) es) (attributes-steady P N p (suc (k + j)) es) d r h.1 m in
      ((λ e. admits-more scope.names eq (σ (k + j)) (b.0 (omega arith))), attributes-met p k (suc j) es d r (subst (λ i. IsAnswer scope (require_attributes p i es) d (accepted r)) next h.1) m)
    where
      next : suc (k + j) ≡ k + suc j
      next = omega arith
  attributes-met p k j (true ∷ es) s r (inr h) m = absurd (not_refused h.2)

  status-met : (p : P) (k : ℕ) (w : Status) (s : State P N) (r : Unit {0} × State P N) → IsAnswer scope (require_status p k w) s (accepted r) → Meets scope r.1 Rigidity σ
      → IsOfClass scope.names eq w (σ (k + 0))
  unfolding IsAnswer replace_type ◌>>=◌
  status-met p k variable s r h m = tt
  status-met p k (constructor i n) s r h m = tt
  status-met p k exception s r h m = tt
  status-met p k (overloaded c) s r (inl h) m =
      let b = met-before scope σ (new_overloaded k) (overloaded-steady P N k) (with_demand (asks (of_class c) (free k)) s) r h.1 m in
      let z : k ≡ k + 0 = omega arith in subst (λ k. IsOfClass scope.names eq (overloaded c) (σ k)) z (b.0 (omega arith))
  status-met p k (overloaded c) s r (inr h) m = absurd (not_refused h.2)

  pub instance-met : (p : P) (v : Value N) (s : State P N) (r : MlType N × State P N) → IsAnswer scope (instance p v) s (accepted r) → Meets scope r.1 Rigidity σ
      → IsInstance scope.names eq (assign_value σ v) (assign σ r.0)
  unfolding IsAnswer ◌>>=◌ replace_type IsInstance
  instance-met p v s r h m =
      let k = s.made in
      let a = bind-accepted scope (require_attributes p k v.scheme.variables) _ (with_unknowns (length v.scheme.variables) s) r h in
      let b = bind-accepted scope (require_status p k v.status) _ a.0.1 r a.2 in
      let t = given scope _ b.0.1 r b.2 in
      let n : Meets scope b.0.1 Rigidity σ = met-before scope σ (give (instance_from k v.scheme.body)) (give-steady P N (instance_from k v.scheme.body)) b.0.1 r b.2 m in
      let l : Meets scope a.0.1 Rigidity σ = met-before scope σ (require_status p k v.status) (status-steady P N p k v.status) a.0.1 b.0 b.1 n in
      let z : k ≡ k + 0 = omega arith in (
        (λ i. σ (k + i)),
        (λ i. are (k + i)),
        attributes-met p k 0 v.scheme.variables (with_unknowns (length v.scheme.variables) s) a.0 (subst (λ i. IsAnswer scope (require_attributes p i v.scheme.variables) (with_unknowns (length v.scheme.variables) s) (accepted a.0)) z a.1) l,
        status-met p k v.status a.0.1 b.0 b.1 n,
        ap (assign σ) t ∙ replaced-assigned scope.names σ are (λ j. free (k + j)) (λ j. σ (k + j)) (λ j. refl) v.scheme.body,
      )

-- patterns

there-constructs : {N : Type 0} (σ : ℕ → MlType N) (o : Option (Value N)) → value_constructs (there (assign_value σ) o) ≡ value_constructs o
there-constructs σ None = refl
there-constructs σ (Some v) = refl

constructor-assigned : {N : Type 0} (σ : ℕ → MlType N) (C : Env N) (x : Id) → is_constructor (assign_env σ C) x ≡ is_constructor C x
unfolding replace
constructor-assigned σ (maps ss ts vs) x = ap value_constructs (lookup-there (assign_value σ) x vs) ∙ there-constructs σ (lookup x vs)

-- whether a type is an arrow doesn't change, where it isn't an unknown alone
arrow-assigned : {N : Type 0} (σ : ℕ → MlType N) (t : MlType N) → ((v : ℕ) → ¬ (t ≡ free v)) → is_arrow (assign σ t) ≡ is_arrow t
unfolding replace_type
arrow-assigned σ (bound k) h = refl
arrow-assigned σ (free v) h = absurd (h v refl)
arrow-assigned σ (app arrow ts) h = refl
arrow-assigned σ (app (row ls) ts) h = refl
arrow-assigned σ (app (name n) ts) h = refl

constant-assigned : {N : Type 0} (names : Naming N) (σ : ℕ → MlType N) (k : ConstantKind) → assign σ (constant_type names k) ≡ constant_type names k
unfolding replace_type
constant-assigned names σ K.Integer = refl
constant-assigned names σ K.Word = refl
constant-assigned names σ K.Real = refl
constant-assigned names σ K.String = refl
constant-assigned names σ K.Character = refl

after : {N : Type 0} (bs cs ds : Bindings N) {x y : Bindings N} → x ≡ bs ++ cs → y ≡ x ++ ds → y ≡ bs ++ (cs ++ ds)
after bs cs ds e f = f ∙ (ap (λ x. x ++ ds) e ∙ append_assoc bs cs ds)

module _ {P N : Type 0} (scope : Scope N) where
  looked : {X : Type 0} (a : Answer P X) (s : State P N) (r : X × State P N) → IsAnswer scope (look a) s (accepted r) → a ≡ accepted r.0
  unfolding IsAnswer
  looked (refused f) s r h = absurd (not_refused h)
  looked (accepted x) s r h = ap accepted (sym (ap (λ q. q.0) (accepted_same h)))

  tested : {X : Type 0} (T : Type 0) (f : Fault P) (x : X) (s : State P N) (r : X × State P N) → IsAnswer scope (test T f >>= λ u. give x) s (accepted r) → r.0 ≡ x
  unfolding IsAnswer ◌>>=◌
  tested T f x s r (inl (c, h)) = ap (λ q. q.0) (accepted_same h)
  tested T f x s r (inr h) = absurd (not_refused h.1)

module _ {P N : Type 0} (scope : Scope N) (σ : ℕ → MlType N) (are : (v : ℕ) → IsType scope.names (σ v)) (eq : ℕ → Bool) (C : Context N)
    (known : AreKnown C.env) (is_rec : Bool) where
  constructs-met : (x : LongName P) (p q : P) (b : Bool) (v : Value N) (s : State P N) (r : MlType N × State P N) → value_at C.env x.id ≡ found v
      → IsAnswer scope (constructor_instance scope p q b v) s (accepted r) → Meets scope r.1 Rigidity σ
      → Constructs scope.names eq (assign_context σ C) is_rec x b (assign σ r.0)
  unfolding IsAnswer ◌>>=◌
  constructs-met x p q b v s r f (inl (c, inl (d, h))) m = (
    assign_value σ v,
    value-assigned σ C.env x.id v f,
    c,
    arrow-assigned σ v.scheme.body (known x.id v f c) ∙ d,
    instance-met scope σ are eq p v s r h m,
  )
  constructs-met x p q b v s r f (inl (c, inr h)) m = absurd (not_refused h.1)
  constructs-met x p q b v s r f (inr h) m = absurd (not_refused h.1)

  -- what was read fits, with what is bound after what was
  abbrev Fitting : Bindings N → Pat P → Typed N (MlType N) → Type 0
  Fitting bs q t = (cs : Bindings N) × (t.bound ≡ bs ++ cs) × Fits scope.names eq (assign_context σ C) is_rec q (assign σ t.type) (assign_bindings σ cs)

  variable-read : (p : P) (x : Id) (bs : Bindings N) (s : State P N) (r : Typed N (MlType N) × State P N) → IsAnswer scope (bind_variable scope p x bs) s (accepted r)
      → r.0 ≡ typed (free s.made) (bs ++ (x, free s.made) ∷ [])
  unfolding IsAnswer ◌>>=◌
  variable-read p x bs s r (inl (c, h)) = ap (λ q. q.0) (accepted_same h)
  variable-read p x bs s r (inr h) = absurd (not_refused h.1)

  is-variable : (x : LongName P) → (is_empty x.id.path && is_variable_alone is_rec (assign_env σ C.env) x.id.last) ≡ (is_empty x.id.path && is_variable_alone is_rec C.env x.id.last)
  is-variable x = ap (λ c. is_empty x.id.path && ((is_rec && not (is_same x.id.last (codes "nil"))) || not c)) (constructor-assigned σ C.env x.id.last)

  named-fits : (p : P) (x : LongName P) (bs : Bindings N) (s : State P N) (r : Typed N (MlType N) × State P N)
      → (((is_empty x.id.path && is_variable_alone is_rec C.env x.id.last) ≡ true) × IsAnswer scope (bind_variable scope x.place x.id.last bs) s (accepted r))
      ⊎ (((is_empty x.id.path && is_variable_alone is_rec C.env x.id.last) ≡ false)
      × IsAnswer scope (find_value C.env x >>= λ v. constructor_instance scope p x.place false v >>= λ t. give (typed t bs)) s (accepted r))
      → Meets scope r.1 Rigidity σ → Fitting bs (pat_name p x) r.0
  unfolding Fits replace_type
  named-fits p x bs s r (inl (b, h)) m =
      subst (Fitting bs (pat_name p x)) (sym (variable-read x.place x.id.last bs s r h)) ((x.id.last, free s.made) ∷ [], refl, inl (is-variable x ∙ b, are s.made, refl))
  named-fits p x bs s r (inr (b, h)) m =
      let a = bind-accepted scope (find_value C.env x) _ s r h in
      let c = bind-accepted scope (constructor_instance scope p x.place false a.0.0) _ a.0.1 r a.2 in
      let v = needed E1 x.place x.id (value_at C.env x.id) a.0.0 (looked scope (need E1 x.place x.id (value_at C.env x.id)) s a.0 a.1) in
      let n = met-before scope σ (give (typed c.0.0 bs)) (give-steady P N (typed c.0.0 bs)) c.0.1 r c.2 m in
      subst (Fitting bs (pat_name p x)) (sym (given scope (typed c.0.0 bs) c.0.1 r c.2))
      ([], sym (append-nil bs), inr (is-variable x ∙ b, constructs-met x p x.place false a.0.0 a.0.1 c.0 v c.1 n, refl))

  require-met : (p : P) (t u : MlType N) (s : State P N) (r : Unit {0} × State P N) → IsAnswer scope (require_equal p t u) s (accepted r) → Meets scope r.1 Rigidity σ → assign σ t ≡ assign σ u
  unfolding IsAnswer
  require-met p t u s r (inl h) m = (met-before scope σ (give tt) (give-steady P N tt) (with_demand (equal t u) s) r h.1 m).0
  require-met p t u s r (inr h) m = absurd (not_refused h.2)

  general-met : (p : P) (t a : MlType N) (s : State P N) (r : MlType N × State P N) → IsAnswer scope (apply_general p t a) s (accepted r) → Meets scope r.1 Rigidity σ
      → assign σ t ≡ arrow_of (assign σ a) (assign σ r.0)
  unfolding IsAnswer ◌>>=◌ replace_type
  general-met p t a s r h m =
      let u : MlType N = free s.made in
      let k = with_unknowns 1 s in
      let e = bind-accepted scope (require_equal p t (arrow_of a u)) (λ _. give u) k r h in
      let n = met-before scope σ (give u) (give-steady P N u) e.0.1 r e.2 m in
      require-met p t (arrow_of a u) k e.0 e.1 n ∙ ap (λ b. arrow_of (assign σ a) (assign σ b)) (sym (given scope u e.0.1 r e.2))

  applied-met : (p : P) (t a : MlType N) (s : State P N) (r : MlType N × State P N) → IsAnswer scope (applied p t a) s (accepted r) → Meets scope r.1 Rigidity σ
      → assign σ t ≡ arrow_of (assign σ a) (assign σ r.0)
  unfolding IsAnswer ◌>>=◌ replace_type
  applied-met p (bound k) a s r h m = general-met p (bound k) a s r h m
  applied-met p (free v) a s r h m = general-met p (free v) a s r h m
  applied-met p (app (row ls) ts) a s r h m = general-met p (app (row ls) ts) a s r h m
  applied-met p (app (name n) ts) a s r h m = general-met p (app (name n) ts) a s r h m
  applied-met p (app arrow no_type) a s r h m = general-met p (app arrow no_type) a s r h m
  applied-met p (app arrow (and_type from no_type)) a s r h m = general-met p (app arrow (and_type from no_type)) a s r h m
  applied-met p (app arrow (and_type from (and_type to (and_type u us)))) a s r h m = general-met p (app arrow (and_type from (and_type to (and_type u us)))) a s r h m
  applied-met p (app arrow (and_type from (and_type to no_type))) a s r h m =
      let e = bind-accepted scope (require_equal p from a) (λ _. give to) s r h in
      let n = met-before scope σ (give to) (give-steady P N to) e.0.1 r e.2 m in
      ap (λ b. arrow_of b (assign σ to)) (require-met p from a s e.0 e.1 n) ∙ ap (λ b. arrow_of (assign σ a) (assign σ b)) (sym (given scope to e.0.1 r e.2))

  row-met : (p : P) (b : Bool) (fs : Fields (MlType N)) (s : State P N) (r : MlType N × State P N) → IsAnswer scope (read_row scope is_rec C.env C.explicit p b fs) s (accepted r) → Meets scope r.1 Rigidity σ
      → IsRow scope.names b (replaced (assign σ) fs) (assign σ r.0)
  unfolding IsAnswer ◌>>=◌ replace_type
  row-met p false fs s r h m = ap (λ q. assign σ q.0) (accepted_same h) ∙ row-assigned σ fs
  row-met p true fs s r (inl h) m =
      let e = ap (λ q. q.0) (accepted_same h.1) in
      let n = subst (λ s. Meets scope s Rigidity σ) (ap (λ q. q.1) (accepted_same h.1)) m in subst (IsRow scope.names true (replaced (assign σ) fs)) (sym (ap (assign σ) e)) (are s.made, n.0)
  row-met p true fs s r (inr h) m = absurd (not_refused h.2)

  found-constructor : (x : LongName P) (a : Found (Value N)) (s : State P N) (r : Value N × State P N) → IsAnswer scope (found_constructor scope x a) s (accepted r) → a ≡ found r.0
  unfolding IsAnswer
  found-constructor x (found v) s r h = ap found (sym (ap (λ q. q.0) (accepted_same h)))
  found-constructor x (no_path e) s r h = absurd (not_refused h)
  found-constructor x no_entry s r h = absurd (not_refused h)

  -- a constraint means its type
  constraint-met : (ty : Ty P) (s : State P N) (r : MlType N × State P N) → IsAnswer scope (read_constraint C.env C.explicit ty) s (accepted r)
      → Means (assign_env σ C.env) (replaced (assign σ) C.explicit) ty (assign σ r.0)
  constraint-met ty s r h =
      let a = bind-accepted scope (look (read_ty C.env C.explicit ty)) _ s r h in
      let t = means-assigned scope.names σ are C.env C.explicit ty a.0.0 (ty-to C.env C.explicit ty a.0.0 (looked scope (read_ty C.env C.explicit ty) s a.0 a.1)) in
      subst (λ u. Means (assign_env σ C.env) (replaced (assign σ) C.explicit) ty (assign σ u)) (sym (tested scope (type_size a.0.0 ≤ 10000) (fault E7 (type_place ty)) a.0.0 a.0.1 r a.2)) t

  bound-met : (p : P) (x : Id) (ty : Option (Ty P)) (bs : Bindings N) (s : State P N) (r : Typed N (MlType N) × State P N)
      → IsAnswer scope (bind_layered scope is_rec C.env C.explicit p x ty bs) s (accepted r)
      → (r.0.bound ≡ bs ++ (x, r.0.type) ∷ []) × MeansIfAsked (assign_env σ C.env) (replaced (assign σ) C.explicit) ty (assign σ r.0.type)
  unfolding IsAnswer ◌>>=◌
  bound-met p x None bs s r h = let v = variable-read p x bs s r h in (ap (λ t. t.bound) v ∙ ap (λ t. bs ++ (x, t.type) ∷ []) (sym v), tt)
  bound-met p x (Some ty) bs s r (inl (c, h)) =
      let a = bind-accepted scope (read_constraint C.env C.explicit ty) _ s r h in
      let e = given scope (typed a.0.0 (bs ++ (x, a.0.0) ∷ [])) a.0.1 r a.2 in (
        ap (λ t. t.bound) e ∙ ap (λ t. bs ++ (x, t.type) ∷ []) (sym e),
        subst (λ t. Means (assign_env σ C.env) (replaced (assign σ) C.explicit) ty (assign σ t.type)) (sym e) (constraint-met ty s a.0 a.1),
      )
  bound-met p x (Some ty) bs s r (inr h) = absurd (not_refused h.1)

  layered-met : (x : Name P) (ty : Option (Ty P)) (bs : Bindings N) (s : State P N) (r : Typed N (MlType N) × State P N)
      → IsAnswer scope (read_layered scope is_rec C.env C.explicit x ty bs) s (accepted r) → Meets scope r.1 Rigidity σ
      → ((is_rec || not (is_constructor C.env x.id)) ≡ true) × (r.0.bound ≡ bs ++ (x.id, r.0.type) ∷ [])
      × MeansIfAsked (assign_env σ C.env) (replaced (assign σ) C.explicit) ty (assign σ r.0.type)
  unfolding IsAnswer ◌>>=◌
  layered-met x ty bs s r (inl (c, h)) m = let b = bound-met x.place x.id ty bs s r h in (c, b.0, b.1)
  layered-met x ty bs s r (inr h) m = absurd (not_refused h.1)

  abbrev AllFitting : Bindings N → Pats P → Typed N (MlTypes N) → Type 0
  AllFitting bs qs t = (cs : Bindings N) × (t.bound ≡ bs ++ cs) × FitAll scope.names eq (assign_context σ C) is_rec qs (assign_all σ t.type) (assign_bindings σ cs)

  abbrev FieldsFitting : Bindings N → Fields (MlType N) → PatFields P → Typed N (Fields (MlType N)) → Type 0
  FieldsFitting bs fs qs t =
      (cs : Bindings N) × (t.bound ≡ bs ++ cs) × FitFields scope.names eq (assign_context σ C) is_rec (replaced (assign σ) fs) qs (replaced (assign σ) t.type) (assign_bindings σ cs)

  mutual
    unfolding read_pat read_pats read_pat_fields Fits FitAll FitFields replace_type IsAnswer ◌>>=◌

    pub pat-fits : (q : Pat P) (bs : Bindings N) (s : State P N) (r : Typed N (MlType N) × State P N) → IsAnswer scope (read_pat scope is_rec C.env C.explicit bs q) s (accepted r)
        → Meets scope r.1 Rigidity σ → Fitting bs q r.0
    pat-fits (wildcard p) bs s r h m = subst (Fitting bs (wildcard p)) (sym (ap (λ q. q.0) (accepted_same h))) ([], sym (append-nil bs), (are s.made, refl))
    pat-fits (pat_constant p c) bs s r h m =
        subst (Fitting bs (pat_constant p c)) (sym (ap (λ q. q.0) (accepted_same h))) ([], sym (append-nil bs), (constant-assigned scope.names σ c.kind, refl))
    pat-fits (pat_name p x) bs s r h m = named-fits p x bs s r (taken scope (is_empty x.id.path) (is_variable_alone is_rec C.env x.id.last) _ _ s r h) m
    pat-fits (pat_row p fs b) bs s r h m =
        let a = bind-accepted scope (read_pat_fields scope is_rec C.env C.explicit bs [] fs) _ s r h in
        let c = bind-accepted scope (read_row scope is_rec C.env C.explicit p b a.0.0.type) _ a.0.1 r a.2 in
        let n = met-before scope σ (give (typed c.0.0 a.0.0.bound)) (give-steady P N (typed c.0.0 a.0.0.bound)) c.0.1 r c.2 m in
        let l = met-before scope σ (read_row scope is_rec C.env C.explicit p b a.0.0.type) (row-steady scope is_rec C.env C.explicit p b a.0.0.type) a.0.1 c.0 c.1 n in
        let f = fields-fit fs bs [] s a.0 a.1 l in
        subst (Fitting bs (pat_row p fs b)) (sym (given scope (typed c.0.0 a.0.0.bound) c.0.1 r c.2))
        (f.0, f.1, (replaced (assign σ) a.0.0.type, f.2, row-met p b a.0.0.type a.0.1 c.0 c.1 n))
    pat-fits (pat_tuple p qs) bs s r h m =
        let a = bind-accepted scope (read_pats scope is_rec C.env C.explicit bs qs) _ s r h in
        let n = met-before scope σ (give (typed (tuple_of a.0.0.type) a.0.0.bound)) (give-steady P N (typed (tuple_of a.0.0.type) a.0.0.bound)) a.0.1 r a.2 m in
        let f = all-fit qs bs s a.0 a.1 n in
        subst (Fitting bs (pat_tuple p qs)) (sym (given scope (typed (tuple_of a.0.0.type) a.0.0.bound) a.0.1 r a.2)) (f.0, f.1, (assign_all σ a.0.0.type, f.2, tuple-assigned σ a.0.0.type))
    pat-fits (pat_bracket p q) bs s r h m = pat-fits q bs s r h m
    pat-fits (pat_apply p x q) bs s r h m =
        let a = bind-accepted scope (found_constructor scope x (value_at C.env x.id)) _ s r h in
        let c = bind-accepted scope (constructor_instance scope p x.place true a.0.0) _ a.0.1 r a.2 in
        let d = bind-accepted scope (read_pat scope is_rec C.env C.explicit bs q) _ c.0.1 r c.2 in
        let e = bind-accepted scope (applied p c.0.0 d.0.0.type) (λ u. give (typed u d.0.0.bound)) d.0.1 r d.2 in
        let v = found-constructor x (value_at C.env x.id) s a.0 a.1 in
        let n = met-before scope σ (give (typed e.0.0 d.0.0.bound)) (give-steady P N (typed e.0.0 d.0.0.bound)) e.0.1 r e.2 m in
        let l : Meets scope d.0.1 Rigidity σ = met-before scope σ (applied p c.0.0 d.0.0.type) (applied-steady p c.0.0 d.0.0.type) d.0.1 e.0 e.1 n in
        let j = met-before scope σ (read_pat scope is_rec C.env C.explicit bs q) (pat-steady scope is_rec C.env C.explicit bs q) c.0.1 d.0 d.1 l in
        let f = pat-fits q bs c.0.1 d.0 d.1 l in
        let g = applied-met p c.0.0 d.0.0.type d.0.1 e.0 e.1 n in
        let z = constructs-met x p x.place true a.0.0 a.0.1 c.0 v c.1 j in
        subst (Fitting bs (pat_apply p x q)) (sym (given scope (typed e.0.0 d.0.0.bound) e.0.1 r e.2))
        (f.0, f.1, (assign σ d.0.0.type, subst (Constructs scope.names eq (assign_context σ C) is_rec x true) g z, f.2))
    pat-fits (pat_typed p q ty) bs s r h m =
        let a = bind-accepted scope (read_pat scope is_rec C.env C.explicit bs q) _ s r h in
        let c = bind-accepted scope (read_constraint C.env C.explicit ty) _ a.0.1 r a.2 in
        let e = bind-accepted scope (require_equal p a.0.0.type c.0.0) (λ _. give (typed c.0.0 a.0.0.bound)) c.0.1 r c.2 in
        let n = met-before scope σ (give (typed c.0.0 a.0.0.bound)) (give-steady P N (typed c.0.0 a.0.0.bound)) e.0.1 r e.2 m in
        let l = met-before scope σ (require_equal p a.0.0.type c.0.0) (equal-steady p a.0.0.type c.0.0) c.0.1 e.0 e.1 n in
        let j = met-before scope σ (read_constraint C.env C.explicit ty) (constraint-steady scope is_rec C.env C.explicit ty) a.0.1 c.0 c.1 l in
        let f = pat-fits q bs s a.0 a.1 j in
        let g = require-met p a.0.0.type c.0.0 c.0.1 e.0 e.1 n in
        let t = constraint-met ty a.0.1 c.0 c.1 in
        subst (Fitting bs (pat_typed p q ty)) (sym (given scope (typed c.0.0 a.0.0.bound) e.0.1 r e.2))
        (f.0, f.1, (subst (λ t. Fits scope.names eq (assign_context σ C) is_rec q t (assign_bindings σ f.0)) g f.2, t))
    pat-fits (pat_as p x ty q) bs s r h m =
        let a = bind-accepted scope (read_layered scope is_rec C.env C.explicit x ty bs) _ s r h in
        let c = bind-accepted scope (read_pat scope is_rec C.env C.explicit a.0.0.bound q) _ a.0.1 r a.2 in
        let e = bind-accepted scope (require_equal p a.0.0.type c.0.0.type) (λ _. give (typed a.0.0.type c.0.0.bound)) c.0.1 r c.2 in
        let n = met-before scope σ (give (typed a.0.0.type c.0.0.bound)) (give-steady P N (typed a.0.0.type c.0.0.bound)) e.0.1 r e.2 m in
        let l = met-before scope σ (require_equal p a.0.0.type c.0.0.type) (equal-steady p a.0.0.type c.0.0.type) c.0.1 e.0 e.1 n in
        let j = met-before scope σ (read_pat scope is_rec C.env C.explicit a.0.0.bound q) (pat-steady scope is_rec C.env C.explicit a.0.0.bound q) a.0.1 c.0 c.1 l in
        let y = layered-met x ty bs s a.0 a.1 j in
        let f = pat-fits q a.0.0.bound a.0.1 c.0 c.1 l in
        let g = require-met p a.0.0.type c.0.0.type c.0.1 e.0 e.1 n in
        subst (Fitting bs (pat_as p x ty q)) (sym (given scope (typed a.0.0.type c.0.0.bound) e.0.1 r e.2)) (
          (x.id, a.0.0.type) ∷ f.0,
          after bs ((x.id, a.0.0.type) ∷ []) f.0 y.1 f.1,
          (
            assign_bindings σ f.0,
            ap (λ c. is_rec || not c) (constructor-assigned σ C.env x.id) ∙ y.0,
            y.2,
            subst (λ t. Fits scope.names eq (assign_context σ C) is_rec q t (assign_bindings σ f.0)) (sym g) f.2,
            refl,
          ),
        )

    all-fit : (qs : Pats P) (bs : Bindings N) (s : State P N) (r : Typed N (MlTypes N) × State P N) → IsAnswer scope (read_pats scope is_rec C.env C.explicit bs qs) s (accepted r)
        → Meets scope r.1 Rigidity σ → AllFitting bs qs r.0
    all-fit no_pat bs s r h m = subst (AllFitting bs no_pat) (sym (ap (λ q. q.0) (accepted_same h))) ([], sym (append-nil bs), (refl, refl))
    all-fit (and_pat q qs) bs s r h m =
        let a = bind-accepted scope (read_pat scope is_rec C.env C.explicit bs q) _ s r h in
        let c = bind-accepted scope (read_pats scope is_rec C.env C.explicit a.0.0.bound qs) _ a.0.1 r a.2 in
        let n = met-before scope σ (give (typed (and_type a.0.0.type c.0.0.type) c.0.0.bound)) (give-steady P N (typed (and_type a.0.0.type c.0.0.type) c.0.0.bound)) c.0.1 r c.2 m in
        let l = met-before scope σ (read_pats scope is_rec C.env C.explicit a.0.0.bound qs) (pats-steady scope is_rec C.env C.explicit a.0.0.bound qs) a.0.1 c.0 c.1 n in
        let f = pat-fits q bs s a.0 a.1 l in
        let g = all-fit qs a.0.0.bound a.0.1 c.0 c.1 n in
        subst (AllFitting bs (and_pat q qs)) (sym (given scope (typed (and_type a.0.0.type c.0.0.type) c.0.0.bound) c.0.1 r c.2)) (
          f.0 ++ g.0,
          after bs f.0 g.0 f.1 g.1,
          (
            assign σ a.0.0.type,
            assign_all σ c.0.0.type,
            assign_bindings σ f.0,
            assign_bindings σ g.0,
            f.2,
            g.2,
            refl,
            map-append (λ b. (b.0, assign σ b.1)) f.0 g.0,
          ),
        )

    fields-fit : (qs : PatFields P) (bs : Bindings N) (fs : Fields (MlType N)) (s : State P N) (r : Typed N (Fields (MlType N)) × State P N)
        → IsAnswer scope (read_pat_fields scope is_rec C.env C.explicit bs fs qs) s (accepted r) → Meets scope r.1 Rigidity σ → FieldsFitting bs fs qs r.0
    fields-fit no_pat_field bs fs s r h m = subst (FieldsFitting bs fs no_pat_field) (sym (ap (λ q. q.0) (accepted_same h))) ([], sym (append-nil bs), (refl, refl))
    fields-fit (and_pat_field (pat_field x q) qs) bs fs s r h m =
        let a = bind-accepted scope (read_pat scope is_rec C.env C.explicit bs q) _ s r h in
        let l = met-before scope σ (read_pat_fields scope is_rec C.env C.explicit a.0.0.bound (put_field x.id a.0.0.type fs) qs) (fields-steady scope is_rec C.env C.explicit a.0.0.bound (put_field x.id a.0.0.type fs) qs) a.0.1 r a.2 m in
        let f = pat-fits q bs s a.0 a.1 l in
        let g = fields-fit qs a.0.0.bound (put_field x.id a.0.0.type fs) a.0.1 r a.2 m in (
          f.0 ++ g.0,
          after bs f.0 g.0 f.1 g.1,
          (
            assign σ a.0.0.type,
            assign_bindings σ f.0,
            assign_bindings σ g.0,
            f.2,
            subst (λ us. FitFields scope.names eq (assign_context σ C) is_rec us qs (replaced (assign σ) r.0.type) (assign_bindings σ g.0)) (field-assigned σ x.id a.0.0.type fs) g.2,
            map-append (λ b. (b.0, assign σ b.1)) f.0 g.0,
          ),
        )

pub patterns-fit : {N : Type 0} (scope : Scope N) → PatternsFit scope
patterns-fit scope σ are eq C known is_rec q s r h m =
    let f = pat-fits scope σ are eq C known is_rec q [] s r h m in (
      subst (λ bs. Fits scope.names eq (assign_context σ C) is_rec q (assign σ r.0.type) (assign_bindings σ bs)) (sym f.1) f.2,
      apart-assigned σ r.0.bound (pat-apart scope is_rec C.env C.explicit q [] s r h tt),
    )
