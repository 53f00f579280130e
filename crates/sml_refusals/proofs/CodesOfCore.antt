-- Expressions and declarations of the core: with which codes they are refused.
use Rattle.std.specs.Prelude.{◌≡◌, ◌++◌, ℕ, Bool, true, false, List, [], ◌∷◌, map, Option, Some, None}
use mathlib.Core.Path.{refl}
use Rattle.sml_lex.specs.declared.fault.Code.{Code}
use Rattle.sml_lex.specs.declared.fault.Code.TheVariants.{E1, E2, E3, E5, E7, E9, U6, U7}
use Rattle.sml_tree.specs.Trees.{Id}
use Rattle.sml_tree.specs.Withtype.{dat_replaced}
use Rattle.sml_tree.specs.Expressions.{Exp, Exps, Fields, Rules, Dec, Decs, ValBinds, TypBind, DatBind, constant, name, row, tuple, let_in, bracket, apply, typed, handle, raise, fn, no_exp, and_exp, field, no_field, and_field, rule, no_rule, and_rule, val_dec, type_dec, datatype_dec, datatype_with, datatype_copy, exception_dec, local_dec, sequence_dec, open_dec, fixity_dec, no_dec, and_dec, bind, no_bind, and_bind}
use Rattle.sml_objects.specs.Maps.{Map}
use Rattle.sml_objects.specs.Objects.{MlType, Scheme, free, arrow_of}
use Rattle.sml_core_rules.specs.Lookups.{type_at}
use Rattle.sml_core_rules.specs.Objects.{Env, of_values, empty, extend}
use Rattle.sml_core_rules.specs.States.{Scope, State}
use Rattle.sml_core_rules.specs.Types as T
use Rattle.sml_core_rules.specs.Types.{put_field}
use Rattle.sml_core_rules.specs.Values.{has_unknown, require_so_far}
use Rattle.sml_layers.specs.declared.layer.Bound as L
use Rattle.sml_layers.specs.declared.layer.Bound.TheVariants.{Newness}
use Rattle.sml_core_rules.specs.Patterns.{Bindings, pattern_place}
use Rattle.sml_core_rules.specs.Closing.{is_expansive, unguarded}
use Rattle.sml_core_rules.specs.Datatypes.{is_equality}
use Rattle.sml_core_rules.specs.Expressions.{Bound, Begun, bound_values, bounds, after, not_in_scope, require_bindings, admit_equality, scope_variables, begin_values, settle, require_labels, require_general, require_small, close_all, require_bounds, end_values, read_types, read_datatypes, like_first, or_unknown, read_exp, read_exps, read_fields, read_rules, read_decs, read_dec, read_binds, read_patterns, read_rights}
use Rattle.sml_refusals.specs.Codes.{variable_code, pattern_code, binding_code, type_code, size_code, value_code, core_code}
use Rattle.sml_refusals.proofs.Refusing.{or-left, or-right, RefusesBy, refuses-then, refuses-look, refuses-cond}
use Rattle.sml_refusals.proofs.CodesOfTypes.{code-need, codes-opened, codes-type-binds, codes-datatypes, codes-exceptions}
use Rattle.sml_refusals.proofs.CodesOfPatterns.{type-inside, demand-inside, codes-instance, codes-applied, codes-value, codes-constraint, codes-pat}

-- bindings of types and of datatypes
module _ (D : Code → Bool) (inside : (c : Code) → binding_code c ≡ true → D c ≡ true) where
  pub bound-inside : (c : Code) → type_code c ≡ true → D c ≡ true
  bound-inside c h = inside c (or-right (size_code c) _ h)

  module _ {P N : Type 0} (scope : Scope N) where
    pub codes-types : (p : P) (C : Env N) (bs : List (TypBind P)) → RefusesBy D (read_types scope p C bs)
    unfolding RefusesBy
    codes-types p C bs =
        refuses-then D _ _ (refuses-look D N _ (codes-type-binds D bound-inside C [] bs)) (λ ts. refuses-then D _ _ (inside E7 refl, tt) (λ u. tt))

    pub codes-made : (p : P) (C : Env N) (ds : List (DatBind P)) → RefusesBy D (read_datatypes scope p C ds)
    unfolding RefusesBy
    codes-made p C ds = ((λ ns. codes-datatypes D bound-inside C ds ns), λ ns gs. refuses-then D _ _ (inside E7 refl, tt) (λ u. tt))

-- the codes of the core among others
module _ (D : Code → Bool) (inside : (c : Code) → core_code c ≡ true → D c ≡ true) where
  pattern-inside : (c : Code) → pattern_code c ≡ true → D c ≡ true
  pattern-inside c h = inside c (or-right (value_code c) _ h)

  binding-inside : (c : Code) → binding_code c ≡ true → D c ≡ true
  binding-inside c h = pattern-inside c (or-right (variable_code c) _ (or-left (binding_code c) _ h))

  module _ (P : Type 0) {N : Type 0} (scope : Scope N) where
    codes-close : (k : ℕ) (bs : List (Bound N)) → RefusesBy D {P = P} (close_all scope k bs)
    unfolding RefusesBy
    codes-close k [] = tt
    codes-close k (b ∷ bs) = refuses-then D _ _ (λ σ. tt) (λ σ. refuses-then D _ _ (codes-close k bs) (λ σs. tt))

    codes-or-unknown : (t : Option (MlType N)) → RefusesBy D {P = P} (or_unknown scope t)
    unfolding RefusesBy
    codes-or-unknown None = λ v. tt
    codes-or-unknown (Some t) = tt

  module _ {P N : Type 0} (scope : Scope N) where
    codes-known : (b : L.Bound) (p : P) (t : MlType N) → RefusesBy D (require_so_far b p t)
    unfolding RefusesBy
    codes-known b p t = refuses-then D _ _ (λ s. tt) (λ s. (demand-inside D pattern-inside, tt))

    codes-so-far : (p : P) (bs : Bindings N) → RefusesBy D (require_bindings scope p bs)
    unfolding RefusesBy
    codes-so-far p [] = tt
    codes-so-far p (b ∷ bs) = refuses-then D _ _ (codes-known Newness p b.1) (λ u. codes-so-far p bs)

    codes-admit : (p : P) (b : Bool) (k : ℕ) → RefusesBy D (admit_equality scope p b k)
    unfolding RefusesBy
    codes-admit p false k = tt
    codes-admit p true k = (demand-inside D pattern-inside, tt)

    codes-scoped : (p : P) (vs : Map (MlType N)) (xs : List Id) → RefusesBy D (scope_variables scope p vs xs)
    unfolding RefusesBy
    codes-scoped p vs [] = tt
    codes-scoped p vs (x ∷ xs) =
        refuses-then D _ _ (λ k. tt) (λ k. refuses-then D _ _ (demand-inside D pattern-inside, tt) (λ u.
        refuses-then D _ _ (codes-admit p (is_equality x) k) (λ e. refuses-then D _ _ (codes-scoped p ((x, free k) ∷ vs) xs) (λ r. tt))))

    codes-begin : (p : P) (vs : Map (MlType N)) (xs : List Id) → RefusesBy D (begin_values scope p vs xs)
    unfolding RefusesBy
    codes-begin p vs xs =
        refuses-then D _ _ (λ s. tt) (λ s. refuses-then D _ _ tt (λ u. refuses-then D _ _ (codes-scoped p vs (not_in_scope vs [] xs)) (λ r. tt)))

    codes-settle : (p : P) (vs : List ℕ) → RefusesBy D (settle scope p vs)
    unfolding RefusesBy
    codes-settle p [] = tt
    codes-settle p (v ∷ vs) =
        refuses-then D _ _ (λ s. tt) (λ s. refuses-then D _ _ ((demand-inside D pattern-inside, tt), tt) (λ u. codes-settle p vs))

    codes-labels : (rs : List (P × MlType N)) → RefusesBy D (require_labels scope rs)
    unfolding RefusesBy
    codes-labels [] = tt
    codes-labels (r ∷ rs) = refuses-then D _ _ (λ s. tt) (λ s. refuses-then D _ _ (inside U6 refl, tt) (λ u. codes-labels rs))

    codes-general : (p : P) (b : Begun P N) (bs : List (Bound N)) → RefusesBy D (require_general scope p b bs)
    unfolding RefusesBy
    codes-general p b bs = refuses-then D _ _ (λ s. tt) (λ s. (inside U7 refl, tt))

    codes-small : (p : P) (bs : List (Bound N)) → RefusesBy D (require_small scope p bs)
    unfolding RefusesBy
    codes-small p bs = refuses-then D _ _ (λ s. tt) (λ s. (inside E7 refl, tt))

    codes-bounds : (p : P) (bs : List (Bound N)) (σs : List (Scheme N)) → RefusesBy D (require_bounds scope p bs σs)
    unfolding RefusesBy
    codes-bounds p [] σs = tt
    codes-bounds p (b ∷ bs) [] = tt
    codes-bounds p (b ∷ bs) (σ ∷ σs) =
        refuses-cond D (has_unknown σ.body) _ _
        (refuses-then D _ _ tt (λ o. refuses-then D _ _ (codes-known Newness p b.type) (λ u. codes-bounds p bs σs))) (codes-bounds p bs σs)

    codes-end : (p : P) (b : Begun P N) (bs : List (Bound N)) → RefusesBy D (end_values scope p b bs)
    unfolding RefusesBy
    codes-end p b bs =
        refuses-then D _ _ (λ s. tt) (λ s. refuses-then D _ _ (codes-settle p s.window.overloaded) (λ u. refuses-then D _ _ (codes-labels s.window.rows) (λ v.
        refuses-then D _ _ tt (λ w. refuses-then D _ _ (codes-general p b bs) (λ g. refuses-then D _ _ (codes-small p bs) (λ x. refuses-then D _ _ (codes-close P scope b.made bs) (λ σs.
        refuses-then D _ _ (codes-bounds p bs σs) (λ y. tt))))))))

    codes-first : (p : P) (t : Option (MlType N)) (u : MlType N) → RefusesBy D (like_first scope p t u)
    unfolding RefusesBy
    codes-first p None u = tt
    codes-first p (Some t) u = refuses-then D _ _ (demand-inside D pattern-inside, tt) (λ v. tt)

    mutual
      unfolding read_exp read_exps read_fields read_rules read_decs read_dec read_binds read_patterns read_rights RefusesBy

      pub codes-exp : (C : Env N) (vs : Map (MlType N)) (e : Exp P) → RefusesBy D (read_exp scope C vs e)
      codes-exp C vs (constant p c) = tt
      codes-exp C vs (name p x) = refuses-then D _ _ (codes-value D pattern-inside C x) (λ v. codes-instance D pattern-inside p v)
      codes-exp C vs (row p fs) = refuses-then D _ _ (codes-row C vs [] fs) (λ r. tt)
      codes-exp C vs (tuple p es) = refuses-then D _ _ (codes-exps C vs es) (λ ts. tt)
      codes-exp C vs (let_in p ds e) =
          refuses-then D _ _ (λ s. tt) (λ s. refuses-then D _ _ (codes-decs C vs empty ds) (λ E. refuses-then D _ _ (codes-exp (extend C E) vs e) (λ t.
          refuses-then D _ _ (demand-inside D pattern-inside, tt) (λ u. tt))))
      codes-exp C vs (bracket p e) = codes-exp C vs e
      codes-exp C vs (apply p g e) =
          refuses-then D _ _ (codes-exp C vs g) (λ t. refuses-then D _ _ (codes-exp C vs e) (λ a. codes-applied D pattern-inside p t a))
      codes-exp C vs (typed p e ty) =
          refuses-then D _ _ (codes-exp C vs e) (λ t. refuses-then D _ _ (codes-constraint D pattern-inside C vs ty) (λ w.
          refuses-then D _ _ (demand-inside D pattern-inside, tt) (λ u. tt)))
      codes-exp C vs (handle p e m) =
          refuses-then D _ _ (codes-exp C vs e) (λ t. refuses-then D _ _ (codes-rules C vs None m) (λ h.
          refuses-then D _ _ (demand-inside D pattern-inside, tt) (λ u. refuses-then D _ _ tt (λ j. tt))))
      codes-exp C vs (raise p e) =
          refuses-then D _ _ (codes-exp C vs e) (λ t. refuses-then D _ _ (demand-inside D pattern-inside, tt) (λ u. λ v. tt))
      codes-exp C vs (fn p m) = refuses-then D _ _ (codes-rules C vs None m) (λ t. refuses-then D _ _ tt (λ j. tt))

      codes-exps : (C : Env N) (vs : Map (MlType N)) (es : Exps P) → RefusesBy D (read_exps scope C vs es)
      codes-exps C vs no_exp = tt
      codes-exps C vs (and_exp e es) = refuses-then D _ _ (codes-exp C vs e) (λ t. refuses-then D _ _ (codes-exps C vs es) (λ ts. tt))

      codes-row : (C : Env N) (vs : Map (MlType N)) (fs : T.Fields (MlType N)) (es : Fields P) → RefusesBy D (read_fields scope C vs fs es)
      codes-row C vs fs no_field = tt
      codes-row C vs fs (and_field (field l e) es) = refuses-then D _ _ (codes-exp C vs e) (λ t. codes-row C vs (put_field l.id t fs) es)

      codes-rules : (C : Env N) (vs : Map (MlType N)) (first : Option (MlType N)) (m : Rules P) → RefusesBy D (read_rules scope C vs first m)
      codes-rules C vs first no_rule = codes-or-unknown P scope first
      codes-rules C vs first (and_rule (rule p q e) m) =
          refuses-then D _ _ (codes-pat D pattern-inside scope false C vs [] q) (λ r. refuses-then D _ _ (codes-so-far (pattern_place q) r.bound) (λ u.
          refuses-then D _ _ (codes-exp (extend C (of_values (bound_values r.bound))) vs e) (λ t.
          refuses-then D _ _ (codes-first p first (arrow_of r.type t)) (λ g. codes-rules C vs (Some g) m))))

      codes-decs : (C : Env N) (vs : Map (MlType N)) (F : Env N) (ds : Decs P) → RefusesBy D (read_decs scope C vs F ds)
      codes-decs C vs F no_dec = tt
      codes-decs C vs F (and_dec d ds) = refuses-then D _ _ (codes-dec C vs d) (λ E. codes-decs (extend C E) vs (extend F E) ds)

      pub codes-dec : (C : Env N) (vs : Map (MlType N)) (d : Dec P) → RefusesBy D (read_dec scope C vs d)
      codes-dec C vs (val_dec p xs bs rs) =
          refuses-then D _ _ (codes-begin p vs (map (λ x. x.id) xs ++ (unguarded bs ++ unguarded rs))) (λ b.
          refuses-then D _ _ (codes-binds C b.variables [] [] bs) (λ r. refuses-then D _ _ (codes-patterns C b.variables r.0 [] rs) (λ q.
          refuses-then D _ _ (codes-rights (extend C (of_values (bound_values q.1))) b.variables q.0 rs) (λ u. codes-end p b (r.1 ++ bounds false q.1)))))
      codes-dec C vs (type_dec p bs) = codes-types D binding-inside scope p C bs
      codes-dec C vs (datatype_dec p ds) = codes-made D binding-inside scope p C ds
      codes-dec C vs (datatype_with p ds bs) =
          refuses-then D _ _ (codes-made D binding-inside scope p C (map (dat_replaced bs) ds)) (λ E.
          refuses-then D _ _ (codes-types D binding-inside scope p (extend C E) bs) (λ F. tt))
      codes-dec C vs (datatype_copy p x c) =
          refuses-then D _ _ (refuses-look D N _ (code-need D _ c.place c.id (type_at C c.id) (inside E2 refl) (inside E3 refl))) (λ t. tt)
      codes-dec C vs (exception_dec p bs) =
          refuses-then D _ _ (refuses-look D N _ (codes-exceptions D (type-inside D pattern-inside) scope (inside E1 refl) (inside E5 refl) C vs [] bs)) (λ m.
          refuses-then D _ _ (inside E7 refl, tt) (λ u. tt))
      codes-dec C vs (local_dec p ds es) = refuses-then D _ _ (codes-decs C vs empty ds) (λ E. codes-decs (extend C E) vs empty es)
      codes-dec C vs (sequence_dec p ds) = codes-decs C vs empty ds
      codes-dec C vs (open_dec p ss) = refuses-look D N _ (codes-opened D scope (inside E3 refl) C empty ss)
      codes-dec C vs (fixity_dec p) = tt

      codes-binds : (C : Env N) (vs : Map (MlType N)) (seen : Bindings N) (done : List (Bound N)) (bs : ValBinds P) → RefusesBy D (read_binds scope C vs seen done bs)
      codes-binds C vs seen done no_bind = tt
      codes-binds C vs seen done (and_bind (bind q e) bs) =
          refuses-then D _ _ (codes-pat D pattern-inside scope false C vs seen q) (λ r. refuses-then D _ _ (codes-exp C vs e) (λ t.
          refuses-then D _ _ (demand-inside D pattern-inside, tt) (λ u. refuses-then D _ _ tt (λ j.
          codes-binds C vs r.bound (done ++ bounds (is_expansive C e) (after seen r.bound)) bs))))

      codes-patterns : (C : Env N) (vs : Map (MlType N)) (seen new : Bindings N) (bs : ValBinds P) → RefusesBy D (read_patterns scope C vs seen new bs)
      codes-patterns C vs seen new no_bind = tt
      codes-patterns C vs seen new (and_bind (bind q e) bs) =
          refuses-then D _ _ (codes-pat D pattern-inside scope true C vs seen q) (λ r. refuses-then D _ _ (codes-so-far (pattern_place q) (after seen r.bound)) (λ u.
          refuses-then D _ _ (codes-patterns C vs r.bound (new ++ after seen r.bound) bs) (λ s. tt)))

      codes-rights : (C : Env N) (vs : Map (MlType N)) (ts : List (MlType N)) (bs : ValBinds P) → RefusesBy D (read_rights scope C vs ts bs)
      codes-rights C vs ts no_bind = tt
      codes-rights C vs [] (and_bind b bs) = tt
      codes-rights C vs (t ∷ ts) (and_bind (bind q e) bs) =
          refuses-then D _ _ (inside E9 refl, tt) (λ u. refuses-then D _ _ (codes-exp C vs e) (λ a.
          refuses-then D _ _ (demand-inside D pattern-inside, tt) (λ w. codes-rights C vs ts bs)))
