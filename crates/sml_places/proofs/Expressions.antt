-- Expressions and declarations of the core with other places have the same answers, but for places.
use Rattle.std.specs.Prelude.{◌≡◌, true, false, List, [], ◌∷◌, ◌++◌, map, Option, Some, None}
use mathlib.Core.Path.{refl, sym, ap, subst, ◌∙◌}
use Rattle.sml_lex.specs.declared.fault.Code.TheVariants.{E2, E7, E9}
use Rattle.sml_tree.specs.Patterns.{Pat}
use Rattle.sml_tree.specs.Withtype.{dat_replaced}
use Rattle.sml_tree.specs.Expressions.{Exp, Exps, Fields, Rules, Dec, Decs, ValBinds, DatBind, TypBind, constant, name, row, tuple, let_in, bracket, apply, typed, handle, raise, fn, no_exp, and_exp, field, no_field, and_field, rule, no_rule, and_rule, val_dec, type_dec, datatype_dec, datatype_with, datatype_copy, exception_dec, local_dec, sequence_dec, open_dec, fixity_dec, no_dec, and_dec, bind, no_bind, and_bind}
use Rattle.sml_objects.specs.Maps.{Map}
use Rattle.sml_objects.specs.Objects.{MlType, no_type, and_type, arrow_of, tuple_of}
use Rattle.sml_layers.specs.declared.layer.Bound.TheVariants.{Locality}
use Rattle.sml_layers.specs.Demands as D
use Rattle.sml_rules.specs.Answers.{fault}
use Rattle.sml_core_rules.specs.Objects.{Env, of_values, maps, no_structure, empty, extend}
use Rattle.sml_core_rules.specs.Lookups.{status_at, type_at}
use Rattle.sml_core_rules.specs.States.{Scope, Holder, of_fn, of_handle, of_val}
use Rattle.sml_core_rules.specs.Types as T
use Rattle.sml_core_rules.specs.Types.{put_field, row_of}
use Rattle.sml_core_rules.specs.Values.{require_equal}
use Rattle.sml_core_rules.specs.Patterns.{Bindings, constant_type, pattern_place}
use Rattle.sml_core_rules.specs.Closing.{is_expansive}
use Rattle.sml_core_rules.specs.Datatypes.{constructor_values}
use Rattle.sml_core_rules.specs.Expressions.{Bound, bound_values, bounds, after, exn_type, rule_patterns, require_bindings, judge_patterns, read_datatypes, read_exp, read_exps, read_fields, read_rules, read_decs, read_dec, read_binds, read_patterns, read_rights}
use Rattle.sml_places.specs.Places.{place_exp, place_exps, place_fields, place_rules, place_dec, place_decs, place_binds, place_pat, place_typ_bind, place_dat_bind}
use Rattle.sml_places.specs.Answers.{place_holder, place_patterns}
use Rattle.sml_places.proofs.Scripts.{AreSame, alike-then, alike-with, alike-give, alike-judges}
use Rattle.sml_places.proofs.Types.{equal-exceptions, equal-opened}
use Rattle.sml_places.proofs.Steps.{itself, same-look, same-need, same-test, same-unknown, same-require, alike-so-far}
use Rattle.sml_places.proofs.Trees.{pattern-placed, expression-placed, expansive-same, function-same, ids-same, unguarded-same}
use Rattle.sml_places.proofs.Patterns.{same-test-at, same-equal, same-instance, same-applied, same-value, same-constraint, same-pat}
use Rattle.sml_places.proofs.Withtype.{datatypes-placed}
use Rattle.sml_places.proofs.Values.{same-bindings, alike-begin-at, same-end, same-types, same-datatypes, same-first, same-or-unknown}

module _ {P Q N : Type 0} (scope : Scope N) (f : P → Q) where
  -- at the place of a pattern

  equal-at-pattern : (q : Pat P) (t u : MlType N) → AreSame scope f (require_equal (pattern_place q) t u) (require_equal (pattern_place (place_pat f q)) t u)
  equal-at-pattern q t u =
      subst (λ p. AreSame scope f (require_equal (pattern_place q) t u) (require_equal p t u)) (sym (pattern-placed f q)) (same-equal (pattern_place q) t u)

  bindings-at-pattern : (q : Pat P) (bs : Bindings N) → AreSame scope f (require_bindings scope (pattern_place q) bs) (require_bindings scope (pattern_place (place_pat f q)) bs)
  bindings-at-pattern q bs =
      subst (λ p. AreSame scope f (require_bindings scope (pattern_place q) bs) (require_bindings scope p bs)) (sym (pattern-placed f q)) (same-bindings scope f (pattern_place q) bs)

  -- what is to be judged

  rules-placed : (m : Rules P) → rule_patterns (place_rules f m) ≡ place_patterns f (rule_patterns m)
  unfolding place_rules
  rules-placed no_rule = refl
  rules-placed (and_rule (rule p q e) m) = ap (λ qs. (f p, place_pat f q) ∷ qs) (rules-placed m)

  same-judged : (h : Holder P) (C : Env N) {qs : List (P × Pat P)} {rs : List (Q × Pat Q)} → rs ≡ place_patterns f qs
      → AreSame scope f (judge_patterns scope h C qs) (judge_patterns scope (place_holder f h) C rs)
  same-judged h C {qs = qs} e =
      subst (λ rs. AreSame scope f (judge_patterns scope h C qs) (judge_patterns scope (place_holder f h) C rs)) (sym e)
      (alike-judges (record { holder = h; patterns = qs; status = status_at C }) (alike-give tt))

  judged-at-pattern : (C : Env N) (q : Pat P) → AreSame scope f (judge_patterns scope (of_val (pattern_place q)) C ((pattern_place q, q) ∷ []))
      (judge_patterns scope (of_val (pattern_place (place_pat f q))) C ((pattern_place (place_pat f q), place_pat f q) ∷ []))
  judged-at-pattern C q =
      subst (λ p. AreSame scope f (judge_patterns scope (of_val (pattern_place q)) C ((pattern_place q, q) ∷ [])) (judge_patterns scope (of_val p) C ((p, place_pat f q) ∷ [])))
      (sym (pattern-placed f q)) (same-judged (of_val (pattern_place q)) C refl)

  same-withtype : (p : P) (C : Env N) (ds : List (DatBind P)) (bs : List (TypBind P))
      → AreSame scope f (read_datatypes scope p C (map (dat_replaced bs) ds)) (read_datatypes scope (f p) C (map (dat_replaced (map (place_typ_bind f) bs)) (map (place_dat_bind f) ds)))
  same-withtype p C ds bs =
      subst (λ es. AreSame scope f (read_datatypes scope p C (map (dat_replaced bs) ds)) (read_datatypes scope (f p) C es)) (sym (datatypes-placed f bs ds))
      (same-datatypes scope f p C (map (dat_replaced bs) ds))

  mutual
    unfolding read_exp read_exps read_fields read_rules read_decs read_dec read_binds read_patterns read_rights place_exp place_exps place_fields place_rules place_dec place_decs place_binds

    pub same-exp : (C : Env N) (vs : Map (MlType N)) (e : Exp P) → AreSame scope f (read_exp scope C vs e) (read_exp scope C vs (place_exp f e))
    same-exp C vs (constant p c) = alike-give (constant_type scope.names c.kind)
    same-exp C vs (name p x) = alike-then (same-value C x) (λ v. same-instance p v)
    same-exp C vs (row p fs) = alike-then (same-fields C vs [] fs) (λ r. alike-give (row_of r))
    same-exp C vs (tuple p es) = alike-then (same-exps C vs es) (λ ts. alike-give (tuple_of ts))
    same-exp C vs (let_in p ds e) =
        alike-with _ alike-so-far (λ s. alike-then (same-decs C vs empty ds) (λ E. alike-then (same-exp (extend C E) vs e) (λ t.
        alike-then (same-require (D.asks (D.within Locality s.names) t) p) (λ u. alike-give t))))
    same-exp C vs (bracket p e) = same-exp C vs e
    same-exp C vs (apply p g e) = alike-then (same-exp C vs g) (λ t. alike-then (same-exp C vs e) (λ a. same-applied p t a))
    same-exp C vs (typed p e ty) = alike-then (same-exp C vs e) (λ t. alike-then (same-constraint C vs ty) (λ w. alike-then (same-equal p t w) (λ u. alike-give w)))
    same-exp C vs (handle p e m) =
        alike-then (same-exp C vs e) (λ t. alike-then (same-rules C vs None m) (λ h.
        alike-then (same-equal p h (arrow_of (exn_type scope) t)) (λ u. alike-then (same-judged (of_handle p) C (rules-placed m)) (λ j. alike-give t))))
    same-exp C vs (raise p e) = alike-then (same-exp C vs e) (λ t. alike-then (same-equal p t (exn_type scope)) (λ u. same-unknown))
    same-exp C vs (fn p m) = alike-then (same-rules C vs None m) (λ t. alike-then (same-judged (of_fn p) C (rules-placed m)) (λ j. alike-give t))

    same-exps : (C : Env N) (vs : Map (MlType N)) (es : Exps P) → AreSame scope f (read_exps scope C vs es) (read_exps scope C vs (place_exps f es))
    same-exps C vs no_exp = alike-give no_type
    same-exps C vs (and_exp e es) = alike-then (same-exp C vs e) (λ t. alike-then (same-exps C vs es) (λ ts. alike-give (and_type t ts)))

    same-fields : (C : Env N) (vs : Map (MlType N)) (fs : T.Fields (MlType N)) (es : Fields P) → AreSame scope f (read_fields scope C vs fs es) (read_fields scope C vs fs (place_fields f es))
    same-fields C vs fs no_field = alike-give fs
    same-fields C vs fs (and_field (field l e) es) = alike-then (same-exp C vs e) (λ t. same-fields C vs (put_field l.id t fs) es)

    same-rules : (C : Env N) (vs : Map (MlType N)) (first : Option (MlType N)) (m : Rules P) → AreSame scope f (read_rules scope C vs first m) (read_rules scope C vs first (place_rules f m))
    same-rules C vs first no_rule = same-or-unknown scope f first
    same-rules C vs first (and_rule (rule p q e) m) =
        alike-then (same-pat scope f false C vs [] q) (λ r. alike-then (bindings-at-pattern q r.bound) (λ u.
        alike-then (same-exp (extend C (of_values (bound_values r.bound))) vs e) (λ t. alike-then (same-first scope f p first (arrow_of r.type t)) (λ g. same-rules C vs (Some g) m))))

    same-decs : (C : Env N) (vs : Map (MlType N)) (F : Env N) (ds : Decs P) → AreSame scope f (read_decs scope C vs F ds) (read_decs scope C vs F (place_decs f ds))
    same-decs C vs F no_dec = alike-give F
    same-decs C vs F (and_dec d ds) = alike-then (same-dec C vs d) (λ E. same-decs (extend C E) vs (extend F E) ds)

    pub same-dec : (C : Env N) (vs : Map (MlType N)) (d : Dec P) → AreSame scope f (read_dec scope C vs d) (read_dec scope C vs (place_dec f d))
    same-dec C vs (val_dec p xs bs rs) =
        alike-with _ (alike-begin-at scope f p vs (λ i. ids-same f xs i ++ (unguarded-same f bs i ++ unguarded-same f rs i))) (λ b.
        alike-then (same-binds C b.variables [] [] bs) (λ r. alike-then (same-patterns C b.variables r.0 [] rs) (λ q.
        alike-then (same-rights (extend C (of_values (bound_values q.1))) b.variables q.0 rs) (λ u. same-end scope f p b (r.1 ++ bounds false q.1)))))
    same-dec C vs (type_dec p bs) = same-types scope f p C bs
    same-dec C vs (datatype_dec p ds) = same-datatypes scope f p C ds
    same-dec C vs (datatype_with p ds bs) =
        alike-then (same-withtype p C ds bs) (λ E. alike-then (same-types scope f p (extend C E) bs) (λ F. alike-give (extend E F)))
    same-dec C vs (datatype_copy p x c) =
        alike-then (same-need E2 c.place c.id (type_at C c.id)) (λ t. alike-give (maps no_structure ((x.id, t) ∷ []) (constructor_values t.constructors)))
    same-dec C vs (exception_dec p bs) = alike-then (same-look (equal-exceptions f scope C vs [] bs)) (λ m. alike-then (same-test itself (fault E7 p)) (λ u. alike-give (of_values m)))
    same-dec C vs (local_dec p ds es) = alike-then (same-decs C vs empty ds) (λ E. same-decs (extend C E) vs empty es)
    same-dec C vs (sequence_dec p ds) = same-decs C vs empty ds
    same-dec C vs (open_dec p ss) = same-look (equal-opened f scope C empty ss)
    same-dec C vs (fixity_dec p) = alike-give empty

    same-binds : (C : Env N) (vs : Map (MlType N)) (seen : Bindings N) (done : List (Bound N)) (bs : ValBinds P)
        → AreSame scope f (read_binds scope C vs seen done bs) (read_binds scope C vs seen done (place_binds f bs))
    same-binds C vs seen done no_bind = alike-give (seen, done)
    same-binds C vs seen done (and_bind (bind q e) bs) =
        alike-then (same-pat scope f false C vs seen q) (λ r. alike-then (same-exp C vs e) (λ t. alike-then (equal-at-pattern q r.type t) (λ u.
        alike-then (judged-at-pattern C q) (λ j. coe 1 0 (i. AreSame scope f (read_binds scope C vs r.bound (done ++ bounds (is_expansive C e) (after seen r.bound)) bs)
        (read_binds scope C vs r.bound (done ++ bounds (expansive-same f C e i) (after seen r.bound)) (place_binds f bs)))
        (same-binds C vs r.bound (done ++ bounds (is_expansive C e) (after seen r.bound)) bs)))))

    same-patterns : (C : Env N) (vs : Map (MlType N)) (seen new : Bindings N) (bs : ValBinds P)
        → AreSame scope f (read_patterns scope C vs seen new bs) (read_patterns scope C vs seen new (place_binds f bs))
    same-patterns C vs seen new no_bind = alike-give ([], new)
    same-patterns C vs seen new (and_bind (bind q e) bs) =
        alike-then (same-pat scope f true C vs seen q) (λ r. alike-then (bindings-at-pattern q (after seen r.bound)) (λ u.
        alike-then (same-patterns C vs r.bound (new ++ after seen r.bound) bs) (λ s. alike-give (r.type ∷ s.0, s.1))))

    same-rights : (C : Env N) (vs : Map (MlType N)) (ts : List (MlType N)) (bs : ValBinds P) → AreSame scope f (read_rights scope C vs ts bs) (read_rights scope C vs ts (place_binds f bs))
    same-rights C vs ts no_bind = alike-give tt
    same-rights C vs [] (and_bind (bind q e) bs) = alike-give tt
    same-rights C vs (t ∷ ts) (and_bind (bind q e) bs) =
        alike-then (same-test-at E9 (expression-placed f e) ((λ h. function-same f e ∙ h), (λ h. sym (function-same f e) ∙ h))) (λ u.
        alike-then (same-exp C vs e) (λ a. alike-then (equal-at-pattern q t a) (λ w. same-rights C vs ts bs)))
