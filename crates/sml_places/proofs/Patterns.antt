-- Patterns with other places have the same answers, but for places.
use Rattle.std.specs.Prelude.{◌≡◌, ℕ, suc, Bool, true, false, cond, List, [], ◌∷◌, ◌++◌, length, Option, Some, None}
use mathlib.Core.Path.{sym, subst}
use Rattle.sml_lex.specs.declared.fault.Code.{Code}
use Rattle.sml_lex.specs.declared.fault.Code.TheVariants.{E1, E3, E5, E7, E10}
use Rattle.sml_lex.specs.Faults.{Fault}
use Rattle.sml_tree.specs.Trees.{Id}
use Rattle.sml_tree.specs.Names.{Name, LongName}
use Rattle.sml_tree.specs.Types.{Ty}
use Rattle.sml_tree.specs.Patterns.{Pat, Pats, PatFields, wildcard, pat_constant, pat_name, pat_row, pat_tuple, pat_bracket, pat_apply, pat_typed, pat_as, no_pat, and_pat, pat_field, no_pat_field, and_pat_field}
use Rattle.sml_objects.specs.Maps.{Map}
use Rattle.sml_objects.specs.Objects.{MlType, bound, free, app, arrow, row, name, no_type, and_type, arrow_of, tuple_of}
use Rattle.sml_objects.specs.Types.{instance_from}
use Rattle.sml_layers.specs.declared.layer.Bound.{Bound}
use Rattle.sml_layers.specs.Demands.{equal, has_fields, asks, within, equality, of_class}
use Rattle.sml_rules.specs.Answers.{fault, fault_at}
use Rattle.sml_rules.specs.Lookups.{Found, found, no_path, no_entry}
use Rattle.sml_core_rules.specs.Objects.{Env, Value, Status, variable, constructor, exception, overloaded}
use Rattle.sml_core_rules.specs.Lookups.{value_at}
use Rattle.sml_core_rules.specs.States.{Scope}
use Rattle.sml_core_rules.specs.Scripts.{Script, refuse, test}
use Rattle.sml_core_rules.specs.Types.{Fields, put_field, row_of}
use Rattle.sml_core_rules.specs.Values.{require_equal, require_so_far, require_attributes, require_status, instance, apply_general, applied, find_value}
use Rattle.sml_core_rules.specs.Patterns.{Bindings, typed, is_empty, constant_type, read_constraint, bind_variable, constructor_instance, found_constructor, read_named, read_row, bind_layered, read_layered, read_pat, read_pats, read_pat_fields}
use Rattle.sml_places.specs.Places.{place_name, place_long, place_ty, place_optional, place_pat, place_pats, place_pat_fields}
use Rattle.sml_places.specs.Answers.{place_fault}
use Rattle.sml_places.proofs.Scripts.{AreSame, alike-then, alike-with, alike-give, alike-refuse}
use Rattle.sml_places.proofs.Types.{equal-ty}
use Rattle.sml_places.proofs.Steps.{itself, same-look, same-need, same-test, same-unknown, same-unknowns, same-require, alike-so-far, same-row, same-overloaded}
use Rattle.sml_places.proofs.Trees.{type-placed}

module _ {P Q N : Type 0} {scope : Scope N} {f : P → Q} where
  -- one of two scripts, or of two faults

  pub same-cond : {X : Type 0} (b : Bool) {k l : Script P N X} {j m : Script Q N X} → AreSame scope f k j → AreSame scope f l m → AreSame scope f (cond b k l) (cond b j m)
  same-cond true a c = a
  same-cond false a c = c

  same-refusal : {X : Type 0} (b : Bool) (d e : Fault P) → AreSame scope f {X = X} (refuse (cond b d e)) (refuse (cond b (place_fault f d) (place_fault f e)))
  same-refusal true d e = alike-refuse d
  same-refusal false d e = alike-refuse e

  -- a test at a place that is given otherwise
  pub same-test-at : {C D : Type 0} (c : Code) {p : P} {q : Q} → q ≡ f p → ((C → D) × (D → C)) → AreSame scope f (test C (fault c p)) (test D (fault c q))
  same-test-at {C = C} {D = D} c {p = p} h e = subst (λ q. AreSame scope f (test C (fault c p)) (test D (fault c q))) (sym h) (same-test e (fault c p))

  -- instances

  pub same-equal : (p : P) (t u : MlType N) → AreSame scope f (require_equal p t u) (require_equal (f p) t u)
  same-equal p t u = same-require (equal t u) p

  pub same-so-far : (b : Bound) (p : P) (t : MlType N) → AreSame scope f (require_so_far b p t) (require_so_far b (f p) t)
  same-so-far b p t = alike-with _ alike-so-far (λ s. same-require (asks (within b s.names) t) p)

  same-attributes : (p : P) (k : ℕ) (es : List Bool) → AreSame scope f (require_attributes p k es) (require_attributes (f p) k es)
  same-attributes p k [] = alike-give tt
  same-attributes p k (false ∷ es) = same-attributes p (suc k) es
  same-attributes p k (true ∷ es) = alike-then (same-require (asks equality (free k)) p) (λ u. same-attributes p (suc k) es)

  same-status : (p : P) (k : ℕ) (w : Status) → AreSame scope f (require_status p k w) (require_status (f p) k w)
  same-status p k variable = alike-give tt
  same-status p k (constructor i n) = alike-give tt
  same-status p k exception = alike-give tt
  same-status p k (overloaded c) = alike-then (same-require (asks (of_class c) (free k)) p) (λ u. same-overloaded k)

  pub same-instance : (p : P) (v : Value N) → AreSame scope f (instance p v) (instance (f p) v)
  same-instance p v =
      alike-then (same-unknowns (length v.scheme.variables)) (λ k. alike-then (same-attributes p k v.scheme.variables) (λ u. alike-then (same-status p k v.status) (λ w.
      alike-give (instance_from k v.scheme.body))))

  same-general : (p : P) (t a : MlType N) → AreSame scope f (apply_general p t a) (apply_general (f p) t a)
  same-general p t a = alike-then same-unknown (λ b. alike-then (same-equal p t (arrow_of a b)) (λ u. alike-give b))

  pub same-applied : (p : P) (t a : MlType N) → AreSame scope f (applied p t a) (applied (f p) t a)
  same-applied p (bound k) a = same-general p (bound k) a
  same-applied p (free v) a = same-general p (free v) a
  same-applied p (app arrow no_type) a = same-general p (app arrow no_type) a
  same-applied p (app arrow (and_type t no_type)) a = same-general p (app arrow (and_type t no_type)) a
  same-applied p (app arrow (and_type from (and_type to no_type))) a = alike-then (same-equal p from a) (λ u. alike-give to)
  same-applied p (app arrow (and_type t (and_type u (and_type w ts)))) a = same-general p (app arrow (and_type t (and_type u (and_type w ts)))) a
  same-applied p (app (row ls) ts) a = same-general p (app (row ls) ts) a
  same-applied p (app (name n) ts) a = same-general p (app (name n) ts) a

  pub same-value : (C : Env N) (x : LongName P) → AreSame scope f (find_value C x) (find_value C (place_long f x))
  same-value C x = same-need E1 x.place x.id (value_at C x.id)

  pub same-constraint : (C : Env N) (vs : Map (MlType N)) (t : Ty P) → AreSame scope f (read_constraint C vs t) (read_constraint C vs (place_ty f t))
  same-constraint C vs t = alike-then (same-look (equal-ty f C vs t)) (λ u. alike-then (same-test-at E7 (type-placed f t) itself) (λ w. alike-give u))

module _ {P Q N : Type 0} (scope : Scope N) (f : P → Q) where
  same-variable : (p : P) (x : Id) (bs : Bindings N) → AreSame scope f (bind_variable scope p x bs) (bind_variable scope (f p) x bs)
  same-variable p x bs = alike-then (same-test itself (fault E10 p)) (λ u. alike-then same-unknown (λ t. alike-give (typed t (bs ++ (x, t) ∷ []))))

  same-constructor : (p q : P) (b : Bool) (v : Value N) → AreSame scope f (constructor_instance scope p q b v) (constructor_instance scope (f p) (f q) b v)
  same-constructor p q b v = alike-then (same-test itself (fault E5 q)) (λ u. alike-then (same-test itself (fault E5 q)) (λ w. same-instance p v))

  same-found : (x : LongName P) (r : Found (Value N)) → AreSame scope f (found_constructor scope x r) (found_constructor scope (place_long f x) r)
  same-found x (found v) = alike-give v
  same-found x (no_path s) = alike-refuse (fault_at E3 x.place s)
  same-found x no_entry = same-refusal (is_empty x.id.path) (fault E5 x.place) (fault_at E1 x.place (x.id.path ++ x.id.last ∷ []))

  module _ (is_rec : Bool) (C : Env N) (vs : Map (MlType N)) where
    same-named : (p : P) (x : LongName P) (bs : Bindings N) → AreSame scope f (read_named scope is_rec C vs p x bs) (read_named scope is_rec C vs (f p) (place_long f x) bs)
    same-named p x bs =
        let constant = alike-then (same-value C x) (λ v. alike-then (same-constructor p x.place false v) (λ t. alike-give (typed t bs))) in
        same-cond _ (same-cond _ (same-variable x.place x.id.last bs) constant) constant

    same-fields : (p : P) (b : Bool) (fs : Fields (MlType N)) → AreSame scope f (read_row scope is_rec C vs p b fs) (read_row scope is_rec C vs (f p) b fs)
    same-fields p false fs = alike-give (row_of fs)
    same-fields p true fs = alike-then same-unknown (λ t. alike-then (same-require (has_fields t fs) p) (λ u. alike-then (same-row p t) (λ w. alike-give t)))

    same-bound : (p : P) (x : Id) (t : Option (Ty P)) (bs : Bindings N) → AreSame scope f (bind_layered scope is_rec C vs p x t bs) (bind_layered scope is_rec C vs (f p) x (place_optional f t) bs)
    same-bound p x None bs = same-variable p x bs
    same-bound p x (Some t) bs = alike-then (same-test itself (fault E10 p)) (λ u. alike-then (same-constraint C vs t) (λ t. alike-give (typed t (bs ++ (x, t) ∷ []))))

    same-layered : (x : Name P) (t : Option (Ty P)) (bs : Bindings N) → AreSame scope f (read_layered scope is_rec C vs x t bs) (read_layered scope is_rec C vs (place_name f x) (place_optional f t) bs)
    same-layered x t bs = alike-then (same-test itself (fault E5 x.place)) (λ u. same-bound x.place x.id t bs)

    mutual
      unfolding read_pat read_pats read_pat_fields place_pat place_pats place_pat_fields

      pub same-pat : (bs : Bindings N) (q : Pat P) → AreSame scope f (read_pat scope is_rec C vs bs q) (read_pat scope is_rec C vs bs (place_pat f q))
      same-pat bs (wildcard p) = alike-then same-unknown (λ t. alike-give (typed t bs))
      same-pat bs (pat_constant p c) = alike-give (typed (constant_type scope.names c.kind) bs)
      same-pat bs (pat_name p x) = same-named p x bs
      same-pat bs (pat_row p fs b) = alike-then (same-pat-fields bs [] fs) (λ r. alike-then (same-fields p b r.type) (λ t. alike-give (typed t r.bound)))
      same-pat bs (pat_tuple p qs) = alike-then (same-pats bs qs) (λ r. alike-give (typed (tuple_of r.type) r.bound))
      same-pat bs (pat_bracket p q) = same-pat bs q
      same-pat bs (pat_apply p x q) =
          alike-then (same-found x (value_at C x.id)) (λ v. alike-then (same-constructor p x.place true v) (λ t. alike-then (same-pat bs q) (λ r.
          alike-then (same-applied p t r.type) (λ u. alike-give (typed u r.bound)))))
      same-pat bs (pat_typed p q t) =
          alike-then (same-pat bs q) (λ r. alike-then (same-constraint C vs t) (λ t. alike-then (same-equal p r.type t) (λ u. alike-give (typed t r.bound))))
      same-pat bs (pat_as p x t q) =
          alike-then (same-layered x t bs) (λ t. alike-then (same-pat t.bound q) (λ r. alike-then (same-equal p t.type r.type) (λ u. alike-give (typed t.type r.bound))))

      same-pats : (bs : Bindings N) (qs : Pats P) → AreSame scope f (read_pats scope is_rec C vs bs qs) (read_pats scope is_rec C vs bs (place_pats f qs))
      same-pats bs no_pat = alike-give (typed no_type bs)
      same-pats bs (and_pat q qs) = alike-then (same-pat bs q) (λ r. alike-then (same-pats r.bound qs) (λ rs. alike-give (typed (and_type r.type rs.type) rs.bound)))

      same-pat-fields : (bs : Bindings N) (fs : Fields (MlType N)) (qs : PatFields P) → AreSame scope f (read_pat_fields scope is_rec C vs bs fs qs) (read_pat_fields scope is_rec C vs bs fs (place_pat_fields f qs))
      same-pat-fields bs fs no_pat_field = alike-give (typed fs bs)
      same-pat-fields bs fs (and_pat_field (pat_field l q) qs) = alike-then (same-pat bs q) (λ r. same-pat-fields r.bound (put_field l.id r.type fs) qs)
