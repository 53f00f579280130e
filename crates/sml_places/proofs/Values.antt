-- The beginning and the end of value declarations, types and datatypes, with other places.
use Rattle.std.specs.Prelude.{◌≡◌, ◌↔◌, ℕ, Bool, true, false, List, [], ◌∷◌, map, Option, Some, None}
use Rattle.std.specs.List.{AllByRecursion}
use mathlib.Core.Path.{sym, subst}
use Rattle.sml_lex.specs.declared.fault.Code.TheVariants.{E7, U6, U7}
use Rattle.sml_tree.specs.Trees.{Id}
use Rattle.sml_tree.specs.Expressions.{TypBind, DatBind}
use Rattle.sml_objects.specs.Maps.{Map}
use Rattle.sml_objects.specs.Names.{int}
use Rattle.sml_objects.specs.Objects.{MlType, Scheme, free, named}
use Rattle.sml_layers.specs.declared.layer.Bound.TheVariants.{Newness}
use Rattle.sml_layers.specs.declared.layer.Layer.TheVariants.{Rigidity}
use Rattle.sml_layers.specs.Demands as D
use Rattle.sml_rules.specs.Answers.{fault}
use Rattle.sml_core_rules.specs.Objects.{Env, of_types, of_values, values}
use Rattle.sml_core_rules.specs.States.{Scope, State, no_window}
use Rattle.sml_core_rules.specs.Solutions.{HasOneSetOfLabels, IsFixed, IsOverloaded, StandsForSmall}
use Rattle.sml_core_rules.specs.Scripts.{give, test, ◌>>=◌}
use Rattle.sml_core_rules.specs.Values.{has_unknown}
use Rattle.sml_core_rules.specs.Patterns.{Bindings}
use Rattle.sml_core_rules.specs.Datatypes.{AreSmall, is_equality, with_names, datatype_envs}
use Rattle.sml_core_rules.specs.Expressions.{Bound, Begun, staying, closed_values, not_in_scope, require_bindings, admit_equality, scope_variables, begin_values, settle, require_labels, require_general, require_small, close_all, require_bounds, end_values, read_types, read_datatypes, like_first, or_unknown}
use Rattle.sml_places.specs.Places.{place_typ_bind, place_dat_bind}
use Rattle.sml_places.proofs.Scripts.{place_rows, place_window, place_state, AreAlike, AreSame, small-same, alike-then, alike-with, alike-give}
use Rattle.sml_places.proofs.Types.{equal-type-binds, datatypes-same}
use Rattle.sml_places.proofs.Steps.{itself, same-look, same-test, same-where, same-unknown, same-unknowns, same-require, alike-so-far, same-window, same-open, same-close, alike-datatypes}
use Rattle.sml_places.proofs.Patterns.{same-cond, same-equal, same-so-far}

abbrev pub place_begun : {P Q N : Type 0} → (P → Q) → Begun P N → Begun Q N
place_begun f b = record { made = b.made; window = place_window f b.window; scoped = b.scoped; variables = b.variables }

module _ {P Q N : Type 0} (scope : Scope N) (f : P → Q) where
  -- what is asked of solutions

  overloaded-same : (s : State P N) (v : ℕ) → IsOverloaded scope s v ↔ IsOverloaded scope (place_state f s) v
  unfolding IsOverloaded
  overloaded-same s v = itself

  labels-same : (s : State P N) (t : MlType N) → HasOneSetOfLabels scope s Rigidity t ↔ HasOneSetOfLabels scope (place_state f s) Rigidity t
  unfolding HasOneSetOfLabels
  labels-same s t = itself

  pub none-fixed : (s : State P N) (n : ℕ) (ts : List (MlType N)) (vs : List ℕ) → AllByRecursion (λ v. ¬ (IsFixed scope s n ts v)) vs ↔ AllByRecursion (λ v. ¬ (IsFixed scope (place_state f s) n ts v)) vs
  unfolding IsFixed
  none-fixed s n ts vs = itself

  -- the beginning

  pub same-bindings : (p : P) (bs : Bindings N) → AreSame scope f (require_bindings scope p bs) (require_bindings scope (f p) bs)
  same-bindings p [] = alike-give tt
  same-bindings p (b ∷ bs) = alike-then (same-so-far Newness p b.1) (λ u. same-bindings p bs)

  same-admit : (p : P) (b : Bool) (k : ℕ) → AreSame scope f (admit_equality scope p b k) (admit_equality scope (f p) b k)
  same-admit p false k = alike-give tt
  same-admit p true k = same-require (D.asks D.equality (free k)) p

  same-scoped : (p : P) (vs : Map (MlType N)) (xs : List Id) → AreSame scope f (scope_variables scope p vs xs) (scope_variables scope (f p) vs xs)
  same-scoped p vs [] = alike-give ([], vs)
  same-scoped p vs (x ∷ xs) =
      alike-then (same-unknowns 1) (λ k. alike-then (same-require (D.asks (D.variable (record { number = k; equality = is_equality x })) (free k)) p) (λ u.
      alike-then (same-admit p (is_equality x) k) (λ e. alike-then (same-scoped p ((x, free k) ∷ vs) xs) (λ r. alike-give (k ∷ r.0, r.1)))))

  alike-begin : (p : P) (vs : Map (MlType N)) (xs : List Id) → AreAlike scope f (place_begun f) (begin_values scope p vs xs) (begin_values scope (f p) vs xs)
  alike-begin p vs xs =
      alike-with _ alike-so-far (λ s. alike-then (same-window no_window) (λ u. alike-then (same-scoped p vs (not_in_scope vs [] xs)) (λ r.
      alike-give (record { made = s.made; window = s.window; scoped = r.0; variables = r.1 }))))

  pub alike-begin-at : (p : P) (vs : Map (MlType N)) {xs ys : List Id} → ys ≡ xs → AreAlike scope f (place_begun f) (begin_values scope p vs xs) (begin_values scope (f p) vs ys)
  alike-begin-at p vs {xs = xs} h = subst (λ ys. AreAlike scope f (place_begun f) (begin_values scope p vs xs) (begin_values scope (f p) vs ys)) (sym h) (alike-begin p vs xs)

  -- the end

  same-settle : (p : P) (vs : List ℕ) → AreSame scope f (settle scope p vs) (settle scope (f p) vs)
  same-settle p [] = alike-give tt
  same-settle p (v ∷ vs) =
      alike-with _ alike-so-far (λ s. alike-then (same-where (overloaded-same s v) (same-equal p (free v) (named (scope.names.initial int)))) (λ u. same-settle p vs))

  same-labels : (rs : List (P × MlType N)) → AreSame scope f (require_labels scope rs) (require_labels scope (place_rows f rs))
  same-labels [] = alike-give tt
  same-labels (r ∷ rs) = alike-with _ alike-so-far (λ s. alike-then (same-test (labels-same s r.1) (fault U6 r.0)) (λ u. same-labels rs))

  same-general : (p : P) (b : Begun P N) (bs : List (Bound N)) → AreSame scope f (require_general scope p b bs) (require_general scope (f p) (place_begun f b) bs)
  same-general p b bs = alike-with _ alike-so-far (λ s. same-test (none-fixed s b.made (staying bs) b.scoped) (fault U7 p))

  same-sizes : (p : P) (bs : List (Bound N)) → AreSame scope f (require_small scope p bs) (require_small scope (f p) bs)
  same-sizes p bs = alike-with _ alike-so-far (λ s. same-test (all-small s bs) (fault E7 p))
    where
      all-small : (s : State P N) (bs : List (Bound N)) → AllByRecursion (λ b. StandsForSmall scope s b.type) bs ↔ AllByRecursion (λ b. StandsForSmall scope (place_state f s) b.type) bs
      all-small s [] = itself
      all-small s (b ∷ bs) = (
        λ h. ((small-same scope f s b.type).0 h.0, (all-small s bs).0 h.1),
        λ h. ((small-same scope f s b.type).1 h.0, (all-small s bs).1 h.1),
      )

  same-closed : (k : ℕ) (bs : List (Bound N)) → AreSame scope f (close_all scope k bs) (close_all scope k bs)
  same-closed k [] = alike-give []
  same-closed k (b ∷ bs) = alike-then (same-close k b.expansive b.type) (λ σ. alike-then (same-closed k bs) (λ σs. alike-give (σ ∷ σs)))

  same-bounds : (p : P) (bs : List (Bound N)) (σs : List (Scheme N)) → AreSame scope f (require_bounds scope p bs σs) (require_bounds scope (f p) bs σs)
  same-bounds p [] σs = alike-give tt
  same-bounds p (b ∷ bs) [] = alike-give tt
  same-bounds p (b ∷ bs) (σ ∷ σs) =
      same-cond (has_unknown σ.body) (alike-then same-open (λ o. alike-then (same-so-far Newness p b.type) (λ u. same-bounds p bs σs))) (same-bounds p bs σs)

  pub same-end : (p : P) (b : Begun P N) (bs : List (Bound N)) → AreSame scope f (end_values scope p b bs) (end_values scope (f p) (place_begun f b) bs)
  same-end p b bs =
      alike-with _ alike-so-far (λ s. alike-then (same-settle p s.window.overloaded) (λ u. alike-then (same-labels s.window.rows) (λ v.
      alike-then (same-window b.window) (λ w. alike-then (same-general p b bs) (λ g. alike-then (same-sizes p bs) (λ x. alike-then (same-closed b.made bs) (λ σs.
      alike-then (same-bounds p bs σs) (λ y. alike-give (of_values (closed_values bs σs))))))))))

  -- types and datatypes

  pub same-types : (p : P) (C : Env N) (bs : List (TypBind P)) → AreSame scope f (read_types scope p C bs) (read_types scope (f p) C (map (place_typ_bind f) bs))
  same-types p C bs = alike-then (same-look (equal-type-binds f C [] bs)) (λ ts. alike-then (same-test itself (fault E7 p)) (λ u. alike-give (of_types ts)))

  pub same-datatypes : (p : P) (C : Env N) (ds : List (DatBind P)) → AreSame scope f (read_datatypes scope p C ds) (read_datatypes scope (f p) C (map (place_dat_bind f) ds))
  same-datatypes p C ds =
      alike-datatypes C ds (λ ns gs.
      coe 1 0 (i. AreSame scope f (test (AreSmall (λ v. v.scheme) (values (datatype_envs ds (with_names ns gs)))) (fault E7 p) >>= λ u. give (datatype_envs ds (with_names ns gs)))
      (test (AreSmall (λ v. v.scheme) (values (datatypes-same f ds (with_names ns gs) i))) (fault E7 (f p)) >>= λ u. give (datatypes-same f ds (with_names ns gs) i)))
      (alike-then (same-test itself (fault E7 p)) (λ u. alike-give (datatype_envs ds (with_names ns gs)))))

  -- matches

  pub same-first : (p : P) (t : Option (MlType N)) (u : MlType N) → AreSame scope f (like_first scope p t u) (like_first scope (f p) t u)
  same-first p None u = alike-give u
  same-first p (Some t) u = alike-then (same-equal p t u) (λ v. alike-give t)

  pub same-or-unknown : (t : Option (MlType N)) → AreSame scope f (or_unknown scope t) (or_unknown scope t)
  same-or-unknown None = same-unknown
  same-or-unknown (Some t) = alike-give t
