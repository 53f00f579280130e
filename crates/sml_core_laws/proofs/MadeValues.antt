-- The beginning and the end of a value declaration keep to what was made.
use Rattle.std.specs.Prelude.{◌<◌, ℕ, zero, suc, Bool, true, false, List, [], ◌∷◌, length, drop, ◌≡◌, ◌||◌}
use Rattle.std.specs.List.{AllByRecursion}
use Rattle.std.proofs.Common.{arith}
use Rattle.sml_tree.specs.Trees.{Id}
use Rattle.sml_objects.specs.Maps.{Map}
use Rattle.sml_objects.specs.Names.{int}
use Rattle.sml_objects.specs.Objects.{MlType, Scheme, free, Head, MlTypes, bound, app, no_type, and_type}
use Rattle.sml_layers.specs.declared.layer.Bound.{Bound}
use Rattle.sml_core_rules.specs.Datatypes.{is_equality}
use Rattle.sml_core_rules.specs.Expressions as E
use Rattle.sml_core_rules.specs.Expressions.{Begun, bound_values, bounds, after, closed_values, not_in_scope, require_bindings, admit_equality, scope_variables, begin_values, settle, require_labels, require_general, require_small, close_all, require_bounds, end_values}
use Rattle.sml_core_rules.specs.Patterns.{Bindings}
use Rattle.sml_core_rules.specs.States.{Scope, State}
use Rattle.sml_core_rules.specs.Values.{require_so_far, has_unknown, have_unknown}
use Rattle.std.proofs.lemmas.Bool.{false≢true}
use mathlib.Core.Path.{refl, sym, ◌∙◌}
use Rattle.sml_core_laws.specs.Made.{Speaks, IsValueIn, IsGrown, AllSpeak}
use Rattle.sml_core_laws.proofs.MadeTypes.{speaks-more, all-more, Each, each-put}
use Rattle.sml_core_laws.proofs.MadeEnvs.{values-in, scheme-more}
use Rattle.sml_core_laws.proofs.MadeScripts.{TypeAt, TypesAt, EnvAt, WindowAt, SchemeAt, Done, Leads, onwards, type-up, types-up, window-up, first, gives, knows, chooses, tests, where-so, makes, requires, equals, sets, opens, sees, closes, NoneAt, weakens}

all-drop : {X : Type 0} (F : X → Type 0) (n : ℕ) (xs : List X) → AllByRecursion F xs → AllByRecursion F (drop n xs)
all-drop F zero xs h = h
all-drop F (suc n) [] h = h
all-drop F (suc n) (x ∷ xs) h = all-drop F n xs h.1

neither : (b c : Bool) → (b || c) ≡ false → (b ≡ false) × (c ≡ false)
neither true c h = absurd (false≢true (sym h))
neither false c h = (refl, h)

-- types in which no unknown stands
module _ {N : Type 0} (B V W : ℕ → Type 0) (H : Head N → ℕ → Type 0) where
  mutual
    unfolding Speaks has_unknown

    no-unknown : (t : MlType N) → Speaks B V H t → has_unknown t ≡ false → Speaks B W H t
    no-unknown (bound k) h e = h
    no-unknown (free v) h e = absurd (false≢true (sym e))
    no-unknown (app g ts) h e = (h.0, all-no-unknown ts h.1 e)

    all-no-unknown : (ts : MlTypes N) → AllSpeak B V H ts → have_unknown ts ≡ false → AllSpeak B W H ts
    all-no-unknown no_type h e = tt
    all-no-unknown (and_type t ts) h e = let b = neither (has_unknown t) (have_unknown ts) e in (no-unknown t h.0 b.0, all-no-unknown ts h.1 b.1)

-- the schemes of a declaration, of which no unknown stands in any
abbrev HaveNone : {N : Type 0} → List (E.Bound N) → List (Scheme N) → Type 0
HaveNone [] σs = Unit {0}
HaveNone (b ∷ bs) [] = Unit {0}
HaveNone (b ∷ bs) (σ ∷ σs) = (has_unknown σ.body ≡ false) × HaveNone bs σs

module _ {P N : Type 0} (S : Head N → ℕ → Type 0) where
  abbrev pub BoundsAt : List (E.Bound N) → State P N → Type 0
  BoundsAt bs s = AllByRecursion (λ b. TypeAt S b.type s) bs

  abbrev pub BegunAt : Begun P N → State P N → Type 0
  BegunAt b s = WindowAt S b.window s × TypesAt S b.variables s

  abbrev pub SchemesAt : List (Scheme N) → State P N → Type 0
  SchemesAt σs s = AllByRecursion (λ σ. SchemeAt S σ s) σs

  pub bounds-up : {s t : State P N} → IsGrown s t → (bs : List (E.Bound N)) → BoundsAt bs s → BoundsAt bs t
  bounds-up {s} {t} g bs h = all-more (λ b. TypeAt S b.type s) (λ b. TypeAt S b.type t) (λ b k. type-up S g b.type k) bs h

  pub begun-up : {s t : State P N} → IsGrown s t → (b : Begun P N) → BegunAt b s → BegunAt b t
  begun-up g b h = (window-up S g b.window h.0, types-up S g b.variables h.1)

  schemes-up : {s t : State P N} → IsGrown s t → (σs : List (Scheme N)) → SchemesAt σs s → SchemesAt σs t
  schemes-up {s} {t} g σs h = all-more (λ σ. SchemeAt S σ s) (λ σ. SchemeAt S σ t) (λ σ k. scheme-more S s.made s.names t.made t.names g.made g.names σ k) σs h

  pub bounds-at : (s : State P N) (x : Bool) (bs : Bindings N) → TypesAt S bs s → BoundsAt (bounds x bs) s
  bounds-at s x [] h = tt
  bounds-at s x (b ∷ bs) h = (h.0, bounds-at s x bs h.1)

  pub after-at : (s : State P N) (seen bs : Bindings N) → TypesAt S bs s → TypesAt S (after seen bs) s
  after-at s seen bs h = all-drop (λ b. TypeAt S b.1 s) (length seen) bs h

  pub bound-at : (s : State P N) (bs : Bindings N) → TypesAt S bs s → Each (IsValueIn S s.made s.names) (bound_values bs)
  bound-at s [] h = tt
  bound-at s (b ∷ bs) h =
      each-put (IsValueIn S s.made s.names) b.0 _ (bound_values bs) (speaks-more _ _ _ _ _ _ b.1 h.0 (λ k b. absurd b) (λ v l. l) (λ h k q. q), tt) (bound-at s bs h.1)

  closed-at : (s : State P N) (bs : List (E.Bound N)) (σs : List (Scheme N)) → SchemesAt σs s → Each (IsValueIn S s.made s.names) (closed_values bs σs)
  closed-at s [] σs h = tt
  closed-at s (b ∷ bs) [] h = tt
  closed-at s (b ∷ bs) (σ ∷ σs) h = each-put (IsValueIn S s.made s.names) b.id _ (closed_values bs σs) (h.0, tt) (closed-at s bs σs h.1)

  none-at : (s : State P N) (bs : List (E.Bound N)) (σs : List (Scheme N)) → SchemesAt σs s → HaveNone bs σs → Each (IsValueIn S 0 s.names) (closed_values bs σs)
  none-at s [] σs h k = tt
  none-at s (b ∷ bs) [] h k = tt
  none-at s (b ∷ bs) (σ ∷ σs) h k = each-put (IsValueIn S 0 s.names) b.id _ (closed_values bs σs) (no-unknown _ _ _ _ σ.body h.0 k.0, tt) (none-at s bs σs h.1 k.1)

module _ {P N : Type 0} {S : Head N → ℕ → Type 0} {scope : Scope N} where
  pub so-far-leads : {s : State P N} (b : Bound) (p : P) (t : MlType N) → TypeAt S t s → Leads S scope s (require_so_far b p t) Done
  so-far-leads b p t h = first sees (λ x s g q. requires (type-up S g t h))

  pub bindings-lead : (p : P) (bs : Bindings N) {s : State P N} → TypesAt S bs s → Leads S scope s (require_bindings scope p bs) Done
  bindings-lead p [] h = gives (λ w. tt)
  bindings-lead p (b ∷ bs) h = first (so-far-leads _ p b.1 h.0) (λ u s g q. bindings-lead p bs (types-up S g bs h.1))

  equality-leads : {s : State P N} (p : P) (b : Bool) (k : ℕ) → k < s.made → Leads S scope s (admit_equality scope p b k) Done
  unfolding Speaks
  equality-leads p false k l = gives (λ w. tt)
  equality-leads p true k l = requires l

  variables-lead : (p : P) (vs : Map (MlType N)) (xs : List Id) {s : State P N} → TypesAt S vs s → Leads S scope s (scope_variables scope p vs xs) (λ r t. TypesAt S r.1 t)
  unfolding Speaks
  variables-lead p vs [] h = gives (λ w. h)
  variables-lead p vs (x ∷ xs) h =
      first (makes 1) (λ k s g l.
      first (requires (omega arith)) (λ u t i d.
      first (equality-leads p (is_equality x) k (let m = i.made in omega arith)) (λ u' t' i' d'.
      let m = i.made in
      let m' = i'.made in
      first (variables-lead p ((x, free k) ∷ vs) xs (omega arith, types-up S (onwards g (onwards i i')) vs h)) (λ r t'' i'' q. gives (λ w. q)))))

  pub begins : {s : State P N} (p : P) (vs : Map (MlType N)) (xs : List Id) → TypesAt S vs s → Leads S scope s (begin_values scope p vs xs) (BegunAt S)
  begins p vs xs h =
      first sees (λ x s g q.
      first (sets (tt, tt)) (λ u t i d.
      first (variables-lead p vs (not_in_scope vs [] xs) (types-up S (onwards g i) vs h)) (λ r t' i' k. gives (λ w. (window-up S (onwards i i') x.window q, k)))))

  settles : (p : P) (vs : List ℕ) {s : State P N} → AllByRecursion (λ v. v < s.made) vs → Leads S scope s (settle scope p vs) Done
  unfolding Speaks
  settles p [] h = gives (λ w. tt)
  settles p (v ∷ vs) h =
      first sees (λ x s g q.
      first (where-so (knows (λ w. equals (let l = h.0 in let m = g.made in omega arith) ((w.well.initials int, w.shape.names_alone int tt), tt)))) (λ u t i d.
      settles p vs (let m = g.made in let n = i.made in all-more _ _ (λ v l. omega arith) vs h.1)))

  labels-lead : (rs : List (P × MlType N)) {s : State P N} → Leads S scope s (require_labels scope rs) Done
  labels-lead [] = gives (λ w. tt)
  labels-lead (r ∷ rs) = first sees (λ x s g q. first tests (λ u t i d. labels-lead rs))

  all-close : (k : ℕ) (bs : List (E.Bound N)) {s : State P N} → BoundsAt S bs s → Leads S scope s (close_all scope k bs) (SchemesAt S)
  all-close k [] h = gives (λ w. tt)
  all-close k (b ∷ bs) h =
      first (closes h.0) (λ σ s g q. first (all-close k bs (bounds-up S g bs h.1)) (λ σs t i r. gives (λ w. (scheme-more S s.made s.names t.made t.names i.made i.names σ q, r))))

  bounds-lead : (p : P) (bs : List (E.Bound N)) (σs : List (Scheme N)) {s : State P N} → BoundsAt S bs s → Leads S scope s (require_bounds scope p bs σs) (λ u t. t.is_open ≡ false → HaveNone bs σs)
  bounds-lead p [] σs h = gives (λ w e. tt)
  bounds-lead p (b ∷ bs) [] h = gives (λ w e. tt)
  bounds-lead p (b ∷ bs) (σ ∷ σs) h =
      chooses (has_unknown σ.body)
      (λ e. first opens (λ u s g o. first (so-far-leads _ p b.type (type-up S g b.type h.0)) (λ u t i d.
      weakens (bounds-lead p bs σs (bounds-up S (onwards g i) bs h.1)) (λ u z j q f. absurd (false≢true (sym (i.stays_open (j.stays_open f)) ∙ o))))))
      (λ e. weakens (bounds-lead p bs σs h.1) (λ u z j q f. (e, q f)))

  pub value-ends : {s : State P N} (p : P) (b : Begun P N) (bs : List (E.Bound N)) → BegunAt S b s → BoundsAt S bs s → Leads S scope s (end_values scope p b bs) (λ E t. EnvAt S E t × (t.is_open ≡ false → NoneAt S E t))
  value-ends p b bs h k =
      first sees (λ x s g q.
      first (settles p x.window.overloaded q.1) (λ u s1 g1 d.
      first (labels-lead x.window.rows) (λ u s2 g2 d.
      let g012 = onwards g (onwards g1 g2) in
      first (sets (window-up S g012 b.window h.0)) (λ u s3 g3 d.
      first (first sees (λ x t i q. tests)) (λ u s4 g4 d.
      first (first sees (λ x t i q. tests)) (λ u s5 g5 d.
      let all = onwards g012 (onwards g3 (onwards g4 g5)) in
      first (all-close b.made bs (bounds-up S all bs k)) (λ σs s6 g6 c.
      first (bounds-lead p bs σs (bounds-up S (onwards all g6) bs k)) (λ u s7 g7 d.
      let own = schemes-up S g7 σs c in
      gives (λ w. (values-in S s7.made s7.names (closed_values bs σs) (closed-at S s7 bs σs own), (λ e. values-in S 0 s7.names (closed_values bs σs) (none-at S s7 bs σs own (d e)))))))))))))
