-- Relations whose answer is settled by the context, up to the choice of names outside it.
use Rattle.std.specs.Prelude.{◌≡◌, List, [], ◌∷◌}
use mathlib.Core.Path.{refl, sym, ◌∙◌, path_j}
use Rattle.sml_objects.specs.Names.{Naming}
use Rattle.sml_rules.specs.Answers.{Answer, refused, accepted, After, ◌>>=◌}
use Rattle.sml_objects.specs.Objects.{Outside}
use Rattle.sml_rules.proofs.Worlds.{Over, Named}
use Rattle.sml_rules.proofs.Renaming.{Fixes, fixes-left, fixes-right, fixes-id}
use mathlib.Core.List.{◌++◌}

abbrev pub Rel : (C O : Type 0 → Type 0) → Type 1
Rel C O = (N : Type 0) → Naming N → C N → O N → Type 0

-- a family of objects with a renaming, the names that stand in an object, and that these alone decide
pub record Supported (F : Type 0 → Type 0) : Type 1 where
  pub rename : {A B : Type 0} → (A → B) → F A → F B
  pub names : {A : Type 0} → F A → List A
  pub fixed : {A : Type 0} (f : A → A) (x : F A) → Fixes f (names x) → rename f x ≡ x

abbrev pub pair_supported : {F G : Type 0 → Type 0} → Supported F → Supported G → Supported (λ N. F N × G N)
pair_supported F G = record {
  rename = λ f x. (F.rename f x.0, G.rename f x.1);
  names = λ x. F.names x.0 ++ G.names x.1;
  fixed = λ f x h i. (
    F.fixed f x.0 (fixes-left f (F.names x.0) (G.names x.1) h) i,
    G.fixed f x.1 (fixes-right f (F.names x.0) (G.names x.1) h) i,
  );
}

abbrev pub supported_named : {F : Type 0 → Type 0} → Supported F → Named F
supported_named F = record { rename = F.rename; rename-id = λ x. F.fixed (λ n. n) x (fixes-id (F.names x)) }

-- what is outside the first is outside the second
abbrev pub Covers : {N : Type 0} → List N → List N → Type 0
Covers {N = N} ms ns = (n : N) → Outside n ms → Outside n ns

pub outside-left : {N : Type 0} (n : N) (ms ns : List N) → Outside n (ms ++ ns) → Outside n ms
unfolding Outside
outside-left n [] ns h = tt
outside-left n (m ∷ ms) ns h = (h.0, outside-left n ms ns h.1)

pub outside-right : {N : Type 0} (n : N) (ms ns : List N) → Outside n (ms ++ ns) → Outside n ns
unfolding Outside
outside-right n [] ns h = h
outside-right n (m ∷ ms) ns h = outside-right n ms ns h.1

pub outside-append : {N : Type 0} (n : N) (ms ns : List N) → Outside n ms → Outside n ns → Outside n (ms ++ ns)
unfolding Outside
outside-append n [] ns h k = k
outside-append n (m ∷ ms) ns h k = (h.0, outside-append n ms ns h.1 k)

-- Two answers in one context are alike over the context, and over whatever else has no other names.
abbrev pub Settled : {C O : Type 0 → Type 0} → Supported C → Rel C O → Type 1
Settled {C = C} {O = O} S R = (D : Type 0 → Type 0) (E : Supported D) (N : Type 0) (a : Naming N) (c : C N) (d : D N)
    → Covers (S.names c) (E.names d) → (x y : O N) → R N a c x → R N a c y
    → ◌≡◌ {A = Over (λ N. (C N × D N) × O N)} (N, a, ((c, d), x)) (N, a, ((c, d), y))

-- in contexts that are alike the answers are alike
pub carried : {C O : Type 0 → Type 0} (R : Rel C O) {v w : Over C}
    → ((x y : O v.0) → R v.0 v.1 v.2 x → R v.0 v.1 v.2 y → ◌≡◌ {A = Over (λ N. C N × O N)} (v.0, v.1, (v.2, x)) (v.0, v.1, (v.2, y)))
    → v ≡ w → {x : O v.0} {y : O w.0} → R v.0 v.1 v.2 x → R w.0 w.1 w.2 y
    → ◌≡◌ {A = Over (λ N. C N × O N)} (v.0, v.1, (v.2, x)) (w.0, w.1, (w.2, y))
carried {C = C} {O = O} R {v = v} s p {x = x} {y = y} r =
    path_j {A = Over C} (λ w _. (y : O w.0) → R w.0 w.1 w.2 y
    → ◌≡◌ {A = Over (λ N. C N × O N)} (v.0, v.1, (v.2, x)) (w.0, w.1, (w.2, y)))
    (λ y r'. s x y r r') p y

-- a map over what the path relates
pub mapped : {C D : Type 0 → Type 0} (f : (N : Type 0) → Naming N → C N → D N) {v w : Over C} → v ≡ w
    → ◌≡◌ {A = Over D} (v.0, v.1, f v.0 v.1 v.2) (w.0, w.1, f w.0 w.1 w.2)
mapped f p i = ((p i).0, (p i).1, f (p i).0 (p i).1 (p i).2)

-- the same of a value that holds no names
pub same_value {ℓ} : {C : Type 0 → Type 0} {X : Type ℓ} (f : (N : Type 0) → Naming N → C N → X) {v w : Over C} → v ≡ w
    → f v.0 v.1 v.2 ≡ f w.0 w.1 w.2
same_value f p i = f (p i).0 (p i).1 (p i).2

-- equal answers
pub by_equation : {C O : Type 0 → Type 0} {N : Type 0} {a : Naming N} {c : C N} {x y : O N} → x ≡ y
    → ◌≡◌ {A = Over (λ N. C N × O N)} (N, a, (c, x)) (N, a, (c, y))
by_equation {N = N} {a = a} {c = c} p i = (N, a, (c, p i))

pub by_function : {C O : Type 0 → Type 0} (S : Supported C) (f : (N : Type 0) → Naming N → C N → O N)
    → Settled {C = C} {O = O} S (λ N a c x. x ≡ f N a c)
by_function {C = C} {O = O} S f D E N a c d cov x y p q = by_equation {C = λ N. C N × D N} {O = O} (p ∙ sym q)

-- a relation read in a context that is made of another and holds its names
pub reindexed : {B C O : Type 0 → Type 0} (T : Supported B) (S : Supported C) (R : Rel C O) (f : (N : Type 0) → B N → C N)
    → ((N : Type 0) (b : B N) → Covers (S.names (f N b)) (T.names b)) → Settled {C = C} {O = O} S R
    → Settled {C = B} {O = O} T (λ N a b. R N a (f N b))
reindexed {B = B} {C = C} {O = O} T S R f holds s D E N a b d cov x y r r' =
    mapped {C = λ N. (C N × (B N × D N)) × O N} {D = λ N. (B N × D N) × O N} (λ N a v. (v.0.1, v.1))
    (s (λ N. B N × D N) (pair_supported T E) N a (f N b) (b, d)
    (λ n h. outside-append n (T.names b) (E.names d) (holds N b n h) (cov n (holds N b n h))) x y r r')

-- one phrase after another

module _ {P : Type 0} {C X Y : Type 0 → Type 0} (S : Supported C) (T : Supported X) where
  after_settled : (Next : Rel (λ N. C N × X N) (λ N. Answer P (Y N)))
      → Settled {C = λ N. C N × X N} {O = λ N. Answer P (Y N)} (pair_supported S T) Next
      → (D : Type 0 → Type 0) (E : Supported D) (N : Type 0) (a : Naming N) (c : C N) (d : D N) → Covers (S.names c) (E.names d)
      → (q : Answer P (X N)) (x y : Answer P (Y N))
      → After (λ x. Next N a (c, x)) q x → After (λ x. Next N a (c, x)) q y
      → ◌≡◌ {A = Over (λ N. ((C N × D N) × Answer P (X N)) × Answer P (Y N))} (N, a, (((c, d), q), x)) (N, a, (((c, d), q), y))
  unfolding After
  after_settled Next s D E N a c d cov (refused f) x y r r' = λ i. (N, a, (((c, d), refused f), (r ∙ sym r') i))
  after_settled Next s D E N a c d cov (accepted z) x y r r' =
      mapped {C = λ N. ((C N × X N) × D N) × Answer P (Y N)} {D = λ N. ((C N × D N) × Answer P (X N)) × Answer P (Y N)}
      (λ N a v. (((v.0.0.0, v.0.1), accepted v.0.0.1), v.1))
      (s D E N a (c, z) d (λ n h. cov n (outside-left n (S.names c) (T.names z) h)) x y r r')

  pub bind_settled : (First : Rel C (λ N. Answer P (X N))) (Next : Rel (λ N. C N × X N) (λ N. Answer P (Y N)))
      → Settled {C = C} {O = λ N. Answer P (X N)} S First
      → Settled {C = λ N. C N × X N} {O = λ N. Answer P (Y N)} (pair_supported S T) Next
      → Settled {C = C} {O = λ N. Answer P (Y N)} S (λ N a c. (First N a c) >>= (λ x. Next N a (c, x)))
  unfolding ◌>>=◌
  bind_settled First Next s t D E N a c d cov x y r r' =
      mapped {C = λ N. ((C N × D N) × Answer P (X N)) × Answer P (Y N)} {D = λ N. (C N × D N) × Answer P (Y N)} (λ N a v. (v.0.0, v.1))
      (carried {C = λ N. (C N × D N) × Answer P (X N)} {O = λ N. Answer P (Y N)}
      (λ N a v o. After (λ x. Next N a (v.0.0, x)) v.1 o)
      (λ x y r r'. after_settled Next t D E N a c d cov _ x y r r')
      (s D E N a c d cov r.0 r'.0 r.1 r'.1) r.2 r'.2)

-- the same of rules, which have no faults
module _ {C X Y : Type 0 → Type 0} (S : Supported C) (T : Supported X) where
  pub chain_settled : (First : Rel C X) (Next : Rel (λ N. C N × X N) Y) → Settled {C = C} {O = X} S First
      → Settled {C = λ N. C N × X N} {O = Y} (pair_supported S T) Next
      → Settled {C = C} {O = Y} S (λ N a c y. (x : X N) × First N a c x × Next N a (c, x) y)
  chain_settled First Next s t D E N a c d cov x y r r' =
      mapped {C = λ N. ((C N × D N) × X N) × Y N} {D = λ N. (C N × D N) × Y N} (λ N a v. (v.0.0, v.1))
      (carried {C = λ N. (C N × D N) × X N} {O = Y} (λ N a v. Next N a (v.0.0, v.1))
      (λ x y q q'.
      mapped {C = λ N. ((C N × X N) × D N) × Y N} {D = λ N. ((C N × D N) × X N) × Y N} (λ N a v. (((v.0.0.0, v.0.1), v.0.0.1), v.1))
      (t D E N a (c, r.0) d (λ n h. cov n (outside-left n (S.names c) (T.names r.0) h)) x y q q'))
      (s D E N a c d cov r.0 r'.0 r.1 r'.1) r.2 r'.2)

-- with nothing else in sight
pub settled_alone : {C O : Type 0 → Type 0} (S : Supported C) (R : Rel C O) → Settled {C = C} {O = O} S R
    → (N : Type 0) (a : Naming N) (c : C N) (x y : O N) → R N a c x → R N a c y
    → ◌≡◌ {A = Over (λ N. C N × O N)} (N, a, (c, x)) (N, a, (c, y))
unfolding Outside
settled_alone {C = C} {O = O} S R s N a c x y r r' =
    mapped {C = λ N. (C N × Unit {0}) × O N} {D = λ N. C N × O N} (λ N a v. (v.0.0, v.1))
    (s (λ N. Unit {0}) (record { rename = λ f u. tt; names = λ u. []; fixed = λ f u h. refl }) N a c tt (λ n h. tt) x y r r')
