-- Scripts all of whose refusals have such a code.
use Rattle.std.specs.Prelude.{◌≡◌, ◌||◌, ℕ, Bool, true, false, cond, List}
use mathlib.Core.Path.{refl, sym, ap, subst, ◌∙◌}
use mathlib.Core.Logic.{inl, inr}
use Rattle.sml_lex.specs.declared.fault.Code.{Code}
use Rattle.sml_lex.specs.Faults.{Fault}
use Rattle.sml_objects.specs.Objects.{MlType, Scheme}
use Rattle.sml_layers.specs.declared.layer.Layer.{Layer}
use Rattle.sml_layers.specs.Layers.{code_of}
use Rattle.sml_rules.specs.Answers.{Answer, refused, accepted}
use Rattle.sml_rules.proofs.Sound.{not_refused}
use Rattle.sml_core_rules.specs.Answers as A
use Rattle.sml_core_rules.specs.States.{Scope, State, with_unknowns, with_made, with_demand, with_window, with_judged, opened, afresh}
use Rattle.sml_core_rules.specs.Datatypes.{Arguments, arguments_of}
use Rattle.sml_core_rules.specs.Scripts.{Script, give, refuse, tests, either, makes_unknowns, requires, sees, sets_window, stays_open, judges, starts_anew, requires_or, closes, determines, makes_names, makes_datatypes, ◌>>=◌, look, IsAnswer}

-- either side of a table

pub or-left : (b c : Bool) → b ≡ true → (b || c) ≡ true
or-left true c h = refl
or-left false c h = let e : false ≡ true = h in absurd cc

pub or-right : (b c : Bool) → c ≡ true → (b || c) ≡ true
or-right true c h = refl
or-right false c h = h

abbrev fault_or : {P X : Type 0} → Fault P → Answer P X → Fault P
fault_or e (refused f) = f
fault_or e (accepted x) = e

module _ (D : Code → Bool) where
  -- answers without a state

  abbrev pub CodeOf : {P X : Type 0} → Answer P X → Type 0
  CodeOf (refused f) = D f.code ≡ true
  CodeOf (accepted x) = Unit {0}

  pub code-of : {P X : Type 0} (a : Answer P X) → CodeOf a → (f : Fault P) → a ≡ refused f → D f.code ≡ true
  code-of (refused e) h f s = subst (λ f. D f.code ≡ true) (ap (fault_or e) s) h
  code-of (accepted x) h f s = absurd (not_refused s)

  pub code-then : {P X Y : Type 0} (a : Answer P X) (f : X → Answer P Y) → CodeOf a → ((x : X) → CodeOf (f x)) → CodeOf (A.◌>>=◌ a f)
  unfolding A.◌>>=◌
  code-then (refused e) f h k = h
  code-then (accepted x) f h k = k x

  unfoldable pub RefusesBy : {P N X : Type 0} → Script P N X → Type 0
  RefusesBy (give x) = Unit {0}
  RefusesBy (refuse f) = D f.code ≡ true
  RefusesBy (tests C f k) = (D f.code ≡ true) × RefusesBy k
  RefusesBy (either C k j) = RefusesBy k × RefusesBy j
  RefusesBy (makes_unknowns n k) = (v : ℕ) → RefusesBy (k v)
  RefusesBy (requires d p k) = ((l : Layer) → D (code_of l) ≡ true) × RefusesBy k
  RefusesBy {P} {N} (sees k) = (s : State P N) → RefusesBy (k s)
  RefusesBy (sets_window w k) = RefusesBy k
  RefusesBy (stays_open k) = RefusesBy k
  RefusesBy (judges j k) = RefusesBy k
  RefusesBy (starts_anew k) = RefusesBy k
  RefusesBy (requires_or d f k) = (D f.code ≡ true) × RefusesBy k
  RefusesBy {N = N} (closes n x t k) = (σ : Scheme N) → RefusesBy (k σ)
  RefusesBy {N = N} (determines t f k) = (D f.code ≡ true) × ((u : MlType N) → RefusesBy (k u))
  RefusesBy {N = N} (makes_names ws k) = (ns : List N) → RefusesBy (k ns)
  RefusesBy {N = N} (makes_datatypes C ds k) = ((ns : List N) → CodeOf (arguments_of C ds ns)) × ((ns : List N) (gs : List (Arguments N)) → RefusesBy (k ns gs))

  pub refuses-then : {P N X Y : Type 0} (m : Script P N X) (f : X → Script P N Y) → RefusesBy m → ((x : X) → RefusesBy (f x)) → RefusesBy (m >>= f)
  unfolding RefusesBy ◌>>=◌
  refuses-then (give x) f h k = k x
  refuses-then (refuse e) f h k = h
  refuses-then (tests C e m) f h k = (h.0, refuses-then m f h.1 k)
  refuses-then (either C m n) f h k = (refuses-then m f h.0 k, refuses-then n f h.1 k)
  refuses-then (makes_unknowns n m) f h k = λ v. refuses-then (m v) f (h v) k
  refuses-then (requires d p m) f h k = (h.0, refuses-then m f h.1 k)
  refuses-then (sees m) f h k = λ s. refuses-then (m s) f (h s) k
  refuses-then (sets_window w m) f h k = refuses-then m f h k
  refuses-then (stays_open m) f h k = refuses-then m f h k
  refuses-then (judges j m) f h k = refuses-then m f h k
  refuses-then (starts_anew m) f h k = refuses-then m f h k
  refuses-then (requires_or d e m) f h k = (h.0, refuses-then m f h.1 k)
  refuses-then (closes n x t m) f h k = λ σ. refuses-then (m σ) f (h σ) k
  refuses-then (determines t e m) f h k = (h.0, λ u. refuses-then (m u) f (h.1 u) k)
  refuses-then (makes_names ws m) f h k = λ ns. refuses-then (m ns) f (h ns) k
  refuses-then (makes_datatypes C ds m) f h k = (h.0, λ ns gs. refuses-then (m ns gs) f (h.1 ns gs) k)

  pub refuses-look : {P X : Type 0} (N : Type 0) (a : Answer P X) → CodeOf a → RefusesBy (look {N = N} a)
  unfolding RefusesBy
  refuses-look N (refused e) h = h
  refuses-look N (accepted x) h = tt

  pub refuses-cond : {P N X : Type 0} (b : Bool) (k j : Script P N X) → RefusesBy k → RefusesBy j → RefusesBy (cond b k j)
  refuses-cond true k j h g = h
  refuses-cond false k j h g = g

  -- what it is refused with
  pub refusal : {P N X : Type 0} (scope : Scope N) (k : Script P N X) → RefusesBy k → (s : State P N) (f : Fault P) → IsAnswer scope k s (refused f) → D f.code ≡ true
  unfolding RefusesBy IsAnswer
  refusal scope (give x) h s f a = absurd (not_refused (sym a))
  refusal scope (refuse e) h s f a = code-of (refused e) h f (sym a)
  refusal scope (tests C e k) h s f (inl a) = refusal scope k h.1 s f a.1
  refusal scope (tests C e k) h s f (inr a) = code-of (refused e) h.0 f (sym a.1)
  refusal scope (either C k j) h s f (inl a) = refusal scope k h.0 s f a.1
  refusal scope (either C k j) h s f (inr a) = refusal scope j h.1 s f a.1
  refusal scope (makes_unknowns n k) h s f a = refusal scope (k s.made) (h s.made) (with_unknowns n s) f a
  refusal scope (requires d p k) h s f (inl a) = refusal scope k h.1 (with_demand d s) f a.1
  refusal scope (requires d p k) h s f (inr a) = code-of (refused _) (h.0 a.0) f (sym a.2)
  refusal scope (sees k) h s f a = refusal scope (k s) (h s) s f a
  refusal scope (sets_window w k) h s f a = refusal scope k h (with_window w s) f a
  refusal scope (stays_open k) h s f a = refusal scope k h (opened s) f a
  refusal scope (judges j k) h s f a = refusal scope k h (with_judged j s) f a
  refusal scope (starts_anew k) h s f a = refusal scope k h (afresh s) f a
  refusal scope (requires_or d e k) h s f (inl a) = refusal scope k h.1 (with_demand d s) f a.1
  refusal scope (requires_or d e k) h s f (inr a) = code-of (refused e) h.0 f (sym a.1)
  refusal scope (closes n x t k) h s f (σ, c, a) = refusal scope (k σ) (h σ) s f a
  refusal scope (determines t e k) h s f (inl (u, c, a)) = refusal scope (k u) (h.1 u) s f a
  refusal scope (determines t e k) h s f (inr a) = code-of (refused e) h.0 f (sym a.1)
  refusal scope (makes_names ws k) h s f (ns, c, a) = refusal scope (k ns) (h ns) (with_made ns s) f a
  refusal scope (makes_datatypes C ds k) h s f (ns, c, d, inl (e, g, a)) =
      code-of (refused e) (subst CodeOf g (h.0 ns)) f (sym a)
  refusal scope (makes_datatypes C ds k) h s f (ns, c, d, inr (gs, e, g, a)) = refusal scope (k ns gs) (h.1 ns gs) (with_made ns s) f a
