-- Structure expressions and structure-level declarations are read to what was made.
use Rattle.std.specs.Prelude.{◌≡◌, ◌≤◌, ℕ, Bool, true, false, cond, [], Option, Some, None}
use Rattle.std.proofs.Common.{arith}
use Rattle.std.proofs.lemmas.Bool.{false≢true}
use mathlib.Core.Path.{refl, sym, subst, ◌∙◌}
use Rattle.sml_lex.specs.Faults.{Fault}
use Rattle.sml_tree.specs.Trees.{Id}
use Rattle.sml_tree.specs.Names.{Name}
use Rattle.sml_tree.specs.Expressions.{Dec}
use Rattle.sml_tree.specs.Structures.{StrExp, StrDec, StrDecs, StrBinds, struct_end, str_name, ascribed, functor_apply, str_let, core_dec, structure_dec, str_local, no_str_dec, and_str_dec, str_bind, no_str_bind, and_str_bind}
use Rattle.sml_objects.specs.Maps.{lookup}
use Rattle.sml_objects.specs.Objects.{Head}
use Rattle.sml_rules.specs.Answers.{accepted}
use Rattle.sml_rules.proofs.Sound.{accepted_same, not_refused}
use Rattle.sml_core_rules.specs.Expressions.{read_dec}
use Rattle.sml_core_rules.specs.Lookups.{structure_at}
use Rattle.sml_core_rules.specs.Objects.{Env, FunSig, Basis, empty, extend}
use Rattle.sml_core_rules.specs.Scripts.{Script, give, refuse, ◌>>=◌, start_anew, IsAnswer}
use Rattle.sml_core_rules.specs.States.{Scope, State, no_window, afresh}
use Rattle.sml_core_rules.proofs.Accepted.{bind-accepted}
use Rattle.sml_core_rules.proofs.Derived.{needed}
use Rattle.sml_core_laws.specs.Made.{IsEnvIn, IsWindowIn, IsGrown}
use Rattle.sml_core_laws.proofs.MadeTypes.{each-lookup, all-more}
use Rattle.sml_core_laws.proofs.MadeEnvs.{env-more, extend-in, empty-in, opened-found}
use Rattle.sml_core_laws.proofs.MadeExpressions.{dec-leads, DecAt}
use Rattle.sml_core_laws.proofs.MadeScripts.{Known, Leads, Done}
use Rattle.sml_module_rules.specs.Structures.{signature_place, one_structure, functor_named, read_str, read_strs, read_strdec, read_str_binds}
use Rattle.sml_module_laws.specs.Made.{HasNoOverloaded, IsEnvAt, IsContextAt, IsResultAt, IsFunctorIn, IsScopeIn, IsLater}
use Rattle.sml_module_laws.proofs.Bodies.{body-env, body-more, extend-usual, empty-usual}
use Rattle.sml_module_laws.proofs.Steps.{Ready, Goes, BodyAt, looks}
use Rattle.sml_module_laws.proofs.Described.{SigAt}
use Rattle.sml_module_laws.proofs.Signatures.{sig-goes}
use Rattle.sml_module_laws.proofs.Matched.{FunctorAt, ascribe-goes, functor-goes}
use Rattle.sml_module_laws.proofs.Windows.{dec-keeps}
use Rattle.sml_module_laws.proofs.Usual.{structure-usual, extend-inside, dec-brings}

module _ {P N : Type 0} where
  pub grown-later : {s t : State P N} → IsGrown s t → IsLater s t
  grown-later g = record { names = g.names; stays_open = g.stays_open; made = λ e. g.made }

  later-twice : {s t u : State P N} → IsLater s t → IsLater t u → IsLater s u
  later-twice {s} {t} {u} g h = record { names = λ n k. h.names n (g.names n k); stays_open = λ e. g.stays_open (h.stays_open e); made = made }
    where
      made : s.is_open ≡ true → s.made ≤ u.made
      made e = go t.is_open refl
        where
          go : (b : Bool) → t.is_open ≡ b → s.made ≤ u.made
          go true o = let l = g.made e in let m = h.made o in omega arith
          go false o = absurd (false≢true (sym (g.stays_open o) ∙ e))

module _ {P N : Type 0} (S : Head N → ℕ → Type 0) where
  module _ {s t : State P N} (l : IsLater s t) where
    pub later-up : (E : Env N) → IsEnvAt S s E → IsEnvAt S t E
    later-up E h = go s.is_open refl
      where
        go : (b : Bool) → s.is_open ≡ b → IsEnvAt S t E
        go true e = (env-more S s.made s.names t.made t.names (l.made e) l.names E h.0, λ o. absurd (false≢true (sym (l.stays_open o) ∙ e)))
        go false e =
            let n = env-more S 0 s.names 0 t.names (omega arith) l.names E (h.1 e) in (env-more S 0 t.names t.made t.names (omega arith) (λ n k. k) E n, λ o. n)

    pub scope-up : (B : Basis N) → IsScopeIn S s.names B → IsScopeIn S t.names B
    scope-up B h = (
      all-more (λ R. BodyAt S R.1.body s) (λ R. BodyAt S R.1.body t) (λ R k. body-more S s.names t.names l.names R.1.body k) B.signatures h.0,
      all-more (λ F. FunctorAt S F.1 s) (λ F. FunctorAt S F.1 t)
          (λ F k. (body-more S s.names t.names l.names F.1.argument.body k.0, body-more S s.names t.names l.names F.1.result.body k.1)) B.functors h.1,
    )

  both-extend : (s : State P N) (E F : Env N) → IsEnvAt S s E → IsEnvAt S s F → IsEnvAt S s (extend E F)
  both-extend s E F h k = (extend-in S s.made s.names E F h.0 k.0, λ o. extend-in S 0 s.names E F (h.1 o) (k.1 o))

  pub context-up : {s t : State P N} → IsLater s t → (C : Env N) → IsContextAt S s C → IsContextAt S t C
  context-up l C c = (later-up l C c.0, c.1)

  pub result-up : {s t : State P N} → IsLater s t → (E : Env N) → IsResultAt S s E → IsResultAt S t E
  result-up l E h = (later-up l E h.0, h.1)

  -- a context with what was bound
  pub in-extend : (s : State P N) (C E : Env N) → IsContextAt S s C → IsResultAt S s E → IsContextAt S s (extend C E)
  in-extend s C E c h = (both-extend s C E c.0 h.0, extend-inside C E c.1 h.1)

  pub at-extend : (s : State P N) (E F : Env N) → IsResultAt S s E → IsResultAt S s F → IsResultAt S s (extend E F)
  at-extend s E F h k = (both-extend s E F h.0 k.0, extend-usual E F h.1 k.1)

  pub at-body : (s : State P N) (E : Env N) → BodyAt S E s → IsResultAt S s E
  at-body s E h = ((body-env S s.names s.made E h, λ o. h.0), h.1)

  pub at-empty : (s : State P N) → IsResultAt S s empty
  at-empty s = ((empty-in S s.made s.names, λ o. empty-in S 0 s.names), empty-usual N)

  pub at-one : (s : State P N) (x : Id) (E : Env N) → IsResultAt S s E → IsResultAt S s (one_structure x E)
  unfolding IsEnvIn HasNoOverloaded
  at-one s x E h = ((((h.0.0, tt), tt, tt), λ o. ((h.0.1 o, tt), tt, tt)), ((h.1, tt), tt))

-- Between declarations the window is empty. Where no unknown may stand in what was bound, all begin anew.
module _ {P N : Type 0} (S : Head N → ℕ → Type 0) (scope : Scope N) where
  pub record Reaches {X : Type 0} (s : State P N) (m : Script P N X) (Q : X → State P N → Type 0) : Type 0 where
    pub ends : Ready S scope no_window s → (r : X × State P N) → IsAnswer scope m s (accepted r) → Ready S scope no_window r.1 × IsLater s r.1 × Q r.0 r.1

module _ {P N : Type 0} {S : Head N → ℕ → Type 0} {scope : Scope N} where
  pub then : {X Y : Type 0} {s : State P N} {m : Script P N X} {f : X → Script P N Y} {Q : X → State P N → Type 0} {R : Y → State P N → Type 0} → Reaches S scope s m Q
      → ((x : X) (t : State P N) → IsLater s t → Q x t → Reaches S scope t (f x) R) → Reaches S scope s (m >>= f) R
  then {X} {Y} {s} {m} {f} {Q} {R} h k = record {
    ends = λ y r a.
        let b = bind-accepted scope m f s r a in
        let c = h.ends y b.0 b.1 in
        let next : Reaches S scope b.0.1 (f b.0.0) R = k b.0.0 b.0.1 c.1 c.2 in
        let d = next.ends c.0 r b.2 in (d.0, later-twice c.1 d.1, d.2);
  }

  pub rests : {X : Type 0} {s : State P N} {x : X} {Q : X → State P N → Type 0} → Q x s → Reaches S scope s (give x) Q
  unfolding IsAnswer
  rests {X} {s} {x} {Q} q = record {
    ends = λ y r a. subst (λ r. Ready S scope no_window r.1 × IsLater s r.1 × Q r.0 r.1) (sym (accepted_same a)) (y, record { names = λ n h. h; stays_open = λ e. e; made = λ e. omega arith }, q);
  }

  stops : {X : Type 0} {s : State P N} {f : Fault P} {Q : X → State P N → Type 0} → Reaches S scope s (refuse f) Q
  unfolding IsAnswer
  stops = record { ends = λ y r a. absurd (not_refused a) }

  pub goes : {X : Type 0} {s : State P N} {m : Script P N X} {Q R : X → State P N → Type 0} → Goes S scope no_window s m Q → ((x : X) (t : State P N) → Q x t → R x t) → Reaches S scope s m R
  goes h f = record { ends = λ y r a. let c = h.ends y r a in (c.0, grown-later c.1, f r.0 r.1 c.2) }

  anew : {s : State P N} → Reaches S scope s start_anew Done
  unfolding IsAnswer
  anew {s} = record { ends = λ y r a. subst (λ r. Ready S scope no_window r.1 × IsLater s r.1 × Unit {0}) (sym (accepted_same a)) (record { exact = y.exact; known = known y; window = y.window }, later, tt) }
    where
      known : Ready S scope no_window s → Known S scope (afresh s)
      known y = go s.is_open
        where
          go : (b : Bool) → Known S scope (record { made = cond b s.made 0; names = s.names; demands = cond b s.demands []; window = s.window; is_open = s.is_open; judged = s.judged })
          go true = record { shape = y.known.shape; well = record { initials = y.known.well.initials; demands = y.known.well.demands; window = y.known.well.window; met = y.known.well.met } }
          go false = record {
            shape = y.known.shape;
            well = record { initials = y.known.well.initials; demands = tt; window = subst (IsWindowIn S 0 s.names) (sym y.window) (tt, tt); met = (y.known.well.met.0, tt) };
          }

      later : IsLater s (afresh s)
      later = record { names = λ n h. h; stays_open = λ e. e; made = go s.is_open }
        where
          go : (b : Bool) → b ≡ true → s.made ≤ cond b s.made 0
          go true e = omega arith
          go false e = absurd (false≢true e)

  dec-reaches : {s : State P N} (C : Env N) (d : Dec P) → IsContextAt S s C → Reaches S scope s (read_dec scope C [] d) (λ E t. IsResultAt S t E)
  dec-reaches {s} C d c = record {
    ends = λ y r a.
        let l : Leads S scope s (read_dec scope C [] d) (DecAt S true) = dec-leads C [] d true c.0.0 tt (λ x o. c.0.1 o) (λ x o. tt) in
        let e = l.ends y.known r a in
        (record { exact = y.exact; known = e.0; window = (dec-keeps C [] d).same s r a ∙ y.window }, grown-later e.1, ((e.2.0, λ o. e.2.1 refl o), (dec-brings C [] d c.1).of s r a));
  }

  functor-found : {s : State P N} (x : Name P) (o : Option (FunSig N)) → ((F : FunSig N) → o ≡ Some F → FunctorAt S F s) → Reaches S scope s (functor_named scope x o) (FunctorAt S)
  functor-found x None h = stops
  functor-found x (Some F) h = rests (h F refl)

  -- B has the functors and the signatures, C the environment
  module _ (B : Basis N) where
    mutual
      unfolding read_str

      pub str-reaches : (C : Env N) (e : StrExp P) {s : State P N} → IsScopeIn S s.names B → IsContextAt S s C → Reaches S scope s (read_str scope B C e) (λ E t. IsResultAt S t E)
      str-reaches C (struct_end p ds) {s} b c = strs-reach C empty ds b c (at-empty S s)
      str-reaches C (str_name x) {s} b c =
          goes (looks {Q = λ E t. IsResultAt S t E} _ (λ E e.
          let f = needed _ _ x.id (structure_at C x.id) E e in ((opened-found S s.made s.names C x.id E c.0.0 f, λ o. opened-found S 0 s.names C x.id E (c.0.1 o) f), structure-usual C x.id E c.1 f))) (λ E t h. h)
      str-reaches C (ascribed p e a q) b c =
          then (str-reaches C e b c) (λ E t l h.
          then (goes {R = SigAt S} (sig-goes B.signatures C q (scope-up S l B b).0 (later-up S l C c.0).0) (λ R u k. k)) (λ R u k i.
          goes (ascribe-goes (signature_place q) E a R (later-up S k E h.0).0 i) (λ F z j. at-body S z F j)))
      str-reaches C (functor_apply x e) {s} b c =
          then (functor-found x (lookup x.id B.functors) (λ F e. each-lookup (λ F. IsFunctorIn S s.names F) x.id B.functors F b.1 e)) (λ F t l f.
          then (str-reaches C e (scope-up S l B b) (context-up S l C c)) (λ E u k h.
          goes (functor-goes x.place F E (body-more S t.names u.names k.names F.argument.body f.0, body-more S t.names u.names k.names F.result.body f.1) h.0.0) (λ G z j. at-body S z G j)))
      str-reaches C (str_let p ds e) {s} b c =
          then (strs-reach C empty ds b c (at-empty S s)) (λ E t l h. str-reaches (extend C E) e (scope-up S l B b) (in-extend S t C E (context-up S l C c) h))

      -- F has what was bound before
      strs-reach : (C F : Env N) (ds : StrDecs P) {s : State P N} → IsScopeIn S s.names B → IsContextAt S s C → IsResultAt S s F → Reaches S scope s (read_strs scope B C F ds) (λ E t. IsResultAt S t E)
      strs-reach C F no_str_dec b c f = rests f
      strs-reach C F (and_str_dec d ds) b c f =
          then (strdec-reaches C d b c) (λ E t l h. strs-reach (extend C E) (extend F E) ds (scope-up S l B b) (in-extend S t C E (context-up S l C c) h) (at-extend S t F E (result-up S l F f) h))

      pub strdec-reaches : (C : Env N) (d : StrDec P) {s : State P N} → IsScopeIn S s.names B → IsContextAt S s C → Reaches S scope s (read_strdec scope B C d) (λ E t. IsResultAt S t E)
      strdec-reaches C (core_dec d) b c = then anew (λ u t l h. dec-reaches C d (context-up S l C c))
      strdec-reaches C (structure_dec p bs) {s} b c = binds-reach C empty bs b c (at-empty S s)
      strdec-reaches C (str_local p ds es) {s} b c =
          then (strs-reach C empty ds b c (at-empty S s)) (λ E t l h. strs-reach (extend C E) empty es (scope-up S l B b) (in-extend S t C E (context-up S l C c) h) (at-empty S t))

      binds-reach : (C F : Env N) (bs : StrBinds P) {s : State P N} → IsScopeIn S s.names B → IsContextAt S s C → IsResultAt S s F → Reaches S scope s (read_str_binds scope B C F bs) (λ E t. IsResultAt S t E)
      binds-reach C F no_str_bind b c f = rests f
      binds-reach C F (and_str_bind (str_bind x e) bs) b c f =
          then (str-reaches C e b c) (λ E t l h. binds-reach C (extend F (one_structure x.id E)) bs (scope-up S l B b) (context-up S l C c) (at-extend S t F (one_structure x.id E) (result-up S l F f) (at-one S t x.id E h)))
