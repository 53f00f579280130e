-- A declaration of the core leaves the window as it was.
use Rattle.std.specs.Prelude.{◌≡◌, ◌++◌, ℕ, Bool, true, false, cond, List, [], ◌∷◌, map}
use mathlib.Core.Path.{refl, sym, ap, subst, ◌∙◌}
use mathlib.Core.Logic.{inl, inr}
use Rattle.sml_lex.specs.Faults.{Fault}
use Rattle.sml_tree.specs.Trees.{Id}
use Rattle.sml_tree.specs.Withtype.{dat_replaced}
use Rattle.sml_tree.specs.Expressions.{Dec, Decs, DatBind, TypBind, val_dec, type_dec, datatype_dec, datatype_with, datatype_copy, exception_dec, local_dec, sequence_dec, open_dec, fixity_dec, no_dec, and_dec}
use Rattle.sml_objects.specs.Maps.{Map}
use Rattle.sml_objects.specs.Objects.{MlType, Scheme}
use Rattle.sml_layers.specs.Demands.{Demand}
use Rattle.sml_rules.specs.Answers.{Answer, refused, accepted}
use Rattle.sml_rules.proofs.Sound.{accepted_same, not_refused}
use Rattle.sml_core_rules.specs.Datatypes.{Arguments}
use Rattle.sml_core_rules.specs.Expressions.{Begun, Bound, bounds, close_all, require_bounds, not_in_scope, scope_variables, end_values, begin_values, read_types, read_datatypes, read_dec, read_decs, read_exp}
use Rattle.sml_core_rules.specs.Objects.{Env, empty, extend}
use Rattle.sml_core_rules.specs.Scripts.{Script, give, makes_datatypes, ◌>>=◌, look, test, require, so_far, set_window, stay_open, close, IsAnswer}
use Rattle.sml_core_rules.specs.States.{Scope, State, Window, no_window, with_made}
use Rattle.sml_core_rules.specs.Values.{has_unknown}
use Rattle.sml_core_rules.proofs.Accepted.{bind-accepted}

module _ {P N : Type 0} (scope : Scope N) where
  pub record Keeps {X : Type 0} (m : Script P N X) : Type 0 where
    pub same : (s : State P N) (r : X × State P N) → IsAnswer scope m s (accepted r) → r.1.window ≡ s.window

  -- it ends with this window
  record Ends {X : Type 0} (m : Script P N X) (w : Window P N) : Type 0 where
    at : (s : State P N) (r : X × State P N) → IsAnswer scope m s (accepted r) → r.1.window ≡ w

  -- of what it gives this holds
  pub record Brings {X : Type 0} (m : Script P N X) (F : X → Type 0) : Type 0 where
    pub of : (s : State P N) (r : X × State P N) → IsAnswer scope m s (accepted r) → F r.0

was-seen : {P N : Type 0} (scope : Scope N) (s : State P N) (q : State P N × State P N) → IsAnswer scope so_far s (accepted q) → q.0 ≡ s
unfolding IsAnswer
was-seen scope s q a = ap (λ q. q.0) (accepted_same a)

module _ {P N : Type 0} {scope : Scope N} where
  follows : {X Y : Type 0} {m : Script P N X} {f : X → Script P N Y} → Keeps scope m → ((x : X) → Keeps scope (f x)) → Keeps scope (m >>= f)
  follows {X} {Y} {m} {f} h k = record { same = λ s r a. let b = bind-accepted scope m f s r a in let i : Keeps scope (f b.0.0) = k b.0.0 in i.same b.0.1 r b.2 ∙ h.same s b.0 b.1 }

  given : {X : Type 0} {x : X} → Keeps {P = P} scope (give x)
  unfolding IsAnswer
  given = record { same = λ s r a. ap (λ q. q.1.window) (accepted_same a) }

  looked : {X : Type 0} (a : Answer P X) → Keeps scope (look a)
  unfolding IsAnswer
  looked (refused f) = record { same = λ s r a. absurd (not_refused a) }
  looked (accepted x) = given

  chosen : {X : Type 0} {k j : Script P N X} (b : Bool) → Keeps scope k → Keeps scope j → Keeps scope (cond b k j)
  chosen true h i = h
  chosen false h i = i

  tested : {C : Type 0} {f : Fault P} → Keeps scope (test C f)
  unfolding IsAnswer
  tested {C} {f} = record { same = λ s r a. go s r a }
    where
      go : (s : State P N) (r : Unit {0} × State P N) → IsAnswer scope (test C f) s (accepted r) → r.1.window ≡ s.window
      go s r (inl h) = ap (λ q. q.1.window) (accepted_same h.1)
      go s r (inr h) = absurd (not_refused h.1)

  asked : {d : Demand N (List N)} {p : P} → Keeps scope (require d p)
  unfolding IsAnswer
  asked {d} {p} = record { same = λ s r a. go s r a }
    where
      go : (s : State P N) (r : Unit {0} × State P N) → IsAnswer scope (require d p) s (accepted r) → r.1.window ≡ s.window
      go s r (inl h) = ap (λ q. q.1.window) (accepted_same h.1)
      go s r (inr h) = absurd (not_refused h.2)

  seen : Keeps {P = P} scope so_far
  unfolding IsAnswer
  seen = record { same = λ s r a. ap (λ q. q.1.window) (accepted_same a) }

  opened : Keeps {P = P} scope stay_open
  unfolding IsAnswer
  opened = record { same = λ s r a. ap (λ q. q.1.window) (accepted_same a) }

  closed : {n : ℕ} {x : Bool} {t : MlType N} → Keeps {P = P} scope (close n x t)
  unfolding IsAnswer
  closed = record { same = λ s r a. ap (λ q. q.1.window) (accepted_same a.2) }

  named : {X : Type 0} {C : Env N} {ds : List (DatBind P)} {k : List N → List (Arguments N) → Script P N X} → ((ns : List N) (gs : List (Arguments N)) → Keeps scope (k ns gs)) → Keeps scope (makes_datatypes C ds k)
  unfolding IsAnswer
  named {X} {C} {ds} {k} h = record { same = λ s r a. go s r a }
    where
      go : (s : State P N) (r : X × State P N) → IsAnswer scope (makes_datatypes C ds k) s (accepted r) → r.1.window ≡ s.window
      go s r (ns, new, made, inl x) = absurd (not_refused x.2)
      go s r (ns, new, made, inr (gs, e, admits, a)) = let i : Keeps scope (k ns gs) = h ns gs in i.same (with_made ns s) r a

  -- ends and what is brought

  after : {X Y : Type 0} (m : Script P N X) {f : X → Script P N Y} {w : Window P N} → ((x : X) → Ends scope (f x) w) → Ends scope (m >>= f) w
  after {X} {Y} m {f} {w} h = record { at = λ s r a. let b = bind-accepted scope m f s r a in let i : Ends scope (f b.0.0) w = h b.0.0 in i.at b.0.1 r b.2 }

  setting : {w : Window P N} → Ends scope (set_window w) w
  unfolding IsAnswer
  setting = record { at = λ s r a. ap (λ q. q.1.window) (accepted_same a) }

  before : {X Y : Type 0} {m : Script P N X} {f : X → Script P N Y} {w : Window P N} → Ends scope m w → ((x : X) → Keeps scope (f x)) → Ends scope (m >>= f) w
  before {X} {Y} {m} {f} {w} h k = record { at = λ s r a. let b = bind-accepted scope m f s r a in let i : Keeps scope (f b.0.0) = k b.0.0 in i.same b.0.1 r b.2 ∙ h.at s b.0 b.1 }

  pub brings-then : {X Y : Type 0} (m : Script P N X) {f : X → Script P N Y} {F : Y → Type 0} → ((x : X) → Brings scope (f x) F) → Brings scope (m >>= f) F
  brings-then {X} {Y} m {f} {F} h = record { of = λ s r a. let b = bind-accepted scope m f s r a in let i : Brings scope (f b.0.0) F = h b.0.0 in i.of b.0.1 r b.2 }

  pub brings : {X : Type 0} {x : X} {F : X → Type 0} → F x → Brings {P = P} scope (give x) F
  unfolding IsAnswer
  brings {X} {x} {F} h = record { of = λ s r a. subst F (sym (ap (λ q. q.0) (accepted_same a))) h }

  -- from the state that is seen on
  seen-then : {Y : Type 0} {f : State P N → Script P N Y} (F : State P N → Y → Type 0) → ((x : State P N) → Brings scope (f x) (F x)) → (s : State P N) (r : Y × State P N) → IsAnswer scope (so_far >>= f) s (accepted r) → F s r.0
  seen-then {Y} {f} F h s r a =
      let b = bind-accepted scope so_far f s r a in
      let i : Brings scope (f b.0.0) (F b.0.0) = h b.0.0 in subst (λ x. F x r.0) (was-seen scope s b.0 b.1) (i.of b.0.1 r b.2)

  -- value declarations

  closes-keep : (k : ℕ) (bs : List (Bound N)) → Keeps {P = P} scope (close_all scope k bs)
  closes-keep k [] = given
  closes-keep k (b ∷ bs) = follows closed (λ σ. follows (closes-keep k bs) (λ σs. given))

  bounds-keep : (p : P) (bs : List (Bound N)) (σs : List (Scheme N)) → Keeps scope (require_bounds scope p bs σs)
  bounds-keep p [] σs = given
  bounds-keep p (b ∷ bs) [] = given
  bounds-keep p (b ∷ bs) (σ ∷ σs) = chosen (has_unknown σ.body) (follows opened (λ o. follows (follows seen (λ s. asked)) (λ u. bounds-keep p bs σs))) (bounds-keep p bs σs)

  values-end : (p : P) (b : Begun P N) (bs : List (Bound N)) → Ends scope (end_values scope p b bs) b.window
  values-end p b bs =
      after _ (λ s. after _ (λ u. after _ (λ v.
      before setting (λ w. follows (follows seen (λ s. tested)) (λ g. follows (follows seen (λ s. tested)) (λ x. follows (closes-keep b.made bs) (λ σs. follows (bounds-keep p bs σs) (λ y. given))))))))

-- the beginning of a value declaration, after the state is seen
module _ {P N : Type 0} (scope : Scope N) (p : P) (vs : Map (MlType N)) (xs : List Id) where
  begun_by : State P N → Script P N (Begun P N)
  begun_by s =
      set_window no_window >>= (λ u. scope_variables scope p vs (not_in_scope vs [] xs) >>= (λ r. give (record { made = s.made; window = s.window; scoped = r.0; variables = r.1 })))

  begins : (s : State P N) → Brings scope (begun_by s) (λ b. b.window ≡ s.window)
  unfolding begun_by
  begins s = brings-then _ (λ u. brings-then _ (λ r. brings refl))

  values-begin : (s : State P N) (r : Begun P N × State P N) → IsAnswer scope (begin_values scope p vs xs) s (accepted r) → r.0.window ≡ s.window
  unfolding begun_by
  values-begin s r a = seen-then {f = begun_by} (λ s b. b.window ≡ s.window) begins s r a

module _ {P N : Type 0} {scope : Scope N} where
  -- from the beginning of a value declaration to its end
  begun-then : {f : Begun P N → Script P N (Env N)} (p : P) (vs : Map (MlType N)) (xs : List Id) → ((b : Begun P N) → Ends scope (f b) b.window) → Keeps scope (begin_values scope p vs xs >>= f)
  begun-then {f} p vs xs h = record {
    same = λ s r a.
        let b = bind-accepted scope (begin_values scope p vs xs) f s r a in
        let i : Ends scope (f b.0.0) b.0.0.window = h b.0.0 in i.at b.0.1 r b.2 ∙ values-begin scope p vs xs s b.0 b.1;
  }

  types-keep : (p : P) (C : Env N) (bs : List (TypBind P)) → Keeps scope (read_types scope p C bs)
  types-keep p C bs = follows (looked _) (λ ts. follows tested (λ u. given))

  datatypes-keep : (p : P) (C : Env N) (ds : List (DatBind P)) → Keeps scope (read_datatypes scope p C ds)
  datatypes-keep p C ds = named (λ ns gs. follows tested (λ u. given))

  mutual
    unfolding read_exp

    decs-keep : (C : Env N) (vs : Map (MlType N)) (F : Env N) (ds : Decs P) → Keeps scope (read_decs scope C vs F ds)
    decs-keep C vs F no_dec = given
    decs-keep C vs F (and_dec d ds) = follows (dec-keeps C vs d) (λ E. decs-keep (extend C E) vs (extend F E) ds)

    pub dec-keeps : (C : Env N) (vs : Map (MlType N)) (d : Dec P) → Keeps scope (read_dec scope C vs d)
    dec-keeps C vs (val_dec p xs bs rs) = begun-then p vs _ (λ b. after _ (λ r. after _ (λ q. after _ (λ u. values-end p b (r.1 ++ bounds false q.1)))))
    dec-keeps C vs (type_dec p bs) = types-keep p C bs
    dec-keeps C vs (datatype_dec p ds) = datatypes-keep p C ds
    dec-keeps C vs (datatype_with p ds bs) = follows (datatypes-keep p C (map (dat_replaced bs) ds)) (λ E. follows (types-keep p (extend C E) bs) (λ F. given))
    dec-keeps C vs (datatype_copy p x c) = follows (looked _) (λ t. given)
    dec-keeps C vs (exception_dec p bs) = follows (looked _) (λ m. follows tested (λ u. given))
    dec-keeps C vs (local_dec p ds es) = follows (decs-keep C vs empty ds) (λ E. decs-keep (extend C E) vs empty es)
    dec-keeps C vs (sequence_dec p ds) = decs-keep C vs empty ds
    dec-keeps C vs (open_dec p ss) = looked _
    dec-keeps C vs (fixity_dec p) = given
