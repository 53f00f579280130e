-- What scripts ask one at a time, with other places.
use Rattle.std.specs.Prelude.{◌≡◌, ◌↔◌, ℕ, Bool, List, [], ◌∷◌, ◌++◌, map}
use Rattle.std.proofs.lemmas.List.{map-append}
use mathlib.Core.Path.{refl, sym, ap, subst, ◌∙◌}
use mathlib.Core.Logic.{inl, inr}
use Rattle.sml_lex.specs.declared.fault.Code.{Code}
use Rattle.sml_lex.specs.Faults.{Fault}
use Rattle.sml_tree.specs.Trees.{LongId}
use Rattle.sml_tree.specs.Expressions.{DatBind}
use Rattle.sml_objects.specs.Names.{Attributes}
use Rattle.sml_objects.specs.Objects.{MlType, free}
use Rattle.sml_layers.specs.Demands.{Demand}
use Rattle.sml_rules.specs.Answers.{Answer, refused, accepted}
use Rattle.sml_rules.specs.Lookups.{Found}
use Rattle.sml_rules.proofs.Sound.{accepted_same, not_refused}
use Rattle.sml_core_rules.specs.Objects.{Env, names_env}
use Rattle.sml_core_rules.specs.States.{Scope, Window, with_made}
use Rattle.sml_core_rules.specs.Datatypes.{Arguments, arguments_of}
use Rattle.sml_core_rules.specs.Scripts.{Script, makes_datatypes, look, need, test, where_so, new_unknown, new_unknowns, require, so_far, set_window, stay_open, start_anew, new_row, new_overloaded, close, new_names, IsAnswer}
use Rattle.sml_places.specs.Places.{place_dat_bind}
use Rattle.sml_places.specs.Answers.{place_fault, place_answer}
use Rattle.sml_core_rules.proofs.Refused.{refused-same}
use Rattle.sml_places.proofs.Scripts.{place_window, place_state, place_reply, AreAlike, AreSame, alike-give, alike-refuse, alike-tests, alike-either, alike-unknowns, alike-requires, alike-sees, alike-sets, alike-open, alike-anew, alike-names, alike-closes}
use Rattle.sml_places.proofs.Types.{AreEqual, equal-need, equal-arguments-of, new-same}

-- an answer with other places is a fault or an object where the answer is

pub refused-by : {P Q X : Type 0} (f : P → Q) (a : Answer P X) (e : Fault Q) → place_answer f a ≡ refused e → (d : Fault P) × (a ≡ refused d) × (e ≡ place_fault f d)
refused-by f (refused d) e h = (d, refl, refused-same (sym h))
refused-by f (accepted x) e h = absurd (not_refused h)

pub accepted-by : {P Q X : Type 0} (f : P → Q) (a : Answer P X) (x : X) → place_answer f a ≡ accepted x → a ≡ accepted x
accepted-by f (refused d) x h = absurd (not_refused (sym h))
accepted-by f (accepted y) x h = ap accepted (accepted_same h)

pub itself : {C : Type 0} → C ↔ C
itself = ((λ x. x), (λ x. x))

module _ {P Q N : Type 0} {scope : Scope N} {f : P → Q} where
  look-placed : {X : Type 0} (a : Answer P X) → AreSame scope f (look a) (look (place_answer f a))
  look-placed (refused e) = alike-refuse e
  look-placed (accepted x) = alike-give x

  pub same-look : {X : Type 0} {a : Answer P X} {b : Answer Q X} → AreEqual f a b → AreSame scope f (look a) (look b)
  same-look {a = a} h = subst (λ b. AreSame scope f (look a) (look b)) (sym h.same) (look-placed a)

  pub same-need : {X : Type 0} (c : Code) (p : P) (x : LongId) (r : Found X) → AreSame scope f (need c p x r) (need c (f p) x r)
  same-need c p x r = same-look (equal-need f c p x r)

  pub same-test : {C D : Type 0} → (C ↔ D) → (e : Fault P) → AreSame scope f (test C e) (test D (place_fault f e))
  same-test c e = alike-tests c e (alike-give tt)

  pub same-where : {C D : Type 0} {k : Script P N (Unit {0})} {j : Script Q N (Unit {0})} → (C ↔ D) → AreSame scope f k j → AreSame scope f (where_so C k) (where_so D j)
  same-where c a = alike-either c a (alike-give tt)

  pub same-unknown : AreSame scope f new_unknown new_unknown
  same-unknown = alike-unknowns 1 (λ v. alike-give (free v))

  pub same-unknowns : (n : ℕ) → AreSame scope f (new_unknowns n) (new_unknowns n)
  same-unknowns n = alike-unknowns n (λ v. alike-give v)

  pub same-require : (d : Demand N (List N)) (p : P) → AreSame scope f (require d p) (require d (f p))
  same-require d p = alike-requires d p (alike-give tt)

  pub alike-so-far : AreAlike scope f (place_state f) so_far so_far
  alike-so-far = alike-sees _ (λ s. alike-give s)

  pub same-window : (w : Window P N) → AreSame scope f (set_window w) (set_window (place_window f w))
  same-window w = alike-sets w (alike-give tt)

  pub same-open : AreSame scope f stay_open stay_open
  same-open = alike-open (alike-give tt)

  pub same-anew : AreSame scope f start_anew start_anew
  same-anew = alike-anew (alike-give tt)

  pub same-row : (p : P) (t : MlType N) → AreSame scope f (new_row p t) (new_row (f p) t)
  same-row p t =
      alike-sees _ (λ s.
      coe 0 1 (i. AreSame scope f (set_window (record s.window { rows = s.window.rows ++ (p, t) ∷ [] }))
      (set_window (record { rows = map-append (λ r. (f r.0, r.1)) s.window.rows ((p, t) ∷ []) i; overloaded = s.window.overloaded })))
      (same-window (record s.window { rows = s.window.rows ++ (p, t) ∷ [] })))

  pub same-overloaded : (v : ℕ) → AreSame scope f (new_overloaded v) (new_overloaded v)
  same-overloaded v = alike-sees _ (λ s. same-window (record s.window { overloaded = s.window.overloaded ++ v ∷ [] }))

  pub same-close : (n : ℕ) (x : Bool) (t : MlType N) → AreSame scope f (close n x t) (close n x t)
  same-close n x t = alike-closes n x t (λ σ. alike-give σ)

  pub same-names : (ws : List Attributes) → AreSame scope f (new_names ws) (new_names ws)
  same-names ws = alike-names ws (λ ns. alike-give ns)

  pub alike-datatypes : {X Y : Type 0} {g : X → Y} (C : Env N) (ds : List (DatBind P)) {k : List N → List (Arguments N) → Script P N X} {j : List N → List (Arguments N) → Script Q N Y}
      → ((ns : List N) (gs : List (Arguments N)) → AreAlike scope f g (k ns gs) (j ns gs)) → AreAlike scope f g (makes_datatypes C ds k) (makes_datatypes C (map (place_dat_bind f) ds) j)
  unfolding IsAnswer
  alike-datatypes {g = g} C ds a = record {
    given = λ s o h. (
      h.0,
      coe 1 0 (i. new-same f scope.names (names_env C ++ s.names) ds h.0 i) h.1,
      h.2,
      elim h.3 [
        | inl x ↦ inl (place_fault f x.0, (equal-arguments-of f C ds h.0).same ∙ ap (place_answer f) x.1, ap (place_reply f g) x.2)
        | inr x ↦ inr (x.0, (equal-arguments-of f C ds h.0).same ∙ ap (place_answer f) x.1, x.2, (a h.0 x.0).given (with_made h.0 s) o x.3)
      ],
    );
    taken = λ s o h.
        let new = coe 0 1 (i. new-same f scope.names (names_env C ++ s.names) ds h.0 i) h.1 in
        elim h.3 [
          | inl x ↦
              let d = refused-by f (arguments_of C ds h.0) x.0 (sym (equal-arguments-of f C ds h.0).same ∙ x.1) in (refused d.0, (h.0, new, h.2, inl (d.0, d.1, refl)), x.2 ∙ ap refused d.2)
          | inr x ↦
              let b = (a h.0 x.0).taken (with_made h.0 s) o x.3 in
              (b.0, (h.0, new, h.2, inr (x.0, accepted-by f (arguments_of C ds h.0) x.0 (sym (equal-arguments-of f C ds h.0).same ∙ x.1), x.2, b.1)), b.2)
        ];
  }
