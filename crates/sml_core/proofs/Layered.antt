-- The variable before `as`.
use Rattle.std.proofs.Common.{◌≡◌, ◌≢◌, ◌||◌, ◌⊎◌, true, false, not, [], ◌∷◌, ◌++◌, Option, Some, None, Result, Ok, Err, Global, inl, inr, ap, subst, sym, ◌∙◌}
use Rattle.std.specs.declared.rc.Rc.{Rc}
use Rattle.sml_lex.specs.declared.fault.Code.TheVariants.{E5, E10}
use Rattle.sml_lex.specs.declared.fault.Place.{Place}
use Rattle.sml_tree.specs.Names as N
use Rattle.sml_tree.specs.Types.{Ty}
use Rattle.sml_objects.specs.Initial.{Name}
use Rattle.sml_objects.specs.Maps.{Map, lookup}
use Rattle.sml_objects.specs.Objects.{MlType}
use Rattle.sml_objects.specs.Views.{type_of}
use Rattle.sml_objects.specs.declared.objects.MlType as P
use Rattle.sml_rules.specs.Answers.{fault}
use Rattle.sml_core_rules.specs.Objects.{Env}
use Rattle.sml_core_rules.specs.Scopes.{run_scope}
use Rattle.sml_core_rules.specs.Scripts.{Script, give, ◌>>=◌}
use Rattle.sml_core_rules.specs.States.{State, Window}
use Rattle.sml_core_rules.specs.Values.{is_constructor}
use Rattle.sml_core_rules.specs.Patterns.{Typed, bind_layered, bind_variable, read_constraint, read_layered, typed}
use Rattle.sml_scopes.specs.Means.{Means}
use Rattle.sml_types.specs.Answered.{IsFault}
use Rattle.sml_types.specs.declared.fault.CoreFault.{CoreFault}
use Rattle.sml_core.specs.declared.context.Context.{Context}
use Rattle.sml_core.specs.declared.patterns.Variables.{Variables}
use Rattle.sml_core.specs.Answered.{AnswersAs, IsAt, Reaches, unit_of}
use Rattle.sml_core.specs.Patterns.{AreBoundIn, BindsType, IsMade, ReadsConstraint, WithBound, bindings_of}
use Rattle.sml_core.proofs.Applying.{given-reaches}
use Rattle.sml_core.proofs.Binding.{bound-also, bound-later, tested, untested}
use Rattle.sml_core.proofs.Sequences.{ends-there, then-answers, then-reaches}

module _ (old new : Context) (vars after : Variables) (x : N.Name Place) where
  abbrev with_type : Rc P.MlType Global → Typed Name (MlType Name)
  with_type t = typed (type_of t.value) (bindings_of after)

  abbrev pub Layers : Option (Ty Place) → Result (Rc P.MlType Global) CoreFault → Type 0
  Layers ty result = BindsType old vars (λ r C vs bs. read_layered (run_scope (unit_of old)) r C vs x ty bs) new after result

  -- a constructor or an exception, which isn't one where a recursive value is bound
  pub layered-constructor : (ty : Option (Ty Place)) (e : CoreFault) → vars.is_recursive ≡ false → ((C : Env Name) → Means old.scopes C → true ≡ is_constructor C x.id) → IsFault e (fault E5 x.place)
      → Layers ty (Err e)
  unfolding BindsType
  layered-constructor ty e plain constructs is = λ C vs around s at sees known.
      untested with_type (WithBound IsMade) around old new s ((vars.is_recursive || not (is_constructor C x.id)) ≡ true) (fault E5 x.place)
      (λ u. bind_layered (run_scope (unit_of old)) vars.is_recursive C vs x.place x.id ty (bindings_of vars)) e is
      (λ h. let k : (false || not true) ≡ true = (λ i. sym plain i || not (constructs C sees.means i)) ∙ h in absurd cc)

  -- a variable
  module _ (variable : (vars.is_recursive ≡ true) ⊎ ((vars.is_recursive ≡ false) × ((C : Env Name) → Means old.scopes C → false ≡ is_constructor C x.id))) where
    is-variable : (C : Env Name) → Means old.scopes C → (vars.is_recursive || not (is_constructor C x.id)) ≡ true
    is-variable C means = elim variable [
      | inl recursive ↦ ap (λ b. b || not (is_constructor C x.id)) recursive
      | inr known ↦ (λ i. known.0 i || not (sym (known.1 C means) i))
    ]

    -- after the first condition
    past-status : (C : Env Name) (vs : Map (MlType Name)) (around : Window Place Name) (s : State Place Name) → IsAt around old s → Means old.scopes C → (ty : Option (Ty Place))
        (result : Result (Rc P.MlType Global) CoreFault)
        → AnswersAs with_type (WithBound IsMade) around old (bind_layered (run_scope (unit_of old)) vars.is_recursive C vs x.place x.id ty (bindings_of vars)) s new result
        → AnswersAs with_type (WithBound IsMade) around old (read_layered (run_scope (unit_of old)) vars.is_recursive C vs x ty (bindings_of vars)) s new result
    past-status C vs around s at means ty result then =
        then-answers with_type (WithBound IsMade) (λ u. bind_layered (run_scope (unit_of old)) vars.is_recursive C vs x.place x.id ty (bindings_of vars)) new result
        (tested around old s ((vars.is_recursive || not (is_constructor C x.id)) ≡ true) (fault E5 x.place) at (is-variable C means)) then

    pub layered-alone : (result : Result (Rc P.MlType Global) CoreFault) → BindsType old vars (λ r C vs bs. bind_variable (run_scope (unit_of old)) x.place x.id bs) new after result → Layers None result
    unfolding BindsType
    layered-alone result binds = λ C vs around s at sees known. past-status C vs around s at sees.means None result (binds C vs around s at sees known)

    module _ (ty : Ty Place) where
      abbrev bound_to : MlType Name → Script Place Name (Typed Name (MlType Name))
      bound_to t = give (typed t (bindings_of vars ++ (x.id, t) ∷ []))

      pub layered-again : (e : CoreFault) → IsFault e (fault E10 x.place) → lookup x.id (bindings_of vars) ≢ None → Layers (Some ty) (Err e)
      unfolding BindsType
      layered-again e is again = λ C vs around s at sees known.
          past-status C vs around s at sees.means (Some ty) (Err e)
          (untested with_type (WithBound IsMade) around old new s (lookup x.id (bindings_of vars) ≡ None) (fault E10 x.place) (λ u. read_constraint C vs ty >>= λ t. bound_to t) e is again)

      module _ (first : lookup x.id (bindings_of vars) ≡ None) where
        -- after both conditions
        past-both : (C : Env Name) (vs : Map (MlType Name)) (around : Window Place Name) (s : State Place Name) → IsAt around old s → Means old.scopes C → (result : Result (Rc P.MlType Global) CoreFault)
            → AnswersAs with_type (WithBound IsMade) around old (read_constraint C vs ty >>= λ t. bound_to t) s new result
            → AnswersAs with_type (WithBound IsMade) around old (read_layered (run_scope (unit_of old)) vars.is_recursive C vs x (Some ty) (bindings_of vars)) s new result
        past-both C vs around s at means result then =
            past-status C vs around s at means (Some ty) result
            (then-answers with_type (WithBound IsMade) (λ u. read_constraint C vs ty >>= λ t. bound_to t) new result
            (tested around old s (lookup x.id (bindings_of vars) ≡ None) (fault E10 x.place) at first) then)

        pub layered-unread : (e : CoreFault) → ReadsConstraint old ty new (Err e) → Layers (Some ty) (Err e)
        unfolding BindsType ReadsConstraint
        layered-unread e reads = λ C vs around s at sees known.
            past-both C vs around s at sees.means (Err e)
            (ends-there with_type (WithBound IsMade) (λ (t : Rc P.MlType Global). type_of t.value) IsMade around old new (read_constraint C vs ty) (λ t. bound_to t) s e (reads C vs around s at sees))

        pub layered-read : (t : Rc P.MlType Global) → ReadsConstraint old ty new (Ok t) → bindings_of after ≡ bindings_of vars ++ (x.id, type_of t.value) ∷ [] → Layers (Some ty) (Ok t)
        unfolding BindsType ReadsConstraint
        layered-read t reads e = λ C vs around s at sees known.
            let m = reads C vs around s at sees in
            let u = type_of t.value in
            let more = bindings_of vars ++ (x.id, u) ∷ [] in
            past-both C vs around s at sees.means (Ok t) (
              m.0,
              then-reaches around old new (read_constraint C vs ty) (λ t. bound_to t) s m.0 u m.1 new (typed u (bindings_of after)) m.0
                  (subst (λ bs. Reaches around new (bound_to u) m.0 new (typed u bs) m.0) (sym e) (given-reaches around new m.0 m.1.at (typed u more))),
              (m.2, subst (AreBoundIn m.0) (sym e) (bound-also m.0 x.id u (bindings_of vars) (bound-later s m.0 m.1.later (bindings_of vars) known) m.2)),
            )
