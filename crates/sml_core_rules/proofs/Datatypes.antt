-- What is read of datatypes is what the rules derive.
use mathlib.Core.List.{◌++◌}
use Rattle.std.specs.Prelude.{◌≡◌, List, [], ◌∷◌}
use mathlib.Core.Path.{refl, sym, ap, ◌∙◌}
use mathlib.Core.Logic.{inl, inr}
use Rattle.sml_tree.specs.Expressions.{DatBind}
use Rattle.sml_objects.specs.Appearance.{Stands}
use Rattle.sml_objects.specs.Objects.{Outside}
use Rattle.sml_rules.specs.Answers.{accepted}
use Rattle.sml_core_rules.specs.Objects.{Env, names_env, of_types, extend}
use Rattle.sml_core_rules.specs.States.{Scope, State}
use Rattle.sml_core_rules.specs.Scripts.{◌>>=◌, IsAnswer}
use Rattle.sml_core_rules.specs.Expressions.{read_datatypes}
use Rattle.sml_core_rules.specs.Datatypes.{datatype_types}
use Rattle.sml_core_rules.specs.Contexts.{Context}
use Rattle.sml_core_rules.specs.Rules.{BindDatatypes}
use Rattle.sml_rules.proofs.Settled.{outside-right}
use Rattle.sml_rules.proofs.Sound.{accepted_same, not_refused}
use Rattle.sml_core_rules.proofs.Derived.{all-arguments-to}
use Rattle.sml_core_rules.proofs.Plain.{fewer-new}

apart : {N : Type 0} (n m : N) (ms : List N) → Outside n ms → Stands m ms → ¬ (m ≡ n)
unfolding Outside Stands
apart n m [] o h = absurd h
apart n m (k ∷ ms) o (inl e) = λ f. o.0 (sym e ∙ f)
apart n m (k ∷ ms) o (inr h) = apart n m ms o.1 h

outside : {N : Type 0} (n : N) (ns ms : List N) → ((m : N) → Stands m ns → Stands m ms) → Outside n ms → Outside n ns
unfolding Outside Stands
outside n [] ms f o = tt
outside n (m ∷ ns) ms f o = (apart n m ms o (f m (inl refl)), outside n ns ms (λ k h. f k (inr h)) o)

module _ {P N : Type 0} (scope : Scope N) where
  pub datatypes-derive : (p : P) (C : Context N) (ds : List (DatBind P)) (s : State P N) (r : Env N × State P N)
      → ((n : N) → Stands n C.names → Stands n s.names) → IsAnswer scope (read_datatypes scope p C.env ds) s (accepted r) → BindDatatypes scope.names C ds r.0
  unfolding IsAnswer ◌>>=◌
  datatypes-derive p C ds s r f (ns, new, made, inl (e, h, k)) = absurd (not_refused k)
  datatypes-derive p C ds s r f (ns, new, made, inr (gs, h, a, inr k)) = absurd (not_refused k.1)
  datatypes-derive p C ds s r f (ns, new, made, inr (gs, h, a, inl k)) = (
    ns,
    gs,
    fewer-new scope.names ds C.names (names_env C.env ++ s.names) ns (λ n o. outside n C.names s.names f (outside-right n (names_env C.env) s.names o)) new,
    all-arguments-to (extend C.env (of_types (datatype_types [] ds ns))) ds gs h,
    a,
    ap (λ q. q.0) (accepted_same k.1),
  )
