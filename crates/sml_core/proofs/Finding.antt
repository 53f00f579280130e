-- Identifiers: the value that is found, and an instance of it.
use Rattle.std.proofs.Common.{◌≡◌, ◌++◌, [], ◌∷◌, Result, Err, subst, sym, refl, ap, ◌∙◌}
use Rattle.std.specs.Global.{Global}
use Rattle.std.specs.declared.rc.Rc.{Rc}
use Rattle.sml_lex.specs.Faults.{fault_of}
use Rattle.sml_lex.specs.declared.fault.Code.{Code}
use Rattle.sml_lex.specs.declared.fault.Code.TheVariants.{E1}
use Rattle.sml_lex.specs.declared.fault.Fault.{Fault}
use Rattle.sml_lex.specs.declared.fault.Place.{Place}
use Rattle.sml_tree.specs.Trees.{LongId}
use Rattle.sml_tree.specs.Names.{LongName}
use Rattle.sml_tree.specs.Expressions.{name}
use Rattle.sml_objects.specs.Initial.{Name}
use Rattle.sml_objects.specs.declared.objects.MlType as P
use Rattle.sml_rules.specs.Answers.{accepted, refused, fault_at}
use Rattle.sml_rules.specs.Lookups.{Found, found, no_path, no_entry}
use Rattle.sml_core_rules.specs.Answers.{need}
use Rattle.sml_core_rules.specs.Lookups.{value_at}
use Rattle.sml_core_rules.specs.Objects.{Env, Value}
use Rattle.sml_core_rules.specs.Scopes.{run_scope}
use Rattle.sml_core_rules.specs.Scripts as S
use Rattle.sml_core_rules.specs.Scripts.{◌>>=◌, look}
use Rattle.sml_core_rules.specs.Values.{instance}
use Rattle.sml_core_rules.specs.Expressions.{read_exp}
use Rattle.sml_scopes.specs.Means.{Means}
use Rattle.sml_bases.specs.Views.{value_of}
use Rattle.sml_bases.specs.declared.objects.Value as V
use Rattle.sml_scopes.specs.Found.{Finds}
use Rattle.sml_types.specs.Answered.{IsAnswer, IsFault}
use Rattle.sml_types.specs.declared.fault.CoreFault.{CoreFault}
use Rattle.sml_types.specs.declared.fault.CoreFault.TheVariants as F
use Rattle.sml_core.specs.declared.context.Context.{Context}
use Rattle.sml_core.specs.Answered.{FindsValue, MakesInstance, Reads, Types, unit_of}
use Rattle.sml_core.specs.Seen.{AreValuesIn}
use Rattle.sml_core.proofs.Applying.{read-memory}

pub need-found : {X : Type 0} (c : Code) (p : Place) (x : LongId) (r : Found X) (v : X) → need c p x r ≡ accepted v → r ≡ found v
need-found c p x (found w) v e = cc
need-found c p x (no_path s) v e = absurd cc
need-found c p x no_entry v e = absurd cc

module _ (old new : Context) (p : Place) (x : LongName Place) (result : Result (Rc P.MlType Global) CoreFault) where
  pub identifier-read : (v : Value Name) → ((C : Env Name) → Means old.scopes C → need E1 x.place x.id (value_at C x.id) ≡ accepted v) → MakesInstance old p v new result
      → Reads old (name p x) new result
  unfolding Reads MakesInstance AreValuesIn read_exp ◌>>=◌
  identifier-read v finds makes = λ h C vs around s is sees.
      subst (λ a. Types around old (look a >>= λ v. instance p v) s new result) (sym (finds C sees.means))
      (makes around s is (sees.values x.id v (need-found E1 x.place x.id (value_at C x.id) v (finds C sees.means))))

pub identifier-unbound : (old new : Context) (p : Place) (x : LongName Place) (f : Fault) → ((C : Env Name) → Means old.scopes C → need E1 x.place x.id (value_at C x.id) ≡ refused (fault_of f))
    → Reads old (name p x) new (Err (F.Fault f))
unfolding Reads S.IsAnswer read_exp ◌>>=◌
identifier-unbound old new p x f finds = λ h C vs around s is sees.
    subst (λ a. S.IsAnswer (run_scope (unit_of old)) (look a >>= λ v. instance p v) s (refused (fault_of f))) (sym (finds C sees.means)) refl

pub identifier-not : (old new : Context) (p : Place) (x : LongName Place) (f : CoreFault) → ((C : Env Name) → Means old.scopes C → IsAnswer value_of (Err f) (need E1 x.place x.id (value_at C x.id)))
    → Reads old (name p x) new (Err f)
identifier-not old new p x F.Memory finds = read-memory old new (name p x)
identifier-not old new p x (F.Fault f) finds = identifier-unbound old new p x f finds

-- what was found

module _ (p : Place) (f : Found (Value Name)) where
  pub finds-error : (e : CoreFault) → Finds p (Err e) f → FindsValue p (Err e) f
  finds-error F.Memory is = tt
  finds-error (F.Fault g) is = is

  module _ (x : LongId) where
    pub needs-value : (v : V.Value) → f ≡ found (value_of v) → need E1 p x f ≡ accepted (value_of v)
    needs-value v is = ap (need E1 p x) is

    pub needs-error : (e : CoreFault) → FindsValue p (Err e) f → IsAnswer value_of (Err e) (need E1 p x f)
    needs-error F.Memory is = tt
    needs-error (F.Fault g) (s, is, same) = ap (need E1 p x) is ∙ ap refused (sym same)

    pub needs-none : f ≡ no_entry → (e : CoreFault) → IsFault e (fault_at E1 p (x.path ++ x.last ∷ [])) → IsAnswer value_of (Err e) (need E1 p x f)
    needs-none is F.Memory same = tt
    needs-none is (F.Fault g) same = ap (need E1 p x) is ∙ ap refused (sym same)
