-- What lines of types and of values require.
use Rattle.std.proofs.Common.{◌≡◌, ◌⊎◌, ℕ, Bool, true, false, ◌||◌, cond, List, [], ◌∷◌, length, refl, sym, subst}
use mathlib.Core.Logic.{inl, inr}
use Rattle.sml_lex.specs.declared.fault.Place.{Place}
use Rattle.sml_lex.specs.declared.fault.Code.TheVariants.{M1, M2, M4, M5, M6, M7}
use Rattle.sml_tree.specs.Trees.{LongId}
use Rattle.sml_objects.specs.Initial.{Name, naming}
use Rattle.sml_rules.specs.Answers.{Answer, refused, fault_at}
use Rattle.sml_rules.specs.Lookups.{Found, found, no_entry}
use Rattle.sml_core_rules.specs.Lookups.{type_at, value_at}
use Rattle.sml_core_rules.specs.Objects.{Env, TyStr, Value}
use Rattle.sml_core_rules.specs.Scopes.{run_scope}
use Rattle.sml_core_rules.specs.Scripts.{Script, IsAnswer, look, test, ◌>>=◌}
use Rattle.sml_core_rules.specs.States.{Scope, State}
use Rattle.sml_core_rules.specs.Values.{has_unknown}
use Rattle.sml_module_rules.specs.Lines.{Line, a_type, a_value, component, path_of}
use Rattle.sml_module_rules.specs.Matching.{IsGeneral, require_general, require_lines, serves}
use Rattle.sml_match.specs.Required.{answers}

abbrev Lines : Type 0
Lines = List (Line (TyStr Name) (Value Name))

abbrev pub Outcome : Type 0
Outcome = Answer Place (Unit {0} × State Place Name)

module _ (scope : Scope Name) (s : State Place Name) (p : Place) (E : Env Name) (x : LongId) (t : TyStr Name) (ls : Lines) where
  abbrev SameArity : TyStr Name → Type 0
  SameArity u = length u.function.variables ≡ length t.function.variables

  abbrev SameBody : TyStr Name → Type 0
  SameBody u = u.function.body ≡ t.function.body

  abbrev SameConstructors : TyStr Name → Type 0
  SameConstructors u = (t.constructors ≡ []) ⊎ (u.constructors ≡ t.constructors)

  abbrev after : TyStr Name → Script Place Name (Unit {0})
  after u = test (SameArity u) (fault_at M2 p (path_of x)) >>= (λ a. test (SameBody u) (fault_at M4 p (path_of x)) >>= (λ b.
      test (SameConstructors u) (fault_at M5 p (path_of x)) >>= (λ c. require_lines scope p E ls)))

  -- of what was found at the path
  abbrev Asked : Found (TyStr Name) → Outcome → Type 0
  Asked r o = IsAnswer scope (look (component p x r) >>= after) s o

  by-found : (r : Found (TyStr Name)) (o : Outcome) → type_at E x ≡ r → Asked r o → answers scope s p E ((x, a_type t) ∷ ls) o
  unfolding require_lines
  by-found r o h a = subst (λ r. Asked r o) (sym h) a

  pub type-met : (u : TyStr Name) (o : Outcome) → type_at E x ≡ found u → SameArity u → SameBody u → SameConstructors u
      → answers scope s p E ls o → answers scope s p E ((x, a_type t) ∷ ls) o
  unfolding ◌>>=◌ IsAnswer
  type-met u o h a b c rest = by-found (found u) o h (inl (a, inl (b, inl (c, rest))))

  pub other-arity : (u : TyStr Name) → type_at E x ≡ found u → ¬ (SameArity u) → answers scope s p E ((x, a_type t) ∷ ls) (refused (fault_at M2 p (path_of x)))
  unfolding ◌>>=◌ IsAnswer
  other-arity u h a = by-found (found u) _ h (inr (a, refl))

  pub other-body : (u : TyStr Name) → type_at E x ≡ found u → SameArity u → ¬ (SameBody u) → answers scope s p E ((x, a_type t) ∷ ls) (refused (fault_at M4 p (path_of x)))
  unfolding ◌>>=◌ IsAnswer
  other-body u h a b = by-found (found u) _ h (inl (a, inr (b, refl)))

  pub other-constructors : (u : TyStr Name) → type_at E x ≡ found u → SameArity u → SameBody u → ¬ (SameConstructors u)
      → answers scope s p E ((x, a_type t) ∷ ls) (refused (fault_at M5 p (path_of x)))
  unfolding ◌>>=◌ IsAnswer
  other-constructors u h a b c = by-found (found u) _ h (inl (a, inl (b, inr (c, refl))))

  pub no-such-type : type_at E x ≡ no_entry → answers scope s p E ((x, a_type t) ∷ ls) (refused (fault_at M1 p (path_of x)))
  unfolding ◌>>=◌ IsAnswer
  no-such-type h = by-found no_entry _ h refl

-- values in whose types, and in those that are specified, no unknown stands
module _ (unit : ℕ) (s : State Place Name) (p : Place) (E : Env Name) (x : LongId) (v : Value Name) (ls : Lines) where
  abbrev Serves : Value Name → Type 0
  Serves u = serves u.status v.status ≡ true

  abbrev General : Value Name → Type 0
  General u = IsGeneral naming u.scheme v.scheme

  abbrev compared : Bool → Value Name → Script Place Name (Unit {0})
  compared b u = cond b (require_general (run_scope unit) (fault_at M6 p (path_of x)) u.scheme v.scheme) (test (General u) (fault_at M6 p (path_of x)))

  abbrev after-value : Value Name → Script Place Name (Unit {0})
  after-value u = test (Serves u) (fault_at M7 p (path_of x)) >>= (λ a. compared (has_unknown u.scheme.body || has_unknown v.scheme.body) u >>= (λ b. require_lines (run_scope unit) p E ls))

  value-found : (u : Value Name) (o : Outcome) → value_at E x ≡ found u → IsAnswer (run_scope unit) (look (component p x (found u)) >>= after-value) s o → answers (run_scope unit) s p E ((x, a_value v) ∷ ls) o
  unfolding require_lines
  value-found u o h a = subst (λ r. IsAnswer (run_scope unit) (look (component p x r) >>= after-value) s o) (sym h) a

  pub no-such-value : value_at E x ≡ no_entry → answers (run_scope unit) s p E ((x, a_value v) ∷ ls) (refused (fault_at M1 p (path_of x)))
  unfolding require_lines ◌>>=◌ IsAnswer
  no-such-value h = subst (λ r. IsAnswer (run_scope unit) (look (component p x r) >>= after-value) s (refused (fault_at M1 p (path_of x)))) (sym h) refl

  module _ (u : Value Name) (h : value_at E x ≡ found u) where
    pub other-status : ¬ (Serves u) → answers (run_scope unit) s p E ((x, a_value v) ∷ ls) (refused (fault_at M7 p (path_of x)))
    unfolding ◌>>=◌ IsAnswer
    other-status a = value-found u _ h (inr (a, refl))

    module _ (known : has_unknown u.scheme.body ≡ false) (specified : has_unknown v.scheme.body ≡ false) (a : Serves u) where
      none : (has_unknown u.scheme.body || has_unknown v.scheme.body) ≡ false
      none = λ i. known i || specified i

      pub value-met : (o : Outcome) → General u → answers (run_scope unit) s p E ls o → answers (run_scope unit) s p E ((x, a_value v) ∷ ls) o
      unfolding ◌>>=◌ IsAnswer
      value-met o g rest = value-found u o h (inl (a, subst (λ b. IsAnswer (run_scope unit) (compared b u >>= (λ c. require_lines (run_scope unit) p E ls)) s o) (sym none) (inl (g, rest))))

      pub not-general : ¬ (General u) → answers (run_scope unit) s p E ((x, a_value v) ∷ ls) (refused (fault_at M6 p (path_of x)))
      unfolding ◌>>=◌ IsAnswer
      not-general g =
          value-found u _ h (inl (a, subst (λ b. IsAnswer (run_scope unit) (compared b u >>= (λ c. require_lines (run_scope unit) p E ls)) s (refused (fault_at M6 p (path_of x)))) (sym none) (inr (g, refl))))
