-- A type or a value that is less than specified, at the path that is told.
use Rattle.std.proofs.Common.{◌≡◌, ◌⊎◌, ℕ, true, false, List, [], ◌∷◌, ◌++◌, length, sym, subst, None, Ok, Err}
use Rattle.sml_lex.specs.declared.fault.Code.TheVariants.{M1, M2, M4, M5, M6, M7}
use Rattle.sml_lex.specs.declared.fault.Place.{Place}
use Rattle.sml_tree.specs.Trees.{Id, LongId}
use Rattle.sml_tree.specs.Views.{ident_of}
use Rattle.sml_objects.specs.Initial.{Name, naming}
use Rattle.sml_objects.specs.Maps.{lookup}
use Rattle.sml_rules.specs.Answers.{fault_at, refused}
use Rattle.sml_rules.specs.Lookups.{found}
use Rattle.sml_core_rules.specs.Lookups.{type_at, value_at}
use Rattle.sml_core_rules.specs.Objects.{Env, TyStr, Value, types}
use Rattle.sml_core_rules.specs.Scopes.{run_scope}
use Rattle.sml_core_rules.specs.States.{Scope, State}
use Rattle.sml_core_rules.specs.Values.{has_unknown}
use Rattle.sml_module_rules.specs.Lines.{a_type, a_value, at_path, path_of}
use Rattle.sml_module_rules.specs.Matching.{IsGeneral, serves}
use Rattle.sml_bases.specs.Views.{ty_str_of}
use Rattle.sml_bases.specs.declared.objects.TypeStr.{TypeStr}
use Rattle.sml_types.specs.Answered.{env_at}
use Rattle.sml_match.specs.Mismatches.{IsMismatch}
use Rattle.sml_match.specs.Required.{HasRequired, answers}
use Rattle.sml_match.specs.declared.mismatch.Mismatch.{Mismatch}
use Rattle.sml_match.specs.declared.mismatch.Mismatch.TheVariants.{Memory, Fault}
use Rattle.sml_match.proofs.Refusals.{no-type, unmet}
use Rattle.sml_match.proofs.Requiring.{Outcome, other-arity, other-body, other-constructors, no-such-type, other-status, not-general}
use Rattle.sml_match.proofs.Walks.{Key, Lines, types-left}

module _ (U : Type 0) (scope : Scope Name) (s : State Place Name) (p : Place) (E : Env Name) (x : LongId) (t : TyStr Name) (way : List Id) (e : path_of x ≡ way) (m : Mismatch) where
  abbrev pub Unmet : Type 0
  Unmet = HasRequired scope s p E {U = U} ((x, a_type t) ∷ []) (Err m)

  pub arity-unmet : (u : TyStr Name) → type_at E x ≡ found u → ¬ (length u.function.variables ≡ length t.function.variables) → IsMismatch m M2 way → Unmet
  arity-unmet u h a i =
      unmet U scope s p E ((x, a_type t) ∷ []) m M2 way i
      (λ rest. subst (λ q. answers scope s p E ((x, a_type t) ∷ rest) (refused (fault_at M2 p q))) e (other-arity scope s p E x t rest u h a))

  pub body-unmet : (u : TyStr Name) → type_at E x ≡ found u → length u.function.variables ≡ length t.function.variables → ¬ (u.function.body ≡ t.function.body) → IsMismatch m M4 way → Unmet
  body-unmet u h a b i =
      unmet U scope s p E ((x, a_type t) ∷ []) m M4 way i
      (λ rest. subst (λ q. answers scope s p E ((x, a_type t) ∷ rest) (refused (fault_at M4 p q))) e (other-body scope s p E x t rest u h a b))

  pub constructors-unmet : (u : TyStr Name) → type_at E x ≡ found u → length u.function.variables ≡ length t.function.variables → u.function.body ≡ t.function.body
      → ¬ ((t.constructors ≡ []) ⊎ (u.constructors ≡ t.constructors)) → IsMismatch m M5 way → Unmet
  constructors-unmet u h a b k i =
      unmet U scope s p E ((x, a_type t) ∷ []) m M5 way i
      (λ rest. subst (λ q. answers scope s p E ((x, a_type t) ∷ rest) (refused (fault_at M5 p q))) e (other-constructors scope s p E x t rest u h a b k))

-- a value that is less, where no unknown stands in the two types
module _ (U : Type 0) (unit : ℕ) (s : State Place Name) (p : Place) (E : Env Name) (x : LongId) (v : Value Name) (way : List Id) (e : path_of x ≡ way) (m : Mismatch) (u : Value Name) (h : value_at E x ≡ found u) where
  pub status-unmet : ¬ (serves u.status v.status ≡ true) → IsMismatch m M7 way → HasRequired (run_scope unit) s p E {U = U} ((x, a_value v) ∷ []) (Err m)
  status-unmet a i =
      unmet U (run_scope unit) s p E ((x, a_value v) ∷ []) m M7 way i
      (λ rest. subst (λ q. answers (run_scope unit) s p E ((x, a_value v) ∷ rest) (refused (fault_at M7 p q))) e (other-status unit s p E x v rest u h a))

  pub general-unmet : has_unknown u.scheme.body ≡ false → has_unknown v.scheme.body ≡ false → serves u.status v.status ≡ true → ¬ (IsGeneral naming u.scheme v.scheme) → IsMismatch m M6 way
      → HasRequired (run_scope unit) s p E {U = U} ((x, a_value v) ∷ []) (Err m)
  general-unmet k l a g i =
      unmet U (run_scope unit) s p E ((x, a_value v) ∷ []) m M6 way i
      (λ rest. subst (λ q. answers (run_scope unit) s p E ((x, a_value v) ∷ rest) (refused (fault_at M6 p q))) e (not-general unit s p E x v rest u h k l a g))

-- the next type of a map, after those that are as specified
module _ (scope : Scope Name) (s : State Place Name) (p : Place) (E F : Env Name) (path : List Id) (all rest u : List (Key × TypeStr)) (k : Key) (a : TypeStr)
    (first : rest ≡ (k, a) ∷ u) (way : List Id) (e : way ≡ path ++ ident_of k ∷ []) (h : env_at E path ≡ found F)
    (so-far : (more : Lines) (o : Outcome) → answers scope s p E (types-left path rest ++ more) o → answers scope s p E (types-left path all ++ more) o) where
  from-next : (more : Lines) (o : Outcome) → answers scope s p E (types-left path ((k, a) ∷ u) ++ more) o → answers scope s p E (types-left path all ++ more) o
  from-next more o g = so-far more o (subst (λ l. answers scope s p E (types-left path l ++ more) o) (sym first) g)

  pub next-missing : (U : Type 0) (m : Mismatch) → lookup (ident_of k) (types F) ≡ None → IsMismatch m M1 way → HasRequired scope s p E {U = U} (types-left path all) (Err m)
  next-missing U m n i =
      unmet U scope s p E (types-left path all) m M1 way i
      (λ more. from-next more (refused (fault_at M1 p way))
      (subst (λ q. answers scope s p E (types-left path ((k, a) ∷ u) ++ more) (refused (fault_at M1 p q))) (sym e)
      (no-such-type scope s p E (at_path path (ident_of k)) (ty_str_of a) (types-left path u ++ more) (no-type E F (at_path path (ident_of k)) h n))))

  pub next-unmet : (U : Type 0) (m : Mismatch) → HasRequired scope s p E {U = U} ((at_path path (ident_of k), a_type (ty_str_of a)) ∷ []) (Err m)
      → HasRequired scope s p E {U = U} (types-left path all) (Err m)
  next-unmet U Memory g = tt
  next-unmet U (Fault c text) g = λ more. from-next more _ (g (types-left path u ++ more))

  pub next-met : (U : Type 0) (v : U) → HasRequired scope s p E ((at_path path (ident_of k), a_type (ty_str_of a)) ∷ []) (Ok v)
      → (more : Lines) (o : Outcome) → answers scope s p E (types-left path u ++ more) o → answers scope s p E (types-left path all ++ more) o
  next-met U v g more o r = from-next more o (g (types-left path u ++ more) o r)
