-- What is claimed of the objects of the whole language, and of all readings of the core.
use Rattle.std.specs.Prelude.{◌≡◌, ◌↔◌, ℕ, Bool, true, List, [], map}
use Rattle.sml_lex.specs.declared.fault.Place.{Place}
use Rattle.sml_tree.specs.Names.{LongName}
use Rattle.sml_tree.specs.Trees.{LongId}
use Rattle.sml_tree.specs.Patterns.{Pat}
use Rattle.sml_tree.specs.Types.{Ty}
use Rattle.sml_tree.specs.Expressions.{Dec, TypBind, DatBind, ExnBind}
use Rattle.sml_objects.specs.Alike.{Renaming}
use Rattle.sml_objects.specs.Laws.{ObeysLaws}
use Rattle.sml_objects.specs.Maps.{Map}
use Rattle.sml_objects.specs.Appearance.{Stands}
use Rattle.sml_objects.specs.Names.{Naming, Initial}
use Rattle.sml_objects.specs.Objects.{MlType, Scheme, free, rename_type}
use Rattle.sml_objects.specs.Types.{assign}
use Rattle.sml_layers.specs.declared.layer.Layer.TheVariants.{Finiteness, Rigidity}
use Rattle.sml_layers.specs.Worlds.{Assignment, finite}
use Rattle.sml_core_rules.specs.Solutions.{Meets, IsScheme}
use Rattle.sml_layers.specs.declared.variable.Variable.{Variable}
use Rattle.sml_layers.specs.Demands.{Ask, within, equality, of_class, variable, Demand, equal, has_fields, asks}
use Rattle.sml_rules.specs.Answers.{Answer, refused, accepted}
use Rattle.sml_core_rules.specs.Objects.{Env, Value, TyStr, empty, replaced, rename_env, names_env, rename_basis, names_basis}
use Rattle.sml_core_rules.specs.States.{Scope, State}
use Rattle.sml_core_rules.specs.Scripts.{IsAnswer}
use Rattle.sml_core_rules.specs.Types.{read_ty}
use Rattle.sml_core_rules.specs.Datatypes.{Arguments, read_type_binds, read_all_arguments}
use Rattle.sml_core_rules.specs.Expressions.{IsReading, at_first, read_datatypes, read_exceptions, read_opened}
use Rattle.sml_rules.specs.Lookups.{found}
use Rattle.sml_core_rules.specs.Lookups.{value_at}
use Rattle.sml_core_rules.specs.Values.{constructs}
use Rattle.sml_core_rules.specs.Patterns.{Typed, read_pat}
use Rattle.sml_core_rules.specs.Contexts.{Context, IsType}
use Rattle.sml_core_rules.specs.Assigned.{assign_context, assign_bindings}
use Rattle.sml_core_rules.specs.Rules.{Means, BindTypes, MeanAllArguments, BindDatatypes, BindExceptions, Opens, AreApart, Fits, Declares}

-- renaming what a state holds

abbrev pub rename_ask : {A B : Type 0} → (A → B) → Ask (List A) → Ask (List B)
rename_ask f (within k T) = within k (map f T)
rename_ask f equality = equality
rename_ask f (of_class c) = of_class c
rename_ask f (variable x) = variable x

abbrev pub rename_demand : {A B : Type 0} → (A → B) → Demand A (List A) → Demand B (List B)
rename_demand f (equal t u) = equal (rename_type f t) (rename_type f u)
rename_demand f (has_fields t fs) = has_fields (rename_type f t) (replaced (rename_type f) fs)
rename_demand f (asks a t) = asks (rename_ask f a) (rename_type f t)

abbrev pub rename_state : {P A B : Type 0} → (A → B) → State P A → State P B
rename_state f s = record {
  made = s.made;
  names = map f s.names;
  demands = map (rename_demand f) s.demands;
  window = record { rows = map (λ r. (r.0, rename_type f r.1)) s.window.rows; overloaded = s.window.overloaded };
  is_open = s.is_open;
  judged = s.judged;
}

abbrev pub rename_answer : {P A B X Y : Type 0} → (X → Y) → (A → B) → Answer P (X × State P A) → Answer P (Y × State P B)
rename_answer g f (refused x) = refused x
rename_answer g f (accepted r) = accepted (g r.0, rename_state f r.1)

-- A reading of a declaration is one of it with the names replaced: the context, the explicit variables in scope, the state and
-- the answer. The names that stand for explicit variables are replaced too.
abbrev pub ReadingsMove : {N : Type 0} → Naming N → Type 0
ReadingsMove {N} names =
    (f : Renaming names) (unit : ℕ) (var : Variable → N) (C : Env N) (vs : Map (MlType N)) (d : Dec Place) (s : State Place N) (o : Answer Place (Env N × State Place N))
    → IsReading (record { names = names; unit = unit; variable = var }) C vs d s o
    → IsReading (record { names = names; unit = unit; variable = λ x. f.to (var x) }) (rename_env f.to C) (replaced (rename_type f.to) vs) d (rename_state f.to s) (rename_answer (rename_env f.to) f.to o)

abbrev pub rename_context : {A B : Type 0} → (A → B) → Context A → Context B
rename_context f C = record { names = map f C.names; explicit = replaced (rename_type f) C.explicit; env = rename_env f C.env }

-- What the rules derive of a declaration they derive of it with the names replaced, in the context and in the environment.
abbrev pub DerivationsMove : {N : Type 0} → Naming N → Type 0
DerivationsMove {N} names =
    (f : Renaming names) (equality : ℕ → Bool) (C : Context N) (d : Dec Place) (E : Env N) → Declares names equality C d E
    → Declares names equality (rename_context f.to C) d (rename_env f.to E)

-- the laws of renaming, of environments and of bases
pub record ObjectsObeyLaws (N : Type 0) : Type 0 where
  pub environments : ObeysLaws {N = N} rename_env names_env
  pub bases : ObeysLaws {N = N} rename_basis names_basis

-- Where a phrase asks nothing of unknown types, what is read of it is what the rules derive.
pub record ReadingsDerive {N : Type 0} (scope : Scope N) : Type 0 where
  pub types : (C : Env N) (vs : Map (MlType N)) (u : Ty Place) (t : MlType N) → (read_ty C vs u ≡ accepted t) ↔ Means C vs u t
  pub type_bindings : (C : Env N) (bs : List (TypBind Place)) (ts : Map (TyStr N)) → (read_type_binds C [] bs ≡ accepted ts) ↔ BindTypes C [] bs ts
  pub arguments : (C : Env N) (ds : List (DatBind Place)) (gs : List (Arguments N)) → (read_all_arguments C ds ≡ accepted gs) ↔ MeanAllArguments C ds gs
  pub exceptions : (C : Env N) (vs : Map (MlType N)) (bs : List (ExnBind Place)) (xs : Map (Value N))
      → (read_exceptions scope C vs [] bs ≡ accepted xs) ↔ BindExceptions scope.names C vs [] bs xs
  pub opened : (C : Env N) (ss : List (LongName Place)) (E : Env N) → (read_opened scope C empty ss ≡ accepted E) ↔ Opens C empty ss E
  -- where the names of the context are among those made so far
  pub datatypes : (p : Place) (C : Context N) (ds : List (DatBind Place)) (s : State Place N) (r : Env N × State Place N)
      → ((n : N) → Stands n C.names → Stands n s.names) → IsAnswer scope (read_datatypes scope p C.env ds) s (accepted r) → BindDatatypes scope.names C ds r.0

-- no constructor's type is an unknown alone
abbrev pub AreKnown : {N : Type 0} → Env N → Type 0
AreKnown {N} C = (x : LongId) (v : Value N) → value_at C x ≡ found v → constructs v.status ≡ true → (k : ℕ) → ¬ (v.scheme.body ≡ free k)

-- A pattern that was read fits the type that it was given, by the rules, and binds what it was read to bind, whatever types the
-- unknowns turn out to have; and no variable twice. Type variables may be equality variables or not.
abbrev pub PatternsFit : {N : Type 0} → Scope N → Type 0
PatternsFit {N} scope =
    (σ : Assignment N finite) → ((v : ℕ) → IsType scope.names (σ v)) → (eq : ℕ → Bool) (C : Context N) → AreKnown C.env
    → (is_rec : Bool) (q : Pat Place) (s : State Place N) (r : Typed N (MlType N) × State Place N)
    → IsAnswer scope (read_pat scope is_rec C.env C.explicit [] q) s (accepted r) → Meets scope r.1 Rigidity σ
    → Fits scope.names eq (assign_context σ C) is_rec q (assign σ r.0.type) (assign_bindings σ r.0.bound) × AreApart (assign_bindings σ r.0.bound)

-- Where the demands can be met, they leave a type one scheme.
abbrev pub SchemesAreOne : {N : Type 0} → Scope N → Type 0
SchemesAreOne {N} scope =
    (s : State Place N) (σ : Assignment N finite) → Meets scope s Finiteness σ → (n : ℕ) (x : Bool) (t : MlType N) (θ η : Scheme N)
    → IsScheme scope s n x t θ → IsScheme scope s n x t η → θ ≡ η

-- Any two answers to a declaration in a basis are the same but for the names that were made: a renaming that leaves the names of
-- the basis, the initial ones among them, takes one answer to the other. The names of explicit variables are made by no unit.
abbrev pub ReadingsAgree : {N : Type 0} → Scope N → Type 0
ReadingsAgree {N} scope =
    ((x : Variable) → ¬ ((scope.names.attributes (scope.variable x)).maker ≡ scope.unit))
    → (C : Env N) (ns : List N) → ((n : N) → Stands n (names_env C) → Stands n ns) → ((k : Initial) → Stands (scope.names.initial k) ns)
    → (d : Dec Place) (o q : Answer Place (Env N × State Place N)) → IsReading scope C [] d (at_first ns) o → IsReading scope C [] d (at_first ns) q
    → (f : Renaming scope.names) × ((n : N) → Stands n ns → f.to n ≡ n) × (q ≡ rename_answer (rename_env f.to) f.to o)
