-- What calls read of patterns, whose variables they add, and of type constraints.
use Rattle.std.specs.List.{AllByRecursion}
use Rattle.std.specs.Prelude.{Bool, true, [], map, Result, Vec}
use Rattle.std.specs.Global.{Global}
use Rattle.std.specs.declared.rc.Rc.{Rc}
use Rattle.sml_lex.specs.declared.fault.Place.{Place}
use Rattle.sml_tree.specs.Types.{Ty}
use Rattle.sml_tree.specs.Patterns.{Pat, Pats, PatFields}
use Rattle.sml_tree.specs.Names.{LongName}
use Rattle.sml_tree.specs.Views.{ident_of}
use Rattle.sml_objects.specs.Appearance.{Stands}
use Rattle.sml_objects.specs.Initial.{Name}
use Rattle.sml_objects.specs.Maps.{Map}
use Rattle.sml_objects.specs.Objects.{MlType, MlTypes, types_of}
use Rattle.sml_objects.specs.Views.{type_of}
use Rattle.sml_objects.specs.declared.objects.MlType as P
use Rattle.sml_layers.specs.Demands.{AllMention}
use Rattle.sml_graph.specs.Interned.{AreOver}
use Rattle.sml_core_rules.specs.Objects.{Env}
use Rattle.sml_core_rules.specs.Lookups.{value_at}
use Rattle.sml_core_rules.specs.Scopes.{run_scope}
use Rattle.sml_core_rules.specs.Scripts.{Script, give, ◌>>=◌}
use Rattle.sml_core_rules.specs.States.{Scope, State, Window}
use Rattle.sml_core_rules.specs.Patterns.{Bindings, Typed, constructor_instance, found_constructor, read_constraint, read_pat, read_pats, read_pat_fields, read_row, typed}
use Rattle.sml_core_rules.specs.Values.{require_equal}
use Rattle.sml_types.specs.declared.fault.CoreFault.{CoreFault}
use Rattle.sml_asks.specs.Solvers.{IsTypeIn}
use Rattle.sml_core.specs.Answered.{AnswersAs, AreFieldsIn, IsAt, Row, Types, unit_of}
use Rattle.sml_core.specs.Seen.{Sees}
use Rattle.sml_core.specs.declared.context.Context.{Context}
use Rattle.sml_core.specs.declared.patterns.Variables.{Variables}

-- A call asks what a script asks that knows an environment and types of explicit variables, which the context sees, and answers a type.
abbrev pub TypesWhere : Context → (Env Name → Map (MlType Name) → Script Place Name (MlType Name)) → Context → Result (Rc P.MlType Global) CoreFault → Type 0
TypesWhere old k new result =
    (C : Env Name) (vs : Map (MlType Name)) (around : Window Place Name) (s : State Place Name) → IsAt around old s → Sees C vs old s → Types around old (k C vs) s new result

-- A call reads the type of a constraint.
unfoldable pub ReadsConstraint : Context → Ty Place → Context → Result (Rc P.MlType Global) CoreFault → Type 0
ReadsConstraint old ty new result = TypesWhere old (λ C vs. read_constraint C vs ty) new result

-- what a phrase with a type is constrained to
abbrev pub constrain : Place → MlType Name → Ty Place → Env Name → Map (MlType Name) → Script Place Name (MlType Name)
constrain p t ty C vs = do
  w ← read_constraint C vs ty
  u ← require_equal p t w
  give w

-- A call constrains a phrase with a type, which speaks of what was made.
unfoldable pub Constrains : Context → Place → MlType Name → Ty Place → Context → Result (Rc P.MlType Global) CoreFault → Type 0
Constrains old p t ty new result =
    (C : Env Name) (vs : Map (MlType Name)) (around : Window Place Name) (s : State Place Name) → IsAt around old s → Sees C vs old s → IsTypeIn s.made s.names t
    → Types around old (constrain p t ty C vs) s new result

-- the variables that patterns bind, in their order, with their types
abbrev pub bindings_of : Variables → Bindings Name
bindings_of vars = map (λ e. (ident_of e.0, type_of e.1.value)) vars.types.entries

-- the types of variables speak of what was made
abbrev pub AreBoundIn : State Place Name → Bindings Name → Type 0
AreBoundIn s bs = AllByRecursion (λ b. IsTypeIn s.made s.names b.1) bs

-- what is read, and the types of the variables so far, speak of what was made
abbrev pub WithBound : {X : Type 0} → (X → State Place Name → Type 0) → Typed Name X → State Place Name → Type 0
WithBound Q r s = Q r.type s × AreBoundIn s r.bound

abbrev pub IsMade : MlType Name → State Place Name → Type 0
IsMade t s = IsTypeIn s.made s.names t

-- A call asks what a script of patterns asks, after the variables that patterns before them bind, and adds those of these.
abbrev pub Binds : {X Y : Type 0} → (Y → X) → (X → State Place Name → Type 0) → Context → Variables
    → (Bool → Env Name → Map (MlType Name) → Bindings Name → Script Place Name (Typed Name X)) → Context → Variables → Result Y CoreFault → Type 0
Binds view Q old vars k new after result =
    (C : Env Name) (vs : Map (MlType Name)) (around : Window Place Name) (s : State Place Name) → IsAt around old s → Sees C vs old s → AreBoundIn s (bindings_of vars)
    → AnswersAs (λ y. typed (view y) (bindings_of after)) (WithBound Q) around old (k vars.is_recursive C vs (bindings_of vars)) s new result

-- It answers the type of what it reads.
unfoldable pub BindsType : Context → Variables → (Bool → Env Name → Map (MlType Name) → Bindings Name → Script Place Name (Typed Name (MlType Name))) → Context → Variables
    → Result (Rc P.MlType Global) CoreFault → Type 0
BindsType old vars k new after result = Binds (λ t. type_of t.value) IsMade old vars k new after result

-- A call reads a pattern.
unfoldable pub ReadsPattern : Context → Variables → Pat Place → Context → Variables → Result (Rc P.MlType Global) CoreFault → Type 0
ReadsPattern old vars q new after result = Binds (λ t. type_of t.value) IsMade old vars (λ r C vs bs. read_pat (run_scope (unit_of old)) r C vs bs q) new after result

-- types speak of what was made
abbrev pub AreMade : MlTypes Name → State Place Name → Type 0
AreMade ts s = AreOver s.made ts × AllMention (λ n. Stands n s.names) ts

-- A call reads patterns, one after the other.
unfoldable pub ReadsPatterns : Context → Variables → Pats Place → Context → Variables → Result (Vec (Rc P.MlType Global) Global) CoreFault → Type 0
ReadsPatterns old vars qs new after result =
    Binds (λ ts. types_of (map (λ t. type_of t.value) ts.items)) AreMade old vars (λ r C vs bs. read_pats (run_scope (unit_of old)) r C vs bs qs) new after result

-- A call reads fields of a pattern, one after the other.
unfoldable pub ReadsPatternFields : {Y : Type 0} → (Y → Row) → Context → Variables → PatFields Place → Context → Variables → Result Y CoreFault → Type 0
ReadsPatternFields view old vars fs new after result =
    Binds view AreFieldsIn old vars (λ r C vs bs. read_pat_fields (run_scope (unit_of old)) r C vs bs [] fs) new after result

-- A call makes a row of fields, whose types speak of what was made, or a row that has them and perhaps others.
unfoldable pub MakesRow : Context → Place → Bool → Row → Context → Result (Rc P.MlType Global) CoreFault → Type 0
MakesRow old p flexible fs new result =
    (is_rec : Bool) (C : Env Name) (vs : Map (MlType Name)) (around : Window Place Name) (s : State Place Name) → IsAt around old s → AreFieldsIn fs s
    → Types around old (read_row (run_scope (unit_of old)) is_rec C vs p flexible fs) s new result

-- what is asked of a constructor or an exception before an argument
abbrev pub constructor_applied : Scope Name → Place → LongName Place → Env Name → Script Place Name (MlType Name)
constructor_applied scope p x C = do
  v ← found_constructor scope x (value_at C x.id)
  constructor_instance scope p x.place true v

-- A call finds a constructor or an exception before an argument.
unfoldable pub AppliesConstructor : Context → Place → LongName Place → Context → Result (Rc P.MlType Global) CoreFault → Type 0
AppliesConstructor old p x new result = TypesWhere old (λ C vs. constructor_applied (run_scope (unit_of old)) p x C) new result
