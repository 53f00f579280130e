-- Right sides after `withtype`: which variables are asked for where one is read, and that one which is kept is its binding's.
use Rattle.std.specs.Prelude.{◌≡◌, ◌<◌, ◌≤◌, ℕ, cond, nat_eq, slice_get, List, [], ◌∷◌, ◌++◌, length, map, Option, Some, None, Result, Ok, Err, Vec}
use Rattle.std.specs.List.{AllByRecursion, list_any}
use Rattle.std.specs.Global.{Global}
use Rattle.std.specs.declared.rc.Rc.{Rc}
use Rattle.sml_lex.specs.Faults.{fault_of}
use Rattle.sml_lex.specs.declared.fault.Fault.{Fault}
use Rattle.sml_lex.specs.declared.fault.Place.{Place}
use Rattle.sml_tree.specs.Trees.{Id, LongId}
use Rattle.sml_tree.specs.Types.{Ty, Tys, TyFields, ty_variable, ty_row, ty_tuple, ty_constructor, ty_misapplied, ty_arrow, ty_bracket, no_ty, and_ty, ty_field, no_ty_field, and_ty_field}
use Rattle.sml_tree.specs.Expressions.{TypBind}
use Rattle.sml_tree.specs.Withtype.{bound as binding}
use Rattle.sml_objects.specs.Initial as I
use Rattle.sml_objects.specs.Maps.{Map, lookup}
use Rattle.sml_objects.specs.Objects.{MlType, Scheme, bound, free, app}
use Rattle.sml_rules.specs.Answers.{Answer, accepted, refused}
use Rattle.sml_rules.specs.Lookups.{found}
use Rattle.sml_core_rules.specs.Objects.{Env, TyStr}
use Rattle.sml_core_rules.specs.Lookups.{type_at}
use Rattle.sml_core_rules.specs.Datatypes.{listed}
use Rattle.sml_core_rules.specs.Types.{read_ty}
use Rattle.sml_type_maps.specs.Counted.{uses_in}
use Rattle.sml_types.specs.Meant.{meant}
use Rattle.sml_types.specs.declared.fault.CoreFault.{CoreFault}
use Rattle.sml_types.specs.declared.fault.CoreFault.TheVariants.{Memory, Fault as Refused}
use Rattle.sml_types.specs.declared.sides.RightSide.{RightSide}
use Rattle.sml_types.specs.declared.written.Written.{Written}

-- what is asked for after something is read, where that has no fault
abbrev pub then_asked : {P X : Type 0} → Answer P X → List Id → List Id
then_asked (refused f) xs = []
then_asked (accepted t) xs = xs

-- the variables that a type expression asks for, in the order of the text, up to its first fault
module _ {P N : Type 0} (C : Env N) (vs : Map (MlType N)) where
  unfoldable mutual
    pub asked : Ty P → List Id
    asked (ty_variable p x) = x ∷ []
    asked (ty_row p fs) = asked_in_fields fs
    asked (ty_tuple p us) = asked_in_all us
    asked (ty_constructor p us c) = asked_in_all us
    asked (ty_misapplied p us c) = asked_in_all us
    asked (ty_arrow p u v) = asked u ++ then_asked (read_ty C vs u) (asked v)
    asked (ty_bracket p u) = asked u

    pub asked_in_all : Tys P → List Id
    asked_in_all no_ty = []
    asked_in_all (and_ty u us) = asked u ++ then_asked (read_ty C vs u) (asked_in_all us)

    pub asked_in_fields : TyFields P → List Id
    asked_in_fields no_ty_field = []
    asked_in_fields (and_ty_field (ty_field l u) us) = asked u ++ then_asked (read_ty C vs u) (asked_in_fields us)

-- the number of a bound variable
abbrev pub bound_number : {N : Type 0} → Option (MlType N) → Option ℕ
bound_number None = None
bound_number (Some (bound k)) = Some k
bound_number (Some (free v)) = None
bound_number (Some (app h ts)) = None

-- a number after those before it, if it isn't among them
abbrev pub with_number : List ℕ → Option ℕ → List ℕ
with_number ks None = ks
with_number ks (Some k) = cond (list_any (nat_eq k) ks) ks (ks ++ k ∷ [])

-- the numbers of the bound variables among these, in the order of their first appearance, after those before
unfoldable pub numbers_after : {N : Type 0} → Map (MlType N) → List ℕ → List Id → List ℕ
numbers_after vs ks [] = ks
numbers_after vs ks (x ∷ xs) = numbers_after vs (with_number ks (bound_number (lookup x vs))) xs

-- the variables of a binding that stand in its right side, as its places have them
abbrev pub used_in : {P N : Type 0} → Env N → TypBind P → List ℕ
used_in {N = N} C b = numbers_after {N = N} (listed bound 0 b.variables) [] (asked C (listed bound 0 b.variables) b.ty)

-- what each of these is answered
abbrev pub answers_of : {P N : Type 0} → Env N → Map (MlType N) → Tys P → List (Answer P (MlType N))
answers_of C vs no_ty = []
answers_of C vs (and_ty u us) = read_ty C vs u ∷ answers_of C vs us

-- the same answer about another object
abbrev pub answer_map : {P X Y : Type 0} → (X → Y) → Answer P X → Answer P Y
answer_map f (refused g) = refused g
answer_map f (accepted x) = accepted (f x)

-- what stands at this number is accepted, and as the type that stands there in a list
abbrev pub IsAccepted : {P X : Type 0} → List (Answer P X) → ℕ → Type 0
IsAccepted {X = X} os k = (t : X) × (slice_get os k ≡ Some (accepted t))

abbrev pub IsAcceptedAs : {P X : Type 0} → List (Answer P X) → List X → ℕ → Type 0
IsAcceptedAs {X = X} os ts k = (t : X) × (slice_get os k ≡ Some (accepted t)) × (slice_get ts k ≡ Some t)

-- What the reading of these arguments comes to, in this order: what each is, in a list of all; or the first fault.
abbrev pub ArgumentsAnswer : List (Answer Place (MlType I.Name)) → List ℕ → Result (Vec (Rc Written Global) Global) CoreFault → Type 0
ArgumentsAnswer os ks (Ok ws) =
    (length ws.items ≡ length os) × AllByRecursion (λ k. k < length os → IsAcceptedAs os (map (λ w. meant w.value) ws.items) k) ks
ArgumentsAnswer os ks (Err Memory) = Unit {0}
ArgumentsAnswer os ks (Err (Refused f)) =
    (pre : List ℕ) × (k : ℕ) × (post : List ℕ) × (ks ≡ pre ++ k ∷ post) × AllByRecursion (λ j. j < length os → IsAccepted os j) pre
    × (slice_get os k ≡ Some (refused (fault_of f)))

-- The bound variables of a type function's body are its own.
abbrev pub MentionsOwn : {N : Type 0} → Scheme N → Type 0
MentionsOwn θ = (k : ℕ) → length θ.variables ≤ k → uses_in θ.body k ≡ 0

-- So it is with the type function that this long identifier finds, with all that are found, and with those of a type expression.
abbrev pub FindsOwn : {N : Type 0} → Env N → LongId → Type 0
FindsOwn {N} C c = (t : TyStr N) → type_at C c ≡ found t → MentionsOwn t.function

abbrev pub TypeFunctionsMentionOwn : {N : Type 0} → Env N → Type 0
TypeFunctionsMentionOwn C = (c : LongId) → FindsOwn C c

module _ {P N : Type 0} (C : Env N) where
  unfoldable mutual
    pub AppliesOwn : Ty P → Type 0
    AppliesOwn (ty_variable p x) = Unit {0}
    AppliesOwn (ty_row p fs) = FieldsApplyOwn fs
    AppliesOwn (ty_tuple p us) = AllApplyOwn us
    AppliesOwn (ty_constructor p us c) = AllApplyOwn us × FindsOwn C c.id
    AppliesOwn (ty_misapplied p us c) = AllApplyOwn us
    AppliesOwn (ty_arrow p u v) = AppliesOwn u × AppliesOwn v
    AppliesOwn (ty_bracket p u) = AppliesOwn u

    pub AllApplyOwn : Tys P → Type 0
    AllApplyOwn no_ty = Unit {0}
    AllApplyOwn (and_ty u us) = AppliesOwn u × AllApplyOwn us

    pub FieldsApplyOwn : TyFields P → Type 0
    FieldsApplyOwn no_ty_field = Unit {0}
    FieldsApplyOwn (and_ty_field (ty_field l u) us) = AppliesOwn u × FieldsApplyOwn us

-- what a right side is answered
abbrev pub IsMeaning : Result (Rc Written Global) Fault → Answer Place (MlType I.Name) → Type 0
IsMeaning (Ok w) a = a ≡ accepted (meant w.value)
IsMeaning (Err f) a = a ≡ refused (fault_of f)

-- That a right side is the one of a binding, read over this environment.
pub record IsSide (C : Env I.Name) (b : TypBind Place) (side : RightSide) : Type 0 where
  pub arity : side.arity ≡ length b.variables
  pub used : side.used.items ≡ used_in C b
  pub own : AppliesOwn C b.ty
  pub meaning : IsMeaning side.meaning (read_ty C (listed bound 0 b.variables) b.ty)

-- a right side of this binding, or none where there is none
abbrev pub IsSideOf : Env I.Name → Option (TypBind Place) → Option RightSide → Type 0
IsSideOf C None None = Unit {0}
IsSideOf C None (Some side) = ⊥
IsSideOf C (Some b) None = ⊥
IsSideOf C (Some b) (Some side) = IsSide C b side

-- Whatever is said of the right sides of type constructors holds of these bindings.
abbrev pub HasSides : (Id → Option RightSide → Type 0) → Env I.Name → List (TypBind Place) → Type 0
HasSides says C bs = (x : Id) (o : Option RightSide) → says x o → IsSideOf C (binding x bs) o
