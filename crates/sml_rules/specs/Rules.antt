-- The rules for core phrases and for specifications (the Definition, sections 4.10 and 5.7). Types are guessed. They
-- do not look at places.
use Rattle.std.specs.Prelude.{◌≡◌, ℕ, false, List, [], ◌∷◌, ◌++◌, ◌⊎◌}
use Rattle.sml_tree.specs.Trees.{Id, Exp, Exps, Ty, Tys, Spec, CoreDec, number, name, tuple, bracket, function, no_exp, and_exp, constructor, product, arrow_to, bracket_ty, no_ty, and_ty, type_spec, val_spec, val_dec, type_dec}
use Rattle.sml_objects.specs.Names.{Naming, Attributes, Initial, int}
use Rattle.sml_objects.specs.Objects.{MlType, MlTypes, Scheme, Env, Sig, Basis, bound, free, app, no_type, and_type, empty_env, one_type, one_value, extend_env, extend, mono, named, arrow_of, tuple_of, Outside, names_basis, names_env}
use Rattle.sml_objects.specs.Types.{replace_type, close}
use Rattle.sml_rules.specs.Lookups.{found, value_at, type_at}

-- No variable in the type is bound by a scheme.
unfoldable mutual
  pub IsOpen : {N : Type 0} → MlType N → Type 0
  IsOpen (bound k) = ⊥
  IsOpen (free v) = Unit {0}
  IsOpen (app h ts) = AreOpen ts

  pub AreOpen : {N : Type 0} → MlTypes N → Type 0
  AreOpen no_type = Unit {0}
  AreOpen (and_type t ts) = IsOpen t × AreOpen ts

-- `σ > t` (section 4.5)
unfoldable pub IsInstance : {N : Type 0} → Scheme N → MlType N → Type 0
IsInstance {N} σ t = (args : ℕ → MlType N) × ((k : ℕ) → IsOpen (args k)) × (t ≡ replace_type args free σ.body)

-- Type expressions, `C ⊢ ty ⇒ t` (rules 44 to 49)
unfoldable mutual
  pub Means : {N P : Type 0} → Env N → Ty P → MlType N → Type 0
  Means {N} C (constructor p c) t = (θ : Scheme N) × (type_at C c ≡ found θ) × (θ.variables ≡ []) × (t ≡ θ.body)
  Means {N} C (product us) t = (ts : MlTypes N) × MeanAll C us ts × (t ≡ tuple_of ts)
  Means {N} C (arrow_to u v) t = (a : MlType N) × (b : MlType N) × Means C u a × Means C v b × (t ≡ arrow_of a b)
  Means C (bracket_ty u) t = Means C u t

  pub MeanAll : {N P : Type 0} → Env N → Tys P → MlTypes N → Type 0
  MeanAll C no_ty ts = ts ≡ no_type
  MeanAll {N} C (and_ty u us) ts = (t : MlType N) × (ts' : MlTypes N) × Means C u t × MeanAll C us ts' × (ts ≡ and_type t ts')

module _ {N : Type 0} (names : Naming N) where
  -- Expressions, `C ⊢ exp ⇒ t` (rules 1 to 14)
  unfoldable mutual
    pub Has : {P : Type 0} → Env N → Exp P → MlType N → Type 0
    Has C number t = t ≡ named (names.initial int)
    Has C (name p x) t = (σ : Scheme N) × (value_at C x ≡ found σ) × IsInstance σ t
    Has C (tuple es) t = (ts : MlTypes N) × HaveAll C es ts × (t ≡ tuple_of ts)
    Has C (bracket e) t = Has C e t
    Has C (function x e) t =
        (a : MlType N) × (b : MlType N) × IsOpen a × Has (extend_env C (one_value x (mono a))) e b × (t ≡ arrow_of a b)

    pub HaveAll : {P : Type 0} → Env N → Exps P → MlTypes N → Type 0
    HaveAll C no_exp ts = ts ≡ no_type
    HaveAll C (and_exp e es) ts = (t : MlType N) × (ts' : MlTypes N) × Has C e t × HaveAll C es ts' × (ts ≡ and_type t ts')

  -- Declarations, `C ⊢ dec ⇒ E` (rules 15, 16 and 24). No variable is free in C, so each variable of the type is closed;
  -- every right side of the first piece is non-expansive.
  unfoldable pub Declares : {P : Type 0} → Env N → CoreDec P → Env N → Type 0
  Declares C (val_dec p x e) E = (t : MlType N) × Has C e t × (E ≡ one_value x (close t))
  Declares C (type_dec p t ty) E = (u : MlType N) × Means C ty u × (E ≡ one_type t (mono u))

  -- one after the other, each in the context of those before it; F has what these bind
  unfoldable pub DeclareAll : {P : Type 0} → Env N → Env N → List (CoreDec P) → Env N → Type 0
  DeclareAll C F [] E = E ≡ F
  DeclareAll C F (d ∷ ds) E = (G : Env N) × Declares C d G × DeclareAll (extend_env C G) (extend_env F G) ds E

  -- The attributes of the name of `type t` in a specification.
  abbrev pub abstract : ℕ → Attributes
  abstract unit = record { maker = unit; arity = 0; equality = false; constructors = [] }

  -- A name that the unit made, and that stands nowhere in B.
  unfoldable pub IsNew : ℕ → Basis N → N → Type 0
  IsNew unit B n =
      (names.attributes n ≡ abstract unit) × ((k : Initial) → ¬ (names.initial k ≡ n)) × Outside n (names_basis B)

  -- Specifications, `B ⊢ spec ⇒ (T)E` (rules 68, 69 and 77)
  unfoldable pub Specifies : {P : Type 0} → ℕ → Basis N → Spec P → Sig N → Type 0
  Specifies unit B (type_spec p t) S =
      (n : N) × IsNew unit B n × (S ≡ record { names = n ∷ []; body = one_type t (mono (named n)) })
  Specifies unit B (val_spec p x ty) S =
      (t : MlType N) × Means B.body ty t × (S ≡ record { names = []; body = one_value x (mono t) })

  -- each sees those before it
  unfoldable pub SpecifyAll : {P : Type 0} → ℕ → Basis N → List (Spec P) → List (Sig N) → Type 0
  SpecifyAll unit B [] Ss = Ss ≡ []
  SpecifyAll unit B (q ∷ qs) Ss =
      (S : Sig N) × (Rs : List (Sig N)) × Specifies unit B q S × SpecifyAll unit (extend B S) qs Rs × (Ss ≡ S ∷ Rs)

-- `(T)E + (T')E'`
abbrev pub both : {N : Type 0} → Sig N → Sig N → Sig N
both S S' = record { names = S.names ++ S'.names; body = extend_env S.body S'.body }

-- one after the other
abbrev pub sum_from : {N : Type 0} → Sig N → List (Sig N) → Sig N
sum_from S [] = S
sum_from S (S' ∷ Ss) = sum_from (both S S') Ss

abbrev pub sum_of : {N : Type 0} → List (Sig N) → Sig N
sum_of Ss = sum_from (record { names = []; body = empty_env }) Ss

-- the basis with the names of a structure's body
abbrev pub apart : {N : Type 0} → Basis N → Env N → Basis N
apart B E = record { names = names_env E ++ B.names; count = B.count; body = B.body }

-- What a specification specifies, and whether it is among those seen: no two specify the same (section 3.5).
pub data Item : Type 0 where
  a_type : Id → Item
  a_value : Id → Item

abbrev pub item_of : {P : Type 0} → Spec P → Item
item_of (type_spec p t) = a_type t
item_of (val_spec p x ty) = a_value x

unfoldable pub Specified : Item → List Item → Type 0
Specified i [] = ⊥
Specified i (j ∷ js) = (i ≡ j) ⊎ Specified i js

unfoldable pub AreDistinct : {P : Type 0} → List Item → List (Spec P) → Type 0
AreDistinct seen [] = Unit {0}
AreDistinct seen (q ∷ qs) = ¬ (Specified (item_of q) seen) × AreDistinct (item_of q ∷ seen) qs
