-- What a declaration is answered: the first thing asked that isn't met, or what the rules give. Nothing in the first
-- piece asks anything of an unknown type, so each unknown is left as it is, and is a free variable of the type.
use Rattle.std.specs.Prelude.{◌≡◌, ◌≤◌, ◌+◌, ℕ, suc, Bool, true, false, List, [], ◌∷◌, Some, IsSome, length}
use Rattle.sml_lex.specs.declared.fault.Code.TheVariants.{E1, E2, E4, E7, N2, M1, M2, M4, M6, Q3}
use Rattle.sml_tree.specs.Trees.{Exp, Exps, Ty, Tys, Spec, CoreDec, Dec, number, name, tuple, bracket, function, no_exp, and_exp, constructor, product, arrow_to, bracket_ty, no_ty, and_ty, type_spec, val_spec, val_dec, type_dec, core, sealed, other}
use Rattle.sml_objects.specs.Names.{Naming, int}
use Rattle.sml_objects.specs.Maps.{Map, lookup}
use Rattle.sml_objects.specs.Objects.{MlType, MlTypes, Scheme, Env, Sig, Basis, free, no_type, and_type, types, values, empty_env, one_structure, one_type, one_value, extend_env, extend, mono, named, arrow_of, tuple_of}
use Rattle.sml_objects.specs.Types.{instance_from, close}
use Rattle.sml_objects.specs.Sizes.{type_size}
use Rattle.sml_rules.specs.Lookups.{value_at, type_at}
use Rattle.sml_rules.specs.Rules.{IsInstance, IsNew, apart, sum_of, Item, item_of, Specified}
use Rattle.sml_rules.specs.Matching.{Realisation, realise_type, realise_scheme, realised_by}
use Rattle.sml_rules.specs.Answers.{Reading, refused, give, ◌>>=◌, test, any, fault, fault_at, need}

-- whether a declaration is of the first piece; nothing is an answer to another one
abbrev pub is_specified : {P : Type 0} → Dec P → Bool
is_specified (core d) = true
is_specified (sealed s p q ds) = true
is_specified (other p) = false

-- The scheme or the body of the type function has at most 10,000 nodes.
abbrev pub IsSmall : {N : Type 0} → MlType N → Type 0
IsSmall t = type_size t ≤ 10000

module _ {P N : Type 0} where
  -- type expressions
  unfoldable mutual
    pub read_ty : Env N → Ty P → Reading P (MlType N)
    read_ty C (constructor p c) = do
      θ ← need E2 p c (type_at C c)
      u ← test (θ.variables ≡ []) (fault E4 p)
      give θ.body
    read_ty C (product us) = do
      ts ← read_tys C us
      give (tuple_of ts)
    read_ty C (arrow_to u v) = do
      a ← read_ty C u
      b ← read_ty C v
      give (arrow_of a b)
    read_ty C (bracket_ty u) = read_ty C u

    pub read_tys : Env N → Tys P → Reading P (MlTypes N)
    read_tys C no_ty = give no_type
    read_tys C (and_ty u us) = do
      t ← read_ty C u
      ts ← read_tys C us
      give (and_type t ts)

abbrev pub place_of : {P : Type 0} → Spec P → P
place_of (type_spec p t) = p
place_of (val_spec p x ty) = p

-- a type, and how many unknowns have been made
pub record Typed (X : Type 0) : Type 0 where
  pub made : ℕ
  pub type : X

abbrev pub typed : {X : Type 0} → ℕ → X → Typed X
typed k t = record { made = k; type = t }

module _ {P N : Type 0} (names : Naming N) where
  -- expressions, where k unknowns have been made
  unfoldable mutual
    pub read_exp : ℕ → Env N → Exp P → Reading P (Typed (MlType N))
    read_exp k C number = give (typed k (named (names.initial int)))
    read_exp k C (name p x) = do
      σ ← need E1 p x (value_at C x)
      give (typed (k + length σ.variables) (instance_from k σ.body))
    read_exp k C (tuple es) = do
      r ← read_exps k C es
      give (typed r.made (tuple_of r.type))
    read_exp k C (bracket e) = read_exp k C e
    read_exp k C (function x e) = do
      r ← read_exp (suc k) (extend_env C (one_value x (mono (free k)))) e
      give (typed r.made (arrow_of (free k) r.type))

    pub read_exps : ℕ → Env N → Exps P → Reading P (Typed (MlTypes N))
    read_exps k C no_exp = give (typed k no_type)
    read_exps k C (and_exp e es) = do
      r ← read_exp k C e
      s ← read_exps r.made C es
      give (typed s.made (and_type r.type s.type))

  -- declarations of the core
  unfoldable pub read_core : Env N → CoreDec P → Reading P (Env N)
  read_core C (val_dec p x e) = do
    r ← read_exp 0 C e
    u ← test (IsSmall r.type) (fault E7 p)
    give (one_value x (close r.type))
  read_core C (type_dec p t ty) = do
    u ← read_ty C ty
    v ← test (IsSmall u) (fault E7 p)
    give (one_type t (mono u))

  -- one after the other; F has what those before them bind
  unfoldable pub read_cores : Env N → Env N → List (CoreDec P) → Reading P (Env N)
  read_cores C F [] = give F
  read_cores C F (d ∷ ds) = do
    E ← read_core C d
    read_cores (extend_env C E) (extend_env F E) ds

  -- specifications
  unfoldable pub read_spec : ℕ → Basis N → Spec P → Reading P (Sig N)
  read_spec unit B (type_spec p t) = do
    n ← any (IsNew names unit B)
    give (record { names = n ∷ []; body = one_type t (mono (named n)) })
  read_spec unit B (val_spec p x ty) = do
    t ← read_ty B.body ty
    u ← test (IsSmall t) (fault E7 p)
    give (record { names = []; body = one_value x (mono t) })

  -- each sees those before it, and specifies what none of them does
  unfoldable pub read_specs : ℕ → Basis N → List Item → List (Spec P) → Reading P (List (Sig N))
  read_specs unit B seen [] = give []
  read_specs unit B seen (q ∷ qs) = do
    S ← read_spec unit B q
    u ← test (¬ (Specified (item_of q) seen)) (fault N2 (place_of q))
    Ss ← read_specs unit (extend B S) (item_of q ∷ seen) qs
    give (S ∷ Ss)

  -- Realisation: each bound name, in the order of the signature's types, is sent to the type function at its path.
  unfoldable pub read_names : P → Env N → Map (Scheme N) → Reading P (Unit {0})
  read_names p E [] = give tt
  read_names p E (x ∷ xs) = do
    u ← test (IsSome (lookup x.0 (types E))) (fault_at M1 p (x.0 ∷ []))
    v ← test ((θ : Scheme N) → lookup x.0 (types E) ≡ Some θ → length θ.variables ≡ length x.1.variables) (fault_at M2 p (x.0 ∷ []))
    read_names p E xs

  -- enrichment: types, and then values
  unfoldable pub read_types : P → Env N → Realisation N → Map (Scheme N) → Reading P (Unit {0})
  read_types p E φ [] = give tt
  read_types p E φ (x ∷ xs) = do
    u ← test (lookup x.0 (types E) ≡ Some (realise_scheme φ x.1)) (fault_at M4 p (x.0 ∷ []))
    read_types p E φ xs

  unfoldable pub read_values : P → Env N → Realisation N → Map (Scheme N) → Reading P (Unit {0})
  read_values p E φ [] = give tt
  read_values p E φ (x ∷ xs) = do
    u ← test (IsSome (lookup x.0 (values E))) (fault_at M1 p (x.0 ∷ []))
    v ← test ((σ : Scheme N) → lookup x.0 (values E) ≡ Some σ → IsInstance σ (realise_type φ x.1.body)) (fault_at M6 p (x.0 ∷ []))
    read_values p E φ xs

  -- whether the environment matches the signature, whose place is p
  unfoldable pub read_match : P → Sig N → Env N → Reading P (Unit {0})
  read_match p S E = do
    u ← read_names p E (types S.body)
    v ← read_types p E (realised_by names E (types S.body)) (types S.body)
    read_values p E (realised_by names E (types S.body)) (values S.body)

  -- a top-level declaration: the names that it made, and its environment
  unfoldable pub read_dec : ℕ → Basis N → Dec P → Reading P (Sig N)
  read_dec unit B (core d) = do
    E ← read_core B.body d
    give (record { names = []; body = E })
  read_dec unit B (sealed s p specs decs) = do
    E ← read_cores B.body empty_env decs
    Ss ← read_specs unit (apart B E) [] specs
    u ← read_match p (sum_of Ss) E
    give (record { names = (sum_of Ss).names; body = one_structure s (sum_of Ss).body })
  read_dec unit B (other p) = λ o. ⊥

  -- A unit has at most 1,048,576 names of types. The place of the declaration is given.
  unfoldable pub read_top : P → ℕ → Basis N → Dec P → Reading P (Sig N)
  read_top p unit B d = do
    S ← read_dec unit B d
    u ← test (B.count + length S.names ≤ 1048576) (fault Q3 p)
    give S
