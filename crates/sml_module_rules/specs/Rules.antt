-- The rules of modules, `B ⊢ phrase ⇒ object` (the Definition, sections 5.2 to 5.7, rules 50 to 89). Realisations, types and new names
-- are guessed: there is no unknown, no demand and no order of solving. Rules look at no place, and of a scope at its naming alone.
use Rattle.std.specs.Prelude.{◌≡◌, ◌⊎◌, ◌↔◌, ℕ, true, false, Bool, List, [], ◌∷◌, ◌++◌, map, length, Option, Some, None}
use Rattle.std.specs.List.{AllByRecursion}
use Rattle.sml_tree.specs.Trees.{Id, LongId}
use Rattle.sml_tree.specs.Names.{LongName}
use Rattle.sml_tree.specs.Expressions.{ConBind, DatBind}
use Rattle.sml_tree.specs.Signatures.{WhereType, ValDesc, TypDesc, SigExp, Spec, Specs, StrDescs, sig_end, sig_name, where_type, val_spec, type_spec, eqtype_spec, datatype_spec, copy_spec, exception_spec, structure_spec, include_spec, sharing_types, sharing_structures, no_spec, and_spec, str_desc, no_str_desc, and_str_desc}
use Rattle.sml_tree.specs.Structures.{StrExp, StrDec, StrDecs, StrBinds, SigBind, FunBind, TopDec, struct_end, str_name, ascribed, functor_apply, str_let, core_dec, structure_dec, str_local, no_str_dec, and_str_dec, str_bind, no_str_bind, and_str_bind, top_str, signature_dec, functor_dec}
use Rattle.sml_tree.specs.declared.structures.Ascription.TheVariants.{Transparent, Opaque}
use Rattle.sml_objects.specs.Appearance.{Stands}
use Rattle.sml_objects.specs.Equality.{has_equality}
use Rattle.sml_objects.specs.Maps.{Map, lookup, put}
use Rattle.sml_objects.specs.Names.{Initial}
use Rattle.sml_objects.specs.Objects.{MlType, Scheme, bound, mono, Outside}
use Rattle.sml_rules.specs.Lookups.{found}
use Rattle.sml_rules.specs.Matching.{Realisation}
use Rattle.sml_core_rules.specs.Closing.{ty_variables}
use Rattle.sml_core_rules.specs.Contexts.{IsInstance, context_of, context_variables}
use Rattle.sml_core_rules.specs.Datatypes.{Arguments, AreNew, AdmitAsManyAsCan, is_equality, listed, type_function, name_function, constructor_scheme, constructor_values, datatype_types, datatype_envs}
use Rattle.sml_core_rules.specs.Datatypes as T
use Rattle.sml_core_rules.specs.Expressions.{exception_type}
use Rattle.sml_core_rules.specs.Lookups.{type_at, value_at, structure_at}
use Rattle.sml_core_rules.specs.Objects.{Env, Value, TyStr, Sig, FunSig, Basis, variable, exception, maps, no_structure, structures, empty, extend, of_types, of_values, put_structure, names_env}
use Rattle.sml_core_rules.specs.Rules.{Means, MeansArgument, MeanAllArguments, Declares}
use Rattle.sml_core_rules.specs.States.{Scope}
use Rattle.sml_core_rules.specs.Objects.{identifiers}
use Rattle.sml_module_rules.specs.Bound.{constructors_in, inside, function_at, common_paths, AreEqualFunctions}
use Rattle.sml_module_rules.specs.Lines.{Line, a_structure, a_type, a_value, lines}
use Rattle.sml_module_rules.specs.Matching.{serves}
use Rattle.sml_core_rules.specs.Functions.{name_of}
use Rattle.sml_module_rules.specs.Realising.{realise_env, admits_function, no_function, with_function, with_names}
use Rattle.sml_module_rules.specs.Signatures.{no_names, once, standing, applied_constructor, HasConstructors, specifies_again, described}
use Rattle.sml_module_rules.specs.Structures.{one_structure}

-- `B ⊕ E`
abbrev pub plus : {N : Type 0} → Basis N → Env N → Basis N
plus B E = record B { names = names_env E ++ B.names; body = extend B.body E }

-- with the names of an environment alone
abbrev pub with_names_of : {N : Type 0} → Env N → Basis N → Basis N
with_names_of E B = record B { names = names_env E ++ B.names }

-- with the specifications so far of a signature
abbrev pub plus_sig : {N : Type 0} → Basis N → Sig N → Basis N
plus_sig B S = record B { names = S.names ++ B.names; body = extend B.body S.body }

-- the names of the first signature but these, and of others these
abbrev pub HasNames : {N : Type 0} → List N → List N → List N → List N → Type 0
HasNames {N} new old gone added = (n : N) → Stands n new ↔ ((Stands n old × ¬ (Stands n gone)) ⊎ Stands n added)

-- pairs of type constructors at one path of two structures of a list
abbrev pub path_pairs : {N : Type 0} → Sig N → LongId → LongId → Map LongId → List (LongId × LongId)
path_pairs S x y [] = []
path_pairs S x y (q ∷ qs) = (inside x q.1, inside y q.1) ∷ path_pairs S x y qs

abbrev pub pairs_with : {P N : Type 0} → Sig N → LongId → List (LongName P) → List (LongId × LongId)
pairs_with S x [] = []
pairs_with S x (y ∷ ys) = path_pairs S x y.id (common_paths (structure_at S.body x)) ++ pairs_with S x ys

abbrev pub all_pairs : {P N : Type 0} → Sig N → List (LongName P) → List (LongId × LongId)
all_pairs S [] = []
all_pairs S (x ∷ xs) = pairs_with S x.id xs ++ all_pairs S xs

module _ {N : Type 0} (scope : Scope N) where
  abbrev pub IsAsName : N → N → Type 0
  IsAsName n m =
      ((scope.names.attributes m).arity ≡ (scope.names.attributes n).arity) × (has_equality scope.names m ≡ has_equality scope.names n)

  -- other names for these, each like the one that it stands for, and none of the old ones
  unfoldable pub AreRenewed : List N → List N → List N → Type 0
  AreRenewed old [] ms = ms ≡ []
  AreRenewed old (n ∷ ns) ms =
      (m : N) × (rest : List N) × Outside m old × ((k : Initial) → ¬ (scope.names.initial k ≡ m)) × IsAsName n m × AreRenewed (m ∷ old) ns rest × (ms ≡ m ∷ rest)

  -- A realisation of these names alone: each gets a type function of its arity, which admits equality if the name does (section 5.2).
  abbrev pub IsRealisation : List N → Realisation N → Type 0
  IsRealisation ns φ =
      (n : N) (θ : Scheme N) → φ n ≡ Some θ
      → Stands n ns × (length θ.variables ≡ (scope.names.attributes n).arity) × (has_equality scope.names n ≡ true → admits_function scope.names θ ≡ true)

  -- Which type variables are equality variables is given.
  module _ (equality : ℕ → Bool) where
    -- each instance of the second is one of the first (section 4.5)
    abbrev pub Generalises : Scheme N → Scheme N → Type 0
    Generalises σ τ =
        (t : MlType N) → IsInstance scope.names equality (record { scheme = τ; status = variable }) t
        → IsInstance scope.names equality (record { scheme = σ; status = variable }) t

    -- the environment has each of these, and nothing of it is less than that (section 5.5)
    unfoldable pub HasLines : Env N → List (Line (TyStr N) (Value N)) → Type 0
    HasLines E [] = Unit {0}
    HasLines E ((x, a_structure) ∷ ls) = ((F : Env N) × (structure_at E x ≡ found F)) × HasLines E ls
    HasLines E ((x, a_type t) ∷ ls) =
        ((u : TyStr N) × (type_at E x ≡ found u) × (length u.function.variables ≡ length t.function.variables) × (u.function.body ≡ t.function.body)
        × ((t.constructors ≡ []) ⊎ (u.constructors ≡ t.constructors))) × HasLines E ls
    HasLines E ((x, a_value v) ∷ ls) =
        ((u : Value N) × (value_at E x ≡ found u) × (serves u.status v.status ≡ true) × Generalises u.scheme v.scheme) × HasLines E ls

    abbrev pub Enriches : Env N → Env N → Type 0
    Enriches E F = HasLines E (lines [] F)

    -- a structure matches a signature by this realisation (section 5.6)
    abbrev pub MatchesBy : Env N → Sig N → Realisation N → Type 0
    MatchesBy E S φ = IsRealisation S.names φ × Enriches E (realise_env φ S.body)

    -- Specifications of values (rules 68 and 79), types (69, 70 and 80) and exceptions (73 and 83)

    unfoldable pub DescribeValues : {P : Type 0} → Env N → Map (Value N) → List (ValDesc P) → Map (Value N) → Type 0
    DescribeValues C m [] vs = vs ≡ m
    DescribeValues C m (d ∷ ds) vs =
        let xs : List Id = once [] (ty_variables d.ty) in
        (t : MlType N) × Means C (standing 0 xs) d.ty t
        × DescribeValues C (put d.name.id (record { scheme = constructor_scheme (map is_equality xs) t; status = variable }) m) ds vs

    unfoldable pub AreDescribed : {P : Type 0} → List N → Bool → List (TypDesc P) → List N → Type 0
    AreDescribed old e [] ns = ns ≡ []
    AreDescribed old e (d ∷ ds) ns =
        (n : N) × (rest : List N) × Outside n old × ((k : Initial) → ¬ (scope.names.initial k ≡ n)) × ((scope.names.attributes n).arity ≡ length d.variables)
        × (has_equality scope.names n ≡ e) × AreDescribed (n ∷ old) e ds rest × (ns ≡ n ∷ rest)

    abbrev pub DescribeTypes : {P : Type 0} → Basis N → Bool → List (TypDesc P) → Sig N → Type 0
    DescribeTypes B e ds R = (ns : List N) × AreDescribed B.names e ds ns × (R ≡ record { names = ns; body = of_types (described scope [] ds ns) })

    unfoldable pub DescribeExceptions : {P : Type 0} → Env N → Map (Value N) → List (ConBind P) → Map (Value N) → Type 0
    DescribeExceptions C m [] vs = vs ≡ m
    DescribeExceptions C m (c ∷ cs) vs =
        (a : Option (MlType N)) × MeansArgument C [] c.argument a
        × DescribeExceptions C (put c.name.id (record { scheme = mono (exception_type scope.names a); status = exception }) m) cs vs

    -- datatypes (rules 71, 81 and 82)
    abbrev pub DescribeDatatypes : {P : Type 0} → Basis N → List (DatBind P) → Sig N → Type 0
    DescribeDatatypes B ds R =
        (ns : List N) × (gs : List (Arguments N)) × AreNew scope.names B.names ds ns
        × MeanAllArguments (extend B.body (of_types (datatype_types [] ds ns))) ds gs × AdmitAsManyAsCan scope.names (T.with_names ns gs)
        × (R ≡ record { names = ns; body = datatype_envs ds (T.with_names ns gs) })

    -- Sharing (rule 78). These names become one, of their arity, that admits equality if one of them does; those of them that have
    -- constructors have some of the same identifiers.

    abbrev pub name_constructors : Sig N → N → List Id
    name_constructors S n = identifiers (constructors_in scope.names n (lines [] S.body))

    abbrev pub for_all : List N → N → Realisation N
    for_all [] m = no_function scope.names
    for_all (n ∷ ns) m = with_function scope.names n (name_function m (scope.names.attributes n).arity) (for_all ns m)

    pub record Joins (B : Basis N) (S : Sig N) (ns : List N) (R : Sig N) : Type 0 where
      pub name : N
      pub is_new : Outside name (S.names ++ B.names)
      pub arity : AllByRecursion (λ n. (scope.names.attributes n).arity ≡ (scope.names.attributes name).arity) ns
      pub admits : (has_equality scope.names name ≡ true) ↔ ((n : N) × Stands n ns × (has_equality scope.names n ≡ true))
      pub constructors : (n m : N) → Stands n ns → Stands m ns → (name_constructors S n ≡ []) ⊎ (name_constructors S m ≡ []) ⊎ (name_constructors S n ≡ name_constructors S m)
      pub names : HasNames R.names S.names ns (name ∷ [])
      pub body : R.body ≡ realise_env (for_all ns name) S.body

    -- a type constructor is a name that the signature binds
    abbrev pub IsBoundAt : Sig N → LongId → N → Type 0
    IsBoundAt S x n = (t : TyStr N) × (type_at S.body x ≡ found t) × (name_of t.function ≡ Some n) × Stands n S.names

    abbrev pub AreBoundAt : {P : Type 0} → Sig N → List (LongName P) → List N → Type 0
    AreBoundAt S [] ns = ns ≡ []
    AreBoundAt S (x ∷ xs) ns = (n : N) × (rest : List N) × IsBoundAt S x.id n × AreBoundAt S xs rest × (ns ≡ n ∷ rest)

    -- pairs of type constructors that are shared one after the other: those that are equal already are passed over
    unfoldable pub SharesPairs : Basis N → Sig N → List (LongId × LongId) → Sig N → Type 0
    SharesPairs B S [] R = R ≡ S
    SharesPairs B S (x ∷ xs) R =
        (Q : Sig N)
        × ((((function_at S x.1 ≡ None) ⊎ AreEqualFunctions (function_at S x.0) (function_at S x.1)) × (Q ≡ S))
        ⊎ (¬ (AreEqualFunctions (function_at S x.0) (function_at S x.1)) × (n : N) × (m : N) × IsBoundAt S x.0 n × IsBoundAt S x.1 m × Joins B S (n ∷ m ∷ []) Q))
        × SharesPairs B Q xs R

    -- `where type` (rule 64): the name becomes the type function, which admits equality if it does. A name with constructors keeps those
    -- of the same identifiers.
    pub record IsWhere {P : Type 0} (B : Basis N) (S : Sig N) (w : WhereType P) (R : Sig N) : Type 0 where
      pub name : N
      pub type : MlType N
      pub is_bound : IsBoundAt S w.constructor.id name
      pub means : Means B.body (listed bound 0 w.variables) w.ty type
      pub arity : (scope.names.attributes name).arity ≡ length w.variables
      pub admits : has_equality scope.names name ≡ true → admits_function scope.names (type_function w.variables type) ≡ true
      pub constructors : (name_constructors S name ≡ []) ⊎ HasConstructors B.body (name_constructors S name) (applied_constructor w.variables w.ty)
      pub names : HasNames R.names S.names (name ∷ []) []
      pub body : R.body ≡ realise_env (with_function scope.names name (type_function w.variables type) (no_function scope.names)) S.body

    -- the second after the first, which specifies nothing of it
    abbrev pub Adds : Sig N → Sig N → Sig N → Type 0
    Adds S R Q = (specifies_again S.body R.body ≡ false) × (Q ≡ record { names = S.names ++ R.names; body = extend S.body R.body })

    unfoldable mutual
      -- Signature expressions (rules 62 to 65), with the names that they bind
      pub Signs : {P : Type 0} → Basis N → SigExp P → Sig N → Type 0
      Signs B (sig_end p qs) S = SpecifyAll B (no_names empty) qs S
      Signs B (sig_name p x) S =
          (R : Sig N) × (ns : List N) × (lookup x B.signatures ≡ Some R) × AreRenewed B.names R.names ns
          × (S ≡ record { names = ns; body = realise_env (with_names scope.names R.names ns (no_function scope.names)) R.body })
      Signs B (where_type p e w) S = (R : Sig N) × Signs B e R × IsWhere B R w S

      -- Specifications one after the other, after those so far (rules 75 to 78). No identifier is specified twice.
      pub SpecifyAll : {P : Type 0} → Basis N → Sig N → Specs P → Sig N → Type 0
      SpecifyAll B S no_spec R = R ≡ S
      SpecifyAll B S (and_spec q qs) R = (Q : Sig N) × Follows B S q Q × SpecifyAll B Q qs R

      pub Follows : {P : Type 0} → Basis N → Sig N → Spec P → Sig N → Type 0
      Follows B S (val_spec p ds) Q = (m : Map (Value N)) × DescribeValues (extend B.body S.body) [] ds m × Adds S (no_names (of_values m)) Q
      Follows B S (type_spec p ds) Q = (R : Sig N) × DescribeTypes (plus_sig B S) false ds R × Adds S R Q
      Follows B S (eqtype_spec p ds) Q = (R : Sig N) × DescribeTypes (plus_sig B S) true ds R × Adds S R Q
      Follows B S (datatype_spec p ds) Q = (R : Sig N) × DescribeDatatypes (plus_sig B S) ds R × Adds S R Q
      Follows B S (copy_spec p x c) Q =
          (t : TyStr N) × (type_at (extend B.body S.body) c.id ≡ found t)
          × Adds S (no_names (maps no_structure ((x.id, t) ∷ []) (constructor_values t.constructors))) Q
      Follows B S (exception_spec p cs) Q =
          (m : Map (Value N)) × DescribeExceptions (extend B.body S.body) [] cs m × Adds S (no_names (of_values m)) Q
      Follows B S (structure_spec p ds) Q = (R : Sig N) × DescribeStructures (plus_sig B S) (no_names empty) ds R × Adds S R Q
      Follows B S (include_spec p e) Q = (R : Sig N) × Signs (plus_sig B S) e R × Adds S R Q
      Follows B S (sharing_types p xs) Q = (ns : List N) × AreBoundAt S xs ns × Joins B S ns Q
      Follows B S (sharing_structures p xs) Q =
          AllByRecursion (λ x. (E : Env N) × (structure_at S.body x.id ≡ found E)) xs × SharesPairs B S (all_pairs S xs) Q

      -- structures, which see none of each other (rules 74 and 84)
      pub DescribeStructures : {P : Type 0} → Basis N → Sig N → StrDescs P → Sig N → Type 0
      DescribeStructures B S no_str_desc R = R ≡ S
      DescribeStructures B S (and_str_desc (str_desc x e) ds) R =
          (Q : Sig N) × Signs (record B { names = S.names ++ B.names }) e Q
          × DescribeStructures B (record { names = S.names ++ Q.names; body = maps (put_structure x.id Q.body (structures S.body)) [] [] }) ds R

    unfoldable mutual
      -- Structure expressions (rules 50 to 55)
      pub Builds : {P : Type 0} → Basis N → StrExp P → Env N → Type 0
      Builds B (struct_end p ds) E = DeclareAll B empty ds E
      Builds B (str_name x) E = structure_at B.body x.id ≡ found E
      Builds B (ascribed p e Transparent s) E =
          (F : Env N) × (S : Sig N) × (φ : Realisation N) × Builds B e F × Signs (with_names_of F B) s S × MatchesBy F S φ × (E ≡ realise_env φ S.body)
      Builds B (ascribed p e Opaque s) E =
          (F : Env N) × (S : Sig N) × (φ : Realisation N) × (ns : List N) × Builds B e F × Signs (with_names_of F B) s S × MatchesBy F S φ
          × AreRenewed B.names S.names ns × (E ≡ realise_env (with_names scope.names S.names ns (no_function scope.names)) S.body)
      Builds B (functor_apply x e) E =
          (F : Env N) × (f : FunSig N) × (φ : Realisation N) × (ns : List N) × (lookup x.id B.functors ≡ Some f) × Builds B e F × MatchesBy F f.argument φ
          × AreRenewed (names_env F ++ B.names) f.result.names ns × (E ≡ realise_env (with_names scope.names f.result.names ns φ) f.result.body)
      Builds B (str_let p ds e) E = (F : Env N) × DeclareAll B empty ds F × Builds (plus B F) e E

      -- declarations one after the other (rules 56, 57, 59 and 60); F has what those before them bind
      pub DeclareAll : {P : Type 0} → Basis N → Env N → StrDecs P → Env N → Type 0
      DeclareAll B F no_str_dec E = E ≡ F
      DeclareAll B F (and_str_dec d ds) E = (G : Env N) × DeclaresStr B d G × DeclareAll (plus B G) (extend F G) ds E

      pub DeclaresStr : {P : Type 0} → Basis N → StrDec P → Env N → Type 0
      DeclaresStr B (core_dec d) E = Declares scope.names equality (context_of B) d E
      DeclaresStr B (structure_dec p bs) E = BindStructures B empty bs E
      DeclaresStr B (str_local p ds es) E = (F : Env N) × DeclareAll B empty ds F × DeclareAll (plus B F) empty es E

      -- structures, which see none of each other (rule 61)
      pub BindStructures : {P : Type 0} → Basis N → Env N → StrBinds P → Env N → Type 0
      BindStructures B F no_str_bind E = E ≡ F
      BindStructures B F (and_str_bind (str_bind x e) bs) E =
          (G : Env N) × Builds B e G × BindStructures (with_names_of G B) (extend F (one_structure x.id G)) bs E

    -- Signatures (rules 66 and 67) and functors (85 and 86), which see none of each other

    unfoldable pub BindSignatures : {P : Type 0} → Basis N → Map (Sig N) → List (SigBind P) → Map (Sig N) → Type 0
    BindSignatures B m [] gs = gs ≡ m
    BindSignatures B m (b ∷ bs) gs = (S : Sig N) × Signs B b.signature S × BindSignatures B (put b.name.id S m) bs gs

    -- the names of the result are those of the body that are neither the argument's nor the basis' own
    pub record IsFunctor {P : Type 0} (B : Basis N) (b : FunBind P) (f : FunSig N) : Type 0 where
      pub argument : Signs B b.signature f.argument
      pub result : Builds (plus (plus_sig B (record f.argument { body = empty })) (one_structure b.argument.id f.argument.body)) b.body f.result.body
      pub names : (n : N) → Stands n f.result.names ↔ (Stands n (names_env f.result.body) × ¬ (Stands n f.argument.names) × ¬ (Stands n B.names))

    unfoldable pub BindFunctors : {P : Type 0} → Basis N → Map (FunSig N) → List (FunBind P) → Map (FunSig N) → Type 0
    BindFunctors B m [] fs = fs ≡ m
    BindFunctors B m (b ∷ bs) fs = (f : FunSig N) × IsFunctor B b f × BindFunctors B (put b.name.id f m) bs fs

    -- Top-level declarations (rules 87 to 89): what they bind. No type variable is free in it.
    abbrev pub HasNoVariables : Env N → Type 0
    HasNoVariables E = context_variables (context_of (record { names = []; functors = []; signatures = []; body = E })) ≡ []

    abbrev pub DeclaresTop : {P : Type 0} → Basis N → TopDec P → Basis N → Type 0
    DeclaresTop B (top_str d) A =
        (A.functors ≡ []) × (A.signatures ≡ []) × DeclaresStr B d A.body × HasNoVariables A.body
    DeclaresTop B (signature_dec p bs) A = (A.functors ≡ []) × BindSignatures B [] bs A.signatures × (A.body ≡ empty)
    DeclaresTop B (functor_dec p bs) A =
        BindFunctors B [] bs A.functors × HoldsOfBodies A.functors × (A.signatures ≡ []) × (A.body ≡ empty)
      where
        HoldsOfBodies : Map (FunSig N) → Type 0
        HoldsOfBodies [] = Unit {0}
        HoldsOfBodies (e ∷ fs) = HasNoVariables e.1.result.body × HoldsOfBodies fs
