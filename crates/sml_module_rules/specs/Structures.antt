-- Structure expressions, structure-level declarations and top-level declarations (the Definition, section 5.7, rules 50 to 61, 66, 67
-- and 85 to 89).
use Rattle.std.specs.Prelude.{◌≡◌, ◌⊎◌, ◌≤◌, ◌+◌, ℕ, cond, List, [], ◌∷◌, ◌++◌, map, Option, Some, None, nat_eq}
use Rattle.std.specs.List.{AllByRecursion}
use Rattle.sml_lex.specs.declared.fault.Code.TheVariants.{E3, E7, Q1, Q2, Q3}
use Rattle.sml_tree.specs.Trees.{Id}
use Rattle.sml_tree.specs.Names.{Name}
use Rattle.sml_tree.specs.Signatures.{SigExp, sig_end, sig_name, where_type}
use Rattle.sml_tree.specs.Structures.{StrExp, StrDec, StrDecs, StrBinds, SigBind, FunBind, TopDec, struct_end, str_name, ascribed, functor_apply, str_let, core_dec, structure_dec, str_local, no_str_dec, and_str_dec, str_bind, no_str_bind, and_str_bind, top_str, signature_dec, functor_dec}
use Rattle.sml_objects.specs.Appearance.{stands}
use Rattle.sml_objects.specs.Maps.{Map, lookup, put, join}
use Rattle.sml_objects.specs.Objects.{MlType}
use Rattle.sml_layers.specs.declared.layer.Layer.TheVariants.{Rigidity}
use Rattle.sml_layers.specs.Worlds.{Assignment, finite}
use Rattle.sml_lex.specs.Faults.{Fault}
use Rattle.sml_rules.specs.Answers.{Answer, refused, accepted, fault, fault_at}
use Rattle.sml_core_rules.specs.Objects.{Env, Sig, FunSig, Basis, maps, no_structure, and_structure, empty, extend, replace, replaced, names_env, names_basis}
use Rattle.sml_core_rules.specs.Assigned.{assign_value}
use Rattle.sml_core_rules.specs.Solutions.{Meets}
use Rattle.sml_core_rules.specs.Lookups.{structure_at}
use Rattle.sml_core_rules.specs.Expressions.{read_dec, at_first}
use Rattle.sml_core_rules.specs.States.{Scope, State, Judged}
use Rattle.sml_core_rules.specs.Scripts.{Script, give, refuse, ◌>>=◌, need, start_anew, IsAnswer}
use Rattle.sml_module_rules.specs.Lines.{IsSmallEnv}
use Rattle.sml_module_rules.specs.Matching.{ascribe, apply_functor}
use Rattle.sml_module_rules.specs.Signatures.{read_sig}

abbrev pub signature_place : {P : Type 0} → SigExp P → P
signature_place (sig_end p qs) = p
signature_place (sig_name p x) = p
signature_place (where_type p e w) = p

abbrev pub one_structure : {N : Type 0} → Id → Env N → Env N
one_structure x E = maps (and_structure x E no_structure) [] []

-- bases of one kind of things, without names

abbrev pub nothing : {N : Type 0} → Basis N
nothing = record { names = []; functors = []; signatures = []; body = empty }

abbrev pub of_body : {N : Type 0} → Env N → Basis N
of_body E = record nothing { body = E }

abbrev pub of_functor : {N : Type 0} → Id → FunSig N → Basis N
of_functor x F = record nothing { functors = (x, F) ∷ [] }

-- what a declaration adds, and what is to be judged in it
pub record Added (P N : Type 0) : Type 0 where
  pub basis : Basis N
  pub judged : List (Judged P)

-- without what is to be judged
abbrev pub unjudged : {P N : Type 0} → Added P N → Added P N
unjudged A = record A { judged = [] }

-- a basis with what a declaration adds, which hides what it binds again
abbrev pub add_basis : {N : Type 0} → Basis N → Basis N → Basis N
add_basis B A = record {
  names = A.names ++ B.names;
  functors = join B.functors A.functors;
  signatures = join B.signatures A.signatures;
  body = extend B.body A.body;
}

-- no scheme and no type function of what is exported is over the limit
abbrev pub IsSmallBasis : {N : Type 0} → Basis N → Type 0
IsSmallBasis A = AllByRecursion (λ e. IsSmallEnv e.1.result.body) A.functors × IsSmallEnv A.body

-- Parts of a declaration: what each adds, or None where a type of it was left open

abbrev pub names_part : {P N : Type 0} → Option (Added P N) → List N
names_part None = []
names_part (Some A) = names_basis A.basis

abbrev pub and_part : {P N : Type 0} → Option (Added P N) → Answer P (List (Option (Added P N))) → Answer P (List (Option (Added P N)))
and_part m (refused f) = refused f
and_part m (accepted ms) = accepted (m ∷ ms)

abbrev pub and_bound : {P N : Type 0} → Option (Added P N) → Option (Added P N) → Option (Added P N)
and_bound None m = None
and_bound (Some A) None = None
and_bound (Some A) (Some C) = Some (record { basis = add_basis A.basis C.basis; judged = A.judged ++ C.judged })

-- what all of them bind
abbrev pub all_bound : {P N : Type 0} → List (Option (Added P N)) → Option (Added P N)
all_bound [] = Some (record { basis = nothing; judged = [] })
all_bound (m ∷ ms) = and_bound m (all_bound ms)

module _ {N : Type 0} (scope : Scope N) where
  -- those of the names that are none of the others
  abbrev pub besides : List N → List N → List N
  besides old [] = []
  besides old (n ∷ ns) = cond (stands scope.names n old) (besides old ns) (n ∷ besides (n ∷ old) ns)

  -- a functor with this argument and body: the names of its result are those of the body that are neither the argument's nor
  -- names of the basis (rule 86), in the order in which they first appear in it
  abbrev pub fun_sig : List N → FunSig N → FunSig N
  fun_sig old F = record { argument = F.argument; result = record { names = besides (F.argument.names ++ old) (names_env F.result.body); body = F.result.body } }

  -- functors as they are exported, over the names of a basis
  abbrev pub exported_functors : List N → Basis N → Basis N
  exported_functors old A = record A { functors = replaced (fun_sig old) A.functors }

  -- what a declaration that binds this adds to a basis with such names; its own names stand in the order in which they first appear
  -- in it
  abbrev pub own_basis : List N → Basis N → Basis N
  own_basis old A = record (exported_functors old A) { names = besides old (names_basis (record (exported_functors old A) { names = [] })) }

  abbrev pub own_added : {P : Type 0} → List N → Added P N → Added P N
  own_added old A = record A { basis = own_basis old A.basis }

  -- how many of the names the unit has made
  abbrev pub count_made : List N → ℕ
  count_made [] = 0
  count_made (n ∷ ns) = cond (nat_eq (scope.names.attributes n).maker scope.unit) 1 0 + count_made ns

  -- the names of a declaration, with those that its unit had before, are at most 1,048,576
  abbrev pub AreFew : List N → Basis N → Type 0
  AreFew old A = count_made (besides [] old ++ A.names) ≤ 1048576

-- an environment with types for the unknowns of its values
abbrev pub with_types : {N : Type 0} → (ℕ → MlType N) → Env N → Env N
with_types σ E = replace (λ t. t) (assign_value σ) E

abbrev pub basis_with_types : {N : Type 0} → (ℕ → MlType N) → Basis N → Basis N
basis_with_types σ A = record A {
  functors = replaced (λ F. record { argument = F.argument; result = record { names = F.result.names; body = with_types σ F.result.body } }) A.functors;
  body = with_types σ A.body;
}

module _ {P N : Type 0} (scope : Scope N) where
  -- the types are determined, and so it is this basis
  abbrev pub IsDetermined : State P N → Basis N → Basis N → Type 0
  IsDetermined s A C = (σ : Assignment N finite) → Meets scope s Rigidity σ → basis_with_types σ A ≡ C

  -- an answer to a part without its state, where all types are determined, or None in its place
  abbrev pub IsMarked : Answer P (Basis N × State P N) → Answer P (Option (Added P N)) → Type 0
  IsMarked (refused f) o = o ≡ refused f
  IsMarked (accepted r) o =
      ((C : Basis N) × IsDetermined r.1 r.0 C × (o ≡ accepted (Some (record { basis = C; judged = r.1.judged })))) ⊎ (((C : Basis N) → ¬ (IsDetermined r.1 r.0 C)) × (o ≡ accepted None))

  -- What a part may be answered that is read alone: no name is made again that is one of these, and nothing was asked or made before
  -- it.
  abbrev pub IsAlone : List N → Script P N (Basis N) → Answer P (Option (Added P N)) → Type 0
  IsAlone ns k o = (r : Answer P (Basis N × State P N)) × IsAnswer scope k (at_first ns) r × IsMarked r o

  -- Parts, each read alone, up to the first that is refused. Those after one make none of the names that stand in it.
  unfoldable pub AreAlone : List N → List (Script P N (Basis N)) → Answer P (List (Option (Added P N))) → Type 0
  AreAlone ns [] o = o ≡ accepted []
  AreAlone ns (k ∷ ks) o =
      ((f : Fault P) × IsAlone ns k (refused f) × (o ≡ refused f))
      ⊎ ((m : Option (Added P N)) × IsAlone ns k (accepted m) × (ms : Answer P (List (Option (Added P N)))) × AreAlone (names_part m ++ ns) ks ms × (o ≡ and_part m ms))

module _ {P N : Type 0} (scope : Scope N) where
  abbrev pub functor_named : Name P → Option (FunSig N) → Script P N (FunSig N)
  functor_named x None = refuse (fault_at Q1 x.place (x.id ∷ []))
  functor_named x (Some F) = give F

  -- B has the functors and the signatures, C the environment
  module _ (B : Basis N) where
    unfoldable mutual
      pub read_str : Env N → StrExp P → Script P N (Env N)
      read_str C (struct_end p ds) = read_strs C empty ds
      read_str C (str_name x) = need E3 x.place x.id (structure_at C x.id)
      read_str C (ascribed p e a s) = do
        E ← read_str C e
        S ← read_sig scope B.signatures C s
        ascribe scope (signature_place s) E a S
      read_str C (functor_apply x e) = do
        F ← functor_named x (lookup x.id B.functors)
        E ← read_str C e
        apply_functor scope x.place F E
      read_str C (str_let p ds e) = do
        E ← read_strs C empty ds
        read_str (extend C E) e

      -- declarations one after the other; F has what those before them bind
      pub read_strs : Env N → Env N → StrDecs P → Script P N (Env N)
      read_strs C F no_str_dec = give F
      read_strs C F (and_str_dec d ds) = do
        E ← read_strdec C d
        read_strs (extend C E) (extend F E) ds

      pub read_strdec : Env N → StrDec P → Script P N (Env N)
      read_strdec C (core_dec d) = do
        a ← start_anew
        read_dec scope C [] d
      read_strdec C (structure_dec p bs) = read_str_binds C empty bs
      read_strdec C (str_local p ds es) = do
        E ← read_strs C empty ds
        read_strs (extend C E) empty es

      -- structures, which see none of each other
      pub read_str_binds : Env N → Env N → StrBinds P → Script P N (Env N)
      read_str_binds C F no_str_bind = give F
      read_str_binds C F (and_str_bind (str_bind x e) bs) = do
        E ← read_str C e
        read_str_binds C (extend F (one_structure x.id E)) bs

    -- signatures, which see none of each other
    unfoldable pub read_signatures : Map (Sig N) → List (SigBind P) → Script P N (Map (Sig N))
    read_signatures m [] = give m
    read_signatures m (b ∷ bs) = do
      S ← read_sig scope B.signatures B.body b.signature
      read_signatures (put b.name.id S m) bs

    -- The parts of a top-level declaration: structures joined by `and`, or functors, each by itself, or all of another one. Each gives
    -- what it binds.

    abbrev pub read_structure : Name P → StrExp P → Script P N (Basis N)
    read_structure x e = do
      E ← read_str B.body e
      give (of_body (one_structure x.id E))

    abbrev pub structure_parts : StrBinds P → List (Script P N (Basis N))
    structure_parts no_str_bind = []
    structure_parts (and_str_bind (str_bind x e) bs) = read_structure x e ∷ structure_parts bs

    -- the body sees the argument
    abbrev pub read_functor : FunBind P → Script P N (Basis N)
    read_functor b = do
      S ← read_sig scope B.signatures B.body b.signature
      E ← read_str (extend B.body (one_structure b.argument.id S.body)) b.body
      give (of_functor b.name.id (record { argument = S; result = record { names = []; body = E } }))

    -- a declaration of one part
    abbrev pub read_inside : StrDec P → Script P N (Basis N)
    read_inside d = do
      E ← read_strdec B.body d
      give (of_body E)

    abbrev pub str_parts : StrDec P → List (Script P N (Basis N))
    str_parts (core_dec d) = read_inside (core_dec d) ∷ []
    str_parts (structure_dec p bs) = structure_parts bs
    str_parts (str_local p ds es) = read_inside (str_local p ds es) ∷ []

    abbrev pub parts : TopDec P → List (Script P N (Basis N))
    parts (top_str d) = str_parts d
    parts (signature_dec p bs) = (do
      gs ← read_signatures [] bs
      give (record nothing { signatures = gs })) ∷ []
    parts (functor_dec p bs) = map read_functor bs

    -- What a declaration may be answered whose parts bind this, at its place: Q2 where a type was left open, E7 where one is too large,
    -- Q3 where it has too many names, or what it adds.
    abbrev pub IsExported : P → Option (Added P N) → Answer P (Added P N) → Type 0
    IsExported p None o = o ≡ refused (fault Q2 p)
    IsExported p (Some A) o =
        (¬ (IsSmallBasis A.basis) × (o ≡ refused (fault E7 p)))
        ⊎ (IsSmallBasis A.basis × ¬ (AreFew scope B.names (own_basis scope B.names A.basis)) × (o ≡ refused (fault Q3 p)))
        ⊎ (IsSmallBasis A.basis × AreFew scope B.names (own_basis scope B.names A.basis) × (o ≡ accepted (own_added scope B.names A)))

    -- the same, or the fault of a part
    abbrev pub IsAnswered : P → Answer P (List (Option (Added P N))) → Answer P (Added P N) → Type 0
    IsAnswered p (refused f) o = o ≡ refused f
    IsAnswered p (accepted ms) o = IsExported p (all_bound ms) o

-- what a top-level declaration may be answered, whose place is given
abbrev pub IsTopReading : {P N : Type 0} → Scope N → P → Basis N → TopDec P → Answer P (Added P N) → Type 0
IsTopReading {P} {N} scope p B d o = (ms : Answer P (List (Option (Added P N)))) × AreAlone scope B.names (parts scope B d) ms × IsAnswered scope B p ms o
