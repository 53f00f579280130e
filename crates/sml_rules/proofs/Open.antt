-- No variable is out of its place in what is read where none is.
use Rattle.std.specs.Prelude.{◌≡◌, ◌+◌, ℕ, List, [], ◌∷◌, ◌++◌, Option, Some, None, length}
use mathlib.Core.Path.{refl, ap, sym, subst, ◌∙◌}
use Rattle.std.specs.declared.cmp.Ordering.{Ordering}
use Rattle.std.specs.declared.cmp.Ordering.TheVariants.{Less, Equal, Greater}
use Rattle.sml_tree.specs.Trees.{Id, LongId, Ty, Tys, CoreDec, Spec, Dec, constructor, product, arrow_to, bracket_ty, no_ty, and_ty, val_dec, type_dec, type_spec, val_spec, core, sealed, other}
use Rattle.sml_objects.specs.Names.{Naming}
use Rattle.sml_objects.specs.Maps.{Map, lookup, put, join, by_order, order_of}
use Rattle.sml_objects.specs.Objects.{MlType, MlTypes, Scheme, Env, Structures, Sig, Basis, bound, free, app, no_type, and_type, env, no_structure, and_structure, structures, types, values, empty_env, one_structure, extend_env, extend, put_structure, join_structures, find_structure}
use Rattle.sml_objects.specs.Types.{replace_type, replace_types, applied, argument}
use Rattle.sml_rules.specs.Lookups.{Found, found, no_path, no_entry, entry, found_in, find_at, type_at}
use Rattle.sml_rules.specs.Answers.{accepted}
use Rattle.sml_rules.specs.Rules.{IsOpen, AreOpen, Item, both, sum_from, sum_of}
use Rattle.sml_rules.specs.Open.{OpenFunctions, OpenEnv, OpenStructures, PlainFunctions, PlainValues}
use Rattle.sml_rules.specs.Readings.{read_ty, read_tys, read_core, read_cores, read_spec, read_specs, read_dec, read_top}
use Rattle.sml_rules.proofs.Sound.{bound_by, given, needed, tested}

by_cases : {X : Type 0} (Q : X → Type 0) (o : Ordering) {a b c : X} → Q a → Q b → Q c → Q (by_order o a b c)
by_cases Q Less h k l = h
by_cases Q Equal h k l = k
by_cases Q Greater h k l = l

pub nothing : (N : Type 0) → OpenEnv (empty_env {N = N})
unfolding OpenEnv OpenStructures OpenFunctions
nothing N = (tt, tt)

module _ {N : Type 0} where
  abbrev OpenFunction : Option (Scheme N) → Type 0
  OpenFunction None = Unit {0}
  OpenFunction (Some θ) = θ.variables ≡ [] → IsOpen θ.body

  abbrev OpenFound : Option (Env N) → Type 0
  OpenFound None = Unit {0}
  OpenFound (Some E) = OpenEnv E

  in_map : (x : Id) (m : Map (Scheme N)) → OpenFunctions m → OpenFunction (lookup x m)
  unfolding OpenFunctions
  in_map x [] h = tt
  in_map x (e ∷ m) h = let rest = in_map x m h.1 in by_cases OpenFunction (order_of x e.0) rest h.0 rest

  pub open_at : (x : Id) (m : Map (Scheme N)) (θ : Scheme N) → OpenFunctions m → lookup x m ≡ Some θ → θ.variables ≡ [] → IsOpen θ.body
  open_at x m θ h e = subst OpenFunction e (in_map x m h)

  in_structures : (s : Id) (ss : Structures N) → OpenStructures ss → OpenFound (find_structure s ss)
  unfolding OpenStructures
  in_structures s no_structure h = tt
  in_structures s (and_structure s' E ss) h = let rest = in_structures s ss h.1 in by_cases OpenFound (order_of s s') rest h.0 rest

  of_structures : (E : Env N) → OpenEnv E → OpenStructures (structures E)
  unfolding OpenEnv
  of_structures (env ss ts vs) h = h.0

  pub of_types : (E : Env N) → OpenEnv E → OpenFunctions (types E)
  unfolding OpenEnv
  of_types (env ss ts vs) h = h.1

  abbrev Founds : Found (Scheme N) → Type 0
  Founds (found θ) = θ.variables ≡ [] → IsOpen θ.body
  Founds (no_path s) = Unit {0}
  Founds no_entry = Unit {0}

  of_entry : (o : Option (Scheme N)) → OpenFunction o → Founds (entry o)
  of_entry None h = tt
  of_entry (Some θ) h = h

  in_found : (s : List Id) (look : Env N → Found (Scheme N)) (o : Option (Env N)) → OpenFound o → ((E : Env N) → OpenEnv E → Founds (look E)) → Founds (found_in s look o)
  in_found s look None h k = tt
  in_found s look (Some E) h k = k E h

  along : (pick : Env N → Option (Scheme N)) → ((E : Env N) → OpenEnv E → OpenFunction (pick E)) → (seen path : List Id) (E : Env N) → OpenEnv E → Founds (find_at pick seen path E)
  unfolding find_at
  along pick k seen [] E h = of_entry (pick E) (k E h)
  along pick k seen (s ∷ path) E h =
      in_found (seen ++ s ∷ []) _ (find_structure s (structures E)) (in_structures s (structures E) (of_structures E h)) (λ F g. along pick k (seen ++ s ∷ []) path F g)

  at_type : (E : Env N) (x : LongId) (θ : Scheme N) → OpenEnv E → type_at E x ≡ found θ → θ.variables ≡ [] → IsOpen θ.body
  unfolding type_at
  at_type E x θ h e = subst Founds e (along (λ E. lookup x.last (types E)) (λ F g. in_map x.last (types F) (of_types F g)) [] x.path E h)

  -- more components

  in_put : (x : Id) (θ : Scheme N) (m : Map (Scheme N)) → (θ.variables ≡ [] → IsOpen θ.body) → OpenFunctions m → OpenFunctions (put x θ m)
  unfolding OpenFunctions
  in_put x θ [] h k = (h, tt)
  in_put x θ (e ∷ m) h k = by_cases OpenFunctions (order_of x e.0) (h, k) (h, k.1) (k.0, in_put x θ m h k.1)

  in_join : (m n : Map (Scheme N)) → OpenFunctions m → OpenFunctions n → OpenFunctions (join m n)
  unfolding OpenFunctions
  in_join m [] h k = h
  in_join m (e ∷ n) h k = in_join (put e.0 e.1 m) n (in_put e.0 e.1 m k.0 h) k.1

  in_put_structure : (s : Id) (E : Env N) (ss : Structures N) → OpenEnv E → OpenStructures ss → OpenStructures (put_structure s E ss)
  unfolding OpenStructures
  in_put_structure s E no_structure h k = (h, tt)
  in_put_structure s E (and_structure s' F ss) h k = by_cases OpenStructures (order_of s s') (h, k) (h, k.1) (k.0, in_put_structure s E ss h k.1)

  in_join_structures : (ss rs : Structures N) → OpenStructures ss → OpenStructures rs → OpenStructures (join_structures ss rs)
  unfolding OpenStructures
  in_join_structures ss no_structure h k = h
  in_join_structures ss (and_structure s E rs) h k = in_join_structures (put_structure s E ss) rs (in_put_structure s E ss k.0 h) k.1

  pub extended : (E F : Env N) → OpenEnv E → OpenEnv F → OpenEnv (extend_env E F)
  unfolding OpenEnv
  extended (env ss ts vs) (env ss' ts' vs') h k = (in_join_structures ss ss' h.0 k.0, in_join ts ts' h.1 k.1)

  pub structure_alone : (s : Id) (E : Env N) → OpenEnv E → OpenEnv (one_structure s E)
  unfolding OpenEnv OpenStructures OpenFunctions
  structure_alone s E h = ((h, tt), tt)

  -- types

  mutual
    unfolding read_ty IsOpen

    pub read_ty_open : {Q : Type 0} (C : Env N) (u : Ty Q) (t : MlType N) → OpenEnv C → read_ty C u (accepted t) → IsOpen t
    read_ty_open {Q} C (constructor p c) t g h =
        let a = bound_by _ _ t h in
        let b = bound_by _ _ t a.2 in
        subst IsOpen (sym (given Q _ t b.2)) (at_type C c a.0 g (needed _ p c _ a.0 a.1) (tested _ _ _ b.1))
    read_ty_open {Q} C (product us) t g h =
        let a = bound_by _ _ t h in
        subst IsOpen (sym (given Q _ t a.2)) (read_tys_open C us a.0 g a.1)
    read_ty_open {Q} C (arrow_to u v) t g h =
        let a = bound_by _ _ t h in
        let b = bound_by _ _ t a.2 in
        subst IsOpen (sym (given Q _ t b.2)) (read_ty_open C u a.0 g a.1, (read_ty_open C v b.0 g b.1, tt))
    read_ty_open C (bracket_ty u) t g h = read_ty_open C u t g h

    read_tys_open : {Q : Type 0} (C : Env N) (us : Tys Q) (ts : MlTypes N) → OpenEnv C → read_tys C us (accepted ts) → AreOpen ts
    read_tys_open {Q} C no_ty ts g h = subst AreOpen (sym (given Q _ ts h)) tt
    read_tys_open {Q} C (and_ty u us) ts g h =
        let a = bound_by _ _ ts h in
        let b = bound_by _ _ ts a.2 in
        subst AreOpen (sym (given Q _ ts b.2)) (read_ty_open C u a.0 g a.1, read_tys_open C us b.0 g b.1)

  module _ (names : Naming N) where
    pub read_core_open : {Q : Type 0} (C : Env N) (d : CoreDec Q) (E : Env N) → OpenEnv C → read_core names C d (accepted E) → OpenEnv E
    unfolding read_core OpenEnv OpenStructures OpenFunctions
    read_core_open {Q} C (val_dec p x e) E g h =
        let a = bound_by _ _ E h in
        let b = bound_by _ _ E a.2 in
        subst OpenEnv (sym (given Q _ E b.2)) (tt, tt)
    read_core_open {Q} C (type_dec p t ty) E g h =
        let a = bound_by _ _ E h in
        let b = bound_by _ _ E a.2 in
        subst OpenEnv (sym (given Q _ E b.2)) (tt, ((λ e. read_ty_open C ty a.0 g a.1), tt))

    pub read_cores_open : {Q : Type 0} (C F : Env N) (ds : List (CoreDec Q)) (E : Env N) → OpenEnv C → OpenEnv F → read_cores names C F ds (accepted E) → OpenEnv E
    unfolding read_cores
    read_cores_open {Q} C F [] E g k h = subst OpenEnv (sym (given Q _ E h)) k
    read_cores_open {Q} C F (d ∷ ds) E g k h =
        let a = bound_by _ _ E h in
        let G = read_core_open C d a.0 g a.1 in
        read_cores_open (extend_env C a.0) (extend_env F a.0) ds E (extended C a.0 g G) (extended F a.0 k G) a.2

    -- what is specified
    pub record IsSpecified (E : Env N) : Type 0 where
      pub opened : OpenEnv E
      pub functions : PlainFunctions (types E)
      pub values_open : PlainValues (values E)

    read_spec_open : {Q : Type 0} (unit : ℕ) (B : Basis N) (q : Spec Q) (S : Sig N) → OpenEnv B.body → read_spec names unit B q (accepted S) → IsSpecified S.body
    unfolding read_spec OpenEnv OpenStructures OpenFunctions PlainFunctions PlainValues IsOpen
    read_spec_open {Q} unit B (type_spec p t) S g h =
        let a = bound_by _ _ S h in
        subst (λ S. IsSpecified S.body) (sym (given Q _ S a.2)) (record { opened = (tt, ((λ e. tt), tt)); functions = (refl, tt); values_open = tt })
    read_spec_open {Q} unit B (val_spec p x ty) S g h =
        let a = bound_by _ _ S h in
        let b = bound_by _ _ S a.2 in
        subst (λ S. IsSpecified S.body) (sym (given Q _ S b.2)) (record { opened = (tt, tt); functions = tt; values_open = (read_ty_open B.body ty a.0 g a.1, tt) })

    plain_put : (x : Id) (θ : Scheme N) (m : Map (Scheme N)) → θ.variables ≡ [] → PlainFunctions m → PlainFunctions (put x θ m)
    unfolding PlainFunctions
    plain_put x θ [] h k = (h, tt)
    plain_put x θ (e ∷ m) h k = by_cases PlainFunctions (order_of x e.0) (h, k) (h, k.1) (k.0, plain_put x θ m h k.1)

    plain_join : (m n : Map (Scheme N)) → PlainFunctions m → PlainFunctions n → PlainFunctions (join m n)
    unfolding PlainFunctions
    plain_join m [] h k = h
    plain_join m (e ∷ n) h k = plain_join (put e.0 e.1 m) n (plain_put e.0 e.1 m k.0 h) k.1

    value_put : (x : Id) (σ : Scheme N) (m : Map (Scheme N)) → IsOpen σ.body → PlainValues m → PlainValues (put x σ m)
    unfolding PlainValues
    value_put x σ [] h k = (h, tt)
    value_put x σ (e ∷ m) h k = by_cases PlainValues (order_of x e.0) (h, k) (h, k.1) (k.0, value_put x σ m h k.1)

    value_join : (m n : Map (Scheme N)) → PlainValues m → PlainValues n → PlainValues (join m n)
    unfolding PlainValues
    value_join m [] h k = h
    value_join m (e ∷ n) h k = value_join (put e.0 e.1 m) n (value_put e.0 e.1 m k.0 h) k.1

    specified_both : (E F : Env N) → IsSpecified E → IsSpecified F → IsSpecified (extend_env E F)
    specified_both (env ss ts vs) (env ss' ts' vs') h k = record {
      opened = extended (env ss ts vs) (env ss' ts' vs') h.opened k.opened;
      functions = plain_join ts ts' h.functions k.functions;
      values_open = value_join vs vs' h.values_open k.values_open;
    }

    AllSpecified : List (Sig N) → Type 0
    AllSpecified [] = Unit {0}
    AllSpecified (S ∷ Ss) = IsSpecified S.body × AllSpecified Ss

    read_specs_open : {Q : Type 0} (unit : ℕ) (B : Basis N) (seen : List Item) (qs : List (Spec Q)) (Ss : List (Sig N)) → OpenEnv B.body
        → read_specs names unit B seen qs (accepted Ss) → AllSpecified Ss
    unfolding read_specs extend AllSpecified
    read_specs_open {Q} unit B seen [] Ss g h = subst AllSpecified (sym (given Q _ Ss h)) tt
    read_specs_open {Q} unit B seen (q ∷ qs) Ss g h =
        let a = bound_by _ _ Ss h in
        let b = bound_by _ _ Ss a.2 in
        let d = bound_by _ _ Ss b.2 in
        let s = read_spec_open unit B q a.0 g a.1 in
        subst AllSpecified (sym (given Q _ Ss d.2)) (s, read_specs_open unit (extend B a.0) _ qs d.0 (extended B.body a.0.body g s.opened) d.1)

    summed : (T : Sig N) (Ss : List (Sig N)) → IsSpecified T.body → AllSpecified Ss → IsSpecified (sum_from T Ss).body
    unfolding AllSpecified
    summed T [] h k = h
    summed T (S ∷ Ss) h k = summed (both T S) Ss (specified_both T.body S.body h k.0) k.1

    pub specified : {Q : Type 0} (unit : ℕ) (B : Basis N) (seen : List Item) (qs : List (Spec Q)) (Ss : List (Sig N)) → OpenEnv B.body
        → read_specs names unit B seen qs (accepted Ss) → IsSpecified (sum_of Ss).body
    unfolding PlainFunctions PlainValues
    specified unit B seen qs Ss g h = summed _ Ss (record { opened = nothing N; functions = tt; values_open = tt }) (read_specs_open unit B seen qs Ss g h)

    pub read_dec_open : {Q : Type 0} (unit : ℕ) (B : Basis N) (d : Dec Q) (S : Sig N) → OpenEnv B.body → read_dec names unit B d (accepted S) → OpenEnv S.body
    unfolding read_dec
    read_dec_open {Q} unit B (core d) S g h =
        let a = bound_by _ _ S h in
        subst (λ S. OpenEnv S.body) (sym (given Q _ S a.2)) (read_core_open B.body d a.0 g a.1)
    read_dec_open {Q} unit B (sealed s p specs decs) S g h =
        let a = bound_by _ _ S h in
        let b = bound_by _ _ S a.2 in
        let d = bound_by _ _ S b.2 in
        subst (λ S. OpenEnv S.body) (sym (given Q _ S d.2)) (structure_alone s (sum_of b.0).body (specified unit _ [] specs b.0 g b.1).opened)
    read_dec_open unit B (other p) S g h = absurd h

    pub read_top_open : {Q : Type 0} (p : Q) (unit : ℕ) (B : Basis N) (d : Dec Q) (S : Sig N) → OpenEnv B.body → read_top names p unit B d (accepted S) → OpenEnv S.body
    unfolding read_top
    read_top_open {Q} p unit B d S g h =
        let a = bound_by _ _ S h in
        let b = bound_by _ _ S a.2 in
        subst (λ S. OpenEnv S.body) (sym (given Q _ S b.2)) (read_dec_open unit B d a.0 g a.1)

  -- types in which nothing is bound

  mutual
    unfolding replace_type IsOpen

    pub same_where_open : (b : ℕ → MlType N) (t : MlType N) → IsOpen t → replace_type b free t ≡ t
    same_where_open b (bound k) h = absurd h
    same_where_open b (free v) h = refl
    same_where_open b (app d ts) h = ap (app d) (all_where_open b ts h)

    all_where_open : (b : ℕ → MlType N) (ts : MlTypes N) → AreOpen ts → replace_types b free ts ≡ ts
    all_where_open b no_type h = refl
    all_where_open b (and_type t ts) h = λ i. and_type (same_where_open b t h.0 i) (all_where_open b ts h.1 i)
