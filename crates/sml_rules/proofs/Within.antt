-- What holds of every name of a context holds of every name of what is read in it.
use Rattle.std.specs.Prelude.{◌≡◌, ◌+◌, ℕ, List, [], ◌∷◌, ◌++◌, Option, Some, None}
use mathlib.Core.Path.{sym, subst}
use Rattle.std.specs.declared.cmp.Ordering.{Ordering}
use Rattle.std.specs.declared.cmp.Ordering.TheVariants.{Less, Equal, Greater}
use Rattle.sml_tree.specs.Trees.{Id, LongId, Exp, Exps, Ty, Tys, Spec, CoreDec, Dec, number, name, tuple, bracket, function, no_exp, and_exp, constructor, product, arrow_to, bracket_ty, no_ty, and_ty, type_spec, val_spec, val_dec, type_dec, core, sealed, other}
use Rattle.sml_objects.specs.Names.{Naming, int}
use Rattle.sml_objects.specs.Maps.{Map, lookup, put, join, by_order, order_of}
use Rattle.sml_objects.specs.Objects.{MlType, MlTypes, Scheme, Env, Structures, Sig, Basis, bound, free, app, no_type, and_type, env, no_structure, and_structure, structures, types, values, empty_env, one_structure, extend_env, extend, put_structure, join_structures, find_structure, mono, one_value, names_head, names_type, names_types, names_map, names_env, names_structures, names_sig}
use Rattle.sml_objects.specs.Types.{replace_type, replace_types, close}
use Rattle.sml_rules.specs.Lookups.{Found, found, no_path, no_entry, entry, found_in, find_at, value_at, type_at}
use Rattle.sml_rules.specs.Answers.{accepted}
use Rattle.sml_rules.specs.Every.{Every}
use Rattle.sml_rules.specs.Rules as R
use Rattle.sml_rules.specs.Rules.{Item, sum_from, sum_of}
use Rattle.sml_rules.specs.Readings.{Typed, read_ty, read_tys, read_exp, read_exps, read_core, read_cores, read_spec, read_specs, read_dec}
use Rattle.sml_rules.proofs.Sound.{bound_by, given, needed}

module _ {N : Type 0} (P : N → Type 0) where
  pub first : (ms ns : List N) → Every P (ms ++ ns) → Every P ms
  first [] ns h = tt
  first (m ∷ ms) ns h = (h.0, first ms ns h.1)

  pub last : (ms ns : List N) → Every P (ms ++ ns) → Every P ns
  last [] ns h = h
  last (m ∷ ms) ns h = last ms ns h.1

  pub both : (ms ns : List N) → Every P ms → Every P ns → Every P (ms ++ ns)
  both [] ns h k = k
  both (m ∷ ms) ns h k = (h.0, both ms ns h.1 k)

  -- of each name of a scheme, an environment or nothing
  abbrev pub Schemes : Option (Scheme N) → Type 0
  Schemes None = Unit {0}
  Schemes (Some σ) = Every P (names_type σ.body)

  abbrev pub Envs : Option (Env N) → Type 0
  Envs None = Unit {0}
  Envs (Some E) = Every P (names_env E)

  by_cases : {X : Type 0} (Q : X → Type 0) (o : Ordering) {a b c : X} → Q a → Q b → Q c → Q (by_order o a b c)
  by_cases Q Less h k l = h
  by_cases Q Equal h k l = k
  by_cases Q Greater h k l = l

  pub in_map : (x : Id) (m : Map (Scheme N)) → Every P (names_map m) → Schemes (lookup x m)
  unfolding names_map
  in_map x [] h = tt
  in_map x (e ∷ m) h =
      let rest = in_map x m (last (names_type e.1.body) (names_map m) h) in
      by_cases Schemes (order_of x e.0) rest (first (names_type e.1.body) (names_map m) h) rest

  pub in_structures : (s : Id) (ss : Structures N) → Every P (names_structures ss) → Envs (find_structure s ss)
  unfolding names_structures
  in_structures s no_structure h = tt
  in_structures s (and_structure s' E ss) h =
      let rest = in_structures s ss (last (names_env E) (names_structures ss) h) in
      by_cases Envs (order_of s s') rest (first (names_env E) (names_structures ss) h) rest

  of_structures : (E : Env N) → Every P (names_env E) → Every P (names_structures (structures E))
  unfolding names_env
  of_structures (env ss ts vs) h = first (names_structures ss) (names_map ts ++ names_map vs) h

  of_types : (E : Env N) → Every P (names_env E) → Every P (names_map (types E))
  unfolding names_env
  of_types (env ss ts vs) h = first (names_map ts) (names_map vs) (last (names_structures ss) (names_map ts ++ names_map vs) h)

  of_values : (E : Env N) → Every P (names_env E) → Every P (names_map (values E))
  unfolding names_env
  of_values (env ss ts vs) h = last (names_map ts) (names_map vs) (last (names_structures ss) (names_map ts ++ names_map vs) h)

  abbrev Founds : Found (Scheme N) → Type 0
  Founds (found σ) = Every P (names_type σ.body)
  Founds (no_path s) = Unit {0}
  Founds no_entry = Unit {0}

  of_entry : (o : Option (Scheme N)) → Schemes o → Founds (entry o)
  of_entry None h = tt
  of_entry (Some σ) h = h

  in_found : (s : List Id) (look : Env N → Found (Scheme N)) (o : Option (Env N)) → Envs o → ((E : Env N) → Every P (names_env E) → Founds (look E)) → Founds (found_in s look o)
  in_found s look None h k = tt
  in_found s look (Some E) h k = k E h

  along : (pick : Env N → Option (Scheme N)) → ((E : Env N) → Every P (names_env E) → Schemes (pick E)) → (seen path : List Id) (E : Env N)
      → Every P (names_env E) → Founds (find_at pick seen path E)
  unfolding find_at
  along pick k seen [] E h = of_entry (pick E) (k E h)
  along pick k seen (s ∷ path) E h =
      in_found (seen ++ s ∷ []) _ (find_structure s (structures E)) (in_structures s (structures E) (of_structures E h)) (λ F g. along pick k (seen ++ s ∷ []) path F g)

  at_value : (E : Env N) (x : LongId) (σ : Scheme N) → Every P (names_env E) → value_at E x ≡ found σ → Every P (names_type σ.body)
  unfolding value_at
  at_value E x σ h e = subst Founds e (along (λ E. lookup x.last (values E)) (λ F g. in_map x.last (values F) (of_values F g)) [] x.path E h)

  at_type : (E : Env N) (x : LongId) (σ : Scheme N) → Every P (names_env E) → type_at E x ≡ found σ → Every P (names_type σ.body)
  unfolding type_at
  at_type E x σ h e = subst Founds e (along (λ E. lookup x.last (types E)) (λ F g. in_map x.last (types F) (of_types F g)) [] x.path E h)

  -- more components

  pub in_put : (x : Id) (v : Scheme N) (m : Map (Scheme N)) → Every P (names_type v.body) → Every P (names_map m) → Every P (names_map (put x v m))
  unfolding names_map
  in_put x v [] h k = both (names_type v.body) [] h tt
  in_put x v (e ∷ m) h k =
      by_cases (λ m. Every P (names_map m)) (order_of x e.0)
      (both (names_type v.body) (names_map (e ∷ m)) h k)
      (both (names_type v.body) (names_map m) h (last (names_type e.1.body) (names_map m) k))
      (both (names_type e.1.body) (names_map (put x v m)) (first (names_type e.1.body) (names_map m) k) (in_put x v m h (last (names_type e.1.body) (names_map m) k)))

  in_join : (m n : Map (Scheme N)) → Every P (names_map m) → Every P (names_map n) → Every P (names_map (join m n))
  unfolding names_map
  in_join m [] h k = h
  in_join m (e ∷ n) h k = in_join (put e.0 e.1 m) n (in_put e.0 e.1 m (first (names_type e.1.body) (names_map n) k) h) (last (names_type e.1.body) (names_map n) k)

  in_put_structure : (s : Id) (E : Env N) (ss : Structures N) → Every P (names_env E) → Every P (names_structures ss) → Every P (names_structures (put_structure s E ss))
  unfolding names_structures
  in_put_structure s E no_structure h k = both (names_env E) [] h tt
  in_put_structure s E (and_structure s' F ss) h k =
      by_cases (λ ss. Every P (names_structures ss)) (order_of s s')
      (both (names_env E) (names_structures (and_structure s' F ss)) h k)
      (both (names_env E) (names_structures ss) h (last (names_env F) (names_structures ss) k))
      (both (names_env F) (names_structures (put_structure s E ss)) (first (names_env F) (names_structures ss) k) (in_put_structure s E ss h (last (names_env F) (names_structures ss) k)))

  in_join_structures : (ss rs : Structures N) → Every P (names_structures ss) → Every P (names_structures rs) → Every P (names_structures (join_structures ss rs))
  unfolding names_structures
  in_join_structures ss no_structure h k = h
  in_join_structures ss (and_structure s E rs) h k =
      in_join_structures (put_structure s E ss) rs (in_put_structure s E ss (first (names_env E) (names_structures rs) k) h) (last (names_env E) (names_structures rs) k)

  pub extended : (E F : Env N) → Every P (names_env E) → Every P (names_env F) → Every P (names_env (extend_env E F))
  unfolding names_env
  extended (env ss ts vs) (env ss' ts' vs') h k =
      let E : Env N = env ss ts vs in
      let F : Env N = env ss' ts' vs' in
      both (names_structures (join_structures ss ss')) (names_map (join ts ts') ++ names_map (join vs vs')) (in_join_structures ss ss' (of_structures E h) (of_structures F k))
      (both (names_map (join ts ts')) (names_map (join vs vs')) (in_join ts ts' (of_types E h) (of_types F k)) (in_join vs vs' (of_values E h) (of_values F k)))

  -- types

  mutual
    unfolding replace_type names_type

    replaced : (b f : ℕ → MlType N) → ((k : ℕ) → Every P (names_type (b k))) → ((v : ℕ) → Every P (names_type (f v))) → (t : MlType N) → Every P (names_type t) → Every P (names_type (replace_type b f t))
    replaced b f h k (bound j) g = h j
    replaced b f h k (free v) g = k v
    replaced b f h k (app d ts) g = both (names_head d) (names_types (replace_types b f ts)) (first (names_head d) (names_types ts) g) (all_replaced b f h k ts (last (names_head d) (names_types ts) g))

    all_replaced : (b f : ℕ → MlType N) → ((k : ℕ) → Every P (names_type (b k))) → ((v : ℕ) → Every P (names_type (f v))) → (ts : MlTypes N) → Every P (names_types ts) → Every P (names_types (replace_types b f ts))
    all_replaced b f h k no_type g = tt
    all_replaced b f h k (and_type t ts) g = both (names_type (replace_type b f t)) (names_types (replace_types b f ts)) (replaced b f h k t (first (names_type t) (names_types ts) g)) (all_replaced b f h k ts (last (names_type t) (names_types ts) g))

  mutual
    unfolding read_ty names_type

    pub read_ty_within : {Q : Type 0} (C : Env N) (u : Ty Q) (t : MlType N) → Every P (names_env C) → read_ty C u (accepted t) → Every P (names_type t)
    read_ty_within {Q} C (constructor p c) t g h =
        let a = bound_by _ _ t h in
        let b = bound_by _ _ t a.2 in
        subst (λ t. Every P (names_type t)) (sym (given Q _ t b.2)) (at_type C c a.0 g (needed _ p c _ a.0 a.1))
    read_ty_within {Q} C (product us) t g h =
        let a = bound_by _ _ t h in
        subst (λ t. Every P (names_type t)) (sym (given Q _ t a.2)) (read_tys_within C us a.0 g a.1)
    read_ty_within {Q} C (arrow_to u v) t g h =
        let a = bound_by _ _ t h in
        let b = bound_by _ _ t a.2 in
        subst (λ t. Every P (names_type t)) (sym (given Q _ t b.2)) (both (names_type a.0) (names_type b.0 ++ []) (read_ty_within C u a.0 g a.1) (both (names_type b.0) [] (read_ty_within C v b.0 g b.1) tt))
    read_ty_within C (bracket_ty u) t g h = read_ty_within C u t g h

    read_tys_within : {Q : Type 0} (C : Env N) (us : Tys Q) (ts : MlTypes N) → Every P (names_env C) → read_tys C us (accepted ts) → Every P (names_types ts)
    read_tys_within {Q} C no_ty ts g h = subst (λ ts. Every P (names_types ts)) (sym (given Q _ ts h)) tt
    read_tys_within {Q} C (and_ty u us) ts g h =
        let a = bound_by _ _ ts h in
        let b = bound_by _ _ ts a.2 in
        subst (λ ts. Every P (names_types ts)) (sym (given Q _ ts b.2)) (both (names_type a.0) (names_types b.0) (read_ty_within C u a.0 g a.1) (read_tys_within C us b.0 g b.1))

  module _ (names : Naming N) (i : P (names.initial int)) where
    one : (x : Id) (k : ℕ) → Every P (names_env (one_value x (mono (free k))))
    unfolding names_env names_map names_type
    one x k = tt

    mutual
      unfolding read_exp names_type

      read_exp_within : {Q : Type 0} (k : ℕ) (C : Env N) (e : Exp Q) (r : Typed (MlType N)) → Every P (names_env C) → read_exp names k C e (accepted r) → Every P (names_type r.type)
      read_exp_within {Q} k C number r g h = subst (λ r. Every P (names_type r.type)) (sym (given Q _ r h)) (i, tt)
      read_exp_within {Q} k C (name p x) r g h =
          let a = bound_by _ _ r h in
          subst (λ r. Every P (names_type r.type)) (sym (given Q _ r a.2)) (replaced (λ j. free (k + j)) free (λ j. tt) (λ v. tt) a.0.body (at_value C x a.0 g (needed _ p x _ a.0 a.1)))
      read_exp_within {Q} k C (tuple es) r g h =
          let a = bound_by _ _ r h in
          subst (λ r. Every P (names_type r.type)) (sym (given Q _ r a.2)) (read_exps_within k C es a.0 g a.1)
      read_exp_within k C (bracket e) r g h = read_exp_within k C e r g h
      read_exp_within {Q} k C (function x e) r g h =
          let a = bound_by _ _ r h in
          subst (λ r. Every P (names_type r.type)) (sym (given Q _ r a.2)) (both (names_type a.0.type) [] (read_exp_within _ _ e a.0 (extended C (one_value x (mono (free k))) g (one x k)) a.1) tt)

      read_exps_within : {Q : Type 0} (k : ℕ) (C : Env N) (es : Exps Q) (r : Typed (MlTypes N)) → Every P (names_env C) → read_exps names k C es (accepted r) → Every P (names_types r.type)
      read_exps_within {Q} k C no_exp r g h = subst (λ r. Every P (names_types r.type)) (sym (given Q _ r h)) tt
      read_exps_within {Q} k C (and_exp e es) r g h =
          let a = bound_by _ _ r h in
          let b = bound_by _ _ r a.2 in
          subst (λ r. Every P (names_types r.type)) (sym (given Q _ r b.2)) (both (names_type a.0.type) (names_types b.0.type) (read_exp_within k C e a.0 g a.1) (read_exps_within a.0.made C es b.0 g b.1))

    pub read_core_within : {Q : Type 0} (C : Env N) (d : CoreDec Q) (E : Env N) → Every P (names_env C) → read_core names C d (accepted E) → Every P (names_env E)
    unfolding read_core names_env names_map names_type close
    read_core_within {Q} C (val_dec p x e) E g h =
        let a = bound_by _ _ E h in
        let b = bound_by _ _ E a.2 in
        subst (λ E. Every P (names_env E)) (sym (given Q _ E b.2)) (both (names_type (close a.0.type).body) [] (replaced _ _ (λ j. tt) (λ v. tt) a.0.type (read_exp_within 0 C e a.0 g a.1)) tt)
    read_core_within {Q} C (type_dec p t ty) E g h =
        let a = bound_by _ _ E h in
        let b = bound_by _ _ E a.2 in
        subst (λ E. Every P (names_env E)) (sym (given Q _ E b.2)) (both (names_type a.0 ++ []) [] (both (names_type a.0) [] (read_ty_within C ty a.0 g a.1) tt) tt)

    pub read_cores_within : {Q : Type 0} (C F : Env N) (ds : List (CoreDec Q)) (E : Env N) → Every P (names_env C) → Every P (names_env F) → read_cores names C F ds (accepted E) → Every P (names_env E)
    unfolding read_cores
    read_cores_within {Q} C F [] E g k h = subst (λ E. Every P (names_env E)) (sym (given Q _ E h)) k
    read_cores_within {Q} C F (d ∷ ds) E g k h =
        let a = bound_by _ _ E h in
        let G = read_core_within C d a.0 g a.1 in
        read_cores_within (extend_env C a.0) (extend_env F a.0) ds E (extended C a.0 g G) (extended F a.0 k G) a.2

    -- signatures: the names bound are told apart from those of the body

    abbrev Bind : List (Sig N) → Type 0
    Bind [] = Unit {0}
    Bind (S ∷ Ss) = Every P S.names × Bind Ss

    abbrev Have : List (Sig N) → Type 0
    Have [] = Unit {0}
    Have (S ∷ Ss) = Every P (names_env S.body) × Have Ss

    read_spec_within : {Q : Type 0} (unit : ℕ) (B : Basis N) (q : Spec Q) (S : Sig N) → Every P (names_env B.body) → Every P S.names
        → read_spec names unit B q (accepted S) → Every P (names_env S.body)
    unfolding read_spec names_env names_map names_type
    read_spec_within {Q} unit B (type_spec p t) S g k h =
        let a = bound_by _ _ S h in
        subst (λ S. Every P S.names → Every P (names_env S.body)) (sym (given Q _ S a.2)) (λ k. (k.0, tt)) k
    read_spec_within {Q} unit B (val_spec p x ty) S g k h =
        let a = bound_by _ _ S h in
        let b = bound_by _ _ S a.2 in
        subst (λ S. Every P (names_env S.body)) (sym (given Q _ S b.2)) (both (names_type a.0) [] (read_ty_within B.body ty a.0 g a.1) tt)

    read_specs_within : {Q : Type 0} (unit : ℕ) (B : Basis N) (seen : List Item) (qs : List (Spec Q)) (Ss : List (Sig N)) → Every P (names_env B.body) → Bind Ss
        → read_specs names unit B seen qs (accepted Ss) → Have Ss
    unfolding read_specs extend
    read_specs_within {Q} unit B seen [] Ss g k h = subst Have (sym (given Q _ Ss h)) tt
    read_specs_within {Q} unit B seen (q ∷ qs) Ss g k h =
        let a = bound_by _ _ Ss h in
        let b = bound_by _ _ Ss a.2 in
        let d = bound_by _ _ Ss b.2 in
        let e = given Q _ Ss d.2 in
        let bind : Every P a.0.names × Bind d.0 = subst Bind e k in
        let have = read_spec_within unit B q a.0 g bind.0 a.1 in
        subst Have (sym e) (have, read_specs_within unit (extend B a.0) _ qs d.0 (extended B.body a.0.body g have) bind.1 d.1)

    summands_bind : (T : Sig N) (Ss : List (Sig N)) → Every P (sum_from T Ss).names → Every P T.names × Bind Ss
    summands_bind T [] h = (h, tt)
    summands_bind T (S ∷ Ss) h =
        let rest = summands_bind (R.both T S) Ss h in
        (first T.names S.names rest.0, (last T.names S.names rest.0, rest.1))

    sum_has : (T : Sig N) (Ss : List (Sig N)) → Every P (names_env T.body) → Have Ss → Every P (names_env (sum_from T Ss).body)
    sum_has T [] h k = h
    sum_has T (S ∷ Ss) h k = sum_has (R.both T S) Ss (extended T.body S.body h k.0) k.1

    -- of each name that a declaration binds or that its basis has, so of each name of what it gives
    pub read_dec_within : {Q : Type 0} (unit : ℕ) (B : Basis N) (d : Dec Q) (S : Sig N) → Every P (names_env B.body) → Every P S.names
        → read_dec names unit B d (accepted S) → Every P (names_sig S)
    unfolding read_dec names_sig names_env names_structures names_map
    read_dec_within {Q} unit B (core d) S g k h =
        let a = bound_by _ _ S h in
        both S.names (names_env S.body) k (subst (λ S. Every P (names_env S.body)) (sym (given Q _ S a.2)) (read_core_within B.body d a.0 g a.1))
    read_dec_within {Q} unit B (sealed s p specs decs) S g k h =
        let a = bound_by _ _ S h in
        let b = bound_by _ _ S a.2 in
        let d = bound_by _ _ S b.2 in
        let e = given Q _ S d.2 in
        let T = sum_of b.0 in
        let bind = summands_bind (record { names = []; body = empty_env }) b.0 (subst (λ S. Every P S.names) e k) in
        let has = sum_has (record { names = []; body = empty_env }) b.0 tt (read_specs_within unit _ [] specs b.0 g bind.1 b.1) in
        both S.names (names_env S.body) k
        (subst (λ S. Every P (names_env S.body)) (sym e) (both (names_env T.body ++ []) [] (both (names_env T.body) [] has tt) tt))
    read_dec_within unit B (other p) S g k h = absurd h
