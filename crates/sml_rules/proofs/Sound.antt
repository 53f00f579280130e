-- What a reading accepts is derived by the rules.
use Rattle.std.specs.Prelude.{◌≡◌, ◌+◌, ℕ, List, [], ◌∷◌, length, Option, Some, None, IsSome, cond}
use mathlib.Core.Path.{refl, sym, ap, ap₂, subst, ◌∙◌}
use mathlib.Core.Logic.{inl, inr}
use mathlib.Core.List.{◌++◌}
use mathlib.Core.Bool.{true≢false}
use Rattle.std.specs.declared.cmp.Ordering.{Ordering}
use Rattle.std.specs.declared.cmp.Ordering.TheVariants.{Less, Equal, Greater}
use Rattle.sml_lex.specs.declared.fault.Code.{Code}
use Rattle.sml_lex.specs.Faults.{Fault}
use Rattle.sml_tree.specs.Trees.{Id, LongId, Exp, Exps, Ty, Tys, Spec, CoreDec, Dec, number, name, tuple, bracket, function, no_exp, and_exp, constructor, product, arrow_to, bracket_ty, no_ty, and_ty, type_spec, val_spec, val_dec, type_dec, core, sealed, other}
use Rattle.sml_objects.specs.Names.{Naming}
use Rattle.sml_objects.specs.Maps.{Map, lookup, put, join, by_order, order_of}
use Rattle.sml_objects.specs.Objects.{MlType, MlTypes, Scheme, Env, Structures, Sig, Basis, bound, free, app, no_type, and_type, env, no_structure, and_structure, types, values, empty_env, extend_env, extend, mono, named, names_env, names_sig, names_basis}
use Rattle.sml_objects.specs.Types.{replace_type, replace_types}
use Rattle.sml_rules.specs.Lookups.{Found, found, no_path, no_entry}
use Rattle.sml_rules.specs.Rules.{IsOpen, AreOpen, IsInstance, Means, MeanAll, Has, HaveAll, Declares, DeclareAll, IsNew, Specifies, SpecifyAll, apart, both, sum_from, sum_of, Item, item_of, AreDistinct}
use Rattle.sml_rules.specs.Matching.{Realisation, realise_scheme, Generalises, HasTypes, HasValues, Enriches, Stands, MovesOnly, is_yes, is_name, realised_by, Matches}
use Rattle.sml_rules.specs.Answers.{Answer, Reading, refused, accepted, After, give, ◌>>=◌, test, any, need}
use Rattle.sml_rules.specs.Readings.{Typed, read_ty, read_tys, read_exp, read_exps, read_core, read_cores, read_spec, read_specs, read_types, read_values, read_match, read_dec, read_top}
use Rattle.sml_rules.specs.Sound.{Derives, IsSound}
use Rattle.sml_rules.proofs.Settled.{Covers, outside-left, outside-right, outside-append}
use Rattle.sml_rules.proofs.Paths.{alike_refl}

-- what an accepting reading was made of

IsAccepted : {P X : Type 0} → Answer P X → Type 0
IsAccepted (refused f) = ⊥
IsAccepted (accepted x) = Unit {0}

value_of : {P X : Type 0} → X → Answer P X → X
value_of d (refused f) = d
value_of d (accepted x) = x

pub accepted_same : {P X : Type 0} {x y : X} → ◌≡◌ {A = Answer P X} (accepted x) (accepted y) → x ≡ y
unfolding value_of
accepted_same {x = x} p = ap (value_of x) p

pub not_refused : {P X : Type 0} {x : X} {f : Fault P} → ¬ (◌≡◌ {A = Answer P X} (accepted x) (refused f))
unfolding IsAccepted
not_refused p = subst IsAccepted p tt

pub given : (P : Type 0) {X : Type 0} (x y : X) → give {P = P} x (accepted y) → y ≡ x
unfolding give
given P x y h = accepted_same h

pub bound_by : {P X Y : Type 0} (m : Reading P X) (next : X → Reading P Y) (y : Y) → (m >>= next) (accepted y)
    → (x : X) × m (accepted x) × next x (accepted y)
unfolding ◌>>=◌ After
bound_by m next y (refused f, h, k) = absurd (not_refused k)
bound_by m next y (accepted x, h, k) = (x, h, k)

pub tested : {P : Type 0} (C : Type 0) (f : Fault P) (u : Unit {0}) → test C f (accepted u) → C
unfolding test
tested C f u (inl h) = h.0
tested C f u (inr h) = absurd (not_refused h.1)

pub needed : {P X : Type 0} (c : Code) (p : P) (x : LongId) (r : Found X) (v : X) → need c p x r (accepted v) → r ≡ found v
needed c p x (found w) v h = ap found (sym (given _ w v h))
needed c p x (no_path s) v h = absurd (not_refused h)
needed c p x no_entry v h = absurd (not_refused h)

-- type expressions

module _ {P N : Type 0} where
  mutual
    unfolding read_ty Means

    pub sound_ty : (C : Env N) (u : Ty P) (t : MlType N) → read_ty C u (accepted t) → Means C u t
    sound_ty C (constructor p c) t h =
        let a = bound_by _ _ t h in
        let b = bound_by _ _ t a.2 in
        (a.0, needed _ p c _ a.0 a.1, tested _ _ b.0 b.1, given P _ t b.2)
    sound_ty C (product us) t h =
        let a = bound_by _ _ t h in (a.0, sound_tys C us a.0 a.1, given P _ t a.2)
    sound_ty C (arrow_to u v) t h =
        let a = bound_by _ _ t h in
        let b = bound_by _ _ t a.2 in (a.0, b.0, sound_ty C u a.0 a.1, sound_ty C v b.0 b.1, given P _ t b.2)
    sound_ty C (bracket_ty u) t h = sound_ty C u t h

    pub sound_tys : (C : Env N) (us : Tys P) (ts : MlTypes N) → read_tys C us (accepted ts) → MeanAll C us ts
    sound_tys C no_ty ts h = given P _ ts h
    sound_tys C (and_ty u us) ts h =
        let a = bound_by _ _ ts h in
        let b = bound_by _ _ ts a.2 in (a.0, b.0, sound_ty C u a.0 a.1, sound_tys C us b.0 b.1, given P _ ts b.2)

module _ {P N : Type 0} (names : Naming N) where
  -- expressions
  mutual
    unfolding read_exp Has IsOpen IsInstance

    sound_exp : (k : ℕ) (C : Env N) (e : Exp P) (r : Typed (MlType N)) → read_exp names k C e (accepted r) → Has names C e r.type
    sound_exp k C number r h = ap (λ r. r.type) (given P _ r h)
    sound_exp k C (name p x) r h =
        let a = bound_by _ _ r h in
        (a.0, needed _ p x _ a.0 a.1, ((λ j. free (k + j)), (λ j. tt), ap (λ r. r.type) (given P _ r a.2)))
    sound_exp k C (tuple es) r h =
        let a = bound_by _ _ r h in (a.0.type, sound_exps k C es a.0 a.1, ap (λ r. r.type) (given P _ r a.2))
    sound_exp k C (bracket e) r h = sound_exp k C e r h
    sound_exp k C (function x e) r h =
        let a = bound_by _ _ r h in (free k, a.0.type, tt, sound_exp _ _ e a.0 a.1, ap (λ r. r.type) (given P _ r a.2))

    sound_exps : (k : ℕ) (C : Env N) (es : Exps P) (r : Typed (MlTypes N)) → read_exps names k C es (accepted r) → HaveAll names C es r.type
    sound_exps k C no_exp r h = ap (λ r. r.type) (given P _ r h)
    sound_exps k C (and_exp e es) r h =
        let a = bound_by _ _ r h in
        let b = bound_by _ _ r a.2 in (a.0.type, b.0.type, sound_exp k C e a.0 a.1, sound_exps a.0.made C es b.0 b.1, ap (λ r. r.type) (given P _ r b.2))

  -- declarations of the core
  sound_core : (C : Env N) (d : CoreDec P) (E : Env N) → read_core names C d (accepted E) → Declares names C d E
  unfolding read_core Declares
  sound_core C (val_dec p x e) E h =
      let a = bound_by _ _ E h in
      let b = bound_by _ _ E a.2 in (a.0.type, sound_exp 0 C e a.0 a.1, given P _ E b.2)
  sound_core C (type_dec p t ty) E h =
      let a = bound_by _ _ E h in
      let b = bound_by _ _ E a.2 in (a.0, sound_ty C ty a.0 a.1, given P _ E b.2)

  sound_cores : (C F : Env N) (ds : List (CoreDec P)) (E : Env N) → read_cores names C F ds (accepted E) → DeclareAll names C F ds E
  unfolding read_cores DeclareAll
  sound_cores C F [] E h = given P _ E h
  sound_cores C F (d ∷ ds) E h =
      let a = bound_by _ _ E h in (a.0, sound_core C d a.0 a.1, sound_cores (extend_env C a.0) (extend_env F a.0) ds E a.2)

  -- specifications
  sound_spec : (unit : ℕ) (B : Basis N) (q : Spec P) (S : Sig N) → read_spec names unit B q (accepted S) → Specifies names unit B q S
  unfolding read_spec Specifies any
  sound_spec unit B (type_spec p t) S h =
      let a = bound_by _ _ S h in (a.0, a.1, given P _ S a.2)
  sound_spec unit B (val_spec p x ty) S h =
      let a = bound_by _ _ S h in
      let b = bound_by _ _ S a.2 in (a.0, sound_ty B.body ty a.0 a.1, given P _ S b.2)

  sound_specs : (unit : ℕ) (B : Basis N) (seen : List Item) (qs : List (Spec P)) (Ss : List (Sig N)) → read_specs names unit B seen qs (accepted Ss)
      → SpecifyAll names unit B qs Ss × AreDistinct seen qs
  unfolding read_specs SpecifyAll AreDistinct
  sound_specs unit B seen [] Ss h = (given P _ Ss h, tt)
  sound_specs unit B seen (q ∷ qs) Ss h =
      let a = bound_by _ _ Ss h in
      let b = bound_by _ _ Ss a.2 in
      let c = bound_by _ _ Ss b.2 in
      let r = sound_specs unit (extend B a.0) (item_of q ∷ seen) qs c.0 c.1 in
      ((a.0, c.0, sound_spec unit B q a.0 a.1, r.0, given P _ Ss c.2), (tested _ _ b.0 b.1, r.1))

  -- names may be chosen outside more than the basis has
  fewer_one : (unit : ℕ) (B : Basis N) (ms : List N) (k : ℕ) → Covers (ms ++ names_env B.body) (names_basis B) → (q : Spec P) (S : Sig N)
      → Specifies names unit (record { names = ms; count = k; body = B.body }) q S → Specifies names unit B q S
  unfolding Specifies IsNew names_basis
  fewer_one unit B ms k cov (val_spec p x ty) S h = h
  fewer_one unit B ms k cov (type_spec p t) S (n, h, e) = (n, (h.0, h.1, cov n h.2), e)

  pub fewer_names : (unit : ℕ) (B : Basis N) (ms : List N) (k : ℕ) → Covers (ms ++ names_env B.body) (names_basis B) → (qs : List (Spec P)) (Ss : List (Sig N))
      → SpecifyAll names unit (record { names = ms; count = k; body = B.body }) qs Ss → SpecifyAll names unit B qs Ss
  unfolding SpecifyAll extend names_basis
  fewer_names unit B ms k cov [] Ss h = h
  fewer_names unit B ms k cov (q ∷ qs) Ss (S, Rs, h, g, e) = (
    S,
    Rs,
    fewer_one unit B ms k cov q S h,
    fewer_names unit (extend B S) (names_sig S ++ (ms ++ names_env B.body)) (k + length S.names)
        (λ n o.
        let l = outside-left n (names_sig S ++ (ms ++ names_env B.body)) (names_env (extend_env B.body S.body)) o in
        outside-append n (names_sig S ++ names_basis B) (names_env (extend_env B.body S.body))
        (outside-append n (names_sig S) (names_basis B) (outside-left n (names_sig S) (ms ++ names_env B.body) l) (cov n (outside-right n (names_sig S) (ms ++ names_env B.body) l)))
        (outside-right n (names_sig S ++ (ms ++ names_env B.body)) (names_env (extend_env B.body S.body)) o)) qs Rs g,
    e,
  )

-- matching

-- no structure, and types that are names of the list alone
NoStructure : {N : Type 0} → Structures N → Type 0
NoStructure no_structure = Unit {0}
NoStructure (and_structure s E ss) = ⊥

AreNames : {N : Type 0} → List N → Map (Scheme N) → Type 0
AreNames ns [] = Unit {0}
AreNames {N} ns (x ∷ xs) = ((n : N) × (x.1 ≡ mono (named n)) × Stands n ns) × AreNames ns xs

IsPlain : {N : Type 0} → List N → Env N → Type 0
IsPlain ns (env ss ts vs) = NoStructure ss × AreNames ns ts

stands-left : {N : Type 0} (n : N) (ms ns : List N) → Stands n ms → Stands n (ms ++ ns)
unfolding Stands
stands-left n [] ns h = absurd h
stands-left n (m ∷ ms) ns (inl h) = inl h
stands-left n (m ∷ ms) ns (inr h) = inr (stands-left n ms ns h)

stands-right : {N : Type 0} (n : N) (ms ns : List N) → Stands n ns → Stands n (ms ++ ns)
unfolding Stands
stands-right n [] ns h = h
stands-right n (m ∷ ms) ns h = inr (stands-right n ms ns h)

names-more : {N : Type 0} (ms ns : List N) → ((n : N) → Stands n ms → Stands n ns) → (xs : Map (Scheme N)) → AreNames ms xs → AreNames ns xs
unfolding AreNames
names-more ms ns f [] h = tt
names-more ms ns f (x ∷ xs) h = ((h.0.0, h.0.1, f h.0.0 h.0.2), names-more ms ns f xs h.1)

by_cases : {X : Type 0} (P : X → Type 0) (o : Ordering) {a b c : X} → P a → P b → P c → P (by_order o a b c)
by_cases P Less p q r = p
by_cases P Equal p q r = q
by_cases P Greater p q r = r

names-put : {N : Type 0} (ns : List N) (x : Id) (v : Scheme N) (xs : Map (Scheme N)) → (n : N) × (v ≡ mono (named n)) × Stands n ns
    → AreNames ns xs → AreNames ns (put x v xs)
unfolding AreNames
names-put ns x v [] h g = (h, tt)
names-put ns x v (y ∷ ys) h g = by_cases (AreNames ns) (order_of x y.0) (h, g) (h, g.1) (g.0, names-put ns x v ys h g.1)

names-join : {N : Type 0} (ns : List N) (xs ys : Map (Scheme N)) → AreNames ns xs → AreNames ns ys → AreNames ns (join xs ys)
unfolding AreNames
names-join ns xs [] h g = h
names-join ns xs (y ∷ ys) h g = names-join ns (put y.0 y.1 xs) ys (names-put ns y.0 y.1 xs g.0 h) g.1

plain_both : {N : Type 0} (S S' : Sig N) → IsPlain S.names S.body → IsPlain S'.names S'.body → IsPlain (both S S').names (both S S').body
unfolding IsPlain NoStructure
plain_both S S' = go S.body S'.body
  where
    go : (E F : Env _) → IsPlain S.names E → IsPlain S'.names F → IsPlain (S.names ++ S'.names) (extend_env E F)
    go (env no_structure ts vs) (env no_structure us ws) h g = (
      tt,
      names-join (S.names ++ S'.names) ts us
          (names-more S.names (S.names ++ S'.names) (λ n o. stands-left n S.names S'.names o) ts h.1)
          (names-more S'.names (S.names ++ S'.names) (λ n o. stands-right n S.names S'.names o) us g.1),
    )
    go (env (and_structure s E ss) ts vs) F h g = absurd h.0
    go (env no_structure ts vs) (env (and_structure s E ss) us ws) h g = absurd g.0

specified_plain : {P N : Type 0} (names : Naming N) (unit : ℕ) (B : Basis N) (q : Spec P) (S : Sig N) → Specifies names unit B q S → IsPlain S.names S.body
unfolding Specifies IsPlain NoStructure AreNames Stands
specified_plain names unit B (type_spec p t) S (n, h, e) =
    subst (λ S. IsPlain S.names S.body) (sym e) (tt, ((n, refl, inl refl), tt))
specified_plain names unit B (val_spec p x ty) S (t, h, e) = subst (λ S. IsPlain S.names S.body) (sym e) (tt, tt)

plain_sum : {P N : Type 0} (names : Naming N) (unit : ℕ) (B : Basis N) (qs : List (Spec P)) (Ss : List (Sig N)) (S : Sig N) → SpecifyAll names unit B qs Ss
    → IsPlain S.names S.body → IsPlain (sum_from S Ss).names (sum_from S Ss).body
unfolding SpecifyAll
plain_sum names unit B [] Ss S h g = subst (λ Ss. IsPlain (sum_from S Ss).names (sum_from S Ss).body) (sym h) g
plain_sum names unit B (q ∷ qs) Ss S (R, Rs, h, k, e) g =
    subst (λ Ss. IsPlain (sum_from S Ss).names (sum_from S Ss).body) (sym e)
    (plain_sum names unit (extend B R) qs Rs (both S R) k (plain_both S R g (specified_plain names unit B q R h)))

-- instances have no bound variable, so nothing is put for one
mutual
  unfolding IsOpen replace_type

  replace_open : {N : Type 0} (args : ℕ → MlType N) (t : MlType N) → IsOpen t → replace_type args free t ≡ t
  replace_open args (bound k) h = absurd h
  replace_open args (free v) h = refl
  replace_open args (app g ts) h = ap (app g) (replace_all_open args ts h)

  replace_all_open : {N : Type 0} (args : ℕ → MlType N) (ts : MlTypes N) → AreOpen ts → replace_types args free ts ≡ ts
  replace_all_open args no_type h = refl
  replace_all_open args (and_type t ts) h = ap₂ and_type (replace_open args t h.0) (replace_all_open args ts h.1)

mutual
  unfolding IsOpen replace_type

  open_replaced : {N : Type 0} (args : ℕ → MlType N) → ((k : ℕ) → IsOpen (args k)) → (t : MlType N) → IsOpen (replace_type args free t)
  open_replaced args h (bound k) = h k
  open_replaced args h (free v) = tt
  open_replaced args h (app g ts) = all_open_replaced args h ts

  all_open_replaced : {N : Type 0} (args : ℕ → MlType N) → ((k : ℕ) → IsOpen (args k)) → (ts : MlTypes N) → AreOpen (replace_types args free ts)
  all_open_replaced args h no_type = tt
  all_open_replaced args h (and_type t ts) = (open_replaced args h t, all_open_replaced args h ts)

instance_generalises : {N : Type 0} (σ τ : Scheme N) → IsInstance σ τ.body → Generalises σ τ
unfolding IsInstance Generalises
instance_generalises σ τ (args, h, e) t (brgs, g, d) =
    let o : IsOpen τ.body = subst IsOpen (sym e) (open_replaced args h σ.body) in
    (args, h, d ∙ replace_open brgs τ.body o ∙ e)

some_of : {X : Type 0} (o : Option X) → IsSome o → (x : X) × (o ≡ Some x)
some_of None h = absurd (true≢false (sym h))
some_of (Some x) h = (x, refl)

moves_names : {N : Type 0} (names : Naming N) (E : Env N) (ns : List N) (xs : Map (Scheme N)) → AreNames ns xs → MovesOnly ns (realised_by names E xs)
unfolding realised_by MovesOnly AreNames
moves_names names E ns [] h n θ e = let bad : ⊥ = cc in absurd bad
moves_names names E ns (x ∷ xs) h n θ e =
    go (names.same h.0.0 n) (subst (λ t. cond (is_name names n t) (lookup x.0 (types E)) (realised_by names E xs n) ≡ Some θ) (ap (λ σ. σ.body) h.0.1) e) (λ e. moves_names names E ns xs h.1 n θ e)
  where
    go : (d : Prim.Dec (h.0.0 ≡ n)) → cond (is_yes {A = h.0.0 ≡ n} d) (lookup x.0 (types E)) (realised_by names E xs n) ≡ Some θ → ((realised_by names E xs n) ≡ Some θ → Stands n ns) → Stands n ns
    go (yes s) e k = subst (λ m. Stands m ns) s h.0.2
    go (no s) e k = k e

module _ {P N : Type 0} (names : Naming N) where
  sound_types : (p : P) (E : Env N) (φ : Realisation N) (xs : Map (Scheme N)) (u : Unit {0}) → read_types names p E φ xs (accepted u) → HasTypes φ E xs
  unfolding read_types HasTypes
  sound_types p E φ [] u h = tt
  sound_types p E φ (x ∷ xs) u h =
      let a = bound_by _ _ u h in (tested _ _ a.0 a.1, sound_types p E φ xs u a.2)

  sound_values : (p : P) (E : Env N) (φ : Realisation N) (xs : Map (Scheme N)) (u : Unit {0}) → read_values names p E φ xs (accepted u) → HasValues φ E xs
  unfolding read_values HasValues
  sound_values p E φ [] u h = tt
  sound_values p E φ (x ∷ xs) u h =
      let a = bound_by _ _ u h in
      let b = bound_by _ _ u a.2 in
      let s = some_of (lookup x.0 (values E)) (tested _ _ a.0 a.1) in
      ((s.0, s.1, instance_generalises s.0 (realise_scheme φ x.1) (tested _ _ b.0 b.1 s.0 s.1)), sound_values p E φ xs u b.2)

  sound_match : (p : P) (S : Sig N) (E : Env N) (u : Unit {0}) → IsPlain S.names S.body → read_match names p S E (accepted u) → Matches E S
  unfolding read_match Matches IsPlain NoStructure Enriches
  sound_match p S E u h g =
      let a = bound_by _ _ u g in
      let b = bound_by _ _ u a.2 in
      (realised_by names E (types S.body), moves S.body h, enriches _ S.body h (sound_types p E _ (types S.body) b.0 b.1) (sound_values p E _ (values S.body) u b.2))
    where
      moves : (F : Env N) → IsPlain S.names F → MovesOnly S.names (realised_by names E (types F))
      moves (env ss ts vs) h = moves_names names E S.names ts h.1

      enriches : (φ : Realisation N) (F : Env N) → IsPlain S.names F → HasTypes φ E (types F) → HasValues φ E (values F) → Enriches φ E F
      enriches φ (env no_structure ts vs) h k l = (tt, k, l)
      enriches φ (env (and_structure s F ss) ts vs) h k l = absurd h.0

  pub sound_dec : (unit : ℕ) (B : Basis N) (d : Dec P) (S : Sig N) → read_dec names unit B d (accepted S) → Derives names unit B d S
  unfolding read_dec Derives names_basis IsPlain NoStructure AreNames
  sound_dec unit B (core d) S h =
      let a = bound_by _ _ S h in
      let e = given P _ S a.2 in
      (subst (Declares names B.body d) (sym (ap (λ S. S.body) e)) (sound_core names B.body d a.0 a.1), ap (λ S. S.names) e)
  sound_dec unit B (sealed s p specs decs) S h =
      let a = bound_by _ _ S h in
      let b = bound_by _ _ S a.2 in
      let c = bound_by _ _ S b.2 in
      let r = sound_specs names unit (apart B a.0) [] specs b.0 b.1 in
      let f = fewer_names names unit B (names_env a.0 ++ B.names) B.count (apart_covers B a.0) specs b.0 r.0 in
      (a.0, b.0, sound_cores names B.body empty_env decs a.0 a.1, f, r.1, sound_match p (sum_of b.0) a.0 c.0 (plain_sum names unit B specs b.0 _ f plain_empty) c.1, given P _ S c.2)
    where
      apart_covers : (B : Basis N) (E : Env N) → Covers ((names_env E ++ B.names) ++ names_env B.body) (names_basis B)
      apart_covers B E n o =
          outside-append n B.names (names_env B.body) (outside-right n (names_env E) B.names (outside-left n (names_env E ++ B.names) (names_env B.body) o)) (outside-right n (names_env E ++ B.names) (names_env B.body) o)

      plain_empty : IsPlain {N = N} [] empty_env
      plain_empty = (tt, tt)
  sound_dec unit B (other p) S h = absurd h

  pub readings_sound : (p : P) (unit : ℕ) (B : Basis N) (d : Dec P) (S : Sig N) → read_top names p unit B d (accepted S) → IsSound names unit B d S
  unfolding read_top IsSound
  readings_sound p unit B d S h =
      let a = bound_by _ _ S h in
      let b = bound_by _ _ S a.2 in
      let e = given P _ S b.2 in
      (S, subst (Derives names unit B d) (sym e) (sound_dec unit B d a.0 a.1), alike_refl names B S)
