-- Environments put after one another: what is put first may be put together later.
use Rattle.std.proofs.Common.{◌≡◌, ◌++◌, ℕ, suc, Bool, List, [], ◌∷◌, length, map, refl, ap, sym, ◌∙◌}
use Rattle.std.proofs.lemmas.Cmp.{nat_list_cmp_total}
use Rattle.std.specs.Ordering.{ordering_reverse}
use Rattle.std.specs.declared.cmp.Ordering.{Ordering}
use Rattle.std.specs.declared.cmp.Ordering.TheVariants.{Less, Equal, Greater}
use Rattle.sml_tree.specs.Trees.{Id}
use Rattle.sml_tree.specs.Expressions.{DatBind}
use Rattle.sml_objects.specs.Maps.{Map, by_order, join, order_of, put}
use Rattle.sml_objects.specs.Objects.{MlType, Scheme, app, free, name}
use Rattle.sml_core_rules.specs.Datatypes.{Arguments, constructor_scheme, constructor_type, constructors_from, constructors_of, datatype_env, datatype_envs, is_equality, types_from}
use Rattle.sml_core_rules.specs.Objects.{Env, empty, extend, join_structures, maps, no_structure, structures, types, values}
use Rattle.sml_objects.proofs.Puts.{same_ident}

turned : (x y : Id) (o : Ordering) → order_of x y ≡ o → order_of y x ≡ ordering_reverse o
turned x y o h = nat_list_cmp_total.antisymm y x ∙ ap ordering_reverse h

-- x is below each identifier of the map
abbrev pub IsBelow : {X : Type 0} → Id → Map X → Type 0
IsBelow x [] = Unit {0}
IsBelow x (e ∷ m) = (order_of x e.0 ≡ Less) × IsBelow x m

abbrev pub IsRising : {X : Type 0} → Map X → Type 0
IsRising [] = Unit {0}
IsRising (e ∷ m) = IsBelow e.0 m × IsRising m

below-trans : {X : Type 0} (x y : Id) (m : Map X) → order_of x y ≡ Less → IsBelow y m → IsBelow x m
below-trans x y [] h b = tt
below-trans x y (e ∷ m) h b = (nat_list_cmp_total.trans x y e.0 h b.0, below-trans x y m h b.1)

below-put : {X : Type 0} (y x : Id) (v : X) (m : Map X) → order_of y x ≡ Less → IsBelow y m → IsBelow y (put x v m)
below-put y x v [] h b = (h, tt)
below-put {X} y x v (e ∷ m) h b = go (order_of x e.0) (below-put y x v m h b.1)
  where
    go : (o : Ordering) → IsBelow y (put x v m) → IsBelow y (by_order o ((x, v) ∷ e ∷ m) ((e.0, v) ∷ m) (e ∷ put x v m))
    go Less k = (h, b)
    go Equal k = b
    go Greater k = (b.0, k)

pub rising-put : {X : Type 0} (x : Id) (v : X) (m : Map X) → IsRising m → IsRising (put x v m)
rising-put x v [] h = (tt, tt)
rising-put {X} x v (e ∷ m) h = go (order_of x e.0) refl (rising-put x v m h.1)
  where
    go : (o : Ordering) → order_of x e.0 ≡ o → IsRising (put x v m) → IsRising (by_order o ((x, v) ∷ e ∷ m) ((e.0, v) ∷ m) (e ∷ put x v m))
    go Less i k = ((i, below-trans x e.0 m i h.0), h)
    go Equal i k = h
    go Greater i k = (below-put e.0 x v m (turned x e.0 Greater i) h.0, k)

pub rising-join : {X : Type 0} (m n : Map X) → IsRising m → IsRising (join m n)
rising-join m [] h = h
rising-join m (e ∷ n) h = rising-join (put e.0 e.1 m) n (rising-put e.0 e.1 m h)

itself : (x : Id) → order_of x x ≡ Equal
itself x = alike (order_of x x) (nat_list_cmp_total.antisymm x x)
  where
    alike : (o : Ordering) → o ≡ ordering_reverse o → o ≡ Equal
    alike Less h = cc
    alike Equal h = refl
    alike Greater h = cc

-- the same put twice
put-again : {X : Type 0} (x : Id) (v w : X) (m : Map X) → put x v (put x w m) ≡ put x v m
put-again x v w [] = ap (λ o. by_order o ((x, v) ∷ (x, w) ∷ []) ((x, v) ∷ []) ((x, w) ∷ (x, v) ∷ [])) (itself x)
put-again {X} x v w (e ∷ m) = go (order_of x e.0) refl (put-again x v w m)
  where
    go : (o : Ordering) → order_of x e.0 ≡ o → put x v (put x w m) ≡ put x v m
        → put x v (by_order o ((x, w) ∷ e ∷ m) ((e.0, w) ∷ m) (e ∷ put x w m)) ≡ by_order o ((x, v) ∷ e ∷ m) ((e.0, v) ∷ m) (e ∷ put x v m)
    go Less i k = ap (λ o. by_order o ((x, v) ∷ (x, w) ∷ e ∷ m) ((x, v) ∷ e ∷ m) ((x, w) ∷ put x v (e ∷ m))) (itself x)
    go Equal i k = ap (λ o. by_order o ((x, v) ∷ (e.0, w) ∷ m) ((e.0, v) ∷ m) ((e.0, w) ∷ put x v m)) i
    go Greater i k = ap (λ o. by_order o ((x, v) ∷ e ∷ put x w m) ((e.0, v) ∷ put x w m) (e ∷ put x v (put x w m))) i ∙ ap (λ l. e ∷ l) k

-- what put does at the head of a map
at-less : {X : Type 0} (x : Id) (v : X) (e : Id × X) (m : Map X) → order_of x e.0 ≡ Less → put x v (e ∷ m) ≡ (x, v) ∷ e ∷ m
at-less x v e m h = ap (λ o. by_order o ((x, v) ∷ e ∷ m) ((e.0, v) ∷ m) (e ∷ put x v m)) h

at-equal : {X : Type 0} (x : Id) (v : X) (e : Id × X) (m : Map X) → order_of x e.0 ≡ Equal → put x v (e ∷ m) ≡ (e.0, v) ∷ m
at-equal x v e m h = ap (λ o. by_order o ((x, v) ∷ e ∷ m) ((e.0, v) ∷ m) (e ∷ put x v m)) h

at-greater : {X : Type 0} (x : Id) (v : X) (e : Id × X) (m : Map X) → order_of x e.0 ≡ Greater → put x v (e ∷ m) ≡ e ∷ put x v m
at-greater x v e m h = ap (λ o. by_order o ((x, v) ∷ e ∷ m) ((e.0, v) ∷ m) (e ∷ put x v m)) h

-- two put in either order
put-swap : {X : Type 0} (x y : Id) (v w : X) (m : Map X) → order_of x y ≡ Less → put y w (put x v m) ≡ put x v (put y w m)
put-swap x y v w [] h = at-greater y w (x, v) [] (turned x y Less h) ∙ sym (at-less x v (y, w) [] h)
put-swap {X} x y v w (e ∷ m) h = go (order_of x e.0) (order_of y e.0) refl refl (put-swap x y v w m h)
  where
    back : order_of y x ≡ Greater
    back = turned x y Less h

    go : (o q : Ordering) → order_of x e.0 ≡ o → order_of y e.0 ≡ q → put y w (put x v m) ≡ put x v (put y w m)
        → put y w (put x v (e ∷ m)) ≡ put x v (put y w (e ∷ m))
    go Less Less i j k =
        ap (put y w) (at-less x v e m i) ∙ at-greater y w (x, v) (e ∷ m) back ∙ ap (λ l. (x, v) ∷ l) (at-less y w e m j)
        ∙ sym (ap (put x v) (at-less y w e m j) ∙ at-less x v (y, w) (e ∷ m) h)
    go Less Equal i j k =
        ap (put y w) (at-less x v e m i) ∙ at-greater y w (x, v) (e ∷ m) back ∙ ap (λ l. (x, v) ∷ l) (at-equal y w e m j)
        ∙ sym (ap (put x v) (at-equal y w e m j) ∙ at-less x v (e.0, w) m i)
    go Less Greater i j k =
        ap (put y w) (at-less x v e m i) ∙ at-greater y w (x, v) (e ∷ m) back ∙ ap (λ l. (x, v) ∷ l) (at-greater y w e m j)
        ∙ sym (ap (put x v) (at-greater y w e m j) ∙ at-less x v e (put y w m) i)
    go Equal q i j k =
        let above : order_of y e.0 ≡ Greater = ap (order_of y) (sym (same_ident x e.0 i)) ∙ back in
        ap (put y w) (at-equal x v e m i) ∙ at-greater y w (e.0, v) m above
        ∙ sym (ap (put x v) (at-greater y w e m above) ∙ at-equal x v e (put y w m) i)
    go Greater q i j k =
        let above : order_of y e.0 ≡ Greater = turned e.0 y Less (nat_list_cmp_total.trans e.0 x y (turned x e.0 Greater i) h) in
        ap (put y w) (at-greater x v e m i) ∙ at-greater y w e (put x v m) above ∙ ap (λ l. e ∷ l) k
        ∙ sym (ap (put x v) (at-greater y w e m above) ∙ at-greater x v e (put y w m) i)

-- what is put below all that is joined may be put first
put-below : {X : Type 0} (x : Id) (v : X) (m n : Map X) → IsBelow x n → put x v (join m n) ≡ join (put x v m) n
put-below x v m [] b = refl
put-below x v m (e ∷ n) b = put-below x v (put e.0 e.1 m) n b.1 ∙ ap (λ l. join l n) (sym (put-swap x e.0 v e.1 m b.0))

pub join-put : {X : Type 0} (x : Id) (v : X) (m n : Map X) → IsRising n → join m (put x v n) ≡ put x v (join m n)
join-put x v m [] h = refl
join-put {X} x v m (e ∷ n) h = go (order_of x e.0) refl (join-put x v (put e.0 e.1 m) n h.1)
  where
    go : (o : Ordering) → order_of x e.0 ≡ o → join (put e.0 e.1 m) (put x v n) ≡ put x v (join (put e.0 e.1 m) n)
        → join m (put x v (e ∷ n)) ≡ put x v (join (put e.0 e.1 m) n)
    go Less i k =
        ap (join m) (at-less x v e n i)
        ∙ sym (put-below x v m (e ∷ n) (i, below-trans x e.0 n i h.0))
    go Equal i k =
        ap (join m) (at-equal x v e n i)
        ∙ ap (λ l. join l n) (sym (put-again e.0 v e.1 m))
        ∙ sym (put-below e.0 v (put e.0 e.1 m) n h.0)
        ∙ ap (λ y. put y v (join (put e.0 e.1 m) n)) (sym (same_ident x e.0 i))
    go Greater i k = ap (join m) (at-greater x v e n i) ∙ k

pub join-nest : {X : Type 0} (m n p : Map X) → IsRising n → join m (join n p) ≡ join (join m n) p
join-nest m n [] h = refl
join-nest m n (e ∷ p) h = join-nest m (put e.0 e.1 n) p (rising-put e.0 e.1 n h) ∙ ap (λ l. join l p) (join-put e.0 e.1 m n h)

-- what is put below all
put-first : {X : Type 0} (x : Id) (v : X) (m : Map X) → IsBelow x m → put x v m ≡ (x, v) ∷ m
put-first x v [] h = refl
put-first x v (e ∷ m) h = at-less x v e m h.0

pub join-none : {X : Type 0} (m : Map X) → IsRising m → join [] m ≡ m
join-none [] h = refl
join-none (e ∷ m) h = sym (put-below e.0 e.1 [] m h.0) ∙ ap (put e.0 e.1) (join-none m h.1) ∙ put-first e.0 e.1 m h.0

-- the values that are constructors

below-numbered : {N : Type 0} (x : Id) (k n : ℕ) (m : Map (Scheme N)) → IsBelow x m → IsBelow x (constructors_from k n m)
below-numbered x k n [] h = tt
below-numbered x k n (e ∷ m) h = (h.0, below-numbered x (suc k) n m h.1)

rising-numbered : {N : Type 0} (k n : ℕ) (m : Map (Scheme N)) → IsRising m → IsRising (constructors_from k n m)
rising-numbered k n [] h = tt
rising-numbered k n (e ∷ m) h = (below-numbered e.0 (suc k) n m h.0, rising-numbered (suc k) n m h.1)

rising-constructors : {N : Type 0} (t : MlType N) (es : List Bool) (cs : Arguments N) → IsRising (constructors_of t es cs)
rising-constructors t es [] = tt
rising-constructors t es (c ∷ cs) = rising-put c.0 (constructor_scheme es (constructor_type t c.1)) (constructors_of t es cs) (rising-constructors t es cs)

-- no structures, and the other maps in order
abbrev IsPlain : {N : Type 0} → Env N → Type 0
IsPlain E = (structures E ≡ no_structure) × IsRising (types E) × IsRising (values E)

plain-datatype : {P N : Type 0} (d : DatBind P) (n : N) (cs : Arguments N) → IsPlain (datatype_env d n cs)
plain-datatype d n cs =
    let made = constructors_of (app (name n) (types_from free 0 (length d.variables))) (map (λ x. is_equality x.id) d.variables) cs in
    (refl, (tt, tt), rising-numbered 0 (length made) made (rising-constructors (app (name n) (types_from free 0 (length d.variables))) (map (λ x. is_equality x.id) d.variables) cs))

plain-extend : {N : Type 0} (E F : Env N) → IsPlain E → IsPlain F → IsPlain (extend E F)
plain-extend (maps ss ts vs) (maps rs us ws) h k =
    (ap (join_structures ss) k.0 ∙ h.0, rising-join ts us h.1, rising-join vs ws h.2)

plain-datatypes : {P N : Type 0} (ds : List (DatBind P)) (gs : List (N × Arguments N)) → IsPlain (datatype_envs ds gs)
plain-datatypes [] gs = (refl, tt, tt)
plain-datatypes (d ∷ ds) [] = (refl, tt, tt)
plain-datatypes (d ∷ ds) (g ∷ gs) = plain-extend (datatype_env d g.0 g.1) (datatype_envs ds gs) (plain-datatype d g.0 g.1) (plain-datatypes ds gs)

extend-nest : {N : Type 0} (E F G : Env N) → IsPlain F → IsPlain G → extend E (extend F G) ≡ extend (extend E F) G
extend-nest (maps ss ts vs) (maps rs us ws) (maps qs xs ys) h k =
    λ i. maps (both i) (join-nest ts us xs h.1 i) (join-nest vs ws ys h.2 i)
  where
    both : join_structures ss (join_structures rs qs) ≡ join_structures (join_structures ss rs) qs
    both =
        ap (λ q. join_structures ss (join_structures rs q)) k.0
        ∙ sym (ap (λ q. join_structures (join_structures ss rs) q) k.0)

extend-empty : {N : Type 0} (E : Env N) → IsPlain E → extend empty E ≡ E
extend-empty (maps ss ts vs) h = λ i. maps ((ap (join_structures no_structure) h.0 ∙ sym h.0) i) (join-none ts h.1 i) (join-none vs h.2 i)

-- datatypes put one after the other
abbrev pub put_all : {P N : Type 0} → Env N → List (DatBind P × (N × Arguments N)) → Env N
put_all E [] = E
put_all E (r ∷ rs) = put_all (extend E (datatype_env r.0 r.1.0 r.1.1)) rs

pub put_all-push : {P N : Type 0} (E : Env N) (rs : List (DatBind P × (N × Arguments N))) (r : DatBind P × (N × Arguments N))
    → put_all E (rs ++ (r ∷ [])) ≡ extend (put_all E rs) (datatype_env r.0 r.1.0 r.1.1)
put_all-push E [] r = refl
put_all-push E (q ∷ rs) r = put_all-push (extend E (datatype_env q.0 q.1.0 q.1.1)) rs r

put_all-extends : {P N : Type 0} (E : Env N) (rs : List (DatBind P × (N × Arguments N))) → put_all E rs ≡ extend E (datatype_envs (map (λ r. r.0) rs) (map (λ r. r.1) rs))
put_all-extends (maps ss ts vs) [] = refl
put_all-extends E (r ∷ rs) =
    let D = datatype_env r.0 r.1.0 r.1.1 in
    let rest = datatype_envs (map (λ r. r.0) rs) (map (λ r. r.1) rs) in
    put_all-extends (extend E D) rs
    ∙ sym (extend-nest E D rest (plain-datatype r.0 r.1.0 r.1.1) (plain-datatypes (map (λ r. r.0) rs) (map (λ r. r.1) rs)))

pub put_all-envs : {P N : Type 0} (rs : List (DatBind P × (N × Arguments N))) → put_all empty rs ≡ datatype_envs (map (λ r. r.0) rs) (map (λ r. r.1) rs)
put_all-envs rs = put_all-extends empty rs ∙ extend-empty (datatype_envs (map (λ r. r.0) rs) (map (λ r. r.1) rs)) (plain-datatypes (map (λ r. r.0) rs) (map (λ r. r.1) rs))
