-- What a declaration adds to a basis mentions names of the basis, or its own.
use Rattle.std.specs.Prelude.{◌≡◌, Bool, true, false, cond, List, [], ◌∷◌, ◌++◌}
use Rattle.std.specs.declared.cmp.Ordering.{Ordering}
use Rattle.std.specs.declared.cmp.Ordering.TheVariants.{Less, Equal, Greater}
use mathlib.Core.Path.{refl, sym, subst}
use mathlib.Core.Logic.{inl, inr}
use Rattle.sml_tree.specs.Trees.{Id}
use Rattle.sml_objects.specs.Appearance.{Stands, stands}
use Rattle.sml_objects.specs.Maps.{Map, put, join, by_order, order_of}
use Rattle.sml_objects.proofs.Standing.{was_found, right}
use Rattle.sml_rules.specs.Every.{Every}
use Rattle.sml_rules.proofs.Within.{first, last, both}
use Rattle.sml_core_rules.specs.Objects.{Maps, Structures, Basis, maps, no_structure, and_structure, put_structure, join_structures, extend, names_map, names_in, names_structures, names_ty_str, names_scheme, names_sig, names_fun_sig, names_env, names_basis}
use Rattle.sml_core_rules.specs.States.{Scope}
use Rattle.sml_module_rules.specs.Structures.{add_basis, besides}

-- of each name that stands in a list

pub every-stands : {N : Type 0} (P : N → Type 0) (ns : List N) → ((n : N) → Stands n ns → P n) → Every P ns
unfolding Stands
every-stands P [] h = tt
every-stands P (n ∷ ns) h = (h n (inl refl), every-stands P ns (λ m k. h m (inr k)))

pub stands-every : {N : Type 0} (P : N → Type 0) (ns : List N) → Every P ns → (n : N) → Stands n ns → P n
unfolding Stands
stands-every P [] h n k = absurd k
stands-every P (m ∷ ns) h n (inl e) = subst P (sym e) h.0
stands-every P (m ∷ ns) h n (inr k) = stands-every P ns h.1 n k

pub ordered : {X : Type 0} (Q : X → Type 0) (o : Ordering) {a b c : X} → Q a → Q b → Q c → Q (by_order o a b c)
ordered Q Less h k l = h
ordered Q Equal h k l = k
ordered Q Greater h k l = l

module _ {N : Type 0} (P : N → Type 0) where
  module _ {X : Type 0} (f : X → List N) where
    in-put : (x : Id) (v : X) (m : Map X) → Every P (f v) → Every P (names_map f m) → Every P (names_map f (put x v m))
    in-put x v [] h k = both P (f v) [] h tt
    in-put x v (e ∷ m) h k =
        ordered (λ m. Every P (names_map f m)) (order_of x e.0) (both P (f v) (names_map f (e ∷ m)) h k) (both P (f v) (names_map f m) h (last P (f e.1) (names_map f m) k))
        (both P (f e.1) (names_map f (put x v m)) (first P (f e.1) (names_map f m) k) (in-put x v m h (last P (f e.1) (names_map f m) k)))

    in-join : (m n : Map X) → Every P (names_map f m) → Every P (names_map f n) → Every P (names_map f (join m n))
    in-join m [] h k = h
    in-join m (e ∷ n) h k = in-join (put e.0 e.1 m) n (in-put e.0 e.1 m (first P (f e.1) (names_map f n) k) h) (last P (f e.1) (names_map f n) k)

  module _ {T V : Type 0} (f : T → List N) (g : V → List N) where
    in-put-structure : (s : Id) (E : Maps T V) (ss : Structures T V) → Every P (names_in f g E) → Every P (names_structures f g ss) → Every P (names_structures f g (put_structure s E ss))
    unfolding names_structures
    in-put-structure s E no_structure h k = both P (names_in f g E) [] h tt
    in-put-structure s E (and_structure r F ss) h k =
        ordered (λ ss. Every P (names_structures f g ss)) (order_of s r) (both P (names_in f g E) (names_structures f g (and_structure r F ss)) h k)
        (both P (names_in f g E) (names_structures f g ss) h (last P (names_in f g F) (names_structures f g ss) k))
        (both P (names_in f g F) (names_structures f g (put_structure s E ss)) (first P (names_in f g F) (names_structures f g ss) k)
        (in-put-structure s E ss h (last P (names_in f g F) (names_structures f g ss) k)))

    in-join-structures : (ss rs : Structures T V) → Every P (names_structures f g ss) → Every P (names_structures f g rs) → Every P (names_structures f g (join_structures ss rs))
    unfolding names_structures
    in-join-structures ss no_structure h k = h
    in-join-structures ss (and_structure s E rs) h k =
        in-join-structures (put_structure s E ss) rs (in-put-structure s E ss (first P (names_in f g E) (names_structures f g rs) k) h) (last P (names_in f g E) (names_structures f g rs) k)

    in-extend : (E F : Maps T V) → Every P (names_in f g E) → Every P (names_in f g F) → Every P (names_in f g (extend E F))
    unfolding names_in
    in-extend (maps ss ts vs) (maps rs us ws) h k =
        let a = names_structures f g ss in
        let b = names_structures f g rs in
        let h' = last P a (names_map f ts ++ names_map g vs) h in
        let k' = last P b (names_map f us ++ names_map g ws) k in
        both P (names_structures f g (join_structures ss rs)) (names_map f (join ts us) ++ names_map g (join vs ws))
        (in-join-structures ss rs (first P a (names_map f ts ++ names_map g vs) h) (first P b (names_map f us ++ names_map g ws) k))
        (both P (names_map f (join ts us)) (names_map g (join vs ws)) (in-join f ts us (first P (names_map f ts) (names_map g vs) h') (first P (names_map f us) (names_map g ws) k'))
        (in-join g vs ws (last P (names_map f ts) (names_map g vs) h') (last P (names_map f us) (names_map g ws) k')))

  pub in-sum : (B A : Basis N) → Every P (names_basis B) → Every P (names_basis A) → Every P (names_basis (add_basis B A))
  in-sum B A h k =
      let fs = names_map names_fun_sig B.functors in
      let gs = names_map names_sig B.signatures in
      let es = names_env B.body in
      let fs' = names_map names_fun_sig A.functors in
      let gs' = names_map names_sig A.signatures in
      let es' = names_env A.body in
      let h1 = last P B.names (fs ++ (gs ++ es)) h in
      let k1 = last P A.names (fs' ++ (gs' ++ es')) k in
      let h2 = last P fs (gs ++ es) h1 in
      let k2 = last P fs' (gs' ++ es') k1 in
      let f = in-join names_fun_sig B.functors A.functors (first P fs (gs ++ es) h1) (first P fs' (gs' ++ es') k1) in
      let g = in-join names_sig B.signatures A.signatures (first P gs es h2) (first P gs' es' k2) in
      let e = in-extend names_ty_str (λ v. names_scheme v.scheme) B.body A.body (last P gs es h2) (last P gs' es' k2) in
      both P (A.names ++ B.names) _ (both P A.names B.names (first P A.names (fs' ++ (gs' ++ es')) k) (first P B.names (fs ++ (gs ++ es)) h))
      (both P (names_map names_fun_sig (join B.functors A.functors)) _ f (both P (names_map names_sig (join B.signatures A.signatures)) (names_env (extend B.body A.body)) g e))

-- all names that a basis mentions are among its names
abbrev pub IsWhole : {N : Type 0} → Basis N → Type 0
IsWhole {N} B = (n : N) → Stands n (names_basis B) → Stands n B.names

pub whole-sum : {N : Type 0} (B A : Basis N) → IsWhole B → ((n : N) → Stands n (names_basis A) → Stands n (A.names ++ B.names)) → IsWhole (add_basis B A)
whole-sum {N} B A h k =
    let P : N → Type 0 = λ n. Stands n (A.names ++ B.names) in
    stands-every P (names_basis (add_basis B A))
    (in-sum P B A (every-stands P (names_basis B) (λ n s. right n A.names B.names (h n s))) (every-stands P (names_basis A) k))

-- those that are none of the others, with these
module _ {N : Type 0} (scope : Scope N) where
  passed : (m : N) (ns old : List N) (n : N) → Stands n (ns ++ m ∷ old) → Stands n (m ∷ ns ++ old)
  unfolding Stands
  passed m [] old n h = h
  passed m (x ∷ ns) old n (inl e) = inr (inl e)
  passed m (x ∷ ns) old n (inr h) = elim (passed m ns old n h) [ inl e ↦ inl e | inr k ↦ inr (inr k) ]

  pub covered : (old ns : List N) (n : N) → Stands n ns → Stands n (besides scope old ns ++ old)
  unfolding Stands
  covered old [] n h = absurd h
  covered old (m ∷ ns) n h = go (stands scope.names m old) refl h (covered old ns n) (covered (m ∷ old) ns n)
    where
      go : (b : Bool) → stands scope.names m old ≡ b → Stands n (m ∷ ns) → (Stands n ns → Stands n (besides scope old ns ++ old))
          → (Stands n ns → Stands n (besides scope (m ∷ old) ns ++ m ∷ old)) → Stands n (cond b (besides scope old ns) (m ∷ besides scope (m ∷ old) ns) ++ old)
      go true e (inl f) c d = right n (besides scope old ns) old (subst (λ n. Stands n old) (sym f) (was_found scope.names m old e))
      go true e (inr k) c d = c k
      go false e (inl f) c d = inl f
      go false e (inr k) c d = passed m (besides scope (m ∷ old) ns) old n (d k)
