-- Type functions whose bound variables are their own: those of well-formed bases, and those of datatypes beside others.
use Rattle.std.proofs.Common.{◌≡◌, ◌≤◌, ℕ, zero, suc, ◌+◌, false, cond, nat_eq, inl, inr, Option, Some, None, List, [], ◌∷◌, ◌++◌, length, refl, ap, sym, ◌∙◌, subst, arith, ne_eqb}
use Rattle.std.specs.List.{AllByRecursion}
use Rattle.std.proofs.lemmas.List.{length-replicate}
use Rattle.std.specs.declared.cmp.Ordering.{Ordering}
use Rattle.std.specs.declared.cmp.Ordering.TheVariants.{Less, Equal, Greater}
use Rattle.sml_tree.specs.Trees.{Id}
use Rattle.sml_tree.specs.Types.{Ty, Tys, TyFields, ty_variable, ty_row, ty_tuple, ty_constructor, ty_misapplied, ty_arrow, ty_bracket, no_ty, and_ty, ty_field, no_ty_field, and_ty_field}
use Rattle.sml_tree.specs.Expressions.{DatBind}
use Rattle.sml_objects.specs.Appearance.{Stands}
use Rattle.sml_objects.specs.Initial as I
use Rattle.sml_objects.specs.Maps.{Map, lookup, put, join, by_order, order_of}
use Rattle.sml_objects.specs.Names.{Naming}
use Rattle.sml_objects.specs.Objects.{MlType, MlTypes, bound, free, app, no_type, and_type}
use Rattle.sml_objects.proofs.Puts.{at, lookup-put}
use Rattle.sml_rules.specs.Lookups.{found, no_path, no_entry, entry}
use Rattle.sml_core_rules.specs.Datatypes.{types_from, name_function, datatype_types}
use Rattle.sml_core_rules.specs.Lookups.{found_in, find_at, type_at}
use Rattle.sml_core_rules.specs.Objects.{Basis, Env, Maps, Structures, TyStr, maps, no_structure, and_structure, types, find_structure, extend, of_types, names_map, names_in, names_structures}
use Rattle.sml_core_rules.specs.Soundness.{IsBody, AreBodies, IsWellFormed, str_schemes}
use Rattle.sml_type_maps.specs.Counted.{uses_in, uses_in_all}
use Rattle.sml_types.specs.Sides.{MentionsOwn, TypeFunctionsMentionOwn, AppliesOwn, AllApplyOwn, FieldsApplyOwn}

-- maps of which something holds throughout

module _ {X : Type 0} (F : X → Type 0) where
  abbrev AllFound : Map X → Type 0
  AllFound m = (x : Id) (v : X) → lookup x m ≡ Some v → F v

  abbrev Each : Map X → Type 0
  Each m = AllByRecursion (λ e. F e.1) m

  found-put : (x : Id) (v : X) (m : Map X) → F v → AllFound m → AllFound (put x v m)
  found-put x v m f h y w e = go (order_of y x) (sym (lookup-put y x v m) ∙ e)
    where
      go : (o : Ordering) → at o (Some v) (lookup y m) ≡ Some w → F w
      go Less e = h y w e
      go Equal e = let s : Some v ≡ Some w = e in let g : v ≡ w = cc in subst F g f
      go Greater e = h y w e

  found-join : (m n : Map X) → AllFound m → Each n → AllFound (join m n)
  found-join m [] h a = h
  found-join m (e ∷ n) h a = found-join (put e.0 e.1 m) n (found-put e.0 e.1 m a.0 h) a.1

  each-put : (x : Id) (v : X) (m : Map X) → F v → Each m → Each (put x v m)
  each-put x v [] f h = (f, tt)
  each-put x v (e ∷ m) f h = go (order_of x e.0) (each-put x v m f h.1)
    where
      go : (o : Ordering) → Each (put x v m) → Each (by_order o ((x, v) ∷ e ∷ m) ((e.0, v) ∷ m) (e ∷ put x v m))
      go Less k = (f, h)
      go Equal k = (f, h.1)
      go Greater k = (h.0, k)

entry-some : {X : Type 0} (o : Option X) (v : X) → entry o ≡ found v → o ≡ Some v
entry-some None v e = let f : no_entry ≡ found v = e in absurd cc
entry-some (Some w) v e = let f : found w ≡ found v = e in let g : w ≡ v = cc in ap (λ x. Some x) g

-- the parameters of a name, numbered from i on
variables-own : (N : Type 0) (i k j : ℕ) → i + k ≤ j → uses_in_all {N = N} (types_from bound i k) j ≡ 0
unfolding uses_in uses_in_all
variables-own N i zero j l = refl
variables-own N i (suc k) j l =
    let first : ◌≡◌ {A = ℕ} (cond (nat_eq j i) 1 0) 0 = ap (λ b. cond b 1 0) (ne_eqb j i (λ e. omega (arith, e, l))) in
    let rest : uses_in_all {N = N} (types_from bound (suc i) k) j ≡ 0 = variables-own N (suc i) k j (omega (arith, l)) in
    λ h. first h + rest h

-- an environment with more types

module _ {N : Type 0} where
  abbrev Own : TyStr N → Type 0
  Own t = MentionsOwn t.function

  more-types-own : (C : Env N) → TypeFunctionsMentionOwn C → (ms : Map (TyStr N)) → Each Own ms → TypeFunctionsMentionOwn (extend C (of_types ms))
  unfolding find_at type_at
  more-types-own (maps ss ts vs) own ms each c t e = go c.path e
    where
      all : AllFound Own ts
      all x v h = own (record { path = []; last = x }) v (ap entry h)

      go : (path : List Id) → find_at (λ E. lookup c.last (types E)) [] path (extend (maps ss ts vs) (of_types ms)) ≡ found t → Own t
      go [] e = found-join Own ts ms all each c.last t (entry-some (lookup c.last (join ts ms)) t e)
      go (s ∷ path) e = own (record { path = s ∷ path; last = c.last }) t e

  name-own : (n : N) (k : ℕ) → MentionsOwn (name_function n k)
  unfolding uses_in
  name-own n k j l = let same = length-replicate k false in variables-own N 0 k j (omega (arith, l, same))

  datatypes-each : {P : Type 0} (m : Map (TyStr N)) (ds : List (DatBind P)) (ns : List N) → Each Own m → Each Own (datatype_types m ds ns)
  datatypes-each m [] ns h = h
  datatypes-each m (d ∷ ds) [] h = h
  datatypes-each m (d ∷ ds) (n ∷ ns) h =
      let t : TyStr N = record { function = name_function n (length d.variables); constructors = [] } in
      datatypes-each (put d.name.id t m) ds ns (each-put Own d.name.id t m (name-own n (length d.variables)) h)

  -- the environment in which the constructors of datatypes are read
  pub datatypes-own : {P : Type 0} (C : Env N) → TypeFunctionsMentionOwn C → (ds : List (DatBind P)) (ns : List N)
      → TypeFunctionsMentionOwn (extend C (of_types (datatype_types [] ds ns)))
  datatypes-own C own ds ns = more-types-own C own (datatype_types [] ds ns) (datatypes-each [] ds ns tt)

-- what stands in what is found

module _ {A T V : Type 0} (f : T → List A) (g : V → List A) (a : A) where
  stands-left : (xs ys : List A) → Stands a xs → Stands a (xs ++ ys)
  unfolding Stands
  stands-left [] ys h = absurd h
  stands-left (x ∷ xs) ys (inl e) = inl e
  stands-left (x ∷ xs) ys (inr h) = inr (stands-left xs ys h)

  stands-right : (xs ys : List A) → Stands a ys → Stands a (xs ++ ys)
  unfolding Stands
  stands-right [] ys h = h
  stands-right (x ∷ xs) ys h = inr (stands-right xs ys h)

  stands-found : (x : Id) (m : Map T) (t : T) → lookup x m ≡ Some t → Stands a (f t) → Stands a (names_map f m)
  stands-found x [] t e h = let k : None ≡ Some t = e in absurd cc
  stands-found x (d ∷ m) t e h = go (order_of x d.0) e (λ e. stands-right (f d.1) (names_map f m) (stands-found x m t e h))
    where
      go : (o : Ordering) → by_order o (lookup x m) (Some d.1) (lookup x m) ≡ Some t → (lookup x m ≡ Some t → Stands a (names_map f (d ∷ m))) → Stands a (names_map f (d ∷ m))
      go Less e k = k e
      go Equal e k = let s : Some d.1 ≡ Some t = e in let same : d.1 ≡ t = cc in stands-left (f d.1) (names_map f m) (subst (λ t. Stands a (f t)) (sym same) h)
      go Greater e k = k e

  stands-in-structure : (s : Id) (ss : Structures T V) (D : Maps T V) → find_structure s ss ≡ Some D → Stands a (names_in f g D) → Stands a (names_structures f g ss)
  unfolding names_structures
  stands-in-structure s no_structure D e h = let k : None ≡ Some D = e in absurd cc
  stands-in-structure s (and_structure r E ss) D e h = go (order_of s r) e (λ e. stands-right (names_in f g E) (names_structures f g ss) (stands-in-structure s ss D e h))
    where
      go : (o : Ordering) → by_order o (find_structure s ss) (Some E) (find_structure s ss) ≡ Some D
          → (find_structure s ss ≡ Some D → Stands a (names_in f g E ++ names_structures f g ss)) → Stands a (names_in f g E ++ names_structures f g ss)
      go Less e k = k e
      go Equal e k = let z : Some E ≡ Some D = e in let same : E ≡ D = cc in stands-left (names_in f g E) (names_structures f g ss) (subst (λ D. Stands a (names_in f g D)) (sym same) h)
      go Greater e k = k e

  stands-at : (x : Id) (path seen : List Id) (E : Maps T V) (t : T) → find_at (λ E. lookup x (types E)) seen path E ≡ found t → Stands a (f t) → Stands a (names_in f g E)
  unfolding find_at names_in
  stands-at x [] seen (maps ss ts vs) t e h =
      stands-right (names_structures f g ss) (names_map f ts ++ names_map g vs)
      (stands-left (names_map f ts) (names_map g vs) (stands-found x ts t (entry-some (lookup x ts) t e) h))
  stands-at x (s ∷ path) seen (maps ss ts vs) t e h = go (find_structure s ss) refl e (λ D e. stands-at x path (seen ++ s ∷ []) D t e h)
    where
      go : (o : Option (Maps T V)) → find_structure s ss ≡ o → found_in (seen ++ s ∷ []) (find_at (λ E. lookup x (types E)) (seen ++ s ∷ []) path) o ≡ found t
          → ((D : Maps T V) → find_at (λ E. lookup x (types E)) (seen ++ s ∷ []) path D ≡ found t → Stands a (names_in f g D))
          → Stands a (names_structures f g ss ++ (names_map f ts ++ names_map g vs))
      go None at e k = let z : no_path (seen ++ s ∷ []) ≡ found t = e in absurd cc
      go (Some D) at e k = stands-left (names_structures f g ss) (names_map f ts ++ names_map g vs) (stands-in-structure s ss D at (k D e))

-- well-formed bases

module _ {N : Type 0} (names : Naming N) where
  mutual
    unfolding IsBody AreBodies uses_in uses_in_all

    body-own : (n : ℕ) (t : MlType N) → IsBody names n t → (k : ℕ) → n ≤ k → uses_in t k ≡ 0
    body-own n (bound j) h k l = ap (λ b. cond b 1 0) (ne_eqb k j (λ e. omega (arith, e, l, h)))
    body-own n (free v) h k l = refl
    body-own n (app g ts) h k l = bodies-own n ts h.1 k l

    bodies-own : (n : ℕ) (ts : MlTypes N) → AreBodies names n ts → (k : ℕ) → n ≤ k → uses_in_all ts k ≡ 0
    bodies-own n no_type h k l = refl
    bodies-own n (and_type t ts) h k l = λ i. body-own n t h.0 k l i + bodies-own n ts h.1 k l i

-- the type functions of a well-formed basis
pub well-formed-own : (B : Basis I.Name) → IsWellFormed B → TypeFunctionsMentionOwn B.body
unfolding type_at Stands
well-formed-own B well c t e =
    body-own I.naming (length t.function.variables) t.function.body
    (well.bodies t.function (stands-at str_schemes (λ v. v.scheme ∷ []) t.function c.last c.path [] B.body t e (inl refl)))

-- what a type expression applies, where all type functions are such
module _ {P N : Type 0} (C : Env N) (own : TypeFunctionsMentionOwn C) where
  mutual
    unfolding AppliesOwn AllApplyOwn FieldsApplyOwn

    pub applies-own : (u : Ty P) → AppliesOwn C u
    applies-own (ty_variable p x) = tt
    applies-own (ty_row p fs) = fields-apply-own fs
    applies-own (ty_tuple p us) = all-apply-own us
    applies-own (ty_constructor p us c) = (all-apply-own us, own c.id)
    applies-own (ty_misapplied p us c) = all-apply-own us
    applies-own (ty_arrow p u v) = (applies-own u, applies-own v)
    applies-own (ty_bracket p u) = applies-own u

    all-apply-own : (us : Tys P) → AllApplyOwn C us
    all-apply-own no_ty = tt
    all-apply-own (and_ty u us) = (applies-own u, all-apply-own us)

    fields-apply-own : (fs : TyFields P) → FieldsApplyOwn C fs
    fields-apply-own no_ty_field = tt
    fields-apply-own (and_ty_field (ty_field l u) fs) = (applies-own u, fields-apply-own fs)
