-- What declarations of the core bind has no overloaded identifier, where the structures of their environment have none.
use Rattle.std.specs.Prelude.{◌≡◌, ◌++◌, false, List, [], ◌∷◌, map, Option, Some, None}
use Rattle.std.specs.declared.cmp.Ordering.{Ordering}
use Rattle.std.specs.declared.cmp.Ordering.TheVariants.{Less, Equal, Greater}
use mathlib.Core.Path.{refl, sym, subst}
use mathlib.Core.Logic.{inl, inr}
use Rattle.sml_tree.specs.Trees.{Id, LongId}
use Rattle.sml_tree.specs.Names.{LongName}
use Rattle.sml_tree.specs.Withtype.{dat_replaced}
use Rattle.sml_tree.specs.Expressions.{Dec, Decs, DatBind, ExnBind, TypBind, new_exception, exception_copy, val_dec, type_dec, datatype_dec, datatype_with, datatype_copy, exception_dec, local_dec, sequence_dec, open_dec, fixity_dec, no_dec, and_dec}
use Rattle.sml_objects.specs.Maps.{Map, by_order, order_of, put}
use Rattle.sml_objects.specs.Names.{Naming}
use Rattle.sml_objects.specs.Objects.{MlType, Scheme}
use Rattle.sml_rules.specs.Answers.{Answer, refused, accepted}
use Rattle.sml_rules.specs.Lookups.{found, no_path}
use Rattle.sml_rules.proofs.Sound.{not_refused}
use Rattle.sml_core_rules.specs.Datatypes.{Arguments}
use Rattle.sml_core_rules.specs.Expressions.{Begun, Bound, bounds, closed_values, end_values, read_types, read_datatypes, read_exceptions, read_opened, read_dec, read_decs, read_exp}
use Rattle.sml_core_rules.specs.Lookups.{find_at, found_in, structure_at}
use Rattle.sml_core_rules.specs.Objects.{Env, Structures, TyStr, Value, maps, no_structure, and_structure, structures, find_structure, empty, extend}
use Rattle.sml_core_rules.specs.Rules.{BindsException, BindExceptions, Opens}
use Rattle.sml_core_rules.specs.Scripts.{Script, makes_datatypes, ◌>>=◌, look, IsAnswer}
use Rattle.sml_core_rules.specs.States.{Scope, State, with_made}
use Rattle.sml_core_rules.proofs.Accepted.{bind-accepted}
use Rattle.sml_core_rules.proofs.Derived.{exceptions-to, opened-to}
use Rattle.sml_core_laws.proofs.MadeTypes.{Each, each-put}
use Rattle.sml_module_laws.specs.Made.{IsNotOverloaded, HasNoOverloaded, HaveNoOverloaded}
use Rattle.sml_module_laws.proofs.Bodies.{IsUsual, join-usual, extend-usual, empty-usual, types-usual, values-usual, type-usual, datatypes-usual}
use Rattle.sml_module_laws.proofs.Windows.{Brings, brings, brings-then}

module _ {N : Type 0} where
  -- structures that are found

  found-usual : (s : Id) (ss : Structures (TyStr N) (Value N)) (E : Env N) → HaveNoOverloaded ss → find_structure s ss ≡ Some E → HasNoOverloaded E
  unfolding HasNoOverloaded
  found-usual s no_structure E h e = let f : None ≡ Some E = e in absurd cc
  found-usual s (and_structure r D ss) E h e = go (order_of s r) e (λ e. found-usual s ss E h.1 e)
    where
      go : (o : Ordering) → by_order o (find_structure s ss) (Some D) (find_structure s ss) ≡ Some E → (find_structure s ss ≡ Some E → HasNoOverloaded E) → HasNoOverloaded E
      go Less e k = k e
      go Equal e k = let f : Some D ≡ Some E = e in let g : D ≡ E = cc in subst HasNoOverloaded g h.0
      go Greater e k = k e

  own-usual : (E : Env N) → HasNoOverloaded E → HaveNoOverloaded (structures E)
  unfolding HasNoOverloaded
  own-usual (maps ss ts vs) h = h.0

  abbrev whole : Env N → Option (Env N)
  whole E = Some E

  under : (s : Id) (path seen : List Id) (E D : Env N) → HaveNoOverloaded (structures E) → ((F : Env N) → HasNoOverloaded F → find_at whole (seen ++ s ∷ []) path F ≡ found D → HasNoOverloaded D)
      → find_at whole seen (s ∷ path) E ≡ found D → HasNoOverloaded D
  unfolding find_at
  under s path seen E D h next e = go (find_structure s (structures E)) (λ F f. found-usual s (structures E) F h f) e
    where
      go : (o : Option (Env N)) → ((F : Env N) → o ≡ Some F → HasNoOverloaded F) → found_in (seen ++ s ∷ []) (find_at whole (seen ++ s ∷ []) path) o ≡ found D → HasNoOverloaded D
      go None k e = let f : no_path (seen ++ s ∷ []) ≡ found D = e in absurd cc
      go (Some F) k e = next F (k F refl) e

  inside-usual : (path seen : List Id) (E D : Env N) → HasNoOverloaded E → find_at whole seen path E ≡ found D → HasNoOverloaded D
  unfolding find_at
  inside-usual [] seen E D h e = let f : found E ≡ found D = e in let g : E ≡ D = cc in subst HasNoOverloaded g h
  inside-usual (s ∷ path) seen E D h e = under s path seen E D (own-usual E h) (λ F f k. inside-usual path (seen ++ s ∷ []) F D f k) e

  pub structure-usual : (C : Env N) (x : LongId) (E : Env N) → HaveNoOverloaded (structures C) → structure_at C x ≡ found E → HasNoOverloaded E
  unfolding structure_at
  structure-usual C x E h e = go x.path e
    where
      go : (ps : List Id) → find_at whole [] (ps ++ x.last ∷ []) C ≡ found E → HasNoOverloaded E
      go [] e = under x.last [] [] C E h (λ F f k. inside-usual [] (x.last ∷ []) F E f k) e
      go (p ∷ ps) e = under p (ps ++ x.last ∷ []) [] C E h (λ F f k. inside-usual (ps ++ x.last ∷ []) (p ∷ []) F E f k) e

  pub extend-inside : (C E : Env N) → HaveNoOverloaded (structures C) → HasNoOverloaded E → HaveNoOverloaded (structures (extend C E))
  unfolding HasNoOverloaded
  extend-inside (maps ss ts vs) (maps rs us ws) h k = join-usual ss rs h k.0

  -- what is bound

  opened-usual : {P : Type 0} (C F : Env N) (ss : List (LongName P)) (E : Env N) → HaveNoOverloaded (structures C) → HasNoOverloaded F → Opens C F ss E → HasNoOverloaded E
  unfolding Opens
  opened-usual C F [] E h i k = subst HasNoOverloaded (sym k) i
  opened-usual C F (s ∷ ss) E h i (G, f, k) = opened-usual C (extend F G) ss E h (extend-usual F G i (structure-usual C s.id G h f)) k

  exceptions-usual : {P : Type 0} (names : Naming N) (C : Env N) (vs : Map (MlType N)) (m : Map (Value N)) (bs : List (ExnBind P)) (xs : Map (Value N)) → Each IsUsual m → BindExceptions names C vs m bs xs → Each IsUsual xs
  unfolding BindExceptions
  exceptions-usual {P} names C vs m [] xs i h = subst (Each IsUsual) (sym h) i
  exceptions-usual {P} names C vs m (b ∷ bs) xs i (x, v, h, k) = exceptions-usual names C vs (put x v m) bs xs (each-put IsUsual x v m (go b h) i) k
    where
      go : (b : ExnBind P) → BindsException names C vs b x v → IsUsual v
      go (new_exception c) (a, h, e, f) = subst IsUsual (sym f) tt
      go (exception_copy y z) h = subst IsNotOverloaded (sym h.1) tt

  closed-usual : (bs : List (Bound N)) (σs : List (Scheme N)) → Each IsUsual (closed_values bs σs)
  closed-usual [] σs = tt
  closed-usual (b ∷ bs) [] = tt
  closed-usual (b ∷ bs) (σ ∷ σs) = each-put IsUsual b.id _ (closed_values bs σs) tt (closed-usual bs σs)

module _ {P N : Type 0} {scope : Scope N} where
  brings-first : {X Y : Type 0} {m : Script P N X} {f : X → Script P N Y} {F : X → Type 0} {G : Y → Type 0} → Brings scope m F → ((x : X) → F x → Brings scope (f x) G) → Brings scope (m >>= f) G
  brings-first {X} {Y} {m} {f} {F} {G} h k = record { of = λ s r a. let b = bind-accepted scope m f s r a in let i : Brings scope (f b.0.0) G = k b.0.0 (h.of s b.0 b.1) in i.of b.0.1 r b.2 }

  looked : {X : Type 0} {F : X → Type 0} (a : Answer P X) → ((x : X) → a ≡ accepted x → F x) → Brings scope (look a) F
  unfolding IsAnswer
  looked (refused f) h = record { of = λ s r a. absurd (not_refused a) }
  looked (accepted x) h = brings (h x refl)

  named : {X : Type 0} {F : X → Type 0} {C : Env N} {ds : List (DatBind P)} {k : List N → List (Arguments N) → Script P N X} → ((ns : List N) (gs : List (Arguments N)) → Brings scope (k ns gs) F) → Brings scope (makes_datatypes C ds k) F
  unfolding IsAnswer
  named {X} {F} {C} {ds} {k} h = record { of = λ s r a. go s r a }
    where
      go : (s : State P N) (r : X × State P N) → IsAnswer scope (makes_datatypes C ds k) s (accepted r) → F r.0
      go s r (ns, new, made, inl x) = absurd (not_refused x.2)
      go s r (ns, new, made, inr (gs, e, admits, a)) = let i : Brings scope (k ns gs) F = h ns gs in i.of (with_made ns s) r a

  values-end : (p : P) (b : Begun P N) (bs : List (Bound N)) → Brings scope (end_values scope p b bs) HasNoOverloaded
  values-end p b bs =
      brings-then _ (λ s. brings-then _ (λ u. brings-then _ (λ v. brings-then _ (λ w. brings-then _ (λ g. brings-then _ (λ x. brings-then _ (λ σs. brings-then _ (λ y.
      brings (values-usual (closed_values bs σs) (closed-usual bs σs))))))))))

  types-bring : (p : P) (C : Env N) (bs : List (TypBind P)) → Brings scope (read_types scope p C bs) HasNoOverloaded
  types-bring p C bs = brings-then _ (λ ts. brings-then _ (λ u. brings (types-usual ts)))

  datatypes-bring : (p : P) (C : Env N) (ds : List (DatBind P)) → Brings scope (read_datatypes scope p C ds) HasNoOverloaded
  datatypes-bring p C ds = named (λ ns gs. brings-then _ (λ u. brings (datatypes-usual ds _)))

  mutual
    unfolding read_exp

    decs-bring : (C : Env N) (vs : Map (MlType N)) (F : Env N) (ds : Decs P) → HaveNoOverloaded (structures C) → HasNoOverloaded F → Brings scope (read_decs scope C vs F ds) HasNoOverloaded
    decs-bring C vs F no_dec h k = brings k
    decs-bring C vs F (and_dec d ds) h k = brings-first (dec-brings C vs d h) (λ E e. decs-bring (extend C E) vs (extend F E) ds (extend-inside C E h e) (extend-usual F E k e))

    pub dec-brings : (C : Env N) (vs : Map (MlType N)) (d : Dec P) → HaveNoOverloaded (structures C) → Brings scope (read_dec scope C vs d) HasNoOverloaded
    dec-brings C vs (val_dec p xs bs rs) h = brings-then _ (λ b. brings-then _ (λ r. brings-then _ (λ q. brings-then _ (λ u. values-end p b (r.1 ++ bounds false q.1)))))
    dec-brings C vs (type_dec p bs) h = types-bring p C bs
    dec-brings C vs (datatype_dec p ds) h = datatypes-bring p C ds
    dec-brings C vs (datatype_with p ds bs) h =
        brings-first (datatypes-bring p C (map (dat_replaced bs) ds)) (λ E e. brings-first (types-bring p (extend C E) bs) (λ F f. brings (extend-usual E F e f)))
    dec-brings C vs (datatype_copy p x c) h = brings-then _ (λ t. brings (type-usual x.id t))
    dec-brings C vs (exception_dec p bs) h =
        brings-first (looked {F = Each IsUsual} (read_exceptions scope C vs [] bs) (λ m e. exceptions-usual scope.names C vs [] bs m tt (exceptions-to scope C vs [] bs m e))) (λ m k. brings-then _ (λ u. brings (values-usual m k)))
    dec-brings C vs (local_dec p ds es) h = brings-first (decs-bring C vs empty ds h (empty-usual N)) (λ E e. decs-bring (extend C E) vs empty es (extend-inside C E h e) (empty-usual N))
    dec-brings C vs (sequence_dec p ds) h = decs-bring C vs empty ds h (empty-usual N)
    dec-brings C vs (open_dec p ss) h = looked (read_opened scope C empty ss) (λ E e. opened-usual C empty ss E h (empty-usual N) (opened-to scope C empty ss E e))
    dec-brings C vs (fixity_dec p) h = brings (empty-usual N)
