-- Names that are collected in the order of appearance, where only some are wanted.
use Rattle.std.proofs.Common.{◌≡◌, ℕ, Bool, true, false, cond, List, [], ◌∷◌, ◌++◌, map, filter, refl, ap, ◌∙◌, sym, Vec, Global, Bor, append-nil, append_assoc}
use Rattle.std.proofs.lemmas.List.{map-append}
use Rattle.std.proofs.lemmas.List.Elements.{filter-append}
use Rattle.std.specs.Bool.{if◌then◌else◌}
use Rattle.std.specs.List.{list_any}
use Rattle.std.specs.Map.Iter.{deref_pair}
use Rattle.std.specs.declared.rc.Rc.{Rc}
use Rattle.sml_tree.specs.Trees.{Id}
use Rattle.sml_tree.specs.Views.{ident_of}
use Rattle.sml_objects.specs.Appearance.{firsts_after, stands}
use Rattle.sml_objects.specs.Initial.{Name, naming}
use Rattle.sml_objects.specs.Maps.{Map}
use Rattle.sml_objects.specs.Views.{entries_of, name_of}
use Rattle.sml_objects.specs.declared.objects.TyName.{TyName}
use Rattle.sml_objects.proofs.Appearances.{firsts-append, inserted-first, unchanged}
use Rattle.sml_objects.proofs.NameTests.{eq}
use Rattle.sml_core_rules.specs.Objects.{Env, names_in, names_map, names_structures}
use Rattle.sml_bases.specs.Views.{env_of, structures_of, ty_str_of, value_of}
use Rattle.sml_bases.specs.declared.objects.Env.{Env as Held}
use Rattle.sml_bases.specs.declared.objects.Env.TheViews.{out-Env}
use Rattle.sml_bases.proofs.EnvViews.{env_of-out}
use Rattle.sml_envs.specs.Appearing.{appear_env, appear_ty_str, appear_value}

-- the names of a map with one entry more
names-push : {X : Type 0} (f : X → List Name) (m : Map X) (x : Id) (y : X) → names_map f (m ++ ((x, y) ∷ [])) ≡ names_map f m ++ f y
names-push f [] x y = append-nil (f y)
names-push f (e ∷ m) x y = ap (λ ns. f e.1 ++ ns) (names-push f m x y) ∙ sym (append_assoc (f e.1) (names_map f m) (f y))

-- a stored identifier
abbrev Key : Type 0
Key = Rc (Vec ℕ Global) Global

-- the names of what a loop has yielded, with one entry more
names-more : {A X : Type 0} (see : A → X) (f : X → List Name) (xs : List (Bor Key × Bor A)) (k : Bor Key) (a : Bor A)
    → names_map f (entries_of see (map deref_pair (xs ++ ((k, a) ∷ [])))) ≡ names_map f (entries_of see (map deref_pair xs)) ++ f (see a.now)
names-more {A} see f xs k a =
    ap (λ l. names_map f (entries_of see l)) (map-append deref_pair xs ((k, a) ∷ []))
    ∙ ap (names_map f) (map-append (λ (e : Key × A). (ident_of e.0, see e.1)) (map deref_pair xs) ((k.now, a.now) ∷ []))
    ∙ names-push f (entries_of see (map deref_pair xs)) (ident_of k.now) (see a.now)

-- the names of a map of structures
abbrev pub appear_structures : Map (Env Name) → List Name
appear_structures m = names_structures appear_ty_str appear_value (structures_of m)

-- no structure has names
pub structures-none : appear_structures [] ≡ []
unfolding names_structures
structures-none = refl

-- the names of structures with one more
structures-push : (m : Map (Env Name)) (x : Id) (E : Env Name) → appear_structures (m ++ ((x, E) ∷ [])) ≡ appear_structures m ++ appear_env E
unfolding names_structures
structures-push [] x E = append-nil (appear_env E)
structures-push (e ∷ m) x E =
    ap (λ ns. appear_env e.1 ++ ns) (structures-push m x E) ∙ sym (append_assoc (appear_env e.1) (appear_structures m) (appear_env E))

-- the names of the structures that a loop has yielded, with one more
structures-more : {A : Type 0} (see : A → Env Name) (xs : List (Bor Key × Bor A)) (k : Bor Key) (a : Bor A)
    → appear_structures (entries_of see (map deref_pair (xs ++ ((k, a) ∷ [])))) ≡ appear_structures (entries_of see (map deref_pair xs)) ++ appear_env (see a.now)
structures-more {A} see xs k a =
    ap (λ l. appear_structures (entries_of see l)) (map-append deref_pair xs ((k, a) ∷ []))
    ∙ ap appear_structures (map-append (λ (e : Key × A). (ident_of e.0, see e.1)) (map deref_pair xs) ((k.now, a.now) ∷ []))
    ∙ structures-push (entries_of see (map deref_pair xs)) (ident_of k.now) (see a.now)

-- the names of an environment, map by map
pub appear-parts : (e : Held)
    → appear_env (env_of e)
    ≡ (appear_structures (entries_of (λ s. env_of s.value) (out-Env e).structures.entries) ++ names_map appear_ty_str (entries_of ty_str_of (out-Env e).types.entries))
    ++ names_map appear_value (entries_of value_of (out-Env e).values.entries)
unfolding names_in
appear-parts e =
    ap appear_env (env_of-out e)
    ∙ sym (append_assoc (appear_structures (entries_of (λ s. env_of s.value) (out-Env e).structures.entries)) (names_map appear_ty_str (entries_of ty_str_of (out-Env e).types.entries)) (names_map appear_value (entries_of value_of (out-Env e).values.entries)))

-- the two truth values differ
different : true ≡ false → ⊥
different h = cc

-- a name stands in lists that both have one more, if it stands in both
more-stand : (n m : Name) (ks ms : List Name) → stands naming n ks ≡ stands naming n ms → stands naming n (m ∷ ks) ≡ stands naming n (m ∷ ms)
unfolding stands
more-stand n m ks ms e = ap (λ (b : Bool). elim (naming.same n m) [ yes _ ↦ true | no _ ↦ b ]) e

-- another name in front does not make it stand
other-stands : (n m : Name) (ks ms : List Name) → ¬ (n ≡ m) → stands naming n ks ≡ stands naming n ms → stands naming n ks ≡ stands naming n (m ∷ ms)
unfolding stands
other-stands n m ks ms h e =
    elim (naming.same n m) as (λ d. stands naming n ks ≡ (elim d [ yes _ ↦ true | no _ ↦ stands naming n ms ])) [ yes k ↦ absurd (h k) | no _ ↦ e ]

-- Given is which names are wanted.
module _ (p : Name → Bool) where
  -- names are collected one after the other
  pub next : (s a xs ys zs : List Name) → a ≡ firsts_after naming s (filter p xs) → zs ≡ xs ++ ys
      → firsts_after naming a (filter p ys) ≡ firsts_after naming s (filter p zs)
  next s a xs ys zs h e =
      ap (λ l. firsts_after naming l (filter p ys)) h
      ∙ sym (firsts-append s (filter p xs) (filter p ys))
      ∙ ap (firsts_after naming s) (sym (filter-append p xs ys))
      ∙ ap (λ l. firsts_after naming s (filter p l)) (sym e)

  -- the same where a map has one entry more
  pub names-next : {A X : Type 0} (see : A → X) (f : X → List Name) (xs : List (Bor Key × Bor A)) (k : Bor Key) (a : Bor A) (s b ns : List Name)
      → b ≡ firsts_after naming s (filter p (names_map f (entries_of see (map deref_pair xs)))) → ns ≡ f (see a.now)
      → firsts_after naming b (filter p ns) ≡ firsts_after naming s (filter p (names_map f (entries_of see (map deref_pair (xs ++ ((k, a) ∷ []))))))
  names-next see f xs k a s b ns h e =
      next s b (names_map f (entries_of see (map deref_pair xs))) ns _ h
      (names-more see f xs k a ∙ ap (λ l. names_map f (entries_of see (map deref_pair xs)) ++ l) (sym e))

  -- the same where there is one structure more
  pub structures-next : {A : Type 0} (see : A → Env Name) (xs : List (Bor Key × Bor A)) (k : Bor Key) (a : Bor A) (s b ns : List Name)
      → b ≡ firsts_after naming s (filter p (appear_structures (entries_of see (map deref_pair xs)))) → ns ≡ appear_env (see a.now)
      → firsts_after naming b (filter p ns) ≡ firsts_after naming s (filter p (appear_structures (entries_of see (map deref_pair (xs ++ ((k, a) ∷ []))))))
  structures-next see xs k a s b ns h e =
      next s b (appear_structures (entries_of see (map deref_pair xs))) ns _ h
      (structures-more see xs k a ∙ ap (λ l. appear_structures (entries_of see (map deref_pair xs)) ++ l) (sym e))

  -- there is no name to collect
  pub no-more : (s zs : List Name) → zs ≡ [] → s ≡ firsts_after naming s (filter p zs)
  no-more s zs e = unchanged s ∙ ap (λ l. firsts_after naming s (filter p l)) (sym e)

  -- a name that is wanted is inserted
  pub wanted : (n : TyName) (old new : List TyName) → new ≡ (if list_any (eq n) old then old else old ++ (n ∷ [])) → p (name_of n) ≡ true
      → map name_of new ≡ firsts_after naming (map name_of old) (filter p (name_of n ∷ []))
  wanted n old new h k = inserted-first n old new h ∙ ap (λ b. firsts_after naming (map name_of old) (cond b (name_of n ∷ []) [])) (sym k)

  -- another is not
  pub not-wanted : (s : List Name) (n : Name) → p n ≡ false → s ≡ firsts_after naming s (filter p (n ∷ []))
  not-wanted s n k = unchanged s ∙ ap (λ b. firsts_after naming s (cond b (n ∷ []) [])) (sym k)

  -- a wanted name stands among the wanted ones, if it stands at all
  stands-kept : (n : Name) (ms : List Name) → p n ≡ true → stands naming n (filter p ms) ≡ stands naming n ms
  stands-kept n [] h = refl
  stands-kept n (m ∷ ms) h = go (p m) refl (stands-kept n ms h)
    where
      go : (b : Bool) → p m ≡ b → stands naming n (filter p ms) ≡ stands naming n ms
          → stands naming n (cond b (m ∷ filter p ms) (filter p ms)) ≡ stands naming n (m ∷ ms)
      go true k rest = more-stand n m (filter p ms) ms rest
      go false k rest = other-stands n m (filter p ms) ms (λ e. different (sym h ∙ ap p e ∙ k)) rest

  -- the wanted ones of a list to which a name may be added
  added : (b : Bool) (n : Name) (seen : List Name) → filter p (cond b seen (seen ++ n ∷ [])) ≡ cond b (filter p seen) (filter p seen ++ cond (p n) (n ∷ []) [])
  added true n seen = refl
  added false n seen = filter-append p seen (n ∷ [])

  -- nothing is added
  none-added : (b : Bool) (ns : List Name) → cond b ns (ns ++ []) ≡ ns
  none-added true ns = refl
  none-added false ns = append-nil ns

  -- the first of several names, wanted or not
  first-filtered : (seen : List Name) (n : Name) (ns : List Name) (b : Bool) → p n ≡ b
      → firsts_after naming (filter p (cond (stands naming n seen) seen (seen ++ n ∷ []))) ns ≡ firsts_after naming (filter p seen) (cond b (n ∷ ns) ns)
  unfolding firsts_after
  first-filtered seen n ns true h =
      ap (λ s. firsts_after naming s ns)
      (added (stands naming n seen) n seen ∙ (λ i. cond (sym (stands-kept n seen h) i) (filter p seen) (filter p seen ++ cond (h i) (n ∷ []) [])))
  first-filtered seen n ns false h =
      ap (λ s. firsts_after naming s ns)
      (added (stands naming n seen) n seen
      ∙ ap (λ b. cond (stands naming n seen) (filter p seen) (filter p seen ++ cond b (n ∷ []) [])) h
      ∙ none-added (stands naming n seen) (filter p seen))

  -- those of the first appearances are the first appearances of those
  pub firsts-filtered : (seen ns : List Name) → filter p (firsts_after naming seen ns) ≡ firsts_after naming (filter p seen) (filter p ns)
  unfolding firsts_after
  firsts-filtered seen [] = refl
  firsts-filtered seen (n ∷ ns) = firsts-filtered (cond (stands naming n seen) seen (seen ++ n ∷ [])) ns ∙ first-filtered seen n (filter p ns) (p n) refl
