-- Maps put after one another, entry by entry.
use Rattle.std.proofs.Common.{◌≡◌, ℕ, List, [], ◌∷◌, ◌++◌, map, refl, ap, ◌∙◌, sym, Vec, Global}
use Rattle.std.proofs.lemmas.List.{map-append}
use Rattle.std.specs.List.{AllZip}
use Rattle.std.specs.declared.rc.Rc.{Rc}
use Rattle.std.specs.declared.cmp.Ordering.TheVariants.{Less, Equal, Greater}
use Rattle.std.specs.BTreeMap.{insert_entry}
use Rattle.sml_tree.specs.Trees.{Id}
use Rattle.sml_tree.specs.Views.{ident_of}
use Rattle.sml_objects.specs.Maps.{Map, put, join, order_of, by_order}
use Rattle.sml_objects.specs.Objects as O
use Rattle.sml_objects.specs.Initial.{Name}
use Rattle.sml_objects.specs.Views.{env_of, scheme_of, entries_of, structures_of}
use Rattle.sml_objects.specs.declared.objects.Env.{Env}
use Rattle.sml_objects.specs.declared.objects.Env.TheOpen.{Env-F}
use Rattle.sml_objects.specs.declared.objects.Env.TheViews.{roll-Env}
use Rattle.sml_objects.proofs.EnvViews.{map-map, entries-put, structures-put, env_of-roll, parts}

abbrev pub Stored : Type 0 → Type 0
Stored A = List (Rc (Vec ℕ Global) Global × A)

pub join-push : {X : Type 0} (m n : Map X) (x : Id) (v : X) → join m (n ++ ((x, v) ∷ [])) ≡ put x v (join m n)
join-push m [] x v = refl
join-push m (e ∷ n) x v = join-push (put e.0 e.1 m) n x v

-- one entry more
pub joined-next : {A X : Type 0} (f : A → X) (before : Map X) (old new ys zs : Stored A) (k x : Rc (Vec ℕ Global) Global) (v w : A)
    → new ≡ insert_entry (λ x y. order_of (ident_of x) (ident_of y)) old k v → zs ≡ ys ++ ((x, w) ∷ []) → ident_of k ≡ ident_of x → f v ≡ f w
    → entries_of f old ≡ join before (entries_of f ys) → entries_of f new ≡ join before (entries_of f zs)
joined-next f before old new ys zs k x v w inserted yielded key value h =
    ap (entries_of f) inserted
    ∙ entries-put f old k v
    ∙ (λ i. put (key i) (value i) (h i))
    ∙ sym (join-push before (entries_of f ys) (ident_of x) (f w))
    ∙ ap (join before) (sym (map-append (λ e. (ident_of e.0, f e.1)) ys ((x, w) ∷ [])))
    ∙ ap (λ l. join before (entries_of f l)) (sym yielded)

-- the same seen through a function
abbrev pub mapped : {A X : Type 0} → (A → X) → Map A → Map X
mapped g m = map (λ e. (e.0, g e.1)) m

mapped-put : {A X : Type 0} (g : A → X) (m : Map A) (x : Id) (v : A) → mapped g (put x v m) ≡ put x (g v) (mapped g m)
mapped-put g [] x v = refl
mapped-put g (e ∷ m) x v =
    elim (order_of x e.0) as (λ o. mapped g (by_order o ((x, v) ∷ e ∷ m) ((e.0, v) ∷ m) (e ∷ put x v m))
    ≡ by_order o ((x, g v) ∷ mapped g (e ∷ m)) ((e.0, g v) ∷ mapped g m) ((e.0, g e.1) ∷ put x (g v) (mapped g m))) [
      | Less ↦ refl
      | Equal ↦ refl
      | Greater ↦ ap (λ l. (e.0, g e.1) ∷ l) (mapped-put g m x v)
    ]

mapped-join : {A X : Type 0} (g : A → X) (m n : Map A) → mapped g (join m n) ≡ join (mapped g m) (mapped g n)
mapped-join g m [] = refl
mapped-join g m (e ∷ n) = mapped-join g (put e.0 e.1 m) n ∙ ap (λ l. join l (mapped g n)) (mapped-put g m e.0 e.1)

seen-mapped : {A X : Type 0} (g : A → X) (es : Stored (Rc A Global)) → mapped g (entries_of (λ s. s.value) es) ≡ entries_of (λ s. g s.value) es
seen-mapped g es = map-map (λ e. (e.0, g e.1)) (λ e. (ident_of e.0, e.1.value)) es

pub joined-by : {A X : Type 0} (g : A → X) (old other new : Stored (Rc A Global))
    → entries_of (λ s. s.value) new ≡ join (entries_of (λ s. s.value) old) (entries_of (λ s. s.value) other)
    → entries_of (λ s. g s.value) new ≡ join (entries_of (λ s. g s.value) old) (entries_of (λ s. g s.value) other)
joined-by g old other new h =
    sym (seen-mapped g new)
    ∙ ap (mapped g) h
    ∙ mapped-join g (entries_of (λ s. s.value) old) (entries_of (λ s. s.value) other)
    ∙ (λ i. join (seen-mapped g old i) (seen-mapped g other i))

structures-join : (m n : Map (O.Env Name)) → structures_of (join m n) ≡ O.join_structures (structures_of m) (structures_of n)
structures-join m [] = refl
structures-join m (e ∷ n) =
    structures-join (put e.0 e.1 m) n ∙ ap (λ ss. O.join_structures ss (structures_of n)) (structures-put m e.0 e.1)

-- environments whose maps are joined
pub env_of-joined : (old other new : Env-F Env)
    → entries_of (λ s. s.value) new.structures.entries ≡ join (entries_of (λ s. s.value) old.structures.entries) (entries_of (λ s. s.value) other.structures.entries)
    → entries_of (λ s. s.value) new.types.entries ≡ join (entries_of (λ s. s.value) old.types.entries) (entries_of (λ s. s.value) other.types.entries)
    → entries_of (λ s. s.value) new.values.entries ≡ join (entries_of (λ s. s.value) old.values.entries) (entries_of (λ s. s.value) other.values.entries)
    → env_of (roll-Env new) ≡ O.extend_env (parts old) (parts other)
env_of-joined old other new ss ts vs =
    env_of-roll new
    ∙ (λ i. O.env
    ((ap structures_of (joined-by env_of old.structures.entries other.structures.entries new.structures.entries ss)
    ∙ structures-join (entries_of (λ s. env_of s.value) old.structures.entries) (entries_of (λ s. env_of s.value) other.structures.entries)) i)
    (joined-by scheme_of old.types.entries other.types.entries new.types.entries ts i)
    (joined-by scheme_of old.values.entries other.values.entries new.values.entries vs i))

-- a copy whose entries are shared
pub copied : {A : Type 0} (es fs : Stored (Rc A Global))
    → AllZip (λ p q. (q.0.value ≡ p.0.value) × (q.1.value ≡ p.1.value)) es fs → entries_of (λ s. s.value) fs ≡ entries_of (λ s. s.value) es
copied [] [] h = refl
copied [] (f ∷ fs) h = absurd h
copied (e ∷ es) [] h = absurd h
copied (e ∷ es) (f ∷ fs) h = λ i. ((h.0.0 i).items, h.0.1 i) ∷ copied es fs h.1 i
