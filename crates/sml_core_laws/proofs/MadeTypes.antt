-- Types that speak of such variables, unknowns and heads.
use Rattle.std.specs.Prelude.{◌≡◌, ◌<◌, ℕ, zero, suc, List, [], ◌∷◌, ◌++◌, Some, None}
use Rattle.std.specs.List.{AllByRecursion}
use Rattle.std.proofs.Common.{arith}
use Rattle.std.specs.declared.cmp.Ordering.{Ordering}
use Rattle.std.specs.declared.cmp.Ordering.TheVariants.{Less, Equal, Greater}
use mathlib.Core.Path.{refl, sym, ap, subst}
use Rattle.sml_tree.specs.Trees.{Id}
use Rattle.sml_objects.specs.Labels.{label_order}
use Rattle.sml_objects.specs.Maps.{Map, lookup, put, join, by_order, order_of}
use Rattle.sml_objects.specs.Objects.{MlType, MlTypes, Head, bound, free, app, no_type, and_type}
use Rattle.sml_objects.specs.Types.{replace_type, replace_types, argument_or}
use Rattle.sml_core_rules.specs.Types.{Fields, put_field, count_types}
use Rattle.sml_core_laws.specs.Made.{Speaks, AllSpeak}

-- other types for variables, and more heads
module _ {N : Type 0} (b f : ℕ → MlType N) where
  pub count-replaced : (ts : MlTypes N) → count_types (replace_types b f ts) ≡ count_types ts
  unfolding replace_type
  count-replaced no_type = refl
  count-replaced (and_type t ts) = ap suc (count-replaced ts)

  module _ (B V C W : ℕ → Type 0) (H I : Head N → ℕ → Type 0) where
    mutual
      unfolding Speaks replace_type

      pub replaced-speaks : (t : MlType N) → Speaks B V H t → ((k : ℕ) → B k → Speaks C W I (b k)) → ((v : ℕ) → V v → Speaks C W I (f v)) → ((h : Head N) (k : ℕ) → H h k → I h k)
          → Speaks C W I (replace_type b f t)
      replaced-speaks (bound k) h bs fs hs = bs k h
      replaced-speaks (free v) h bs fs hs = fs v h
      replaced-speaks (app g ts) h bs fs hs = (subst (I g) (sym (count-replaced ts)) (hs g (count_types ts) h.0), all-replaced-speak ts h.1 bs fs hs)

      all-replaced-speak : (ts : MlTypes N) → AllSpeak B V H ts → ((k : ℕ) → B k → Speaks C W I (b k)) → ((v : ℕ) → V v → Speaks C W I (f v)) → ((h : Head N) (k : ℕ) → H h k → I h k)
          → AllSpeak C W I (replace_types b f ts)
      all-replaced-speak no_type h bs fs hs = tt
      all-replaced-speak (and_type t ts) h bs fs hs = (replaced-speaks t h.0 bs fs hs, all-replaced-speak ts h.1 bs fs hs)

-- more of each
module _ {N : Type 0} (B V C W : ℕ → Type 0) (H I : Head N → ℕ → Type 0) where
  mutual
    unfolding Speaks

    pub speaks-more : (t : MlType N) → Speaks B V H t → ((k : ℕ) → B k → C k) → ((v : ℕ) → V v → W v) → ((h : Head N) (k : ℕ) → H h k → I h k) → Speaks C W I t
    speaks-more (bound k) h bs vs hs = bs k h
    speaks-more (free v) h bs vs hs = vs v h
    speaks-more (app g ts) h bs vs hs = (hs g (count_types ts) h.0, all-speak-more ts h.1 bs vs hs)

    all-speak-more : (ts : MlTypes N) → AllSpeak B V H ts → ((k : ℕ) → B k → C k) → ((v : ℕ) → V v → W v) → ((h : Head N) (k : ℕ) → H h k → I h k) → AllSpeak C W I ts
    all-speak-more no_type h bs vs hs = tt
    all-speak-more (and_type t ts) h bs vs hs = (speaks-more t h.0 bs vs hs, all-speak-more ts h.1 bs vs hs)

-- what stands for a variable of a type function
pub argument-speaks : {N : Type 0} (B V : ℕ → Type 0) (H : Head N → ℕ → Type 0) (u : MlType N) (ts : MlTypes N) (k : ℕ) → k < count_types ts → AllSpeak B V H ts → Speaks B V H (argument_or u ts k)
unfolding Speaks
argument-speaks B V H u no_type k l h = absurd (omega arith)
argument-speaks B V H u (and_type t ts) zero l h = h.0
argument-speaks B V H u (and_type t ts) (suc k) l h = argument-speaks B V H u ts k (omega arith) h.1

-- finite maps

pub all-more : {X : Type 0} (F G : X → Type 0) → ((x : X) → F x → G x) → (xs : List X) → AllByRecursion F xs → AllByRecursion G xs
all-more F G f [] h = tt
all-more F G f (x ∷ xs) h = (f x h.0, all-more F G f xs h.1)

pub all-join : {X : Type 0} (F : X → Type 0) (xs ys : List X) → AllByRecursion F xs → AllByRecursion F ys → AllByRecursion F (xs ++ ys)
all-join F [] ys h k = k
all-join F (x ∷ xs) ys h k = (h.0, all-join F xs ys h.1 k)

module _ {X : Type 0} (F : X → Type 0) where
  abbrev pub Each : Map X → Type 0
  Each m = AllByRecursion (λ e. F e.1) m

  pub each-lookup : (x : Id) (m : Map X) (v : X) → Each m → lookup x m ≡ Some v → F v
  each-lookup x [] v h e = let f : None ≡ Some v = e in absurd cc
  each-lookup x (d ∷ m) v h e = go (order_of x d.0) e (λ e. each-lookup x m v h.1 e)
    where
      go : (o : Ordering) → by_order o (lookup x m) (Some d.1) (lookup x m) ≡ Some v → (lookup x m ≡ Some v → F v) → F v
      go Less e k = k e
      go Equal e k = let f : Some d.1 ≡ Some v = e in let g : d.1 ≡ v = cc in subst F g h.0
      go Greater e k = k e

  pub each-put : (x : Id) (v : X) (m : Map X) → F v → Each m → Each (put x v m)
  each-put x v [] f h = (f, tt)
  each-put x v (e ∷ m) f h = go (order_of x e.0) (each-put x v m f h.1)
    where
      go : (o : Ordering) → Each (put x v m) → Each (by_order o ((x, v) ∷ e ∷ m) ((e.0, v) ∷ m) (e ∷ put x v m))
      go Less k = (f, h)
      go Equal k = (f, h.1)
      go Greater k = (h.0, k)

  pub each-field : (x : Id) (v : X) (m : Fields X) → F v → Each m → Each (put_field x v m)
  each-field x v [] f h = (f, tt)
  each-field x v (e ∷ m) f h = go (label_order x e.0) (each-field x v m f h.1)
    where
      go : (o : Ordering) → Each (put_field x v m) → Each (by_order o ((x, v) ∷ e ∷ m) ((x, v) ∷ m) (e ∷ put_field x v m))
      go Less k = (f, h)
      go Equal k = (f, h.1)
      go Greater k = (h.0, k)

  pub each-join : (m n : Map X) → Each m → Each n → Each (join m n)
  each-join m [] h k = h
  each-join m (e ∷ n) h k = each-join (put e.0 e.1 m) n (each-put e.0 e.1 m k.0 h) k.1
