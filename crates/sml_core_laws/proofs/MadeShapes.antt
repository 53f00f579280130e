-- Heads that readings make, with so many parts.
use Rattle.std.specs.Prelude.{◌≡◌, ℕ, suc, Bool, true, false, ◌&&◌, List, [], ◌∷◌, map, length}
use Rattle.std.specs.List.{AllByRecursion}
use Rattle.std.specs.List.Sorted.{IsStrictlySortedBy}
use Rattle.std.specs.Ordering.{ordering_reverse}
use Rattle.std.specs.declared.cmp.Ordering.{Ordering}
use Rattle.std.specs.declared.cmp.Ordering.TheVariants.{Less, Equal, Greater}
use mathlib.Core.Path.{refl, sym, ap, subst, ◌∙◌}
use Rattle.std.proofs.lemmas.Bool.{false≢true}
use Rattle.sml_tree.specs.Trees.{Id}
use Rattle.sml_objects.specs.Appearance.{Stands}
use Rattle.sml_objects.specs.Labels.{AreRising, label_order}
use Rattle.sml_objects.specs.Maps.{by_order}
use Rattle.sml_objects.specs.Names.{Naming, Initial, int, word, char, string, bool, exn, real, list, ref}
use Rattle.sml_objects.specs.Objects.{MlType, MlTypes, Head, arrow, row, name, types_of, labels_of}
use Rattle.sml_objects.proofs.RisingLabels.{label_total, below-all}
use Rattle.sml_core_rules.specs.Types.{Fields, put_field, row_of, count_types}
use Rattle.sml_core_laws.specs.Made.{Speaks, AllSpeak, IsHeadIn}
use Rattle.sml_core_laws.proofs.MadeTypes.{Each}

pub both-true : (b c : Bool) → (b && c) ≡ true → (b ≡ true) × (c ≡ true)
both-true true c h = (refl, h)
both-true false c h = absurd (false≢true h)

pub heads-more : {N : Type 0} (S : Head N → ℕ → Type 0) (names others : List N) → ((n : N) → Stands n names → Stands n others) → (h : Head N) (k : ℕ) → IsHeadIn S names h k → IsHeadIn S others h k
heads-more S names others ns arrow k m = (tt, m.1)
heads-more S names others ns (row ls) k m = (tt, m.1)
heads-more S names others ns (name n) k m = (ns n m.0, m.1)

-- the initial names without parameters
abbrev pub IsAlone : Initial → Type 0
IsAlone int = Unit {0}
IsAlone word = Unit {0}
IsAlone char = Unit {0}
IsAlone string = Unit {0}
IsAlone bool = Unit {0}
IsAlone exn = Unit {0}
IsAlone real = Unit {0}
IsAlone list = ⊥
IsAlone ref = ⊥

-- What is asked of heads holds of those that readings make, and can be tested.
pub record IsShape {N : Type 0} (names : Naming N) (S : Head N → ℕ → Type 0) : Type 0 where
  pub arrows : S arrow 2
  pub rows : (ls : List Id) → AreRising ls → S (row ls) (length ls)
  pub tuples : (ts : MlTypes N) → S (row (labels_of 1 ts)) (count_types ts)
  pub names_alone : (k : Initial) → IsAlone k → S (name (names.initial k)) 0
  pub named : (n : N) → S (name n) (names.attributes n).arity
  pub test : Head N → ℕ → Bool
  pub tested : (h : Head N) (k : ℕ) → test h k ≡ true → S h k
  pub passes : (h : Head N) (k : ℕ) → S h k → test h k ≡ true

-- fields

abbrev pub Rise : {X : Type 0} → Fields X → Type 0
Rise fs = AreRising (map (λ f. f.0) fs)

put-above : {X : Type 0} (F : Id → Type 0) (l : Id) (x : X) (fs : Fields X) → F l → AllByRecursion F (map (λ f. f.0) fs) → AllByRecursion F (map (λ f. f.0) (put_field l x fs))
put-above F l x [] f h = (f, tt)
put-above {X} F l x (e ∷ es) f h = go (label_order l e.0) (put-above F l x es f h.1)
  where
    go : (o : Ordering) → AllByRecursion F (map (λ f. f.0) (put_field l x es)) → AllByRecursion F (map (λ f. f.0) (by_order o ((l, x) ∷ e ∷ es) ((l, x) ∷ es) (e ∷ put_field l x es)))
    go Less k = (f, h)
    go Equal k = (f, h.1)
    go Greater k = (h.0, k)

-- labels that were put among others stand in order
pub put-rises : {X : Type 0} (l : Id) (x : X) (fs : Fields X) → Rise fs → Rise (put_field l x fs)
unfolding IsStrictlySortedBy
put-rises l x [] h = (tt, tt)
put-rises {X} l x (e ∷ es) h = go (label_order l e.0) refl (put-rises l x es h.1)
  where
    same : label_order l e.0 ≡ Equal → (ls : List Id) → AllByRecursion (λ y. label_order e.0 y ≡ Less) ls → AllByRecursion (λ y. label_order l y ≡ Less) ls
    same e' [] h = tt
    same e' (y ∷ ls) h = (label_total.congr l e.0 y e' ∙ h.0, same e' ls h.1)

    go : (o : Ordering) → label_order l e.0 ≡ o → Rise (put_field l x es) → AreRising (map (λ f. f.0) (by_order o ((l, x) ∷ e ∷ es) ((l, x) ∷ es) (e ∷ put_field l x es)))
    go Less o k = ((o, below-all l e.0 (map (λ f. f.0) es) o h.0), h)
    go Equal o k = (same o (map (λ f. f.0) es) h.0, h.1)
    go Greater o k = (put-above (λ y. label_order e.0 y ≡ Less) l x es (label_total.antisymm e.0 l ∙ ap ordering_reverse o) h.0, k)

count-fields : {N : Type 0} (fs : Fields (MlType N)) → count_types (types_of (map (λ f. f.1) fs)) ≡ length (map (λ f. f.0) fs)
count-fields [] = refl
count-fields (f ∷ fs) = ap suc (count-fields fs)

fields-speak : {N : Type 0} (B V : ℕ → Type 0) (H : Head N → ℕ → Type 0) (fs : Fields (MlType N)) → Each (Speaks B V H) fs → AllSpeak B V H (types_of (map (λ f. f.1) fs))
unfolding Speaks
fields-speak B V H [] h = tt
fields-speak B V H (f ∷ fs) h = (h.0, fields-speak B V H fs h.1)

pub row-speaks : {N : Type 0} (B V : ℕ → Type 0) (H : Head N → ℕ → Type 0) (fs : Fields (MlType N)) → ((ls : List Id) → AreRising ls → H (row ls) (length ls)) → Each (Speaks B V H) fs → Rise fs
    → Speaks B V H (row_of fs)
unfolding Speaks
row-speaks B V H fs rows h k = (subst (H (row (map (λ f. f.0) fs))) (sym (count-fields fs)) (rows (map (λ f. f.0) fs) k), fields-speak B V H fs h)
