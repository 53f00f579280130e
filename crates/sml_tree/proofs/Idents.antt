-- Two identifiers are the same or not.
use Rattle.std.proofs.Common.{◌≡◌, ◌⊎◌, inl, inr, Bool, true, false, refl, ap}
use Rattle.std.specs.Bool.{Decides}
use Rattle.std.specs.Str.{bytes_eq}
use Rattle.std.proofs.lemmas.Slice.Eq.{bytes_eq-Decides}
use Rattle.sml_tree.specs.Trees.{Id}

pub tells : (b : Bool) (P : Type 0) → Decides b P → ((b ≡ true) × P) ⊎ ((b ≡ false) × (P → ⊥))
tells true P d = inl (refl, d.0 refl)
tells false P d = inr (refl, λ p. let h = d.1 p in cc)

pub id_tells : (k l : Id) → ((bytes_eq k l ≡ true) × (k ≡ l)) ⊎ ((bytes_eq k l ≡ false) × (k ≡ l → ⊥))
id_tells k l = tells (bytes_eq k l) (k ≡ l) (bytes_eq-Decides k l)

pub id_self : (k : Id) → bytes_eq k k ≡ true
id_self k = (bytes_eq-Decides k k).1 refl

pub id_same : (k l : Id) → bytes_eq k l ≡ true → k ≡ l
id_same k l h = (bytes_eq-Decides k l).0 h

pub id_turned : (k l : Id) → bytes_eq k l ≡ false → bytes_eq l k ≡ false
id_turned k l h =
    elim (id_tells l k) [
      | inl y ↦ absurd (let a = id_self k in let b : bytes_eq k l ≡ bytes_eq k k = ap (bytes_eq k) y.1 in cc)
      | inr y ↦ y.0
    ]
