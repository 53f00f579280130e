-- Types whose heads have the parts that they take are types, where they aren't too large.
use Rattle.std.specs.Prelude.{◌≤◌, ◌<◌, ◌^◌, ℕ, List}
use Rattle.std.proofs.Common.{arith}
use Rattle.sml_objects.specs.Names.{Naming}
use Rattle.sml_objects.specs.Objects.{MlType, MlTypes, Head, bound, free, app, arrow, row, name, no_type, and_type}
use Rattle.sml_objects.specs.Sizes.{type_size, types_size}
use Rattle.sml_core_rules.specs.Contexts as C
use Rattle.sml_core_rules.specs.Contexts.{IsType, AreTypes}
use Rattle.sml_core_rules.specs.Types.{count_types}
use Rattle.sml_core_laws.specs.Made.{Speaks, AllSpeak, IsHeadIn, IsTypeIn, Takes, TypesOfHeadsAreTypes}

module _ {N : Type 0} where
  some-size : (t : MlType N) → 0 < type_size t
  unfolding type_size
  some-size (bound k) = omega arith
  some-size (free v) = omega arith
  some-size (app h ts) = omega arith

  count-below : (ts : MlTypes N) → count_types ts ≤ types_size ts
  unfolding type_size
  count-below no_type = omega arith
  count-below (and_type t ts) = let a = some-size t in let b = count-below ts in omega arith

  module _ (names : Naming N) (made : ℕ) (ns : List N) where
    head-takes : (h : Head N) (k : ℕ) → k < 2 ^ 64 → Takes names h k → C.Takes names h k
    head-takes arrow k l t = t
    head-takes (row ls) k l t = (t.0, t.1 l)
    head-takes (name n) k l t = t

    mutual
      unfolding Speaks IsType type_size

      type-is : (t : MlType N) → type_size t < 2 ^ 64 → IsTypeIn (Takes names) made ns t → IsType names t
      type-is (bound k) l h = h
      type-is (free v) l h = tt
      type-is (app g ts) l h = (head-takes g (count_types ts) (let c = count-below ts in omega arith) h.0.1, types-are ts (omega arith) h.1)

      types-are : (ts : MlTypes N) → types_size ts < 2 ^ 64 → AllSpeak (λ k. ⊥) (λ v. v < made) (IsHeadIn (Takes names) ns) ts → AreTypes names ts
      types-are no_type l h = tt
      types-are (and_type t ts) l h = (type-is t (omega arith) h.0, types-are ts (omega arith) h.1)

pub types-of-heads-are-types : TypesOfHeadsAreTypes
types-of-heads-are-types made ns t l h = type-is _ made ns t l h
