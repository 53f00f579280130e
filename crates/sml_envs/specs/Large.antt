-- Schemes and type functions that become larger than a scheme may be.
use Rattle.std.specs.Prelude.{ℕ, Bool, false, ◌||◌, nat_lt}
use Rattle.sml_objects.specs.Initial.{Name}
use Rattle.sml_objects.specs.Objects.{MlType, MlTypes, Scheme}
use Rattle.sml_objects.specs.Sizes.{type_size}
use Rattle.sml_core_rules.specs.Objects.{Env, Structures, TyStr, Value, maps, no_structure, and_structure}
use Rattle.sml_bases.specs.Entries.{some_entry}
use Rattle.sml_type_maps.specs.Mapped.{mapped}

-- Given are what variables and names become, as in `mapped`.
module _ (b f : ℕ → MlType Name) (n : Name → MlTypes Name → MlType Name) where
  abbrev pub is_large : Scheme Name → Bool
  is_large σ = nat_lt 10000 (type_size (mapped b f n σ.body))

  abbrev pub is_large_type : TyStr Name → Bool
  is_large_type t = is_large t.function || some_entry is_large t.constructors

  abbrev pub is_large_value : Value Name → Bool
  is_large_value v = is_large v.scheme

  unfoldable mutual
    pub has_large : Env Name → Bool
    has_large (maps ss ts vs) = have_large ss || (some_entry is_large_type ts || some_entry is_large_value vs)

    pub have_large : Structures (TyStr Name) (Value Name) → Bool
    have_large no_structure = false
    have_large (and_structure s E ss) = has_large E || have_large ss
