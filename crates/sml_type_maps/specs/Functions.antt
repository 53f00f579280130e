-- Types that admit equality (the Definition, section 4.4), over the names of a run, and how many variables type functions need.
use Rattle.std.specs.Prelude.{ℕ, suc, max, Bool, true, false, ◌&&◌, ◌||◌, slice_index_or, List, Option, None, Some}
use denote.Ref.{Bor}
use Rattle.sml_objects.specs.Initial.{Name, attributes_of}
use Rattle.sml_objects.specs.Equality.{is_reference_name}
use Rattle.sml_objects.specs.Objects.{MlType, MlTypes, bound, free, app, arrow, row, name, no_type, and_type}

-- Given is which bound variables admit equality. No free one does.
module _ (given : ℕ → Bool) where
  -- the type admits equality
  unfoldable mutual
    pub admits_where : MlType Name → Bool
    admits_where (bound k) = given k
    admits_where (free v) = false
    admits_where (app arrow ts) = false
    admits_where (app (row ls) ts) = all_admit_where ts
    admits_where (app (name n) ts) = is_reference_name n || ((attributes_of n).equality && all_admit_where ts)

    pub all_admit_where : MlTypes Name → Bool
    all_admit_where no_type = true
    all_admit_where (and_type t ts) = admits_where t && all_admit_where ts

-- by these attributes, and none past their end
abbrev pub by_attributes : List Bool → ℕ → Bool
by_attributes qs k = slice_index_or qs k false

-- every variable, where no attributes are given
abbrev pub by_given : Option (Bor (List Bool)) → ℕ → Bool
by_given None k = true
by_given (Some qs) k = by_attributes qs.now k

unfoldable mutual
  -- the least number of variables of a type function with this body
  pub arity_needed : {N : Type 0} → MlType N → ℕ
  arity_needed (bound k) = suc k
  arity_needed (free v) = 0
  arity_needed (app h ts) = arity_needed_all ts

  pub arity_needed_all : {N : Type 0} → MlTypes N → ℕ
  arity_needed_all no_type = 0
  arity_needed_all (and_type t ts) = max (arity_needed t) (arity_needed_all ts)
