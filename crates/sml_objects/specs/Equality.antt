-- Types that admit equality (the Definition, section 4.4).
use Rattle.std.specs.Prelude.{ℕ, Bool, true, false, ◌&&◌, ◌||◌}
use Rattle.sml_objects.specs.Names.{Naming, ref}
use Rattle.sml_objects.specs.Initial.{Name, initial}
use Rattle.sml_objects.specs.Objects.{MlType, MlTypes, bound, free, app, arrow, row, name, no_type, and_type}

-- Which name is `ref`, and which variables and names admit equality, is given.
module _ {N : Type 0} (refs : N → Bool) (var : ℕ → Bool) (eq : N → Bool) where
  -- the type admits equality
  unfoldable mutual
    pub admits_by : MlType N → Bool
    admits_by (bound k) = false
    admits_by (free v) = var v
    admits_by (app arrow ts) = false
    admits_by (app (row ls) ts) = all_admit_by ts
    admits_by (app (name n) ts) = refs n || (eq n && all_admit_by ts)

    pub all_admit_by : MlTypes N → Bool
    all_admit_by no_type = true
    all_admit_by (and_type t ts) = admits_by t && all_admit_by ts

module _ {N : Type 0} (names : Naming N) where
  abbrev pub is_ref : N → Bool
  is_ref n = elim (names.same (names.initial ref) n) [ yes _ ↦ true | no _ ↦ false ]

  abbrev pub has_equality : N → Bool
  has_equality n = (names.attributes n).equality

  -- no variable is known to stand for types that admit equality
  abbrev pub admits : MlType N → Bool
  admits t = admits_by is_ref (λ _. false) has_equality t

  abbrev pub all_admit : MlTypes N → Bool
  all_admit ts = all_admit_by is_ref (λ _. false) has_equality ts

-- the same of the names of a run
abbrev pub is_reference_name : Name → Bool
is_reference_name (initial ref) = true
is_reference_name n = false
