-- Types, heads and lists of labels are equal or not.
use Rattle.std.proofs.Common.{◌≡◌, List, [], ◌∷◌, refl, ap}
use Rattle.std.proofs.Math.Decide.{ℕ_discrete}
use Rattle.sml_tree.specs.Trees.{Id}
use Rattle.sml_objects.specs.Initial.{Name, naming}
use Rattle.sml_objects.specs.Objects.{MlType, MlTypes, Head, arrow, row, name, bound, free, app, no_type, and_type}

pub same_list : {A : Type 0} → Discrete A → Discrete (List A)
same_list d [] [] = yes refl
same_list d [] (y ∷ ys) = no (λ e. cc)
same_list d (x ∷ xs) [] = no (λ e. cc)
same_list d (x ∷ xs) (y ∷ ys) = go (d x y) (same_list d xs ys)
  where
    go : Dec (x ≡ y) → Dec (xs ≡ ys) → Dec (x ∷ xs ≡ y ∷ ys)
    go (yes e) (yes f) = yes cc
    go (yes e) (no f) = no (λ g. f cc)
    go (no e) f = no (λ g. e cc)

pub same_id : Discrete Id
same_id = same_list ℕ_discrete

pub same_head : Discrete (Head Name)
same_head arrow arrow = yes refl
same_head arrow (row ms) = no (λ e. cc)
same_head arrow (name m) = no (λ e. cc)
same_head (row ls) arrow = no (λ e. cc)
same_head (row ls) (row ms) = elim (same_list same_id ls ms) [ yes e ↦ yes (ap row e) | no d ↦ no (λ e. d cc) ]
same_head (row ls) (name m) = no (λ e. cc)
same_head (name n) arrow = no (λ e. cc)
same_head (name n) (row ms) = no (λ e. cc)
same_head (name n) (name m) = elim (naming.same n m) [ yes e ↦ yes (ap name e) | no d ↦ no (λ e. d cc) ]

mutual
  pub same_type : Discrete (MlType Name)
  same_type (bound j) (bound k) = elim (ℕ_discrete j k) [ yes e ↦ yes (ap bound e) | no d ↦ no (λ e. d cc) ]
  same_type (bound j) (free w) = no (λ e. cc)
  same_type (bound j) (app k us) = no (λ e. cc)
  same_type (free v) (bound k) = no (λ e. cc)
  same_type (free v) (free w) = elim (ℕ_discrete v w) [ yes e ↦ yes (ap free e) | no d ↦ no (λ e. d cc) ]
  same_type (free v) (app k us) = no (λ e. cc)
  same_type (app h ts) (bound k) = no (λ e. cc)
  same_type (app h ts) (free w) = no (λ e. cc)
  same_type (app h ts) (app k us) =
      elim (same_head h k) [
        | yes e ↦ elim (same_types ts us) [ yes f ↦ yes cc | no d ↦ no (λ e. d cc) ]
        | no d ↦ no (λ e. d cc)
      ]

  pub same_types : Discrete (MlTypes Name)
  same_types no_type no_type = yes refl
  same_types no_type (and_type u us) = no (λ e. cc)
  same_types (and_type t ts) no_type = no (λ e. cc)
  same_types (and_type t ts) (and_type u us) =
      elim (same_type t u) [
        | yes e ↦ elim (same_types ts us) [ yes f ↦ yes cc | no d ↦ no (λ e. d cc) ]
        | no d ↦ no (λ e. d cc)
      ]
