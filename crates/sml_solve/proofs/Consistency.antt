-- Demands that don't clash: the heads in one class agree, and rows have the fields that are asked of them.
use Rattle.std.proofs.Common.{◌≡◌, ◌⊎◌, Option, Some, None, List, [], ◌∷◌, length, refl, ap, sym, subst, ◌∙◌, inl, inr}
use Rattle.std.specs.List.{AllByRecursion}
use Rattle.std.specs.List.Sorted.{IsStrictlySortedBy}
use Rattle.std.specs.declared.cmp.Ordering.{Ordering}
use Rattle.std.specs.declared.cmp.Ordering.TheVariants.{Less, Equal, Greater}
use Rattle.std.proofs.Math.Decide.{ℕ_discrete}
use Rattle.sml_tree.specs.Trees.{Id}
use Rattle.sml_objects.specs.Initial.{Name}
use Rattle.sml_objects.specs.Maps.{lookup}
use Rattle.sml_objects.specs.Objects.{Head, arrow, row, name, app, types_of}
use Rattle.sml_objects.specs.Labels.{label_order, AreRising, with_labels}
use Rattle.sml_graph.specs.Asked.{Demand, equal, has_fields, asks}
use Rattle.sml_solve.specs.Clashes.{IsOneOf, MakesEqual, HasLabels, Clash, heads, no_row}
use Rattle.sml_solve.proofs.Members.{all-or}
use Rattle.sml_solve.proofs.Discerning.{same_head}
use Rattle.sml_graph.proofs.Rowing.{row-labels}
use Rattle.sml_solve.proofs.Subterms.{Ty, terms, term-in, Headed, headed, headed-is}
use Rattle.sml_solve.proofs.Partitions.{Classes}
use Rattle.sml_solve.proofs.Grouping.{AreMade}

-- whether a head over these parts is that of a row with these fields

is-less : (o : Ordering) → Dec (o ≡ Less)
is-less Less = yes refl
is-less Equal = no (λ e. cc)
is-less Greater = no (λ e. cc)

all? : {A : Type 0} (P : A → Type 0) → ((x : A) → Dec (P x)) → (xs : List A) → Dec (AllByRecursion P xs)
all? P d [] = yes tt
all? P d (x ∷ xs) =
    elim (d x) [
      | yes p ↦ elim (all? P d xs) [ yes ps ↦ yes (p, ps) | no n ↦ no (λ a. n a.1) ]
      | no n ↦ no (λ a. n a.0)
    ]

rising? : (ls : List Id) → Dec (AreRising ls)
unfolding IsStrictlySortedBy
rising? [] = yes tt
rising? (l ∷ ls) =
    elim (all? (λ m. label_order l m ≡ Less) (λ m. is-less (label_order l m)) ls) [
      | yes p ↦ elim (rising? ls) [ yes r ↦ yes (p, r) | no n ↦ no (λ a. n a.1) ]
      | no n ↦ no (λ a. n a.0)
    ]

found? : {X : Type 0} (o : Option X) → Dec ((x : X) × (o ≡ Some x))
found? None = no (λ f. let e = f.1 in cc)
found? (Some x) = yes (x, refl)

labels? : (fs : List (Id × Ty)) (ls : List Id) (ts : List Ty) → Dec (HasLabels fs (row ls) ts)
labels? fs ls ts =
    elim (rising? ls) [
      | yes r ↦ elim (ℕ_discrete (length ts) (length ls)) [
        | yes n ↦ elim (all? (λ f. (t : Ty) × (lookup f.0 (with_labels ls ts) ≡ Some t)) (λ f. found? (lookup f.0 (with_labels ls ts))) fs) [
          | yes a ↦ yes (record { labels = ls; is_row = refl; rising = r; count = n; all = a })
          | no d ↦ no (λ h. d (subst (λ ms. AllByRecursion (λ f. (t : Ty) × (lookup f.0 (with_labels ms ts) ≡ Some t)) fs) (sym (row-labels ls h.labels h.is_row)) h.all))
        ]
        | no d ↦ no (λ h. d (h.count ∙ ap length (sym (row-labels ls h.labels h.is_row))))
      ]
      | no d ↦ no (λ h. d (subst AreRising (sym (row-labels ls h.labels h.is_row)) h.rising))
    ]

has-labels? : (fs : List (Id × Ty)) (h : Head Name) (ts : List Ty) → Dec (HasLabels fs h ts)
has-labels? fs arrow ts = no (λ h. let e = h.is_row in cc)
has-labels? fs (row ls) ts = labels? fs ls ts
has-labels? fs (name n) ts = no (λ h. let e = h.is_row in cc)

-- two types have one head and as many parts, where both have heads
abbrev pub AgreeInHeads : Headed → Headed → Type 0
AgreeInHeads None b = Unit {0}
AgreeInHeads (Some a) None = Unit {0}
AgreeInHeads (Some a) (Some b) = (a.0 ≡ b.0) × (length a.1 ≡ length b.1)

-- the type is a row with these fields, where it has a head
abbrev pub IsRowFor : List (Id × Ty) → Headed → Type 0
IsRowFor fs None = Unit {0}
IsRowFor fs (Some a) = HasLabels fs a.0 a.1

abbrev pub IsRowDemand : Classes → Ty → Demand → Type 0
IsRowDemand c u (equal t v) = Unit {0}
IsRowDemand c u (has_fields r fs) = c r ≡ c u → IsRowFor fs (headed u)
IsRowDemand c u (asks a t) = Unit {0}

pub record AreConsistent (ds : List Demand) (c : Classes) : Type 0 where
  pub agree : AllByRecursion (λ t. AllByRecursion (λ u. c t ≡ c u → AgreeInHeads (headed t) (headed u)) (terms ds)) (terms ds)
  pub rows : AllByRecursion (λ d. AllByRecursion (λ u. IsRowDemand c u d) (terms ds)) ds

module _ (ds : List Demand) (c : Classes) (made : AreMade ds c) where
  heads-at : (t u : Ty) → MakesEqual ds t u → (a b : Headed) → headed t ≡ a → headed u ≡ b → AgreeInHeads a b ⊎ Clash ds
  heads-at t u m None b e f = inl tt
  heads-at t u m (Some a) None e f = inl tt
  heads-at t u m (Some a) (Some b) e f =
      let l : MakesEqual ds (app a.0 (types_of a.1)) u = subst (λ x. MakesEqual ds x u) (headed-is t a.0 a.1 e) m in
      let k : MakesEqual ds (app a.0 (types_of a.1)) (app b.0 (types_of b.1)) = subst (λ x. MakesEqual ds (app a.0 (types_of a.1)) x) (headed-is u b.0 b.1 f) l in
      elim (same_head a.0 b.0) [
        | yes h ↦ elim (ℕ_discrete (length a.1) (length b.1)) [
          | yes n ↦ inl (h, n)
          | no d ↦ inr (heads a.0 b.0 a.1 b.1 k (inr d))
        ]
        | no d ↦ inr (heads a.0 b.0 a.1 b.1 k (inl d))
      ]

  row-at : (r u : Ty) (fs : List (Id × Ty)) → IsOneOf (has_fields r fs) ds → MakesEqual ds r u → (a : Headed) → headed u ≡ a → IsRowFor fs a ⊎ Clash ds
  row-at r u fs i m None e = inl tt
  row-at r u fs i m (Some a) e =
      elim (has-labels? fs a.0 a.1) [
        | yes h ↦ inl h
        | no d ↦ inr (no_row r fs a.0 a.1 i (subst (λ x. MakesEqual ds r x) (headed-is u a.0 a.1 e) m) d)
      ]

  agree-at : (t u : Ty) → IsOneOf t (terms ds) → IsOneOf u (terms ds) → (c t ≡ c u → AgreeInHeads (headed t) (headed u)) ⊎ Clash ds
  agree-at t u i j =
      elim (ℕ_discrete (c t) (c u)) [
        | yes e ↦ elim (heads-at t u (made t u i j e) (headed t) (headed u) refl refl) [ inl a ↦ inl (λ _. a) | inr x ↦ inr x ]
        | no d ↦ inl (λ e. absurd (d e))
      ]

  rows-at : (d : Demand) (u : Ty) → IsOneOf d ds → IsOneOf u (terms ds) → IsRowDemand c u d ⊎ Clash ds
  rows-at (equal t v) u i j = inl tt
  rows-at (has_fields r fs) u i j =
      elim (ℕ_discrete (c r) (c u)) [
        | yes e ↦ elim (row-at r u fs i (made r u (term-in ds (has_fields r fs) r i (inl refl)) j e) (headed u) refl) [ inl a ↦ inl (λ _. a) | inr x ↦ inr x ]
        | no d ↦ inl (λ e. absurd (d e))
      ]
  rows-at (asks a t) u i j = inl tt

  pub consistent-or-clash : AreConsistent ds c ⊎ Clash ds
  consistent-or-clash =
      elim (all-or (λ t. AllByRecursion (λ u. c t ≡ c u → AgreeInHeads (headed t) (headed u)) (terms ds)) (Clash ds) (terms ds)
      (λ t i. all-or (λ u. c t ≡ c u → AgreeInHeads (headed t) (headed u)) (Clash ds) (terms ds) (λ u j. agree-at t u i j))) [
        | inl a ↦ elim (all-or (λ d. AllByRecursion (λ u. IsRowDemand c u d) (terms ds)) (Clash ds) ds
            (λ d i. all-or (λ u. IsRowDemand c u d) (Clash ds) (terms ds) (λ u j. rows-at d u i j))) [
              | inl b ↦ inl (record { agree = a; rows = b })
              | inr x ↦ inr x
            ]
        | inr x ↦ inr x
      ]
