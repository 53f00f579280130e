-- Types and constructors of datatypes, as they are made.
use Rattle.std.proofs.Common.{◌≡◌, ◌++◌, ◌∷◌, ◌+◌, ◌<◌, ◌≤◌, ◌⊎◌, inl, inr, ℕ, zero, suc, Bool, List, Option, [], min, drop, length, map, refl, ap, sym, ◌∙◌, arith, Vec, Global}
use Rattle.std.proofs.Math.ListN.{get_or}
use Rattle.std.proofs.lemmas.List.{drop_all, drop_more}
use Rattle.std.specs.declared.rc.Rc.{Rc}
use Rattle.sml_tree.specs.Views.{ident_of}
use Rattle.sml_tree.specs.TypeViews.{names_of}
use Rattle.sml_tree.specs.declared.names.Name as tree
use Rattle.sml_objects.specs.Initial.{Name}
use Rattle.sml_objects.specs.Objects as O
use Rattle.sml_objects.specs.Objects.{rename_type, rename_types, types_of}
use Rattle.sml_core_rules.specs.Datatypes.{is_equality, types_from}
use Rattle.sml_tree.specs.declared.expressions.ConBind.{ConBind}
use Rattle.sml_objects.specs.declared.objects.MlType as P
use Rattle.sml_equality.specs.declared.runs.Run.{Run}
use Rattle.sml_type_maps.specs.Mapped.{all_mapped, mapped}
use Rattle.sml_types.specs.Losses.{losing_argument, losing_arguments}

pub equality-push : (xs : List tree.Name) (x : tree.Name)
    → map (λ x. is_equality x.id) (names_of (xs ++ (x ∷ []))) ≡ map (λ x. is_equality x.id) (names_of xs) ++ (is_equality (ident_of x.ident) ∷ [])
equality-push [] x = refl
equality-push (y ∷ xs) x = ap (λ l. is_equality (ident_of y.ident) ∷ l) (equality-push xs x)

-- so many free variables from k on
abbrev pub free_from : ℕ → ℕ → List (O.MlType Name)
free_from k zero = []
free_from k (suc n) = O.free k ∷ free_from (suc k) n

pub free-push : (k n j : ℕ) → j ≡ k + n → free_from k n ++ (O.free j ∷ []) ≡ free_from k (suc n)
free-push k zero j e = ap (λ i. O.free i ∷ []) (omega (arith, e))
free-push k (suc n) j e = ap (λ l. O.free k ∷ l) (free-push (suc k) n j (omega (arith, e)))

pub free-types : (k n : ℕ) → types_of (free_from k n) ≡ types_from O.free k n
free-types k zero = refl
free-types k (suc n) = ap (O.and_type (O.free k)) (free-types (suc k) n)

-- a map of names alone renames
module _ (f : Name → Name) where
  mutual
    unfolding mapped all_mapped rename_type rename_types

    pub mapped-renames : (t : O.MlType Name) → mapped O.bound O.free (λ n ts. O.app (O.name (f n)) ts) t ≡ rename_type f t
    mapped-renames (O.bound k) = refl
    mapped-renames (O.free v) = refl
    mapped-renames (O.app O.arrow ts) = ap (O.app O.arrow) (all-renamed ts)
    mapped-renames (O.app (O.row ls) ts) = ap (O.app (O.row ls)) (all-renamed ts)
    mapped-renames (O.app (O.name n) ts) = ap (O.app (O.name (f n))) (all-renamed ts)

    all-renamed : (ts : O.MlTypes Name) → all_mapped O.bound O.free (λ n ts. O.app (O.name (f n)) ts) ts ≡ rename_types f ts
    all-renamed O.no_type = refl
    all-renamed (O.and_type t ts) = λ i. O.and_type (mapped-renames t i) (all-renamed ts i)

-- a constructor more, before the others

abbrev Key : Type 0
Key = Rc (Vec ℕ Global) Global

abbrev Argument : Type 0
Argument = Option (Rc P.MlType Global)

pub losing-next : (r : Run) (lost : List Bool) (cs : List ConBind) (ts : List Argument) (i : ℕ) (c : ConBind) (t : Argument) → i < length cs → i < length ts
    → c ≡ get_or cs i c → t ≡ get_or ts i t
    → losing_arguments r lost (drop i cs) (drop i ts) ≡ (ident_of c.name.ident, losing_argument r lost t) ∷ losing_arguments r lost (drop (i + 1) cs) (drop (i + 1) ts)
losing-next r lost cs ts i c t h k e f =
    (λ j. losing_arguments r lost (drop_more cs i c h j) (drop_more ts i t k j))
    ∙ (λ j. (ident_of (sym e j).name.ident, losing_argument r lost (sym f j)) ∷ losing_arguments r lost (drop (i + 1) cs) (drop (i + 1) ts))

losing-none : (r : Run) (lost : List Bool) (cs : List ConBind) → losing_arguments r lost cs [] ≡ []
losing-none r lost [] = refl
losing-none r lost (c ∷ cs) = refl

pub losing-end : (r : Run) (lost : List Bool) (cs : List ConBind) (ts : List Argument) (n : ℕ) → (length cs ≤ n) ⊎ (length ts ≤ n) → losing_arguments r lost (drop n cs) (drop n ts) ≡ []
losing-end r lost cs ts n (inl h) = ap (λ l. losing_arguments r lost l (drop n ts)) (drop_all n cs h)
losing-end r lost cs ts n (inr h) = ap (λ l. losing_arguments r lost (drop n cs) l) (drop_all n ts h) ∙ losing-none r lost (drop n cs)

-- of two numbers the lesser is at least one
pub least : (n a b : ℕ) → n ≡ min a b → (a ≤ n) ⊎ (b ≤ n)
least n zero b e = inl (omega (arith, e))
least n (suc a) zero e = inr (omega (arith, e))
least n (suc a) (suc b) e = elim (least (min a b) a b refl) [
  | inl h ↦ inl (omega (arith, e, h))
  | inr h ↦ inr (omega (arith, e, h))
]
