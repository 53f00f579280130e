-- The names of datatypes as they are in the end admit equality as the rules want it.
use Rattle.std.proofs.Common.{◌≡◌, ◌<◌, ◌-◌, ◌&&◌, inl, inr, not, cond, nat_eq, nat_le, nat_lt, ℕ, zero, suc, Bool, true, false, List, Option, Some, None, [], ◌∷◌, length, map, slice_index_or, refl, ap, sym, ◌∙◌, subst, arith, Vec, Global}
use Rattle.std.proofs.lemmas.Bool.{ltb-true}
use Rattle.std.specs.declared.rc.Rc.{Rc}
use Rattle.sml_tree.specs.declared.expressions.ConBind.{ConBind}
use Rattle.sml_tree.specs.declared.expressions.DatBind.{DatBind}
use Rattle.sml_objects.specs.Appearance.{Stands}
use Rattle.sml_objects.specs.Initial.{Name, initial, made, naming, attributes_of}
use Rattle.sml_objects.specs.Objects as O
use Rattle.sml_objects.specs.Objects.{names_type, names_types, rename_type, rename_types}
use Rattle.sml_objects.specs.Views.{maker_of, name_of, type_of}
use Rattle.sml_objects.specs.declared.objects.MlType.{MlType}
use Rattle.sml_objects.specs.declared.objects.TyName.{TyName}
use Rattle.sml_objects.proofs.Standing.{left, right}
use Rattle.sml_core_rules.specs.Datatypes.{AdmitAsManyAsCan, with_names}
use Rattle.sml_core_rules.specs.Objects.{Env}
use Rattle.sml_equality.specs.declared.runs.Run.{Run}
use Rattle.sml_equality.specs.Runs.{IsLargest, arguments_at, kept_or, place_in}
use Rattle.sml_equality.specs.Settled.{AreOwn, AreSettled, HavePlaces, IsOwn, name_at, settled, settled_argument}
use Rattle.sml_equality.proofs.Settling.{largest-admits}
use Rattle.sml_types.specs.Losses.{AllAdmit, AreDatatypes, Fit, all_losing_arguments, losing, losing_argument, losing_arguments, losing_datatypes, unless_lost}

flag-same : (lost : List Bool) (k : ℕ) → k < length lost → slice_index_or lost k false ≡ slice_index_or lost k true
flag-same [] k h = absurd (omega (arith, h))
flag-same (b ∷ bs) zero h = refl
flag-same (b ∷ bs) (suc k) h = flag-same bs k (omega (arith, h))

some-same : (m k : ℕ) → ◌≡◌ {A = Option ℕ} (Some m) (Some k) → m ≡ k
some-same m k h = cc

place-inside : (r : Run) (u n a : ℕ) (q : Bool) (k : ℕ) → place_in r (made u n a q) ≡ Some k → k < r.count
place-inside r u n a q k h = go (nat_eq u (maker_of r.unit)) (nat_le r.first n) (nat_lt (n - r.first) r.count) refl h
  where
    go : (b c d : Bool) → nat_lt (n - r.first) r.count ≡ d → cond (b && (c && d)) (Some (n - r.first)) None ≡ Some k → k < r.count
    go true true true i e = subst (λ j. j < r.count) (some-same (n - r.first) k e) (ltb-true (n - r.first) r.count i)
    go true true false i e = cc
    go true false d i e = cc
    go false c d i e = cc

abbrev kept_by : List Bool → ℕ → Bool
kept_by lost k = not (slice_index_or lost k true)

losing-settled : (r : Run) (lost : List Bool) (n : Name) → r.count ≡ length lost → ((k : ℕ) → place_in r n ≡ Some k → (attributes_of n).equality ≡ true)
    → losing r lost n ≡ settled r (kept_by lost) n
losing-settled r lost (initial k) e h = refl
losing-settled r lost (made u n a q) e h = ap (made u n a) (go (place_in r (made u n a q)) refl)
  where
    go : (p : Option ℕ) → place_in r (made u n a q) ≡ p → unless_lost lost q p ≡ kept_or (kept_by lost) q p
    go None i = refl
    go (Some k) i =
        let inside : k < r.count = place-inside r u n a q k i in
        ap (λ b. b && not (slice_index_or lost k false)) (h k i) ∙ ap not (flag-same lost k (omega (arith, inside, e)))

at-admits : (ns : List Name) (k : ℕ) (n : Name) → AllAdmit ns → name_at ns k ≡ Some n → (attributes_of n).equality ≡ true
at-admits [] k n h e = cc
at-admits (m ∷ ns) zero n h e = ap (λ x. (attributes_of x).equality) (let i : m ≡ n = cc in sym i) ∙ h.0
at-admits (m ∷ ns) (suc k) n h e = at-admits ns k n h.1 e

-- renaming by functions that agree on the names that stand in a type
module _ (f g : Name → Name) where
  mutual
    unfolding rename_type rename_types names_type names_types Stands

    type-agrees : (t : O.MlType Name) → ((n : Name) → Stands n (names_type t) → f n ≡ g n) → rename_type f t ≡ rename_type g t
    type-agrees (O.bound k) h = refl
    type-agrees (O.free v) h = refl
    type-agrees (O.app O.arrow ts) h = ap (O.app O.arrow) (types-agree ts h)
    type-agrees (O.app (O.row ls) ts) h = ap (O.app (O.row ls)) (types-agree ts h)
    type-agrees (O.app (O.name n) ts) h = λ i. O.app (O.name (h n (inl refl) i)) (types-agree ts (λ m s. h m (inr s)) i)

    types-agree : (ts : O.MlTypes Name) → ((n : Name) → Stands n (names_types ts) → f n ≡ g n) → rename_types f ts ≡ rename_types g ts
    types-agree O.no_type h = refl
    types-agree (O.and_type t ts) h =
        λ i. O.and_type (type-agrees t (λ n s. h n (left n (names_type t) (names_types ts) s)) i) (types-agree ts (λ n s. h n (right n (names_type t) (names_types ts) s)) i)

abbrev Argument : Type 0
Argument = Option (Rc MlType Global)

only-arguments : (r : Run) (lost : List Bool) (cs : List ConBind) (ts : List Argument) → length cs ≡ length ts → map (λ c. c.1) (losing_arguments r lost cs ts) ≡ map (losing_argument r lost) ts
only-arguments r lost [] [] e = refl
only-arguments r lost [] (t ∷ ts) e = absurd (omega (arith, e))
only-arguments r lost (c ∷ cs) [] e = absurd (omega (arith, e))
only-arguments r lost (c ∷ cs) (t ∷ ts) e = ap (λ l. losing_argument r lost t ∷ l) (only-arguments r lost cs ts (omega (arith, e)))

module _ (r : Run) (lost : List Bool) (count : r.count ≡ length lost) (all : List Name) (admit : AllAdmit all) where
  own-settled : (n : Name) → IsOwn r all n → losing r lost n ≡ settled r (kept_by lost) n
  own-settled n own = losing-settled r lost n count (λ k e. at-admits all k n admit (own k e))

  arguments-settled : (ts : List Argument) → AreOwn r all ts → map (losing_argument r lost) ts ≡ map (settled_argument r (kept_by lost)) ts
  arguments-settled [] h = refl
  arguments-settled (None ∷ ts) h = ap (λ l. None ∷ l) (arguments-settled ts h)
  arguments-settled (Some t ∷ ts) h =
      λ i. Some (type-agrees (losing r lost) (settled r (kept_by lost)) (type_of t.value) (λ n s. own-settled n (h.0 n s)) i) ∷ arguments-settled ts h.1 i

  are-settled : (ds : List DatBind) (ns : List TyName) (gs : List (Vec Argument Global)) → Fit ds ns gs → AllAdmit (map name_of ns) → ((k : ℕ) → AreOwn r all (arguments_at gs k))
      → AreSettled r (kept_by lost) (map name_of ns) gs (losing_datatypes r lost ds ns gs)
  are-settled [] [] [] f a own = tt
  are-settled (d ∷ ds) (n ∷ ns) (g ∷ gs) f a own = (
    losing-settled r lost (name_of n) count (λ k e. a.0),
    only-arguments r lost d.constructors.items g.items f.0 ∙ arguments-settled g.items (own 0),
    are-settled ds ns gs f.1 a.1 (λ k. own (suc k)),
  )
  are-settled [] [] (g ∷ gs) f a own = absurd f
  are-settled [] (n ∷ ns) gs f a own = absurd f
  are-settled (d ∷ ds) [] gs f a own = absurd f
  are-settled (d ∷ ds) (n ∷ ns) [] f a own = absurd f

pub datatypes-admit : (r : Run) (ds : List DatBind) (ns : List TyName) (gs : List (Vec Argument Global)) (E : Env Name) (it : AreDatatypes r ds ns gs E)
    → r.count ≡ length gs → Fit ds ns gs → HavePlaces r 0 (map name_of ns) → AllAdmit (map name_of ns) → ((k : ℕ) → AreOwn r (map name_of ns) (arguments_at gs k))
    → AdmitAsManyAsCan naming (losing_datatypes r it.lost ds ns gs)
datatypes-admit r ds ns gs E it count fit places admit own =
    largest-admits r (kept_by it.lost) (map name_of ns) gs (losing_datatypes r it.lost ds ns gs) places own
    (are-settled r it.lost (count ∙ sym it.flags) (map name_of ns) admit ds ns gs fit admit own)
    (subst (λ (s : Run). IsLargest s (kept_by it.lost) gs) (λ i. record { unit = r.unit; first = r.first; count = sym count i }) it.largest)
