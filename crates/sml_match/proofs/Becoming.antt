-- Types for the variables of a scheme that make it another one, found from left to right.
use Rattle.std.proofs.Common.{◌≡◌, ◌↔◌, ℕ, zero, suc, ◌<◌, ◌+◌, Bool, true, false, List, [], ◌∷◌, length, get_or, set, Some, None, option_map, not, Bor, refl, sym, ap, subst, ◌∙◌, arith}
use Rattle.std.proofs.lemmas.Bool.{or_parts}
use mathlib.Core.Bool.{true≢false}
use Rattle.sml_objects.specs.Equality.{is_ref, admits_by, has_equality}
use Rattle.sml_objects.specs.Initial.{Name, naming}
use Rattle.sml_objects.specs.Objects.{MlType, MlTypes, bound, free, app, no_type, and_type}
use Rattle.sml_objects.specs.Types.{replace_type, replace_types, instance_from}
use Rattle.sml_objects.specs.Views.{type_of}
use Rattle.sml_objects.specs.declared.objects.MlType as P
use Rattle.sml_core_rules.specs.Values.{has_unknown, have_unknown}
use Rattle.sml_type_maps.specs.Functions.{by_attributes}
use Rattle.sml_module_rules.specs.Matching.{AdmitSo}
use Rattle.sml_match.specs.declared.general.VariableImage.{VariableImage}
use Rattle.sml_match.specs.General.{stood, IsGiven, Fits, Admits, AreAdmitted, IsKnown, AreKnown, equalities, Becomes}

-- types without unknowns are told by their instances

mutual
  unfolding has_unknown replace_type

  pub instance-same : (t u : MlType Name) → has_unknown t ≡ false → has_unknown u ≡ false → instance_from 0 t ≡ instance_from 0 u → t ≡ u
  instance-same (free v) u h g e = absurd (true≢false h)
  instance-same (bound j) (free v) h g e = absurd (true≢false g)
  instance-same (app c ts) (free v) h g e = absurd (true≢false g)
  instance-same (bound j) (bound k) h g e = let i : 0 + j ≡ 0 + k = cc in let q : j ≡ k = omega (arith, i) in ap bound q
  instance-same (bound j) (app d us) h g e = absurd cc
  instance-same (app c ts) (bound k) h g e = absurd cc
  instance-same (app c ts) (app d us) h g e =
      let i : c ≡ d = cc in
      let f : replace_types (λ j. free (0 + j)) free ts ≡ replace_types (λ j. free (0 + j)) free us = cc in
      let p = instances-same ts us h g f in λ k. app (i k) (p k)

  instances-same : (ts us : MlTypes Name) → have_unknown ts ≡ false → have_unknown us ≡ false → replace_types (λ j. free (0 + j)) free ts ≡ replace_types (λ j. free (0 + j)) free us → ts ≡ us
  instances-same no_type no_type h g e = refl
  instances-same no_type (and_type u us) h g e = absurd cc
  instances-same (and_type t ts) no_type h g e = absurd cc
  instances-same (and_type t ts) (and_type u us) h g e =
      let a = or_parts (has_unknown t) (have_unknown ts) h in
      let b = or_parts (has_unknown u) (have_unknown us) g in
      let i : replace_type (λ j. free (0 + j)) free t ≡ replace_type (λ j. free (0 + j)) free u = cc in
      let f : replace_types (λ j. free (0 + j)) free ts ≡ replace_types (λ j. free (0 + j)) free us = cc in
      let p = instance-same t u a.0 b.0 i in let q = instances-same ts us a.1 b.1 f in λ k. and_type (p k) (q k)

-- one variable among the others

abbrev Types : Type 0
Types = ℕ → MlType Name

fits-at : (vs : List VariableImage) (i k : ℕ) (v : VariableImage) (f : Types) → i < length vs → Fits vs k f → IsGiven (stood (get_or vs i v)) (f (k + i))
fits-at [] i k v f l h = absurd (omega (arith, l))
fits-at (w ∷ vs) zero k v f l h = subst (λ n. IsGiven (stood w) (f n)) (omega arith) h.0
fits-at (w ∷ vs) (suc i) k v f l h = subst (λ n. IsGiven (stood (get_or vs i v)) (f n)) (omega arith) (fits-at vs i (suc k) v f (omega (arith, l)) h.1)

same-at : (vs : List VariableImage) (i : ℕ) (v w : VariableImage) → i < length vs → get_or vs i v ≡ get_or vs i w
same-at [] i v w l = absurd (omega (arith, l))
same-at (x ∷ vs) zero v w l = refl
same-at (x ∷ vs) (suc i) v w l = same-at vs i v w (omega (arith, l))

known-at : (vs : List VariableImage) (i : ℕ) (v : VariableImage) → i < length vs → AreKnown vs → IsKnown (stood (get_or vs i v))
known-at [] i v l h = absurd (omega (arith, l))
known-at (w ∷ vs) zero v l h = h.0
known-at (w ∷ vs) (suc i) v l h = known-at vs i v (omega (arith, l)) h.1

admit-at : (es : List Bool) (vs : List VariableImage) (i k : ℕ) (v : VariableImage) (f : Types) → i < length vs → AdmitSo naming es (equalities vs) k f → (get_or vs i v).equality ≡ true
    → admits_by (is_ref naming) (by_attributes es) (has_equality naming) (f (k + i)) ≡ true
admit-at es [] i k v f l h e = absurd (omega (arith, l))
admit-at es (w ∷ vs) zero k v f l h e = subst (λ n. admits_by (is_ref naming) (by_attributes es) (has_equality naming) (f n) ≡ true) (omega arith) (h.0 e)
admit-at es (w ∷ vs) (suc i) k v f l h e = subst (λ n. admits_by (is_ref naming) (by_attributes es) (has_equality naming) (f n) ≡ true) (omega arith) (admit-at es vs i (suc k) v f (omega (arith, l)) h.1 e)

module _ (u : MlType Name) (v : VariableImage) (is : stood v ≡ Some u) where
  fits-set : (vs : List VariableImage) (i k : ℕ) (w : VariableImage) (f : Types) → i < length vs → stood (get_or vs i w) ≡ None → Fits (set vs i v) k f ↔ (Fits vs k f × (f (k + i) ≡ instance_from 0 u))
  fits-set [] i k w f l n = absurd (omega (arith, l))
  fits-set (x ∷ vs) zero k w f l n = (
    λ h. ((subst (λ o. IsGiven o (f k)) (sym n) tt, h.1), subst (λ m. f m ≡ instance_from 0 u) (omega arith) (subst (λ o. IsGiven o (f k)) is h.0)),
    λ h. (subst (λ o. IsGiven o (f k)) (sym is) (subst (λ m. f m ≡ instance_from 0 u) (omega arith) h.1), h.0.1),
  )
  fits-set (x ∷ vs) (suc i) k w f l n =
      let r = fits-set vs i (suc k) w f (omega (arith, l)) n in (
        λ h. let d = r.0 h.1 in ((h.0, d.0), subst (λ m. f m ≡ instance_from 0 u) (omega arith) d.1),
        λ h. (h.0.0, r.1 (h.0.1, subst (λ m. f m ≡ instance_from 0 u) (omega arith) h.1)),
      )

  known-set : (vs : List VariableImage) (i : ℕ) → has_unknown u ≡ false → AreKnown vs → AreKnown (set vs i v)
  known-set [] i k h = tt
  known-set (x ∷ vs) zero k h = (subst IsKnown (sym is) k, h.1)
  known-set (x ∷ vs) (suc i) k h = (h.0, known-set vs i k h.1)

  admitted-set : (es : List Bool) (vs : List VariableImage) (i : ℕ) → Admits es v.equality (Some u) → AreAdmitted es vs → AreAdmitted es (set vs i v)
  admitted-set es [] i a h = tt
  admitted-set es (x ∷ vs) zero a h = (subst (Admits es v.equality) (sym is) a, h.1)
  admitted-set es (x ∷ vs) (suc i) a h = (h.0, admitted-set es vs i a h.1)

equalities-set : (vs : List VariableImage) (i : ℕ) (w v : VariableImage) → v.equality ≡ (get_or vs i w).equality → equalities (set vs i v) ≡ equalities vs
equalities-set [] i w v e = refl
equalities-set (x ∷ vs) zero w v e = λ k. e k ∷ equalities vs
equalities-set (x ∷ vs) (suc i) w v e = λ k. x.equality ∷ equalities-set vs i w v e k

-- a variable stands for a type: the one for which it stood, or another; or it stood for none

module _ (es : List Bool) (vs : List VariableImage) (i : ℕ) (v : VariableImage) (l : i < length vs) (u : MlType Name) where
  here : 0 + i ≡ i
  here = omega arith

  at : (f : Types) → Fits vs 0 f → IsGiven (stood (get_or vs i v)) (f i)
  at f h = subst (λ n. IsGiven (stood (get_or vs i v)) (f n)) here (fits-at vs i 0 v f l h)

  stands-yes : stood (get_or vs i v) ≡ Some u → Becomes es vs (λ f. f i ≡ instance_from 0 u) true vs
  stands-yes e = record {
    same = refl;
    known = λ h b. h;
    admitted = λ h b. h;
    yes = λ b f. ((λ h. (h, subst (λ o. IsGiven o (f i)) e (at f h))), λ h. h.0);
    no = λ b f a h g. absurd (true≢false b);
  }

  stands-no : (t : MlType Name) → stood (get_or vs i v) ≡ Some t → AreKnown vs → has_unknown u ≡ false → ¬ (t ≡ u) → Becomes es vs (λ f. f i ≡ instance_from 0 u) false vs
  stands-no t e k g n = record {
    same = refl;
    known = λ h b. h;
    admitted = λ h b. absurd (true≢false (sym b));
    yes = λ b f. absurd (true≢false (sym b));
    no = λ b f a h s. n (instance-same t u (subst IsKnown e (known-at vs i v l k)) g (sym (subst (λ o. IsGiven o (f i)) e (at f h)) ∙ s));
  }

  pub stands-as : (t : MlType Name) → stood (get_or vs i v) ≡ Some t → AreKnown vs → has_unknown u ≡ false → (b : Bool) → (b ≡ true → t ≡ u) → (b ≡ false → ¬ (t ≡ u)) → Becomes es vs (λ f. f i ≡ instance_from 0 u) b vs
  stands-as t e k g true y n = stands-yes (e ∙ ap Some (y refl))
  stands-as t e k g false y n = stands-no t e k g (n refl)

  module _ (w : VariableImage) (none : stood (get_or vs i v) ≡ None) (is : stood w ≡ Some u) (kept : w.equality ≡ (get_or vs i v).equality) where
    stands-new : (b : Bool) → has_unknown u ≡ false → (b ≡ true → Admits es w.equality (Some u)) → (b ≡ false → (w.equality ≡ true) × (admits_by (is_ref naming) (by_attributes es) (has_equality naming) (instance_from 0 u) ≡ false))
        → Becomes es vs (λ f. f i ≡ instance_from 0 u) b (set vs i w)
    stands-new b g a n = record {
      same = equalities-set vs i v w kept;
      known = λ h k. known-set u w is vs i g h;
      admitted = λ h k. admitted-set u w is es vs i (a k) h;
      yes = λ k f. subst (λ n. Fits (set vs i w) 0 f ↔ (Fits vs 0 f × (f n ≡ instance_from 0 u))) here (fits-set u w is vs i 0 v f l none);
      no = λ k f d h s.
          let m = n k in
          true≢false (sym (subst (λ t. admits_by (is_ref naming) (by_attributes es) (has_equality naming) t ≡ true) s (subst (λ n. admits_by (is_ref naming) (by_attributes es) (has_equality naming) (f n) ≡ true) here (admit-at es vs i 0 v f l d (sym kept ∙ m.0)))) ∙ m.1);
    }

module _ (es : List Bool) (vs : List VariableImage) (i : ℕ) (v w : VariableImage) (l : i < length vs) (none : (get_or vs i w).image ≡ None) (t : Bor P.MlType) (g : has_unknown (type_of t.now) ≡ false) where
  abbrev now : VariableImage
  now = record { equality = (get_or vs i v).equality; image = Some t }

  stands-now : (b : Bool) → (b ≡ true → Admits es (get_or vs i v).equality (Some (type_of t.now)))
      → (b ≡ false → ((get_or vs i v).equality ≡ true) × (admits_by (is_ref naming) (by_attributes es) (has_equality naming) (instance_from 0 (type_of t.now)) ≡ false))
      → Becomes es vs (λ f. f i ≡ instance_from 0 (type_of t.now)) b (set vs i now)
  stands-now b a n =
      stands-new es vs i v l (type_of t.now) now (ap stood (same-at vs i v w l) ∙ ap (option_map (λ t. type_of t.now)) none) refl refl b g a n

  -- without equality, and with it
  pub stands-plain : (get_or vs i v).equality ≡ false → Becomes es vs (λ f. f i ≡ instance_from 0 (type_of t.now)) (not (get_or vs i v).equality) (set vs i now)
  stands-plain e =
      subst (λ b. Becomes es vs (λ f. f i ≡ instance_from 0 (type_of t.now)) b (set vs i now)) (sym (ap not e))
      (stands-now true (λ b k. absurd (true≢false (sym k ∙ e))) (λ b. absurd (true≢false b)))

  pub stands-equal : (b : Bool) → (get_or vs i v).equality ≡ true → b ≡ admits_by (is_ref naming) (by_attributes es) (has_equality naming) (instance_from 0 (type_of t.now))
      → Becomes es vs (λ f. f i ≡ instance_from 0 (type_of t.now)) b (set vs i now)
  stands-equal b e a = stands-now b (λ k q. sym a ∙ k) (λ k. (e, sym a ∙ k))

-- what is asked, part by part

module _ (es : List Bool) where
  pub becomes-as : (A B : Types → Type 0) (old new : List VariableImage) (b : Bool) → ((f : Types) → A f → B f) → ((f : Types) → B f → A f) → Becomes es old A b new → Becomes es old B b new
  becomes-as A B old new b to from h = record {
    same = h.same;
    known = h.known;
    admitted = h.admitted;
    yes = λ k f. let r = h.yes k f in ((λ g. let d = r.0 g in (d.0, to f d.1)), λ g. r.1 (g.0, from f g.1));
    no = λ k f a g s. h.no k f a g (from f s);
  }

  -- first A and then B
  pub becomes-then : (A B : Types → Type 0) (old mid new : List VariableImage) (b : Bool) → Becomes es old A true mid → Becomes es mid B b new → Becomes es old (λ f. A f × B f) b new
  becomes-then A B old mid new b h k = record {
    same = k.same ∙ h.same;
    known = λ a e. k.known (h.known a refl) e;
    admitted = λ a e. k.admitted (h.admitted a refl) e;
    yes = λ e f.
        let r = h.yes refl f in let s = k.yes e f in ((λ g. let d = s.0 g in let c = r.0 d.0 in (c.0, (c.1, d.1))), λ g. s.1 (r.1 (g.0, g.1.0), g.1.1));
    no = λ e f a g s. k.no e f (subst (λ ds. AdmitSo naming es ds 0 f) (sym h.same) a) ((h.yes refl f).1 (g, s.0)) s.1;
  }

  pub becomes-not : (A B : Types → Type 0) (old mid : List VariableImage) → Becomes es old A false mid → Becomes es old (λ f. A f × B f) false mid
  becomes-not A B old mid h = record {
    same = h.same;
    known = h.known;
    admitted = h.admitted;
    yes = λ e f. absurd (true≢false (sym e));
    no = λ e f a g s. h.no refl f a g s.0;
  }

  -- what asks more is not so either
  pub becomes-less : (A B : Types → Type 0) (old new : List VariableImage) → ((f : Types) → B f → A f) → Becomes es old A false new → Becomes es old B false new
  becomes-less A B old new less h = record {
    same = h.same;
    known = h.known;
    admitted = h.admitted;
    yes = λ e f. absurd (true≢false (sym e));
    no = λ e f a g s. h.no refl f a g (less f s);
  }

  pub becomes-never : (A : Types → Type 0) (old : List VariableImage) → ((f : Types) → A f → ⊥) → Becomes es old A false old
  becomes-never A old n = record {
    same = refl;
    known = λ h b. h;
    admitted = λ h b. h;
    yes = λ e f. absurd (true≢false (sym e));
    no = λ e f a g s. n f s;
  }

  pub becomes-nothing : (A : Types → Type 0) (old : List VariableImage) → ((f : Types) → A f) → Becomes es old A true old
  becomes-nothing A old s = record {
    same = refl;
    known = λ h b. h;
    admitted = λ h b. h;
    yes = λ e f. ((λ g. (g, s f)), λ g. g.0);
    no = λ e f a g s. absurd (true≢false e);
  }
