-- The largest set that respects equality, seen from the names as they are in the end.
use Rattle.std.proofs.Common.{◌≡◌, ℕ, zero, suc, ◌+◌, ◌<◌, inl, inr, Bool, true, false, ◌&&◌, ◌||◌, Option, Some, None, List, [], ◌∷◌, map, length, Vec, Global, refl, ap, sym, ◌∙◌, arith}
use Rattle.std.specs.declared.rc.Rc.{Rc}
use Rattle.sml_objects.specs.Appearance.{Stands}
use Rattle.sml_objects.specs.Equality.{is_ref, is_reference_name, admits_by, all_admit_by, has_equality}
use Rattle.sml_objects.specs.Initial.{Name, initial, made, naming, attributes_of}
use Rattle.sml_objects.specs.Objects as O
use Rattle.sml_objects.specs.Objects.{names_type, names_types, rename_type, rename_types}
use Rattle.sml_objects.specs.Views.{type_of}
use Rattle.sml_objects.specs.declared.objects.MlType.{MlType}
use Rattle.sml_objects.proofs.EqualityViews.{is_ref-name}
use Rattle.sml_objects.proofs.Standing.{left, right}
use Rattle.sml_core_rules.specs.Datatypes as D
use Rattle.sml_core_rules.specs.Datatypes.{AdmitAsManyAsCan, Respects}
use Rattle.sml_equality.specs.declared.runs.Run.{Run}
use Rattle.sml_equality.specs.Runs as R
use Rattle.sml_equality.specs.Runs.{IsLargest, admits_in, arguments_at, kept_or, place_in, type_admits}
use Rattle.sml_equality.specs.Settled.{AreOwn, AreSettled, HavePlaces, IsOwn, LargestAdmits, name_at, settled, settled_argument}

-- a settled name admits equality where the set has it
settled-equality : (r : Run) (kept : ℕ → Bool) (n : Name) → has_equality naming (settled r kept n) ≡ admits_in r kept n
unfolding naming
settled-equality r kept (initial k) = refl
settled-equality r kept (made u n a q) = refl

settled-ref : (r : Run) (kept : ℕ → Bool) (n : Name) → is_ref naming (settled r kept n) ≡ is_reference_name n
settled-ref r kept (initial k) = is_ref-name (initial k)
settled-ref r kept (made u n a q) = is_ref-name (made u n a (kept_or kept q (place_in r (made u n a q))))

settled-place : (r : Run) (kept : ℕ → Bool) (n : Name) → place_in r (settled r kept n) ≡ place_in r n
settled-place r kept (initial k) = refl
settled-place r kept (made u n a q) = refl

settled-other : (r : Run) (kept : ℕ → Bool) (n : Name) → place_in r n ≡ None → settled r kept n ≡ n
settled-other r kept (initial k) e = refl
settled-other r kept (made u n a q) e = ap (λ p. made u n a (kept_or kept q p)) e

-- A type admits equality by sets that agree on its names.
module _ (f : Name → Name) (refs : Name → Bool) (eq g : Name → Bool) (same-refs : (n : Name) → refs (f n) ≡ is_reference_name n) where
  mutual
    unfolding admits_by rename_type names_type Stands

    admits-renamed : (t : O.MlType Name) → ((n : Name) → Stands n (names_type t) → eq (f n) ≡ g n)
        → admits_by refs (λ _. true) eq (rename_type f t) ≡ admits_by is_reference_name (λ _. true) g t
    admits-renamed (O.bound k) h = refl
    admits-renamed (O.free v) h = refl
    admits-renamed (O.app O.arrow ts) h = refl
    admits-renamed (O.app (O.row ls) ts) h = all-renamed ts h
    admits-renamed (O.app (O.name n) ts) h = λ i. same-refs n i || (h n (inl refl) i && all-renamed ts (λ m s. h m (inr s)) i)

    all-renamed : (ts : O.MlTypes Name) → ((n : Name) → Stands n (names_types ts) → eq (f n) ≡ g n)
        → all_admit_by refs (λ _. true) eq (rename_types f ts) ≡ all_admit_by is_reference_name (λ _. true) g ts
    all-renamed O.no_type h = refl
    all-renamed (O.and_type t ts) h = λ i. admits-renamed t (λ n s. h n (left n (names_type t) (names_types ts) s)) i && all-renamed ts (λ n s. h n (right n (names_type t) (names_types ts) s)) i

-- The arguments of a datatype's constructors admit equality in the end where they do in the set.
abbrev Shared : Type 0
Shared = Option (Rc MlType Global)

abbrev AreMentioned : (Name → Type 0) → List Shared → Type 0
AreMentioned Q [] = Unit {0}
AreMentioned Q (None ∷ ts) = AreMentioned Q ts
AreMentioned Q (Some t ∷ ts) = ((n : Name) → Stands n (names_type (type_of t.value)) → Q n) × AreMentioned Q ts

module _ (r : Run) (kept others : ℕ → Bool) (eq : Name → Bool) where
  abbrev Agrees : Name → Type 0
  Agrees n = eq (settled r kept n) ≡ admits_in r others n

  argument-settled : (t : Shared) (ts : List Shared) → AreMentioned Agrees (t ∷ ts) → D.argument_admits (is_ref naming) eq (settled_argument r kept t) ≡ R.argument_admits r others t
  argument-settled None ts h = refl
  argument-settled (Some t) ts h = admits-renamed (settled r kept) (is_ref naming) eq (admits_in r others) (settled-ref r kept) (type_of t.value) h.0

  rest-mentioned : (t : Shared) (ts : List Shared) → AreMentioned Agrees (t ∷ ts) → AreMentioned Agrees ts
  rest-mentioned None ts h = h
  rest-mentioned (Some t) ts h = h.1

  abbrev arguments-of : List (Option (O.MlType Name)) → Bool
  arguments-of [] = true
  arguments-of (t ∷ ts) = D.argument_admits (is_ref naming) eq t && arguments-of ts

  by-types : (cs : D.Arguments Name) → D.arguments_admit (is_ref naming) eq cs ≡ arguments-of (map (λ c. c.1) cs)
  by-types [] = refl
  by-types (c ∷ cs) = ap (λ b. D.argument_admits (is_ref naming) eq c.1 && b) (by-types cs)

  settled-types : (ts : List Shared) → AreMentioned Agrees ts → arguments-of (map (settled_argument r kept) ts) ≡ R.arguments_admit r others ts
  settled-types [] h = refl
  settled-types (t ∷ ts) h = λ i. argument-settled t ts h i && settled-types ts (rest-mentioned t ts h) i

  arguments-settled : (cs : D.Arguments Name) (ts : List Shared) → map (λ c. c.1) cs ≡ map (settled_argument r kept) ts → AreMentioned Agrees ts
      → D.arguments_admit (is_ref naming) eq cs ≡ R.arguments_admit r others ts
  arguments-settled cs ts e h = by-types cs ∙ ap arguments-of e ∙ settled-types ts h

everywhere : (Q : Name → Type 0) (ts : List Shared) → ((n : Name) → Q n) → AreMentioned Q ts
everywhere Q [] f = tt
everywhere Q (None ∷ ts) f = everywhere Q ts f
everywhere Q (Some t ∷ ts) f = ((λ n s. f n), everywhere Q ts f)

abbrev Datatypes : Type 0
Datatypes = List (Name × D.Arguments Name)

abbrev Given : Type 0
Given = List (Vec Shared Global)

kept-there : (r : Run) (kept : ℕ → Bool) (n : Name) (k : ℕ) → place_in r n ≡ Some k → has_equality naming (settled r kept n) ≡ kept k
kept-there r kept n k e = settled-equality r kept n ∙ ap (kept_or kept (attributes_of n).equality) e

respects-settled : (r : Run) (kept : ℕ → Bool) (k : ℕ) (ns : List Name) (ds : Given) (es : Datatypes) → HavePlaces r k ns → AreSettled r kept ns ds es
    → ((j : ℕ) → j < length ds → kept (k + j) ≡ true → R.arguments_admit r kept (arguments_at ds j) ≡ true) → Respects (is_ref naming) (has_equality naming) es
respects-settled r kept k [] [] [] p s h = tt
respects-settled r kept k (n ∷ ns) (d ∷ ds) (e ∷ es) p s h = (
  λ q.
      arguments-settled r kept kept (has_equality naming) e.1 d.items s.1 (everywhere (λ n. has_equality naming (settled r kept n) ≡ admits_in r kept n) d.items (settled-equality r kept))
      ∙ h 0 (omega arith) (ap kept (let z : k + 0 ≡ k = omega arith in z) ∙ (sym (kept-there r kept n k p.0) ∙ (ap (has_equality naming) (sym s.0) ∙ q))),
  respects-settled r kept (suc k) ns ds es p.1 s.2 (λ j l t. h (suc j) (omega (arith, l)) (ap kept (let z : k + suc j ≡ suc k + j = omega arith in z) ∙ t)),
)
respects-settled r kept k [] [] (e ∷ es) p s h = absurd s
respects-settled r kept k [] (d ∷ ds) es p s h = absurd s
respects-settled r kept k (n ∷ ns) [] es p s h = absurd s
respects-settled r kept k (n ∷ ns) (d ∷ ds) [] p s h = absurd s

-- a datatype by its name
record Entry (r : Run) (kept : ℕ → Bool) (k : ℕ) (ns : List Name) (ds : Given) (n : Name) : Type 0 where
  index : ℕ
  inside : index < length ds
  own : Name
  at : name_at ns index ≡ Some own
  is : n ≡ settled r kept own
  place : place_in r own ≡ Some (k + index)

entry-of : (r : Run) (kept : ℕ → Bool) (k : ℕ) (ns : List Name) (ds : Given) (es : Datatypes) (n : Name) → HavePlaces r k ns → AreSettled r kept ns ds es
    → Stands n (map (λ d. d.0) es) → Entry r kept k ns ds n
unfolding Stands
entry-of r kept k [] [] [] n p s m = absurd m
entry-of r kept k (x ∷ ns) (d ∷ ds) (e ∷ es) n p s (inl q) = record {
  index = 0;
  inside = omega arith;
  own = x;
  at = refl;
  is = q ∙ s.0;
  place = p.0 ∙ ap Some (let z : k ≡ k + 0 = omega arith in z);
}
entry-of r kept k (x ∷ ns) (d ∷ ds) (e ∷ es) n p s (inr m) =
    let f = entry-of r kept (suc k) ns ds es n p.1 s.2 m in
    record {
      index = suc f.index;
      inside = let h = f.inside in omega (arith, h);
      own = f.own;
      at = f.at;
      is = f.is;
      place = f.place ∙ ap Some (let z : suc k + f.index ≡ k + suc f.index = omega arith in z);
    }
entry-of r kept k [] [] (e ∷ es) n p s m = absurd s
entry-of r kept k [] (d ∷ ds) es n p s m = absurd s
entry-of r kept k (x ∷ ns) [] es n p s m = absurd s
entry-of r kept k (x ∷ ns) (d ∷ ds) [] n p s m = absurd s

-- Any other set, seen at the places.
module _ (r : Run) (kept : ℕ → Bool) (ns : List Name) (eq : Name → Bool) where
  abbrev by-name : Option Name → Bool
  by-name None = false
  by-name (Some n) = eq (settled r kept n)

  abbrev others : ℕ → Bool
  others k = by-name (name_at ns k)

  agree : ((n : Name) → place_in r n ≡ None → eq n ≡ has_equality naming n) → (n : Name) → IsOwn r ns n → eq (settled r kept n) ≡ admits_in r others n
  unfolding naming
  agree outside n own = go (place_in r n) refl where
    go : (p : Option ℕ) → place_in r n ≡ p → eq (settled r kept n) ≡ kept_or others (attributes_of n).equality (place_in r n)
    go None e = ap eq (settled-other r kept n e) ∙ (outside n e ∙ sym (ap (kept_or others (attributes_of n).equality) e))
    go (Some k) e = sym (ap (kept_or others (attributes_of n).equality) e ∙ ap by-name (own k e))

  own-agree : ((n : Name) → place_in r n ≡ None → eq n ≡ has_equality naming n) → (ts : List Shared) → AreOwn r ns ts → AreMentioned (λ n. eq (settled r kept n) ≡ admits_in r others n) ts
  own-agree outside [] h = tt
  own-agree outside (None ∷ ts) h = own-agree outside ts h
  own-agree outside (Some t ∷ ts) h = ((λ n s. agree outside n (h.0 n s)), own-agree outside ts h.1)

  respects-others : ((n : Name) → place_in r n ≡ None → eq n ≡ has_equality naming n) → (k : ℕ) (ms : List Name) (ds : Given) (es : Datatypes)
      → ((j : ℕ) → others (k + j) ≡ by-name (name_at ms j)) → ((j : ℕ) → AreOwn r ns (arguments_at ds j)) → AreSettled r kept ms ds es → Respects (is_ref naming) eq es
      → (j : ℕ) → j < length ds → others (k + j) ≡ true → R.arguments_admit r others (arguments_at ds j) ≡ true
  respects-others outside k [] [] [] same own s h j l t = absurd (omega (arith, l))
  respects-others outside k (m ∷ ms) (d ∷ ds) (e ∷ es) same own s h zero l t =
      sym (arguments-settled r kept others eq e.1 d.items s.1 (own-agree outside d.items (own 0))) ∙ h.0 (ap eq s.0 ∙ (sym (same 0) ∙ t))
  respects-others outside k (m ∷ ms) (d ∷ ds) (e ∷ es) same own s h (suc j) l t =
      respects-others outside (suc k) ms ds es (λ i. ap others (let z : suc k + i ≡ k + suc i = omega arith in z) ∙ same (suc i)) (λ i. own (suc i)) s.2 h.1 j (omega (arith, l)) (ap others (let z : suc k + j ≡ k + suc j = omega arith in z) ∙ t)
  respects-others outside k [] [] (e ∷ es) same own s h j l t = absurd s
  respects-others outside k [] (d ∷ ds) es same own s h j l t = absurd s
  respects-others outside k (m ∷ ms) [] es same own s h j l t = absurd s
  respects-others outside k (m ∷ ms) (d ∷ ds) [] same own s h j l t = absurd s

no-place : (k : ℕ) (p : Option ℕ) → p ≡ None → p ≡ Some k → ⊥
no-place k p e f = let q : None ≡ Some k = sym e ∙ f in cc

pub largest-admits : LargestAdmits
unfolding AdmitAsManyAsCan
largest-admits r kept ns ds es places own settles big = (
  respects-settled r kept 0 ns ds es places settles (λ j l t. big.respects j l (ap kept (let z : j ≡ 0 + j = omega arith in z) ∙ t)),
  λ eq apart respects n among t.
      let outside : (m : Name) → place_in r m ≡ None → eq m ≡ has_equality naming m = λ m e.
      apart m (λ a. let f = entry-of r kept 0 ns ds es m places settles a in no-place (0 + f.index) (place_in r m) e (ap (place_in r) f.is ∙ (settled-place r kept f.own ∙ f.place))) in
      let f = entry-of r kept 0 ns ds es n places settles among in
      let zeros : (j : ℕ) → others r kept ns eq (0 + j) ≡ others r kept ns eq j = λ j. ap (others r kept ns eq) (let z : 0 + j ≡ j = omega arith in z) in
      let there : others r kept ns eq f.index ≡ true = ap (by-name r kept ns eq) f.at ∙ (ap eq (sym f.is) ∙ t) in
      let has : kept f.index ≡ true = big.largest (others r kept ns eq) (λ j l u. respects-others r kept ns eq outside 0 ns ds es zeros own settles respects j l (zeros j ∙ u)) f.index f.inside there in
      ap (has_equality naming) f.is ∙ (kept-there r kept f.own (0 + f.index) f.place ∙ (ap kept (let z : 0 + f.index ≡ f.index = omega arith in z) ∙ has)),
)
