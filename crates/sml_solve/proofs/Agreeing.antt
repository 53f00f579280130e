-- Types that may become the same types have one scheme.
use Rattle.std.proofs.Common.{◌≡◌, ℕ, inl, inr, Bool, true, false, List, [], ◌∷◌, map, sym, ◌∙◌, ap, subst, refl, arith, nat_eq}
use Rattle.std.proofs.lemmas.List.{length-map}
use Rattle.std.specs.List.{AllByRecursion, list_any}
use Rattle.sml_objects.specs.Equality.{admits}
use Rattle.sml_objects.specs.Fates.{close_as}
use Rattle.sml_objects.specs.Names.{int}
use Rattle.sml_objects.specs.Initial.{Name, initial, naming}
use Rattle.sml_objects.specs.Objects as O
use Rattle.sml_objects.specs.Types.{assign, replace_type, variables_after}
use Rattle.sml_objects.specs.declared.fates.Fate.{Fate}
use Rattle.sml_objects.specs.declared.fates.Fate.TheVariants.{Bind, Keep, Default}
use Rattle.sml_objects.proofs.EnvViews.{map-map}
use Rattle.sml_layers.specs.declared.layer.Layer.TheVariants.{Finiteness, Equality, Classes}
use Rattle.sml_layers.specs.Worlds.{finite}
use Rattle.sml_graph.specs.Worlds.{Assignment}
use Rattle.sml_graph.specs.Asked.{Asked, Permits}
use Rattle.sml_layers.specs.Rows.{fields_at}
use Rattle.sml_schemes.specs.Left.{IsMadeOf, IsFree, IsLeft, IsReading, MayBe, KeepsFields, IsMostGeneral}
use Rattle.sml_schemes.specs.Schemes.{IsInt, AsksEquality, IsFateOf, IsSchemeOfReading, MayBecome, AreAlike, HasNoFlag, HasNoFlexible, GiveOneScheme}
use Rattle.sml_demands.proofs.Owning.{made-more, assigned-alike, row-not-free}
use Rattle.sml_graph.proofs.Searching.{all-parts}
use Rattle.sml_solve.proofs.Uniqueness.{stays, variables-made, one-fate, same-fates}
use Rattle.sml_solve.proofs.Renaming.{alike-on, assign-then, made-there, number_of, IsNamed, back-named, IsBack, variables-renamed, at-variable, at-each, IsNotKeep, closed-renamed}

-- what is permitted where more is asked is permitted by the equations

with-equality : (s : Asked) (σ : Assignment finite) → Permits Equality s σ → Permits Finiteness s σ
unfolding Permits
with-equality s σ p = (p.0, p.1, λ k h. p.2 k (omega (arith, h)), p.3)

with-classes : (s : Asked) (σ : Assignment finite) → Permits Classes s σ → Permits Finiteness s σ
unfolding Permits
with-classes s σ p = (p.0, p.1, λ k h. p.2 k (omega (arith, h)), p.3)

-- where no flexible row is left, each unknown that is left may stand for itself

left-free : (s : Asked) (v : ℕ) → HasNoFlexible s → IsLeft s v → IsFree s v
left-free s v n l = elim l.undetermined [ inl f ↦ f | inr x ↦ absurd (n v l x) ]

own : (s : Asked) → IsMostGeneral s → HasNoFlexible s → (σ : Assignment finite) × Permits Finiteness s σ × ((v : ℕ) → IsLeft s v → σ v ≡ O.free v)
unfolding IsMostGeneral MayBe KeepsFields
own s m n =
    let h = m Finiteness (omega arith) (λ v. O.free v) (λ v l. left-free s v n l (O.free v)) (λ v fs l a f. let p = left-free s v n l (O.free 0) in absurd (row-not-free (fields_at (assign p.0) fs) 0 (p.0 v) (f p.0 p.1) p.2)) in
    (h.0, h.1, h.2)

-- A reading becomes whatever a type that is alike is read as.
becomes : (s r : Asked) (t q p o : O.MlType Name) → IsMostGeneral r → HasNoFlexible r → ((a : O.MlType Name) → MayBecome Finiteness r q a → MayBecome Finiteness s t a) → IsReading s t p → IsReading r q o → (σ : Assignment finite) × Permits Finiteness s σ × (assign σ p ≡ o)
unfolding IsReading MayBecome
becomes s r t q p o m n f a b =
    let w = own r m n in
    let e : assign w.0 q ≡ o = sym (b.1 w.0 w.1) ∙ stays (IsLeft r) w.0 o w.2 b.0 in
    let x = f o (w.0, w.1, e) in
    (x.0, x.1, a.1 x.0 x.1 ∙ x.2)

all-over : {A : Type 0} (P : A → Type 0) (f : ℕ → A) (vs : List ℕ) → AllByRecursion (λ v. P (f v)) vs → AllByRecursion P (map f vs)
all-over P f [] a = tt
all-over P f (v ∷ vs) a = (a.0, all-over P f vs a.1)

not-kept : (s : Asked) (bs : List Bool) (v : ℕ) (f : Fate) → HasNoFlag bs → HasNoFlexible s → IsLeft s v → IsFateOf s bs false v f → IsNotKeep f
not-kept s bs v (Bind e) n o l x = tt
not-kept s bs v Keep n o l x = elim x.1 [ inl y ↦ let q : false ≡ true = y in absurd cc | inr m ↦ elim m [ inl a ↦ absurd (n v a) | inr f ↦ absurd (o v l f) ] ]
not-kept s bs v Default n o l x = tt

module _ (s r : Asked) (t q p o : O.MlType Name) (alike : AreAlike s t r q) (a : IsReading s t p) (b : IsReading r q o) (σ τ : Assignment finite) (forth : assign σ p ≡ o) (back : assign τ o ≡ p) where
  abbrev there : ℕ → ℕ
  there v = number_of (σ v)

  abbrev here : ℕ → ℕ
  here v = number_of (τ v)

  abbrev IsOf : ℕ → Type 0
  IsOf v = list_any (nat_eq v) (variables_after [] p) ≡ true

  made : IsMadeOf (λ v. IsLeft s v × IsNamed τ v (σ v)) p
  unfolding IsReading
  made = back-named (IsLeft s) σ τ p a.0 (ap (assign τ) forth ∙ back)

  goes-back : IsMadeOf (IsBack there here) p
  goes-back = made-more (λ v. IsLeft s v × IsNamed τ v (σ v)) (IsBack there here) p (λ v x. ap number_of x.1.1) made

  renamed : o ≡ assign (λ v. O.free (there v)) p
  renamed = sym forth ∙ assigned-alike σ (λ v. O.free (there v)) p (made-more (λ v. IsLeft s v × IsNamed τ v (σ v)) (λ v. σ v ≡ O.free (there v)) p (λ v x. x.1.0) made)

  -- types that both may become are the same at each variable
  matched : (ρ υ : Assignment finite) → Permits Finiteness s ρ → Permits Finiteness r υ → assign ρ t ≡ assign υ q → (v : ℕ) → IsOf v → ρ v ≡ υ (there v)
  unfolding IsReading replace_type
  matched ρ υ x y e v i =
      let same : assign ρ p ≡ assign (λ v. υ (there v)) p = a.1 ρ x ∙ (e ∙ (sym (b.1 υ y) ∙ (ap (assign υ) renamed ∙ assign-then (λ v. O.free (there v)) υ p))) in
      (at-variable (λ v. IsLeft s v × (ρ v ≡ υ (there v))) p v (alike-on (IsLeft s) ρ (λ v. υ (there v)) p a.0 same) i).1

  int-there : (v : ℕ) → IsOf v → IsInt s v → IsInt r (there v)
  unfolding IsInt MayBecome
  int-there v i f υ y =
      let x = (alike.with_classes (assign υ q)).1 (υ, y, refl) in
      sym (matched x.0 υ (with-classes s x.0 x.1) (with-classes r υ y) x.2 v i) ∙ f x.0 x.1

  int-here : (v : ℕ) → IsOf v → IsInt r (there v) → IsInt s v
  unfolding IsInt MayBecome
  int-here v i f ρ x =
      let y = (alike.with_classes (assign ρ t)).0 (ρ, x, refl) in
      matched ρ y.0 (with-classes s ρ x) (with-classes r y.0 y.1) (sym y.2) v i ∙ f y.0 y.1

  equality-there : (v : ℕ) → IsOf v → AsksEquality s v → AsksEquality r (there v)
  unfolding AsksEquality MayBecome
  equality-there v i f υ y =
      let x = (alike.with_equality (assign υ q)).1 (υ, y, refl) in
      subst (λ t. admits naming t ≡ true) (matched x.0 υ (with-equality s x.0 x.1) (with-equality r υ y) x.2 v i) (f x.0 x.1)

  equality-here : (v : ℕ) → IsOf v → AsksEquality r (there v) → AsksEquality s v
  unfolding AsksEquality MayBecome
  equality-here v i f ρ x =
      let y = (alike.with_equality (assign ρ t)).0 (ρ, x, refl) in
      subst (λ t. admits naming t ≡ true) (sym (matched ρ y.0 (with-equality s ρ x) (with-equality r y.0 y.1) (sym y.2) v i)) (f y.0 y.1)

  left-here : (v : ℕ) → IsOf v → IsLeft s v
  unfolding IsReading
  left-here v i = at-variable (IsLeft s) p v a.0 i

  left-there : (v : ℕ) → IsOf v → IsLeft r (there v)
  unfolding IsReading
  left-there v i = at-variable (λ v. IsLeft r (there v)) p v (made-there (IsLeft r) there p (subst (IsMadeOf (IsLeft r)) renamed b.0)) i

  module _ (bs cs : List Bool) (n : HasNoFlag bs) (k : HasNoFlag cs) (x : HasNoFlexible s) (y : HasNoFlexible r) where
    fate-here : (v : ℕ) (f : Fate) → IsOf v → IsFateOf r cs false (there v) f → IsFateOf s bs false v f
    fate-here v (Bind e) i z = (λ w. z.0 (int-there v i w), refl, n v, x v (left-here v i), (λ w. equality-here v i (z.4.0 w), λ w. z.4.1 (equality-there v i w)))
    fate-here v Keep i z = absurd (not-kept r cs (there v) Keep k y (left-there v i) z)
    fate-here v Default i z = int-here v i z

    schemes-same : (θ η : O.Scheme Name) → IsSchemeOfReading s bs false p θ → IsSchemeOfReading r cs false o η → θ ≡ η
    unfolding IsReading
    schemes-same θ η z w =
        let u = O.named (initial int) in
        let vs = variables_after [] p in
        let left = variables-made (IsLeft s) [] p tt a.0 in
        let fs = map z.fate vs in
        let same : AllByRecursion (λ v. z.fate v ≡ w.fate (there v)) vs = variables-made (λ v. z.fate v ≡ w.fate (there v)) [] p tt
        (at-each (IsLeft s) (λ v. z.fate v ≡ w.fate (there v)) p a.0 (λ v i.
        one-fate s bs false v (z.fate v) (w.fate (there v)) (z.fates v (left-here v i)) (fate-here v (w.fate (there v)) i (w.fates (there v) (left-there v i))))) in
        let kept : AllByRecursion IsNotKeep fs = all-over IsNotKeep z.fate vs (all-parts (IsLeft s) (λ v. IsNotKeep (z.fate v)) vs (λ v l. not-kept s bs v (z.fate v) n x l (z.fates v l)) left) in
        let fates : map w.fate (variables_after [] o) ≡ fs = ap (λ z. map w.fate (variables_after [] z)) renamed ∙ (ap (map w.fate) (variables-renamed there here [] p tt goes-back) ∙ (map-map w.fate there vs ∙ sym (same-fates z.fate (λ v. w.fate (there v)) vs same))) in
        z.scheme ∙ (closed-renamed u there here p o fs renamed goes-back kept (length-map vs z.fate) ∙ (ap (λ gs. close_as u gs o) (sym fates) ∙ sym w.scheme))

pub schemes-agree : (s r : Asked) → IsMostGeneral s → IsMostGeneral r → GiveOneScheme s r
schemes-agree s r m k t q bs cs θ η alike n l e h x y =
    let f = becomes s r t q x.reading y.reading k h (λ a. (alike.finite_types a).1) x.reads y.reads in
    let g = becomes r s q t y.reading x.reading m e (λ a. (alike.finite_types a).0) y.reads x.reads in
    schemes-same s r t q x.reading y.reading alike x.reads y.reads f.0 g.0 f.2 g.2 bs cs n l e h θ η x.closed y.closed
