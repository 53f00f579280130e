-- Renamings that take given names to given names, as exchanges one after the other.
use Rattle.std.proofs.Common.{◌≡◌, List, [], ◌∷◌, refl, ap, sym, ◌∙◌}
use Rattle.sml_objects.specs.Names.{Naming, Initial}
use Rattle.sml_objects.specs.Alike.{Renaming}
use Rattle.sml_objects.specs.Exchanges.{exchanged}

module _ {N : Type 0} (names : Naming N) where
  pub first : (m n k : N) → k ≡ m → exchanged names m n k ≡ n
  unfolding exchanged
  first m n k e =
      elim (names.same k m) as (λ d. (elim d [ yes _ ↦ n | no _ ↦ elim (names.same k n) [ yes _ ↦ m | no _ ↦ k ] ]) ≡ n) [
        | yes _ ↦ refl
        | no h ↦ absurd (h e)
      ]

  pub second : (m n k : N) → k ≡ n → exchanged names m n k ≡ m
  unfolding exchanged
  second m n k e =
      elim (names.same k m) as (λ d. (elim d [ yes _ ↦ n | no _ ↦ elim (names.same k n) [ yes _ ↦ m | no _ ↦ k ] ]) ≡ m) [
        | yes h ↦ sym e ∙ h
        | no _ ↦ elim (names.same k n) as (λ d. (elim d [ yes _ ↦ m | no _ ↦ k ]) ≡ m) [ yes _ ↦ refl | no h ↦ absurd (h e) ]
      ]

  pub other : (m n k : N) → ¬ (k ≡ m) → ¬ (k ≡ n) → exchanged names m n k ≡ k
  unfolding exchanged
  other m n k f g =
      elim (names.same k m) as (λ d. (elim d [ yes _ ↦ n | no _ ↦ elim (names.same k n) [ yes _ ↦ m | no _ ↦ k ] ]) ≡ k) [
        | yes h ↦ absurd (f h)
        | no _ ↦ elim (names.same k n) as (λ d. (elim d [ yes _ ↦ m | no _ ↦ k ]) ≡ k) [ yes h ↦ absurd (g h) | no _ ↦ refl ]
      ]

  pub twice : (m n k : N) → exchanged names m n (exchanged names m n k) ≡ k
  twice m n k = go (names.same k m) (names.same k n)
    where
      go : Dec (k ≡ m) → Dec (k ≡ n) → exchanged names m n (exchanged names m n k) ≡ k
      go (yes e) d = ap (exchanged names m n) (first m n k e) ∙ second m n n refl ∙ sym e
      go (no f) (yes e) = ap (exchanged names m n) (second m n k e) ∙ first m n m refl ∙ sym e
      go (no f) (no g) = ap (exchanged names m n) (other m n k f g) ∙ other m n k f g

  pub kept : (m n k : N) → names.attributes m ≡ names.attributes n → names.attributes k ≡ names.attributes (exchanged names m n k)
  kept m n k a = go (names.same k m) (names.same k n)
    where
      go : Dec (k ≡ m) → Dec (k ≡ n) → names.attributes k ≡ names.attributes (exchanged names m n k)
      go (yes e) d = ap names.attributes e ∙ a ∙ ap names.attributes (sym (first m n k e))
      go (no f) (yes e) = ap names.attributes e ∙ sym a ∙ ap names.attributes (sym (second m n k e))
      go (no f) (no g) = ap names.attributes (sym (other m n k f g))

  unfoldable pub exchange : (m n : N) → names.attributes m ≡ names.attributes n → ((k : Initial) → ¬ (names.initial k ≡ m)) → ((k : Initial) → ¬ (names.initial k ≡ n)) → Renaming names
  exchange m n a f g = record {
    to = exchanged names m n;
    from = exchanged names m n;
    to-from = twice m n;
    from-to = twice m n;
    keeps = λ k. kept m n k a;
    initial = λ k. other m n (names.initial k) (f k) (g k);
  }

  unfoldable pub after : Renaming names → Renaming names → Renaming names
  after g f = record {
    to = λ k. g.to (f.to k);
    from = λ k. f.from (g.from k);
    to-from = λ k. ap g.to (f.to-from (g.from k)) ∙ g.to-from k;
    from-to = λ k. ap f.from (g.from-to (f.to k)) ∙ f.from-to k;
    keeps = λ k. f.keeps k ∙ g.keeps (f.to k);
    initial = λ k. ap g.to (f.initial k) ∙ g.initial k;
  }

  unfoldable pub unchanging : Renaming names
  unchanging = record { to = λ k. k; from = λ k. k; to-from = λ k. refl; from-to = λ k. refl; keeps = λ k. refl; initial = λ k. refl }

  pub one_to_one : (f : Renaming names) (m n : N) → f.to m ≡ f.to n → m ≡ n
  one_to_one f m n e = sym (f.from-to m) ∙ ap f.from e ∙ f.from-to n

  -- both names of the pair differ from those of the others
  unfoldable pub Apart : N × N → List (N × N) → Type 0
  Apart p [] = Unit {0}
  Apart p (q ∷ qs) = (¬ (p.0 ≡ q.0)) × (¬ (p.1 ≡ q.1)) × Apart p qs

  -- pairs of names that can be exchanged
  unfoldable pub ArePairs : List (N × N) → Type 0
  ArePairs [] = Unit {0}
  ArePairs (p ∷ ps) =
      Apart p ps × (names.attributes p.0 ≡ names.attributes p.1) × ((k : Initial) → ¬ (names.initial k ≡ p.0))
      × ((k : Initial) → ¬ (names.initial k ≡ p.1)) × ArePairs ps

  unfoldable pub TakesAll : (N → N) → List (N × N) → Type 0
  TakesAll f [] = Unit {0}
  TakesAll f (p ∷ ps) = (f p.0 ≡ p.1) × TakesAll f ps

  -- none of the names in the pairs
  unfoldable pub IsAway : N → List (N × N) → Type 0
  IsAway n [] = Unit {0}
  IsAway n (p ∷ ps) = (¬ (n ≡ p.0)) × (¬ (n ≡ p.1)) × IsAway n ps

  taken-after : (f x : Renaming names) (p : N × N) (qs : List (N × N)) → ((k : N) → ¬ (k ≡ f.to p.0) → ¬ (k ≡ p.1) → x.to k ≡ k)
      → Apart p qs → TakesAll f.to qs → TakesAll (λ k. x.to (f.to k)) qs
  unfolding Apart TakesAll
  taken-after f x p [] h a t = tt
  taken-after f x p (q ∷ qs) h a t =
      (ap x.to t.0 ∙ h q.1 (λ e. a.0 (sym (one_to_one f q.0 p.0 (t.0 ∙ e)))) (λ e. a.1 (sym e)), taken-after f x p qs h a.2 t.1)

  -- a renaming that takes the first name of each pair to the second, and fixes all names that are in none
  pub built : (ps : List (N × N)) → ArePairs ps → (r : Renaming names) × TakesAll r.to ps × ((n : N) → IsAway n ps → r.to n ≡ n)
  unfolding ArePairs TakesAll IsAway exchange after unchanging
  built [] g = (unchanging, tt, λ n a. refl)
  built (p ∷ ps) g =
      let b : (r : Renaming names) × TakesAll r.to ps × ((n : N) → IsAway n ps → r.to n ≡ n) = built ps g.4 in
      let f : Renaming names = b.0 in
      let x : Renaming names = exchange (f.to p.0) p.1 (sym (f.keeps p.0) ∙ g.1) (λ k e. g.2 k (one_to_one f (names.initial k) p.0 (f.initial k ∙ e))) g.3 in (
        after x f,
        (first (f.to p.0) p.1 (f.to p.0) refl, taken-after f x p ps (λ k c d. other (f.to p.0) p.1 k c d) g.0 b.1),
        λ n a.
            ap (exchanged names (f.to p.0) p.1) (b.2 n a.2)
            ∙ other (f.to p.0) p.1 n (λ e. a.0 (one_to_one f n p.0 (b.2 n a.2 ∙ e))) a.1,
      )
