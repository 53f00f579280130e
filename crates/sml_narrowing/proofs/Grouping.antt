-- Rows in groups, one for each constructor.
use Rattle.std.proofs.Common.{◌≡◌, ◌⊎◌, ℕ, zero, suc, ◌+◌, ◌<◌, ◌≤◌, length, get_or, set, arith, List, [], ◌∷◌, ◌++◌, Bool, true, false, cond, Some, None, inl, inr, append-nil, refl, ap, sym, subst, ◌∙◌}
use Rattle.std.specs.Prelude.{Vec, nat_eq}
use Rattle.std.specs.Borrow.{Bor}
use Rattle.std.specs.Global.{Global}
use Rattle.std.proofs.lemmas.Bool.{eqb-true, false≢true}
use Rattle.std.proofs.lemmas.Bool.Decides.{Decides-eqb}
use Rattle.sml_narrowing.specs.declared.pattern.Pattern.{Pattern}
use Rattle.sml_narrowing.specs.Plain.{Plain, Wild, Made, Fields, Valued}
use Rattle.sml_narrowing.specs.CodeTasks.{lines, group_at}
use Rattle.sml_narrowing.specs.CodeMatrix.{AtConstructor, replace, onto, kept, narrow, first_of}

abbrev pub Group : Type 0
Group = Vec (Vec (Bor Pattern) Global) Global

pub here : (gs : List Group) (i : ℕ) (g : Group) → i < length gs → group_at (set gs i g) i ≡ lines g.items
here [] i g h = absurd (omega (arith, h))
here (x ∷ gs) zero g h = refl
here (x ∷ gs) (suc i) g h = here gs i g (omega (arith, h))

pub other : (gs : List Group) (i k : ℕ) (g : Group) → ¬ (i ≡ k) → group_at (set gs i g) k ≡ group_at gs k
other [] i k g n = refl
other (x ∷ gs) zero zero g n = absurd (n refl)
other (x ∷ gs) zero (suc k) g n = refl
other (x ∷ gs) (suc i) zero g n = refl
other (x ∷ gs) (suc i) (suc k) g n = other gs i k g (λ e. n (omega (arith, e)))

pub at_index : (gs : List Group) (i : ℕ) (d : Group) → i < length gs → group_at gs i ≡ lines (get_or gs i d).items
at_index [] i d h = absurd (omega (arith, h))
at_index (x ∷ gs) zero d h = refl
at_index (x ∷ gs) (suc i) d h = at_index gs i d (omega (arith, h))

-- what a row adds to the group of a constructor
abbrev pub addition : List Plain → ℕ → List (List Plain)
addition row k = kept (narrow (AtConstructor k) row) []

by_order : (k i : ℕ) → k < suc i → (k < i) ⊎ (i ≡ k)
by_order k zero h = inr (omega (arith, h))
by_order zero (suc i) h = inl (omega arith)
by_order (suc k) (suc i) h = elim (by_order k i (omega (arith, h))) [ inl l ↦ inl (omega (arith, l)) | inr e ↦ inr (ap suc e) ]

-- one more group has the row
pub next_added : (start gs : List Group) (i : ℕ) (g : Group) (row : List Plain) → i < length gs → ((k : ℕ) → k < i → group_at gs k ≡ group_at start k ++ addition row k) → ((k : ℕ) → i ≤ k → group_at gs k ≡ group_at start k)
    → lines g.items ≡ group_at gs i ++ addition row i
    → ((k : ℕ) → k < i + 1 → group_at (set gs i g) k ≡ group_at start k ++ addition row k) × ((k : ℕ) → i + 1 ≤ k → group_at (set gs i g) k ≡ group_at start k)
next_added start gs i g row w added left e = (done, after)
  where
    mine : group_at (set gs i g) i ≡ group_at start i ++ addition row i
    mine = here gs i g w ∙ e ∙ ap (λ rows. rows ++ addition row i) (left i (omega arith))

    done : (k : ℕ) → k < i + 1 → group_at (set gs i g) k ≡ group_at start k ++ addition row k
    done k h = elim (by_order k i (omega (arith, h))) [
      | inl l ↦ other gs i k g (λ f. omega (arith, f, l)) ∙ added k l
      | inr f ↦ subst (λ j. group_at (set gs i g) j ≡ group_at start j ++ addition row j) f mine
    ]

    after : (k : ℕ) → i + 1 ≤ k → group_at (set gs i g) k ≡ group_at start k
    after k h = other gs i k g (λ f. omega (arith, f, h)) ∙ left k (omega (arith, h))

-- a row adds nothing to the group of a constructor that it doesn't cover
none_added : (row : List Plain) (q : Plain) (k : ℕ) → first_of row ≡ q → replace (AtConstructor k) q ≡ None → addition row k ≡ []
none_added [] q k e n = refl
none_added (p ∷ r) q k e n = ap (λ o. kept (onto r o) []) (ap (replace (AtConstructor k)) e ∙ n)

-- a row that begins with a constructor is added to its group alone
pub one_added : (gs : List Group) (j n : ℕ) (p : Plain) (g : Group) (row : List Plain) → j < length gs → first_of row ≡ Made j n p → lines g.items ≡ group_at gs j ++ addition row j
    → (k : ℕ) → group_at (set gs j g) k ≡ group_at gs k ++ addition row k
one_added gs j n p g row w f e k = go (nat_eq j k) refl
  where
    go : (b : Bool) → nat_eq j k ≡ b → group_at (set gs j g) k ≡ group_at gs k ++ addition row k
    go true t = subst (λ i. group_at (set gs j g) i ≡ group_at gs i ++ addition row i) (eqb-true j k t) (here gs j g w ∙ e)
    go false t =
        other gs j k g (λ i. false≢true (sym t ∙ sym (ap (nat_eq j) i) ∙ (Decides-eqb j j).1 refl))
        ∙ sym (append-nil (group_at gs k)) ∙ ap (λ rows. group_at gs k ++ rows) (sym (none_added row (Made j n p) k f (ap (λ b. cond b (Some (p ∷ [])) None) t)))

-- and to none where there is no such group
past_eq : (j k m : ℕ) → k < m → m ≤ j → nat_eq j k ≡ false
past_eq j k m h l = go (nat_eq j k) refl
  where
    go : (b : Bool) → nat_eq j k ≡ b → nat_eq j k ≡ false
    go true e = absurd (let f = eqb-true j k e in omega (arith, f, h, l))
    go false e = e

pub past_added : (gs : List Group) (j n : ℕ) (p : Plain) (row : List Plain) → length gs ≤ j → first_of row ≡ Made j n p → (k : ℕ) → k < length gs → group_at gs k ≡ group_at gs k ++ addition row k
past_added gs j n p row w f k h =
    sym (append-nil (group_at gs k)) ∙ ap (λ rows. group_at gs k ++ rows) (sym (none_added row (Made j n p) k f (ap (λ b. cond b (Some (p ∷ [])) None) (past_eq j k (length gs) h w))))

-- nor does one that begins with a row or a value add to any
abbrev pub IsNoConstructor : Plain → Type 0
IsNoConstructor Wild = ⊥
IsNoConstructor (Made j n p) = ⊥
IsNoConstructor _ = Unit {0}

unreplaced : (q : Plain) (k : ℕ) → IsNoConstructor q → replace (AtConstructor k) q ≡ None
unreplaced Wild k h = absurd h
unreplaced (Made j n p) k h = absurd h
unreplaced (Fields fs) k h = refl
unreplaced (Valued v p) k h = refl

pub no_added : (gs : List Group) (q : Plain) (row : List Plain) → first_of row ≡ q → IsNoConstructor q → (k : ℕ) → group_at gs k ≡ group_at gs k ++ addition row k
no_added gs q row f h k = sym (append-nil (group_at gs k)) ∙ ap (λ rows. group_at gs k ++ rows) (sym (none_added row q k f (unreplaced q k h)))

-- one more empty group
pub still_empty : (gs : List Group) (g : Group) → lines g.items ≡ [] → ((k : ℕ) → group_at gs k ≡ []) → (k : ℕ) → group_at (gs ++ g ∷ []) k ≡ []
still_empty [] g e h zero = e
still_empty [] g e h (suc k) = refl
still_empty (x ∷ gs) g e h zero = h zero
still_empty (x ∷ gs) g e h (suc k) = still_empty gs g e (λ j. h (suc j)) k
