-- Reading a pattern from the left decides its shape.
use Rattle.std.proofs.Common.{◌≡◌, ◌⊎◌, ◌↔◌, inl, inr, ℕ, Bool, true, false, cond, IsTrue, Option, Some, None, unwrap_or, List, [], ◌∷◌, ◌++◌, refl, sym, ap, ◌∙◌, append_assoc}
use Rattle.std.specs.Prelude.{option_map}
use Rattle.std.proofs.lemmas.Bool.{false≢true}
use Rattle.std.proofs.lemmas.List.{append-nil}
use Rattle.sml_fixity.specs.declared.roles.Role.{Role}
use Rattle.sml_fixity.specs.declared.roles.Role.TheVariants.{Atom, Infix}
use Rattle.sml_fixity.specs.declared.patterns.Run.{Run}
use Rattle.sml_fixity.specs.declared.patterns.Run.TheVariants.{Start, Name, Whole}
use Rattle.sml_fixity.specs.Infix.{Tree, Single, Applied, Joined, yield, EachOperator, Obeys}
use Rattle.sml_fixity.specs.Patterns.{IsPattern}
use Rattle.sml_fixity.specs.CodeRuns.{next_run, runs}

-- the roles end, or go on with an operator
Breaks : List Role → Type 0
Breaks [] = Unit {0}
Breaks (Infix q ∷ xs) = Unit {0}
Breaks (Atom a ∷ xs) = ⊥

any_state : (names : ℕ → Bool) (rest : List Role) → Breaks rest → (r s : Run) → runs names rest r ≡ runs names rest s
unfolding Breaks
any_state names [] h r s = refl
any_state names (Infix q ∷ xs) h r s = refl
any_state names (Atom a ∷ xs) h r s = absurd h

step_false : (o : Option Run) (f : Run → Bool) → ((s : Run) → f s ≡ false) → unwrap_or (option_map f o) false ≡ false
step_false None f h = refl
step_false (Some s) f h = h s

after_first : (names : ℕ → Bool) (t : Bool) (b : ℕ) (rest : List Role) → ((s : Run) → runs names rest s ≡ false) → unwrap_or (option_map (runs names (Atom b ∷ rest)) (cond t (Some Name) (Some Whole))) false ≡ false
after_first names true b rest h = h Whole
after_first names false b rest h = refl

three : (names : ℕ → Bool) (a b c : ℕ) (rest : List Role) (r : Run) → runs names (Atom a ∷ Atom b ∷ Atom c ∷ rest) r ≡ false
three names a b c rest Start =
    elim (names a) as (λ v. unwrap_or (option_map (runs names (Atom b ∷ Atom c ∷ rest)) (cond v (Some Name) (Some Whole))) false ≡ false) [ true ↦ refl | false ↦ refl ]
three names a b c rest Name = refl
three names a b c rest Whole = refl

long_application : (names : ℕ → Bool) (g : Tree) (w : List Role) → Obeys g → EachOperator (λ _. ⊥) g → ((a : ℕ) (r : Run) → runs names (Atom a ∷ w) r ≡ false) → (r : Run) → runs names (yield g ++ w) r ≡ false
long_application names (Single a) w ob pl h r = h a r
long_application names (Applied g (Single b)) w ob pl h r =
    rw append_assoc (long_application names g (Atom b ∷ w) ob.0 pl.0 (λ a s. step_false (next_run names (Atom a) s) (runs names (Atom b ∷ w)) (h b)) r)
long_application names (Applied g (Applied f x)) w ob pl h r = absurd ob.2
long_application names (Applied g (Joined o m s)) w ob pl h r = absurd ob.2
long_application names (Joined o m s) w ob pl h r = absurd pl.0

Verdict : (ℕ → Bool) → Tree → List Role → Type 0
Verdict names t rest =
    (IsPattern names t × (runs names (yield t ++ rest) Start ≡ runs names rest Start)) ⊎ ((IsPattern names t → ⊥) × (runs names (yield t ++ rest) Start ≡ false))

single_verdict : (names : ℕ → Bool) (t : Bool) (rest : List Role) → Breaks rest → unwrap_or (option_map (runs names rest) (cond t (Some Name) (Some Whole))) false ≡ runs names rest Start
single_verdict names true rest h = any_state names rest h Name Start
single_verdict names false rest h = any_state names rest h Whole Start

pair_verdict : (names : ℕ → Bool) (t : Bool) (b : ℕ) (rest : List Role) → Breaks rest → (IsTrue t × (unwrap_or (option_map (runs names (Atom b ∷ rest)) (cond t (Some Name) (Some Whole))) false ≡ runs names rest Start)) ⊎ ((IsTrue t → ⊥) × (unwrap_or (option_map (runs names (Atom b ∷ rest)) (cond t (Some Name) (Some Whole))) false ≡ false))
pair_verdict names true b rest h = inl (refl, any_state names rest h Whole Start)
pair_verdict names false b rest h = inr (λ e. false≢true e, refl)

verdict : (names : ℕ → Bool) (t : Tree) (rest : List Role) → Obeys t → Breaks rest → Verdict names t rest
unfolding Verdict Breaks
verdict names (Single a) rest ob h = inl (tt, single_verdict names (names a) rest h)
verdict names (Applied (Single a) (Single b)) rest ob h =
    pair_verdict names (names a) b rest h
verdict names (Applied (Applied g (Single y)) (Single b)) rest ob h =
    inr (λ e. e, (simp append_assoc (long_application names g (Atom y ∷ Atom b ∷ rest) ob.0.0 ob.1.0 (λ a r. three names a y b rest r) Start)))
verdict names (Applied (Applied g (Applied y z)) (Single b)) rest ob h = absurd ob.0.2
verdict names (Applied (Applied g (Joined o y z)) (Single b)) rest ob h = absurd ob.0.2
verdict names (Applied (Joined o l r) x) rest ob h = absurd ob.1.0
verdict names (Applied f (Applied y z)) rest ob h = absurd ob.2
verdict names (Applied f (Joined o y z)) rest ob h = absurd ob.2
verdict names (Joined o l r) rest ob h =
    let left = verdict names l (Infix o ∷ (yield r ++ rest)) ob.0 tt in
    let right = verdict names r rest ob.1 h in
    elim left [
      | inl a ↦ elim right [
        | inl b ↦ inl ((a.0, b.0), rw append_assoc (a.1 ∙ b.1))
        | inr b ↦ inr (λ e. b.0 e.1, rw append_assoc (a.1 ∙ b.1))
      ]
      | inr a ↦ inr (λ e. a.0 e.0, rw append_assoc a.1)
    ]

pub decided : (names : ℕ → Bool) (roles : List Role) (result : Bool) → result ≡ runs names roles Start → (t : Tree) → yield t ≡ roles → Obeys t → IsTrue result ↔ IsPattern names t
unfolding Verdict Breaks
decided names roles result e t y ob =
    let ends : yield t ++ [] ≡ roles = append-nil (yield t) ∙ y in
    elim (verdict names t [] ob tt) [
      | inl a ↦ (λ h. a.0, λ h. e ∙ ap (λ (w : List Role). runs names w Start) (sym ends) ∙ a.1)
      | inr a ↦ (λ h. absurd (false≢true (sym a.1 ∙ ap (λ (w : List Role). runs names w Start) ends ∙ sym e ∙ h)), λ p. absurd (a.0 p))
    ]
