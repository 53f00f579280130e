-- Names in the order of the text, each with its token: B of a space, a group and a token.
use Rattle.std.specs.Prelude.{ℕ, suc, ◌<◌, ◌≤◌, List, [], ◌∷◌, ◌++◌}
use Rattle.std.proofs.Common.{arith, inl, inr, subst, sym}
use Rattle.sml_tree.specs.Trees.{Id}
use Rattle.sml_objects.specs.Appearance.{Stands}
use Rattle.sml_rules.specs.Every.{Every}
use Rattle.sml_flaws.specs.declared.role.Space.{Space}
use Rattle.sml_tree_laws.specs.WellBound.{AreDistinct}

module _ (B : Space → ℕ → ℕ → Id → Type 0) where
  abbrev pub Named : Space → ℕ → ℕ → ℕ → List Id → Type 0
  Named sp g lo hi [] = Unit {0}
  Named sp g lo hi (x ∷ xs) = (t : ℕ) × (lo ≤ t) × (t < hi) × B sp g t x × Named sp g (suc t) hi xs

  pub named_wider : (sp : Space) (g lo hi lo' hi' : ℕ) (xs : List Id) → lo' ≤ lo → hi ≤ hi' → Named sp g lo hi xs → Named sp g lo' hi' xs
  named_wider sp g lo hi lo' hi' [] a b h = tt
  named_wider sp g lo hi lo' hi' (x ∷ xs) a b h =
      let l = h.1 in
      let r = h.2 in
      (h.0, omega (arith, a, l), omega (arith, b, r), h.3, named_wider sp g (suc h.0) hi (suc h.0) hi' xs (omega arith) b h.4)

  pub named_both : (sp : Space) (g lo mid mid' hi : ℕ) (xs ys : List Id) → mid ≤ mid' → lo ≤ mid' → mid ≤ hi → Named sp g lo mid xs → Named sp g mid' hi ys → Named sp g lo hi (xs ++ ys)
  named_both sp g lo mid mid' hi [] ys a b c h k = named_wider sp g mid' hi lo hi ys b (omega arith) k
  named_both sp g lo mid mid' hi (x ∷ xs) ys a b c h k =
      let r = h.2 in
      (h.0, h.1, omega (arith, r, c), h.3, named_both sp g (suc h.0) mid mid' hi xs ys a (omega (arith, r, a)) c h.4 k)

  -- names that are apart differ

  module _ (apart : (sp : Space) (g t u : ℕ) (x : Id) → t < u → B sp g t x → B sp g u x → ⊥) where
    later : (sp : Space) (g lo hi : ℕ) (xs : List Id) (x : Id) → Named sp g lo hi xs → Stands x xs → (u : ℕ) × (lo ≤ u) × B sp g u x
    unfolding Stands
    later sp g lo hi [] x h s = absurd s
    later sp g lo hi (y ∷ xs) x h (inl e) = (h.0, h.1, subst (B sp g h.0) (sym e) h.3)
    later sp g lo hi (y ∷ xs) x h (inr s) =
        let r = later sp g (suc h.0) hi xs x h.4 s in
        let l = h.1 in
        let m = r.1 in
        (r.0, omega (arith, l, m), r.2)

    pub distinct : (sp : Space) (g lo hi : ℕ) (xs : List Id) → Named sp g lo hi xs → AreDistinct xs
    distinct sp g lo hi [] h = tt
    distinct sp g lo hi (x ∷ xs) h = ((λ s. let r = later sp g (suc h.0) hi xs x h.4 s in let m = r.1 in apart sp g h.0 r.0 x (omega (arith, m)) h.3 r.2), distinct sp g (suc h.0) hi xs h.4)

  pub each_named : (Q : Id → Type 0) (sp : Space) → ((g t : ℕ) (x : Id) → B sp g t x → Q x) → (g lo hi : ℕ) (xs : List Id) → Named sp g lo hi xs → Every Q xs
  each_named Q sp f g lo hi [] h = tt
  each_named Q sp f g lo hi (x ∷ xs) h = (f g h.0 x h.3, each_named Q sp f g (suc h.0) hi xs h.4)
