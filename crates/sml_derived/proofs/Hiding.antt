-- The hidden variables that are kept, one more after the other.
use Rattle.std.proofs.Common.{◌≡◌, ℕ, zero, suc, List, [], ◌∷◌, ◌++◌, Some, None, Vec, length, refl, sym, ap, ◌∙◌, inl, inr}
use Rattle.std.specs.Prelude.{slice_get, ◌⊎◌}
use Rattle.std.specs.Global.{Global}
use Rattle.std.specs.declared.rc.Rc.{Rc}
use Rattle.sml_tree.specs.Views.{ident_of}
use Rattle.sml_derived.specs.Words.{hidden}
use Rattle.sml_derived.specs.CodeHidden.{AreHidden}

none_some : {A : Type 0} {x : A} → None ≡ Some x → ⊥
none_some e = cc

some_same : {A : Type 0} {x y : A} → Some x ≡ Some y → x ≡ y
some_same e = cc

-- an element of a list with one more at its end
pub at_end : {A : Type 0} (xs : List A) (x : A) (n : ℕ) (q : A) → slice_get (xs ++ x ∷ []) n ≡ Some q → (slice_get xs n ≡ Some q) ⊎ ((n ≡ length xs) × (x ≡ q))
at_end [] x zero q e = inr (refl, some_same e)
at_end [] x (suc n) q e = absurd (none_some e)
at_end (y ∷ ys) x zero q e = inl e
at_end (y ∷ ys) x (suc n) q e = later (at_end ys x n q e)
  where
    later : (slice_get ys n ≡ Some q) ⊎ ((n ≡ length ys) × (x ≡ q)) → (slice_get ys n ≡ Some q) ⊎ ((suc n ≡ suc (length ys)) × (x ≡ q))
    later (inl f) = inl f
    later (inr f) = inr (ap suc f.0, f.1)

pub none_hidden : AreHidden []
none_hidden zero x e = absurd (none_some e)
none_hidden (suc n) x e = absurd (none_some e)

pub one_more : (idents : List (Rc (Vec ℕ Global) Global)) (x : Rc (Vec ℕ Global) Global) (n : ℕ) → length idents ≡ n → ident_of x ≡ hidden n → AreHidden idents → AreHidden (idents ++ x ∷ [])
one_more idents x n l e h k q g = by_end (at_end idents x k q g)
  where
    by_end : (slice_get idents k ≡ Some q) ⊎ ((k ≡ length idents) × (x ≡ q)) → ident_of q ≡ hidden k
    by_end (inl f) = h k q f
    by_end (inr f) = ap ident_of (sym f.1) ∙ e ∙ ap hidden (sym (f.0 ∙ l))
