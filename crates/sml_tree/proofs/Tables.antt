-- What a table has for an identifier after one was given another entry.
use Rattle.std.proofs.Common.{◌≡◌, ℕ, List, [], ◌∷◌, inl, inr, Option, Some, Bool, true, false, cond, if◌then◌else◌, refl, ap, sym, subst, ◌∙◌}
use Rattle.std.specs.Prelude.{unwrap_or, Vec}
use Rattle.std.specs.Global.{Global}
use Rattle.std.specs.Map.{lookup}
use Rattle.std.specs.Str.{bytes_eq}
use Rattle.std.specs.declared.rc.Rc.{Rc}
use Rattle.indexmap.specs.IndexMap.{insert_entry}
use Rattle.sml_tree.specs.Trees.{Id}
use Rattle.sml_tree.specs.Views.{ident_of}
use Rattle.sml_tree.specs.CodeSides.{deep}
use Rattle.sml_tree.proofs.Idents.{id_tells, id_same}

twice : {A : Type 0} (b : Bool) (m n : A) (o : Option A) → cond b (Some m) o ≡ cond b (Some m) (cond b (Some n) o)
twice true m n o = refl
twice false m n o = refl

swap : {A : Type 0} (a b : Bool) → (a ≡ true → b ≡ true → ⊥) → (m n : A) (o : Option A) → cond a (Some n) (cond b (Some m) o) ≡ cond b (Some m) (cond a (Some n) o)
swap true true f m n o = absurd (f refl refl)
swap true false f m n o = refl
swap false true f m n o = refl
swap false false f m n o = refl

abbrev at : {K A : Type 0} → (K → Id) → Id → List (K × A) → Option A
at bytes x es = lookup (λ q. bytes_eq x (bytes q)) es

abbrev more : {K A : Type 0} → (K → Id) → List (K × A) → K → A → List (K × A)
more bytes es k m = insert_entry (λ p q. bytes_eq (bytes p) (bytes q)) es k m

-- a table whose keys are compared by their bytes
pub given : {K A : Type 0} (bytes : K → Id) (x : Id) (es : List (K × A)) (k : K) (m : A) → at bytes x (more bytes es k m) ≡ cond (bytes_eq x (bytes k)) (Some m) (at bytes x es)
given bytes x [] k m = refl
given bytes x (e ∷ es) k m =
    elim (id_tells (bytes k) (bytes e.0)) [
      | inl y ↦ subst (λ b. at bytes x (if b then (e.0, m) ∷ es else e ∷ more bytes es k m) ≡ cond (bytes_eq x (bytes k)) (Some m) (at bytes x (e ∷ es))) (sym y.0)
          (subst (λ s. cond (bytes_eq x (bytes e.0)) (Some m) (at bytes x es) ≡ cond (bytes_eq x s) (Some m) (cond (bytes_eq x (bytes e.0)) (Some e.1) (at bytes x es))) (sym y.1) (twice (bytes_eq x (bytes e.0)) m e.1 (at bytes x es)))
      | inr y ↦ subst (λ b. at bytes x (if b then (e.0, m) ∷ es else e ∷ more bytes es k m) ≡ cond (bytes_eq x (bytes k)) (Some m) (at bytes x (e ∷ es))) (sym y.0)
          (ap (cond (bytes_eq x (bytes e.0)) (Some e.1)) (given bytes x es k m) ∙ swap (bytes_eq x (bytes e.0)) (bytes_eq x (bytes k)) (λ a b. y.1 (sym (id_same x (bytes k) b) ∙ id_same x (bytes e.0) a)) m e.1 (at bytes x es))
    ]

pub unwrapped : {A : Type 0} (b : Bool) (m n : A) (o : Option A) → unwrap_or (cond b (Some m) o) n ≡ (if b then m else unwrap_or o n)
unwrapped true m n o = refl
unwrapped false m n o = refl

pub deep_given : (old new : List (Rc (Vec ℕ Global) Global × ℕ)) (k : Rc (Vec ℕ Global) Global) (m : ℕ) (x v : Id) → new ≡ insert_entry (λ p q. bytes_eq (ident_of p) (ident_of q)) old k m → ident_of k ≡ x → deep v new ≡ (if bytes_eq v x then m else deep v old)
deep_given old new k m x v i j =
    ap (deep v) i ∙ ap (λ o. unwrap_or o 0) (given ident_of v old k m) ∙ unwrapped (bytes_eq v (ident_of k)) m 0 (lookup (λ q. bytes_eq v (ident_of q)) old)
    ∙ ap (λ y. if bytes_eq v y then m else deep v old) j
