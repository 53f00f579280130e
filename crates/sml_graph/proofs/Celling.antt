-- Arrows in a cell.
use Rattle.std.proofs.Common.{◌≡◌, ℕ, List, [], ◌∷◌, ◌++◌, length, get_or, ◌∙◌, ap, refl, arith}
use Rattle.smallvec.specs.SmallVec.{SmallVec}
use Rattle.sml_graph.specs.declared.node.Head.TheVariants.{Arrow}
use Rattle.sml_graph.specs.declared.node.Node.TheVariants.{App}

two-items : (ks : List ℕ) → length ks ≡ 2 → get_or ks 0 0 ∷ get_or ks 1 0 ∷ [] ≡ ks
two-items [] h = absurd (omega (arith, h))
two-items (a ∷ []) h = absurd (omega (arith, h))
two-items (a ∷ b ∷ []) h = refl
two-items (a ∷ b ∷ c ∷ ks) h = absurd (omega (arith, h))

pub two-parts : (ks : List ℕ) (u v : SmallVec ℕ) → length ks ≡ 2 → u.items ≡ get_or ks 0 0 ∷ [] → v.items ≡ u.items ++ get_or ks 1 0 ∷ [] → v.capacity ≡ 2 → App Arrow v ≡ App Arrow (record { items = ks; capacity = 2 })
two-parts ks u v h a b c = λ i. App Arrow (record { items = (b ∙ (ap (λ xs. xs ++ get_or ks 1 0 ∷ []) a ∙ two-items ks h)) i; capacity = c i })
