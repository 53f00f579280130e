-- No shape is matched by two patterns that are apart.
use Rattle.std.proofs.Common.{◌≡◌, ℕ, cond, Bool, true, false, inl, inr, refl, sym, subst, ◌∙◌}
use Rattle.std.specs.Prelude.{nat_eq}
use Rattle.std.proofs.lemmas.Bool.{false≢true, or_cases}
use Rattle.std.proofs.lemmas.Bool.Decides.{Decides-eqb}
use Rattle.sml_tree.specs.Trees.{Id}
use Rattle.sml_narrowing.specs.Plain.{Value, value_eq, Plain, Wild, Made, Fields, Valued, Row, Empty, Labelled, field}
use Rattle.sml_patterns.specs.Shape.{Shape, Cut, OfConstructor, OfRow, OfValue, Other, Matches}
use Rattle.sml_patterns.specs.CodeTasks.{outer_apart, rows_apart, is_apart}
use Rattle.sml_patterns.proofs.Values.{value_self}

made_apart : (b : Bool) (j k : ℕ) → nat_eq j k ≡ b → cond b false true ≡ true → j ≡ k → ⊥
made_apart true j k e h f = absurd cc
made_apart false j k e h f = absurd (false≢true (sym e ∙ (Decides-eqb j k).1 f))

values_apart : (b : Bool) (u v : Value) → value_eq u v ≡ b → cond b false true ≡ true → u ≡ v → ⊥
values_apart true u v e h f = absurd cc
values_apart false u v e h f = absurd (false≢true (sym e ∙ subst (λ x. value_eq u x ≡ true) f (value_self u)))

outer_share : (p q : Plain) (s : Shape) → outer_apart p q ≡ true → Matches p s → Matches q s → ⊥
outer_share Wild q s h m n = false≢true h
outer_share (Fields fs) q s h m n = false≢true h
outer_share (Made k n p) Wild s h m o = false≢true h
outer_share (Made k n p) (Fields gs) s h m o = false≢true h
outer_share (Made k n p) (Made j i q) (OfConstructor a s) h m o = made_apart (nat_eq j k) j k refl h (sym o.0 ∙ m.0)
outer_share (Made k n p) (Made j i q) Cut h m o = m
outer_share (Made k n p) (Made j i q) (OfRow g) h m o = m
outer_share (Made k n p) (Made j i q) (OfValue v s) h m o = m
outer_share (Made k n p) (Made j i q) Other h m o = m
outer_share (Made k n p) (Valued u q) (OfConstructor a s) h m o = o
outer_share (Made k n p) (Valued u q) Cut h m o = m
outer_share (Made k n p) (Valued u q) (OfRow g) h m o = m
outer_share (Made k n p) (Valued u q) (OfValue v s) h m o = m
outer_share (Made k n p) (Valued u q) Other h m o = m
outer_share (Valued v p) Wild s h m o = false≢true h
outer_share (Valued v p) (Fields gs) s h m o = false≢true h
outer_share (Valued v p) (Made j i q) (OfConstructor a s) h m o = m
outer_share (Valued v p) (Made j i q) Cut h m o = m
outer_share (Valued v p) (Made j i q) (OfRow g) h m o = m
outer_share (Valued v p) (Made j i q) (OfValue u s) h m o = o
outer_share (Valued v p) (Made j i q) Other h m o = m
outer_share (Valued v p) (Valued u q) (OfConstructor a s) h m o = m
outer_share (Valued v p) (Valued u q) Cut h m o = m
outer_share (Valued v p) (Valued u q) (OfRow g) h m o = m
outer_share (Valued v p) (Valued u q) (OfValue w s) h m o = values_apart (value_eq u v) u v refl h (sym o.0 ∙ m.0)
outer_share (Valued v p) (Valued u q) Other h m o = m

rows_share : (walk fs gs : Row) (g : Id → Shape) → rows_apart walk fs gs ≡ true → ((l : Id) → Matches (field l fs) (g l)) → ((l : Id) → Matches (field l gs) (g l)) → ⊥
rows_share Empty fs gs g h m n = false≢true h
rows_share (Labelled l p more) fs gs g h m n = elim (or_cases (outer_apart (field l fs) (field l gs)) (rows_apart more fs gs) h) [
  | inl e ↦ outer_share (field l fs) (field l gs) (g l) e (m l) (n l)
  | inr e ↦ rows_share more fs gs g e m n
]

-- no shape is matched by patterns that are apart
pub none_shared : (p q : Plain) (s : Shape) → is_apart p q ≡ true → Matches p s → Matches q s → ⊥
none_shared Wild q s h m n = outer_share Wild q s h m n
none_shared (Made k i p) q s h m n = outer_share (Made k i p) q s h m n
none_shared (Valued v p) q s h m n = outer_share (Valued v p) q s h m n
none_shared (Fields fs) Wild s h m n = outer_share (Fields fs) Wild s h m n
none_shared (Fields fs) (Made j i q) s h m n = outer_share (Fields fs) (Made j i q) s h m n
none_shared (Fields fs) (Valued u q) s h m n = outer_share (Fields fs) (Valued u q) s h m n
none_shared (Fields fs) (Fields gs) (OfRow g) h m n = rows_share fs fs gs g h m n
none_shared (Fields fs) (Fields gs) Cut h m n = m
none_shared (Fields fs) (Fields gs) (OfConstructor a s) h m n = m
none_shared (Fields fs) (Fields gs) (OfValue v s) h m n = m
none_shared (Fields fs) (Fields gs) Other h m n = m
