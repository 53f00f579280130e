-- Two units that are alike outside their seals: one declaration in each of two runs.
use Rattle.std.specs.Prelude.{◌≡◌, ◌↔◌, ◌⊎◌, ℕ, suc, List, ◌∷◌}
use mathlib.Core.Path.{sym, ap, subst, ◌∙◌}
use mathlib.Core.Logic.{inl, inr}
use mathlib.Core.List.{map, List-discrete}
use native.Mathlib.Decide.{ℕ_discrete}
use Rattle.sml_lex.specs.Faults.{Fault, first_place}
use Rattle.sml_lex.specs.declared.fault.Place.{Place}
use Rattle.sml_tree.specs.Trees as T
use Rattle.sml_tree.specs.Trees.{core, sealed, other}
use Rattle.sml_tree.specs.Forget.{forget}
use Rattle.sml_objects.specs.Names.{Naming}
use Rattle.sml_objects.specs.Objects.{Sig, Basis, one_structure, extend, names_basis}
use Rattle.sml_rules.specs.Rules.{SpecifyAll, sum_of}
use Rattle.sml_rules.specs.Answers.{Answer, refused, accepted}
use Rattle.sml_rules.specs.Readings.{read_top}
use Rattle.sml_rules.proofs.Worlds.{Over}
use Rattle.sml_rules.proofs.Settled.{Covers, Supported, mapped, by_equation, same_value, carried}
use Rattle.sml_rules.proofs.Readings.{read_top_settled}
use Rattle.sml_rules.proofs.Specified.{specify_all_settled, exported}
use Rattle.sml_texts.specs.Text.{text}
use Rattle.sml_units.specs.Runs.{basis_after}
use Rattle.sml_units.specs.Isolation.{SealAlike, IsAccepted, EqualReplies}

-- an accepted seal exports what basis and signature expression fix
pub seals_alike : {D : Type 0 → Type 0} (E : Supported D) (unit : ℕ) (d e : T.Dec Place) → SealAlike d e
    → {v w : Over (λ N. Basis N × D N)} → v ≡ w → Covers (names_basis v.2.0) (E.names v.2.1) → {x : Sig v.0} {y : Sig w.0}
    → read_top v.1 first_place unit v.2.0 d (accepted x) → read_top w.1 first_place unit w.2.0 e (accepted y)
    → ◌≡◌ {A = Over (λ N. (Basis N × D N) × Sig N)} (v.0, v.1, (v.2, x)) (w.0, w.1, (w.2, y))
unfolding SealAlike
seals_alike E unit (core d) e h p cov r r' = absurd h
seals_alike E unit (other i) e h p cov r r' = absurd h
seals_alike E unit (sealed s i q ds) (core e) h p cov r r' = absurd h
seals_alike E unit (sealed s i q ds) (other j) h p cov r r' = absurd h
seals_alike {D = D} E unit (sealed s i q ds) (sealed s' i' q' ds') h {v = v} {w = w} p cov {x = x} {y = y} r r' =
    let m = exported v.1 unit v.2.0 first_place s i q ds x r in
    let n = exported w.1 unit w.2.0 first_place s' i' q' ds' y r' in
    let k : SpecifyAll w.1 unit w.2.0 (map forget q) n.0 = subst (λ l. SpecifyAll w.1 unit w.2.0 l n.0) (sym h.1) n.1 in
    let c : ◌≡◌ {A = Over (λ N. (Basis N × D N) × List (Sig N))} (v.0, v.1, (v.2, m.0)) (w.0, w.1, (w.2, n.0)) =
    carried {C = λ N. Basis N × D N} {O = λ N. List (Sig N)} (λ N a b. SpecifyAll a unit b.0 (map forget q))
    (λ x y q₁ q₂. specify_all_settled unit (map forget q) D E v.0 v.1 v.2.0 v.2.1 cov x y q₁ q₂)
    p m.1 k
    in
    by_equation {C = λ N. Basis N × D N} {O = Sig} m.2
    ∙ (mapped {C = λ N. (Basis N × D N) × List (Sig N)} {D = λ N. (Basis N × D N) × Sig N}
    (λ N a z. (z.0, record { names = (sum_of z.1).names; body = one_structure s (sum_of z.1).body })) c
    ∙ by_equation {C = λ N. Basis N × D N} {O = Sig} (ap (λ t. record { names = (sum_of n.0).names; body = one_structure t (sum_of n.0).body }) h.0 ∙ sym n.2))

-- in bases that are alike a declaration is answered alike
pub reads_alike : {D : Type 0 → Type 0} (E : Supported D) (unit : ℕ) (d : T.Dec Place)
    {v w : Over (λ N. Basis N × D N)} → v ≡ w → Covers (names_basis v.2.0) (E.names v.2.1) → {x : Answer Place (Sig v.0)} {y : Answer Place (Sig w.0)}
    → read_top v.1 first_place unit v.2.0 d x → read_top w.1 first_place unit w.2.0 d y
    → ◌≡◌ {A = Over (λ N. (Basis N × D N) × Answer Place (Sig N))} (v.0, v.1, (v.2, x)) (w.0, w.1, (w.2, y))
reads_alike {D = D} E unit d {v = v} p cov r r' =
    carried {C = λ N. Basis N × D N} {O = λ N. Answer Place (Sig N)} (λ N a b. read_top a first_place unit b.0 d)
    (λ x y q q'. read_top_settled first_place unit d D E v.0 v.1 v.2.0 v.2.1 cov x y q q')
    p r r'

-- equality of texts is decided, so it may be shown by contradiction
text_stable : (x y : List ℕ) → ¬ (¬ (x ≡ y)) → x ≡ y
text_stable x y h = go (List-discrete ℕ_discrete x y)
  where
    go : Dec (x ≡ y) → x ≡ y
    go (yes e) = e
    go (no n) = absurd (h n)

pub replies_stable : {M N : Type 0} (a : Naming M) (b : Naming N) (k : ℕ) (ds es : List (T.Dec Place))
    (os : List (Answer Place (Sig M))) (qs : List (Answer Place (Sig N)))
    → ¬ (¬ (EqualReplies a b k ds es os qs)) → EqualReplies a b k ds es os qs
unfolding EqualReplies
replies_stable a b k (d ∷ ds) (e ∷ es) (o ∷ os) (q ∷ qs) h = (
  λ same. text_stable (text a k o) (text b k q) (λ n. h (λ r. n (r.0 same))),
  λ i j. text_stable (text a k o) (text b k q) (λ n. h (λ r. n (r.1 i j))),
  replies_stable a b (suc k) ds es os qs (λ n. h (λ r. n r.2)),
)
replies_stable a b k ds es os qs h = tt

pub cases_of : {A C : Type 0} → (¬ (¬ C) → C) → (A → C) → (¬ A → C) → C
cases_of stable f g = stable (λ n. n (g (λ x. n (f x))))

-- one declaration that differs, over a basis and what else stands beside it
pub step : {D : Type 0 → Type 0} (E : Supported D) (k : ℕ) (unit : ℕ) (d e : T.Dec Place) {v w : Over (λ N. Basis N × D N)} → v ≡ w
    → Covers (names_basis v.2.0) (E.names v.2.1) → (o : Answer Place (Sig v.0)) (q : Answer Place (Sig w.0))
    → read_top v.1 first_place unit v.2.0 d o → read_top w.1 first_place unit w.2.0 e q → (d ≡ e) ⊎ SealAlike d e → ¬ (d ≡ e) → IsAccepted o ↔ IsAccepted q
    → (F : Type 0 → Type 0) (f : (N : Type 0) → D N → Answer Place (Sig N) → F N)
    → ((N : Type 0) (d : D N) (g g' : Fault Place) → f N d (refused g) ≡ f N d (refused g'))
    → (IsAccepted o → IsAccepted q → text v.1 k o ≡ text w.1 k q)
    × ◌≡◌ {A = Over (λ N. Basis N × F N)} (v.0, v.1, (basis_after v.2.0 o, f v.0 v.2.1 o)) (w.0, w.1, (basis_after w.2.0 q, f w.0 w.2.1 q))
unfolding IsAccepted
step E k unit d e p cov o q r r' (inl same) n g F f u = absurd (n same)
step {D = D} E k unit d e {v = v} {w = w} p cov (refused i) (refused j) r r' (inr h) n g F f u = (
  λ i. absurd i,
  mapped {C = λ N. Basis N × D N} {D = λ N. Basis N × F N} (λ N a z. (z.0, f N z.1 (refused i))) p
      ∙ by_equation {C = Basis} {O = F} (u w.0 w.2.1 i j),
)
step E k unit d e p cov (refused i) (accepted y) r r' (inr h) n g F f u = absurd (g.1 tt)
step E k unit d e p cov (accepted x) (refused j) r r' (inr h) n g F f u = absurd (g.0 tt)
step {D = D} E k unit d e {v = v} {w = w} p cov (accepted x) (accepted y) r r' (inr h) n g F f u =
    let c = seals_alike E unit d e h p cov r r' in (
      λ i j. same_value {C = λ N. (Basis N × D N) × Sig N} (λ N a z. text a k (accepted z.1)) c,
      mapped {C = λ N. (Basis N × D N) × Sig N} {D = λ N. Basis N × F N} (λ N a z. (extend z.0.0 z.1, f N z.0.1 (accepted z.1))) c,
    )
