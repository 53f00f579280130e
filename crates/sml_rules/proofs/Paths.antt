-- A path between two worlds of names is a renaming, and a renaming carries every relation.
use Rattle.std.specs.Prelude.{◌≡◌, ◌⊎◌, ℕ, List, [], ◌∷◌}
use mathlib.Core.Path.{refl, sym, ap, subst, ◌∙◌, path_j}
use mathlib.Core.List.{map, map-id, head-eq_of_cons-eq, tail-eq_of_cons-eq}
use mathlib.Core.Logic.{inl, inr}
use std.Equiv.{◌≃◌, id_equiv, equiv_to_iso, iso_to_equiv}
use std.Univalence.{equiv_j}
use Rattle.sml_tree.specs.Trees.{Dec}
use Rattle.sml_objects.specs.Names.{Naming}
use Rattle.sml_objects.specs.Objects.{Sig, Basis, empty_env, names_basis}
use Rattle.sml_objects.specs.Alike.{Renaming, IsFixed, AlikeOver}
use Rattle.sml_rules.specs.Answers.{Answer, refused, accepted}
use Rattle.sml_rules.specs.Readings.{read_top}
use Rattle.sml_rules.proofs.Renaming.{fixes-id}
use Rattle.sml_rules.proofs.Worlds.{Over, Keeps, moved}
use Rattle.sml_rules.proofs.Settled.{Supported, pair_supported, supported_named, mapped, same_value, settled_alone}
use Rattle.sml_rules.proofs.Readings.{sig_supported, basis_supported, read_top_settled}

module _ {F : Type 0 → Type 0} (S : Supported F) where
  pub rename-id : {A : Type 0} (x : F A) → S.rename (λ a. a) x ≡ x
  rename-id x = S.fixed (λ a. a) x (fixes-id (S.names x))

  -- the names of a renamed object
  pub names-rename : {A B : Type 0} (e : A ≃ B) (x : F A) → S.names (S.rename e.0 x) ≡ map e.0 (S.names x)
  unfolding id_equiv
  names-rename e =
      equiv_j (λ A e. (x : F A) → S.names (S.rename e.0 x) ≡ map e.0 (S.names x))
      (λ x. ap S.names (rename-id x) ∙ sym (map-id (S.names x))) e

  -- a path is a renaming
  pub renaming_of : {v w : Over F} → v ≡ w → (e : v.0 ≃ w.0) × Keeps v.1 w.1 e.0 × (S.rename e.0 v.2 ≡ w.2)
  unfolding id_equiv
  renaming_of {v = v} p =
      path_j {A = Over F} (λ w _. (e : v.0 ≃ w.0) × Keeps v.1 w.1 e.0 × (S.rename e.0 v.2 ≡ w.2))
      (id_equiv v.0, record { attributes = λ n. refl; initial = λ k. refl }, rename-id v.2) p

fixed_of : {N : Type 0} (f : N → N) (ns : List N) → ns ≡ map f ns → IsFixed f ns
unfolding IsFixed
fixed_of f [] e = tt
fixed_of f (n ∷ ns) e = (sym (head-eq_of_cons-eq e), fixed_of f ns (tail-eq_of_cons-eq e))

alike_of : {N : Type 0} (a : Naming N) (B : Basis N) (x y : Sig N)
    → ◌≡◌ {A = Over (λ N. Basis N × Sig N)} (N, a, (B, x)) (N, a, (B, y)) → AlikeOver a B x y
unfolding AlikeOver equiv_to_iso
alike_of a B x y p =
    let r = renaming_of {F = λ N. Basis N × Sig N} (pair_supported basis_supported sig_supported) p in (
      record {
        to = r.0.0;
        from = (equiv_to_iso r.0).inv;
        to-from = (equiv_to_iso r.0).rinv;
        from-to = (equiv_to_iso r.0).linv;
        keeps = r.1.attributes;
        initial = r.1.initial;
      },
      fixed_of r.0.0 (names_basis B) (sym (ap names_basis (ap (λ z. z.0) r.2)) ∙ names-rename {F = Basis} basis_supported r.0 B),
      ap (λ z. z.1) r.2,
    )

-- every object is alike to itself
pub alike_refl : {N : Type 0} (a : Naming N) (B : Basis N) (x : Sig N) → AlikeOver a B x x
alike_refl a B x = alike_of a B x x refl

data_of : {P X : Type 0} → X → Answer P X → X
data_of d (refused f) = d
data_of d (accepted x) = x

is_refused : {P X : Type 0} → Answer P X → Type 0
is_refused (refused f) = Unit {0}
is_refused (accepted x) = ⊥

answers_alike : {P N : Type 0} (a : Naming N) (B : Basis N) (o q : Answer P (Sig N))
    → ◌≡◌ {A = Over (λ N. Basis N × Answer P (Sig N))} (N, a, (B, o)) (N, a, (B, q))
    → (o ≡ q) ⊎ ((x : Sig N) × (y : Sig N) × (o ≡ accepted x) × (q ≡ accepted y) × AlikeOver a B x y)
unfolding data_of is_refused
answers_alike {P = P} a B (refused f) (refused g) p =
    inl (ap refused (same_value {C = λ N. Basis N × Answer P (Sig N)} (λ N a z. elim z.1 [ refused h ↦ h | accepted x ↦ f ]) p))
answers_alike {P = P} a B (refused f) (accepted y) p =
    absurd (subst {A = Type 0} (λ T. T) (same_value {C = λ N. Basis N × Answer P (Sig N)} (λ N a z. is_refused z.1) p) tt)
answers_alike {P = P} a B (accepted x) (refused g) p =
    absurd (subst {A = Type 0} (λ T. T) (sym (same_value {C = λ N. Basis N × Answer P (Sig N)} (λ N a z. is_refused z.1) p)) tt)
answers_alike {P = P} a B (accepted x) (accepted y) p =
    inr (
      x,
      y,
      refl,
      refl,
      alike_of a B x y (mapped {C = λ N. Basis N × Answer P (Sig N)} {D = λ N. Basis N × Sig N} (λ N a z. (z.0, data_of (record { names = []; body = empty_env }) z.1)) p),
    )

pub readings_alike : {P N : Type 0} (a : Naming N) (p : P) (unit : ℕ) (B : Basis N) (d : Dec P) (o q : Answer P (Sig N))
    → read_top a p unit B d o → read_top a p unit B d q
    → (o ≡ q) ⊎ ((x : Sig N) × (y : Sig N) × (o ≡ accepted x) × (q ≡ accepted y) × AlikeOver a B x y)
readings_alike {P} {N} a p unit B d o q h k =
    answers_alike a B o q
    (settled_alone {C = Basis} {O = λ N. Answer P (Sig N)} basis_supported (λ N a B. read_top a p unit B d) (read_top_settled p unit d) N a B o q h k)

-- Every relation over names holds of renamed objects where it held before.
pub equivariant {ℓ} : {F : Type 0 → Type 0} (S : Supported F) (R : (N : Type 0) → Naming N → F N → Type ℓ)
    {N : Type 0} (a : Naming N) (f : Renaming a) (x : F N) → R N a x → R N a (S.rename f.to x)
equivariant {F = F} S R a f x r =
    subst {A = Over F} (λ w. R w.0 w.1 w.2)
    (moved (supported_named S) (iso_to_equiv (record { fun = f.to; inv = f.from; rinv = f.to-from; linv = f.from-to })) a a
    (record { attributes = f.keeps; initial = f.initial }) x) r
