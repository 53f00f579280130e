-- Types that are written, in counts.
use Rattle.std.proofs.Common.{inl, inr, ◌⊎◌, ◌≡◌, ◌≤◌, ◌<◌, ℕ, zero, suc, ◌+◌, min, nat_lt, List, [], ◌∷◌, length, take, get_or, refl, ap, ◌∙◌, sym, arith, Vec, Global, vec_len}
use Rattle.std.proofs.lemmas.Bool.Decides.{nat_tests}
use Rattle.std.specs.declared.rc.Rc.{Rc}
use Rattle.sml_objects.specs.Objects as O
use Rattle.sml_objects.specs.Initial.{Name}
use Rattle.sml_objects.specs.Objects.{types_of}
use Rattle.sml_objects.specs.Sizes.{type_size}
use Rattle.sml_objects.specs.Types.{argument, argument_or}
use Rattle.sml_objects.specs.Views.{label_list, name_of}
use Rattle.sml_objects.specs.declared.labels.Labels.{Labels}
use Rattle.sml_objects.specs.declared.objects.TyName.{TyName}
use Rattle.sml_type_maps.specs.declared.sizes.Count.{Count}
use Rattle.sml_type_maps.specs.Counted.{HasAddedAbove, HasAddedType, SameNodes, nodes_past}
use Rattle.sml_type_maps.proofs.AppliedSizes.{past-none}
use Rattle.sml_type_maps.proofs.Counts.{more-added}
use Rattle.sml_types.specs.Meant.{all_meant, meant}
use Rattle.sml_types.specs.declared.written.Written.{Written}
use Rattle.sml_types.specs.declared.written.Written.TheViews as V
use Rattle.sml_types.proofs.Meanings.{map-next, meanings, meant-name, meant-row}

argument-at : (d : O.MlType Name) (ws : List (Rc Written Global)) (k : ℕ) (w : Rc Written Global) → k < length ws → argument_or d (all_meant ws) k ≡ meant (get_or ws k w).value
argument-at d [] k w l = absurd (omega arith)
argument-at d (v ∷ ws) zero w l = refl
argument-at d (v ∷ ws) (suc k) w l = argument-at d ws k w (omega arith)

argument-none : (d : O.MlType Name) (ws : List (Rc Written Global)) (k : ℕ) → length ws ≤ k → argument_or d (all_meant ws) k ≡ d
argument-none d [] k l = refl
argument-none d (v ∷ ws) zero l = absurd (omega arith)
argument-none d (v ∷ ws) (suc k) l = argument-none d ws k (omega arith)

pub argument-given : (ws : List (Rc Written Global)) (k : ℕ) (w : Rc Written Global) → k < length ws → w ≡ get_or ws k w → argument (all_meant ws) k ≡ meant w.value
argument-given ws k w l at = argument-at (O.bound k) ws k w l ∙ ap (λ (w : Rc Written Global). meant w.value) (sym at)

pub argument-past : (ws : List (Rc Written Global)) (k : ℕ) → length ws ≤ k → argument (all_meant ws) k ≡ O.bound k
argument-past ws k l = argument-none (O.bound k) ws k l

-- a row, and a type name with its arguments
pub parts-meant : (w : Written) (ws : Vec (Rc Written Global) Global) → ((ls : Rc Labels Global) × (w ≡ V.Row ls ws)) ⊎ ((n : TyName) × (w ≡ V.Name n ws))
    → (h : O.Head Name) × (meant w ≡ O.app h (all_meant ws.items))
parts-meant w ws (inl e) = (O.row (label_list e.0.value), ap meant e.1 ∙ meant-row e.0 ws)
parts-meant w ws (inr e) = (O.name (name_of e.0), ap meant e.1 ∙ meant-name e.0 ws)

-- a part after others
pub next-part : (a b c : Count) (times n : ℕ) (ws : List (Rc Written Global)) (w : Rc Written Global) (u : O.MlType Name) → n < length ws → w ≡ get_or ws n w → u ≡ meant w.value
    → HasAddedAbove a b times (all_meant (take n ws)) → HasAddedType b c times u → HasAddedAbove a c times (all_meant (take (n + 1) ws))
next-part a b c times n ws w u l at is =
    more-added a b c times (meanings (take n ws)) (meanings (take (n + 1) ws)) u
    (sym (map-next (λ w. meant w.value) (meanings (take n ws)) _ u ws w n refl l at is refl))

both-large : (m n : ℕ) → SameNodes m n → nat_lt 10000 m ≡ nat_lt 10000 n
both-large m n h = grind (arith, nat_tests)

-- a count of all nodes of a type, with others beside it
pub large-beside : (a b c : Count) (others number : ℕ) (t : O.MlType Name) → a.nodes ≡ 0 → vec_len b.uses ≡ 0 → number ≡ others
    → b.nodes ≡ min (a.nodes + number) 4294967295 → HasAddedType b c 1 t → nat_lt 10000 c.nodes ≡ nat_lt 10000 (others + type_size t)
large-beside a b c others number t none no_uses same h added =
    let size : nodes_past (vec_len b.uses) t ≡ type_size t = ap (λ n. nodes_past n t) no_uses ∙ past-none t in
    both-large c.nodes (others + type_size t) (omega (arith, added.nodes, size))
