-- What a seal exports is fixed by the basis and the signature expression.
use Rattle.std.specs.Prelude.{◌≡◌, ◌<◌, ℕ, false, List, [], ◌∷◌, ◌++◌, map, Option, Some, None, is_some}
use Rattle.std.proofs.Common.{arith}
use mathlib.Core.Path.{sym, ap, ◌∙◌}
use std.Equiv.{iso_to_equiv}
use Rattle.sml_lex.specs.declared.fault.Place.{Place}
use Rattle.sml_tree.specs.Structures.{TopDec}
use Rattle.sml_objects.specs.Alike.{Renaming}
use Rattle.sml_objects.specs.Appearance.{Stands}
use Rattle.sml_objects.specs.Initial.{Name, initial, naming}
use Rattle.sml_objects.specs.Names.{Initial, int}
use Rattle.sml_objects.proofs.Standing.{right}
use Rattle.sml_rules.specs.Answers.{accepted, refused}
use Rattle.sml_core_rules.specs.Objects.{Env, Basis, rename_env, rename_basis, names_map, names_sig, names_fun_sig, names_env, names_basis}
use Rattle.sml_core_rules.specs.Scopes.{run_scope}
use Rattle.sml_core_laws.proofs.Left.{env-left}
use Rattle.sml_module_rules.specs.Programs.{AreReadings, Pair, same, structures, functors, first, second, acceptance, shown}
use Rattle.sml_module_rules.specs.Statements.{rename_shown}
use Rattle.sml_module_rules.specs.Structures.{Added, IsTopReading}
use Rattle.sml_module_rules.proofs.Isolation.{seals-hide}
use Rattle.sml_places.specs.Likeness.{AreGroupsAlike}
use Rattle.sml_places.specs.Places.{forget_top}
use Rattle.sml_places.specs.Units.{Placed, Given}
use Rattle.sml_places.proofs.Pairs.{IsSide, made}
use Rattle.sml_places.proofs.Tops.{places-dont-count}
use Rattle.sml_run_rules.specs.Exported.{SealsExport}
use Rattle.sml_run_rules.proofs.SameTexts.{plain, same-text}

-- a body all of whose names a renaming leaves
body-left : (f : Renaming naming) (E : Env Name) (ns : List Name) → ((n : Name) → Stands n (names_env E) → Stands n ns) → ((n : Name) → Stands n ns → f.to n ≡ n)
    → rename_env f.to E ≡ E
unfolding naming
body-left f E ns inside left =
    env-left (iso_to_equiv (record { fun = f.to; inv = f.from; rinv = f.to-from; linv = f.from-to })) E (f.initial int) (λ n h. left n (inside n h))

-- both sides of a pair

sides-forget : (side : Pair Place → Placed) (r : Pair Place) (x : Placed) → IsSide side r x → forget_top x.1 ≡ forget_top (side r).1
sides-forget side (same p d) x h = ap (λ x. forget_top x.1) (sym h)
sides-forget side (structures p q bs) x h = sym h
sides-forget side (functors p q bs) x h = sym h

basis_or : Basis Name → Option Given → Basis Name
basis_or B None = B
basis_or B (Some (refused f)) = B
basis_or B (Some (accepted A)) = A.basis

head_or : Option Given → List (Option Given) → Option Given
head_or o [] = o
head_or o (q ∷ qs) = q

module _ (unit : ℕ) (counted : 0 < unit) (B : Basis Name) (inside : (n : Name) → Stands n (names_basis B) → Stands n B.names) (initials : (k : Initial) → Stands (initial k) B.names) where
  Renames : Added Place Name → Added Place Name → Type 0
  Renames A C = (f : Renaming naming) × ((n : Name) → Stands n B.names → f.to n ≡ n) × (C.basis ≡ rename_basis f.to A.basis)

  pairs-rename : (r : Pair Place) → ((o : Given) → shown r o ≡ acceptance o) → (A C : Added Place Name) → IsTopReading (run_scope unit) (first r).0 B (first r).1 (accepted A)
      → IsTopReading (run_scope unit) (second r).0 B (second r).1 (accepted C) → Renames A C
  unfolding AreReadings Renames basis_or head_or naming
  pairs-rename r is A C a c =
      let both : map is_some (shown r (accepted A) ∷ []) ≡ map is_some (shown r (accepted C) ∷ []) =
      λ i. (ap (λ o. is_some o) (is (accepted A)) ∙ ap (λ o. is_some o) (sym (is (accepted C)))) i ∷ [] in
      let h = seals-hide (run_scope unit) (λ x e. omega (arith, counted, e)) B inside initials (r ∷ []) (accepted A ∷ []) (accepted C ∷ []) (a, tt) (c, tt) both in
      let e : acceptance (accepted C) ≡ rename_shown h.0.to (acceptance (accepted A)) =
      sym (is (accepted C)) ∙ (ap (λ os. head_or None os) h.2 ∙ ap (λ o. rename_shown h.0.to o) (is (accepted A))) in
      (h.0, h.1, ap (λ o. basis_or C.basis o) e)

  groups-rename : (p q : Place) (d e : TopDec Place) → AreGroupsAlike d e → (A C : Added Place Name) → IsTopReading (run_scope unit) p B d (accepted A)
      → IsTopReading (run_scope unit) q B e (accepted C) → Renames A C
  unfolding Renames
  groups-rename p q d e alike A C a c =
      let m = made p q d e alike in
      let s = places-dont-count (run_scope unit) Place Place in
      let x = s.without_places p (first m.pair).0 B d (first m.pair).1 A (sides-forget first m.pair (p, d) m.is_first) a in
      let y = s.without_places q (second m.pair).0 B e (second m.pair).1 C (sides-forget second m.pair (q, e) m.is_second) c in
      let r = pairs-rename m.pair m.is_shown x.0 y.0 x.2 y.2 in
      (r.0, r.1, y.1.basis ∙ (r.2 ∙ ap (λ A. rename_basis r.0.to A) (sym x.1.basis)))

  body-inside : (n : Name) → Stands n (names_env B.body) → Stands n B.names
  body-inside n h =
      let body = names_env B.body in
      let functors = names_map names_fun_sig B.functors in
      let signatures = names_map names_sig B.signatures in
      inside n (right n B.names (functors ++ (signatures ++ body)) (right n functors (signatures ++ body) (right n signatures body h)))

pub seals-export : SealsExport
unfolding Renames
seals-export unit counted B inside initials p q d e alike A C a c =
    let r = groups-rename unit counted B inside initials p q d e alike A C a c in
    let stays = body-left r.0 B.body B.names (body-inside unit counted B inside initials) r.1 in
    record {
      renaming = r.0;
      keeps = r.1;
      bound = r.2;
      lines = λ version k. same-text r.0 version B B (sym stays) false k (plain (accepted A)) (plain (accepted C)) (ap (λ D. accepted (record { basis = D; judged = [] })) r.2) [];
    }
