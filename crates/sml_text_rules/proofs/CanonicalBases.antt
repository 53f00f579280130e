-- Bases that are alike have one canonical basis.
use Rattle.std.proofs.Common.{◌≡◌, ◌⊎◌, ℕ, ◌+◌, Bool, true, false, cond, List, [], map, filter, refl, ap, sym, subst, ◌∙◌, inl, inr}
use Rattle.sml_objects.specs.Alike.{Renaming}
use Rattle.sml_objects.specs.Appearance.{Stands, stands, firsts_after}
use Rattle.sml_objects.specs.Canonical.{is_new, index_of, with_number, renumber}
use Rattle.sml_objects.specs.Initial.{Name, made, naming}
use Rattle.sml_objects.proofs.Exchanges.{one_to_one}
use Rattle.sml_objects.proofs.Standing.{image, kept, found, stands-or-not, firsts-all, firsts-only, stands-map, place-map, firsts-map, filter-map}
use Rattle.sml_core_rules.specs.Objects.{Basis, rename_basis, names_basis}
use Rattle.sml_text_rules.specs.BasisLines.{basis_lines, appear_basis}
use Rattle.sml_text_rules.specs.Canonical.{new_names, canonical}
use Rattle.sml_text_rules.specs.CanonicalLaws.{AreOver, CanonicalLinesAreOne, CanonicalIsOne}
use Rattle.sml_text_rules.proofs.MovedLines.{basis-lines-moved}
use Rattle.sml_text_rules.proofs.Appearances.{basis-image, lines-agree}
use Rattle.sml_text_rules.proofs.StandingLines.{basis-stands}
use Rattle.sml_text_rules.proofs.Agreeing.{basis-agrees}
use Rattle.sml_core_rules.proofs.Renaming.{objects-obey}

module _ (unit count : ℕ) where
  in-new : (D : Basis Name) (n : Name) → Stands n (appear_basis D) → is_new unit count n ≡ true → Stands n (new_names unit count D)
  in-new D n h k = kept (is_new unit count) n (firsts_after naming [] (appear_basis D)) (firsts-all naming n [] (appear_basis D) h) k

  appeared : (D : Basis Name) (n : Name) → Stands n (firsts_after naming [] (appear_basis D)) → Stands n (appear_basis D)
  unfolding Stands
  appeared D n h = go (firsts-only naming n [] (appear_basis D) h)
    where
      go : Stands n [] ⊎ Stands n (appear_basis D) → Stands n (appear_basis D)
      go (inl s) = absurd s
      go (inr s) = s

  -- a name that appears in the lines if it is new, and that is not among the new ones, is old
  not-new : (D : Basis Name) (n : Name) → (is_new unit count n ≡ true → Stands n (appear_basis D)) → stands naming n (new_names unit count D) ≡ false → is_new unit count n ≡ false
  not-new D n h e = go (is_new unit count n) refl
    where
      go : (b : Bool) → is_new unit count n ≡ b → is_new unit count n ≡ false
      go true k = let s : stands naming n (new_names unit count D) ≡ true = found naming n (new_names unit count D) (in-new D n (h k) k) in cc
      go false k = k

  kept-place : (ns : List Name) (n : Name) → stands naming n ns ≡ true → renumber unit count ns n ≡ with_number unit (count + index_of naming n ns) n
  unfolding renumber
  kept-place ns n e = ap (λ b. cond b (with_number unit (count + index_of naming n ns) n) n) e

  kept-name : (ns : List Name) (n : Name) → stands naming n ns ≡ false → renumber unit count ns n ≡ n
  unfolding renumber
  kept-name ns n e = ap (λ b. cond b (with_number unit (count + index_of naming n ns) n) n) e

  -- two bases that are alike

  module _ (B R S : Basis Name) (over : AreOver unit count B (appear_basis R)) (over' : AreOver unit count B (appear_basis S))
      (f : Renaming naming) (fixed : (n : Name) → Stands n (names_basis B) → f.to n ≡ n) (e : rename_basis f.to R ≡ S) where
    one : (m n : Name) → f.to m ≡ f.to n → m ≡ n
    one m n h = one_to_one naming f m n h

    stays : (n : Name) → Stands n (appear_basis R) → is_new unit count n ≡ false → f.to n ≡ n
    stays n h k = fixed n (over n h k)

    appear-moved : appear_basis S ≡ map f.to (appear_basis R)
    appear-moved = sym (ap appear_basis e) ∙ basis-image f.to R

    same-age : (n : Name) → Stands n (appear_basis R) → is_new unit count (f.to n) ≡ is_new unit count n
    same-age n h = go (is_new unit count n) refl (is_new unit count (f.to n)) refl
      where
        moved : Stands (f.to n) (appear_basis S)
        moved = subst (λ ns. Stands (f.to n) ns) (sym appear-moved) (image f.to n (appear_basis R) h)

        go : (b : Bool) → is_new unit count n ≡ b → (d : Bool) → is_new unit count (f.to n) ≡ d → is_new unit count (f.to n) ≡ is_new unit count n
        go false k d l = ap (is_new unit count) (stays n h k)
        go true k true l = l ∙ sym k
        go true k false l = ap (is_new unit count) (one (f.to n) n (fixed (f.to n) (over' (f.to n) moved l)))

    new-moved : new_names unit count S ≡ map f.to (new_names unit count R)
    new-moved =
        ap (λ ns. filter (is_new unit count) (firsts_after naming [] ns)) appear-moved
        ∙ ap (filter (is_new unit count)) (firsts-map naming f.to one [] (appear_basis R))
        ∙ filter-map (is_new unit count) f.to (firsts_after naming [] (appear_basis R)) (λ n s. same-age n (appeared R n s))

    number-kept : (k : ℕ) (n : Name) → with_number unit k (f.to n) ≡ with_number unit k n
    unfolding naming
    number-kept k n = λ i. made unit k (sym (f.keeps n) i).arity (sym (f.keeps n) i).equality

    renumbered-alike : (n : Name) → (is_new unit count n ≡ true → Stands n (appear_basis R)) → (is_new unit count n ≡ false → f.to n ≡ n)
        → renumber unit count (map f.to (new_names unit count R)) (f.to n) ≡ renumber unit count (new_names unit count R) n
    renumbered-alike n h k = go (stands-or-not naming n ns)
      where
        ns : List Name
        ns = new_names unit count R

        go : (stands naming n ns ≡ true) ⊎ (stands naming n ns ≡ false) → renumber unit count (map f.to ns) (f.to n) ≡ renumber unit count ns n
        go (inl s) =
            kept-place (map f.to ns) (f.to n) (stands-map naming f.to one n ns ∙ s)
            ∙ ap (λ k. with_number unit (count + k) (f.to n)) (place-map naming f.to one n ns)
            ∙ number-kept (count + index_of naming n ns) n
            ∙ sym (kept-place ns n s)
        go (inr s) =
            kept-name (map f.to ns) (f.to n) (stands-map naming f.to one n ns ∙ s)
            ∙ k (not-new R n h s)
            ∙ sym (kept-name ns n s)

    lines-equal : basis_lines (canonical unit count R) ≡ basis_lines (canonical unit count S)
    lines-equal =
        let r : Name → Name = renumber unit count (new_names unit count R) in
        let q : Name → Name = renumber unit count (map f.to (new_names unit count R)) in
        basis-lines-moved r R
        ∙ sym (lines-agree (λ n. q (f.to n)) r (basis_lines R) (λ n h. renumbered-alike n (λ _. h) (stays n h)))
        ∙ sym (basis-lines-moved (λ n. q (f.to n)) R)
        ∙ ap basis_lines (sym (objects-obey.bases.composition f.to q R))
        ∙ (λ i. basis_lines (rename_basis (renumber unit count (sym new-moved i)) (e i)))

    bases-equal : AreOver unit count B (names_basis R) → ((n : Name) → Stands n (names_basis R) → is_new unit count n ≡ true → Stands n (appear_basis R))
        → canonical unit count R ≡ canonical unit count S
    bases-equal whole shown =
        let r : Name → Name = renumber unit count (new_names unit count R) in
        let q : Name → Name = renumber unit count (map f.to (new_names unit count R)) in
        sym (basis-agrees (λ n. q (f.to n)) r R (λ n h. renumbered-alike n (shown n h) (λ k. fixed n (whole n h k))))
        ∙ sym (objects-obey.bases.composition f.to q R)
        ∙ (λ i. rename_basis (renumber unit count (sym new-moved i)) (e i))

pub canonical-lines-are-one : CanonicalLinesAreOne
canonical-lines-are-one unit count B R S over over' (f, fixed, e) = lines-equal unit count B R S over over' f fixed e

pub canonical-is-one : CanonicalIsOne
canonical-is-one unit count B R S over over' shown (f, fixed, e) =
    bases-equal unit count B R S (λ n h. over n (basis-stands n R h)) (λ n h. over' n (basis-stands n S h)) f fixed e over shown
