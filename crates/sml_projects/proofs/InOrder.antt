-- An order as it grows, and where it ends.
use Rattle.std.proofs.Common.{◌≡◌, ℕ, ◌<◌, Bool, true, false, List, [], ◌∷◌, ◌++◌, length, take, get_or, inl, inr, refl, ap, sym, subst, ◌∙◌, arith}
use Rattle.std.specs.List.{Contains}
use Rattle.std.proofs.Math.ListN.{set, replicate}
use Rattle.std.proofs.Math.Seq.{get_or-append_seam, take-append_seam}
use Rattle.std.proofs.lemmas.Bool.{false≢true, cases_order}
use Rattle.std.proofs.lemmas.List.{length-set, length-append, length-replicate, get_or_append_left, get_or-replicate, get_or-set_same, get_or-set_other, take-append-le}
use Rattle.std.proofs.lemmas.List.Elements.{Contains-append_left, Contains-push, Contains-push_cases}
use Rattle.std.proofs.lemmas.List.Sums.{sum_by-set}
use Rattle.std.proofs.lemmas.List.Folds.{sum_by-replicate}
use Rattle.sml_projects.specs.declared.manifest.OrderFault.{OrderFault}
use Rattle.sml_projects.specs.declared.manifest.OrderFault.TheVariants.{Memory, Fault}
use Rattle.sml_projects.specs.ProjectFiles.{UnitLine}
use Rattle.sml_projects.specs.Orders.{IsOrder, IsNext, MayCome, HasUnknown, IsOrderFault, IsNeedFault, IsFirstLeft, HaveOwnNames, IsMarked, AreWaiting, Stands, is_marked, unit_at}
use Rattle.sml_projects.proofs.Needs.{marked-within, ones, waits-kept}

-- Each unit taken is the next after those before it, and their marks and what the others wait for are kept.
pub record Taking (us : List UnitLine) (order : List ℕ) (marks : List Bool) (waiting : List (List ℕ)) : Type 0 where
  pub stands : Stands us order marks waiting
  pub next : (i : ℕ) → i < length order → IsNext us (take i order) (get_or order i 0)

set-keeps : (marks : List Bool) (k j : ℕ) → k < length marks → is_marked marks j ≡ true → is_marked (set marks k true) j ≡ true
set-keeps marks k j b h = elim (cases_order j k) [
  | inl q ↦ ap (is_marked (set marks k true)) q ∙ get_or-set_same marks k true false b
  | inr r ↦ get_or-set_other marks k j true false (λ q. elim r [ inl u ↦ omega (arith, u, q) | inr u ↦ omega (arith, u, q) ]) ∙ h
]

marked-more : (us : List UnitLine) (order : List ℕ) (marks : List Bool) (k : ℕ) → IsMarked us order marks → k < length us → is_marked marks k ≡ false → IsMarked us (order ++ k ∷ []) (set marks k true)
marked-more us order marks k m b e =
    let n : length marks ≡ length us = m.count in
    let within : k < length marks = omega (arith, b, n) in
    record {
      count = length-set marks k true ∙ n;
      each = λ j c. elim (Contains-push_cases order k j c) [
        | inl d ↦ set-keeps marks k j within (m.each j d)
        | inr q ↦ ap (is_marked (set marks k true)) (sym q) ∙ get_or-set_same marks k true false within
      ];
      only = λ j h. elim (cases_order j k) [
        | inl q ↦ subst (Contains (order ++ k ∷ [])) (sym q) (Contains-push order k)
        | inr r ↦ Contains-append_left order (k ∷ []) j (m.only j (sym (get_or-set_other marks k j true false (λ q. elim r [ inl u ↦ omega (arith, u, q) | inr u ↦ omega (arith, u, q) ])) ∙ h))
      ];
      number =
          let more = sum_by-set ones marks k true false within in
          let none : ones (is_marked marks k) ≡ 0 = ap ones e in
          let old = m.number in
          let long = length-append order (k ∷ []) in
          omega (arith, more, none, old, long);
    }

stands-more : (us : List UnitLine) (order : List ℕ) (marks : List Bool) (waiting : List (List ℕ)) (k : ℕ) → k < length us → is_marked marks k ≡ false → Stands us order marks waiting → Stands us (order ++ k ∷ []) (set marks k true) waiting
stands-more us order marks waiting k b e s = record {
  own = s.own;
  marked = marked-more us order marks k s.marked b e;
  count = s.count;
  waits = λ j l. waits-kept us order k (unit_at us j).needs (get_or waiting j []) (s.waits j l);
}

unmarked : (us : List UnitLine) (order : List ℕ) (marks : List Bool) (k : ℕ) → IsMarked us order marks → (Contains order k → ⊥) → (b : Bool) → is_marked marks k ≡ b → b ≡ false
unmarked us order marks k m left true e = absurd (left (m.only k e))
unmarked us order marks k m left false e = refl

next-at : (us : List UnitLine) (a b : List ℕ) (x y : ℕ) → b ≡ a → y ≡ x → IsNext us a x → IsNext us b y
next-at us a b x y p q h = subst (IsNext us b) (sym q) (subst (λ l. IsNext us l x) (sym p) h)

pub taking-more : (us : List UnitLine) (order : List ℕ) (marks : List Bool) (waiting : List (List ℕ)) (k : ℕ) → Taking us order marks waiting → IsNext us order k → Taking us (order ++ k ∷ []) (set marks k true) waiting
taking-more us order marks waiting k t n = record {
  stands = stands-more us order marks waiting k n.may.listed (unmarked us order marks k t.stands.marked n.may.left (is_marked marks k) refl) t.stands;
  next = λ i l. elim (cases_order i (length order)) [
    | inl q ↦ next-at us order (take i (order ++ k ∷ [])) k (get_or (order ++ k ∷ []) i 0) (ap (λ a. take a (order ++ k ∷ [])) q ∙ take-append_seam order (k ∷ [])) (ap (λ a. get_or (order ++ k ∷ []) a 0) q ∙ get_or-append_seam order k [] 0) n
    | inr r ↦ elim r [
      | inl s ↦ next-at us (take i order) (take i (order ++ k ∷ [])) (get_or order i 0) (get_or (order ++ k ∷ []) i 0) (take-append-le i order (k ∷ []) (omega (arith, s))) (get_or_append_left order (k ∷ []) 0 i s) (t.next i s)
      | inr s ↦ absurd (let long = length-append order (k ∷ []) in omega (arith, l, s, long))
    ]
  ];
}

pub taking-none : (us : List UnitLine) (n : ℕ) (waiting : List (List ℕ)) → HaveOwnNames us → n ≡ length us → length waiting ≡ length us → AreWaiting us [] waiting → Taking us [] (replicate n false) waiting
taking-none us n waiting own e count waits = record {
  stands = record {
    own = own;
    marked = record {
      count = length-replicate n false ∙ e;
      each = λ j c. absurd (let l = c.1 in omega (arith, l));
      only = λ j h. absurd (let a = marked-within (replicate n false) j h in let b = length-replicate n false in false≢true (sym (get_or-replicate n j false false (omega (arith, a, b))) ∙ h));
      number = let s = sum_by-replicate ones n false in omega (arith, s);
    };
    count = count;
    waits = waits;
  };
  next = λ i l. absurd (omega (arith, l));
}

pub is-order : (us : List UnitLine) (order : List ℕ) (marks : List Bool) (waiting : List (List ℕ)) → Taking us order marks waiting → length order ≡ length us → IsOrder us order
is-order us order marks waiting t e = record { next = t.next; whole = e }

pub is-cycle : (us : List UnitLine) (lines order : List ℕ) (marks : List Bool) (waiting : List (List ℕ)) (f : OrderFault) → Taking us order marks waiting → ((k : ℕ) → ¬ (MayCome us order k)) → ((k : ℕ) → ¬ (HasUnknown us k)) → IsFirstLeft marks lines f → IsOrderFault us lines f
unfolding IsOrderFault
is-cycle us lines order marks waiting f t stuck known first =
    let m : IsMarked us order marks = t.stands.marked in
    subst (IsOrderFault us lines) (sym first.fault) (inr (record {
      taken = order;
      next = t.next;
      stuck = stuck;
      at = first.at;
      listed = (let a = first.within in let b = m.count in omega (arith, a, b));
      left = λ c. false≢true (sym first.left ∙ m.each first.at c);
      earliest = λ j l. m.only j (first.earliest j l);
      known = known;
      fault = refl;
    }))

pub need-fault : (us : List UnitLine) (lines : List ℕ) (f : OrderFault) → IsNeedFault us lines f → IsOrderFault us lines f
unfolding IsNeedFault IsOrderFault
need-fault us lines Memory h = tt
need-fault us lines (Fault f) h = inl h

pub no-memory : (us : List UnitLine) (lines : List ℕ) (f : OrderFault) → f ≡ Memory → IsOrderFault us lines f
unfolding IsOrderFault
no-memory us lines f e = subst (IsOrderFault us lines) (sym e) tt

pub written-whole : {A : Type 0} (xs ys : List A) (n : ℕ) → n ≡ length xs → take n (xs ++ ys) ≡ xs
written-whole xs ys n e = ap (λ k. take k (xs ++ ys)) e ∙ take-append_seam xs ys
