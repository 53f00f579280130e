-- The places of units in an order, and the units that are made in it.
use Rattle.std.proofs.Common.{◌≡◌, ℕ, suc, ◌+◌, ◌<◌, List, [], ◌∷◌, ◌++◌, length, map, take, drop, get_or, inl, inr, refl, ap, sym, subst, ◌∙◌, arith}
use Rattle.std.specs.List.{Contains}
use Rattle.std.proofs.Math.ListN.{set}
use Rattle.std.proofs.lemmas.Bool.{cases_lt, cases_order}
use Rattle.std.proofs.lemmas.List.{length-set, get_or-set_same, get_or-set_other, get_or_default, take_more, take-append-drop}
use Rattle.std.proofs.lemmas.List.Elements.{Contains-append_left, Contains-push, Contains-push_cases}
use Rattle.sml_projects.specs.ProjectFiles.{UnitLine}
use Rattle.sml_projects.specs.Orders.{IsOrder, HaveOwnNames, Waits, IsPlace, ArePlaces, IsNeed, AreNeeds, UnitText, IsUnitText, AreUnitTexts, unit_at}

-- of each unit among the first so many of the order its place is known
pub record Placed (ids : List ℕ) (i : ℕ) (places : List ℕ) : Type 0 where
  pub count : length places ≡ length ids
  pub each : (k : ℕ) → k < length ids → Contains (take i ids) k → IsPlace ids k (get_or places k 0)

pub placed-none : (ids : List ℕ) (places : List ℕ) → length places ≡ length ids → Placed ids 0 places
placed-none ids places e = record { count = e; each = λ k kl c. absurd (let l = c.1 in omega (arith, l)) }

pub placed-more : (ids places : List ℕ) (i : ℕ) → i < length ids → Placed ids i places → Placed ids (i + 1) (set places (get_or ids i 0) i)
placed-more ids places i h p =
    let x = get_or ids i 0 in
    record {
      count = length-set places x i ∙ p.count;
      each = λ k kl c. elim (cases_order k x) [
        | inl q ↦
            let count = p.count in
            let at : get_or (set places x i) k 0 ≡ i = ap (λ j. get_or (set places x i) j 0) q ∙ get_or-set_same places x i 0 (omega (arith, kl, q, count)) in
            record { within = subst (λ a. a < length ids) (sym at) h; is = ap (λ a. get_or ids a 0) at ∙ sym q }
        | inr r ↦
            let other : get_or (set places x i) k 0 ≡ get_or places k 0 = get_or-set_other places x k i 0 (λ q. elim r [ inl u ↦ omega (arith, u, q) | inr u ↦ omega (arith, u, q) ]) in
            let before : Contains (take i ids) k = elim (Contains-push_cases (take i ids) x k (subst (λ l. Contains l k) (take_more ids i 0 h) c)) [
              | inl d ↦ d
              | inr q ↦ absurd (elim r [ inl u ↦ omega (arith, u, q) | inr u ↦ omega (arith, u, q) ])
            ] in
            subst (IsPlace ids k) (sym other) (p.each k kl before)
      ];
    }

pub all-placed : (ids places : List ℕ) (i : ℕ) (n : ℕ) → n ≡ length ids → take i ids ≡ ids → Placed ids i places → ArePlaces ids n places
all-placed ids places i n e whole p = λ k kl c. p.each k (omega (arith, kl, e)) (subst (λ l. Contains l k) (sym whole) c)

are-needs : (us : List UnitLine) (ids : List ℕ) (places : List ℕ) (ns : List (List ℕ)) (ps : List ℕ) → length ps ≡ length ns
    → ((j : ℕ) → j < length ps → IsNeed us ids (get_or ns j []) (get_or places (get_or ps j 0) 0)) → AreNeeds us ids ns (map (λ p. get_or places p 0) ps)
are-needs us ids places [] [] e f = tt
are-needs us ids places [] (p ∷ ps) e f = absurd (omega (arith, e))
are-needs us ids places (n ∷ ns) [] e f = absurd (omega (arith, e))
are-needs us ids places (n ∷ ns) (p ∷ ps) e f = (f 0 (omega arith), are-needs us ids places ns ps (omega (arith, e)) (λ j h. f (suc j) (omega (arith, h))))

listed : (us : List UnitLine) (ids : List ℕ) (q : ℕ) → IsOrder us ids → Contains ids q → q < length us
listed us ids q o c = subst (λ k. k < length us) (get_or_default ids c.0 0 q c.1 ∙ c.2) (o.next c.0 c.1).may.listed

-- the needs of the unit at i of the order have their places in it
pub needs-placed : (us : List UnitLine) (ids : List ℕ) (places w : List ℕ) (i : ℕ) → HaveOwnNames us → IsOrder us ids → ArePlaces ids (length ids) places → i < length ids
    → Waits us [] (unit_at us (get_or ids i 0)).needs w → AreNeeds us ids (unit_at us (get_or ids i 0)).needs (map (λ p. get_or places p 0) w)
needs-placed us ids places w i own o places-are h waits =
    let ns = (unit_at us (get_or ids i 0)).needs in
    let may = (o.next i h).may in
    let all : length w ≡ length ns = elim (cases_lt (length w) (length ns)) [
      | inl l ↦ absurd (let none = (waits.met (length w) (omega arith) l).2 in omega (arith, none))
      | inr l ↦ (let f = waits.fewer in omega (arith, l, f))
    ] in
    are-needs us ids places ns w all (λ j b.
    let p = get_or w j 0 in
    let any = may.needs j [] (omega (arith, b, all)) in
    let q = any.1 in
    let before : Contains (take i ids) q = (any.0, any.2, any.3) in
    let inside : Contains ids q = subst (λ l. Contains l q) (take-append-drop i ids) (Contains-append_left (take i ids) (drop i ids) q before) in
    let within = waits.within j b in
    let same : q ≡ p = own q p (listed us ids q o inside) within (any.4 ∙ sym (waits.named j b)) in
    let whole = o.whole in
    let place = places-are p (omega (arith, within, whole)) (subst (Contains ids) same inside) in
    record { within = place.within; named = ap (λ k. (unit_at us k).name) place.is ∙ waits.named j b })

-- the units made so far, and the texts that are left
pub record Making (us : List UnitLine) (texts : List (List ℕ)) (ids : List ℕ) (i : ℕ) (left : List (List ℕ)) (made : List UnitText) : Type 0 where
  pub units : AreUnitTexts us texts ids (take i ids) made
  pub texts_left : (j : ℕ) → (Contains (take i ids) j → ⊥) → get_or left j [] ≡ get_or texts j []

pub making-none : (us : List UnitLine) (texts : List (List ℕ)) (ids : List ℕ) → Making us texts ids 0 texts []
making-none us texts ids = record { units = tt; texts_left = λ j c. refl }

texts-push : (us : List UnitLine) (texts : List (List ℕ)) (ids ks : List ℕ) (k : ℕ) (made : List UnitText) (u : UnitText) → AreUnitTexts us texts ids ks made → IsUnitText us texts ids k u → AreUnitTexts us texts ids (ks ++ k ∷ []) (made ++ u ∷ [])
texts-push us texts ids [] k [] u h g = (g, tt)
texts-push us texts ids [] k (m ∷ made) u h g = absurd h
texts-push us texts ids (x ∷ ks) k [] u h g = absurd h
texts-push us texts ids (x ∷ ks) k (m ∷ made) u h g = (h.0, texts-push us texts ids ks k made u h.1 g)

pub making-more : (us : List UnitLine) (texts : List (List ℕ)) (ids : List ℕ) (i : ℕ) (left after : List (List ℕ)) (made : List UnitText) (u : UnitText) → i < length ids → IsOrder us ids
    → IsUnitText us left ids (get_or ids i 0) u → ((j : ℕ) → (j ≡ get_or ids i 0 → ⊥) → get_or after j [] ≡ get_or left j []) → Making us texts ids i left made
    → Making us texts ids (i + 1) after (made ++ u ∷ [])
making-more us texts ids i left after made u h o g others m =
    let k = get_or ids i 0 in
    let more = take_more ids i 0 h in
    let text = g.text ∙ m.texts_left k (o.next i h).may.left in
    record {
      units = subst (λ ks. AreUnitTexts us texts ids ks (made ++ u ∷ [])) (sym more) (texts-push us texts ids (take i ids) k made u m.units (record { place = g.place; name = g.name; text = text; needs = g.needs }));
      texts_left = λ j c. elim (cases_order j k) [
        | inl q ↦ absurd (c (subst (Contains (take (i + 1) ids)) (sym q) (subst (λ l. Contains l k) (sym more) (last (take i ids) k))))
        | inr r ↦ others j (λ q. elim r [ inl l ↦ omega (arith, l, q) | inr l ↦ omega (arith, l, q) ]) ∙ m.texts_left j (λ d. c (subst (λ l. Contains l j) (sym more) (Contains-append_left (take i ids) (k ∷ []) j d)))
      ];
    }
  where
    last : (xs : List ℕ) (x : ℕ) → Contains (xs ++ x ∷ []) x
    last xs x = Contains-push xs x
