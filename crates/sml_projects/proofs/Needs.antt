-- The units of a manifest, their marks, and what each of them waits for.
use Rattle.std.proofs.Common.{◌≡◌, ℕ, zero, suc, ◌+◌, ◌<◌, Bool, true, false, cond, List, [], ◌∷◌, ◌++◌, length, map, take, get_or, inl, inr, Some, refl, ap, sym, subst, ◌∙◌, arith, String, Vec, Global, string_bytes}
use Rattle.std.specs.List.{All, Any, IsDistinct, AllByRecursion, count_by, list_any, position}
use Rattle.std.specs.Str.{bytes_eq}
use Rattle.std.specs.String.{string_eq}
use Rattle.std.proofs.Math.ListN.{set}
use Rattle.std.proofs.lemmas.Bool.{false≢true, cases_lt, cases_order}
use Rattle.std.proofs.lemmas.List.{length-map, length-set, length-append, get_or_append_left, get_or-set_same, get_or-set_other, get_or_default, get_or-map, map-set, map-append, take_more}
use Rattle.std.proofs.Math.Seq.{get_or-append_seam}
use Rattle.std.proofs.lemmas.List.Folds.{list_any-from_Any}
use Rattle.std.proofs.lemmas.List.Quantifiers.{position-Some}
use Rattle.std.proofs.lemmas.Option.{slice_get_cases}
use Rattle.std.proofs.lemmas.List.Sums.{sum_by-cons}
use Rattle.std.proofs.lemmas.Map.Keys.{IsDistinct-head, IsDistinct-tail}
use Rattle.std.proofs.lemmas.Slice.Eq.{bytes_eq-Decides}
use Rattle.sml_projects.specs.declared.manifest.Manifest.{Manifest}
use Rattle.sml_projects.specs.declared.manifest.OrderFault.{OrderFault}
use Rattle.sml_projects.specs.declared.manifest.OrderFault.TheVariants.{Memory, Fault}
use Rattle.sml_projects.specs.declared.manifest.ProjectCode.TheVariants.{O1}
use Rattle.sml_projects.specs.ProjectFiles.{UnitLine, listed_as, units_in}
use Rattle.sml_projects.specs.Orders.{MayCome, HasUnknown, HaveOwnNames, IsMarked, IsNeedFault, Waits, AreWaiting, Loses, Stands, is_marked, unit_at}

length-listed : (ns fs : List (List ℕ)) (es : List (List (List ℕ))) → length fs ≡ length ns → length es ≡ length ns → length (listed_as ns fs es) ≡ length ns
length-listed [] fs es h g = refl
length-listed (n ∷ ns) [] es h g = absurd (omega (arith, h))
length-listed (n ∷ ns) (f ∷ fs) [] h g = absurd (omega (arith, g))
length-listed (n ∷ ns) (f ∷ fs) (e ∷ es) h g = let ih = length-listed ns fs es (omega (arith, h)) (omega (arith, g)) in omega (arith, ih)

name-listed : (ns fs : List (List ℕ)) (es : List (List (List ℕ))) (k : ℕ) → length fs ≡ length ns → length es ≡ length ns → (unit_at (listed_as ns fs es) k).name ≡ get_or ns k []
name-listed [] fs es k h g = refl
name-listed (n ∷ ns) [] es k h g = absurd (omega (arith, h))
name-listed (n ∷ ns) (f ∷ fs) [] k h g = absurd (omega (arith, g))
name-listed (n ∷ ns) (f ∷ fs) (e ∷ es) zero h g = refl
name-listed (n ∷ ns) (f ∷ fs) (e ∷ es) (suc k) h g = name-listed ns fs es k (omega (arith, h)) (omega (arith, g))

needs-listed : (ns fs : List (List ℕ)) (es : List (List (List ℕ))) (k : ℕ) → length fs ≡ length ns → length es ≡ length ns → (unit_at (listed_as ns fs es) k).needs ≡ get_or es k []
needs-listed [] fs [] k h g = refl
needs-listed [] fs (e ∷ es) k h g = absurd (omega (arith, g))
needs-listed (n ∷ ns) [] es k h g = absurd (omega (arith, h))
needs-listed (n ∷ ns) (f ∷ fs) [] k h g = absurd (omega (arith, g))
needs-listed (n ∷ ns) (f ∷ fs) (e ∷ es) zero h g = refl
needs-listed (n ∷ ns) (f ∷ fs) (e ∷ es) (suc k) h g = needs-listed ns fs es k (omega (arith, h)) (omega (arith, g))

abbrev pub names_in : Manifest → List (List ℕ)
names_in m = map string_bytes m.names.keys

abbrev pub texts_of : Vec (String Global) Global → List (List ℕ)
texts_of own = map string_bytes own.items

abbrev pub needs_in : Manifest → List (List (List ℕ))
needs_in m = map texts_of m.needs.items

files-pair : (m : Manifest) → length (map string_bytes m.files.items) ≡ length (names_in m)
files-pair m =
    let a = length-map m.names.keys string_bytes in
    let b = length-map m.files.items string_bytes in
    let f = m.files.ok.0 in
    let p = m.files_paired in
    omega (arith, a, b, f, p)

pub needs-pair : (m : Manifest) → length (needs_in m) ≡ length (names_in m)
needs-pair m =
    let a = length-map m.names.keys string_bytes in
    let b = length-map m.needs.items texts_of in
    let f = m.needs.ok.0 in
    let p = m.needs_paired in
    omega (arith, a, b, f, p)

pub units-length : (m : Manifest) → length (units_in m) ≡ length m.names.keys
units-length m = length-listed (names_in m) (map string_bytes m.files.items) (needs_in m) (files-pair m) (needs-pair m) ∙ length-map m.names.keys string_bytes

pub unit-name : (m : Manifest) (k : ℕ) → (unit_at (units_in m) k).name ≡ get_or (names_in m) k []
unit-name m k = name-listed (names_in m) (map string_bytes m.files.items) (needs_in m) k (files-pair m) (needs-pair m)

pub unit-needs : (m : Manifest) (k : ℕ) → (unit_at (units_in m) k).needs ≡ get_or (needs_in m) k []
unit-needs m k = needs-listed (names_in m) (map string_bytes m.files.items) (needs_in m) k (files-pair m) (needs-pair m)

not-head : (x : String Global) (ks : List (String Global)) → AllByRecursion (λ y. string_eq x y ≡ false) ks → (k : ℕ) → k < length ks → string_bytes x ≡ get_or (map string_bytes ks) k [] → ⊥
not-head x [] h k b e = absurd (omega (arith, b))
not-head x (y ∷ ks) h zero b e = false≢true (sym h.0 ∙ (bytes_eq-Decides (string_bytes x) (string_bytes y)).1 e)
not-head x (y ∷ ks) h (suc k) b e = not-head x ks h.1 k (omega (arith, b)) e

distinct-apart : (ks : List (String Global)) → IsDistinct string_eq ks → (j k : ℕ) → j < k → k < length ks → get_or (map string_bytes ks) j [] ≡ get_or (map string_bytes ks) k [] → ⊥
distinct-apart [] d j k l b e = absurd (omega (arith, b))
distinct-apart (x ∷ ks) d j zero l b e = absurd (omega (arith, l))
distinct-apart (x ∷ ks) d zero (suc k) l b e = not-head x ks (IsDistinct-head string_eq x ks d) k (omega (arith, b)) e
distinct-apart (x ∷ ks) d (suc j) (suc k) l b e = distinct-apart ks (IsDistinct-tail string_eq x ks d) j k (omega (arith, l)) (omega (arith, b)) e

-- The keys of a set differ, so no two units have one name.
pub own-names : (m : Manifest) → IsDistinct string_eq m.names.keys → HaveOwnNames (units_in m)
own-names m d = λ j k a b e.
    let n = units-length m in
    let same : get_or (names_in m) j [] ≡ get_or (names_in m) k [] = sym (unit-name m j) ∙ e ∙ unit-name m k in
    elim (cases_order j k) [
      | inl q ↦ q
      | inr r ↦ elim r [
        | inl l ↦ absurd (distinct-apart m.names.keys d j k l (omega (arith, b, n)) same)
        | inr l ↦ absurd (distinct-apart m.names.keys d k j l (omega (arith, a, n)) (sym same))
      ]
    ]

pub marked-within : (marks : List Bool) (k : ℕ) → is_marked marks k ≡ true → k < length marks
marked-within [] k h = absurd (false≢true h)
marked-within (b ∷ bs) zero h = omega arith
marked-within (b ∷ bs) (suc k) h = let ih = marked-within bs k h in omega (arith, ih)

-- a mark counted
abbrev pub ones : Bool → ℕ
ones mark = cond mark 1 0

all-counted : (marks : List Bool) → ((j : ℕ) → j < length marks → is_marked marks j ≡ true) → count_by (λ mark. mark) marks ≡ length marks
all-counted [] h = refl
all-counted (b ∷ bs) h =
    let first : b ≡ true = h 0 (omega arith) in
    let ih : count_by (λ mark. mark) bs ≡ length bs = all-counted bs (λ j l. h (suc j) (omega (arith, l))) in
    let one : ones b ≡ 1 = ap ones first in
    let whole = sum_by-cons ones b bs in
    omega (arith, ih, one, whole)

-- Fewer are marked than there are marks, so the first without one is within.
pub left-within : (marks : List Bool) (i : ℕ) → ((j : ℕ) → j < i → is_marked marks j ≡ true) → count_by (λ mark. mark) marks < length marks → i < length marks
left-within marks i h few = elim (cases_lt i (length marks)) [
  | inl l ↦ l
  | inr l ↦ absurd (let e = all-counted marks (λ j b. h j (omega (arith, b, l))) in omega (arith, e, few))
]

pub waits-kept : (us : List UnitLine) (order : List ℕ) (k : ℕ) (ns : List (List ℕ)) (w : List ℕ) → Waits us order ns w → Waits us (order ++ k ∷ []) ns w
waits-kept us order k ns w h = record {
  fewer = h.fewer;
  within = h.within;
  named = h.named;
  met = λ i a b. (let m = h.met i a b in (m.0, m.1, (let l = m.2 in let s = length-append order (k ∷ []) in omega (arith, l, s)), get_or_append_left order (k ∷ []) m.1 m.0 m.2 ∙ m.3, m.4));
}

-- What is marked need not be waited for.
pub waits-lost : (us : List UnitLine) (order : List ℕ) (marks : List Bool) (ns : List (List ℕ)) (w v : List ℕ) → IsMarked us order marks → Loses marks w v → Waits us order ns w → Waits us order ns v
waits-lost us order marks ns w v m l h = record {
  fewer = let a = l.fewer in let b = h.fewer in omega (arith, a, b);
  within = λ i b. (let a = l.fewer in subst (λ p. p < length us) (sym (l.same i b)) (h.within i (omega (arith, a, b))));
  named = λ i b. (let a = l.fewer in ap (λ p. (unit_at us p).name) (l.same i b) ∙ h.named i (omega (arith, a, b)));
  met = λ i a b. elim (cases_lt i (length w)) [
    | inl s ↦ (let c = m.only (get_or w i 0) (l.lost i a s) in (c.0, get_or w i 0, c.1, c.2, h.named i s))
    | inr s ↦ h.met i s b
  ];
}

pub marked-not : (us : List UnitLine) (order : List ℕ) (marks : List Bool) (k : ℕ) → IsMarked us order marks → is_marked marks k ≡ true → MayCome us order k → ⊥
marked-not us order marks k m e c = c.left (m.only k e)

-- A unit that waits for one without a mark may not come.
pub waiting-not : (us : List UnitLine) (order : List ℕ) (marks : List Bool) (k : ℕ) (w : List ℕ) → HaveOwnNames us → IsMarked us order marks → Waits us order (unit_at us k).needs w → Any (λ p. is_marked marks p ≡ false) w → MayCome us order k → ⊥
waiting-not us order marks k w own m h unready c =
    let i = unready.0 in
    let il : i < length w = unready.2 in
    let at : get_or w i 0 ≡ unready.1 = get_or_default w i 0 unready.1 il ∙ unready.3 in
    let fewer = h.fewer in
    let any = c.needs i [] (omega (arith, il, fewer)) in
    let j = any.1 in
    let mark : is_marked marks j ≡ true = m.each j (any.0, any.2, any.3) in
    let jl : j < length us = (let a = marked-within marks j mark in let b = m.count in omega (arith, a, b)) in
    let same : j ≡ get_or w i 0 = own j (get_or w i 0) jl (h.within i il) (any.4 ∙ sym (h.named i il)) in
    false≢true (sym unready.4 ∙ ap (is_marked marks) (sym at) ∙ ap (is_marked marks) (sym same) ∙ mark)

pub ready-may : (us : List UnitLine) (order : List ℕ) (marks : List Bool) (k : ℕ) (w : List ℕ) → k < length us → IsMarked us order marks → Waits us order (unit_at us k).needs w → is_marked marks k ≡ false → length w ≡ 0 → MayCome us order k
ready-may us order marks k w b m h e none = record {
  listed = b;
  left = λ c. false≢true (sym e ∙ m.each k c);
  needs = λ i d l. subst (λ need. Any (λ j. (unit_at us j).name ≡ need) order) (get_or_default (unit_at us k).needs i [] d l) (h.met i (omega (arith, none)) l);
}

-- A unit all of whose needs have places has no unknown need.
pub waits-known : (us : List UnitLine) (k : ℕ) (w : List ℕ) → Waits us [] (unit_at us k).needs w → HasUnknown us k → ⊥
waits-known us k w h u =
    let need = u.unknown in
    let ns = (unit_at us k).needs in
    let i = need.0 in
    let il : i < length ns = need.2 in
    elim (cases_lt i (length w)) [
      | inl l ↦ need.4 (get_or w i 0) (record { name = []; file = []; needs = [] }) (h.within i l) (h.named i l ∙ get_or_default ns i [] need.1 il ∙ need.3)
      | inr l ↦ absurd (let none = (h.met i l il).2 in omega (arith, none))
    ]

pub known-all : (us : List UnitLine) (waiting : List (List ℕ)) → length waiting ≡ length us → AreWaiting us [] waiting → (k : ℕ) → HasUnknown us k → ⊥
known-all us waiting n h k u = let l = u.listed in waits-known us k (get_or waiting k []) (h k (omega (arith, l, n))) u

pub stands-lost : (us : List UnitLine) (order : List ℕ) (marks : List Bool) (waiting : List (List ℕ)) (k : ℕ) (v : List ℕ) → k < length waiting → Loses marks (get_or waiting k []) v → Stands us order marks waiting → Stands us order marks (set waiting k v)
stands-lost us order marks waiting k v b l s = record {
  own = s.own;
  marked = s.marked;
  count = length-set waiting k v ∙ s.count;
  waits = λ j a. (let e = length-set waiting k v in elim (cases_order j k) [
    | inl q ↦ subst (λ i. Waits us order (unit_at us i).needs (get_or (set waiting k v) i [])) (sym q) (subst (Waits us order (unit_at us k).needs) (sym (get_or-set_same waiting k v [] b)) (waits-lost us order marks (unit_at us k).needs (get_or waiting k []) v s.marked l (s.waits k b)))
    | inr r ↦ subst (Waits us order (unit_at us j).needs) (sym (get_or-set_other waiting k j v [] (λ q. elim r [ inl u ↦ omega (arith, u, q) | inr u ↦ omega (arith, u, q) ]))) (s.waits j (omega (arith, a, e)))
  ]);
}

abbrev pub places_in : List (Vec ℕ Global) → List (List ℕ)
places_in vs = map (λ places. places.items) vs

waiting-at : (vs : List (Vec ℕ Global)) (k : ℕ) (v : Vec ℕ Global) → k < length vs → get_or (places_in vs) k [] ≡ (get_or vs k v).items
waiting-at vs k v b = get_or-map (λ (places : Vec ℕ Global). places.items) vs k v [] b

pub waits-at : (us : List UnitLine) (order : List ℕ) (marks : List Bool) (vs : List (Vec ℕ Global)) (k : ℕ) (v w : Vec ℕ Global) → k < length vs → Loses marks (get_or vs k v).items w.items → Stands us order marks (places_in vs) → Waits us order (unit_at us k).needs w.items
waits-at us order marks vs k v w b l s =
    let long = length-map vs (λ (places : Vec ℕ Global). places.items) in
    waits-lost us order marks (unit_at us k).needs (get_or vs k v).items w.items s.marked l (subst (Waits us order (unit_at us k).needs) (waiting-at vs k v b) (s.waits k (omega (arith, b, long))))

pub stands-set : (us : List UnitLine) (order : List ℕ) (marks : List Bool) (vs : List (Vec ℕ Global)) (k : ℕ) (v w : Vec ℕ Global) → k < length vs → Loses marks (get_or vs k v).items w.items → Stands us order marks (places_in vs) → Stands us order marks (places_in (set vs k w))
stands-set us order marks vs k v w b l s =
    let long = length-map vs (λ (places : Vec ℕ Global). places.items) in
    subst (Stands us order marks) (sym (map-set (λ (places : Vec ℕ Global). places.items) vs k w)) (stands-lost us order marks (places_in vs) k w.items (omega (arith, b, long)) (subst (λ items. Loses marks items w.items) (sym (waiting-at vs k v b)) l) s)

none-named : (keys : List (String Global)) (x : List ℕ) → list_any (λ k. bytes_eq x (string_bytes k)) keys ≡ false → (k : ℕ) → k < length keys → get_or (map string_bytes keys) k [] ≡ x → ⊥
none-named keys x h k b e = elim (slice_get_cases keys k).1 [
  | inl w ↦ (let is : string_bytes w.0 ≡ x = ap string_bytes (sym w.3) ∙ sym (get_or-map string_bytes keys k w.0 [] b) ∙ e in false≢true (sym h ∙ list_any-from_Any (λ (q : String Global). bytes_eq x (string_bytes q)) keys (k, w.0, b, w.3, (bytes_eq-Decides x (string_bytes w.0)).1 (sym is))))
  | inr w ↦ absurd (let past = w.0 in omega (arith, past, b))
]

pub unknown-need : (m : Manifest) (needs : List (String Global)) (i : ℕ) (s : String Global) (x : List ℕ) → i < length needs → s ≡ get_or needs i s → x ≡ string_bytes s → list_any (λ k. bytes_eq x (string_bytes k)) m.names.keys ≡ false → Any (λ need. All (λ u. ¬ (u.name ≡ need)) (units_in m)) (map string_bytes needs)
unknown-need m needs i s x b is read h =
    let long = length-map needs string_bytes in (
      i,
      string_bytes s,
      omega (arith, b, long),
      get_or-map string_bytes needs i s (string_bytes s) b ∙ ap string_bytes (sym is),
      λ k d l e. (let n = units-length m in none-named m.names.keys x h k (omega (arith, l, n)) (sym (unit-name m k) ∙ ap (λ u. u.name) (get_or_default (units_in m) k (record { name = []; file = []; needs = [] }) d l) ∙ e ∙ sym read)),
    )

pub waits-all : (us : List UnitLine) (ns : List (List ℕ)) (w : List ℕ) → Waits us [] ns w → length w ≡ length ns
waits-all us ns w h = elim (cases_lt (length w) (length ns)) [
  | inl l ↦ absurd (let none = (h.met (length w) (omega arith) l).2 in omega (arith, none))
  | inr l ↦ (let f = h.fewer in omega (arith, f, l))
]

waits-push : (us : List UnitLine) (ns : List (List ℕ)) (w : List ℕ) (p : ℕ) (x : List ℕ) → Waits us [] ns w → p < length us → (unit_at us p).name ≡ x → Waits us [] (ns ++ x ∷ []) (w ++ p ∷ [])
waits-push us ns w p x h b named =
    let same : length w ≡ length ns = waits-all us ns w h in
    let a = length-append ns (x ∷ []) in
    let c = length-append w (p ∷ []) in
    let last-need : get_or (ns ++ x ∷ []) (length w) [] ≡ x = ap (λ n. get_or (ns ++ x ∷ []) n []) same ∙ get_or-append_seam ns x [] [] in
    let last-place : get_or (w ++ p ∷ []) (length w) 0 ≡ p = get_or-append_seam w p [] 0 in
    record {
      fewer = omega (arith, same, a, c);
      within = λ i l. elim (cases_lt i (length w)) [
        | inl k ↦ subst (λ q. q < length us) (sym (get_or_append_left w (p ∷ []) 0 i k)) (h.within i k)
        | inr k ↦ (let e : i ≡ length w = omega (arith, l, k, c) in subst (λ q. q < length us) (sym (ap (λ n. get_or (w ++ p ∷ []) n 0) e ∙ last-place)) b)
      ];
      named = λ i l. elim (cases_lt i (length w)) [
        | inl k ↦ ap (λ q. (unit_at us q).name) (get_or_append_left w (p ∷ []) 0 i k) ∙ h.named i k ∙ sym (get_or_append_left ns (x ∷ []) [] i (omega (arith, k, same)))
        | inr k ↦ (let e : i ≡ length w = omega (arith, l, k, c) in ap (λ n. (unit_at us (get_or (w ++ p ∷ []) n 0)).name) e ∙ ap (λ q. (unit_at us q).name) last-place ∙ named ∙ sym (ap (λ n. get_or (ns ++ x ∷ []) n []) e ∙ last-need))
      ];
      met = λ i l k. absurd (omega (arith, l, k, a, c, same));
    }

pub places-more : (m : Manifest) (needs : List (String Global)) (i : ℕ) (s : String Global) (x : List ℕ) (p : ℕ) (w v : List ℕ) → i < length needs → s ≡ get_or needs i s → x ≡ string_bytes s → position (λ k. bytes_eq x (string_bytes k)) m.names.keys ≡ Some p → v ≡ w ++ p ∷ []
    → Waits (units_in m) [] (map string_bytes (take i needs)) w → Waits (units_in m) [] (map string_bytes (take (i + 1) needs)) v
places-more m needs i s x p w v b is read at more h =
    let found = position-Some (λ (k : String Global). bytes_eq x (string_bytes k)) m.names.keys p s at in
    let n = units-length m in
    let f : p < length m.names.keys = found.0 in
    let named : (unit_at (units_in m) p).name ≡ string_bytes s = unit-name m p ∙ get_or-map string_bytes m.names.keys p s [] f ∙ sym ((bytes_eq-Decides x (string_bytes (get_or m.names.keys p s))).0 found.1) ∙ read in
    let needs-more : map string_bytes (take (i + 1) needs) ≡ map string_bytes (take i needs) ++ string_bytes s ∷ [] = ap (map string_bytes) (take_more needs i s b) ∙ map-append string_bytes (take i needs) (get_or needs i s ∷ []) ∙ ap (λ q. map string_bytes (take i needs) ++ string_bytes q ∷ []) (sym is) in
    subst (Waits (units_in m) [] (map string_bytes (take (i + 1) needs))) (sym more) (subst (λ ns. Waits (units_in m) [] ns (w ++ p ∷ [])) (sym needs-more) (waits-push (units_in m) (map string_bytes (take i needs)) w p (string_bytes s) h (omega (arith, f, n)) named))

waits-more : (us : List UnitLine) (ws : List (List ℕ)) (w : List ℕ) → AreWaiting us [] ws → Waits us [] (unit_at us (length ws)).needs w → AreWaiting us [] (ws ++ w ∷ [])
waits-more us ws w h n = λ k l. elim (cases_lt k (length ws)) [
  | inl b ↦ subst (Waits us [] (unit_at us k).needs) (sym (get_or_append_left ws (w ∷ []) [] k b)) (h k b)
  | inr b ↦ (let long = length-append ws (w ∷ []) in let e : k ≡ length ws = omega (arith, l, b, long) in subst (λ i. Waits us [] (unit_at us i).needs (get_or (ws ++ w ∷ []) i [])) (sym e) (subst (Waits us [] (unit_at us (length ws)).needs) (sym (get_or-append_seam ws w [] [])) n))
]

needs-at : (m : Manifest) (i : ℕ) (v : Vec (String Global) Global) → i < length m.needs.items → (unit_at (units_in m) i).needs ≡ map string_bytes (get_or m.needs.items i v).items
needs-at m i v b = unit-needs m i ∙ get_or-map texts_of m.needs.items i v [] b

pub needed-more : (m : Manifest) (vs vs' : List (Vec ℕ Global)) (i : ℕ) (v : Vec (String Global) Global) (w : Vec ℕ Global) → i < length m.needs.items → length vs ≡ i → vs' ≡ vs ++ w ∷ [] → Waits (units_in m) [] (map string_bytes (get_or m.needs.items i v).items) w.items
    → AreWaiting (units_in m) [] (places_in vs) → AreWaiting (units_in m) [] (places_in vs')
needed-more m vs vs' i v w b e more n h =
    let long : length (places_in vs) ≡ i = length-map vs (λ (places : Vec ℕ Global). places.items) ∙ e in
    let last : Waits (units_in m) [] (unit_at (units_in m) (length (places_in vs))).needs w.items = subst (λ ns. Waits (units_in m) [] ns w.items) (sym (ap (λ k. (unit_at (units_in m) k).needs) long ∙ needs-at m i v b)) n in
    subst (AreWaiting (units_in m) []) (sym (ap places_in more ∙ map-append (λ (places : Vec ℕ Global). places.items) vs (w ∷ []))) (waits-more (units_in m) (places_in vs) w.items h last)

pub need-unknown : (m : Manifest) (vs : List (Vec ℕ Global)) (i : ℕ) (v : Vec (String Global) Global) (f : OrderFault) → i < length m.needs.items → length vs ≡ i → AreWaiting (units_in m) [] (places_in vs)
    → Any (λ need. All (λ u. ¬ (u.name ≡ need)) (units_in m)) (map string_bytes (get_or m.needs.items i v).items) → f ≡ Fault (record { code = O1; line = get_or m.lines.items i 0 }) → IsNeedFault (units_in m) m.lines.items f
unfolding IsNeedFault
need-unknown m vs i v f b e h any is =
    let long : length (places_in vs) ≡ i = length-map vs (λ (places : Vec ℕ Global). places.items) ∙ e in
    let n = units-length m in
    let p = m.needs_paired in
    let q = m.needs.ok.0 in
    subst (IsNeedFault (units_in m) m.lines.items) (sym is) (record {
      at = i;
      has = record {
        listed = omega (arith, b, n, p, q);
        unknown = subst (Any (λ need. All (λ u. ¬ (u.name ≡ need)) (units_in m))) (sym (needs-at m i v b)) any;
      };
      first = λ j l. waits-known (units_in m) j (get_or (places_in vs) j []) (h j (omega (arith, l, long)));
      fault = refl;
    })

pub need-memory : (us : List UnitLine) (lines : List ℕ) (f : OrderFault) → f ≡ Memory → IsNeedFault us lines f
unfolding IsNeedFault
need-memory us lines f e = subst (IsNeedFault us lines) (sym e) tt
