-- Changes of nodes.
use Rattle.std.proofs.Common.{◌≡◌, ◌≢◌, ℕ, ◌+◌, zero, suc, ◌<◌, ◌≤◌, ◌⊎◌, inl, inr, List, [], ◌∷◌, ◌++◌, length, take, drop, get_or, set, sym, ◌∙◌, ap, subst, refl, arith, append_assoc}
use Rattle.std.proofs.lemmas.Bool.{cases_lt}
use Rattle.std.proofs.lemmas.List.{append-nil, map-append, take-append-le}
use Rattle.std.specs.Global.{Box}
use Rattle.std.proofs.lemmas.List.Sorted.{Contains-permutation, IsPermutation-sym}
use Rattle.std.specs.List.{AllByRecursion, Contains}
use Rattle.std.specs.List.Sorted.{IsPermutation}
use Rattle.sml_graph.specs.declared.fields.Fields.{Fields}
use Rattle.sml_graph.specs.declared.change.Change.{Change}
use Rattle.sml_graph.specs.declared.node.Node.{Node}
use Rattle.sml_graph.specs.declared.node.Node.TheVariants.{Open}
use Rattle.sml_graph.specs.Graphs.{node_at, parts, fields_of}
use Rattle.sml_graph.specs.Changes.{HasChange, BeginsWith, IsAlike, KeepsFirst, IsChange, AreInside, IsNoLater, AreCovered, NodesRise, AddsChange, Changes}
use Rattle.sml_graph.specs.Rows.{kids_of}
use Rattle.sml_graph.proofs.Merging.{same_or_not, all-append, node_at-other}

-- lists of changes

pub has-front : (P : Change → Type 0) (bs cs : List Change) → HasChange P bs → HasChange P (bs ++ cs)
has-front P [] cs h = absurd h
has-front P (b ∷ bs) cs h = elim h [ inl x ↦ inl x | inr y ↦ inr (has-front P bs cs y) ]

pub has-back : (P : Change → Type 0) (bs cs : List Change) → HasChange P cs → HasChange P (bs ++ cs)
has-back P [] cs h = h
has-back P (b ∷ bs) cs h = inr (has-back P bs cs h)

pub has-more : (P : Change → Type 0) (bs cs : List Change) → BeginsWith bs cs → HasChange P bs → HasChange P cs
has-more P bs cs m h = rw m.1 (has-front P bs m.0 h)

pub has-map : (P Q : Change → Type 0) (cs : List Change) → ((c : Change) → P c → Q c) → HasChange P cs → HasChange Q cs
has-map P Q [] f h = h
has-map P Q (c ∷ cs) f h = elim h [ inl x ↦ inl (f c x) | inr y ↦ inr (has-map P Q cs f y) ]

pub has-cases : (P : Change → Type 0) (cs : List Change) (c : Change) → HasChange P (cs ++ c ∷ []) → HasChange P cs ⊎ P c
has-cases P [] c h = elim h [ inl x ↦ inr x | inr y ↦ absurd y ]
has-cases P (b ∷ cs) c h =
    elim h [
      | inl x ↦ inl (inl x)
      | inr y ↦ elim (has-cases P cs c y) [ inl z ↦ inl (inr z) | inr z ↦ inr z ]
    ]

-- two changes of one list, or one of each of two lists
pub has-two : (P Q R : Change → Type 0) (cs : List Change) → ((c d : Change) → P c → Q d → R c ⊎ R d) → HasChange P cs → HasChange Q cs → HasChange R cs
has-two P Q R [] f h k = h
has-two P Q R (c ∷ cs) f h k =
    elim h [
      | inl x ↦
          elim k [
            | inl y ↦ elim (f c c x y) [ inl r ↦ inl r | inr r ↦ inl r ]
            | inr y ↦ with-first cs (has-map Q (λ d. R c ⊎ R d) cs (λ d q. f c d x q) y)
          ]
      | inr x ↦
          elim k [
            | inl y ↦ with-first cs (has-map P (λ d. R c ⊎ R d) cs (λ d p. elim (f d c p y) [ inl r ↦ inr r | inr r ↦ inl r ]) x)
            | inr y ↦ inr (has-two P Q R cs f x y)
          ]
    ] where
      with-first : (bs : List Change) → HasChange (λ d. R c ⊎ R d) bs → R c ⊎ HasChange R bs
      with-first [] z = absurd z
      with-first (b ∷ bs) z =
          elim z [
            | inl e ↦ elim e [ inl r ↦ inl r | inr r ↦ inr (inl r) ]
            | inr y ↦ elim (with-first bs y) [ inl r ↦ inl r | inr r ↦ inr (inr r) ]
          ]

pub has-all : (P Q : Change → Type 0) (R : Type 0) (cs : List Change) → ((c : Change) → P c → Q c → R) → AllByRecursion P cs → HasChange Q cs → R
has-all P Q R [] f a h = absurd h
has-all P Q R (c ∷ cs) f a h = elim h [ inl x ↦ f c a.0 x | inr y ↦ has-all P Q R cs f a.1 y ]

pub all-changes : (P Q : Change → Type 0) (cs : List Change) → ((c : Change) → P c → Q c) → AllByRecursion P cs → AllByRecursion Q cs
all-changes P Q [] f a = tt
all-changes P Q (c ∷ cs) f a = (f c a.0, all-changes P Q cs f a.1)

pub inside-both : (n : ℕ) (bs cs : List Change) → AreInside n bs → AreInside n cs → AreInside n (bs ++ cs)
inside-both n [] cs a h = h
inside-both n (b ∷ bs) cs a h = (a.0, inside-both n bs cs a.1 h)

pub inside-grown : (m n : ℕ) (cs : List Change) → m ≤ n → AreInside m cs → AreInside n cs
inside-grown m n cs l a = all-changes (λ c. c.node < m) (λ c. c.node < n) cs (λ c h. omega (arith, h, l)) a

pub begins-then : {X : Type 0} (xs ys zs : List X) → BeginsWith xs ys → BeginsWith ys zs → BeginsWith xs zs
begins-then {X} xs ys zs a b = (a.0 ++ b.0, b.1 ∙ (ap (λ ws. ws ++ b.0) a.1 ∙ append_assoc xs a.0 b.0))

pub begins-self : {X : Type 0} (xs : List X) → BeginsWith xs xs
begins-self {X} xs = ([], sym (append-nil xs))

pub begins-one : {X : Type 0} (xs ys : List X) (x : X) → ys ≡ xs ++ x ∷ [] → BeginsWith xs ys
begins-one {X} xs ys x e = (x ∷ [], e)

pub has-at : (P : Change → Type 0) (cs : List Change) (k : ℕ) (d : Change) → k < length cs → P (get_or cs k d) → HasChange P cs
has-at P [] k d l p = absurd (omega (arith, l))
has-at P (c ∷ cs) zero d l p = inl p
has-at P (c ∷ cs) (suc k) d l p = inr (has-at P cs k d (omega (arith, l)) p)

-- changes in another order

has-contained : (P : Change → Type 0) (xs : List Change) → HasChange P xs → (c : Change) × P c × Contains xs c
has-contained P [] m = absurd m
has-contained P (x ∷ xs) m =
    elim m [
      | inl p ↦ (x, p, (0, omega arith, refl))
      | inr a ↦ let r = has-contained P xs a in let l = r.2.1 in (r.0, r.1, (suc r.2.0, omega (arith, l), r.2.2))
    ]

contained-has : (P : Change → Type 0) (c : Change) (xs : List Change) (k : ℕ) → P c → k < length xs → get_or xs k c ≡ c → HasChange P xs
contained-has P c [] k p l q = absurd (omega (arith, l))
contained-has P c (x ∷ xs) zero p l q = inl (subst P (sym q) p)
contained-has P c (x ∷ xs) (suc k) p l q = inr (contained-has P c xs k p (omega (arith, l)) q)

pub has-sorted : (P : Change → Type 0) (xs ys : List Change) → IsPermutation xs ys → HasChange P xs → HasChange P ys
has-sorted P xs ys p m =
    let r = has-contained P xs m in
    let c = Contains-permutation xs ys r.0 p r.2 in
    contained-has P r.0 ys c.0 r.1 c.1 c.2

sorted-has : (P : Change → Type 0) (xs ys : List Change) → IsPermutation xs ys → HasChange P ys → HasChange P xs
sorted-has P xs ys p m = has-sorted P ys xs (IsPermutation-sym xs ys p) m

all-of : (P : Change → Type 0) (xs : List Change) → ((c : Change) → HasChange (λ d. d ≡ c) xs → P c) → AllByRecursion P xs
all-of P [] f = tt
all-of P (x ∷ xs) f = (f x (inl refl), all-of P xs (λ c m. f c (inr m)))

all-at-one : (P : Change → Type 0) (c : Change) (xs : List Change) → AllByRecursion P xs → HasChange (λ d. d ≡ c) xs → P c
all-at-one P c xs a m = has-all P (λ d. d ≡ c) (P c) xs (λ d p e. subst P e p) a m

pub all-sorted : (P : Change → Type 0) (xs ys : List Change) → IsPermutation xs ys → AllByRecursion P xs → AllByRecursion P ys
all-sorted P xs ys p a = all-of P ys (λ c m. all-at-one P c xs a (sorted-has (λ d. d ≡ c) xs ys p m))

pub all-unsorted : (P : Change → Type 0) (xs ys : List Change) → IsPermutation xs ys → AllByRecursion P ys → AllByRecursion P xs
all-unsorted P xs ys p a = all-of P xs (λ c m. all-at-one P c ys a (has-sorted (λ d. d ≡ c) xs ys p m))

-- changes that cover others

pub covered-begins : (bs cs : List Change) → BeginsWith bs cs → AreCovered bs cs
covered-begins bs cs m = all-of (λ b. HasChange (IsNoLater b) cs) bs (λ b h. has-map (λ d. d ≡ b) (IsNoLater b) cs (λ d e. (ap (λ c. c.node) e, let z = ap (λ c. c.from) e in omega (arith, z))) (has-more (λ d. d ≡ b) bs cs m h))

-- what holds of a change holds of those that are no later
abbrev pub HoldsEarlier : (Change → Type 0) → Type 0
HoldsEarlier P = (c d : Change) → IsNoLater c d → P c → P d

pub has-covered : (P : Change → Type 0) (bs cs : List Change) → HoldsEarlier P → AreCovered bs cs → HasChange P bs → HasChange P cs
has-covered P bs cs e a m = has-all (λ b. HasChange (IsNoLater b) cs) P (HasChange P cs) bs (λ b h p. has-map (IsNoLater b) P cs (λ d l. e b d l p) h) a m

pub covered-then : (bs cs ds : List Change) → AreCovered bs cs → AreCovered cs ds → AreCovered bs ds
covered-then bs cs ds a b =
    all-changes (λ c. HasChange (IsNoLater c) cs) (λ c. HasChange (IsNoLater c) ds) bs (λ c h.
    has-covered (IsNoLater c) cs ds (λ d e x y. (x.0 ∙ y.0, let l = x.1 in let k = y.1 in omega (arith, l, k))) b h) a

pub covered-sorted : (bs cs ds : List Change) → IsPermutation cs ds → AreCovered bs cs → AreCovered bs ds
covered-sorted bs cs ds p a = all-changes (λ b. HasChange (IsNoLater b) cs) (λ b. HasChange (IsNoLater b) ds) bs (λ b h. has-sorted (IsNoLater b) cs ds p h) a

pub covered-more : (bs es cs : List Change) (b : Change) → AreCovered bs cs → es ≡ bs ++ b ∷ [] → HasChange (IsNoLater b) cs → AreCovered es cs
covered-more bs es cs b a e h = rw e (all-append (λ b. HasChange (IsNoLater b) cs) bs (b ∷ []) a (h, tt))

-- changes of later and later nodes

pub all-none : (P : Change → Type 0) (xs : List Change) → length xs ≡ 0 → AllByRecursion P xs
all-none P [] e = tt
all-none P (x ∷ xs) e = absurd (omega (arith, e))

both-last : (P : Change → Type 0) (xs : List Change) (x : Change) → AllByRecursion P (xs ++ x ∷ []) → AllByRecursion P xs × P x
both-last P [] x a = (tt, a.0)
both-last P (y ∷ xs) x a = let r = both-last P xs x a.1 in ((a.0, r.0), r.1)

rise-front : (xs : List Change) (x : Change) → NodesRise (xs ++ x ∷ []) → NodesRise xs × AllByRecursion (λ d. d.node < x.node) xs
rise-front [] x p = (tt, tt)
rise-front (y ∷ xs) x p = let f = both-last (λ d. y.node < d.node) xs x p.0 in let r = rise-front xs x p.1 in ((f.0, r.0), (f.1, r.1))

rise-push : (xs : List Change) (x : Change) → NodesRise xs → AllByRecursion (λ d. d.node < x.node) xs → NodesRise (xs ++ x ∷ [])
rise-push [] x p a = (tt, tt)
rise-push (y ∷ xs) x p a = (all-append (λ d. y.node < d.node) xs (x ∷ []) p.0 (a.0, tt), rise-push xs x p.1 a.1)

pub adds-same : (bs cs xs : List Change) (l c e : Change) → bs ≡ xs ++ l ∷ [] → cs ≡ xs ++ e ∷ [] → IsNoLater l e → IsNoLater c e → AddsChange bs c cs
adds-same bs cs xs l c e q f m n = rw (q, f) record {
  covers = all-append (λ b. HasChange (IsNoLater b) (xs ++ e ∷ [])) xs (l ∷ []) (covered-begins xs (xs ++ e ∷ []) (begins-one xs (xs ++ e ∷ []) e refl)) (has-back (IsNoLater l) xs (e ∷ []) (inl m), tt);
  new = has-back (IsNoLater c) xs (e ∷ []) (inl n);
  inside = λ k a h. inside-both k xs (e ∷ []) (both-last (λ d. d.node < k) xs l a).0 (let z = n.0 in omega (arith, z, h), tt);
  rise = λ r u. let p = rise-front xs l r in rise-push xs e p.0 (all-changes (λ d. d.node < l.node) (λ d. d.node < e.node) xs (λ d h. let z = m.0 in omega (arith, h, z)) p.1);
}

pub adds-after : (bs cs : List Change) (c : Change) → cs ≡ bs ++ c ∷ [] → (NodesRise bs → AreInside (c.node + 1) bs → AllByRecursion (λ d. d.node < c.node) bs) → AddsChange bs c cs
adds-after bs cs c q f = rw q record {
  covers = covered-begins bs (bs ++ c ∷ []) (begins-one bs (bs ++ c ∷ []) c refl);
  new = has-back (IsNoLater c) bs (c ∷ []) (inl (refl, omega arith));
  inside = λ k a h. inside-both k bs (c ∷ []) a (h, tt);
  rise = λ r u. rise-push bs c r (f r u);
}

pub later-after : (bs xs : List Change) (l c : Change) → bs ≡ xs ++ l ∷ [] → l.node ≢ c.node → NodesRise bs → AreInside (c.node + 1) bs → AllByRecursion (λ d. d.node < c.node) bs
later-after bs xs l c q n r u =
    let p = rise-front xs l (rw q at r) in
    let v = both-last (λ d. d.node < c.node + 1) xs l (rw q at u) in
    let m = v.1 in
    let k : l.node < c.node = omega (arith, m, n) in
    rw q (all-append (λ d. d.node < c.node) xs (l ∷ []) (all-changes (λ d. d.node < l.node) (λ d. d.node < c.node) xs (λ d h. omega (arith, h, k)) p.1) (k, tt))

-- the parts of a node

pub all-first : (P : ℕ → Type 0) (n : ℕ) (ks : List ℕ) → AllByRecursion P ks → AllByRecursion P (take n ks)
all-first P zero ks a = tt
all-first P (suc n) [] a = tt
all-first P (suc n) (k ∷ ks) a = (a.0, all-first P n ks a.1)

pub all-rest : (P : ℕ → Type 0) (n : ℕ) (ks : List ℕ) → AllByRecursion P ks → AllByRecursion P (drop n ks)
all-rest P zero ks a = a
all-rest P (suc n) [] a = tt
all-rest P (suc n) (k ∷ ks) a = all-rest P n ks a.1

pub all-both : (P : ℕ → Type 0) (n : ℕ) (ks : List ℕ) → AllByRecursion P (take n ks) → AllByRecursion P (drop n ks) → AllByRecursion P ks
all-both P zero ks a b = b
all-both P (suc n) [] a b = tt
all-both P (suc n) (k ∷ ks) a b = (a.0, all-both P n ks a.1 b)

pub all-fewer : (P : ℕ → Type 0) (m n : ℕ) (ks : List ℕ) → m ≤ n → AllByRecursion P (take n ks) → AllByRecursion P (take m ks)
all-fewer P zero n ks l a = tt
all-fewer P (suc m) zero ks l a = absurd (omega (arith, l))
all-fewer P (suc m) (suc n) [] l a = tt
all-fewer P (suc m) (suc n) (k ∷ ks) l a = (a.0, all-fewer P m n ks (omega (arith, l)) a.1)

take-fewer : (m n : ℕ) (xs : List ℕ) → m ≤ n → take m (take n xs) ≡ take m xs
take-fewer zero n xs l = refl
take-fewer (suc m) zero xs l = absurd (omega (arith, l))
take-fewer (suc m) (suc n) [] l = refl
take-fewer (suc m) (suc n) (x ∷ xs) l = ap (λ ys. x ∷ ys) (take-fewer m n xs (omega (arith, l)))

-- the first parts of a node that became another one
pub first-kept : (P : ℕ → Type 0) (n : ℕ) (a b : Node) → KeepsFirst n a b → AllByRecursion P (parts a) → AllByRecursion P (take n (parts b))
first-kept P n a b k h = elim k [ inl e ↦ rw e tt | inr q ↦ rw q.1 (all-first P n (parts a) h) ]

pub first-still : (P : ℕ → Type 0) (m n : ℕ) (a b : Node) → m ≤ n → KeepsFirst m a b → AllByRecursion P (take n (parts a)) → AllByRecursion P (take m (parts b))
first-still P m n a b l k h = elim k [ inl e ↦ rw e tt | inr q ↦ rw q.1 (all-fewer P m n (parts a) l h) ]

pub first-fewer : (P : ℕ → Type 0) (m n : ℕ) (a b : Node) → m ≤ n → KeepsFirst n a b → AllByRecursion P (take m (parts a)) → AllByRecursion P (take m (parts b))
first-fewer P m n a b l k h =
    elim k [
      | inl e ↦ let z : m ≡ 0 = omega (arith, l, e) in rw z tt
      | inr q ↦ let z : take m (parts b) ≡ take m (parts a) = sym (take-fewer m n (parts b) l) ∙ (ap (take m) q.1 ∙ take-fewer m n (parts a) l) in rw z h
    ]

alike-then : (a b c : Node) → IsAlike a b → IsAlike b c → IsAlike a c
alike-then a b c x y =
    elim x [
      | inl e ↦ subst (λ z. IsAlike z c) e y
      | inr o ↦ elim y [ inl f ↦ inr (o.0, rw f o.1) | inr p ↦ inr (o.0, p.1) ]
    ]

keeps-fewer : (m n : ℕ) (a b : Node) → m ≤ n → KeepsFirst n a b → KeepsFirst m a b
keeps-fewer m n a b l k =
    elim k [
      | inl e ↦ inl (omega (arith, l, e))
      | inr q ↦ inr (q.0, sym (take-fewer m n (parts b) l) ∙ (ap (take m) q.1 ∙ take-fewer m n (parts a) l))
    ]

pub change-earlier : (i : ℕ) (a b : Node) → HoldsEarlier (IsChange i a b)
change-earlier i a b c d l x = (l.0 ∙ x.0, keeps-fewer d.from c.from a b l.1 x.1)

keeps-left : (m n : ℕ) (a b c : Node) → m ≤ n → KeepsFirst m a b → KeepsFirst n b c → KeepsFirst m a c
keeps-left m n a b c l x y =
    elim x [
      | inl e ↦ inl e
      | inr p ↦
          elim y [
            | inl e ↦ inl (omega (arith, l, e))
            | inr q ↦ inr (alike-then a b c p.0 q.0, sym (take-fewer m n (parts c) l) ∙ (ap (take m) q.1 ∙ (take-fewer m n (parts b) l ∙ p.1)))
          ]
    ]

keeps-right : (m n : ℕ) (a b c : Node) → m ≤ n → KeepsFirst n a b → KeepsFirst m b c → KeepsFirst m a c
keeps-right m n a b c l x y =
    elim y [
      | inl e ↦ inl e
      | inr q ↦
          elim x [
            | inl e ↦ inl (omega (arith, l, e))
            | inr p ↦ inr (alike-then a b c p.0 q.0, q.1 ∙ (sym (take-fewer m n (parts b) l) ∙ (ap (take m) p.1 ∙ take-fewer m n (parts a) l)))
          ]
    ]

pub keeps-same : (n : ℕ) (a b : Node) → b ≡ a → KeepsFirst n a b
keeps-same n a b e = inr (inl e, ap (λ x. take n (parts x)) e)

-- an open row with more fields
pub keeps-grown : (n : ℕ) (a b : Box Fields) → n ≤ length (kids_of (fields_of a.value)) → BeginsWith (fields_of a.value) (fields_of b.value) → KeepsFirst n (Open a) (Open b)
keeps-grown n a b l m =
    let ks = kids_of (fields_of a.value) in
    let e : kids_of (fields_of b.value) ≡ ks ++ kids_of m.0 = ap kids_of m.1 ∙ map-append (λ f. f.1) (fields_of a.value) m.0 in
    inr (inr (tt, tt), ap (take n) e ∙ take-append-le n ks (kids_of m.0) l)

-- a vector and the changes in it

pub changes-none : (ns : List Node) (cs : List Change) → Changes ns cs ns cs
changes-none ns cs = record { others = λ i. inl refl; covers = covered-begins cs cs (begins-self cs); inside = λ a. a }

pub changes-then : (ns ms ls : List Node) (bs cs ds : List Change) → length ms ≡ length ns → Changes ns bs ms cs → Changes ms cs ls ds → Changes ns bs ls ds
changes-then ns ms ls bs cs ds n a b = record {
  others = λ i.
      elim (b.others i) [
        | inl e ↦
            elim (a.others i) [
              | inl f ↦ inl (e ∙ f)
              | inr m ↦ inr (has-covered (IsChange i (node_at ns i) (node_at ls i)) cs ds (change-earlier i (node_at ns i) (node_at ls i)) b.covers (rw e m))
            ]
        | inr k ↦
            elim (a.others i) [
              | inl f ↦ inr (rw f at k)
              | inr m ↦ inr (has-two (IsChange i (node_at ns i) (node_at ms i)) (IsChange i (node_at ms i) (node_at ls i)) (IsChange i (node_at ns i) (node_at ls i)) ds (λ c d p q.
                  elim (cases_lt d.from c.from) [
                    | inl l ↦ inr (q.0, keeps-right d.from c.from (node_at ns i) (node_at ms i) (node_at ls i) (omega (arith, l)) p.1 q.1)
                    | inr g ↦ inl (p.0, keeps-left c.from d.from (node_at ns i) (node_at ms i) (node_at ls i) g p.1 q.1)
                  ]) (has-covered (IsChange i (node_at ns i) (node_at ms i)) cs ds (change-earlier i (node_at ns i) (node_at ms i)) b.covers m) k)
            ]
      ];
  covers = covered-then bs cs ds a.covers b.covers;
  inside = λ m. rw n at (b.inside (rw n (a.inside m)));
}

pub changes-one : (ns : List Node) (cs : List Change) (i : ℕ) (n : Node) → i < length ns → Changes ns cs (set ns i n) (cs ++ record { node = i; from = 0 } ∷ [])
changes-one ns cs i n h =
    let c : Change = record { node = i; from = 0 } in
    record {
      others = λ x. elim (same_or_not x i) [ inl e ↦ inr (has-back (IsChange x (node_at ns x) (node_at (set ns i n) x)) cs (c ∷ []) (inl (sym e, inl refl))) | inr d ↦ inl (node_at-other ns i x n d) ];
      covers = covered-begins cs (cs ++ c ∷ []) (begins-one cs (cs ++ c ∷ []) c refl);
      inside = λ m. inside-both (length ns) cs (c ∷ []) m (h, tt);
    }

-- two nodes were made one
pub changes-two : (ns ms : List Node) (cs : List Change) (high low from : ℕ) → high < length ns → low < length ns → ((i : ℕ) → i ≢ high → i ≢ low → node_at ms i ≡ node_at ns i) → KeepsFirst from (node_at ns low) (node_at ms low) → Changes ns cs ms ((cs ++ record { node = high; from = 0 } ∷ []) ++ record { node = low; from = from } ∷ [])
changes-two ns ms cs high low from lh ll o k =
    let c : Change = record { node = high; from = 0 } in
    let d : Change = record { node = low; from = from } in
    record {
      others = λ i.
          let P = IsChange i (node_at ns i) (node_at ms i) in
          elim (same_or_not i high) [
            | inl e ↦ inr (has-front P (cs ++ c ∷ []) (d ∷ []) (has-back P cs (c ∷ []) (inl (sym e, inl refl))))
            | inr n ↦
                elim (same_or_not i low) [
                  | inl e ↦ inr (has-back P (cs ++ c ∷ []) (d ∷ []) (inl (sym e, subst (λ x. KeepsFirst from (node_at ns x) (node_at ms x)) (sym e) k)))
                  | inr m ↦ inl (o i n m)
                ]
          ];
      covers = covered-begins cs ((cs ++ c ∷ []) ++ d ∷ []) (begins-then cs (cs ++ c ∷ []) ((cs ++ c ∷ []) ++ d ∷ []) (begins-one cs (cs ++ c ∷ []) c refl) (begins-one (cs ++ c ∷ []) ((cs ++ c ∷ []) ++ d ∷ []) d refl));
      inside = λ m. inside-both (length ns) (cs ++ c ∷ []) (d ∷ []) (inside-both (length ns) cs (c ∷ []) m (lh, tt)) (ll, tt);
    }

-- the same, with changes that cover these
pub changes-fewer : (ns ms : List Node) (bs cs ds : List Change) → Changes ns bs ms cs → AreCovered cs ds → (AreInside (length ns) cs → AreInside (length ns) ds) → Changes ns bs ms ds
changes-fewer ns ms bs cs ds a e f = record {
  others = λ i. elim (a.others i) [ inl q ↦ inl q | inr m ↦ inr (has-covered (IsChange i (node_at ns i) (node_at ms i)) cs ds (change-earlier i (node_at ns i) (node_at ms i)) e m) ];
  covers = covered-then bs cs ds a.covers e;
  inside = λ m. f (a.inside m);
}
