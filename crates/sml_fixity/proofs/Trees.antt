-- What holds of every tree that obeys: its roles show no fault, and it is the only one with those roles.
use Rattle.std.proofs.Common.{◌≡◌, ◌⊎◌, inl, inr, ℕ, ◌<◌, Bool, true, false, List, [], ◌∷◌, ◌++◌, length, refl, sym, ap, ◌∙◌, arith, append_assoc, length-append}
use Rattle.std.proofs.lemmas.List.{append-nil, same_from_push}
use Rattle.sml_fixity.specs.declared.roles.Operator.{Operator}
use Rattle.sml_fixity.specs.declared.roles.Role.{Role}
use Rattle.sml_fixity.specs.declared.roles.Role.TheVariants.{Atom, Infix}
use Rattle.sml_fixity.specs.Infix.{Tree, Single, Applied, Joined, yield, EachOperator, IsSingle, level, side, StandsLeft, StandsRight, Obeys, EndsInOperator, StrayAt, NoneLooser, MixedAt, NoTree}

pub each_both : (P Q R : Operator → Type 0) → ((p : Operator) → P p → Q p → R p) → (t : Tree) → EachOperator P t → EachOperator Q t → EachOperator R t
each_both P Q R f (Single a) h k = tt
each_both P Q R f (Applied g x) h k = (each_both P Q R f g h.0 k.0, each_both P Q R f x h.1 k.1)
each_both P Q R f (Joined o l r) h k =
    (f o h.0 k.0, each_both P Q R f l h.1 k.1, each_both P Q R f r h.2 k.2)

pub each_weaker : (P Q : Operator → Type 0) → ((p : Operator) → P p → Q p) → (t : Tree) → EachOperator P t → EachOperator Q t
each_weaker P Q f t h = each_both P P Q (λ p a b. f p a) t h h

pub each_all : (P : Operator → Type 0) → ((p : Operator) → P p) → (t : Tree) → EachOperator P t
each_all P f (Single a) = tt
each_all P f (Applied g x) = (each_all P f g, each_all P f x)
each_all P f (Joined o l r) = (f o, each_all P f l, each_all P f r)

-- operators of p's level have p's side
Agrees : Operator → Operator → Type 0
Agrees p q = level p ≡ level q → side p ≡ side q

-- the operators that follow p agree with it, up to the first looser one
Guard : Operator → List Role → Type 0
Guard p [] = Unit {0}
Guard p (Atom a ∷ xs) = Guard p xs
Guard p (Infix q ∷ xs) = (level q < level p) ⊎ (Agrees p q × Guard p xs)

Free : List Role → Type 0
Free [] = Unit {0}
Free (Atom a ∷ xs) = Free xs
Free (Infix p ∷ xs) = Guard p xs × Free xs

Guard-append : (p : Operator) (xs ys : List Role) → Guard p xs → Guard p ys → Guard p (xs ++ ys)
unfolding Guard
Guard-append p [] ys g h = h
Guard-append p (Atom a ∷ xs) ys g h = Guard-append p xs ys g h
Guard-append p (Infix q ∷ xs) ys g h =
    elim g [ inl l ↦ inl l | inr k ↦ inr (k.0, Guard-append p xs ys k.1 h) ]

Guard-tree : (p : Operator) (t : Tree) → EachOperator (Agrees p) t → Guard p (yield t)
unfolding Guard
Guard-tree p (Single a) h = tt
Guard-tree p (Applied f x) h = Guard-append p (yield f) (yield x) (Guard-tree p f h.0) (Guard-tree p x h.1)
Guard-tree p (Joined o l r) h =
    Guard-append p (yield l) (Infix o ∷ yield r) (Guard-tree p l h.1) (inr (h.0, Guard-tree p r h.2))

right_agrees : (o p : Operator) → StandsRight o p → Agrees o p
unfolding Agrees
right_agrees o p h e = elim h [ inl l ↦ absurd (omega arith) | inr k ↦ k.1 ∙ sym k.2 ]

-- after p, which stands in the left part of o, the right part of o
left_right : (o p q : Operator) → StandsLeft o p → StandsRight o q → (level o < level p) ⊎ Agrees p q
unfolding Agrees
left_right o p q h k = elim h [
  | inl l ↦ inl l
  | inr e ↦ inr (λ s. elim k [ inl l ↦ absurd (omega arith) | inr d ↦ cc ])
]

single_plain : (t : Tree) → IsSingle t → EachOperator (λ _. ⊥) t
single_plain (Single a) h = tt
single_plain (Applied f x) h = absurd h
single_plain (Joined o l r) h = absurd h

Guard-left : (o p : Operator) (r : Tree) (rest : List Role) → StandsLeft o p → EachOperator (StandsRight o) r → Guard p rest → Guard p (Infix o ∷ (yield r ++ rest))
unfolding Guard Agrees
Guard-left o p r rest h k g = elim h [
  | inl l ↦ inl l
  | inr e ↦ inr (
    λ s. e.2 ∙ sym e.1,
    Guard-append p (yield r) rest (Guard-tree p r (each_weaker (StandsRight o) (Agrees p) (λ q w s. elim w [ inl l ↦ absurd (omega arith) | inr d ↦ cc ]) r k)) g,
  )
]

Free-plain : (t : Tree) (rest : List Role) → EachOperator (λ _. ⊥) t → Free rest → Free (yield t ++ rest)
unfolding Free
Free-plain (Single a) rest h f = f
Free-plain (Applied g x) rest h f =
    rw append_assoc (Free-plain g (yield x ++ rest) h.0 (Free-plain x rest h.1 f))
Free-plain (Joined o l r) rest h f = absurd h.0

Free-append : (t : Tree) (rest : List Role) → Obeys t → EachOperator (λ p. Guard p rest) t → Free rest → Free (yield t ++ rest)
unfolding Free Guard
Free-append (Single a) rest ob g f = f
Free-append (Applied h x) rest ob g f =
    rw append_assoc (Free-plain h (yield x ++ rest) ob.1 (Free-plain x rest (single_plain x ob.2) f))
Free-append (Joined o l r) rest ob g f =
    let rest_free : Free (yield r ++ rest) = Free-append r rest ob.1 g.2 f in
    let guard : Guard o (yield r ++ rest) =
    Guard-append o (yield r) rest (Guard-tree o r (each_weaker (StandsRight o) (Agrees o) (right_agrees o) r ob.3)) g.0 in
    let each : EachOperator (λ p. Guard p (Infix o ∷ (yield r ++ rest))) l =
    each_both (StandsLeft o) (λ p. Guard p rest) (λ p. Guard p (Infix o ∷ (yield r ++ rest))) (λ p a b. Guard-left o p r rest a ob.3 b) l ob.2 g.1 in
    rw append_assoc (Free-append l (Infix o ∷ (yield r ++ rest)) ob.0 each (guard, rest_free))

Free-yield : (t : Tree) → Obeys t → Free (yield t)
unfolding Free Guard
Free-yield t ob =
    rw append-nil at (Free-append t [] ob (each_all (λ p. Guard p []) (λ p. tt) t) tt)

Free-drop : (xs ys : List Role) → Free (xs ++ ys) → Free ys
unfolding Free
Free-drop [] ys f = f
Free-drop (Atom a ∷ xs) ys f = Free-drop xs ys f
Free-drop (Infix q ∷ xs) ys f = Free-drop xs ys f.1

Guard-reaches : (p q : Operator) (between after : List Role) → Guard p (between ++ Infix q ∷ after) → NoneLooser p between → level p ≡ level q → side p ≡ side q
unfolding Guard Agrees
Guard-reaches p q [] after g n e = elim g [ inl l ↦ absurd (omega arith) | inr k ↦ k.0 e ]
Guard-reaches p q (Atom a ∷ between) after g n e = Guard-reaches p q between after g n e
Guard-reaches p q (Infix m ∷ between) after g n e =
    elim g [ inl l ↦ absurd (omega (arith, n.0)) | inr k ↦ Guard-reaches p q between after k.1 n.1 e ]

not_mixed : (xs : List Role) (place : ℕ) → Free xs → MixedAt xs place → ⊥
unfolding Free
not_mixed xs place f m =
    let c = m.clash in
    let e : xs ≡ c.before ++ Infix c.earlier ∷ (c.between ++ Infix m.operator ∷ m.after) =
    m.split ∙ ap (λ (w : List Role). w ++ Infix m.operator ∷ m.after) c.split ∙ append_assoc c.before (Infix c.earlier ∷ c.between) (Infix m.operator ∷ m.after) in
    let g = Free-drop c.before (Infix c.earlier ∷ (c.between ++ Infix m.operator ∷ m.after)) (rw e at f) in
    c.other_side (Guard-reaches c.earlier m.operator c.between m.after g.0 c.none_looser c.same_level)

-- operands and operators take turns as they do in a tree; the `Bool` says that the role before is an operand
Alternates : List Role → Bool → Type 0
Alternates [] true = Unit {0}
Alternates [] false = ⊥
Alternates (Atom a ∷ xs) b = Alternates xs true
Alternates (Infix q ∷ xs) true = Alternates xs false
Alternates (Infix q ∷ xs) false = ⊥

Alternates-append : (t : Tree) (rest : List Role) (b : Bool) → Alternates rest true → Alternates (yield t ++ rest) b
unfolding Alternates
Alternates-append (Single a) rest b h = h
Alternates-append (Applied f x) rest b h =
    rw append_assoc (Alternates-append f (yield x ++ rest) b (Alternates-append x rest true h))
Alternates-append (Joined o l r) rest b h =
    rw append_assoc (Alternates-append l (Infix o ∷ (yield r ++ rest)) b (Alternates-append r rest false h))

Alternates-yield : (t : Tree) → Alternates (yield t) false
unfolding Alternates
Alternates-yield t = rw append-nil at (Alternates-append t [] false tt)

Alternates-last : (before : List Role) (q : Operator) (b : Bool) → Alternates (before ++ Infix q ∷ []) b → ⊥
unfolding Alternates
Alternates-last [] q true h = h
Alternates-last [] q false h = h
Alternates-last (Atom a ∷ xs) q b h = Alternates-last xs q true h
Alternates-last (Infix p ∷ xs) q true h = Alternates-last xs q false h
Alternates-last (Infix p ∷ xs) q false h = h

Alternates-twice : (front : List Role) (p q : Operator) (after : List Role) (b : Bool) → Alternates (front ++ Infix p ∷ Infix q ∷ after) b → ⊥
unfolding Alternates
Alternates-twice [] p q after true h = h
Alternates-twice [] p q after false h = h
Alternates-twice (Atom a ∷ xs) p q after b h = Alternates-twice xs p q after true h
Alternates-twice (Infix o ∷ xs) p q after true h = Alternates-twice xs p q after false h
Alternates-twice (Infix o ∷ xs) p q after false h = h

not_stray : (xs : List Role) (place : ℕ) → Alternates xs false → StrayAt xs place → ⊥
unfolding Alternates
not_stray xs place a s =
    let b = rw s.split at a in
    elim s.stray [
      | inl e ↦ (rw e at b)
      | inr d ↦ elim d [
        | inl e ↦ Alternates-last s.before s.operator false (rw e at b)
        | inr e ↦ Alternates-twice e.0 e.1 s.operator s.after false (let w = rw e.2 at b in rw append_assoc at w)
      ]
    ]

-- the roles of a tree that obeys have no fault
pub sound_roles : (t : Tree) (xs : List Role) → Obeys t → yield t ≡ xs → (place : ℕ) → (¬ StrayAt xs place) × (¬ MixedAt xs place)
sound_roles t xs ob e place =
    (λ s. not_stray xs place (rw e at (Alternates-yield t)) s, λ m. not_mixed xs place (rw e at (Free-yield t ob)) m)

pub stray_no_tree : (xs : List Role) (place : ℕ) → StrayAt xs place → NoTree xs
stray_no_tree xs place s t e ob = (sound_roles t xs ob e place).0 s

pub mixed_no_tree : (xs : List Role) (place : ℕ) → MixedAt xs place → NoTree xs
mixed_no_tree xs place m t e ob = (sound_roles t xs ob e place).1 m

-- two ways to cut one list at an role
Ways : (xs ys us vs : List Role) (a b : Role) → Type 0
Ways xs ys us vs a b =
    ((xs ≡ us) × (a ≡ b) × (ys ≡ vs)) ⊎ (((m : List Role) × (us ≡ xs ++ a ∷ m) × (ys ≡ m ++ b ∷ vs)) ⊎ ((m : List Role) × (xs ≡ us ++ b ∷ m) × (vs ≡ m ++ a ∷ ys)))

cuts : (xs ys us vs : List Role) (a b : Role) → xs ++ a ∷ ys ≡ us ++ b ∷ vs → Ways xs ys us vs a b
unfolding Ways
cuts [] ys [] vs a b e = inl (refl, (cc), (cc))
cuts [] ys (u ∷ us) vs a b e = inr (inl (us, (cc), (cc)))
cuts (x ∷ xs) ys [] vs a b e = inr (inr (xs, (cc), (cc)))
cuts (x ∷ xs) ys (u ∷ us) vs a b e =
    let same : x ≡ u = cc in
    let rest : xs ++ a ∷ ys ≡ us ++ b ∷ vs = cc in
    elim (cuts xs ys us vs a b rest) [
      | inl w ↦ inl ((cc), w.1, w.2)
      | inr d ↦ elim d [ inl w ↦ inr (inl (w.0, (cc), w.2)) | inr w ↦ inr (inr (w.0, (cc), w.2)) ]
    ]

EachIn : (Operator → Type 0) → List Role → Type 0
EachIn P [] = Unit {0}
EachIn P (Atom a ∷ xs) = EachIn P xs
EachIn P (Infix q ∷ xs) = P q × EachIn P xs

EachIn-append : (P : Operator → Type 0) (xs ys : List Role) → EachIn P xs → EachIn P ys → EachIn P (xs ++ ys)
unfolding EachIn
EachIn-append P [] ys h k = k
EachIn-append P (Atom a ∷ xs) ys h k = EachIn-append P xs ys h k
EachIn-append P (Infix q ∷ xs) ys h k = (h.0, EachIn-append P xs ys h.1 k)

EachIn-yield : (P : Operator → Type 0) (t : Tree) → EachOperator P t → EachIn P (yield t)
unfolding EachIn
EachIn-yield P (Single a) h = tt
EachIn-yield P (Applied f x) h =
    EachIn-append P (yield f) (yield x) (EachIn-yield P f h.0) (EachIn-yield P x h.1)
EachIn-yield P (Joined o l r) h =
    EachIn-append P (yield l) (Infix o ∷ yield r) (EachIn-yield P l h.1) (h.0, EachIn-yield P r h.2)

EachIn-at : (P : Operator → Type 0) (before after : List Role) (q : Operator) → EachIn P (before ++ Infix q ∷ after) → P q
unfolding EachIn
EachIn-at P [] after q h = h.0
EachIn-at P (Atom a ∷ before) after q h = EachIn-at P before after q h
EachIn-at P (Infix p ∷ before) after q h = EachIn-at P before after q h.1

each_at : (P : Operator → Type 0) (t : Tree) (before after : List Role) (q : Operator) → EachOperator P t → yield t ≡ before ++ Infix q ∷ after → P q
each_at P t before after q h e = EachIn-at P before after q (rw e at (EachIn-yield P t h))

sides_clash : (o p : Operator) → StandsLeft o p → StandsRight p o → ⊥
sides_clash o p h k = elim h [
  | inl l ↦ elim k [ inl m ↦ omega arith | inr m ↦ omega arith ]
  | inr l ↦ elim k [ inl m ↦ omega arith | inr m ↦ cc ]
]

pub yield_some : (t : Tree) → 0 < length (yield t)
yield_some (Single a) = omega arith
yield_some (Applied f x) = omega (arith, length-append (yield f) (yield x), yield_some f)
yield_some (Joined o l r) = omega (arith, length-append (yield l) (Infix o ∷ yield r), yield_some l)

single_is : (t : Tree) → IsSingle t → (a : ℕ) × (t ≡ Single a)
single_is (Single a) h = (a, refl)
single_is (Applied f x) h = absurd h
single_is (Joined o l r) h = absurd h

not_longer : (a : ℕ) (t u : Tree) → Atom a ∷ [] ≡ yield t ++ yield u → ⊥
not_longer a t u e =
    omega (arith, ap length e, length-append (yield t) (yield u), yield_some t, yield_some u)

not_with_operator : (a : ℕ) (o : Operator) (l r : Tree) → Atom a ∷ [] ≡ yield l ++ Infix o ∷ yield r → ⊥
not_with_operator a o l r e =
    omega (arith, ap length e, length-append (yield l) (Infix o ∷ yield r), yield_some l)

not_applied : (f x : Tree) (o : Operator) (l r : Tree) → Obeys (Applied f x) → yield f ++ yield x ≡ yield l ++ Infix o ∷ yield r → ⊥
not_applied f x o l r ob e =
    each_at (λ _. ⊥) (Applied f x) (yield l) (yield r) o (ob.1, single_plain x ob.2) e

-- at most one tree with given roles obeys
pub same_tree : (t u : Tree) → Obeys t → Obeys u → yield t ≡ yield u → t ≡ u
unfolding Ways
same_tree (Single a) (Single b) h k e = cc
same_tree (Single a) (Applied g y) h k e = absurd (not_longer a g y e)
same_tree (Single a) (Joined q m s) h k e = absurd (not_with_operator a q m s e)
same_tree (Applied f x) (Single b) h k e = absurd (not_longer b f x (sym e))
same_tree (Applied f x) (Applied g y) h k e =
    let a = single_is x h.2 in
    let b = single_is y k.2 in
    let ends : yield f ++ Atom a.0 ∷ [] ≡ yield g ++ Atom b.0 ∷ [] =
    ap (λ (w : Tree). yield f ++ yield w) (sym a.1) ∙ e ∙ ap (λ (w : Tree). yield g ++ yield w) b.1 in
    let both = same_from_push (yield f) (yield g) (Atom a.0) (Atom b.0) ends in
    let front = same_tree f g h.0 k.0 both.0 in
    let last : a.0 ≡ b.0 = cc in
    cc
same_tree (Applied f x) (Joined q m s) h k e = absurd (not_applied f x q m s h e)
same_tree (Joined o l r) (Single b) h k e = absurd (not_with_operator b o l r (sym e))
same_tree (Joined o l r) (Applied g y) h k e = absurd (not_applied g y o l r k (sym e))
same_tree (Joined o l r) (Joined q m s) h k e =
    elim (cuts (yield l) (yield r) (yield m) (yield s) (Infix o) (Infix q) e) [
      | inl w ↦ (
          let left = same_tree l m h.0 k.0 w.0 in
          let right = same_tree r s h.1 k.1 w.2 in
          let middle : o ≡ q = cc in
          cc)
      | inr d ↦ elim d [
        | inl w ↦ absurd (sides_clash q o (each_at (StandsLeft q) m (yield l) w.0 o k.2 w.1) (each_at (StandsRight o) r w.0 (yield s) q h.3 w.2))
        | inr w ↦ absurd (sides_clash o q (each_at (StandsLeft o) l (yield m) w.0 q h.2 w.1) (each_at (StandsRight q) s w.0 (yield r) o k.3 w.2))
      ]
    ]

pub yield_ends : (t : Tree) → EndsInOperator (yield t) → ⊥
yield_ends t e = Alternates-last e.0 e.1 false (rw e.2 at (Alternates-yield t))
