-- Which types make one type another, by what the two are made of.
use Rattle.std.proofs.Common.{◌≡◌, ◌≤◌, ℕ, zero, suc, ◌<◌, ◌+◌, Bool, true, false, not, ◌||◌, List, [], ◌∷◌, ◌++◌, length, take, get_or, refl, sym, ap, subst, ◌∙◌, arith, Global}
use Rattle.std.proofs.lemmas.Bool.{or_parts}
use Rattle.std.proofs.lemmas.List.{get_or-map, take_all, take_more}
use Rattle.std.specs.declared.rc.Rc.{Rc}
use mathlib.Core.Bool.{true≢false}
use Rattle.sml_tree.specs.Trees.{Id}
use Rattle.sml_objects.specs.Initial.{Name}
use Rattle.sml_objects.specs.Objects.{MlType, MlTypes, Head, bound, free, app, arrow, row, name, no_type, and_type, arrow_of, types_of}
use Rattle.sml_objects.specs.Types.{instance_from, replace_type, replace_types}
use Rattle.sml_objects.specs.Views.{type_of}
use Rattle.sml_objects.specs.declared.objects.MlType as P
use Rattle.sml_objects.proofs.SameTypes.{kind}
use Rattle.sml_objects.proofs.TypeViews.{parts_of}
use Rattle.sml_core_rules.specs.Values.{has_unknown, have_unknown}
use Rattle.sml_graph.specs.Interned.{IsBodyOver, AreBodiesOver}
use Rattle.sml_match.specs.declared.general.VariableImage.{VariableImage}
use Rattle.sml_match.specs.General.{MakeOne, MakeAll, AreKnown, equalities, Becomes}
use Rattle.sml_match.proofs.Becoming.{becomes-as, becomes-then, becomes-not, becomes-never, becomes-nothing, becomes-less}

abbrev Types : Type 0
Types = ℕ → MlType Name

-- heads

heads-same : (h g : Head Name) (ts us : MlTypes Name) (f : Types) → MakeOne (app h ts) (app g us) f → h ≡ g
unfolding replace_type
heads-same h g ts us f e = cc

pub kinds-differ : (t u : MlType Name) (f : Types) → ¬ (kind t ≡ 0) → ¬ (kind t ≡ 1) → ¬ (kind u ≡ kind t) → MakeOne t u f → ⊥
unfolding replace_type
kinds-differ (bound k) u f b v n e = b refl
kinds-differ (free w) u f b v n e = v refl
kinds-differ (app h ts) (bound k) f b v n e = absurd cc
kinds-differ (app h ts) (free w) f b v n e = absurd cc
kinds-differ (app h ts) (app g us) f b v n e = n (kinds h g (heads-same h g ts us f e))
  where
    kinds : (h g : Head Name) → h ≡ g → kind (app g us) ≡ kind (app h ts)
    kinds arrow arrow e = refl
    kinds arrow (row ls) e = absurd cc
    kinds arrow (name n) e = absurd cc
    kinds (row ls) arrow e = absurd cc
    kinds (row ls) (row ms) e = refl
    kinds (row ls) (name n) e = absurd cc
    kinds (name n) arrow e = absurd cc
    kinds (name n) (row ls) e = absurd cc
    kinds (name n) (name m) e = refl

-- lists

all-length : (xs ys : List (MlType Name)) (f : Types) → MakeAll (types_of xs) (types_of ys) f → length xs ≡ length ys
unfolding replace_type
all-length [] [] f e = refl
all-length [] (y ∷ ys) f e = absurd cc
all-length (x ∷ xs) [] f e = absurd cc
all-length (x ∷ xs) (y ∷ ys) f e =
    let r : replace_types f free (types_of xs) ≡ replace_types (λ k. free (0 + k)) free (types_of ys) = cc in ap suc (all-length xs ys f r)

all-take : (xs ys : List (MlType Name)) (n : ℕ) (f : Types) → MakeAll (types_of xs) (types_of ys) f → MakeAll (types_of (take n xs)) (types_of (take n ys)) f
unfolding replace_type
all-take [] [] n f e = none n
  where
    none : (n : ℕ) → MakeAll (types_of (take n [])) (types_of (take n [])) f
    none zero = refl
    none (suc n) = refl
all-take [] (y ∷ ys) n f e = absurd cc
all-take (x ∷ xs) [] n f e = absurd cc
all-take (x ∷ xs) (y ∷ ys) zero f e = refl
all-take (x ∷ xs) (y ∷ ys) (suc n) f e =
    let h : replace_type f free x ≡ replace_type (λ k. free (0 + k)) free y = cc in
    let r : replace_types f free (types_of xs) ≡ replace_types (λ k. free (0 + k)) free (types_of ys) = cc in
    let q = all-take xs ys n f r in λ k. and_type (h k) (q k)

all-and : (xs ys : List (MlType Name)) (x y : MlType Name) (f : Types) → MakeAll (types_of xs) (types_of ys) f → MakeOne x y f → MakeAll (types_of (xs ++ x ∷ [])) (types_of (ys ++ y ∷ [])) f
unfolding replace_type
all-and [] [] x y f e h = λ k. and_type (h k) no_type
all-and [] (z ∷ ys) x y f e h = absurd cc
all-and (z ∷ xs) [] x y f e h = absurd cc
all-and (w ∷ xs) (z ∷ ys) x y f e h =
    let i : replace_type f free w ≡ replace_type (λ k. free (0 + k)) free z = cc in
    let r : replace_types f free (types_of xs) ≡ replace_types (λ k. free (0 + k)) free (types_of ys) = cc in
    let q = all-and xs ys x y f r h in λ k. and_type (i k) (q k)

and-all : (xs ys : List (MlType Name)) (x y : MlType Name) (f : Types) → length xs ≡ length ys → MakeAll (types_of (xs ++ x ∷ [])) (types_of (ys ++ y ∷ [])) f → MakeAll (types_of xs) (types_of ys) f × MakeOne x y f
unfolding replace_type
and-all [] [] x y f l e = (refl, cc)
and-all [] (z ∷ ys) x y f l e = absurd (omega (arith, l))
and-all (z ∷ xs) [] x y f l e = absurd (omega (arith, l))
and-all (w ∷ xs) (z ∷ ys) x y f l e =
    let i : replace_type f free w ≡ replace_type (λ k. free (0 + k)) free z = cc in
    let r : replace_types f free (types_of (xs ++ x ∷ [])) ≡ replace_types (λ k. free (0 + k)) free (types_of (ys ++ y ∷ [])) = cc in
    let d = and-all xs ys x y f (omega (arith, l)) r in (let q = d.0 in λ k. and_type (i k) (q k), d.1)

bodies-at : (b : ℕ) (xs : List (MlType Name)) (i : ℕ) (d : MlType Name) → i < length xs → AreBodiesOver b 0 (types_of xs) → IsBodyOver b 0 (get_or xs i d)
unfolding IsBodyOver
bodies-at b [] i d l h = absurd (omega (arith, l))
bodies-at b (x ∷ xs) zero d l h = h.0
bodies-at b (x ∷ xs) (suc i) d l h = bodies-at b xs i d (omega (arith, l)) h.1

known-at : (xs : List (MlType Name)) (i : ℕ) (d : MlType Name) → i < length xs → have_unknown (types_of xs) ≡ false → has_unknown (get_or xs i d) ≡ false
unfolding has_unknown
known-at [] i d l h = absurd (omega (arith, l))
known-at (x ∷ xs) zero d l h = (or_parts (has_unknown x) (have_unknown (types_of xs)) h).0
known-at (x ∷ xs) (suc i) d l h = known-at xs i d (omega (arith, l)) (or_parts (has_unknown x) (have_unknown (types_of xs)) h).1

length-taken : (xs ys : List (MlType Name)) (i : ℕ) → length xs ≡ length ys → length (take i xs) ≡ length (take i ys)
length-taken [] [] i l = refl
length-taken [] (y ∷ ys) i l = absurd (omega (arith, l))
length-taken (x ∷ xs) [] i l = absurd (omega (arith, l))
length-taken (x ∷ xs) (y ∷ ys) zero l = refl
length-taken (x ∷ xs) (y ∷ ys) (suc i) l = ap suc (length-taken xs ys i (omega (arith, l)))

-- what a variable stands for, and types with heads

module _ (es : List Bool) (old new : List VariableImage) where
  pub bound-made : (t u : MlType Name) (k : ℕ) (b : Bool) → t ≡ bound k → Becomes es old (λ f. f k ≡ instance_from 0 u) b new → Becomes es old (MakeOne t u) b new
  unfolding replace_type
  bound-made t u k b e h = subst (λ t. Becomes es old (MakeOne t u) b new) (sym e) (becomes-as es (λ f. f k ≡ instance_from 0 u) (MakeOne (bound k) u) old new b (λ f s. s) (λ f s. s) h)

  pub app-made : (t u : MlType Name) (h : Head Name) (ts us : MlTypes Name) (b : Bool) → t ≡ app h ts → u ≡ app h us → Becomes es old (MakeAll ts us) b new → Becomes es old (MakeOne t u) b new
  unfolding replace_type
  app-made t u h ts us b e g k =
      subst (λ t. Becomes es old (MakeOne t u) b new) (sym e)
      (subst (λ u. Becomes es old (MakeOne (app h ts) u) b new) (sym g) (becomes-as es (MakeAll ts us) (MakeOne (app h ts) (app h us)) old new b (λ f s. ap (app h) s) (λ f s. cc) k))

  pub arrow-made : (t u a c d z : MlType Name) (b : Bool) → t ≡ arrow_of a c → u ≡ arrow_of d z → Becomes es old (λ f. MakeOne a d f × MakeOne c z f) b new → Becomes es old (MakeOne t u) b new
  unfolding replace_type
  arrow-made t u a c d z b e g k =
      subst (λ t. Becomes es old (MakeOne t u) b new) (sym e)
      (subst (λ u. Becomes es old (MakeOne (arrow_of a c) u) b new) (sym g)
      (becomes-as es (λ f. MakeOne a d f × MakeOne c z f) (MakeOne (arrow_of a c) (arrow_of d z)) old new b (λ f s. let p = s.0 in let q = s.1 in λ i. arrow_of (p i) (q i)) (λ f s. (cc, cc)) k))

module _ (es : List Bool) (old : List VariableImage) (t u : MlType Name) where
  pub never-kinds : ¬ (kind t ≡ 0) → ¬ (kind t ≡ 1) → ¬ (kind u ≡ kind t) → Becomes es old (MakeOne t u) false old
  never-kinds b v n = becomes-never es (MakeOne t u) old (λ f s. kinds-differ t u f b v n s)

  pub never-heads : (h g : Head Name) (ts us : MlTypes Name) → t ≡ app h ts → u ≡ app g us → ¬ (h ≡ g) → Becomes es old (MakeOne t u) false old
  never-heads h g ts us e k n =
      becomes-never es (MakeOne t u) old (λ f s. n (heads-same h g ts us f (subst (λ u. MakeOne (app h ts) u f) k (subst (λ t. MakeOne t u f) e s))))

-- lists, one type after the other

abbrev Pointers : Type 0
Pointers = List (Rc P.MlType Global)

length-parts : (ts : Pointers) → length (parts_of ts) ≡ length ts
length-parts [] = refl
length-parts (t ∷ ts) = ap suc (length-parts ts)

pub part-is : (ts : Pointers) (i : ℕ) (r : Rc P.MlType Global) → i < length ts → r ≡ get_or ts i r → get_or (parts_of ts) i (type_of r.value) ≡ type_of r.value
part-is ts i r l e = get_or-map (λ (t : Rc P.MlType Global). type_of t.value) ts i r (type_of r.value) l ∙ ap (λ (t : Rc P.MlType Global). type_of t.value) (sym e)

pub part-over : (b : ℕ) (ts : Pointers) (i : ℕ) (r : Rc P.MlType Global) → i < length ts → r ≡ get_or ts i r → AreBodiesOver b 0 (types_of (parts_of ts)) → IsBodyOver b 0 (type_of r.value)
part-over b ts i r l e h = subst (IsBodyOver b 0) (part-is ts i r l e) (bodies-at b (parts_of ts) i (type_of r.value) (subst (λ n. i < n) (sym (length-parts ts)) l) h)

pub part-known : (ts : Pointers) (i : ℕ) (r : Rc P.MlType Global) → i < length ts → r ≡ get_or ts i r → have_unknown (types_of (parts_of ts)) ≡ false → has_unknown (type_of r.value) ≡ false
part-known ts i r l e h = subst (λ t. has_unknown t ≡ false) (part-is ts i r l e) (known-at (parts_of ts) i (type_of r.value) (subst (λ n. i < n) (sym (length-parts ts)) l) h)

taken : (ts : Pointers) (i : ℕ) (r : Rc P.MlType Global) → i < length ts → r ≡ get_or ts i r → take (i + 1) (parts_of ts) ≡ take i (parts_of ts) ++ type_of r.value ∷ []
taken ts i r l e = take_more (parts_of ts) i (type_of r.value) (subst (λ n. i < n) (sym (length-parts ts)) l) ∙ ap (λ t. take i (parts_of ts) ++ t ∷ []) (part-is ts i r l e)

module _ (es : List Bool) (old : List VariableImage) (ts us : Pointers) where
  abbrev pub MakeFirst : ℕ → Types → Type 0
  MakeFirst i f = MakeAll (types_of (take i (parts_of ts))) (types_of (take i (parts_of us))) f

  pub none-made : Becomes es old (MakeFirst 0) true old
  unfolding replace_type
  none-made = becomes-nothing es (MakeFirst 0) old (λ f. refl)

  pub never-lengths : ¬ (length ts ≡ length us) → Becomes es old (MakeAll (types_of (parts_of ts)) (types_of (parts_of us))) false old
  never-lengths n =
      becomes-never es (MakeAll (types_of (parts_of ts)) (types_of (parts_of us))) old (λ f s. n (sym (length-parts ts) ∙ all-length (parts_of ts) (parts_of us) f s ∙ length-parts us))

  module _ (lens : length ts ≡ length us) (mid new : List VariableImage) (i : ℕ) (r q : Rc P.MlType Global) (l : i < length ts) (m : i < length us) (e : r ≡ get_or ts i r) (k : q ≡ get_or us i q) where
    both : (f : Types) → MakeFirst i f × MakeOne (type_of r.value) (type_of q.value) f → MakeFirst (i + 1) f
    both f s =
        subst (λ xs. MakeAll (types_of xs) (types_of (take (i + 1) (parts_of us))) f) (sym (taken ts i r l e))
        (subst (λ ys. MakeAll (types_of (take i (parts_of ts) ++ type_of r.value ∷ [])) (types_of ys) f) (sym (taken us i q m k))
        (all-and (take i (parts_of ts)) (take i (parts_of us)) (type_of r.value) (type_of q.value) f s.0 s.1))

    apart : (f : Types) → MakeFirst (i + 1) f → MakeFirst i f × MakeOne (type_of r.value) (type_of q.value) f
    apart f s =
        and-all (take i (parts_of ts)) (take i (parts_of us)) (type_of r.value) (type_of q.value) f
        (length-taken (parts_of ts) (parts_of us) i (length-parts ts ∙ lens ∙ sym (length-parts us)))
        (subst (λ ys. MakeAll (types_of (take i (parts_of ts) ++ type_of r.value ∷ [])) (types_of ys) f) (taken us i q m k)
        (subst (λ xs. MakeAll (types_of xs) (types_of (take (i + 1) (parts_of us))) f) (taken ts i r l e) s))

    pub one-more : (b : Bool) → Becomes es old (MakeFirst i) true mid → Becomes es mid (MakeOne (type_of r.value) (type_of q.value)) b new → Becomes es old (MakeFirst (i + 1)) b new
    one-more b h g =
        becomes-as es (λ f. MakeFirst i f × MakeOne (type_of r.value) (type_of q.value) f) (MakeFirst (i + 1)) old new b both apart
        (becomes-then es (MakeFirst i) (MakeOne (type_of r.value) (type_of q.value)) old mid new b h g)

    pub not-more : Becomes es old (MakeFirst i) true mid → Becomes es mid (MakeOne (type_of r.value) (type_of q.value)) false new → Becomes es old (MakeAll (types_of (parts_of ts)) (types_of (parts_of us))) false new
    not-more h g =
        becomes-less es (MakeFirst (i + 1)) (MakeAll (types_of (parts_of ts)) (types_of (parts_of us))) old new (λ f s. all-take (parts_of ts) (parts_of us) (i + 1) f s) (one-more false h g)

  pub all-made : (mid : List VariableImage) (i : ℕ) → length ts ≤ i → length us ≤ i → Becomes es old (MakeFirst i) true mid → Becomes es old (MakeAll (types_of (parts_of ts)) (types_of (parts_of us))) true mid
  all-made mid i l m h =
      subst (λ xs. Becomes es old (MakeAll (types_of xs) (types_of (parts_of us))) true mid) (take_all i (parts_of ts) (subst (λ n. n ≤ i) (sym (length-parts ts)) l))
      (subst (λ ys. Becomes es old (MakeAll (types_of (take i (parts_of ts))) (types_of ys)) true mid) (take_all i (parts_of us) (subst (λ n. n ≤ i) (sym (length-parts us)) m)) h)

-- What is known of one type, where all before it were made.
length-equalities : (vs : List VariableImage) → length (equalities vs) ≡ length vs
length-equalities [] = refl
length-equalities (v ∷ vs) = ap suc (length-equalities vs)

pub length-kept : (old mid : List VariableImage) → equalities mid ≡ equalities old → length old ≡ length mid
length-kept old mid e = sym (length-equalities old) ∙ ap length (sym e) ∙ length-equalities mid

pub stepped : (es : List Bool) (A : Types → Type 0) (old mid new : List VariableImage) (t u x y : P.MlType) (b c : Bool) → x ≡ t → y ≡ u → AreKnown old → IsBodyOver (length old) 0 (type_of t) → has_unknown (type_of u) ≡ false
    → Becomes es old A true mid → (AreKnown mid → IsBodyOver (length mid) 0 (type_of x) → has_unknown (type_of y) ≡ false → Becomes es mid (MakeOne (type_of x) (type_of y)) b new) → b ≡ c
    → Becomes es mid (MakeOne (type_of t) (type_of u)) c new
stepped es A old mid new t u x y b c e g k o n h f is =
    subst (λ b. Becomes es mid (MakeOne (type_of t) (type_of u)) b new) is
    (subst (λ t. Becomes es mid (MakeOne (type_of t) (type_of u)) b new) e
    (subst (λ u. Becomes es mid (MakeOne (type_of x) (type_of u)) b new) g
    (f (h.known k refl) (subst (λ n. IsBodyOver n 0 (type_of x)) (length-kept old mid h.same) (subst (λ t. IsBodyOver (length old) 0 (type_of t)) (sym e) o)) (subst (λ u. has_unknown (type_of u) ≡ false) (sym g) n))))

pub row-same : {ls ms : List Id} → ◌≡◌ {A = Head Name} (row ls) (row ms) → ls ≡ ms
row-same e = cc

pub name-same : {n m : Name} → ◌≡◌ {A = Head Name} (name n) (name m) → n ≡ m
name-same e = cc

-- what is supposed of a type and asked of its parts

pub over-bound : (b : ℕ) (t : MlType Name) (k : ℕ) → t ≡ bound k → IsBodyOver b 0 t → k < b
unfolding IsBodyOver
over-bound b t k e h = subst (IsBodyOver b 0) e h

pub over-free : (b : ℕ) (t : MlType Name) (v : ℕ) → t ≡ free v → IsBodyOver b 0 t → ⊥
unfolding IsBodyOver
over-free b t v e h = let l : v < 0 = subst (IsBodyOver b 0) e h in absurd (omega (arith, l))

over-app : (b : ℕ) (t : MlType Name) (h : Head Name) (ts : MlTypes Name) → t ≡ app h ts → IsBodyOver b 0 t → AreBodiesOver b 0 ts
unfolding IsBodyOver
over-app b t h ts e o = subst (IsBodyOver b 0) e o

known-app : (t : MlType Name) (h : Head Name) (ts : MlTypes Name) → t ≡ app h ts → has_unknown t ≡ false → have_unknown ts ≡ false
unfolding has_unknown
known-app t h ts e n = subst (λ t. has_unknown t ≡ false) e n

over-arrow : (b : ℕ) (t a c : MlType Name) → t ≡ arrow_of a c → IsBodyOver b 0 t → IsBodyOver b 0 a × IsBodyOver b 0 c
unfolding IsBodyOver
over-arrow b t a c e h = let d = subst (IsBodyOver b 0) e h in (d.0, d.1.0)

known-arrow : (t a c : MlType Name) → t ≡ arrow_of a c → has_unknown t ≡ false → (has_unknown a ≡ false) × (has_unknown c ≡ false)
unfolding has_unknown
known-arrow t a c e h =
    let d = or_parts (has_unknown a) (has_unknown c || false) (subst (λ t. has_unknown t ≡ false) e h) in (d.0, (or_parts (has_unknown c) false d.1).0)

module _ (es : List Bool) (old mid new : List VariableImage) (t u : MlType Name) (k : AreKnown old) (o : IsBodyOver (length old) 0 t) (n : has_unknown u ≡ false) where
  pub parts-made : (h : Head Name) (ts us xs ys : Pointers) (b : Bool) → t ≡ app h (types_of (parts_of ts)) → u ≡ app h (types_of (parts_of us)) → xs ≡ ts → ys ≡ us
      → (AreKnown old → AreBodiesOver (length old) 0 (types_of (parts_of xs)) → have_unknown (types_of (parts_of ys)) ≡ false → Becomes es old (MakeAll (types_of (parts_of xs)) (types_of (parts_of ys))) b new)
      → Becomes es old (MakeOne t u) b new
  parts-made h ts us xs ys b e g x y f =
      app-made es old new t u h (types_of (parts_of ts)) (types_of (parts_of us)) b e g
      (subst (λ ts. Becomes es old (MakeAll (types_of (parts_of ts)) (types_of (parts_of us))) b new) x
      (subst (λ us. Becomes es old (MakeAll (types_of (parts_of xs)) (types_of (parts_of us))) b new) y
      (f k (subst (λ ts. AreBodiesOver (length old) 0 (types_of (parts_of ts))) (sym x) (over-app (length old) t h (types_of (parts_of ts)) e o))
      (subst (λ us. have_unknown (types_of (parts_of us)) ≡ false) (sym y) (known-app u h (types_of (parts_of us)) g n)))))

  module _ (a c d z : P.MlType) (e : t ≡ arrow_of (type_of a) (type_of c)) (g : u ≡ arrow_of (type_of d) (type_of z)) where
    -- the left sides, with what was answered of them
    left-made : (x y : P.MlType) (b r : Bool) → x ≡ a → y ≡ d
        → (AreKnown old → IsBodyOver (length old) 0 (type_of x) → has_unknown (type_of y) ≡ false → Becomes es old (MakeOne (type_of x) (type_of y)) b mid) → b ≡ r
        → Becomes es old (MakeOne (type_of a) (type_of d)) r mid
    left-made x y b r p q f is =
        subst (λ b. Becomes es old (MakeOne (type_of a) (type_of d)) b mid) is
        (subst (λ a. Becomes es old (MakeOne (type_of a) (type_of d)) b mid) p
        (subst (λ d. Becomes es old (MakeOne (type_of x) (type_of d)) b mid) q
        (f k (subst (λ a. IsBodyOver (length old) 0 (type_of a)) (sym p) (over-arrow (length old) t (type_of a) (type_of c) e o).0)
        (subst (λ d. has_unknown (type_of d) ≡ false) (sym q) (known-arrow u (type_of d) (type_of z) g n).0))))

    pub arrow-then : (x y v w : P.MlType) (b r : Bool) → x ≡ a → y ≡ d → v ≡ c → w ≡ z
        → (AreKnown old → IsBodyOver (length old) 0 (type_of x) → has_unknown (type_of y) ≡ false → Becomes es old (MakeOne (type_of x) (type_of y)) b mid) → b ≡ true
        → (AreKnown mid → IsBodyOver (length mid) 0 (type_of v) → has_unknown (type_of w) ≡ false → Becomes es mid (MakeOne (type_of v) (type_of w)) r new)
        → Becomes es old (MakeOne t u) r new
    arrow-then x y v w b r p q i j f is h =
        let l = left-made x y b true p q f is in
        arrow-made es old new t u (type_of a) (type_of c) (type_of d) (type_of z) r e g
        (becomes-then es (MakeOne (type_of a) (type_of d)) (MakeOne (type_of c) (type_of z)) old mid new r l
        (stepped es (MakeOne (type_of a) (type_of d)) old mid new c z v w r r i j k (over-arrow (length old) t (type_of a) (type_of c) e o).1 (known-arrow u (type_of d) (type_of z) g n).1 l h refl))

    pub arrow-else : (x y : P.MlType) (b : Bool) → x ≡ a → y ≡ d
        → (AreKnown old → IsBodyOver (length old) 0 (type_of x) → has_unknown (type_of y) ≡ false → Becomes es old (MakeOne (type_of x) (type_of y)) b mid) → b ≡ false
        → Becomes es old (MakeOne t u) b mid
    arrow-else x y b p q f is =
        subst (λ b. Becomes es old (MakeOne t u) b mid) (sym is)
        (arrow-made es old mid t u (type_of a) (type_of c) (type_of d) (type_of z) false e g
        (becomes-not es (MakeOne (type_of a) (type_of d)) (MakeOne (type_of c) (type_of z)) old mid (left-made x y b false p q f is)))

module _ (es : List Bool) (old : List VariableImage) (t u : MlType Name) where
  pub never-kind : (j : ℕ) → kind t ≡ j → 2 ≤ j → ¬ (kind u ≡ j) → Becomes es old (MakeOne t u) false old
  never-kind j e l n =
      never-kinds es old t u (λ z. let k : kind t ≡ 0 = z in absurd (omega (arith, e, k, l))) (λ z. let k : kind t ≡ 1 = z in absurd (omega (arith, e, k, l))) (λ z. n (z ∙ e))

  pub never-free : (v : ℕ) → t ≡ free v → IsBodyOver (length old) 0 t → Becomes es old (MakeOne t u) false old
  never-free v e o = absurd (over-free (length old) t v e o)

-- Without unknowns a type is ground.

mutual
  unfolding IsBodyOver has_unknown

  pub over-known : (b : ℕ) (t : MlType Name) → IsBodyOver b 0 t → has_unknown t ≡ false
  over-known b (bound k) h = refl
  over-known b (free v) h = absurd (omega (arith, h))
  over-known b (app c ts) h = all-over-known b ts h

  all-over-known : (b : ℕ) (ts : MlTypes Name) → AreBodiesOver b 0 ts → have_unknown ts ≡ false
  all-over-known b no_type h = refl
  all-over-known b (and_type t ts) h = λ i. over-known b t h.0 i || all-over-known b ts h.1 i

pub ground-not : (b : Bool) (t u : P.MlType) → b ≡ not (has_unknown (type_of t)) → t ≡ u → has_unknown (type_of u) ≡ false → b ≡ false → ⊥
ground-not b t u e g n f = true≢false (sym (ap not (ap (λ t. has_unknown (type_of t)) g ∙ n)) ∙ sym e ∙ f)
