-- What narrowing a column to a head does to the shapes that match.
use Rattle.std.proofs.Common.{◌≡◌, ℕ, zero, suc, ◌<◌, ◌⊎◌, inl, inr, List, [], ◌∷◌, ◌++◌, map, Option, Some, None, Bool, true, false, cond, IsTrue, refl, sym, subst}
use Rattle.std.specs.Str.{bytes_eq}
use Rattle.std.proofs.Math.Dec.{eqb}
use Rattle.std.proofs.lemmas.Bool.Decides.{eqb_tells}
use Rattle.sml_tree.specs.Trees.{Id}
use Rattle.sml_narrowing.specs.Plain.{Value, value_eq, Plain, Wild, Made, Fields, Valued, Row, field, IsWild}
use Rattle.sml_patterns.specs.Shape.{Shape, Cut, OfConstructor, OfRow, OfValue, Other, Matches, World, Column, Kind, Constructors, Labels, Values, Opaque, Part, PartConstructors, PartLabels, PartValues, PartOpaque, part, part_of, part_at, IsShape, Fits, FitsKind}
use Rattle.sml_narrowing.specs.CodeMatrix.{Head, AtConstructor, AtRow, AtValue, AtOther, field_in, wild_at, replace, onto}
use Rattle.sml_tree.proofs.Idents.{id_tells}
use Rattle.sml_patterns.proofs.Values.{value_tells}
use Rattle.sml_patterns.proofs.Labels.{IsIn, AreDistinct, AreIn, Sees, decide, field_absent}
use Rattle.sml_patterns.proofs.Vectors.{Shapes, End, Then, MatchEach, AreShapes, join, FitsColumn, FitEach, fit_glue, match_split, match_glue, wilds_match, wild_fits, wilds_fit, some_shape}

-- a level of a pattern has this kind
abbrev pub FitsPart : World → Part → Plain → Type 0
FitsPart w P Wild = Unit {0}
FitsPart w (PartConstructors n f) (Made j m q) = (m ≡ n) × (j < n) × FitsColumn w (f j) q
FitsPart w (PartConstructors n f) (Fields fs) = ⊥
FitsPart w (PartConstructors n f) (Valued v p) = ⊥
FitsPart w (PartLabels f) (Made j m q) = ⊥
FitsPart w (PartLabels f) (Fields fs) = (l : Id) → FitsColumn w (f l) (field l fs)
FitsPart w (PartLabels f) (Valued v p) = ⊥
FitsPart w (PartValues f) (Made j m q) = ⊥
FitsPart w (PartValues f) (Fields fs) = ⊥
FitsPart w (PartValues f) (Valued v p) = IsTrue (w.written v) × FitsColumn w (f v) p
FitsPart w PartOpaque (Made j m q) = ⊥
FitsPart w PartOpaque (Fields fs) = ⊥
FitsPart w PartOpaque (Valued v p) = ⊥

wild_part : (w : World) (P : Part) (l : Plain) → IsWild l → FitsPart w P l
wild_part w P Wild h = tt
wild_part w P (Made j m q) h = absurd h
wild_part w P (Fields fs) h = absurd h
wild_part w P (Valued v p) h = absurd h

kind_part : (w : World) (d : ℕ) (k : Kind) (l : Plain) → FitsKind w (Fits w d) k l → FitsPart w (part_at d k) l
kind_part w d k Wild h = tt
kind_part w d (Constructors n f) (Made j m q) h = h
kind_part w d (Constructors n f) (Fields fs) h = h
kind_part w d (Constructors n f) (Valued v p) h = h
kind_part w d (Labels f) (Made j m q) h = h
kind_part w d (Labels f) (Fields fs) h = h
kind_part w d (Labels f) (Valued v p) h = h
kind_part w d (Values f) (Made j m q) h = h
kind_part w d (Values f) (Fields fs) h = h
kind_part w d (Values f) (Valued v p) h = h
kind_part w d Opaque (Made j m q) h = h
kind_part w d Opaque (Fields fs) h = h
kind_part w d Opaque (Valued v p) h = h

pub fits_part : (w : World) (d t : ℕ) (p : Plain) → Fits w d t p → FitsPart w (part_of w d t) p
fits_part w zero t p h = wild_part w PartOpaque p h
fits_part w (suc d) t p h = kind_part w d (w.kind t) p h

-- the head is one of this kind's, `AtOther` left out
abbrev pub Suits : World → Part → Head → Type 0
Suits w (PartConstructors n f) (AtConstructor k) = k < n
Suits w (PartConstructors n f) (AtRow ls) = ⊥
Suits w (PartConstructors n f) (AtValue v) = ⊥
Suits w (PartConstructors n f) AtOther = ⊥
Suits w (PartLabels f) (AtConstructor k) = ⊥
Suits w (PartLabels f) (AtRow ls) = AreDistinct ls
Suits w (PartLabels f) (AtValue v) = ⊥
Suits w (PartLabels f) AtOther = ⊥
Suits w (PartValues f) (AtConstructor k) = ⊥
Suits w (PartValues f) (AtRow ls) = ⊥
Suits w (PartValues f) (AtValue v) = IsTrue (w.written v)
Suits w (PartValues f) AtOther = ⊥
Suits w PartOpaque h = ⊥

-- the columns below the head
abbrev pub under : Part → Head → List Column
under (PartConstructors n f) (AtConstructor k) = f k ∷ []
under (PartConstructors n f) (AtRow ls) = []
under (PartConstructors n f) (AtValue v) = []
under (PartConstructors n f) AtOther = []
under (PartLabels f) (AtConstructor k) = []
under (PartLabels f) (AtRow ls) = map f ls
under (PartLabels f) (AtValue v) = []
under (PartLabels f) AtOther = []
under (PartValues f) (AtConstructor k) = []
under (PartValues f) (AtRow ls) = []
under (PartValues f) (AtValue v) = f v ∷ []
under (PartValues f) AtOther = []
under PartOpaque h = []

abbrev first_shape : Shapes → Shape
first_shape End = Cut
first_shape (Then s u) = s

-- some shape at each label, for labels that no pattern names
abbrev pub spare : World → Part → Id → Shape
spare w (PartConstructors n f) l = Cut
spare w (PartLabels f) l = (some_shape w (f l).depth (f l).type).0
spare w (PartValues f) l = Cut
spare w PartOpaque l = Cut

-- the shape that stands at a label, among those at these labels
abbrev pub look : List Id → Shapes → (Id → Shape) → Id → Shape
look [] u d l = d l
look (k ∷ ls) End d l = d l
look (k ∷ ls) (Then s u) d l = cond (bytes_eq k l) s (look ls u d l)

-- a shape with this head, over these
abbrev pub build : World → Part → Head → Shapes → Shape
build w P (AtConstructor k) u = OfConstructor k (first_shape u)
build w P (AtRow ls) u = OfRow (look ls u (spare w P))
build w P (AtValue v) u = OfValue v (first_shape u)
build w P AtOther u = Other

look_here : (k l : Id) (ls : List Id) (s : Shape) (u : Shapes) (d : Id → Shape) → k ≡ l → look (k ∷ ls) (Then s u) d l ≡ s
look_here k l ls s u d e =
    elim (id_tells k l) [
      | inl y ↦ subst (λ b. cond b s (look ls u d l) ≡ s) (sym y.0) refl
      | inr y ↦ absurd (y.1 e)
    ]

look_there : (k l : Id) (ls : List Id) (s : Shape) (u : Shapes) (d : Id → Shape) → (k ≡ l → ⊥) → look (k ∷ ls) (Then s u) d l ≡ look ls u d l
look_there k l ls s u d n =
    elim (id_tells k l) [
      | inl y ↦ absurd (n y.1)
      | inr y ↦ subst (λ b. cond b s (look ls u d l) ≡ look ls u d l) (sym y.0) refl
    ]

looked : (w : World) (f : Id → Column) (ls : List Id) (u : Shapes) → AreShapes w (map f ls) u → (l : Id) → IsShape w (part w (f l)) (look ls u (spare w (PartLabels f)) l)
looked w f [] u x l = (some_shape w (f l).depth (f l).type).1
looked w f (k ∷ ls) End x l = absurd x
looked w f (k ∷ ls) (Then s u) x l =
    let d = spare w (PartLabels f) in
    elim (id_tells k l) [
      | inl y ↦ subst (IsShape w (part w (f l))) (sym (look_here k l ls s u d y.1)) (subst (λ i. IsShape w (part w (f i)) s) y.1 x.0)
      | inr y ↦ subst (IsShape w (part w (f l))) (sym (look_there k l ls s u d y.1)) (looked w f ls u x.1 l)
    ]

pub build_shape : (w : World) (P : Part) (h : Head) (u : Shapes) → Suits w P h → AreShapes w (under P h) u → IsShape w P (build w P h u)
build_shape w (PartConstructors n f) (AtConstructor k) End h x = absurd x
build_shape w (PartConstructors n f) (AtConstructor k) (Then s u) h x = (h, x.0)
build_shape w (PartConstructors n f) (AtRow ls) u h x = absurd h
build_shape w (PartConstructors n f) (AtValue v) u h x = absurd h
build_shape w (PartConstructors n f) AtOther u h x = absurd h
build_shape w (PartLabels f) (AtConstructor k) u h x = absurd h
build_shape w (PartLabels f) (AtRow ls) u h x = looked w f ls u x
build_shape w (PartLabels f) (AtValue v) u h x = absurd h
build_shape w (PartLabels f) AtOther u h x = absurd h
build_shape w (PartValues f) (AtConstructor k) u h x = absurd h
build_shape w (PartValues f) (AtRow ls) u h x = absurd h
build_shape w (PartValues f) (AtValue v) End h x = absurd x
build_shape w (PartValues f) (AtValue v) (Then s u) h x = (h, x.0)
build_shape w (PartValues f) AtOther u h x = absurd h
build_shape w PartOpaque h u k x = absurd k

-- it holds of the list, and there is one
abbrev pub Kept : (List Plain → Type 0) → Option (List Plain) → Type 0
Kept Q None = ⊥
Kept Q (Some r) = Q r

-- it holds of the list, if there is one
abbrev pub IfKept : (List Plain → Type 0) → Option (List Plain) → Type 0
IfKept Q None = Unit {0}
IfKept Q (Some r) = Q r

-- no pattern that the head sees tells the shapes apart
abbrev pub Alike : Head → Shape → Shape → Type 0
Alike h s t = (p : Plain) → Sees h p → (Matches p s → Matches p t) × (Matches p t → Matches p s)

pub same_alike : (h : Head) (s t : Shape) → s ≡ t → Alike h s t
same_alike h s t e p i = (subst (Matches p) e, subst (Matches p) (sym e))

-- the shapes of a row at these labels
abbrev pub shapes_at : (Id → Shape) → List Id → Shapes
shapes_at g [] = End
shapes_at g (l ∷ ls) = Then (g l) (shapes_at g ls)

pub are_shapes_at : (w : World) (f : Id → Column) (g : Id → Shape) → ((l : Id) → IsShape w (part w (f l)) (g l)) → (ls : List Id) → AreShapes w (map f ls) (shapes_at g ls)
are_shapes_at w f g h [] = tt
are_shapes_at w f g h (l ∷ ls) = (h l, are_shapes_at w f g h ls)

look_at : (g d : Id → Shape) (ls : List Id) (l : Id) → IsIn l ls → look ls (shapes_at g ls) d l ≡ g l
look_at g d [] l i = absurd i
look_at g d (k ∷ ls) l i =
    elim (id_tells k l) [
      | inl y ↦ subst (λ x. look (k ∷ ls) (Then (g k) (shapes_at g ls)) d l ≡ g x) y.1 (look_here k l ls (g k) (shapes_at g ls) d y.1)
      | inr y ↦ subst (λ s. s ≡ g l) (sym (look_there k l ls (g k) (shapes_at g ls) d y.1)) (look_at g d ls l (rest y.1 i))
    ]
  where
    rest : (k ≡ l → ⊥) → IsIn l (k ∷ ls) → IsIn l ls
    rest n (inl e) = absurd (n e)
    rest n (inr j) = j

at_label : (g d : Id → Shape) (ls : List Id) (fs : Row) (l : Id) → AreIn fs ls → (Matches (field l fs) (g l) → Matches (field l fs) (look ls (shapes_at g ls) d l)) × (Matches (field l fs) (look ls (shapes_at g ls) d l) → Matches (field l fs) (g l))
at_label g d ls fs l i =
    elim (decide ls l) [
      | inl y ↦ (subst (Matches (field l fs)) (sym (look_at g d ls l y)), subst (Matches (field l fs)) (look_at g d ls l y))
      | inr y ↦ let e = sym (field_absent l ls fs i y) in (λ m. subst (λ p. Matches p (look ls (shapes_at g ls) d l)) e tt, λ m. subst (λ p. Matches p (g l)) e tt)
    ]

pub row_alike : (ls : List Id) (g d : Id → Shape) → Alike (AtRow ls) (OfRow g) (OfRow (look ls (shapes_at g ls) d))
row_alike ls g d Wild i = (λ m. tt, λ m. tt)
row_alike ls g d (Made k n p) i = (λ m. m, λ m. m)
row_alike ls g d (Fields fs) i =
    (λ m l. (at_label g d ls fs l i).0 (m l), λ m l. (at_label g d ls fs l i).1 (m l))
row_alike ls g d (Valued v p) i = (λ m. m, λ m. m)

module _ (w : World) (r : List Plain) (cs : List Column) where
  -- what is narrowed fits
  made_fits : (b : Bool) (c : Column) (q : Plain) → FitsColumn w c q → FitEach w cs r → IfKept (FitEach w (c ∷ cs)) (onto r (cond b (Some (q ∷ [])) None))
  made_fits true c q h k = (h, k)
  made_fits false c q h k = tt

  constructor_fits : (f : ℕ → Column) (k j : ℕ) (q : Plain) → FitsColumn w (f j) q → FitEach w cs r → IfKept (FitEach w (f k ∷ cs)) (onto r (replace (AtConstructor k) (Made j 0 q)))
  constructor_fits f k j q h x =
      elim (eqb_tells j k) [
        | inl y ↦ made_fits (eqb j k) (f k) q (subst (λ i. FitsColumn w (f i) q) y.1 h) x
        | inr y ↦ subst (λ b. IfKept (FitEach w (f k ∷ cs)) (onto r (cond b (Some (q ∷ [])) None))) (sym y.0) tt
      ]

  value_fits : (f : Value → Column) (v u : Value) (q : Plain) → FitsColumn w (f u) q → FitEach w cs r → IfKept (FitEach w (f v ∷ cs)) (onto r (replace (AtValue v) (Valued u q)))
  value_fits f v u q h x =
      elim (value_tells u v) [
        | inl y ↦ made_fits (value_eq u v) (f v) q (subst (λ i. FitsColumn w (f i) q) y.1 h) x
        | inr y ↦ subst (λ b. IfKept (FitEach w (f v ∷ cs)) (onto r (cond b (Some (q ∷ [])) None))) (sym y.0) tt
      ]

  fields_fit : (f : Id → Column) (fs : Row) → ((l : Id) → FitsColumn w (f l) (field l fs)) → (ls : List Id) → FitEach w (map f ls) (map (field_in fs) ls)
  fields_fit f fs h [] = tt
  fields_fit f fs h (l ∷ ls) = (h l, fields_fit f fs h ls)

  pub narrowed_fits : (P : Part) (h : Head) (l : Plain) → Suits w P h → FitsPart w P l → FitEach w cs r → IfKept (FitEach w (under P h ++ cs)) (onto r (replace h l))
  narrowed_fits (PartConstructors n f) (AtConstructor k) Wild s x y = (wild_fits w (f k).depth (f k).type, y)
  narrowed_fits (PartConstructors n f) (AtConstructor k) (Made j m q) s x y = constructor_fits f k j q x.2 y
  narrowed_fits (PartConstructors n f) (AtConstructor k) (Fields fs) s x y = absurd x
  narrowed_fits (PartConstructors n f) (AtConstructor k) (Valued v p) s x y = absurd x
  narrowed_fits (PartConstructors n f) (AtRow ls) l s x y = absurd s
  narrowed_fits (PartConstructors n f) (AtValue v) l s x y = absurd s
  narrowed_fits (PartConstructors n f) AtOther l s x y = absurd s
  narrowed_fits (PartLabels f) (AtConstructor k) l s x y = absurd s
  narrowed_fits (PartLabels f) (AtRow ls) Wild s x y = fit_glue w (map f ls) cs (map wild_at ls) r (wilds_fit w f ls) y
  narrowed_fits (PartLabels f) (AtRow ls) (Made j n q) s x y = absurd x
  narrowed_fits (PartLabels f) (AtRow ls) (Fields fs) s x y =
      fit_glue w (map f ls) cs (map (field_in fs) ls) r (fields_fit f fs x ls) y
  narrowed_fits (PartLabels f) (AtRow ls) (Valued v p) s x y = absurd x
  narrowed_fits (PartLabels f) (AtValue v) l s x y = absurd s
  narrowed_fits (PartLabels f) AtOther l s x y = absurd s
  narrowed_fits (PartValues f) (AtConstructor k) l s x y = absurd s
  narrowed_fits (PartValues f) (AtRow ls) l s x y = absurd s
  narrowed_fits (PartValues f) (AtValue v) Wild s x y = (wild_fits w (f v).depth (f v).type, y)
  narrowed_fits (PartValues f) (AtValue v) (Made j n q) s x y = absurd x
  narrowed_fits (PartValues f) (AtValue v) (Fields fs) s x y = absurd x
  narrowed_fits (PartValues f) (AtValue v) (Valued u q) s x y = value_fits f v u q x.1 y
  narrowed_fits (PartValues f) AtOther l s x y = absurd s
  narrowed_fits PartOpaque h l s x y = absurd s

  pub other_fits : (l : Plain) → FitEach w cs r → IfKept (FitEach w cs) (onto r (replace AtOther l))
  other_fits Wild y = y
  other_fits (Made j n q) y = tt
  other_fits (Fields fs) y = tt
  other_fits (Valued v p) y = tt

module _ (w : World) (r : List Plain) (x : Shapes) where
  -- what matches before the narrowing matches after it
  made_to : (k j : ℕ) (q : Plain) (s : Shape) → k ≡ j → Matches q s → MatchEach r x → Kept (λ t. MatchEach t (Then s x)) (onto r (cond (eqb j k) (Some (q ∷ [])) None))
  made_to k j q s h m n =
      elim (eqb_tells j k) [
        | inl y ↦ subst (λ b. Kept (λ t. MatchEach t (Then s x)) (onto r (cond b (Some (q ∷ [])) None))) (sym y.0) (m, n)
        | inr y ↦ absurd (y.1 (sym h))
      ]

  value_to : (v u : Value) (q : Plain) (s : Shape) → v ≡ u → Matches q s → MatchEach r x → Kept (λ t. MatchEach t (Then s x)) (onto r (cond (value_eq u v) (Some (q ∷ [])) None))
  value_to v u q s h m n =
      elim (value_tells u v) [
        | inl y ↦ subst (λ b. Kept (λ t. MatchEach t (Then s x)) (onto r (cond b (Some (q ∷ [])) None))) (sym y.0) (m, n)
        | inr y ↦ absurd (y.1 (sym h))
      ]

  fields_to : (f : Id → Column) (d : Id → Shape) (fs : Row) (ls : List Id) (u : Shapes) → AreDistinct ls → AreShapes w (map f ls) u → ((l : Id) → IsIn l ls → Matches (field l fs) (look ls u d l)) → MatchEach (map (field_in fs) ls) u
  fields_to f d fs [] End i h m = tt
  fields_to f d fs [] (Then s u) i h m = absurd h
  fields_to f d fs (k ∷ ls) End i h m = absurd h
  fields_to f d fs (k ∷ ls) (Then s u) i h m = (
    subst (Matches (field k fs)) (look_here k k ls s u d refl) (m k (inl refl)),
    fields_to f d fs ls u i.1 h.1 (λ l j. subst (Matches (field l fs)) (look_there k l ls s u d (λ e. i.0 (subst (λ o. IsIn o ls) (sym e) j))) (m l (inr j))),
  )

  pub match_to : (P : Part) (h : Head) (l : Plain) (u : Shapes) → Suits w P h → FitsPart w P l → AreShapes w (under P h) u → Matches l (build w P h u) → MatchEach r x → Kept (λ t. MatchEach t (join u x)) (onto r (replace h l))
  match_to (PartConstructors n f) (AtConstructor k) l End s y z m o = absurd z
  match_to (PartConstructors n f) (AtConstructor k) Wild (Then v End) s y z m o = (tt, o)
  match_to (PartConstructors n f) (AtConstructor k) (Made j i q) (Then v End) s y z m o = made_to k j q v m.0 m.1 o
  match_to (PartConstructors n f) (AtConstructor k) (Fields fs) (Then v End) s y z m o = absurd y
  match_to (PartConstructors n f) (AtConstructor k) (Valued i p) (Then v End) s y z m o = absurd y
  match_to (PartConstructors n f) (AtConstructor k) l (Then v (Then v' u)) s y z m o = absurd z.1
  match_to (PartConstructors n f) (AtRow ls) l u s y z m o = absurd s
  match_to (PartConstructors n f) (AtValue v) l u s y z m o = absurd s
  match_to (PartConstructors n f) AtOther l u s y z m o = absurd s
  match_to (PartLabels f) (AtConstructor k) l u s y z m o = absurd s
  match_to (PartLabels f) (AtRow ls) Wild u s y z m o = match_glue (map wild_at ls) r u x (wilds_match w f ls u z) o
  match_to (PartLabels f) (AtRow ls) (Made j n q) u s y z m o = absurd y
  match_to (PartLabels f) (AtRow ls) (Fields fs) u s y z m o =
      match_glue (map (field_in fs) ls) r u x (fields_to f (spare w (PartLabels f)) fs ls u s z (λ l j. m l)) o
  match_to (PartLabels f) (AtRow ls) (Valued v p) u s y z m o = absurd y
  match_to (PartLabels f) (AtValue v) l u s y z m o = absurd s
  match_to (PartLabels f) AtOther l u s y z m o = absurd s
  match_to (PartValues f) (AtConstructor k) l u s y z m o = absurd s
  match_to (PartValues f) (AtRow ls) l u s y z m o = absurd s
  match_to (PartValues f) (AtValue v) l End s y z m o = absurd z
  match_to (PartValues f) (AtValue v) Wild (Then i End) s y z m o = (tt, o)
  match_to (PartValues f) (AtValue v) (Made j n q) (Then i End) s y z m o = absurd y
  match_to (PartValues f) (AtValue v) (Fields fs) (Then i End) s y z m o = absurd y
  match_to (PartValues f) (AtValue v) (Valued j q) (Then i End) s y z m o = value_to v j q i m.0 m.1 o
  match_to (PartValues f) (AtValue v) l (Then i (Then i' u)) s y z m o = absurd z.1
  match_to (PartValues f) AtOther l u s y z m o = absurd s
  match_to PartOpaque h l u s y z m o = absurd s

  -- and the other way round
  made_from : (k j : ℕ) (q : Plain) (s : Shape) → Kept (λ t. MatchEach t (Then s x)) (onto r (cond (eqb j k) (Some (q ∷ [])) None)) → (k ≡ j) × Matches q s × MatchEach r x
  made_from k j q s h =
      elim (eqb_tells j k) [
        | inl y ↦ let m = subst (λ b. Kept (λ t. MatchEach t (Then s x)) (onto r (cond b (Some (q ∷ [])) None))) y.0 h in (sym y.1, m.0, m.1)
        | inr y ↦ absurd (subst (λ b. Kept (λ t. MatchEach t (Then s x)) (onto r (cond b (Some (q ∷ [])) None))) y.0 h)
      ]

  value_from : (v u : Value) (q : Plain) (s : Shape) → Kept (λ t. MatchEach t (Then s x)) (onto r (cond (value_eq u v) (Some (q ∷ [])) None)) → (v ≡ u) × Matches q s × MatchEach r x
  value_from v u q s h =
      elim (value_tells u v) [
        | inl y ↦ let m = subst (λ b. Kept (λ t. MatchEach t (Then s x)) (onto r (cond b (Some (q ∷ [])) None))) y.0 h in (sym y.1, m.0, m.1)
        | inr y ↦ absurd (subst (λ b. Kept (λ t. MatchEach t (Then s x)) (onto r (cond b (Some (q ∷ [])) None))) y.0 h)
      ]

  fields_from : (f : Id → Column) (d : Id → Shape) (fs : Row) (ls : List Id) (u : Shapes) → AreShapes w (map f ls) u → MatchEach (map (field_in fs) ls) u → (l : Id) → IsIn l ls ⊎ (field l fs ≡ Wild) → Matches (field l fs) (look ls u d l)
  fields_from f d fs ls u h m l (inr e) = subst (λ p. Matches p (look ls u d l)) (sym e) tt
  fields_from f d fs [] u h m l (inl i) = absurd i
  fields_from f d fs (k ∷ ls) End h m l (inl i) = absurd h
  fields_from f d fs (k ∷ ls) (Then s u) h m l (inl i) =
      elim (id_tells k l) [
        | inl y ↦ subst (Matches (field l fs)) (sym (look_here k l ls s u d y.1)) (subst (λ o. Matches (field o fs) s) y.1 m.0)
        | inr y ↦ subst (Matches (field l fs)) (sym (look_there k l ls s u d y.1)) (fields_from f d fs ls u h.1 m.1 l (inl (rest y.1 i)))
      ]
    where
      rest : (k ≡ l → ⊥) → IsIn l (k ∷ ls) → IsIn l ls
      rest n (inl e) = absurd (n e)
      rest n (inr j) = j

  in_or_wild : (fs : Row) (ls : List Id) → AreIn fs ls → (l : Id) → IsIn l ls ⊎ (field l fs ≡ Wild)
  in_or_wild fs ls i l = elim (decide ls l) [ inl y ↦ inl y | inr y ↦ inr (field_absent l ls fs i y) ]

  pub match_from : (P : Part) (h : Head) (l : Plain) (u : Shapes) → Suits w P h → Sees h l → FitsPart w P l → AreShapes w (under P h) u → Kept (λ t. MatchEach t (join u x)) (onto r (replace h l)) → Matches l (build w P h u) × MatchEach r x
  match_from (PartConstructors n f) (AtConstructor k) l End s e y z m = absurd z
  match_from (PartConstructors n f) (AtConstructor k) Wild (Then v End) s e y z m = (tt, m.1)
  match_from (PartConstructors n f) (AtConstructor k) (Made j i q) (Then v End) s e y z m =
      let o = made_from k j q v m in ((o.0, o.1), o.2)
  match_from (PartConstructors n f) (AtConstructor k) (Fields fs) (Then v End) s e y z m = absurd y
  match_from (PartConstructors n f) (AtConstructor k) (Valued i p) (Then v End) s e y z m = absurd y
  match_from (PartConstructors n f) (AtConstructor k) l (Then v (Then v' u)) s e y z m = absurd z.1
  match_from (PartConstructors n f) (AtRow ls) l u s e y z m = absurd s
  match_from (PartConstructors n f) (AtValue v) l u s e y z m = absurd s
  match_from (PartConstructors n f) AtOther l u s e y z m = absurd s
  match_from (PartLabels f) (AtConstructor k) l u s e y z m = absurd s
  match_from (PartLabels f) (AtRow ls) Wild u s e y z m =
      (tt, (match_split w (map f ls) (map wild_at ls) r u x (wilds_fit w f ls) z m).1)
  match_from (PartLabels f) (AtRow ls) (Made j n q) u s e y z m = absurd y
  match_from (PartLabels f) (AtRow ls) (Fields fs) u s e y z m =
      let o = match_split w (map f ls) (map (field_in fs) ls) r u x (fields_fit w r [] f fs y ls) z m in
      (λ l. fields_from f (spare w (PartLabels f)) fs ls u z o.0 l (in_or_wild fs ls e l), o.1)
  match_from (PartLabels f) (AtRow ls) (Valued v p) u s e y z m = absurd y
  match_from (PartLabels f) (AtValue v) l u s e y z m = absurd s
  match_from (PartLabels f) AtOther l u s e y z m = absurd s
  match_from (PartValues f) (AtConstructor k) l u s e y z m = absurd s
  match_from (PartValues f) (AtRow ls) l u s e y z m = absurd s
  match_from (PartValues f) (AtValue v) l End s e y z m = absurd z
  match_from (PartValues f) (AtValue v) Wild (Then i End) s e y z m = (tt, m.1)
  match_from (PartValues f) (AtValue v) (Made j n q) (Then i End) s e y z m = absurd y
  match_from (PartValues f) (AtValue v) (Fields fs) (Then i End) s e y z m = absurd y
  match_from (PartValues f) (AtValue v) (Valued j q) (Then i End) s e y z m =
      let o = value_from v j q i m in ((o.0, o.1), o.2)
  match_from (PartValues f) (AtValue v) l (Then i (Then i' u)) s e y z m = absurd z.1
  match_from (PartValues f) AtOther l u s e y z m = absurd s
  match_from PartOpaque h l u s e y z m = absurd s
