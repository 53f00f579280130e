-- Vectors of shapes, one for each column, taken apart and joined.
use Rattle.std.proofs.Common.{◌≡◌, ℕ, zero, suc, List, [], ◌∷◌, ◌++◌, map, refl, ap, arith}
use Rattle.sml_tree.specs.Trees.{Id}
use Rattle.sml_narrowing.specs.Plain.{Plain, Wild, IsWild, Made, Fields, Valued}
use Rattle.sml_patterns.specs.Shape.{Shape, Cut, OfConstructor, OfRow, Other, Matches, World, Column, Kind, Constructors, Labels, Values, Opaque, part, part_of, part_at, IsShape, Fits}
use Rattle.sml_narrowing.specs.CodeMatrix.{wild_at}

pub data Shapes : Type 0 where
  End : Shapes
  Then : Shape → Shapes → Shapes

-- each pattern matches the shape at its place, and there are as many
abbrev pub MatchEach : List Plain → Shapes → Type 0
MatchEach [] End = Unit {0}
MatchEach [] (Then s u) = ⊥
MatchEach (p ∷ ps) End = ⊥
MatchEach (p ∷ ps) (Then s u) = Matches p s × MatchEach ps u

abbrev pub AreShapes : World → List Column → Shapes → Type 0
AreShapes w [] End = Unit {0}
AreShapes w [] (Then s u) = ⊥
AreShapes w (c ∷ cs) End = ⊥
AreShapes w (c ∷ cs) (Then s u) = IsShape w (part w c) s × AreShapes w cs u

-- none of the rows matches the shapes
abbrev pub EscapesAll : List (List Plain) → Shapes → Type 0
EscapesAll [] v = Unit {0}
EscapesAll (r ∷ rs) v = (MatchEach r v → ⊥) × EscapesAll rs v

-- some shapes of the columns match the question and escape the rows
abbrev pub Useful : World → List Column → List (List Plain) → List Plain → Type 0
Useful w cs rows q = (v : Shapes) × AreShapes w cs v × MatchEach q v × EscapesAll rows v

abbrev pub join : Shapes → Shapes → Shapes
join End x = x
join (Then s u) x = Then s (join u x)

-- the pattern fits the column; each pattern fits its column
abbrev pub FitsColumn : World → Column → Plain → Type 0
FitsColumn w c p = Fits w c.depth c.type p

abbrev pub FitEach : World → List Column → List Plain → Type 0
FitEach w [] [] = Unit {0}
FitEach w [] (p ∷ ps) = ⊥
FitEach w (c ∷ cs) [] = ⊥
FitEach w (c ∷ cs) (p ∷ ps) = FitsColumn w c p × FitEach w cs ps

pub split : (w : World) (cs ds : List Column) (v : Shapes) → AreShapes w (cs ++ ds) v → (u : Shapes) × (x : Shapes) × (v ≡ join u x) × AreShapes w cs u × AreShapes w ds x
split w [] ds v h = (End, v, refl, tt, h)
split w (c ∷ cs) ds End h = absurd h
split w (c ∷ cs) ds (Then s v) h =
    let r = split w cs ds v h.1 in
    (Then s r.0, r.1, ap (Then s) r.2, (h.0, r.3), r.4)

pub glue : (w : World) (cs ds : List Column) (u x : Shapes) → AreShapes w cs u → AreShapes w ds x → AreShapes w (cs ++ ds) (join u x)
glue w [] ds End x h k = k
glue w [] ds (Then s u) x h k = absurd h
glue w (c ∷ cs) ds End x h k = absurd h
glue w (c ∷ cs) ds (Then s u) x h k = (h.0, glue w cs ds u x h.1 k)

pub fit_glue : (w : World) (cs ds : List Column) (ps r : List Plain) → FitEach w cs ps → FitEach w ds r → FitEach w (cs ++ ds) (ps ++ r)
fit_glue w [] ds [] r h k = k
fit_glue w [] ds (p ∷ ps) r h k = absurd h
fit_glue w (c ∷ cs) ds [] r h k = absurd h
fit_glue w (c ∷ cs) ds (p ∷ ps) r h k = (h.0, fit_glue w cs ds ps r h.1 k)

pub match_split : (w : World) (cs : List Column) (ps r : List Plain) (u x : Shapes) → FitEach w cs ps → AreShapes w cs u → MatchEach (ps ++ r) (join u x) → MatchEach ps u × MatchEach r x
match_split w [] [] r End x f h m = (tt, m)
match_split w [] [] r (Then s u) x f h m = absurd h
match_split w [] (p ∷ ps) r u x f h m = absurd f
match_split w (c ∷ cs) [] r u x f h m = absurd f
match_split w (c ∷ cs) (p ∷ ps) r End x f h m = absurd h
match_split w (c ∷ cs) (p ∷ ps) r (Then s u) x f h m =
    let rest = match_split w cs ps r u x f.1 h.1 m.1 in
    ((m.0, rest.0), rest.1)

pub match_glue : (ps r : List Plain) (u x : Shapes) → MatchEach ps u → MatchEach r x → MatchEach (ps ++ r) (join u x)
match_glue [] r End x h m = m
match_glue [] r (Then s u) x h m = absurd h
match_glue (p ∷ ps) r End x h m = absurd h
match_glue (p ∷ ps) r (Then s u) x h m = (h.0, match_glue ps r u x h.1 m)

pub wild_matches : (p : Plain) (s : Shape) → IsWild p → Matches p s
wild_matches Wild s h = tt
wild_matches (Made k n p) s h = absurd h
wild_matches (Fields fs) s h = absurd h
wild_matches (Valued v p) s h = absurd h

pub wilds_match : (w : World) (f : Id → Column) (ls : List Id) (u : Shapes) → AreShapes w (map f ls) u → MatchEach (map wild_at ls) u
wilds_match w f [] End h = tt
wilds_match w f [] (Then s u) h = absurd h
wilds_match w f (l ∷ ls) End h = absurd h
wilds_match w f (l ∷ ls) (Then s u) h = (tt, wilds_match w f ls u h.1)

pub wild_fits : (w : World) (d t : ℕ) → Fits w d t Wild
wild_fits w zero t = tt
wild_fits w (suc d) t = tt

pub wilds_fit : (w : World) (f : Id → Column) (ls : List Id) → FitEach w (map f ls) (map wild_at ls)
wilds_fit w f [] = tt
wilds_fit w f (l ∷ ls) = (wild_fits w (f l).depth (f l).type, wilds_fit w f ls)

-- each column has a shape
some_at : (w : World) (d : ℕ) → ((t : ℕ) → (s : Shape) × IsShape w (part_of w d t) s) → (k : Kind) → (s : Shape) × IsShape w (part_at d k) s
some_at w d some (Constructors zero f) = (Cut, refl)
some_at w d some (Constructors (suc n) f) =
    let s = some (f n) in
    (OfConstructor n s.0, (omega arith, s.1))
some_at w d some (Labels f) = (OfRow (λ l. (some (f l)).0), λ l. (some (f l)).1)
some_at w d some (Values f) = (Other, tt)
some_at w d some Opaque = (Cut, tt)

pub some_shape : (w : World) (d t : ℕ) → (s : Shape) × IsShape w (part_of w d t) s
some_shape w zero t = (Cut, tt)
some_shape w (suc d) t = some_at w d (some_shape w d) (w.kind t)
