-- Shapes of values, which shapes a type has, and which of them a pattern matches.
use Rattle.std.specs.Prelude.{◌≡◌, ℕ, zero, suc, ◌<◌, Bool, IsTrue}
use Rattle.sml_tree.specs.Trees.{Id}
use Rattle.sml_narrowing.specs.Plain.{Value, Plain, Wild, Made, Fields, Valued, IsWild, field}

-- what is cut off; a constructor, by its place among those of its datatype, with a shape of its argument; a row, by the
-- shape at each label; a value that patterns write, with a shape of its argument; any other value
pub data Shape : Type 0 where
  Cut : Shape
  OfConstructor : ℕ → Shape → Shape
  OfRow : (Id → Shape) → Shape
  OfValue : Value → Shape → Shape
  Other : Shape

abbrev pub Matches : Plain → Shape → Type 0
Matches Wild s = Unit {0}
Matches (Made k n p) Cut = ⊥
Matches (Made k n p) (OfConstructor j s) = (j ≡ k) × Matches p s
Matches (Made k n p) (OfRow g) = ⊥
Matches (Made k n p) (OfValue v s) = ⊥
Matches (Made k n p) Other = ⊥
Matches (Fields fs) Cut = ⊥
Matches (Fields fs) (OfConstructor j s) = ⊥
Matches (Fields fs) (OfRow g) = (l : Id) → Matches (field l fs) (g l)
Matches (Fields fs) (OfValue v s) = ⊥
Matches (Fields fs) Other = ⊥
Matches (Valued u p) Cut = ⊥
Matches (Valued u p) (OfConstructor j s) = ⊥
Matches (Valued u p) (OfRow g) = ⊥
Matches (Valued u p) (OfValue v s) = (v ≡ u) × Matches p s
Matches (Valued u p) Other = ⊥

-- what a type is, types being numbered: one with constructors, by the type of each one's argument; a row, by the type at
-- each label; one of constants or exceptions, by the type of each one's argument; any other. Where there is no argument,
-- or no such label, any type will do.
pub data Kind : Type 0 where
  Constructors : (count : ℕ) → (ℕ → ℕ) → Kind
  Labels : (Id → ℕ) → Kind
  Values : (Value → ℕ) → Kind
  Opaque : Kind

-- the types, and which values are written
pub record World : Type 0 where
  pub kind : ℕ → Kind
  pub written : Value → Bool

-- a type, with how deep its shapes go
pub record Column : Type 0 where
  pub depth : ℕ
  pub type : ℕ

-- a kind whose types have a depth
pub data Part : Type 0 where
  PartConstructors : (count : ℕ) → (ℕ → Column) → Part
  PartLabels : (Id → Column) → Part
  PartValues : (Value → Column) → Part
  PartOpaque : Part

abbrev pub column : ℕ → ℕ → Column
column d t = record { depth = d; type = t }

abbrev pub part_at : ℕ → Kind → Part
part_at d (Constructors n f) = PartConstructors n (λ k. column d (f k))
part_at d (Labels f) = PartLabels (λ l. column d (f l))
part_at d (Values f) = PartValues (λ v. column d (f v))
part_at d Opaque = PartOpaque

abbrev pub part_of : World → ℕ → ℕ → Part
part_of w zero t = PartOpaque
part_of w (suc d) t = part_at d (w.kind t)

abbrev pub part : World → Column → Part
part w c = part_of w c.depth c.type

-- a shape of a type: at depth 0 it is cut
abbrev pub IsShape : World → Part → Shape → Type 0
IsShape w (PartConstructors n f) Cut = n ≡ 0
IsShape w (PartConstructors n f) (OfConstructor k s) = (k < n) × IsShape w (part w (f k)) s
IsShape w (PartConstructors n f) (OfRow g) = ⊥
IsShape w (PartConstructors n f) (OfValue v s) = ⊥
IsShape w (PartConstructors n f) Other = ⊥
IsShape w (PartLabels f) Cut = ⊥
IsShape w (PartLabels f) (OfConstructor k s) = ⊥
IsShape w (PartLabels f) (OfRow g) = (l : Id) → IsShape w (part w (f l)) (g l)
IsShape w (PartLabels f) (OfValue v s) = ⊥
IsShape w (PartLabels f) Other = ⊥
IsShape w (PartValues f) Cut = ⊥
IsShape w (PartValues f) (OfConstructor k s) = ⊥
IsShape w (PartValues f) (OfRow g) = ⊥
IsShape w (PartValues f) (OfValue v s) = IsTrue (w.written v) × IsShape w (part w (f v)) s
IsShape w (PartValues f) Other = Unit {0}
IsShape w PartOpaque Cut = Unit {0}
IsShape w PartOpaque (OfConstructor k s) = ⊥
IsShape w PartOpaque (OfRow g) = ⊥
IsShape w PartOpaque (OfValue v s) = ⊥
IsShape w PartOpaque Other = ⊥

-- a pattern has this kind, where F says what is below
abbrev pub FitsKind : World → (ℕ → Plain → Type 0) → Kind → Plain → Type 0
FitsKind w F k Wild = Unit {0}
FitsKind w F (Constructors n f) (Made j m q) = (m ≡ n) × (j < n) × F (f j) q
FitsKind w F (Constructors n f) (Fields fs) = ⊥
FitsKind w F (Constructors n f) (Valued v q) = ⊥
FitsKind w F (Labels f) (Made j m q) = ⊥
FitsKind w F (Labels f) (Fields fs) = (l : Id) → F (f l) (field l fs)
FitsKind w F (Labels f) (Valued v q) = ⊥
FitsKind w F (Values f) (Made j m q) = ⊥
FitsKind w F (Values f) (Fields fs) = ⊥
FitsKind w F (Values f) (Valued v q) = IsTrue (w.written v) × F (f v) q
FitsKind w F Opaque (Made j m q) = ⊥
FitsKind w F Opaque (Fields fs) = ⊥
FitsKind w F Opaque (Valued v q) = ⊥

-- the pattern has the type, its values are written, and it is no deeper than this
abbrev pub Fits : World → ℕ → ℕ → Plain → Type 0
Fits w zero t p = IsWild p
Fits w (suc d) t p = FitsKind w (Fits w d) (w.kind t) p
