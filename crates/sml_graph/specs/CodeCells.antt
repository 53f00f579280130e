-- Nodes as a graph keeps them, and as it lends them.
use Rattle.std.specs.Prelude.{◌≡◌, [], ◌∷◌, length}
use Rattle.std.specs.Global.{Box}
use Rattle.smallvec.specs.SmallVec.{SmallVec}
use Rattle.sml_objects.specs.declared.objects.TyName.TheVariants as T
use Rattle.sml_graph.specs.declared.cell.Kept.{Kept}
use Rattle.sml_graph.specs.declared.cell.Kept.TheVariants as K
use Rattle.sml_graph.specs.declared.cell.Shape.{Shape}
use Rattle.sml_graph.specs.declared.cell.Shape.TheVariants as S
use Rattle.sml_graph.specs.declared.cell.Top.{Top}
use Rattle.sml_graph.specs.declared.cell.Top.TheVariants as P
use Rattle.sml_graph.specs.declared.fields.Fields.{Fields}
use Rattle.sml_graph.specs.declared.node.Head.{Head}
use Rattle.sml_graph.specs.declared.node.Head.TheVariants.{Arrow, Row, Name}
use Rattle.sml_graph.specs.declared.node.Node.{Node}
use Rattle.sml_graph.specs.declared.node.Node.TheVariants.{Unknown, Link, App, Open}

-- the node that is kept so: lists of at most two parts need no memory of their own
abbrev pub node_in : Kept → Node
node_in K.Unknown = Unknown
node_in (K.Link j) = Link j
node_in (K.Arrow ks) = App Arrow (record { items = ks; capacity = 2 })
node_in (K.Initial k) = App (Name (T.Initial k)) (record { items = []; capacity = 2 })
node_in (K.InitialOver k j) = App (Name (T.Initial k)) (record { items = j ∷ []; capacity = 2 })
node_in (K.App a) = App a.value.head a.value.kids
node_in (K.Open fs) = Open fs

-- an arrow has its two parts
abbrev pub IsInTwo : Kept → Type 0
IsInTwo K.Unknown = Unit {0}
IsInTwo (K.Link j) = Unit {0}
IsInTwo (K.Arrow ks) = length ks ≡ 2
IsInTwo (K.Initial k) = Unit {0}
IsInTwo (K.InitialOver k j) = Unit {0}
IsInTwo (K.App a) = Unit {0}
IsInTwo (K.Open fs) = Unit {0}

-- the head that is lent
abbrev pub head_of : Top → Head
head_of P.Arrow = Arrow
head_of (P.Row ls) = Row ls.now
head_of (P.Name n) = Name n

-- the node says this
abbrev pub IsShape : Node → Shape → Type 0
IsShape n S.Unknown = n ≡ Unknown
IsShape n (S.Link j) = n ≡ Link j
IsShape n (S.App p ks) = (kids : SmallVec _) × (n ≡ App (head_of p) kids) × (ks.now ≡ kids.items)
IsShape n (S.Open b) = (fs : Box Fields) × (n ≡ Open fs) × (b.now ≡ fs.value)
