-- Where no directive is read, scopes change nothing, and the code leaves their events out. No public meaning rests on it.
use Rattle.std.specs.Prelude.{Bool, true, false, List, [], ◌∷◌, Option, Some, None}
use Rattle.std.specs.List.{cons_option}
use Rattle.sml_read.specs.declared.grammar.Node.{Node}
use Rattle.sml_read.specs.declared.grammar.Node.TheVariants.{Leaf, Inner}
use Rattle.sml_reach.specs.declared.sense.Deed.{Deed}
use Rattle.sml_reach.specs.declared.sense.Deed.TheVariants as D
use Rattle.sml_reach.specs.Senses.{deed_of}
use Rattle.sml_reach.specs.Events.{Event, enters, leaves, directs}

-- an event, if it is none of a scope or scopes are looked for
abbrev pub kept : Bool → Option Event → Option Event
kept false (Some enters) = None
kept false (Some leaves) = None
kept scoped event = event

abbrev pub all_kept : Bool → List Event → List Event
all_kept scoped [] = []
all_kept scoped (event ∷ events) = cons_option (kept scoped (Some event)) (all_kept scoped events)

-- whether a directive is read where a node stands
abbrev pub reads_directive : Deed → Bool
reads_directive (D.Directs directive) = true
reads_directive _ = false

abbrev pub is_directive : Node → Bool
is_directive Leaf = false
is_directive (Inner rule) = reads_directive (deed_of rule)

-- no directive is among these events
abbrev pub AreUndirected : List Event → Type 0
AreUndirected [] = Unit {0}
AreUndirected (directs directive level atoms ∷ events) = ⊥
AreUndirected (event ∷ events) = AreUndirected events
