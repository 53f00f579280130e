-- Why a structure doesn't match a signature, before it is known where that is asked.
use Rattle.std.specs.Prelude.{◌≡◌, List, Some, Result, Ok, Err}
use Rattle.sml_lex.specs.declared.fault.Code.{Code}
use Rattle.sml_lex.specs.declared.fault.Place.{Place}
use Rattle.sml_tree.specs.Trees.{Id}
use Rattle.sml_rules.specs.Answers.{Answer, accepted, dotted, refused}
use Rattle.sml_types.specs.Answered.{IsFault}
use Rattle.sml_types.specs.declared.fault.CoreFault.{CoreFault}
use Rattle.sml_types.specs.declared.fault.CoreFault.TheVariants as C
use Rattle.sml_match.specs.declared.mismatch.Mismatch.{Mismatch}
use Rattle.sml_match.specs.declared.mismatch.Mismatch.TheVariants.{Memory, Fault}

-- of this code, about the component at this path
abbrev pub IsMismatch : Mismatch → Code → List Id → Type 0
IsMismatch Memory c s = ⊥
IsMismatch (Fault d text) c s = (d ≡ c) × (text.items ≡ dotted s)

-- refused for this at a place, or want of memory
abbrev pub IsRefused : {Y : Type 0} → Place → Mismatch → Answer Place Y → Type 0
IsRefused p Memory a = Unit {0}
IsRefused p (Fault c text) a = a ≡ refused (record { code = c; place = p; detail = Some text.items })

-- this answer at a place, or want of memory
abbrev pub IsAnswerAt : {X Y : Type 0} → (X → Y) → Place → Result X Mismatch → Answer Place Y → Type 0
IsAnswerAt view p (Ok x) a = a ≡ accepted (view x)
IsAnswerAt view p (Err m) a = IsRefused p m a

-- the fault of this at a place
abbrev pub IsFaultAt : Place → Mismatch → CoreFault → Type 0
IsFaultAt p Memory f = f ≡ C.Memory
IsFaultAt p (Fault c text) f = IsFault f (record { code = c; place = p; detail = Some text.items })

-- the same answer with its fault at a place
abbrev pub IsPlaced : {X : Type 0} → Place → Result X Mismatch → Result X CoreFault → Type 0
IsPlaced p (Ok x) (Ok y) = y ≡ x
IsPlaced p (Ok x) (Err f) = ⊥
IsPlaced p (Err m) (Ok y) = ⊥
IsPlaced p (Err m) (Err f) = IsFaultAt p m f
