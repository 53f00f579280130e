-- The faults of refusals, and those refusals that are halts.
use Rattle.std.specs.Prelude.{Option, Some, None}
use Rattle.sml_lex.specs.declared.fault.Code.{Code}
use Rattle.sml_lex.specs.declared.fault.Code.TheVariants.{U6}
use Rattle.sml_layers.specs.Layers.{code_of}
use Rattle.sml_graph.specs.declared.demand.Halt.{Halt}
use Rattle.sml_graph.specs.declared.demand.Halt.TheVariants as H
use Rattle.sml_graph.specs.declared.demand.Refusal.{Refusal}
use Rattle.sml_graph.specs.declared.demand.Refusal.TheVariants.{Unmet, Labels, Memory, Spent}

-- the fault of a refusal: that of its layer, or record labels undetermined
abbrev pub refusal_code : Refusal → Option Code
refusal_code (Unmet l) = Some (code_of l)
refusal_code Labels = Some U6
refusal_code Memory = None
refusal_code Spent = None

-- a halt as the refusal of a call that types may refuse too
abbrev pub refusal_of : Halt → Refusal
refusal_of H.Memory = Memory
refusal_of H.Spent = Spent
