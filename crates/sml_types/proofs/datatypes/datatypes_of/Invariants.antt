use Rattle.std.proofs.Common.{◌≡◌, take}
use Rattle.sml_bases.specs.Views.{env_of}
use Rattle.sml_core_rules.specs.Objects.{empty}
use Rattle.sml_types.proofs.DatatypeRows.{rows}
use Rattle.sml_types.proofs.Extensions.{put_all}
use Rattle.sml_types.proofs.datatypes.datatypes_of.Given as goal

abbrev pub invariant-loop-index : goal.invariant-loop-index
invariant-loop-index l = env_of l.env ≡ put_all empty (rows l.by.run l.by.lost.now (take l.index l.binds) (take l.index l.names) (take l.index l.arguments))
