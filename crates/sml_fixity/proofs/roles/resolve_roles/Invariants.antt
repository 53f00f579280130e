use Rattle.std.proofs.Common.{◌≡◌, ◌<◌, true, length, take}
use Rattle.sml_fixity.specs.CodeReader.{Reads}
use Rattle.sml_fixity.proofs.roles.resolve_roles.Given as goal

abbrev pub invariant-loop-index : goal.invariant-loop-index
invariant-loop-index l =
    Reads (take l.index l.roles) l.reader × (0 < l.index → l.index ≡ length l.roles → l.reader.after_operand ≡ true)
