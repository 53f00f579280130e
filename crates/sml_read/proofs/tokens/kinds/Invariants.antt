use Rattle.std.proofs.Common.{◌≡◌, take}
use Rattle.sml_read.specs.Spelling.{kinds_of}
use Rattle.sml_read.proofs.tokens.kinds.Given as goal

abbrev pub invariant-loop-token : goal.invariant-loop-token
invariant-loop-token l = l.kinds.items ≡ kinds_of (take l.token-index l.tokens)
