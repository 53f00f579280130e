use Rattle.std.proofs.Common.{◌≡◌, map, take, string_bytes}
use Rattle.sml_session.proofs.files.files_of.Given as goal

abbrev pub invariant-loop-file : goal.invariant-loop-file
invariant-loop-file l = map string_bytes l.files.items ≡ map string_bytes (take l.file-index l.file-items)
