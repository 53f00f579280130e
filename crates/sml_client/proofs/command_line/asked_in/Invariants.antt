use Rattle.std.proofs.Common.{◌≡◌, drop, map, string_bytes}
use Rattle.sml_client.specs.Commands.{other_word}
use Rattle.sml_client.proofs.command_line.asked_in.Given as goal

abbrev pub invariant-loop-word : goal.invariant-loop-word
invariant-loop-word l = other_word (map string_bytes (drop l.word-index l.words)) ≡ other_word (map string_bytes l.words)
