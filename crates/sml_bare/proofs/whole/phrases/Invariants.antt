-- What is made by the nodes after here, and that all of it is low.
use Rattle.std.proofs.Common.{◌≡◌, ◌≤◌, ◌+◌, true, drop, length}
use Rattle.sml_read.specs.Extents.{starts_of, tokens_in}
use Rattle.sml_phrases.specs.PhraseViews.{seen}
use Rattle.sml_bare.specs.Derivations.{phrases_of, are_low}
use Rattle.sml_bare.specs.SourceViews.{source_of}
use Rattle.sml_bare.proofs.whole.phrases.Given as goal

abbrev pub invariant-loop-i : goal.invariant-loop-i
invariant-loop-i l = record {
  token : l.token + tokens_in (drop l.i l.nodes) ≡ tokens_in l.nodes;
  made : seen l.stack ≡ phrases_of (source_of l.source) (drop l.i l.nodes) (drop l.i (starts_of 0 l.nodes));
  low : are_low (source_of l.source) (drop l.i l.nodes) (drop l.i (starts_of 0 l.nodes)) ≡ true;
  within : l.i ≤ length l.nodes;
}
