-- The tokens so far lead to what is on the stack, and the last place where all was whole is known.
use Rattle.std.proofs.Common.{[], ◌∷◌, take, length, ◌≤◌, reverse}
use Rattle.sml_read.specs.declared.grammar.Part.TheVariants.{Start}
use Rattle.sml_read.specs.declared.grammar.Symbol.TheVariants.{Of}
use Rattle.sml_read.proofs.Trees.{Reaches}
use Rattle.sml_read.proofs.Tracks.{Tracks}
use Rattle.sml_read.proofs.read.read_kinds.Given as goal

abbrev pub invariant-loop-place : goal.invariant-loop-place
invariant-loop-place l = record {
  reaches : Reaches (Of Start ∷ []) (take l.place l.kinds) l.nodes.items (reverse l.stack.items);
  tracks : Tracks l.kinds l.done l.place l.begun (take l.count l.nodes.items);
  counted : l.count ≤ length l.nodes.items;
  before : l.begun ≤ l.place;
}
