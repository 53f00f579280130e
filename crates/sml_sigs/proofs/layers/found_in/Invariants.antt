use Rattle.std.proofs.Common.{◌≡◌, drop, length, reverse}
use Rattle.sml_tree.specs.Views.{ident_of}
use Rattle.sml_bases.specs.Layers.{first_found}
use Rattle.sml_sigs.specs.Layers.{drafted_at}
use Rattle.sml_sigs.proofs.layers.found_in.Given as goal

abbrev pub invariant-loop-draft : goal.invariant-loop-draft
invariant-loop-draft g l =
    first_found (drafted_at g.T.Entry.held (ident_of l.name)) (reverse l.drafts) ≡ first_found (drafted_at g.T.Entry.held (ident_of l.name)) (drop (length l.yielded) (reverse l.drafts))
