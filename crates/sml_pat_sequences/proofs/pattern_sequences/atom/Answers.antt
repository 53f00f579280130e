use Rattle.std.proofs.Common.{set, map, ap, ◌∙◌}
use Rattle.std.proofs.lemmas.List.{map-set}
use Rattle.sml_pat_sequences.specs.LowViews.{low_pat_of}
use Rattle.sml_pat_sequences.proofs.pattern_sequences.atom.Goals as goal

pub returns-then-index-len-clause-others : goal.returns-then-index-len-clause-others
returns-then-index-len-clause-others c =
    map-set low_pat_of c.args.atoms.now.items c.args.index c.replace.new.dest
    ∙ ap (set (map low_pat_of c.args.atoms.now.items) c.args.index) (ap low_pat_of c.replace.ensures.after ∙ c.no_operand.ensures)
