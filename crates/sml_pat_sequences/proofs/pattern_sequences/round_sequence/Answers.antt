use Rattle.std.specs.Option.{option_map}
use Rattle.sml_pat_sequences.proofs.PatternSequences.{pat_fails, round-height, round-whole, round-alone}
use Rattle.sml_pat_sequences.specs.LowViews.{low_pat_of, low_pats_of, low_tys_of}
use Rattle.sml_pat_sequences.specs.RoundPatterns.{round_pat}
use Rattle.sml_fixity.specs.Shapes.{shape_of}
use Rattle.sml_pat_sequences.proofs.pattern_sequences.round_sequence.Goals as goal

pub returns-in_err-first : goal.returns-in_err-first
returns-in_err-first c =
    let q = round_pat c.args.place (low_pats_of c.args.pats) in
    pat_fails q _ c.in_err-first.field-0.0 c.from_residual.result c.in_err-first.ensures c.from_residual.ensures.1
    (round-height (option_map (λ s. shape_of s.now) c.args.shape) q (low_pats_of c.args.atoms) (low_tys_of c.args.types))

pub returns-then-begins : goal.returns-then-begins
returns-then-begins c =
    round-whole (option_map (λ s. shape_of s.now) c.args.shape) (round_pat c.args.place (low_pats_of c.args.pats)) (low_pat_of c.in_ok-first.first)
    (low_pats_of c.args.atoms) (low_pats_of c.in_ok-atoms.atoms) (low_tys_of c.args.types) c.begins.result c.sequence.result
    c.begins.ensures c.if-begins.true c.in_ok-first.ensures c.in_ok-atoms.ensures c.sequence.ensures

pub returns : goal.returns
returns c =
    round-alone (option_map (λ s. shape_of s.now) c.args.shape) (round_pat c.args.place (low_pats_of c.args.pats)) (low_pat_of c.in_ok-first.first)
    (low_pats_of c.args.atoms) (low_tys_of c.args.types) c.begins.result c.begins.ensures c.if-begins.false c.in_ok-first.ensures
