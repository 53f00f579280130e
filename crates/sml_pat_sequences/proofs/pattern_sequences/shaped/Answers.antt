use Rattle.std.proofs.Common.{◌≡◌, [], ◌∷◌, map, reverse, get_or, sym, ap, ◌∙◌, rules, arith}
use Rattle.std.specs.Option.{option_map}
use Rattle.std.proofs.lemmas.Grind.{common_steps}
use Rattle.sml_tree.specs.PatternViews.{pats_of}
use Rattle.sml_fixity.specs.declared.sequences.Step.TheVariants.{Push}
use Rattle.sml_fixity.specs.Shapes.{shape_of}
use Rattle.sml_pat_sequences.specs.PatternSequences.{no_operand, pat_of_steps, list_of_pats, shaped}
use Rattle.sml_pat_sequences.specs.LowViews.{low_pat_of}
use Rattle.sml_pat_sequences.proofs.PatternSequences.{list_of-pats_of}
use Rattle.sml_pat_sequences.proofs.pattern_sequences.shaped.Goals as goal

pub returns-in-Some-First : goal.returns-in-Some-First
returns-in-Some-First c =
    let qs = map low_pat_of (reverse c.args.atoms.trees.items) in
    let e : shaped (option_map (λ s. shape_of s.now) c.args.shape) (pats_of qs) ≡ pat_of_steps (Push 0 ∷ []) (record { atoms = list_of_pats (pats_of qs); stack = [] }) = first_of (search rules, grind (arith, common_steps)) in
    c.operand.ensures.value ∙ ap (λ rs. get_or rs 0 no_operand) (sym (list_of-pats_of qs)) ∙ sym e
