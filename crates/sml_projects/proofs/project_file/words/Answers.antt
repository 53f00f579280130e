use Rattle.std.proofs.Common.{rules, tests, ◌∙◌, ap}
use Rattle.std.proofs.lemmas.Iterator.Consumers.{map_from_collect, YieldsList-from_filter}
use Rattle.std.proofs.lemmas.Iterator.Splits.{YieldsList-from_slice_split}
use Rattle.std.specs.Slice.Iter.{split_rest, split_done, split_callee}
use Rattle.std.specs.Str.Lines.{strip_carriage_return}
use Rattle.sml_projects.specs.ProjectFiles.{is_blank, has_bytes}
use Rattle.sml_projects.proofs.project_file.words.Goals as goal

pub returns : goal.returns
returns c =
    let source = c.filter.ensures.source in
    map_from_collect _ c.collect.ensures.ran
    (YieldsList-from_filter _ has_bytes
    (YieldsList-from_slice_split _ is_blank (strip_carriage_return c.args.line.now) (ap split_rest source ∙ c.split.ensures.rest ∙ c.without_return.ensures) (ap split_done source ∙ c.split.ensures.done)
    (ap split_callee source ∙ c.split.ensures.closure) (λ x r q k. search (rules, tests)))
    c.filter.ensures.closure (λ x r q k. search (rules, tests)))
