use Rattle.std.proofs.Common.{rules, tests, ◌∙◌, sym}
use Rattle.std.proofs.lemmas.Iterator.{YieldsList-from_slice}
use Rattle.std.proofs.lemmas.Iterator.Search.{all_from_yields_List}
use Rattle.std.proofs.lemmas.List.Folds.{list_all-map}
use Rattle.sml_projects.specs.ProjectFiles.{is_unit_name}
use Rattle.sml_projects.proofs.project_file.are_unit_names.Goals as goal

pub returns : goal.returns
returns c =
    let words = c.args.words.now in
    all_from_yields_List (λ w. is_unit_name w.now) _ _ _ c.all.ensures.ran (YieldsList-from_slice words cc) (λ x b q k. search (rules, tests)) ∙ sym (list_all-map is_unit_name (λ w. w.now) words)
