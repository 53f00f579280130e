use Rattle.std.proofs.Common.{rules, tests, ◌∙◌, ◌&&◌, sym, length}
use Rattle.std.proofs.lemmas.Bool.{le-leb}
use Rattle.std.proofs.lemmas.Iterator.{YieldsList-from_slice}
use Rattle.std.proofs.lemmas.Iterator.Search.{all_from_yields_List}
use Rattle.std.specs.List.{list_all}
use Rattle.sml_projects.specs.ProjectFiles.{is_name_byte}
use Rattle.sml_projects.proofs.project_file.is_unit_name.Goals as goal

pub returns-then-word-le-LONGEST_NAME : goal.returns-then-word-le-LONGEST_NAME
returns-then-word-le-LONGEST_NAME c =
    let word = c.args.word.now in
    all_from_yields_List is_name_byte _ _ _ c.all.ensures.ran (YieldsList-from_slice word cc) (λ x b q k. search (rules, tests))
    ∙ (λ i. sym (le-leb (length word) 64 c.if-word-le-LONGEST_NAME.true) i && list_all is_name_byte word)
