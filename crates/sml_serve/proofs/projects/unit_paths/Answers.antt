use Rattle.std.proofs.Common.{◌∷◌, [], ◌++◌, List, ℕ, map, take, ap, sym, subst, ◌∙◌}
use Rattle.std.specs.Prelude.{slice_index_or}
use Rattle.std.specs.String.{string_bytes}
use Rattle.std.proofs.lemmas.List.{map_more, map-append}
use Rattle.sml_projects.specs.declared.project.ProjectUnit.{ProjectUnit}
use Rattle.sml_serve.specs.Overlaid.{ArePathsOf, IsPathOf}
use Rattle.sml_serve.proofs.Paths.{paths_push}
use Rattle.sml_serve.proofs.projects.unit_paths.Goals as goal

pub loop-unit-preserved : goal.loop-unit-preserved
loop-unit-preserved c =
    let project = c.args.project.now in
    let xs = c.as_slice-unit-items.result.now in
    let i = c.loop-unit.unit-index in
    let u = c.unit-item.result in
    let file : ProjectUnit → List ℕ = λ u. slice_index_or (map string_bytes c.args.listed.now.files.items) u.id.index [] in
    let more = map_more file xs i u c.loop-unit-test.true ∙ ap (λ y. map file (take i xs) ++ file y ∷ []) (sym c.unit-item.is) in
    let pushed = ap (map string_bytes) c.in_ok-push.ensures.items ∙ map-append string_bytes c.loop-unit.paths.items (c.in_ok-path_in.field-0 ∷ []) in
    let path : IsPathOf project (file u) (string_bytes c.in_ok-path_in.field-0) = subst (λ f. IsPathOf project f (string_bytes c.in_ok-path_in.field-0)) c.file_of.ensures c.in_ok-path_in.ensures in
    subst (λ l. ArePathsOf project l (map string_bytes c.push.new.self.items)) (sym more)
    (subst (ArePathsOf project (map file (take i xs) ++ file u ∷ [])) (sym pushed)
    (paths_push project (map file (take i xs)) (map string_bytes c.loop-unit.paths.items) (file u) (string_bytes c.in_ok-path_in.field-0) c.loop-unit.invariant path))
