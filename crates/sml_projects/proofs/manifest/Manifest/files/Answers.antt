use Rattle.std.proofs.Common.{◌≡◌, map, length, arith, string_bytes}
use Rattle.std.proofs.lemmas.List.{length-map}
use Rattle.sml_projects.proofs.Manifests.{files-listed}
use Rattle.sml_projects.proofs.manifest.Manifest.files.Goals as goal

pub returns : goal.returns
returns c =
    let m = c.args.self.now in
    let ns = map string_bytes m.names.keys in
    let fs = map string_bytes m.files.items in
    let ds = map (λ own. map string_bytes own.items) m.needs.items in
    let n = length-map m.names.keys string_bytes in
    let files : length fs ≡ length ns = (let a = length-map m.files.items string_bytes in let o = m.files.ok.0 in let p = m.files_paired in omega (arith, a, n, o, p)) in
    let needs : length ds ≡ length ns = (let a = length-map m.needs.items (λ own. map string_bytes own.items) in let o = m.needs.ok.0 in let p = m.needs_paired in omega (arith, a, n, o, p)) in
    let listed = files-listed ns fs ds files needs in
    cc
