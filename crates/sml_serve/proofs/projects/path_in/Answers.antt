use Rattle.std.proofs.Common.{IfOk, [], subst, ◌≡◌}
use Rattle.std.specs.String.{string_bytes}
use Rattle.sml_client.specs.Paths.{normal_path, path_in}
use Rattle.sml_serve.proofs.Paths.{path_made}
use Rattle.sml_serve.proofs.projects.path_in.Goals as goal

pub returns : goal.returns
returns c =
    path_made c.args.project.now c.args.file.now (string_bytes c.in_ok-written.written) c.joined.result c.in_ok-written.ensures
    (subst (λ w. IfOk c.joined.result (λ s. string_bytes s ≡ normal_path (path_in [] w))) c.deref.ensures c.joined.ensures)
