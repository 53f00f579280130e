use Rattle.std.proofs.Common.{◌≡◌, ◌++◌, ◌∷◌, [], length, ap, ◌∙◌, arith}
use Rattle.std.specs.Prelude.{false}
use Rattle.sml_objects.specs.Objects as O
use Rattle.sml_objects.specs.Views.{type_of}
use Rattle.sml_objects.proofs.TypeViews.{type_of-bound}
use Rattle.sml_graph.proofs.Interning.{body-bound}
use Rattle.sml_solve_tests.proofs.script.calls.anything.Goals as goal

pub returns : goal.returns
returns c n =
    let v : length c.push.new.self.items ≡ 1 = ap length (c.in_ok-push.ensures.items ∙ ap (λ xs. xs ++ false ∷ []) c.new-variables.ensures.items) in
    let b : type_of c.in_ok-body.body.value ≡ O.bound 0 = ap type_of c.in_ok-body.ensures.ok ∙ type_of-bound 0 in
    rw b (body-bound (length c.push.new.self.items) n 0 (omega (arith, v)))
