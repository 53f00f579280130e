use Rattle.std.proofs.Common.{◌≡◌, ◌∙◌, ap, subst}
use Rattle.std.specs.Prelude.{false}
use Rattle.sml_objects.specs.Views.{maker_of}
use Rattle.sml_graph.specs.Asked.{Asked}
use Rattle.sml_schemes.specs.Left.{IsMostGeneral}
use Rattle.sml_graph.specs.CodeWhole.{IsKept}
use Rattle.sml_demands.proofs.Owning.{most-general}
use Rattle.sml_solve.proofs.solver.Solver.choices_are_free.Goals as goal

pub returns : goal.returns
returns c =
    let g = c.self.inside.graph in
    let spent : c.self.inside.spent ≡ false = ap (λ (s : Asked). s.spent) c.self.view_is ∙ c.requires in
    let k : IsKept (maker_of c.self.inside.unit) g c.self.inside.unknowns.items = (c.self.invariant spent).kept in
    subst IsMostGeneral c.self.view_is (most-general (maker_of c.self.inside.unit) c.self.inside.unknowns.items g c.self.inside.spent k)
