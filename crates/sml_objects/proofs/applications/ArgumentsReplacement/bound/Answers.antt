use Rattle.std.proofs.Common.{ap, sym, ◌∙◌, rules}
use Rattle.sml_objects.specs.Objects as O
use Rattle.sml_objects.specs.Views.{type_of}
use Rattle.sml_objects.specs.declared.objects.MlType.{Bound}
use Rattle.sml_objects.proofs.TypeViews.{type_of-bound}
use Rattle.sml_objects.proofs.TypeCopies.{argument-at, no-argument, shared-type}
use Rattle.sml_objects.proofs.applications.ArgumentsReplacement.bound.Goals as goal

pub returns-in_ok-clone-in-Some : goal.returns-in_ok-clone-in-Some
returns-in_ok-clone-in-Some c =
    let k = c.args.variable in
    let ts = c.args.self.now.arguments.now in
    let found = c.in-Some.ensures.lookup in
    ap type_of c.in_ok-clone-in-Some.ensures.cases ∙ sym (argument-at (O.bound k) k ts c.in-Some.argument.now found.3.0 found.1)

pub returns-in-None : goal.returns-in-None
returns-in-None c =
    let k = c.args.variable in
    shared-type c.shared.result (Bound k) _ (type_of-bound k ∙ sym (no-argument (O.bound k) k c.args.self.now.arguments.now (search rules))) c.shared.ensures
