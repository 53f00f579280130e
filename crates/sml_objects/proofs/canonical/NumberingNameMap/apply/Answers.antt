use Rattle.std.proofs.Common.{◌∙◌, ◌+◌}
use Rattle.sml_objects.specs.Initial.{made}
use Rattle.sml_objects.specs.Views.{maker_of}
use Rattle.sml_objects.proofs.NamePlaces.{renumber-found, renumber-missing}
use Rattle.sml_objects.proofs.canonical.NumberingNameMap.apply.Goals as goal

pub returns-in-Some : goal.returns-in-Some
returns-in-Some c =
    let s = c.args.self.now in
    (λ i. made (maker_of s.unit) (s.count + c.in-Some.place) (c.arity.ensures i) (c.has_equality.ensures i))
    ∙ renumber-found (maker_of s.unit) s.count s.names.now.keys c.args.name c.in-Some.place c.in-Some.ensures.found c.in-Some.ensures.index

pub returns-in-None : goal.returns-in-None
returns-in-None c =
    renumber-missing (maker_of c.args.self.now.unit) c.args.self.now.count c.args.self.now.names.now.keys c.args.name c.in-None.ensures.found
