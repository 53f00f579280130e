use Rattle.std.proofs.Common.{ap, ◌∙◌}
use Rattle.std.specs.Option.{option_map}
use Rattle.sml_objects.specs.Views.{name_of}
use Rattle.sml_type_maps.proofs.Listed.{looked-up}
use Rattle.sml_envs.proofs.renaming.Renaming.image.Goals as goal

pub returns-in-Some : goal.returns-in-Some
returns-in-Some c = ap (option_map name_of) c.in-Some.ensures.value ∙ looked-up name_of c.args.self.now.others.entries c.args.name

pub returns-in-None : goal.returns-in-None
returns-in-None c = ap (option_map name_of) c.in-None.ensures.value ∙ looked-up name_of c.args.self.now.others.entries c.args.name
