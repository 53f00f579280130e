use Rattle.std.proofs.Common.{◌≡◌, Option, ap, ◌∙◌}
use Rattle.std.specs.Option.{option_map}
use Rattle.indexmap.specs.IndexMap.{index_map_len}
use Rattle.sml_objects.specs.Initial.{Name}
use Rattle.sml_objects.specs.Objects as O
use Rattle.sml_objects.specs.Views.{name_of}
use Rattle.sml_type_maps.specs.Mapped.{last_of, last_or, names_of}
use Rattle.sml_type_maps.proofs.Listed.{looked-up}
use Rattle.sml_sigs.proofs.sharing.JoinsMapping.name.Goals as goal

pub returns-in-None : goal.returns-in-None
returns-in-None c = λ ts.
    let es = c.args.self.now.others.entries in
    let to : Option Name → O.MlType Name = λ o. O.app (O.name (last_or (name_of c.args.name) (option_map (last_of (index_map_len c.args.self.now.others) (names_of es)) o))) ts in
    ap to (ap (option_map name_of) c.in-None.ensures.value ∙ looked-up name_of es c.args.name)

pub returns-in-Some : goal.returns-in-Some
returns-in-Some c = λ ts.
    let es = c.args.self.now.others.entries in
    let to : Option Name → O.MlType Name = λ o. O.app (O.name (last_or (name_of c.args.name) (option_map (last_of (index_map_len c.args.self.now.others) (names_of es)) o))) ts in
    ap (λ m. O.app (O.name m) ts) c.last.ensures ∙ ap to (ap (option_map name_of) c.in-Some.ensures.value ∙ looked-up name_of es c.args.name)
