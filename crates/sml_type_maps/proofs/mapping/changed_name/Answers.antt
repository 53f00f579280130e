use Rattle.std.proofs.Common.{◌≡◌, ap, sym, ◌∙◌}
use Rattle.sml_objects.specs.Objects.{types_of}
use Rattle.sml_objects.specs.Views.{name_of}
use Rattle.sml_objects.proofs.TypeViews.{type_of-name}
use Rattle.sml_type_maps.specs.Mapped.{seen, types_or}
use Rattle.sml_type_maps.proofs.TypeMaps.{boxed-at}
use Rattle.sml_type_maps.proofs.mapping.changed_name.Goals as goal

pub returns-in-Some : goal.returns-in-Some
returns-in-Some g c =
    let k = c.args.name in
    let new = c.in-Some.parts in
    boxed-at c.boxed.result _ _ _
    (type_of-name k new ∙ c.in-Same.ensures (types_of (seen new.items))
    ∙ ap (λ o. g.M.Mapping.name_gives c.args.by.now (name_of k) (types_of (types_or (seen c.args.parts.now) o))) (sym c.in-Some.is))
    c.boxed.ensures

pub returns-in_ok-parts-in-Name : goal.returns-in_ok-parts-in-Name
returns-in_ok-parts-in-Name g c =
    let k = c.args.name in
    let new = c.in_ok-parts-in-Name.parts in
    boxed-at c.boxed-in-Name.result _ _ _
    (type_of-name c.in-Name.name new ∙ c.in-Name.ensures (types_of (seen new.items))
    ∙ ap (λ l. g.M.Mapping.name_gives c.args.by.now (name_of k) (types_of l)) c.in_ok-parts-in-Name.ensures)
    c.boxed-in-Name.ensures
