use Rattle.std.proofs.Common.{◌*◌, ap, sym, subst}
use Rattle.sml_objects.specs.Fates.{seen_type}
use Rattle.sml_objects.specs.Views.{type_of}
use Rattle.sml_type_maps.specs.Counted.{HasNodes, size_or_one}
use Rattle.sml_type_maps.proofs.AppliedSizes.{type-nodes}
use Rattle.sml_type_maps.proofs.sizes.Count.add_image.Goals as goal

pub returns-in-Some : goal.returns-in-Some
returns-in-Some c =
    subst (λ o. HasNodes c.args.self.now c.add_type.new.self (c.args.times * size_or_one (seen_type o))) (sym c.in-Some.is)
    (type-nodes c.args.self.now c.add_type.new.self c.args.times _ _ (ap type_of c.deref.ensures) c.add_type.ensures)
