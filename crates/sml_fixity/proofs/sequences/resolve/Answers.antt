use Rattle.std.proofs.Common.{◌∙◌}
use Rattle.sml_fixity.specs.Scopes.{here}
use Rattle.sml_fixity.proofs.Rolling.{roles_some}
use Rattle.sml_fixity.proofs.sequences.resolve.Goals as goal

pub resolve_roles-requires : goal.resolve_roles-requires
resolve_roles-requires c = roles_some (here c.args.fixities.now) c.args.items.now _ (c.as_slice.ensures.value ∙ c.in_ok-roles.ensures) c.requires
