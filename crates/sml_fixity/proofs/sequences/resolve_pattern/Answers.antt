use Rattle.std.proofs.Common.{rules, ◌∙◌, sym}
use Rattle.sml_fixity.specs.Infix.{IsTheTree}
use Rattle.sml_fixity.specs.Scopes.{here}
use Rattle.sml_fixity.specs.Sequences.{roles_of}
use Rattle.sml_fixity.proofs.Rolling.{roles_some, pattern_faults}
use Rattle.sml_fixity.proofs.sequences.resolve_pattern.Goals as goal

pub resolve_roles-requires : goal.resolve_roles-requires
resolve_roles-requires c = roles_some (here c.args.fixities.now) c.args.items.now _ (c.as_slice.ensures.value ∙ c.in_ok-roles.ensures) c.requires

pub returns-in_err-steps-clause-fault : goal.returns-in_err-steps-clause-fault
returns-in_err-steps-clause-fault c =
    pattern_faults c.args.items.now (roles_of (here c.args.fixities.now) c.args.items.now) c.from_residual-in_err-steps.result (search rules)

pub returns-clause-tree : goal.returns-clause-tree
returns-clause-tree c =
    let roles = roles_of (here c.args.fixities.now) c.args.items.now in
    let t : IsTheTree roles c.in_ok-steps.steps.items = rw (c.as_slice.ensures.value ∙ c.in_ok-roles.ensures) at c.in_ok-steps.ensures.tree in
    record {
      the_tree = t;
      pattern = (c.is_pattern.ensures t.tree (t.written ∙ sym (c.as_slice-2.ensures.value ∙ c.in_ok-roles.ensures)) t.obeys).0 c.if-not-is_pattern.false;
    }
