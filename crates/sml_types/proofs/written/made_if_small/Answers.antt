use Rattle.std.proofs.Common.{ap, ◌∙◌}
use Rattle.sml_types.specs.Meant.{meant}
use Rattle.sml_types.specs.declared.written.Written.{Made}
use Rattle.sml_types.proofs.Meanings.{meant-made, shared-meant}
use Rattle.sml_types.proofs.written.made_if_small.Goals as goal

pub returns : goal.returns
returns c =
    shared-meant c.shared.result (Made c.in_ok-ty.ty) _ (meant-made c.in_ok-ty.ty ∙ c.in_ok-ty.ensures ∙ ap meant c.deref-2.ensures) c.shared.ensures
