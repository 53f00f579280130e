use Rattle.std.proofs.Common.{ap, ◌∙◌}
use Rattle.sml_objects.specs.Objects.{extend_env}
use Rattle.sml_objects.specs.Views.{env_of}
use Rattle.sml_units.proofs.Replying.{added}
use Rattle.sml_units.proofs.project.accept.Goals as goal

pub returns-clause-basis : goal.returns-clause-basis
returns-clause-basis c = λ B basis is opened.
    added c.args.basis.now c.add-2.new.self c.args.own B basis is opened c.in_ok-add-2.ensures.env c.in_ok-add-2.ensures.names c.in_ok-add-2.ensures.unit

pub returns-clause-bound : goal.returns-clause-bound
returns-clause-bound c = c.in_ok-add.ensures.env ∙ ap (extend_env (env_of c.args.bound.now.env)) c.in_ok-nameless.ensures.env
