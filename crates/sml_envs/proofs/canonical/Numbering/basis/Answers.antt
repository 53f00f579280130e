use Rattle.std.proofs.Common.{ap, ◌∙◌}
use Rattle.sml_objects.specs.Views.{entries_of}
use Rattle.sml_bases.specs.Views.{env_of, fun_sig_of, sig_of}
use Rattle.sml_bases.specs.declared.objects.Basis.TheViews.{out-roll-Basis}
use Rattle.sml_envs.proofs.canonical.Numbering.basis.Goals as goal

pub returns-clause-env : goal.returns-clause-env
returns-clause-env c = λ o. ap (λ b. env_of b.env) (out-roll-Basis _) ∙ c.in_ok-env.ensures o.0

pub returns-clause-signatures : goal.returns-clause-signatures
returns-clause-signatures c = λ o. ap (λ b. entries_of (λ s. sig_of s.value) b.signatures.entries) (out-roll-Basis _) ∙ c.in_ok-signatures.ensures o.1.0

pub returns-clause-functors : goal.returns-clause-functors
returns-clause-functors c = λ o. ap (λ b. entries_of (λ f. fun_sig_of f.value) b.functors.entries) (out-roll-Basis _) ∙ c.in_ok-functors.ensures o.1.1
