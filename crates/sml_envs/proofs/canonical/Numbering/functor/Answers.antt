use Rattle.sml_envs.proofs.canonical.Numbering.functor.Goals as goal

pub returns : goal.returns
returns c = λ o i. record { argument = c.in_ok-argument.ensures o.0 i; result = c.in_ok-result.ensures o.1 i }
