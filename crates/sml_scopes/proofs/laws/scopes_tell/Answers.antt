use Rattle.sml_scopes.proofs.Finding.{scopes-tell}
use Rattle.sml_scopes.proofs.laws.scopes_tell.Goals as goal

pub returns : goal.returns
returns c = λ s C m. (scopes-tell s C m, λ x b h. h C m)
