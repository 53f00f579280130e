use Rattle.std.proofs.Common.{ap, ℕ, List, [], ◌∷◌}
use Rattle.std.proofs.lemmas.Fmt.{decimal_injective}
use Rattle.sml_derived.specs.Words.{hidden}
use Rattle.sml_derived.proofs.laws.hidden_differ.Goals as goal

abbrev after : List ℕ → List ℕ
after [] = []
after (b ∷ bs) = bs

pub returns : goal.returns
unfolding hidden
returns c m n m_fits n_fits same = decimal_injective m n m_fits n_fits (ap after same)
