-- Sound answers: some derivation in the rules gives the environment, up to names of types.
use Rattle.std.specs.Prelude.{◌≡◌, ℕ, List, []}
use Rattle.sml_tree.specs.Trees.{Dec, core, sealed, other}
use Rattle.sml_objects.specs.Names.{Naming}
use Rattle.sml_objects.specs.Objects.{Env, Sig, Basis, empty_env, one_structure}
use Rattle.sml_objects.specs.Alike.{AlikeOver}
use Rattle.sml_rules.specs.Rules.{Declares, DeclareAll, SpecifyAll, sum_of, AreDistinct}
use Rattle.sml_rules.specs.Matching.{Matches}

module _ {N : Type 0} (names : Naming N) where
  -- Top-level declarations, `B ⊢ topdec ⇒ (T)E` (rules 50, 53, 56, 57, 61 and 87). Opaque ascription gives the
  -- signature's environment, with names outside B.
  unfoldable pub Derives : {P : Type 0} → ℕ → Basis N → Dec P → Sig N → Type 0
  Derives unit B (core d) S = Declares names B.body d S.body × (S.names ≡ [])
  Derives unit B (sealed s p specs decs) S =
      (E : Env N) × (Ss : List (Sig N)) × DeclareAll names B.body empty_env decs E × SpecifyAll names unit B specs Ss × AreDistinct [] specs
      × Matches E (sum_of Ss) × (S ≡ record { names = (sum_of Ss).names; body = one_structure s (sum_of Ss).body })
  Derives unit B (other p) S = ⊥

  -- The rules derive, from B and the declaration, what is alike over B to this.
  unfoldable pub IsSound : {P : Type 0} → ℕ → Basis N → Dec P → Sig N → Type 0
  IsSound unit B d S = (S' : Sig N) × Derives unit B d S' × AlikeOver names B S' S
