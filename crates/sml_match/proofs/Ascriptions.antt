-- What a structure has after an ascription.
use Rattle.std.proofs.Common.{◌≡◌, List, [], ap, ◌∙◌, Result, Ok, Err}
use Rattle.sml_lex.specs.declared.fault.Place.{Place}
use Rattle.sml_tree.specs.declared.structures.Ascription.TheVariants.{Transparent, Opaque}
use Rattle.sml_objects.specs.Initial.{Name, naming}
use Rattle.sml_objects.specs.Objects as O
use Rattle.sml_rules.specs.Answers.{Answer, accepted}
use Rattle.sml_rules.specs.Matching as M
use Rattle.sml_core_rules.specs.Objects.{Env, Sig}
use Rattle.sml_module_rules.specs.Lines.{lines}
use Rattle.sml_module_rules.specs.Matching.{read_realisation}
use Rattle.sml_module_rules.specs.Realising.{no_function}
use Rattle.sml_module_rules.specs.WellFormed.{IsEnvOver}
use Rattle.sml_type_maps.specs.Mapped.{by_function, by_name}
use Rattle.sml_type_maps.specs.declared.realisation.Realisation.{Realisation}
use Rattle.sml_envs.specs.Mapped.{AreOrderedIn, env_by}
use Rattle.sml_envs.specs.Renamed.{new_for}
use Rattle.sml_match.specs.Ascribed.{IsAscribed}
use Rattle.sml_match.specs.Mismatches.{IsAnswerAt, IsPlaced}
use Rattle.sml_match.specs.Searches.{HasKnownFunctions, given_by}
use Rattle.sml_match.specs.declared.mismatch.Mismatch.{Mismatch}
use Rattle.sml_match.proofs.KnownFunctions.{read-known}
use Rattle.sml_match.proofs.Ordered.{over-ordered}
use Rattle.sml_match.proofs.Realised.{HasKnown, env-realised, over-known}
use Rattle.sml_match.proofs.Renewed.{env-with-new}

-- an answer that was accepted at the place
placed-there : (p : Place) (r : Result Realisation Mismatch) (x : Realisation) (a : Answer Place (M.Realisation Name)) → IsPlaced p r (Ok x) → IsAnswerAt given_by p r a → a ≡ accepted (given_by x)
placed-there p (Ok y) x a h e = e ∙ (let q : y ≡ x = cc in ap (λ y. accepted (given_by y)) q)
placed-there p (Err m) x a h e = absurd h

none-known : HasKnown (no_function naming)
none-known m θ e = let q : ⊥ = cc in absurd q

module _ (p : Place) (T : List Name) (E : Env Name) (S : Sig Name) (ns : List Name) (r : Result Realisation Mismatch) (x : Realisation) (F : Env Name) (over : IsEnvOver naming T S.body)
    (known : HasKnownFunctions E) (placed : IsPlaced p r (Ok x))
    (answer : HasKnownFunctions E → IsAnswerAt given_by p r (read_realisation naming p S.names E (no_function naming) (lines [] S.body))) where
  there : read_realisation naming p S.names E (no_function naming) (lines [] S.body) ≡ accepted (given_by x)
  there = placed-there p r x (read_realisation naming p S.names E (no_function naming) (lines [] S.body)) placed (answer known)

  pub transparent : (AreOrderedIn S.body → F ≡ env_by O.bound O.free (λ n ts. by_function (given_by x n) n ts) S.body) → IsAscribed p E S ns Transparent F
  transparent mapped = (
    given_by x,
    there,
    mapped (over-ordered naming T S.body over)
        ∙ env-realised (given_by x) (read-known p S.names E known (no_function naming) (given_by x) (lines [] S.body) none-known there) S.body (over-known naming T S.body over),
  )

  pub opaque : (AreOrderedIn S.body → F ≡ env_by O.bound O.free (λ n ts. by_name (new_for S.names ns n) n ts) S.body) → IsAscribed p E S ns Opaque F
  opaque renamed = (given_by x, there, λ distinct. renamed (over-ordered naming T S.body over) ∙ env-with-new T S.names ns S.body over distinct)
