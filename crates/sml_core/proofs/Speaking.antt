-- What stands in an environment speaks of what was made, wherever it is found.
use Rattle.std.specs.Prelude.{◌<◌, ℕ, List, length}
use Rattle.sml_objects.specs.Appearance.{Stands}
use Rattle.sml_objects.specs.Initial.{Name, naming}
use Rattle.sml_objects.specs.Objects.{Head, MlType, MlTypes, Scheme, bound, free, app, no_type, and_type}
use Rattle.sml_layers.specs.Demands.{AllMention, Mentions}
use Rattle.sml_graph.specs.Interned.{AreBodiesOver, IsBodyOver}
use Rattle.sml_core_rules.specs.Objects.{Status, constructor, exception, overloaded, variable}
use Rattle.sml_core_laws.specs.Made.{AllSpeak, HasVariable, IsHeadIn, Speaks, Takes}
use Rattle.sml_core_laws.proofs.MadeEnvs.{type-found, value-found}
use Rattle.sml_core_laws.proofs.MadeInitial.{beginnings-are-well-made}
use Rattle.sml_core.specs.Beginnings.{EnvironmentsCanBeSeen, TheInitialOneCanBeSeen}
use Rattle.sml_core.specs.Seen.{AreFunctionsIn, AreValuesIn, WhereOverloaded}

module _ (S : Head Name → ℕ → Type 0) (names : List Name) (n made : ℕ) (V : ℕ → Type 0) (known : (v : ℕ) → V v → v < made) where
  mutual
    unfolding Speaks AllSpeak IsBodyOver AreBodiesOver

    over : (t : MlType Name) → Speaks (λ k. k < n) V (IsHeadIn S names) t → IsBodyOver n made t
    over (bound k) h = h
    over (free v) h = known v h
    over (app h ts) s = all-over ts s.1

    all-over : (ts : MlTypes Name) → AllSpeak (λ k. k < n) V (IsHeadIn S names) ts → AreBodiesOver n made ts
    all-over no_type s = tt
    all-over (and_type t ts) s = (over t s.0, all-over ts s.1)

  mutual
    unfolding Speaks AllSpeak Mentions AllMention

    mentions : (t : MlType Name) → Speaks (λ k. k < n) V (IsHeadIn S names) t → Mentions (λ m. Stands m names) t
    mentions (bound k) h = tt
    mentions (free v) h = tt
    mentions (app h ts) s = (s.0.0, all-mention ts s.1)

    all-mention : (ts : MlTypes Name) → AllSpeak (λ k. k < n) V (IsHeadIn S names) ts → AllMention (λ m. Stands m names) ts
    all-mention no_type s = tt
    all-mention (and_type t ts) s = (mentions t s.0, all-mention ts s.1)

status-in : (w : Status) (σ : Scheme Name) → HasVariable w σ → WhereOverloaded w (0 < length σ.variables)
status-in variable σ h = tt
status-in (constructor k n) σ h = tt
status-in exception σ h = tt
status-in (overloaded c) σ h = h

pub can-be-seen : EnvironmentsCanBeSeen
unfolding AreValuesIn AreFunctionsIn
can-be-seen made names C h =
    let S = Takes naming in (
      (λ x v e.
          let k = value-found S made names C x v h e in
          let n = length v.scheme.variables in
          record { unknowns = over S names n made (λ v. v < made) (λ v h. h) v.scheme.body k.0; mentions = mentions S names n made (λ v. v < made) (λ v h. h) v.scheme.body k.0; status = status-in v.status v.scheme k.1 }),
      (λ c t e.
          let k = type-found S made names C c t h e in
          let n = length t.function.variables in
          record { unknowns = over S names n made (λ v. ⊥) (λ v h. absurd h) t.function.body k.0; mentions = mentions S names n made (λ v. ⊥) (λ v h. absurd h) t.function.body k.0 }),
    )

pub initial-can-be-seen : TheInitialOneCanBeSeen
initial-can-be-seen = can-be-seen 0 _ _ beginnings-are-well-made.0
