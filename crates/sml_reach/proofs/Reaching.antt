-- One event after another.
use Rattle.std.proofs.Common.{◌≡◌, ℕ, List, [], ◌∷◌, ◌++◌, refl, sym, subst, append_assoc, append-nil}
use Rattle.sml_tree.specs.Trees.{Id}
use Rattle.sml_reach.specs.declared.reach.Gathered.{Gathered}
use Rattle.sml_reach.specs.Events.{Event}
use Rattle.sml_reach.specs.Reach.{State, Outcome, start, Happens, Outcomes}
use Rattle.sml_reach.specs.CodeGathered.{AreGathered, ComesOf}

-- What was gathered from what all of these events but the rest came to: what they come to follows from what the rest comes to
-- in the state at hand.
pub record IsReached (text : ℕ → Id) (all : List Event) (s : State) (events : List Event) (g : Gathered) : Type 0 where
  pub outcomes : List Outcome
  pub leads : (more : List Outcome) → Outcomes text s events more → Outcomes text start all (outcomes ++ more)
  pub gathered : AreGathered g outcomes

pub reached_first : (text : ℕ → Id) (all : List Event) (s : State) (g : Gathered) → s ≡ start → AreGathered g [] → IsReached text all s all g
reached_first text all s g e h = record { outcomes = []; leads = λ more k. subst (λ s. Outcomes text s all more) e k; gathered = h }

pub reached_next : (text : ℕ → Id) (all : List Event) (s t : State) (event : Event) (now events : List Event) (g new : Gathered) (o : Outcome) → (h : IsReached text all s now g) → now ≡ event ∷ events → Happens text s event o t
    → ((os : List Outcome) → AreGathered g os → AreGathered new (os ++ o ∷ [])) → IsReached text all t events new
reached_next text all s t event now events g new o h e happens f = record {
  outcomes = h.outcomes ++ o ∷ [];
  leads = λ more k. subst (Outcomes text start all) (sym (append_assoc h.outcomes (o ∷ []) more))
      (h.leads (o ∷ more) (subst (λ es. Outcomes text s es (o ∷ more)) (sym e) (o, t, more, happens, k, refl)));
  gathered = f h.outcomes h.gathered;
}

pub reached_last : (text : ℕ → Id) (all : List Event) (s : State) (now : List Event) (g : Gathered) → IsReached text all s now g → now ≡ [] → ComesOf text all g
reached_last text all s now g h e = (h.outcomes, subst (Outcomes text start all) (append-nil h.outcomes) (h.leads [] (subst (λ es. Outcomes text s es []) (sym e) refl)), h.gathered)
