-- Patterns in round brackets: their height, and what a tuple of other than one stands for.
use Rattle.std.proofs.Common.{◌≡◌, ◌+◌, List, [], ◌∷◌, map, length, arith, refl}
use Rattle.sml_lex.specs.declared.fault.Place.{Place}
use Rattle.sml_tree.specs.Heights.{pat_height, pats_height}
use Rattle.sml_tree.specs.Patterns.{Pats, pat_tuple, no_pat, and_pat}
use Rattle.sml_tree.specs.PatternViews.{pat_of, pats_of}
use Rattle.sml_tree.specs.declared.patterns.Pat as P
use Rattle.sml_pat_sequences.specs.RoundPatterns.{round_pat}

pub round_pat_height : (p : Place) (qs : Pats Place) → pat_height (round_pat p qs) ≡ pats_height qs + 1
round_pat_height p no_pat = refl
round_pat_height p (and_pat q no_pat) = omega arith
round_pat_height p (and_pat q (and_pat r qs)) = omega arith

pub round-others : (p : Place) (qs : List P.Pat) → (length qs ≡ 1 → ⊥) → pat_tuple p (pats_of (map pat_of qs)) ≡ round_pat p (pats_of (map pat_of qs))
round-others p [] other = refl
round-others p (q ∷ []) other = absurd (other refl)
round-others p (q ∷ r ∷ qs) other = refl
