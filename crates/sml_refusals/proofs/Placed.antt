-- A refusal stands in its declaration: the tree over places of which each is such is answered with such a place.
use Rattle.std.specs.Prelude.{◌≡◌, true}
use mathlib.Core.Path.{ap, sym, subst}
use Rattle.sml_lex.specs.declared.fault.Place.{Place}
use Rattle.sml_rules.specs.Answers.{refused}
use Rattle.sml_module_rules.specs.Structures.{IsTopReading}
use Rattle.sml_places.proofs.Tops.{reading-refused, places-dont-count}
use Rattle.sml_refusals.specs.Placed.{RefusalsStand}
use Rattle.sml_refusals.proofs.Lifted.{Such, bare, lift-top}

pub refusals-stand : RefusalsStand
refusals-stand scope is_such p B d f own each h =
    let F : Place → Type 0 = λ q. is_such q ≡ true in
    let t = lift-top F d each in
    let read : IsTopReading scope p B _ (refused f) = subst (λ d. IsTopReading scope p B d (refused f)) (sym t.1) h in
    let a = (places-dont-count scope (Such F) Place).no_others (bare F) (p, own) B t.0 (refused f) read in
    let x = reading-refused (bare F) a.0 f (sym a.2) in subst (λ q. is_such q ≡ true) (ap (λ e. e.place) (sym x.2)) x.0.place.1
