-- Specifications that go from their last to their first.
use Rattle.std.proofs.Common.{◌≡◌, List, [], ◌∷◌, ◌++◌, map, max, reverse, refl, ap, ◌∙◌, arith}
use Rattle.std.proofs.lemmas.List.{reverse-append, map-append}
use Rattle.sml_lex.specs.declared.fault.Place.{Place}
use Rattle.sml_tree.specs.Heights.{specs_height}
use Rattle.sml_tree.specs.Signatures.{Spec, Specs, no_spec, and_spec}
use Rattle.sml_tree.specs.SignatureViews.{spec_of, specs_of}
use Rattle.sml_tree.specs.declared.signatures.Spec as Program
use Rattle.sml_bare_mods.specs.UnitRules.{and_specs}

specs_of-append : (ss rest : List (Spec Place)) → specs_of (ss ++ rest) ≡ and_specs (specs_of ss) (specs_of rest)
specs_of-append [] rest = refl
specs_of-append (s ∷ ss) rest = ap (and_spec s) (specs_of-append ss rest)

and_specs-height : (ss rest : Specs Place) → specs_height (and_specs ss rest) ≡ max (specs_height ss) (specs_height rest)
and_specs-height no_spec rest = omega arith
and_specs-height (and_spec s ss) rest = let h = and_specs-height ss rest in omega (arith, h)

pub specs_joined : (rest specs : List Program.Spec) → specs_of (map spec_of (reverse (rest ++ specs))) ≡ and_specs (specs_of (map spec_of (reverse specs))) (specs_of (map spec_of (reverse rest)))
specs_joined rest specs =
    ap (λ ss. specs_of (map spec_of ss)) (reverse-append rest specs)
    ∙ ap specs_of (map-append spec_of (reverse specs) (reverse rest))
    ∙ specs_of-append (map spec_of (reverse specs)) (map spec_of (reverse rest))

pub joined_height : (rest specs : List Program.Spec) → specs_height (specs_of (map spec_of (reverse (rest ++ specs)))) ≡ max (specs_height (specs_of (map spec_of (reverse rest)))) (specs_height (specs_of (map spec_of (reverse specs))))
joined_height rest specs =
    let e = ap specs_height (specs_joined rest specs) in
    let h = and_specs-height (specs_of (map spec_of (reverse specs))) (specs_of (map spec_of (reverse rest))) in
    omega (arith, e, h)
