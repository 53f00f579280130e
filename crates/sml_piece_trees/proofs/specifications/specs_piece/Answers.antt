use Rattle.std.proofs.Common.{◌≡◌, ◌∙◌, List, [], ◌∷◌, map, ap, sym, refl, Option, Some}
use Rattle.std.proofs.lemmas.List.{map-append}
use Rattle.std.specs.Option.{option_map}
use Rattle.sml_tree.specs.Views.{spec_of}
use Rattle.sml_tree.specs.SignatureViews as whole
use Rattle.sml_piece_trees.specs.Piece.{spec_piece, specs_piece}
use Rattle.sml_piece_trees.proofs.Made.{goes_on, ends, all_items}
use Rattle.sml_piece_trees.proofs.specifications.specs_piece.Goals as goal

pub loop-specification-preserved : goal.loop-specification-preserved
loop-specification-preserved c =
    goes_on ◌∷◌ (λ ss. specs_piece (whole.specs_of (map whole.spec_of ss))) (λ s. spec_piece (whole.spec_of s)) (λ s ss. refl) c.args.specs.now c.loop-specification.specification-index c.specification-item.result
    (map spec_of c.loop-specification.made.items) (map spec_of c.push.new.self.items) (spec_of c.in-Some.specification) c.loop-specification-test.true c.specification-item.is
    (sym (ap (option_map spec_of) c.in-Some.is) ∙ c.in_ok-specification.ensures)
    (ap (map spec_of) c.in_ok-push-in-Some.ensures.items ∙ map-append spec_of c.loop-specification.made.items _) c.loop-specification.invariant

pub returns : goal.returns
returns c =
    ap Some (sym (all_items (map spec_of c.loop-specification.made.items)))
    ∙ ends ◌∷◌ (λ ss. specs_piece (whole.specs_of (map whole.spec_of ss))) (λ s. spec_piece (whole.spec_of s)) (λ s ss. refl) c.args.specs.now c.loop-specification.specification-index (map spec_of c.loop-specification.made.items) []
    c.loop-specification-test.false refl c.loop-specification.invariant
