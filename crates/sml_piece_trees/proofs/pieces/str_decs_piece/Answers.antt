use Rattle.std.proofs.Common.{◌≡◌, ◌∙◌, List, [], ◌∷◌, map, ap, sym, refl, Option, Some}
use Rattle.std.proofs.lemmas.List.{map-append}
use Rattle.std.specs.Option.{option_map}
use Rattle.sml_tree.specs.Views.{core_dec_of}
use Rattle.sml_tree.specs.StructureViews.{str_decs_of, str_dec_of}
use Rattle.sml_piece_trees.specs.Piece.{str_dec_piece, str_decs_piece}
use Rattle.sml_piece_trees.proofs.Made.{goes_on, ends, all_items}
use Rattle.sml_piece_trees.proofs.pieces.str_decs_piece.Goals as goal

pub loop-dec-preserved : goal.loop-dec-preserved
loop-dec-preserved c =
    goes_on ◌∷◌ (λ ds. str_decs_piece (str_decs_of (map str_dec_of ds))) (λ d. str_dec_piece (str_dec_of d)) (λ d ds. refl) c.args.decs.now c.loop-dec.dec-index c.dec-item.result
    (map core_dec_of c.loop-dec.made.items) (map core_dec_of c.push.new.self.items) (core_dec_of c.in-Some.dec) c.loop-dec-test.true c.dec-item.is (sym (ap (option_map core_dec_of) c.in-Some.is) ∙ c.in_ok-dec.ensures)
    (ap (map core_dec_of) c.in_ok-push-in-Some.ensures.items ∙ map-append core_dec_of c.loop-dec.made.items _) c.loop-dec.invariant

pub returns : goal.returns
returns c =
    ap Some (sym (all_items (map core_dec_of c.loop-dec.made.items)))
    ∙ ends ◌∷◌ (λ ds. str_decs_piece (str_decs_of (map str_dec_of ds))) (λ d. str_dec_piece (str_dec_of d)) (λ d ds. refl) c.args.decs.now c.loop-dec.dec-index (map core_dec_of c.loop-dec.made.items) [] c.loop-dec-test.false refl c.loop-dec.invariant
