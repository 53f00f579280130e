use Rattle.std.proofs.Common.{◌≡◌, ◌∙◌, List, map, ap, sym, refl, Option, Some}
use Rattle.std.proofs.lemmas.List.{map-append}
use Rattle.std.specs.Option.{option_map}
use Rattle.sml_tree.specs.Trees.{and_ty, no_ty}
use Rattle.sml_tree.specs.Views.{ty_of}
use Rattle.sml_tree.specs.TypeViews as whole
use Rattle.sml_piece_trees.specs.Piece.{ty_piece, tys_piece}
use Rattle.sml_piece_trees.proofs.Made.{goes_on, ends, all_tys}
use Rattle.sml_piece_trees.proofs.types.+ty_piece.Goals as goal

pub tys_piece-loop-ty-preserved : goal.tys_piece-loop-ty-preserved
unfolding tys_piece
tys_piece-loop-ty-preserved t c =
    goes_on and_ty (λ ts. tys_piece (whole.tys_of (map whole.ty_of ts))) (λ t. ty_piece (whole.ty_of t)) (λ t ts. refl) c.args.tys.now c.loop-ty.ty-index c.ty-item.result
    (map ty_of c.loop-ty.made.items) (map ty_of c.push.new.self.items) (ty_of c.in-Some.ty) c.loop-ty-test.true c.ty-item.is (sym (ap (option_map ty_of) c.in-Some.is) ∙ c.in_ok-ty.ensures)
    (ap (map ty_of) c.in_ok-push-in-Some.ensures.items ∙ map-append ty_of c.loop-ty.made.items _) c.loop-ty.invariant

pub tys_piece-returns : goal.tys_piece-returns
unfolding tys_piece
tys_piece-returns t c =
    ap Some (sym (all_tys (map ty_of c.loop-ty.made.items)))
    ∙ ends and_ty (λ ts. tys_piece (whole.tys_of (map whole.ty_of ts))) (λ t. ty_piece (whole.ty_of t)) (λ t ts. refl) c.args.tys.now c.loop-ty.ty-index (map ty_of c.loop-ty.made.items) no_ty c.loop-ty-test.false refl c.loop-ty.invariant
