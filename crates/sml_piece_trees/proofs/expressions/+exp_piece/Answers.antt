use Rattle.std.proofs.Common.{◌≡◌, ◌∙◌, List, map, ap, sym, refl, Option, Some}
use Rattle.std.proofs.lemmas.List.{map-append}
use Rattle.std.specs.Option.{option_map}
use Rattle.sml_tree.specs.Trees.{and_exp, no_exp}
use Rattle.sml_tree.specs.Views.{exp_of}
use Rattle.sml_tree.specs.ExpressionViews as whole
use Rattle.sml_piece_trees.specs.Piece.{exp_piece, exps_piece}
use Rattle.sml_piece_trees.proofs.Made.{goes_on, ends, all_exps}
use Rattle.sml_piece_trees.proofs.expressions.+exp_piece.Goals as goal

pub exps_piece-loop-exp-preserved : goal.exps_piece-loop-exp-preserved
unfolding exps_piece
exps_piece-loop-exp-preserved t c =
    goes_on and_exp (λ es. exps_piece (whole.exps_of (map whole.exp_of es))) (λ e. exp_piece (whole.exp_of e)) (λ e es. refl) c.args.exps.now c.loop-exp.exp-index c.exp-item.result
    (map exp_of c.loop-exp.made.items) (map exp_of c.push.new.self.items) (exp_of c.in-Some.exp) c.loop-exp-test.true c.exp-item.is (sym (ap (option_map exp_of) c.in-Some.is) ∙ c.in_ok-exp.ensures)
    (ap (map exp_of) c.in_ok-push-in-Some.ensures.items ∙ map-append exp_of c.loop-exp.made.items _) c.loop-exp.invariant

pub exps_piece-returns : goal.exps_piece-returns
unfolding exps_piece
exps_piece-returns t c =
    ap Some (sym (all_exps (map exp_of c.loop-exp.made.items)))
    ∙ ends and_exp (λ es. exps_piece (whole.exps_of (map whole.exp_of es))) (λ e. exp_piece (whole.exp_of e)) (λ e es. refl) c.args.exps.now c.loop-exp.exp-index (map exp_of c.loop-exp.made.items) no_exp c.loop-exp-test.false refl c.loop-exp.invariant
