use Rattle.std.proofs.Common.{◌≡◌, [], ◌∷◌, map, reverse, get_or, subst, sym, ap, ◌∙◌, rules, arith}
use Rattle.std.specs.Option.{option_map}
use Rattle.std.proofs.lemmas.Grind.{common_steps}
use Rattle.sml_tree.specs.ExpressionViews.{exps_of}
use Rattle.sml_fixity.specs.declared.sequences.Step.TheVariants.{Push}
use Rattle.sml_fixity.specs.Shapes.{shape_of}
use Rattle.sml_bare_exps.specs.ExpressionSequences.{no_operand, shaped, exp_of_steps, starting, list_of_exps}
use Rattle.sml_bare_exps.specs.ExpressionViews.{GivesExp, low_exp_of}
use Rattle.sml_bare_exps.proofs.ExpressionHeights.{list_of_exps_of}
use Rattle.sml_bare_exps.proofs.expression_sequences.shaped.Goals as goal

pub returns-in-Some-Tree : goal.returns-in-Some-Tree
returns-in-Some-Tree c =
    let steps = c.in-Some-Tree.operand.steps.items in
    let es = map low_exp_of (reverse c.args.exps.items) in
    let r : list_of_exps (exps_of es) ≡ map low_exp_of c.reverse.new.self.items = list_of_exps_of es ∙ ap (map low_exp_of) (sym c.reverse.ensures.items) in
    let e : shaped (option_map (λ s. shape_of s.now) c.args.shape) (exps_of es) ≡ exp_of_steps steps (starting (list_of_exps (exps_of es))) = first_of (search rules, grind (arith, common_steps)) in
    let same : exp_of_steps steps (starting (list_of_exps (exps_of es))) ≡ exp_of_steps c.as_slice.result.now (starting (map low_exp_of c.reverse.new.self.items)) =
    ap (λ xs. exp_of_steps steps (starting xs)) r ∙ ap (λ ss. exp_of_steps ss (starting (map low_exp_of c.reverse.new.self.items))) (sym c.as_slice.ensures.value) in
    subst (λ e. GivesExp e c.exp_of_steps.result) (sym (e ∙ same)) c.exp_of_steps.ensures

pub returns-in-Some-First : goal.returns-in-Some-First
returns-in-Some-First c =
    let es = map low_exp_of (reverse c.args.exps.items) in
    let e : shaped (option_map (λ s. shape_of s.now) c.args.shape) (exps_of es) ≡ exp_of_steps (Push 0 ∷ []) (starting (list_of_exps (exps_of es))) = first_of (search rules, grind (arith, common_steps)) in
    c.first-in-Some-First.ensures ∙ ap (λ ds. get_or ds 0 no_operand) (sym (list_of_exps_of es)) ∙ sym e

pub returns-in-None : goal.returns-in-None
returns-in-None c =
    let es = map low_exp_of (reverse c.args.exps.items) in
    let e : shaped (option_map (λ s. shape_of s.now) c.args.shape) (exps_of es) ≡ get_or (list_of_exps (exps_of es)) 0 no_operand = first_of (search rules, grind (arith, common_steps)) in
    c.first.ensures ∙ ap (λ ds. get_or ds 0 no_operand) (sym (list_of_exps_of es)) ∙ sym e
