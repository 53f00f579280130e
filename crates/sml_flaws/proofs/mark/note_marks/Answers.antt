use Rattle.std.proofs.Common.{◌++◌, [], get_or, ap, ◌∙◌, arith}
use Rattle.std.specs.List.{cons_option}
use Rattle.sml_read.specs.declared.grammar.Node.TheVariants.{Leaf}
use Rattle.sml_flaws.specs.CodeContexts.{contexts_of}
use Rattle.sml_flaws.proofs.Marking.{mark_on, marks_end, one_token}
use Rattle.sml_flaws.proofs.mark.note_marks.Goals as goal

pub returns-then-not-take : goal.returns-then-not-take
returns-then-not-take c = marks_end _ _ _ _ _ _ c.loop-i.invariant.kept (c.take.ensures.none c.if-not-take.true)

pub loop-i-preserved : goal.loop-i-preserved
loop-i-preserved c =
    let i = c.loop-i.i in
    let token = c.loop-i.token in
    let nodes = c.args.nodes.now in
    let marks = c.loop-i.marks.items in
    let runs = c.take.new.runs in
    let next = c.take.ensures.some c.if-not-take.false in
    let f = c.loop-i.invariant.few in
    let o = one_token token (get_or nodes i Leaf) in
    let b = c.token_after-token.ensures in
    record {
      kept =
          mark_on _ marks c.push_some.new.marks.items i token c.token_after-token.result runs.here.context (contexts_of runs) _ (contexts_of c.enter.new.runs) nodes c.loop-i.invariant.kept c.loop-i-test.true next
          (c.in_ok-push_some.ensures ∙ ap (λ mark. marks ++ cons_option mark []) c.mark_at-mark.ensures) c.in_ok-enter.ensures b;
      few = omega (arith, f, o, b);
    }
