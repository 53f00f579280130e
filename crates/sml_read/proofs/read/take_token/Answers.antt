use denote.Enum.Bare.{differs_true, differs_false}
use Rattle.sml_lex.specs.contracts.token.Kind.{the_type}
use Rattle.std.proofs.Common.{rules, [], ◌∷◌, ◌++◌, refl, ap, sym, ◌∙◌, append_assoc}
use Rattle.sml_read.specs.declared.grammar.Node.TheVariants.{Leaf, Inner}
use Rattle.sml_read.proofs.Trees.{expand_on, cost_on, leaf_on, refuse_word_on, refuse_part_on, refuse_none_on, emptied}
use Rattle.sml_read.proofs.read.take_token.Goals as goal

pub returns-in_default-choice : goal.returns-in_default-choice
returns-in_default-choice c =
    let inv = c.loop-top.invariant in
    (inv.0, inv.1, refuse_part_on _ _ inv.0 _ _ _ _ inv.2 c.in-Some.ensures.items c.in-Of.is (sym c.in_default-choice.is ∙ c.choice.ensures))

pub loop-top-smaller : goal.loop-top-smaller
loop-top-smaller c =
    cost_on _ _ _ _ _ _ _ _ c.in-Some.ensures.items c.in-Of.is c.in-Some-choice.ensures refl c.in_ok-expand-in-Of.ensures.stack

pub loop-top-preserved : goal.loop-top-preserved
loop-top-preserved c =
    let inv = c.loop-top.invariant in (
      inv.0 ++ Inner c.in-Some-choice.rule ∷ [],
      c.in_ok-expand-in-Of.ensures.nodes ∙ ap (λ x. x ++ Inner c.in-Some-choice.rule ∷ []) inv.1 ∙ append_assoc c.args.nodes.now.items inv.0 (Inner c.in-Some-choice.rule ∷ []),
      expand_on _ _ inv.0 _ _ _ _ _ _ _ inv.2 c.in-Some.ensures.items c.in-Of.is c.in-Some-choice.ensures refl c.in_ok-expand-in-Of.ensures.stack,
    )

pub returns : goal.returns
returns c =
    let inv = c.loop-top.invariant in
    (inv.0, inv.1, refuse_none_on _ _ inv.0 _ inv.2 (emptied _ c.pop.new.self.items _ c.in_default.ensures.items c.in_default.ensures.rest c.in_default.ensures.cases.0))

pub returns-then-ne : goal.returns-then-ne
returns-then-ne c =
    let inv = c.loop-top.invariant in
    (inv.0, inv.1, refuse_word_on _ _ inv.0 _ _ _ _ inv.2 c.in-Some.ensures.items c.in-Word.is (differs_true the_type _ _ (sym c.if-ne.ensures)))

pub returns-in-Word : goal.returns-in-Word
returns-in-Word c =
    let inv = c.loop-top.invariant in (
      inv.0 ++ Leaf ∷ [],
      c.in_ok-push-in-Word.ensures.items ∙ ap (λ x. x ++ Leaf ∷ []) inv.1 ∙ append_assoc c.args.nodes.now.items inv.0 (Leaf ∷ []),
      leaf_on _ _ inv.0 _ _ _ _ inv.2 c.in-Some.ensures.items c.in-Word.is (differs_false the_type (search rules) _ _ (sym c.if-ne.ensures)),
    )
