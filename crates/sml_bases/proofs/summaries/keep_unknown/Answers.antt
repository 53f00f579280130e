use Rattle.std.proofs.Common.{ap, sym, ◌∙◌}
use Rattle.sml_bases.specs.Summaries.{keeps_unknown}
use Rattle.sml_bases.proofs.SomeEntries.{found, none-more}
use Rattle.sml_bases.proofs.summaries.keep_unknown.Goals as goal

pub returns-then-deref : goal.returns-then-deref
returns-then-deref c =
    sym
    (found (λ s. keeps_unknown s.value) (λ b. b) c.args.structures.now.entries c.into_iter-structure-iterator.result c.loop-structure.structure-iterator c.next.new.self
    c.loop-structure.yielded c.next.result (c.in-Some.field-0-0, c.in-Some.structure) c.into_iter-structure-iterator.ensures.into_iter_gives.0 c.loop-structure.yielded_by c.in-Some.is
    c.next.ensures.steps (ap keeps_unknown (sym c.deref.ensures) ∙ c.if-deref.true))

pub loop-structure-preserved : goal.loop-structure-preserved
loop-structure-preserved c =
    none-more (λ s. keeps_unknown s.value) (λ b. b) c.loop-structure.yielded c.in-Some.field-0-0 c.in-Some.structure c.loop-structure.invariant (ap keeps_unknown (sym c.deref.ensures) ∙ c.if-deref.false)
