use Rattle.std.proofs.Common.{sym, ap, ◌∙◌}
use Rattle.sml_lex.specs.declared.fault.Code.TheVariants.{G3}
use Rattle.sml_reach.specs.Events.{text_at}
use Rattle.sml_flaws.specs.Flaws.{flaw_if, scoped_by, scoped_at}
use Rattle.sml_flaws.proofs.Scoping.{scoped_by_owned}
use Rattle.sml_flaws.proofs.flaw.scoped_at.Goals as goal

pub returns-clause-flaw : goal.returns-clause-flaw
returns-clause-flaw c = λ marks all known.
    let text = text_at c.args.scopes.now.unit.now c.args.scopes.now.tokens.now in
    let ends = c.args.scopes.now.ends.now in
    let token = c.in-Listed.listed.token in
    c.flaw_if.ensures
    ∙ ap (λ here. flaw_if here token G3) (scoped_by_owned text ends c.in-Some.node token marks c.args.scopes.now.owned.items c.in_ok-here.here all (c.in_ok-here.ensures.scoped all.ascending known))
    ∙ ap (scoped_by text ends marks token) (sym c.in-Some.is)
    ∙ ap (scoped_at text ends marks) (sym c.in-Listed.is)
