use Rattle.std.proofs.Common.{◌≡◌, sym, subst, Ok, Err}
use Rattle.sml_rules.specs.Lookups.{found}
use Rattle.sml_core_rules.specs.Scopes.{run_scope}
use Rattle.sml_module_rules.specs.Lines.{lines}
use Rattle.sml_bases.specs.Views.{env_of}
use Rattle.sml_types.specs.Answered.{env_at}
use Rattle.sml_match.specs.Required.{HasRequired}
use Rattle.sml_match.proofs.Held.{at-start}
use Rattle.sml_match.proofs.enrich.enriches.Goals as goal

pub returns-in-Ok : goal.returns-in-Ok
returns-in-Ok c = λ unit s p o n.
    let E = env_of c.args.env.now in
    subst (λ q. HasRequired (run_scope unit) s p E {U = Unit {0}} (lines q (env_of c.args.specified.now)) (Ok tt)) c.new-way.ensures
    (c.in-Ok.ensures.required unit s p E (subst (λ q. env_at E q ≡ found E) (sym c.new-way.ensures) (at-start E)) o n)

pub returns : goal.returns
returns c = λ unit s p o n.
    let E = env_of c.args.env.now in
    subst (λ q. HasRequired (run_scope unit) s p E {U = Unit {0}} (lines q (env_of c.args.specified.now)) (Err c.in-Err.fault)) c.new-way.ensures
    (c.in-Err.ensures.required unit s p E (subst (λ q. env_at E q ≡ found E) (sym c.new-way.ensures) (at-start E)) o n)
