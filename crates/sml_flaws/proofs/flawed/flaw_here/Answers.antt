use Rattle.std.proofs.Common.{map, length, sym, ap, refl, ◌∙◌}
use Rattle.std.proofs.lemmas.Bool.{ltb-true}
use Rattle.std.proofs.lemmas.Option.{slice_get_read}
use Rattle.sml_reach.specs.Events.{text_at}
use Rattle.sml_reach.specs.Fits.{fit_of}
use Rattle.sml_flaws.specs.Flaws.{flaws, first_flaw}
use Rattle.sml_flaws.proofs.FirstFlaws.{here_on}
use Rattle.sml_flaws.proofs.flawed.flaw_here.Goals as goal

pub returns : goal.returns
returns c =
    let fitted = c.args.fitted.now in
    c.flaw_in.ensures
    ∙ here_on (text_at c.args.unit.now c.args.tokens.now) c.args.count c.args.first c.args.nodes.now fitted c.in-Some.fitted.now c.in_ok-flaw.flaw
    (slice_get_read fitted (length fitted) c.args.count c.in-Some.fitted.now refl (ltb-true _ _ (sym c.in-Some.ensures.lookup.0)) c.in-Some.ensures.lookup.1)
    (c.in_ok-flaw.ensures ∙ ap (λ fs. first_flaw (flaws (text_at c.args.unit.now c.args.tokens.now) (map fit_of fs) c.args.first c.args.nodes.now)) c.deref.ensures.value)
