use Rattle.std.proofs.Common.{◌≡◌, ap, ◌∙◌}
use Rattle.std.specs.Prelude.{reverse}
use Rattle.std.proofs.Math.Path.{fun_ext}
use Rattle.sml_fixity.specs.Scopes.{here, unwound, none_given}
use Rattle.sml_fixity.proofs.scopes.Fixities.initial.Goals as goal

pub returns : goal.returns
returns c =
    let e : here c.new-fixities.result ≡ none_given = fun_ext c.new-fixities.ensures.none in
    let same = c.in_ok-give-18.ensures.changes ∙ c.in_ok-give-17.ensures.changes ∙ c.in_ok-give-16.ensures.changes ∙ c.in_ok-give-15.ensures.changes ∙ c.in_ok-give-14.ensures.changes ∙ c.in_ok-give-13.ensures.changes ∙ c.in_ok-give-12.ensures.changes ∙ c.in_ok-give-11.ensures.changes ∙ c.in_ok-give-10.ensures.changes ∙ c.in_ok-give-9.ensures.changes ∙ c.in_ok-give-8.ensures.changes ∙ c.in_ok-give-7.ensures.changes ∙ c.in_ok-give-6.ensures.changes ∙ c.in_ok-give-5.ensures.changes ∙ c.in_ok-give-4.ensures.changes ∙ c.in_ok-give-3.ensures.changes ∙ c.in_ok-give-2.ensures.changes ∙ c.in_ok-give.ensures.changes in
    let none = ap (λ v. v.items) same ∙ c.new-fixities.ensures.no_change in
    (rw (c.in_ok-give-18.ensures.after, c.in_ok-give-17.ensures.after, c.in_ok-give-16.ensures.after, c.in_ok-give-15.ensures.after, c.in_ok-give-14.ensures.after, c.in_ok-give-13.ensures.after, c.in_ok-give-12.ensures.after, c.in_ok-give-11.ensures.after, c.in_ok-give-10.ensures.after, c.in_ok-give-9.ensures.after, c.in_ok-give-8.ensures.after, c.in_ok-give-7.ensures.after, c.in_ok-give-6.ensures.after, c.in_ok-give-5.ensures.after, c.in_ok-give-4.ensures.after, c.in_ok-give-3.ensures.after, c.in_ok-give-2.ensures.after, c.in_ok-give.ensures.after, e), ap (λ us. unwound (here c.give-18.new.self) (reverse us)) none)
