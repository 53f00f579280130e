use Rattle.std.proofs.Common.{ap, sym, ◌∙◌}
use Rattle.sml_objects.specs.Views.{scheme_of}
use Rattle.sml_envs.specs.Large.{is_large}
use Rattle.sml_bases.proofs.SomeEntries.{found, none-more}
use Rattle.sml_envs.proofs.sizes.schemes_are_large.Goals as goal

pub returns-then-branch : goal.returns-then-branch
returns-then-branch g c =
    let p = is_large (g.M.Mapping.bound_gives c.args.by.now) (g.M.Mapping.free_gives c.args.by.now) (g.M.Mapping.name_gives c.args.by.now) in
    sym
    (found (λ s. scheme_of s.value) p c.args.schemes.now.entries c.into_iter-scheme-iterator.result c.loop-scheme.scheme-iterator c.next.new.self c.loop-scheme.yielded
    c.next.result (c.in-Some.field-0-0, c.in-Some.scheme) c.into_iter-scheme-iterator.ensures.into_iter_gives.0 c.loop-scheme.yielded_by c.in-Some.is c.next.ensures.steps
    (ap (λ s. p (scheme_of s)) (sym c.deref.ensures) ∙ sym c.in_ok-is_large_under.ensures ∙ c.if-branch.true))

pub loop-scheme-preserved : goal.loop-scheme-preserved
loop-scheme-preserved g c =
    let p = is_large (g.M.Mapping.bound_gives c.args.by.now) (g.M.Mapping.free_gives c.args.by.now) (g.M.Mapping.name_gives c.args.by.now) in
    none-more (λ s. scheme_of s.value) p c.loop-scheme.yielded c.in-Some.field-0-0 c.in-Some.scheme c.loop-scheme.invariant
    (ap (λ s. p (scheme_of s)) (sym c.deref.ensures) ∙ sym c.in_ok-is_large_under.ensures ∙ c.if-branch.false)
