use Rattle.std.proofs.Common.{ap, sym, ◌∙◌}
use Rattle.sml_objects.specs.Views.{scheme_of}
use Rattle.sml_bases.specs.Views.{value_of}
use Rattle.sml_envs.specs.Large.{is_large, is_large_value}
use Rattle.sml_bases.proofs.SomeEntries.{found, none-more}
use Rattle.sml_envs.proofs.sizes.values_are_large.Goals as goal

pub returns-then-branch : goal.returns-then-branch
returns-then-branch g c =
    let b = g.M.Mapping.bound_gives c.args.by.now in
    let f = g.M.Mapping.free_gives c.args.by.now in
    let n = g.M.Mapping.name_gives c.args.by.now in
    sym
    (found value_of (is_large_value b f n) c.args.values.now.entries c.into_iter-value-iterator.result c.loop-value.value-iterator c.next.new.self c.loop-value.yielded
    c.next.result (c.in-Some.field-0-0, c.in-Some.value) c.into_iter-value-iterator.ensures.into_iter_gives.0 c.loop-value.yielded_by c.in-Some.is c.next.ensures.steps
    (ap (λ s. is_large b f n (scheme_of s)) (sym c.deref.ensures) ∙ sym c.in_ok-is_large_under.ensures ∙ c.if-branch.true))

pub loop-value-preserved : goal.loop-value-preserved
loop-value-preserved g c =
    let b = g.M.Mapping.bound_gives c.args.by.now in
    let f = g.M.Mapping.free_gives c.args.by.now in
    let n = g.M.Mapping.name_gives c.args.by.now in
    none-more value_of (is_large_value b f n) c.loop-value.yielded c.in-Some.field-0-0 c.in-Some.value c.loop-value.invariant
    (ap (λ s. is_large b f n (scheme_of s)) (sym c.deref.ensures) ∙ sym c.in_ok-is_large_under.ensures ∙ c.if-branch.false)
