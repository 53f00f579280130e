use Rattle.std.proofs.Common.{◌≡◌, true, ap, sym, ◌∙◌}
use Rattle.sml_objects.specs.Views.{scheme_of, schemes_of}
use Rattle.sml_bases.specs.Views.{ty_str_of}
use Rattle.sml_bases.specs.Entries.{some_entry}
use Rattle.sml_envs.specs.Large.{is_large, is_large_type}
use Rattle.sml_bases.proofs.SomeEntries.{found, none-more, or-left, or-none, or-right}
use Rattle.sml_envs.proofs.sizes.types_are_large.Goals as goal
use Rattle.sml_envs.proofs.sizes.types_are_large.Goals.{then-branch-via-then-branch, then-branch-via-else-branch+in_ok-schemes_are_large+then-branch-2}

pub returns-then-branch : goal.returns-then-branch
returns-then-branch g c =
    let b = g.M.Mapping.bound_gives c.args.by.now in
    let f = g.M.Mapping.free_gives c.args.by.now in
    let n = g.M.Mapping.name_gives c.args.by.now in
    let large : is_large_type b f n (ty_str_of c.in-Some.ty.now) ≡ true =
    elim c.then-branch.branch [
      | then-branch-via-then-branch w ↦
          or-left _ _ (ap (λ s. is_large b f n (scheme_of s)) (sym c.deref.ensures) ∙ sym c.in_ok-is_large_under.ensures ∙ w.if-branch.true)
      | then-branch-via-else-branch+in_ok-schemes_are_large+then-branch-2 w ↦
          or-right _ _
          (ap (λ m. some_entry (is_large b f n) (schemes_of m.entries)) (sym w.deref-else-branch.ensures) ∙ sym w.in_ok-schemes_are_large.ensures ∙ w.if-branch-2.true)
    ] in
    sym
    (found ty_str_of (is_large_type b f n) c.args.types.now.entries c.into_iter-ty-iterator.result c.loop-ty.ty-iterator c.next.new.self c.loop-ty.yielded c.next.result
    (c.in-Some.field-0-0, c.in-Some.ty) c.into_iter-ty-iterator.ensures.into_iter_gives.0 c.loop-ty.yielded_by c.in-Some.is c.next.ensures.steps large)

pub loop-ty-preserved : goal.loop-ty-preserved
loop-ty-preserved g c =
    let b = g.M.Mapping.bound_gives c.args.by.now in
    let f = g.M.Mapping.free_gives c.args.by.now in
    let n = g.M.Mapping.name_gives c.args.by.now in
    none-more ty_str_of (is_large_type b f n) c.loop-ty.yielded c.in-Some.field-0-0 c.in-Some.ty c.loop-ty.invariant
    (or-none _ _
    (ap (λ s. is_large b f n (scheme_of s)) (sym c.deref.ensures) ∙ sym c.in_ok-is_large_under.ensures ∙ c.if-branch.false)
    (ap (λ m. some_entry (is_large b f n) (schemes_of m.entries)) (sym c.deref-else-branch.ensures) ∙ sym c.in_ok-schemes_are_large.ensures ∙ c.if-branch-2.false))
