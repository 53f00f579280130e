use Rattle.std.proofs.Common.{◌+◌, ◌-◌, ◌^◌, ap, sym, ◌∙◌, length, map}
use Rattle.std.specs.Map.Iter.{deref_pair}
use Rattle.sml_tree.specs.Views.{ident_of}
use Rattle.sml_objects.specs.Views.{entries_of}
use Rattle.sml_bases.specs.Entries.{capped}
use Rattle.sml_bases.specs.Views.{value_of}
use Rattle.sml_envs.specs.Extents.{line_bytes, total_by}
use Rattle.sml_envs.proofs.Caps.{added, added-to}
use Rattle.sml_envs.proofs.EntrySums.{total-next}
use Rattle.sml_envs.proofs.extents.value_bytes.Goals as goal

pub loop-name-preserved : goal.loop-name-preserved
loop-name-preserved c = λ p h.
    let most = 2 ^ 64 - 1 in
    let n = p + length (ident_of c.in-Some.name.now) in
    let before = total_by (λ x v. line_bytes p x) (entries_of value_of (map deref_pair c.loop-name.yielded)) in
    added most before (n + 9) _ _ _ (c.loop-name.invariant p h) (added-to most n 9 _ _ (c.ident_bytes-own.ensures p h) c.saturating_add.ensures)
    c.saturating_add-bytes.ensures
    ∙ ap capped (sym (total-next value_of (λ x v. line_bytes p x) c.loop-name.yielded c.in-Some.name c.in-Some.field-0-1))
