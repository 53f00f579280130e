use Rattle.std.proofs.Common.{◌≡◌, ℕ, ◌+◌, ◌-◌, ◌*◌, ◌^◌, ap, sym, ◌∙◌, length, map, rules}
use Rattle.std.proofs.lemmas.Map.Iter.{iter_end}
use Rattle.std.specs.Map.Iter.{deref_pair}
use Rattle.sml_tree.specs.Trees.{Id}
use Rattle.sml_tree.specs.Views.{ident_of}
use Rattle.sml_objects.specs.Initial.{Name}
use Rattle.sml_objects.specs.Views.{entries_of}
use Rattle.sml_core_rules.specs.Objects.{Env}
use Rattle.sml_bases.specs.Entries.{capped}
use Rattle.sml_bases.specs.Views.{env_of, structures_of, ty_str_of, value_of}
use Rattle.sml_bases.specs.declared.objects.Env.TheViews.{out-Env}
use Rattle.sml_envs.specs.Extents.{bytes_in, constructor_count, line_bytes, structure_bytes, total_by}
use Rattle.sml_envs.proofs.Caps.{added, added-to, regrouped}
use Rattle.sml_envs.proofs.EntrySums.{parts-bytes, structure-total, total-next}
use Rattle.sml_envs.proofs.extents.+envs.Goals as goal

abbrev bytes_at : ℕ → Id → Env Name → ℕ
bytes_at p x E = line_bytes p x + bytes_in constructor_count (p + length x + 1) E

pub env_bytes-returns : goal.env_bytes-returns
env_bytes-returns t c = λ p h.
    let most = 2 ^ 64 - 1 in
    let e = out-Env c.args.env.now in
    let ss = structure_bytes constructor_count p (structures_of (entries_of (λ s. env_of s.value) e.structures.entries)) in
    let ts = total_by (λ x t. line_bytes p x + 9 * constructor_count t) (entries_of ty_str_of e.types.entries) in
    let vs = total_by (λ x v. line_bytes p x) (entries_of value_of e.values.entries) in
    added most (ss + ts) vs _ _ _ (added most ss ts _ _ _ (c.structure_bytes.ensures p h) (c.type_bytes.ensures p h) c.saturating_add.ensures)
    (c.value_bytes.ensures p h) c.saturating_add-2.ensures
    ∙ ap capped (regrouped ss ts vs)
    ∙ ap capped (sym (parts-bytes constructor_count p c.args.env.now))

pub structure_bytes-loop-name-preserved : goal.structure_bytes-loop-name-preserved
structure_bytes-loop-name-preserved t c = λ p h.
    let most = 2 ^ 64 - 1 in
    let n = p + length (ident_of c.in-Some.name.now) in
    let inner = bytes_in constructor_count (n + 1) (env_of c.in-Some.structure.now.value) in
    let before = total_by (bytes_at p) (entries_of (λ s. env_of s.value) (map deref_pair c.loop-name.yielded)) in
    let own = c.ident_bytes-own.ensures p h in
    let line = added-to most n 9 _ _ own c.saturating_add.ensures in
    let path = added-to most n 1 _ _ own c.saturating_add-in-loop-name.ensures in
    let bytes : c.env_bytes.result ≡ capped inner =
    c.env_bytes.ensures (n + 1) path ∙ ap (λ e. capped (bytes_in constructor_count (n + 1) (env_of e))) c.deref.ensures in
    added most (before + (n + 9)) inner _ _ _ (added most before (n + 9) _ _ _ (c.loop-name.invariant p h) line c.saturating_add-bytes.ensures) bytes
    c.saturating_add-bytes-in-loop-name.ensures
    ∙ ap capped (regrouped before (n + 9) inner)
    ∙ ap capped (sym (total-next (λ s. env_of s.value) (bytes_at p) c.loop-name.yielded c.in-Some.name c.in-Some.structure))

pub structure_bytes-returns : goal.structure_bytes-returns
structure_bytes-returns t c = λ p h.
    let whole : map deref_pair c.loop-name.yielded ≡ c.args.structures.now.entries = search (rules, iter_end) in
    c.loop-name.invariant p h
    ∙ ap (λ l. capped (total_by (bytes_at p) (entries_of (λ s. env_of s.value) l))) whole
    ∙ ap capped (sym (structure-total constructor_count p (entries_of (λ s. env_of s.value) c.args.structures.now.entries)))
