use Rattle.std.proofs.Common.{◌≡◌, ℕ, ◌+◌, ◌-◌, ◌*◌, ◌^◌, ap, sym, ◌∙◌, length, map, arith}
use Rattle.std.proofs.lemmas.List.{length-map}
use Rattle.std.specs.Map.Iter.{deref_pair}
use Rattle.sml_tree.specs.Trees.{Id}
use Rattle.sml_tree.specs.Views.{ident_of}
use Rattle.sml_objects.specs.Initial.{Name}
use Rattle.sml_objects.specs.Views.{entries_of, scheme_of}
use Rattle.sml_core_rules.specs.Objects.{TyStr}
use Rattle.sml_bases.specs.Entries.{capped}
use Rattle.sml_bases.specs.Views.{ty_str_of}
use Rattle.sml_envs.specs.Extents.{constructor_count, line_bytes, total_by}
use Rattle.sml_envs.proofs.Caps.{added, nine-times}
use Rattle.sml_envs.proofs.EntrySums.{total-next}
use Rattle.sml_envs.proofs.extents.type_bytes.Goals as goal

abbrev bytes_at : ℕ → Id → TyStr Name → ℕ
bytes_at p x t = line_bytes p x + 9 * constructor_count t

regrouped : (a n k : ℕ) → a + n + (9 + 9 * k) ≡ a + (n + 9 + 9 * k)
regrouped a n k = omega arith

pub loop-name-preserved : goal.loop-name-preserved
loop-name-preserved c = λ p h.
    let most = 2 ^ 64 - 1 in
    let n = p + length (ident_of c.in-Some.name.now) in
    let count = constructor_count (ty_str_of c.in-Some.ty.now) in
    let before = total_by (bytes_at p) (entries_of ty_str_of (map deref_pair c.loop-name.yielded)) in
    let len : c.len.result ≡ count =
    c.len.ensures.len ∙ ap (λ m. length m.entries) c.deref.ensures ∙ sym (length-map c.in-Some.ty.now.constructors.value.entries (λ e. (ident_of e.0, scheme_of e.1.value))) in
    let signs = c.saturating_add-signs.ensures ∙ ap (λ k. capped (k + 1)) len in
    added most (before + n) (9 + 9 * count) _ _ _ (added most before n _ _ _ (c.loop-name.invariant p h) (c.ident_bytes-own.ensures p h) c.saturating_add-bytes.ensures)
    (nine-times most count _ _ (omega arith) signs c.saturating_mul.ensures) c.saturating_add-bytes-in-loop-name.ensures
    ∙ ap capped (regrouped before n count)
    ∙ ap capped (sym (total-next ty_str_of (bytes_at p) c.loop-name.yielded c.in-Some.name c.in-Some.ty))
