-- What is kept of an environment where it is shared, and what an environment has by what is kept of the structures in it.
use Rattle.std.specs.Prelude.{ℕ, ◌+◌, Bool, ◌||◌, length}
use Rattle.sml_objects.specs.Views.{entries_of, type_of}
use Rattle.sml_core_rules.specs.Values.{has_unknown}
use Rattle.sml_bases.specs.declared.objects.Env.{Env}
use Rattle.sml_bases.specs.declared.objects.Env.TheViews.{out-Env}
use Rattle.sml_bases.specs.Entries.{capped_32, some_entry, total}

abbrev pub kept_lines : Env → ℕ
kept_lines e = (out-Env e).summary.lines

abbrev pub keeps_unknown : Env → Bool
keeps_unknown e = (out-Env e).summary.has_unknown

-- A structure has a line, and those of what stands in it; each type has one, and each value.
abbrev pub lines_of : Env → ℕ
lines_of e = capped_32 (length (out-Env e).types.entries + length (out-Env e).values.entries + total (λ n. n + 1) (entries_of (λ s. kept_lines s.value) (out-Env e).structures.entries))

abbrev pub env_has_unknown : Env → Bool
env_has_unknown e = some_entry (λ b. b) (entries_of (λ s. keeps_unknown s.value) (out-Env e).structures.entries)
    || some_entry has_unknown (entries_of (λ v. type_of v.scheme.value.body.value) (out-Env e).values.entries)
