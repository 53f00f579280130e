use Rattle.std.proofs.Common.{◌≡◌, ◌+◌, map}
use Rattle.std.specs.Map.Iter.{deref_pair}
use Rattle.sml_objects.specs.Views.{entries_of}
use Rattle.sml_bases.specs.Entries.{capped_32, total}
use Rattle.sml_bases.specs.Summaries.{lines_of}
use Rattle.sml_bases.specs.declared.objects.Basis.TheViews.{out-Basis}
use Rattle.sml_envs.proofs.extents.room_for_bound.Given as goal

abbrev pub invariant-loop-signature : goal.invariant-loop-signature
invariant-loop-signature l =
    l.lines ≡ capped_32 (lines_of (out-Basis l.basis).env + total (λ s. lines_of s.value.env.value) (entries_of (λ s. s) (map deref_pair l.yielded)))

abbrev pub invariant-loop-functor : goal.invariant-loop-functor
invariant-loop-functor l =
    l.lines ≡ capped_32 (l.initial.lines + total (λ f. lines_of f.value.argument.env.value + lines_of f.value.result.env.value) (entries_of (λ f. f) (map deref_pair l.yielded)))
