use Rattle.std.proofs.Common.{◌≡◌, map, reverse, vec_len}
use Rattle.sml_tree.specs.SignatureViews.{sig_of}
use Rattle.sml_derived.specs.Derived.{where_types}
use Rattle.sml_phrases.specs.PhraseViews.{low_where_of}
use Rattle.sml_bare_mods.proofs.signature_rules.where_types.Given as goal

abbrev pub invariant-loop-equation : goal.invariant-loop-equation
invariant-loop-equation l =
    where_types l.fn.place (sig_of l.whole.tree) (map low_where_of (reverse l.left.items)) ≡ where_types l.fn.place (sig_of l.fn.signature.tree) (map low_where_of (reverse l.fn.equations.items))

abbrev pub decreases-loop-equation : goal.decreases-loop-equation
decreases-loop-equation l = vec_len l.left
