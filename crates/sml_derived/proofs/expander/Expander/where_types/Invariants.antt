use Rattle.std.proofs.Common.{◌≡◌, map}
use Rattle.sml_tree.specs.SignatureViews.{sig_of, where_of}
use Rattle.sml_derived.specs.Derived.{where_types}
use Rattle.sml_derived.proofs.expander.Expander.where_types.Given as goal

abbrev pub invariant-loop-equation : goal.invariant-loop-equation
invariant-loop-equation l = sig_of l.whole ≡ where_types l.fn.place (sig_of l.fn.signature) (map where_of l.yielded)
