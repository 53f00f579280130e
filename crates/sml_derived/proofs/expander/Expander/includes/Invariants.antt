use Rattle.std.proofs.Common.{◌≡◌, map}
use Rattle.sml_tree.specs.TypeViews.{name_of}
use Rattle.sml_tree.specs.SignatureViews.{spec_of, specs_of}
use Rattle.sml_derived.specs.Derived.{includes}
use Rattle.sml_derived.proofs.expander.Expander.includes.Given as goal

abbrev pub invariant-loop-name : goal.invariant-loop-name
invariant-loop-name l = specs_of (map spec_of l.specs.items) ≡ includes l.fn.place (map name_of l.yielded)
