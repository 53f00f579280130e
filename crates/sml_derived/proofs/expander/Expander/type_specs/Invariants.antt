use Rattle.std.proofs.Common.{◌≡◌, map}
use Rattle.sml_tree.specs.BindingViews.{typ_bind_of}
use Rattle.sml_tree.specs.SignatureViews.{spec_of, specs_of}
use Rattle.sml_derived.specs.Derived.{type_specs}
use Rattle.sml_derived.proofs.expander.Expander.type_specs.Given as goal

abbrev pub invariant-loop-bind : goal.invariant-loop-bind
invariant-loop-bind l = specs_of (map spec_of l.specs.items) ≡ type_specs l.fn.place (typ_bind_of l.fn.first) (map typ_bind_of l.yielded)
