use Rattle.std.proofs.Common.{◌≡◌, drop, map}
use Rattle.sml_tree.specs.Views.{ident_of}
use Rattle.sml_fixity.specs.Scopes.{here, outer, changed_all}
use Rattle.sml_fixity.proofs.scopes.Fixities.set_all.Given as goal

abbrev pub invariant-loop-name : goal.invariant-loop-name
invariant-loop-name l =
    (outer l.self ≡ outer l.initial.self) × (changed_all (here l.self) (map ident_of (drop l.name-index l.names)) l.fixity ≡ changed_all (here l.initial.self) (map ident_of l.names) l.fixity)
