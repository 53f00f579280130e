use Rattle.std.proofs.Common.{[], map}
use Rattle.sml_tree.specs.BindingViews.{typ_bind_of}
use Rattle.sml_tree.specs.SignatureViews.{spec_of, specs_of}
use Rattle.sml_bare_mods.proofs.DerivedHeights.{failed_types, joined_height}
use Rattle.sml_bare_mods.proofs.derived_specifications.type_specs.Goals as goal

pub put_specs-requires-clause-height : goal.put_specs-requires-clause-height
put_specs-requires-clause-height c =
    joined_height c.args.place (typ_bind_of c.args.first) (map typ_bind_of c.args.others.items) (specs_of (map spec_of c.in_ok-trees-in-Ok.trees.items)) c.args.height c.max-highest.result c.in-Ok.height c.requires.height c.max-highest.ensures c.in-Ok.ensures.sum c.in_ok-trees-in-Ok.ensures

pub returns-in-Err : goal.returns-in-Err
returns-in-Err c =
    failed_types c.args.place (typ_bind_of c.args.first) (map typ_bind_of c.args.others.items) c.args.height c.max-highest.result 0 [] [] c.in-Err.failure c.requires.height c.max-highest.ensures c.in-Err.ensures.sum
