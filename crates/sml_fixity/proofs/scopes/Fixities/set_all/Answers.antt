use Rattle.std.proofs.Common.{ℕ, ◌+◌, List, sym, ap, ◌∙◌, map, drop, Vec, Global}
use Rattle.std.proofs.lemmas.List.{at_drop_more, at_drop_all}
use Rattle.std.specs.declared.rc.Rc.{Rc}
use Rattle.sml_tree.specs.Views.{ident_of}
use Rattle.sml_fixity.specs.Scopes.{Map, here, changed, changed_all}
use Rattle.sml_fixity.proofs.scopes.Fixities.set_all.Goals as goal

pub loop-name-preserved : goal.loop-name-preserved
loop-name-preserved c =
    let i = c.loop-name.invariant in
    let a = c.in_ok-set.ensures in
    let s = c.loop-name.self in
    let rest = map ident_of (drop (c.loop-name.name-index + 1) c.args.names.now) in
    let m = at_drop_more (λ (w : List (Rc (Vec ℕ Global) Global)). changed_all (here s) (map ident_of w) c.args.fixity) c.args.names.now c.loop-name.name-index c.name-item.result c.loop-name-test.true in
    (a.scopes ∙ i.0, ap (λ (f : Map). changed_all f rest c.args.fixity) a.after ∙ ap (λ (k : Rc (Vec ℕ Global) Global). changed_all (changed (here s) (ident_of k) c.args.fixity) rest c.args.fixity) c.name-item.is ∙ sym m ∙ i.1)

pub returns-clause-after : goal.returns-clause-after
returns-clause-after c =
    let s = c.loop-name.self in
    sym (at_drop_all (λ (w : List (Rc (Vec ℕ Global) Global)). changed_all (here s) (map ident_of w) c.args.fixity) c.args.names.now c.loop-name.name-index c.loop-name-test.false) ∙ c.loop-name.invariant.1
