use Rattle.std.proofs.Common.{Some, None, ap, sym, ◌∙◌, arith}
use Rattle.sml_tree.specs.Views.{ident_of}
use Rattle.sml_bases.specs.CodeStored.{stored_at, stored_in}
use Rattle.sml_scopes.proofs.Nearest.{one-back}
use Rattle.sml_scopes.proofs.table.found_from.Goals as goal

pub returns-in-Some : goal.returns-in-Some
returns-in-Some g c =
    sym (one-back (stored_at g.X.Entry.held (ident_of c.args.name.now)) c.args.opened.now c.args.first c.loop-left.left c.index-opened-left.result c.deref.result.now (Some c.in-Some.found.now) _
    c.loop-left-test.true c.loop-left.invariant.inside c.index-opened-left.is c.deref.ensures (c.in-Some.ensures.value ∙ ap (stored_in (ident_of c.args.name.now)) c.entries.ensures) c.loop-left.invariant.left)

pub loop-left-preserved : goal.loop-left-preserved
loop-left-preserved g c =
    let t = c.loop-left-test.true in
    let h = c.loop-left.invariant.inside in
    record {
      inside = omega (arith, h, t);
      left = one-back (stored_at g.X.Entry.held (ident_of c.args.name.now)) c.args.opened.now c.args.first c.loop-left.left c.index-opened-left.result c.deref.result.now None _
          t h c.index-opened-left.is c.deref.ensures (c.in_default.ensures.value ∙ ap (stored_in (ident_of c.args.name.now)) c.entries.ensures) c.loop-left.invariant.left;
    }
