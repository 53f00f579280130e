use Rattle.std.proofs.Common.{◌≡◌, reverse, take, Some, None, ap, sym, ◌∙◌, arith}
use Rattle.sml_tree.specs.Views.{ident_of}
use Rattle.sml_bases.specs.CodeStored.{stored_at, stored_in}
use Rattle.sml_bases.specs.Layers.{first_found}
use Rattle.sml_bases.proofs.Nearest.{first-else, next-below, below, count, size}
use Rattle.sml_bases.proofs.objects.Basis.find.Goals as goal

pub loop-left-init : goal.loop-left-init
loop-left-init g c =
    let b = c.args.self.now in
    let h = size b in
    let k = count b in
    let e = c.len-left.ensures in
    record {
      inside = omega (arith, e, h);
      left = first-else (stored_at g.T.Bound.stored (ident_of c.args.name.now)) b (below b) c.len-left.result
          (c.in_default.ensures.value ∙ ap (stored_in (ident_of c.args.name.now)) c.bound.ensures) (omega (arith, e, h, k));
    }

pub index-requires : goal.index-requires
index-requires g c =
    let i = c.loop-left.invariant.inside in
    let t = c.loop-left-test.true in
    let h = size c.args.self.now in
    omega (arith, i, t, h)

pub returns-in-Some-get : goal.returns-in-Some-get
returns-in-Some-get g c =
    let i = c.loop-left.invariant in
    sym (next-below (stored_at g.T.Bound.stored (ident_of c.args.name.now)) c.args.self.now c.loop-left.left c.index.result.now c.deref.result.now (Some c.in-Some-get.found.now) _
    c.loop-left-test.true i.inside c.index.ensures c.deref.ensures (c.in-Some-get.ensures.value ∙ ap (stored_in (ident_of c.args.name.now)) c.bound-in-loop-left.ensures) i.left)

pub loop-left-preserved : goal.loop-left-preserved
loop-left-preserved g c =
    let i = c.loop-left.invariant in
    let t = c.loop-left-test.true in
    let h = i.inside in
    record {
      inside = omega (arith, h, t);
      left = next-below (stored_at g.T.Bound.stored (ident_of c.args.name.now)) c.args.self.now c.loop-left.left c.index.result.now c.deref.result.now None _
          t h c.index.ensures c.deref.ensures (c.in_default-get.ensures.value ∙ ap (stored_in (ident_of c.args.name.now)) c.bound-in-loop-left.ensures) i.left;
    }

pub returns : goal.returns
returns g c =
    let t = c.loop-left-test.false in
    let none : c.loop-left.left ≡ 0 = omega (arith, t) in
    sym (c.loop-left.invariant.left ∙ ap (λ m. first_found (stored_at g.T.Bound.stored (ident_of c.args.name.now)) (reverse (take m (below c.args.self.now)))) none)
