use Rattle.std.proofs.Common.{◌≡◌, ◌+◌, ◌∷◌, [], ◌++◌, take, length, ap, refl, ◌∙◌, arith}
use Rattle.sml_tree.specs.Views.{ident_of}
use Rattle.sml_objects.specs.Views.{type_of}
use Rattle.sml_graph.specs.Graphs.{fields_of}
use Rattle.sml_graph.specs.Interned.{demanded}
use Rattle.sml_graph.proofs.Interning.{inside-more}
use Rattle.sml_demands.proofs.Shaping.{interns-none, interns-new, interns-known, demanded-next, demanded-over}
use Rattle.sml_demands.proofs.demands.add_kids.Goals as goal
use Rattle.sml_demands.proofs.demands.add_kids.Goals.{in-Some+in_ok-push, in_default}

pub loop-i-init : goal.loop-i-init
loop-i-init c = record {
  interns = interns-none c.args.graph.now.nodes.items c.args.unknowns.now (fields_of c.args.row.now) c.args.pending.now.items c.requires.sound c.requires.row c.requires.pending;
  limits = λ i. refl;
  whole = λ u w. w;
  full = c.requires.full;
}

pub add-requires-clause-inside : goal.add-requires-clause-inside
add-requires-clause-inside c = inside-more (length c.args.graph.now.nodes.items) (length c.loop-i.graph.nodes.items) c.args.unknowns.now c.loop-i.invariant.interns.len c.requires.inside

pub add-requires-clause-known : goal.add-requires-clause-known
add-requires-clause-known c = demanded-over (length c.args.unknowns.now) c.args.fields.now c.loop-i.i c.index-fields-i.result c.deref.result.now c.requires.known (omega arith) c.deref.ensures

pub loop-i-preserved : goal.loop-i-preserved
loop-i-preserved c =
    let ns = c.args.graph.now.nodes.items in
    let cs = c.loop-i.graph.nodes.items in
    let ms = c.add.new.graph.nodes.items in
    let us = c.args.unknowns.now in
    let es = c.args.fields.now in
    let i = c.loop-i.i in
    let rs = take i (demanded es) in
    let fs = fields_of c.loop-i.row in
    let gs = fields_of c.add-in-loop-i.new.self in
    let ps = c.loop-i.pending.items in
    let label = c.in_ok-label.label in
    let t = type_of c.deref.result.now in
    let v = c.loop-i.invariant in
    let x = c.in_ok-kid.ensures in
    let next : take (i + 1) (demanded es) ≡ rs ++ (ident_of label, t) ∷ [] = demanded-next es i c.index-fields-i.result c.index-fields-i-in-loop-i.result label c.deref.result.now (omega arith) c.in_ok-label.ensures.cases c.deref.ensures in
    record {
      interns = elim c.match-branch-4.branch [
        | in-Some+in_ok-push w ↦
            let known = rw w.in-Some.is at c.in_ok-found.ensures.known in
            interns-known ns cs ms us rs fs ps (ident_of label) t c.in_ok-kid.kid v.interns x.interns w.in-Some.found gs (take (i + 1) (demanded es)) c.match-branch-4.pending.items known.0 known.1 next (ap (λ v. v.items) w.pending-is ∙ w.in_ok-push.ensures.items)
        | in_default w ↦
            rw w.pending-is (interns-new ns cs ms us rs fs ps (ident_of label) t c.in_ok-kid.kid v.interns x.interns gs (take (i + 1) (demanded es)) (c.in_ok-found.ensures.new w.in_default.is) next)
      ];
      limits = λ j. x.limits j ∙ v.limits j;
      whole = λ u w. x.whole u (v.whole u w);
      full = x.full;
    }
