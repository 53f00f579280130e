use Rattle.std.proofs.Common.{◌≡◌, ◌+◌, ◌∷◌, [], ◌++◌, take, get_or, sym, ap, subst, ◌∙◌, arith}
use Rattle.sml_tree.specs.Views.{ident_of}
use Rattle.sml_graph.specs.Graphs.{fields_of}
use Rattle.sml_graph.specs.Changes.{BeginsWith}
use Rattle.sml_graph.proofs.Merging.{fields-new, fields-known-too, field-next}
use Rattle.sml_graph.proofs.Changing.{begins-then, begins-one}
use Rattle.sml_graph.proofs.merge.add_fields.Goals as goal
use Rattle.sml_graph.proofs.merge.add_fields.Goals.{in-Some+in_ok-push, in_default}

pub loop-i-preserved : goal.loop-i-preserved
loop-i-preserved c =
    let fs = fields_of c.args.from.now in
    let old = fields_of c.args.into.now in
    let hs = fields_of c.loop-i.into in
    let js = fields_of c.add.new.self in
    let i = c.loop-i.i in
    let label = c.in_ok-label.label in
    let kid = get_or c.kids-kids.result.now i 0 in
    let next : take (i + 1) fs ≡ take i fs ++ (ident_of label, kid) ∷ [] = field-next fs c.labels-labels.result.now c.kids-kids.result.now i c.index-labels-i.result label c.labels-labels.ensures c.kids-kids.ensures (omega arith) c.index-labels-i.is c.in_ok-label.ensures.cases in
    elim c.match-branch-3.branch [
      | in-Some+in_ok-push w ↦
          let known = rw w.in-Some.is at c.in_ok-found.ensures.known in
          record {
            joins = fields-known-too old (take i fs) hs js (take (i + 1) fs) c.args.pending.now.items c.loop-i.pending.items c.match-branch-3.pending.items (ident_of label, kid) w.in-Some.found c.loop-i.invariant.joins known.0 known.1 next (ap (λ v. v.items) w.pending-is ∙ w.in_ok-push.ensures.items);
            more = subst (BeginsWith old) (sym known.0) c.loop-i.invariant.more;
          }
      | in_default w ↦
          let new = c.in_ok-found.ensures.new w.in_default.is in
          record {
            joins = rw w.pending-is (fields-new old (take i fs) hs js (take (i + 1) fs) c.args.pending.now.items c.loop-i.pending.items (ident_of label, kid) c.loop-i.invariant.joins new next);
            more = begins-then old hs js c.loop-i.invariant.more (begins-one hs js (ident_of label, kid) new);
          }
    ]
