use Rattle.std.proofs.Common.{◌≡◌, ◌+◌, ◌∷◌, [], ◌++◌, take, get_or, sym, ap, ◌∙◌, refl, arith}
use Rattle.sml_tree.specs.Trees.{Id}
use Rattle.sml_tree.specs.Views.{ident_of}
use Rattle.sml_objects.specs.Labels.{with_labels}
use Rattle.sml_objects.specs.Maps.{lookup}
use Rattle.sml_objects.specs.Views.{label_list}
use Rattle.sml_graph.specs.Graphs.{fields_of}
use Rattle.sml_graph.proofs.Merging.{row-none, row-more, row-lacks, field-next}
use Rattle.sml_graph.proofs.merge.push_fields.Goals as goal

pub loop-i-init : goal.loop-i-init
loop-i-init c = row-none (label_list c.args.labels.now) c.args.kids.now c.args.pending.now.items

pub returns-in-None-clause-clash : goal.returns-in-None-clause-clash
returns-in-None-clause-clash c _ =
    let fs = fields_of c.args.fields.now in
    let i = c.loop-i.i in
    let label = c.index-own-i.result in
    let kid = get_or c.kids-nodes.result.now i 0 in
    let m = with_labels (label_list c.args.labels.now) c.args.kids.now in
    let next : take (i + 1) fs ≡ take i fs ++ (ident_of label, kid) ∷ [] = field-next fs c.labels-own.result.now c.kids-nodes.result.now i label label c.labels-own.ensures c.kids-nodes.ensures (omega arith) c.index-own-i.is refl in
    let e : ident_of label ≡ c.deref-in-loop-i.result.now = sym (c.deref-in-loop-i.ensures.value ∙ ap (λ v. v.items) c.deref.ensures) in
    row-lacks fs (take i fs) (label_list c.args.labels.now) c.args.kids.now i (ident_of label, kid) next (ap (λ (l : Id). lookup l m) e ∙ sym c.in-None.ensures)

pub loop-i-preserved : goal.loop-i-preserved
loop-i-preserved c =
    let fs = fields_of c.args.fields.now in
    let i = c.loop-i.i in
    let label = c.index-own-i.result in
    let kid = get_or c.kids-nodes.result.now i 0 in
    let m = with_labels (label_list c.args.labels.now) c.args.kids.now in
    let next : take (i + 1) fs ≡ take i fs ++ (ident_of label, kid) ∷ [] = field-next fs c.labels-own.result.now c.kids-nodes.result.now i label label c.labels-own.ensures c.kids-nodes.ensures (omega arith) c.index-own-i.is refl in
    let e : ident_of label ≡ c.deref-in-loop-i.result.now = sym (c.deref-in-loop-i.ensures.value ∙ ap (λ v. v.items) c.deref.ensures) in
    row-more (take i fs) (take (i + 1) fs) (label_list c.args.labels.now) c.args.kids.now c.args.pending.now.items c.loop-i.pending.items c.push.new.self.items (ident_of label, kid) c.in-Some.kid.now c.loop-i.invariant (ap (λ (l : Id). lookup l m) e ∙ sym c.in-Some.ensures) next c.in_ok-push-in-Some.ensures.items
