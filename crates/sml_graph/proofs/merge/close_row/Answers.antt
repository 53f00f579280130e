use Rattle.std.proofs.Common.{◌≡◌, length, sym, ap, subst, ◌∙◌, arith, Err}
use Rattle.std.proofs.lemmas.List.{length-map}
use Rattle.sml_tree.specs.Views.{ident_of}
use Rattle.sml_objects.specs.Views.{label_list}
use Rattle.sml_graph.specs.declared.merge.Unsolved.TheVariants.{Clash}
use Rattle.sml_graph.specs.declared.node.Node.TheVariants.{App, Open}
use Rattle.sml_graph.specs.Graphs.{Joins, LacksLabel, JoinsRow, fields_of}
use Rattle.sml_graph.proofs.Merging.{joins-row, count-apart, label-apart, arrow-apart, name-apart}
use Rattle.sml_graph.proofs.merge.close_row.Goals as goal

pub returns-then-len-as_slice-clause-clash : goal.returns-then-len-as_slice-clause-clash
returns-then-len-as_slice-clause-clash c _ =
    let n : length c.as_slice.result.now ≡ length (label_list c.in-Row.labels.value) = sym (length-map c.as_slice.result.now ident_of) ∙ ap length (c.as_slice.ensures ∙ ap label_list c.deref.ensures) in
    count-apart c.args.head c.in-Row.labels c.args.kids c.args.fields c.in-Row.is (λ q. c.if-len-as_slice.true (omega (arith, q, n, c.len.ensures.value)))

pub returns-in-Err-clause-clash : goal.returns-in-Err-clause-clash
returns-in-Err-clause-clash c e =
    let f : c.in-Err.fault ≡ Clash = cc in
    let l : LacksLabel (fields_of c.args.fields.value) (label_list c.in-Row.labels.value) c.args.kids.items = rw (c.deref-in-Row.ensures, c.deref-in-Row-2.ensures, c.as_slice-in-Row.ensures) at (c.in-Err.ensures.clash (ap Err f)) in
    label-apart c.args.head c.in-Row.labels c.args.kids c.args.fields c.in-Row.is l

pub returns-in-Arrow-clause-clash : goal.returns-in-Arrow-clause-clash
returns-in-Arrow-clause-clash c _ = arrow-apart c.args.head c.args.kids c.args.fields c.in-Arrow.is

pub returns-in-Name-clause-clash : goal.returns-in-Name-clause-clash
returns-in-Name-clause-clash c _ = name-apart c.args.head c.in-Name.field-0 c.args.kids c.args.fields c.in-Name.is

pub returns-clause-joins : goal.returns-clause-joins
returns-clause-joins c =
    let n : length c.as_slice.result.now ≡ length (label_list c.in-Row.labels.value) = sym (length-map c.as_slice.result.now ident_of) ∙ ap length (c.as_slice.ensures ∙ ap label_list c.deref.ensures) in
    let j : JoinsRow (fields_of c.args.fields.value) (label_list c.in-Row.labels.value) c.args.kids.items c.args.pending.now.items c.push_fields.new.pending.items = rw (c.deref-in-Row.ensures, c.deref-in-Row-2.ensures, c.as_slice-in-Row.ensures) at c.in-Ok.ensures.joins in
    subst (λ f. Joins (App f c.args.kids) (Open c.args.fields) (App f c.args.kids) c.args.pending.now.items c.push_fields.new.pending.items) (sym c.in-Row.is)
    (joins-row c.in-Row.labels c.args.kids c.args.fields c.args.pending.now.items c.push_fields.new.pending.items (omega (arith, n, c.len.ensures.value, c.if-len-as_slice.false)) j)
