use Rattle.std.proofs.Common.{◌≡◌, ap, sym, subst, arith, Err}
use Rattle.std.specs.Prelude.{false}
use Rattle.sml_objects.specs.Views.{type_of, maker_of}
use Rattle.sml_graph.specs.declared.demand.Refusal.TheVariants.{Unmet}
use Rattle.sml_graph.specs.Interned.{demanded}
use Rattle.sml_graph.specs.Asked.{asked_of, has_fields, IsFirstUnmet}
use Rattle.sml_graph.specs.CodeWhole.{IsChanged}
use Rattle.sml_demands.proofs.Levelling.{moves-same}
use Rattle.sml_demands.proofs.Demanding.{Stands, finished-adds, finished-met, failing-first}
use Rattle.sml_demands.proofs.Shaping.{stands-row, row-first, kept-row}
use Rattle.sml_demands.proofs.demands.ask_row.Goals as goal

pub finish-requires : goal.finish-requires
finish-requires c = rw c.as_slice.ensures.value (c.in-Ok.ensures.changed (maker_of c.args.unit) c.requires.kept.whole)

pub returns-in-Err-clause-unmet : goal.returns-in-Err-clause-unmet
returns-in-Err-clause-unmet c l e =
    let u = maker_of c.args.unit in
    let us = c.args.unknowns.now in
    let t = type_of c.args.ty.now in
    let rs = demanded c.args.fields.now in
    let g = c.args.graph.now in
    let m = c.open.new.graph in
    let s = asked_of u us g false in
    let r : c.in-Err.refusal ≡ Unmet l = cc in
    let q = c.in-Err.ensures.unmet l (ap Err r) in
    subst (λ l. IsFirstUnmet l s (has_fields t rs)) (sym q) (row-first u us false t rs g c.requires.ty c.requires.fields (c.in-Err.ensures.clash l (ap Err r)))

pub returns-in-Err-finish-clause-unmet : goal.returns-in-Err-finish-clause-unmet
returns-in-Err-finish-clause-unmet c l e =
    let u = maker_of c.args.unit in
    let us = c.args.unknowns.now in
    let t = type_of c.args.ty.now in
    let rs = demanded c.args.fields.now in
    let g = c.args.graph.now in
    let m = c.open.new.graph in
    let s = asked_of u us g false in
    let x : Stands s (has_fields t rs) m = stands-row u us false t rs g m c.requires.kept.whole.full c.requires.kept.owners.inside c.requires.ty c.requires.fields c.in-Ok.ensures.asks c.in-Ok.ensures.limits in
    let changed : IsChanged u m c.in-Ok.changed.items = c.in-Ok.ensures.changed u c.requires.kept.whole in
    let r : c.in-Err-finish.refusal ≡ Unmet l = cc in
    failing-first s (has_fields t rs) m x changed.sound l (c.in-Err-finish.ensures.unmet l (ap Err r))

pub returns-in-Ok-finish-clause-ok : goal.returns-in-Ok-finish-clause-ok
returns-in-Ok-finish-clause-ok c =
    let u = maker_of c.args.unit in
    let us = c.args.unknowns.now in
    let t = type_of c.args.ty.now in
    let rs = demanded c.args.fields.now in
    let g = c.args.graph.now in
    let m = c.open.new.graph in
    let s = asked_of u us g false in
    let x : Stands s (has_fields t rs) m = stands-row u us false t rs g m c.requires.kept.whole.full c.requires.kept.owners.inside c.requires.ty c.requires.fields c.in-Ok.ensures.asks c.in-Ok.ensures.limits in
    finished-adds s (has_fields t rs) m c.finish.new.graph false x c.in-Ok-finish.ensures.ok

pub returns-in-Ok-finish-clause-met : goal.returns-in-Ok-finish-clause-met
returns-in-Ok-finish-clause-met c =
    let u = maker_of c.args.unit in
    let us = c.args.unknowns.now in
    let t = type_of c.args.ty.now in
    let rs = demanded c.args.fields.now in
    let g = c.args.graph.now in
    let m = c.open.new.graph in
    let s = asked_of u us g false in
    let x : Stands s (has_fields t rs) m = stands-row u us false t rs g m c.requires.kept.whole.full c.requires.kept.owners.inside c.requires.ty c.requires.fields c.in-Ok.ensures.asks c.in-Ok.ensures.limits in
    finished-met s (has_fields t rs) m c.finish.new.graph (λ e. omega (arith, e)) x c.in-Ok-finish.ensures.ok

pub returns-in-Ok-finish-clause-moves : goal.returns-in-Ok-finish-clause-moves
returns-in-Ok-finish-clause-moves c =
    moves-same c.args.graph.now.nodes.items c.open.new.graph.nodes.items c.finish.new.graph.nodes.items c.in-Ok.changed.items c.in-Ok-finish.ensures.ok.nodes c.in-Ok.ensures.moves

pub returns-in-Ok-finish-clause-kept : goal.returns-in-Ok-finish-clause-kept
returns-in-Ok-finish-clause-kept c =
    kept-row (maker_of c.args.unit) c.args.unknowns.now c.args.graph.now c.open.new.graph c.finish.new.graph c.requires.kept c.in-Ok-finish.ensures.ok c.in-Ok.ensures.owners
