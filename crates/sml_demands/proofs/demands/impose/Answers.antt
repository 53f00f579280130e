use Rattle.std.proofs.Common.{arith, []}
use Rattle.std.specs.Prelude.{false}
use Rattle.sml_objects.specs.Views.{type_of, maker_of}
use Rattle.sml_graph.specs.Graphs.{IsSound}
use Rattle.sml_graph.specs.Asked.{asked_of, asks, limit_of}
use Rattle.sml_graph.specs.CodeWhole.{IsWhole, LowersLimit}
use Rattle.sml_demands.proofs.Levelling.{grown-moves, moves-same}
use Rattle.sml_demands.proofs.Demanding.{Stands, Grows, stands-asked, limit-changed, kept-lowered, finished-adds, finished-met, failing-first}
use Rattle.sml_demands.proofs.demands.impose.Goals as goal

pub finish-requires : goal.finish-requires
finish-requires c =
    let u = maker_of c.args.unit in
    let h = c.add.new.graph in
    let w : IsWhole u h = c.in-Ok.ensures.whole u c.requires.kept.whole in
    rw c.as_slice.ensures.value (limit-changed u c.limit.result h c.in-Ok.at c.lower_limit.new.graph c.in-Ok-lower_limit.changed.items w c.in-Ok-lower_limit.ensures.lowers)

pub returns-in-Err-finish-clause-unmet : goal.returns-in-Err-finish-clause-unmet
returns-in-Err-finish-clause-unmet c l e =
    let u = maker_of c.args.unit in
    let us = c.args.unknowns.now in
    let t = type_of c.args.ty.now in
    let g = c.args.graph.now in
    let h = c.add.new.graph in
    let m = c.lower_limit.new.graph in
    let js = c.in-Ok-lower_limit.changed.items in
    let gx : Grows us t g h c.in-Ok.at = record { interns = c.in-Ok.ensures.interns; limits = c.in-Ok.ensures.limits } in
    let low : LowersLimit h c.in-Ok.at (limit_of c.args.ask) m js = rw c.limit.ensures at c.in-Ok-lower_limit.ensures.lowers in
    let x : Stands (asked_of u us g false) (asks c.args.ask t) m = stands-asked u us false c.args.ask t g h m c.in-Ok.at js c.requires.known low c.requires.kept.whole.full c.requires.kept.owners.inside gx in
    let w : IsWhole u h = c.in-Ok.ensures.whole u c.requires.kept.whole in
    let sound : IsSound m.nodes.items = rw low.nodes w.sound in
    failing-first (asked_of u us g false) (asks c.args.ask t) m x sound l (c.in-Err-finish.ensures.unmet l e)

pub returns-clause-kept : goal.returns-clause-kept
returns-clause-kept c =
    let u = maker_of c.args.unit in
    let us = c.args.unknowns.now in
    let t = type_of c.args.ty.now in
    let g = c.args.graph.now in
    let h = c.add.new.graph in
    let m = c.lower_limit.new.graph in
    let js = c.in-Ok-lower_limit.changed.items in
    let gx : Grows us t g h c.in-Ok.at = record { interns = c.in-Ok.ensures.interns; limits = c.in-Ok.ensures.limits } in
    let low : LowersLimit h c.in-Ok.at (limit_of c.args.ask) m js = rw c.limit.ensures at c.in-Ok-lower_limit.ensures.lowers in
    kept-lowered u us t g h m c.finish.new.graph c.in-Ok.at c.requires.kept gx low.nodes c.in-Ok-finish.ensures.ok

pub returns-clause-ok : goal.returns-clause-ok
returns-clause-ok c =
    let u = maker_of c.args.unit in
    let us = c.args.unknowns.now in
    let t = type_of c.args.ty.now in
    let g = c.args.graph.now in
    let h = c.add.new.graph in
    let m = c.lower_limit.new.graph in
    let js = c.in-Ok-lower_limit.changed.items in
    let gx : Grows us t g h c.in-Ok.at = record { interns = c.in-Ok.ensures.interns; limits = c.in-Ok.ensures.limits } in
    let low : LowersLimit h c.in-Ok.at (limit_of c.args.ask) m js = rw c.limit.ensures at c.in-Ok-lower_limit.ensures.lowers in
    let x : Stands (asked_of u us g false) (asks c.args.ask t) m = stands-asked u us false c.args.ask t g h m c.in-Ok.at js c.requires.known low c.requires.kept.whole.full c.requires.kept.owners.inside gx in
    finished-adds (asked_of u us g false) (asks c.args.ask t) m c.finish.new.graph false x c.in-Ok-finish.ensures.ok

pub returns-clause-met : goal.returns-clause-met
returns-clause-met c =
    let u = maker_of c.args.unit in
    let us = c.args.unknowns.now in
    let t = type_of c.args.ty.now in
    let g = c.args.graph.now in
    let h = c.add.new.graph in
    let m = c.lower_limit.new.graph in
    let js = c.in-Ok-lower_limit.changed.items in
    let gx : Grows us t g h c.in-Ok.at = record { interns = c.in-Ok.ensures.interns; limits = c.in-Ok.ensures.limits } in
    let low : LowersLimit h c.in-Ok.at (limit_of c.args.ask) m js = rw c.limit.ensures at c.in-Ok-lower_limit.ensures.lowers in
    let x : Stands (asked_of u us g false) (asks c.args.ask t) m = stands-asked u us false c.args.ask t g h m c.in-Ok.at js c.requires.known low c.requires.kept.whole.full c.requires.kept.owners.inside gx in
    finished-met (asked_of u us g false) (asks c.args.ask t) m c.finish.new.graph (λ e. omega (arith, e)) x c.in-Ok-finish.ensures.ok

pub returns-clause-moves : goal.returns-clause-moves
returns-clause-moves c =
    let ns = c.args.graph.now.nodes.items in
    let us = c.args.unknowns.now in
    let h = c.add.new.graph in
    let m = c.lower_limit.new.graph in
    let x = grown-moves ns us (type_of c.args.ty.now) h.nodes.items c.in-Ok.at c.in-Ok.ensures.interns in
    moves-same ns m.nodes.items c.finish.new.graph.nodes.items [] c.in-Ok-finish.ensures.ok.nodes (moves-same ns h.nodes.items m.nodes.items [] c.in-Ok-lower_limit.ensures.lowers.nodes x)
