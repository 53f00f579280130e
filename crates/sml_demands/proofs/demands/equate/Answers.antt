use Rattle.std.proofs.Common.{◌≡◌, length, ap, refl, sym, ◌∙◌, arith, subst, Err}
use Rattle.std.specs.Prelude.{false}
use Rattle.sml_objects.specs.Views.{type_of, maker_of}
use Rattle.sml_graph.specs.declared.graph.Graph.{Graph}
use Rattle.sml_graph.specs.declared.demand.Refusal.TheVariants.{Unmet}
use Rattle.sml_layers.specs.Worlds.{finite}
use Rattle.sml_graph.specs.Asked.{asked_of, equal, IsFirstUnmet}
use Rattle.sml_demands.specs.CodeLevels.{Moves}
use Rattle.sml_graph.specs.CodeWhole.{IsWhole}
use Rattle.sml_demands.proofs.Levelling.{grown-moves, moves-then, moves-same}
use Rattle.sml_graph.proofs.Ordering.{changed-ordered}
use Rattle.sml_demands.proofs.Demanding.{Stands, Grows, stands-equal, clash-first, changed-but, kept-merged, finished-adds, finished-met, failing-first}
use Rattle.sml_demands.proofs.demands.equate.Goals as goal

pub returns-in-Err-clause-unmet : goal.returns-in-Err-clause-unmet
returns-in-Err-clause-unmet c l e =
    let u = maker_of c.args.unit in
    let us = c.args.unknowns.now in
    let t = type_of c.args.left.now in
    let v = type_of c.args.right.now in
    let g = c.args.graph.now in
    let h = c.add.new.graph in
    let k = c.add-2.new.graph in
    let gx : Grows us t g h c.in-Ok.first = record { interns = c.in-Ok.ensures.interns; limits = c.in-Ok.ensures.limits } in
    let gy : Grows us v h k c.in-Ok-add.second = record { interns = c.in-Ok-add.ensures.interns; limits = c.in-Ok-add.ensures.limits } in
    let r : c.in-Err.refusal ≡ Unmet l = cc in
    let q = c.in-Err.ensures.unmet l (ap Err r) in
    subst (λ l. IsFirstUnmet l (asked_of u us g false) (equal t v)) (sym q)
    (clash-first u us false t v g h k c.in-Ok.first c.in-Ok-add.second c.requires.kept.whole.full c.in-Ok.ensures.full c.requires.kept.owners.inside c.requires.left c.requires.right gx gy (c.in-Err.ensures.clash l (ap Err r)))

pub finish-requires : goal.finish-requires
finish-requires c =
    let u = maker_of c.args.unit in
    let k = c.add-2.new.graph in
    let w : IsWhole u k = c.in-Ok-add.ensures.whole u (c.in-Ok.ensures.whole u c.requires.kept.whole) in
    let n = c.in-Ok-merge_two.ensures.len in
    rw c.as_slice.ensures.value record {
      full = record {
        limits = w.full.limits ∙ sym n;
        orders = w.full.orders ∙ sym n;
        bottom = record { from = w.full.bottom.from; positive = w.full.bottom.positive };
      };
      sound = c.in-Ok-merge_two.ensures.sound;
      inside = rw n c.in-Ok-merge_two.ensures.inside;
      before = k.nodes.items;
      rank = w.rank;
      outside = c.in-Ok-merge_two.ensures.outside;
      ordered = changed-ordered k.nodes.items c.merge_two.new.nodes.items k.orders.items c.in-Ok-merge_two.changed.items w.ordered c.in-Ok-merge_two.ensures.outside;
      but = changed-but u k.nodes.items c.merge_two.new.nodes.items k.limits c.in-Ok-merge_two.changed.items w.closed w.fit c.in-Ok-merge_two.ensures.outside;
    }

pub returns-in-Err-finish-clause-unmet : goal.returns-in-Err-finish-clause-unmet
returns-in-Err-finish-clause-unmet c l e =
    let u = maker_of c.args.unit in
    let us = c.args.unknowns.now in
    let t = type_of c.args.left.now in
    let v = type_of c.args.right.now in
    let g = c.args.graph.now in
    let h = c.add.new.graph in
    let k = c.add-2.new.graph in
    let gx : Grows us t g h c.in-Ok.first = record { interns = c.in-Ok.ensures.interns; limits = c.in-Ok.ensures.limits } in
    let gy : Grows us v h k c.in-Ok-add.second = record { interns = c.in-Ok-add.ensures.interns; limits = c.in-Ok-add.ensures.limits } in
    let m : Graph = record { nodes = c.merge_two.new.nodes; limits = k.limits; orders = k.orders; bottom = k.bottom; top = k.top } in
    let x : Stands (asked_of u us g false) (equal t v) m = stands-equal u us false t v g h k m c.in-Ok.first c.in-Ok-add.second c.requires.kept.whole.full c.in-Ok.ensures.full c.requires.kept.owners.inside c.requires.left c.requires.right gx gy c.in-Ok-merge_two.ensures.same refl in
    failing-first (asked_of u us g false) (equal t v) m x c.in-Ok-merge_two.ensures.sound l (let r : c.in-Err-finish.refusal ≡ Unmet l = cc in c.in-Err-finish.ensures.unmet l (ap Err r))

pub returns-in-Ok-finish-clause-kept : goal.returns-in-Ok-finish-clause-kept
returns-in-Ok-finish-clause-kept c =
    let u = maker_of c.args.unit in
    let us = c.args.unknowns.now in
    let g = c.args.graph.now in
    let h = c.add.new.graph in
    let k = c.add-2.new.graph in
    let gx : Grows us (type_of c.args.left.now) g h c.in-Ok.first = record { interns = c.in-Ok.ensures.interns; limits = c.in-Ok.ensures.limits } in
    let gy : Grows us (type_of c.args.right.now) h k c.in-Ok-add.second = record { interns = c.in-Ok-add.ensures.interns; limits = c.in-Ok-add.ensures.limits } in
    let m : Graph = record { nodes = c.merge_two.new.nodes; limits = k.limits; orders = k.orders; bottom = k.bottom; top = k.top } in
    let w : IsWhole u k = c.in-Ok-add.ensures.whole u (c.in-Ok.ensures.whole u c.requires.kept.whole) in
    kept-merged u us (type_of c.args.left.now) (type_of c.args.right.now) g h k m c.finish.new.graph c.in-Ok.first c.in-Ok-add.second c.requires.kept gx gy w.sound c.in-Ok-merge_two.ensures.len (λ σ q. ((c.in-Ok-merge_two.ensures.same finite σ).0 q).0) c.in-Ok-finish.ensures.ok

pub returns-in-Ok-finish-clause-ok : goal.returns-in-Ok-finish-clause-ok
returns-in-Ok-finish-clause-ok c =
    let u = maker_of c.args.unit in
    let us = c.args.unknowns.now in
    let t = type_of c.args.left.now in
    let v = type_of c.args.right.now in
    let g = c.args.graph.now in
    let h = c.add.new.graph in
    let k = c.add-2.new.graph in
    let gx : Grows us t g h c.in-Ok.first = record { interns = c.in-Ok.ensures.interns; limits = c.in-Ok.ensures.limits } in
    let gy : Grows us v h k c.in-Ok-add.second = record { interns = c.in-Ok-add.ensures.interns; limits = c.in-Ok-add.ensures.limits } in
    let m : Graph = record { nodes = c.merge_two.new.nodes; limits = k.limits; orders = k.orders; bottom = k.bottom; top = k.top } in
    let x : Stands (asked_of u us g false) (equal t v) m = stands-equal u us false t v g h k m c.in-Ok.first c.in-Ok-add.second c.requires.kept.whole.full c.in-Ok.ensures.full c.requires.kept.owners.inside c.requires.left c.requires.right gx gy c.in-Ok-merge_two.ensures.same refl in
    finished-adds (asked_of u us g false) (equal t v) m c.finish.new.graph false x c.in-Ok-finish.ensures.ok

pub returns-in-Ok-finish-clause-met : goal.returns-in-Ok-finish-clause-met
returns-in-Ok-finish-clause-met c =
    let u = maker_of c.args.unit in
    let us = c.args.unknowns.now in
    let t = type_of c.args.left.now in
    let v = type_of c.args.right.now in
    let g = c.args.graph.now in
    let h = c.add.new.graph in
    let k = c.add-2.new.graph in
    let gx : Grows us t g h c.in-Ok.first = record { interns = c.in-Ok.ensures.interns; limits = c.in-Ok.ensures.limits } in
    let gy : Grows us v h k c.in-Ok-add.second = record { interns = c.in-Ok-add.ensures.interns; limits = c.in-Ok-add.ensures.limits } in
    let m : Graph = record { nodes = c.merge_two.new.nodes; limits = k.limits; orders = k.orders; bottom = k.bottom; top = k.top } in
    let x : Stands (asked_of u us g false) (equal t v) m = stands-equal u us false t v g h k m c.in-Ok.first c.in-Ok-add.second c.requires.kept.whole.full c.in-Ok.ensures.full c.requires.kept.owners.inside c.requires.left c.requires.right gx gy c.in-Ok-merge_two.ensures.same refl in
    finished-met (asked_of u us g false) (equal t v) m c.finish.new.graph (λ e. omega (arith, e)) x c.in-Ok-finish.ensures.ok

pub returns-in-Ok-finish-clause-moves : goal.returns-in-Ok-finish-clause-moves
returns-in-Ok-finish-clause-moves c =
    let us = c.args.unknowns.now in
    let g = c.args.graph.now in
    let h = c.add.new.graph in
    let k = c.add-2.new.graph in
    let ns = k.nodes.items in
    let ms = c.merge_two.new.nodes.items in
    let is = c.in-Ok-merge_two.changed.items in
    let n : length ms ≡ length ns = c.in-Ok-merge_two.ensures.len in
    let x : Moves ns ms is = record {
      len = omega (arith, n);
      outside = λ i _. c.in-Ok-merge_two.ensures.outside i;
      inside = rw n c.in-Ok-merge_two.ensures.inside;
      narrows = λ σ q. ((c.in-Ok-merge_two.ensures.same finite σ).0 q).0;
    } in
    let y = moves-then h.nodes.items ns ms is (grown-moves h.nodes.items us (type_of c.args.right.now) ns c.in-Ok-add.second c.in-Ok-add.ensures.interns) x in
    moves-same g.nodes.items ms c.finish.new.graph.nodes.items is c.in-Ok-finish.ensures.ok.nodes
    (moves-then g.nodes.items h.nodes.items ms is (grown-moves g.nodes.items us (type_of c.args.left.now) h.nodes.items c.in-Ok.first c.in-Ok.ensures.interns) y)
