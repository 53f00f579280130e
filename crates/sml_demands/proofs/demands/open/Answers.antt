use Rattle.std.proofs.Common.{◌≡◌, ◌∷◌, [], ap, refl, Err}
use Rattle.sml_objects.specs.Views.{type_of}
use Rattle.sml_graph.specs.declared.graph.Graph.{Graph}
use Rattle.sml_graph.specs.Graphs.{fields_of}
use Rattle.sml_graph.specs.Interned.{demanded}
use Rattle.sml_demands.proofs.Shaping.{pushed-sound, pushed-pairs, row-clash, asks-row, outside, within, moved-row, owners-row, changed-row}
use Rattle.sml_demands.proofs.demands.open.Goals as goal

pub solve-requires-clause-sound : goal.solve-requires-clause-sound
solve-requires-clause-sound c =
    let ns = c.args.graph.now.nodes.items in
    let hs = c.add.new.graph.nodes.items in
    let ks = c.add_kids.new.graph.nodes.items in
    let ms = c.push_row.new.graph.nodes.items in
    let us = c.args.unknowns.now in
    let t = type_of c.args.ty.now in
    let rs = demanded c.args.fields.now in
    let fs = fields_of c.add_kids.new.row in
    let ps = c.add_kids.new.pending.items in
    let qs = c.push-2.new.self.items in
    let x = c.in-Ok.ensures.interns in
    let y = c.in_default-add_kids.ensures.interns in
    let z = c.in-Ok-push_row.ensures.nodes in
    pushed-sound ns hs ks ms us t rs c.in-Ok.at c.in-Ok-push_row.place fs ps qs c.requires.inside c.requires.ty c.requires.fields x y z c.in-Ok-push_row.ensures.at c.in_default-push-2.ensures.items

pub solve-requires-clause-inside : goal.solve-requires-clause-inside
solve-requires-clause-inside c =
    let ns = c.args.graph.now.nodes.items in
    let hs = c.add.new.graph.nodes.items in
    let ks = c.add_kids.new.graph.nodes.items in
    let ms = c.push_row.new.graph.nodes.items in
    let us = c.args.unknowns.now in
    let t = type_of c.args.ty.now in
    let rs = demanded c.args.fields.now in
    let fs = fields_of c.add_kids.new.row in
    let ps = c.add_kids.new.pending.items in
    let qs = c.push-2.new.self.items in
    let x = c.in-Ok.ensures.interns in
    let y = c.in_default-add_kids.ensures.interns in
    let z = c.in-Ok-push_row.ensures.nodes in
    pushed-pairs ns hs ks ms us t rs c.in-Ok.at c.in-Ok-push_row.place fs ps qs c.requires.inside c.requires.ty c.requires.fields x y z c.in-Ok-push_row.ensures.at c.in_default-push-2.ensures.items

pub returns-in-Ok-solve-clause-asks : goal.returns-in-Ok-solve-clause-asks
returns-in-Ok-solve-clause-asks c =
    let ns = c.args.graph.now.nodes.items in
    let hs = c.add.new.graph.nodes.items in
    let ks = c.add_kids.new.graph.nodes.items in
    let ms = c.push_row.new.graph.nodes.items in
    let us = c.args.unknowns.now in
    let t = type_of c.args.ty.now in
    let rs = demanded c.args.fields.now in
    let fs = fields_of c.add_kids.new.row in
    let ps = c.add_kids.new.pending.items in
    let qs = c.push-2.new.self.items in
    let x = c.in-Ok.ensures.interns in
    let y = c.in_default-add_kids.ensures.interns in
    let z = c.in-Ok-push_row.ensures.nodes in
    let begun : c.push.new.self.items ≡ record { node = c.in-Ok-push_row.place; from = 0 } ∷ [] = rw (c.in_default-push.ensures.items, c.new-changed.ensures.items, c.of.ensures) refl in
    asks-row ns hs ks ms us t rs c.in-Ok.at c.in-Ok-push_row.place fs ps qs c.requires.inside c.requires.ty c.requires.fields x y z c.in-Ok-push_row.ensures.at c.in_default-push-2.ensures.items c.solve.new.nodes.items c.push.new.self.items c.in-Ok-solve.changed.items c.in-Ok-solve.ensures.same c.in-Ok-solve.ensures.changes begun c.in-Ok-solve.ensures.len

pub returns-in-Ok-solve-clause-changed : goal.returns-in-Ok-solve-clause-changed
returns-in-Ok-solve-clause-changed c u w =
    let ns = c.args.graph.now.nodes.items in
    let hs = c.add.new.graph.nodes.items in
    let ks = c.add_kids.new.graph.nodes.items in
    let ms = c.push_row.new.graph.nodes.items in
    let us = c.args.unknowns.now in
    let t = type_of c.args.ty.now in
    let rs = demanded c.args.fields.now in
    let fs = fields_of c.add_kids.new.row in
    let ps = c.add_kids.new.pending.items in
    let qs = c.push-2.new.self.items in
    let x = c.in-Ok.ensures.interns in
    let y = c.in_default-add_kids.ensures.interns in
    let z = c.in-Ok-push_row.ensures.nodes in
    let begun : c.push.new.self.items ≡ record { node = c.in-Ok-push_row.place; from = 0 } ∷ [] = rw (c.in_default-push.ensures.items, c.new-changed.ensures.items, c.of.ensures) refl in
    let k = c.add_kids.new.graph in
    let m = c.push_row.new.graph in
    let f : Graph = record { nodes = c.solve.new.nodes; limits = m.limits; orders = m.orders; bottom = m.bottom; top = m.top } in
    changed-row u k m c.solve.new.nodes.items c.in-Ok-solve.changed.items f (c.in_default-add_kids.ensures.whole u (c.in-Ok.ensures.whole u w)) c.in-Ok-push_row.ensures.full c.in-Ok-push_row.ensures.limits c.in-Ok-push_row.ensures.orders refl refl refl refl c.in-Ok-solve.ensures.len c.in-Ok-solve.ensures.sound
    (within ns hs ks ms us t rs c.in-Ok.at c.in-Ok-push_row.place fs ps qs c.requires.inside c.requires.ty c.requires.fields x y z c.in-Ok-push_row.ensures.at c.in_default-push-2.ensures.items c.solve.new.nodes.items c.push.new.self.items c.in-Ok-solve.changed.items c.in-Ok-solve.ensures.same c.in-Ok-solve.ensures.changes begun c.in-Ok-solve.ensures.len) (outside ns hs ks ms us t rs c.in-Ok.at c.in-Ok-push_row.place fs ps qs c.requires.inside c.requires.ty c.requires.fields x y z c.in-Ok-push_row.ensures.at c.in_default-push-2.ensures.items c.solve.new.nodes.items c.push.new.self.items c.in-Ok-solve.changed.items c.in-Ok-solve.ensures.same c.in-Ok-solve.ensures.changes begun c.in-Ok-solve.ensures.len)

pub returns-in-Ok-solve-clause-moves : goal.returns-in-Ok-solve-clause-moves
returns-in-Ok-solve-clause-moves c =
    let ns = c.args.graph.now.nodes.items in
    let hs = c.add.new.graph.nodes.items in
    let ks = c.add_kids.new.graph.nodes.items in
    let ms = c.push_row.new.graph.nodes.items in
    let us = c.args.unknowns.now in
    let t = type_of c.args.ty.now in
    let rs = demanded c.args.fields.now in
    let fs = fields_of c.add_kids.new.row in
    let ps = c.add_kids.new.pending.items in
    let qs = c.push-2.new.self.items in
    let x = c.in-Ok.ensures.interns in
    let y = c.in_default-add_kids.ensures.interns in
    let z = c.in-Ok-push_row.ensures.nodes in
    let begun : c.push.new.self.items ≡ record { node = c.in-Ok-push_row.place; from = 0 } ∷ [] = rw (c.in_default-push.ensures.items, c.new-changed.ensures.items, c.of.ensures) refl in
    moved-row ns hs ks ms us t rs c.in-Ok.at c.in-Ok-push_row.place fs ps qs c.requires.inside c.requires.ty c.requires.fields x y z c.in-Ok-push_row.ensures.at c.in_default-push-2.ensures.items c.solve.new.nodes.items c.push.new.self.items c.in-Ok-solve.changed.items c.in-Ok-solve.ensures.same c.in-Ok-solve.ensures.changes begun c.in-Ok-solve.ensures.len

pub returns-in-Ok-solve-clause-owners : goal.returns-in-Ok-solve-clause-owners
returns-in-Ok-solve-clause-owners c r o =
    let ns = c.args.graph.now.nodes.items in
    let hs = c.add.new.graph.nodes.items in
    let ks = c.add_kids.new.graph.nodes.items in
    let ms = c.push_row.new.graph.nodes.items in
    let us = c.args.unknowns.now in
    let t = type_of c.args.ty.now in
    let rs = demanded c.args.fields.now in
    let fs = fields_of c.add_kids.new.row in
    let ps = c.add_kids.new.pending.items in
    let qs = c.push-2.new.self.items in
    let x = c.in-Ok.ensures.interns in
    let y = c.in_default-add_kids.ensures.interns in
    let z = c.in-Ok-push_row.ensures.nodes in
    let begun : c.push.new.self.items ≡ record { node = c.in-Ok-push_row.place; from = 0 } ∷ [] = rw (c.in_default-push.ensures.items, c.new-changed.ensures.items, c.of.ensures) refl in
    owners-row ns hs ks ms us t rs c.in-Ok.at c.in-Ok-push_row.place fs ps qs c.requires.inside c.requires.ty c.requires.fields x y z c.in-Ok-push_row.ensures.at c.in_default-push-2.ensures.items c.solve.new.nodes.items c.push.new.self.items c.in-Ok-solve.changed.items c.in-Ok-solve.ensures.same c.in-Ok-solve.ensures.changes begun c.in-Ok-solve.ensures.len c.in-Ok-solve.ensures.sound r o

pub returns-in-Err-Clash-clause-clash : goal.returns-in-Err-Clash-clause-clash
returns-in-Err-Clash-clause-clash c l e =
    let ns = c.args.graph.now.nodes.items in
    let hs = c.add.new.graph.nodes.items in
    let ks = c.add_kids.new.graph.nodes.items in
    let ms = c.push_row.new.graph.nodes.items in
    let us = c.args.unknowns.now in
    let t = type_of c.args.ty.now in
    let rs = demanded c.args.fields.now in
    let fs = fields_of c.add_kids.new.row in
    let ps = c.add_kids.new.pending.items in
    let qs = c.push-2.new.self.items in
    let x = c.in-Ok.ensures.interns in
    let y = c.in_default-add_kids.ensures.interns in
    let z = c.in-Ok-push_row.ensures.nodes in
    row-clash ns hs ks ms us t rs c.in-Ok.at c.in-Ok-push_row.place fs ps qs c.requires.inside c.requires.ty c.requires.fields x y z c.in-Ok-push_row.ensures.at c.in_default-push-2.ensures.items (c.in-Err-Clash.ensures.clash (ap Err c.in-Err-Clash.field-0-is))
