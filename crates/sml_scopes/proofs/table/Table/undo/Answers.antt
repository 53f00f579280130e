use Rattle.std.proofs.Common.{refl, ap, sym, ◌∙◌, arith}
use Rattle.sml_tree.specs.Views.{ident_of}
use Rattle.sml_objects.specs.Maps.{order_of}
use Rattle.sml_bases.specs.CodeStored.{stored_in}
use Rattle.sml_objects.proofs.Puts.{at}
use Rattle.sml_scopes.proofs.Stored.{bound-now, stored-removed}
use Rattle.sml_scopes.proofs.Tables.{undone}
use Rattle.sml_scopes.proofs.table.Table.undo.Goals as goal

pub returns-in_ok-insert-in-Some-hidden-clause-before : goal.returns-in_ok-insert-in-Some-hidden-clause-before
returns-in_ok-insert-in-Some-hidden-clause-before g c = λ first h x.
    let es = c.args.self.now.entries.entries in
    let n = c.pop.new.self.ok.0 in
    let k = c.in-Some.ensures.len in
    undone x first c.pop.new.self.items c.args.self.now.log.items (c.in-Some.name, c.in-Some.hidden) (stored_in x es) (stored_in x c.insert.new.self.entries) c.in-Some.ensures.items (omega (arith, h, n, k))
    (bound-now x es c.insert.new.self.entries c.in-Some.name c.in-Some-hidden.meaning (ident_of c.in-Some.name) c.in_ok-insert-in-Some-hidden.ensures.entries refl
    ∙ ap (λ o. at (order_of x (ident_of c.in-Some.name)) o (stored_in x es)) (sym c.in-Some-hidden.is))

pub returns-in-None-clause-before : goal.returns-in-None-clause-before
returns-in-None-clause-before g c = λ first h x.
    let es = c.args.self.now.entries.entries in
    let n = c.pop.new.self.ok.0 in
    let k = c.in-Some.ensures.len in
    undone x first c.pop.new.self.items c.args.self.now.log.items (c.in-Some.name, c.in-Some.hidden) (stored_in x es) (stored_in x c.remove.new.self.entries) c.in-Some.ensures.items (omega (arith, h, n, k))
    (stored-removed x (ident_of c.in-Some.name) es c.remove.new.self.entries c.remove.ensures.entries c.remove.ensures.updates.1
    ∙ ap (λ o. at (order_of x (ident_of c.in-Some.name)) o (stored_in x es)) (sym c.in-None.is))
