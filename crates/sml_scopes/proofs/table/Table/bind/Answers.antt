use Rattle.std.proofs.Common.{ap, sym, ◌∙◌, arith}
use Rattle.sml_tree.specs.Views.{ident_of}
use Rattle.sml_bases.specs.CodeStored.{stored_in}
use Rattle.sml_objects.proofs.Puts.{same_ident}
use Rattle.sml_scopes.proofs.Stored.{bound-now}
use Rattle.sml_scopes.proofs.Tables.{bound-before}
use Rattle.sml_scopes.proofs.table.Table.bind.Goals as goal

pub returns-clause-bound : goal.returns-clause-bound
returns-clause-bound g c = λ x.
    bound-now x c.args.self.now.entries.entries c.insert.new.self.entries c.in_ok-clone.field-0 (c.args.opened, c.args.meaning) (ident_of c.args.name.now) c.in_ok-hidden.ensures.entries (ap (λ v. v.items) c.in_ok-clone.ensures.cases)

pub returns-clause-before : goal.returns-clause-before
returns-clause-before g c = λ first h x.
    let es = c.args.self.now.entries.entries in
    let log = c.args.self.now.log in
    let n = log.ok.0 in
    let key = ap (λ v. v.items) c.in_ok-clone.ensures.cases ∙ sym (ap (λ v. v.items) c.in_ok-clone-2.ensures.cases) in
    bound-before x first log.items c.push.new.self.items (c.in_ok-clone-2.field-0, c.in_ok-hidden.hidden) _ (stored_in x es) (stored_in x c.insert.new.self.entries) c.in_ok-push.ensures.items (omega (arith, h, n))
    (bound-now x es c.insert.new.self.entries c.in_ok-clone.field-0 (c.args.opened, c.args.meaning) (ident_of c.in_ok-clone-2.field-0) c.in_ok-hidden.ensures.entries key)
    (λ q. c.in_ok-hidden.ensures.old ∙ ap (λ y. stored_in y es) (key ∙ sym (same_ident x (ident_of c.in_ok-clone-2.field-0) q)))
