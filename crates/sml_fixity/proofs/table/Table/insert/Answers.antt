use Rattle.sml_fixity.proofs.Maps.{found_inserted, marked_stay}
use Rattle.sml_fixity.proofs.table.Table.insert.Goals as goal

pub invariant_of-self : goal.invariant_of-self
invariant_of-self c =
    let t = c.args.self.now in
    record {
      marked = marked_stay c.insert.result t.firsts c.mark.new.firsts t.idents.entries c.insert.new.self.entries c.args.name c.args.fixity c.mark.ensures.others c.mark.ensures.marked t.marked c.insert.ensures.entries c.insert.ensures.err;
    }

pub returns-clause-after : goal.returns-clause-after
returns-clause-after c = found_inserted c.args.self.now.idents.entries c.insert.new.self.entries c.args.name c.args.fixity c.in_ok-insert.ensures.entries
