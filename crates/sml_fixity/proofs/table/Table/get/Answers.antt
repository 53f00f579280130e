use Rattle.std.proofs.Common.{Some, None, sym, ◌∙◌}
use Rattle.sml_tree.specs.Views.{ident_of}
use Rattle.sml_fixity.proofs.Maps.{fixity_found, unmarked}
use Rattle.sml_fixity.proofs.table.Table.get.Goals as goal

pub returns-then-not-is_marked : goal.returns-then-not-is_marked
returns-then-not-is_marked c =
    let t = c.args.self.now in
    sym (unmarked t.firsts (ident_of c.args.name.now) t.idents.entries (sym c.is_marked.ensures ∙ c.if-not-is_marked.true) t.marked)

pub returns-in-Some : goal.returns-in-Some
returns-in-Some c = fixity_found c.args.self.now.idents.entries c.args.name.now (Some c.in-Some.fixity.now) c.in-Some.ensures.value

pub returns-in-None : goal.returns-in-None
returns-in-None c = fixity_found c.args.self.now.idents.entries c.args.name.now None c.in-None.ensures.value
