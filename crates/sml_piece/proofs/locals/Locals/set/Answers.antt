use Rattle.std.proofs.Common.{Some, None, ap, sym, ◌∙◌}
use Rattle.sml_tree.specs.Views.{ident_of}
use Rattle.sml_piece.specs.Elaborated.{numbers_in}
use Rattle.sml_piece.proofs.Numbers.{number_found, number_set}
use Rattle.sml_piece.proofs.locals.Locals.set.Goals as goal

pub returns-in-Some-clause-hidden : goal.returns-in-Some-clause-hidden
returns-in-Some-clause-hidden c =
    number_found c.args.self.now.numbers.entries c.in_ok-key.key (Some c.in-Some.hidden) (sym (c.in-Some.is) ∙ c.in_ok-hidden.ensures.old)
    ∙ ap (λ k. numbers_in c.args.self.now (k.items)) c.in_ok-key.ensures.cases

pub returns-in-Some-clause-set : goal.returns-in-Some-clause-set
returns-in-Some-clause-set c = λ x.
    number_set c.args.self.now.numbers.entries c.insert.new.self.entries c.in_ok-key.key c.args.number x (ident_of c.args.name.now) c.in_ok-hidden.ensures.entries (ap (λ k. k.items) c.in_ok-key.ensures.cases)

pub returns-in-None-clause-hidden : goal.returns-in-None-clause-hidden
returns-in-None-clause-hidden c =
    number_found c.args.self.now.numbers.entries c.in_ok-key.key None (sym (c.in-None.is) ∙ c.in_ok-hidden.ensures.old)
    ∙ ap (λ k. numbers_in c.args.self.now (k.items)) c.in_ok-key.ensures.cases

pub returns-in-None-clause-set : goal.returns-in-None-clause-set
returns-in-None-clause-set c = λ x.
    number_set c.args.self.now.numbers.entries c.insert.new.self.entries c.in_ok-key.key c.args.number x (ident_of c.args.name.now) c.in_ok-hidden.ensures.entries (ap (λ k. k.items) c.in_ok-key.ensures.cases)
