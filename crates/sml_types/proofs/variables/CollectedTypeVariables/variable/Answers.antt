use Rattle.std.proofs.Common.{rules, ◌≡◌, ap, sym, ◌∙◌}
use Rattle.sml_tree.specs.Views.{ident_of}
use Rattle.sml_objects.specs.Objects as O
use Rattle.sml_objects.specs.Views.{type_of}
use Rattle.sml_objects.proofs.TypeViews.{type_of-free}
use Rattle.sml_core_rules.specs.Types.{variable_type}
use Rattle.sml_rules.specs.Answers.{accepted}
use Rattle.sml_types.proofs.Listing.{taken-at, taken-stays}
use Rattle.sml_types.proofs.variables.CollectedTypeVariables.variable.Goals as goal

pub returns-in_err-number_of-clause-kept : goal.returns-in_err-number_of-clause-kept
returns-in_err-number_of-clause-kept c = λ vs h x k e. h x k (taken-stays c.args.self.now.names.keys c.insert_full.new.self.keys c.in_ok-clone.field-0 x k c.in_ok-index.ensures.keys e)

pub returns-in_err-boxed-clause-kept : goal.returns-in_err-boxed-clause-kept
returns-in_err-boxed-clause-kept c = λ vs h x k e. h x k (taken-stays c.args.self.now.names.keys c.insert_full.new.self.keys c.in_ok-clone.field-0 x k c.in_ok-index.ensures.keys e)

pub returns-clause-answer : goal.returns-clause-answer
returns-clause-answer c = λ vs h.
    let name = ident_of c.args.name.now in
    let stored = c.in_ok-index.ensures.stored in
    ap (variable_type c.args._place) (h name c.in_ok-index.index (taken-at c.insert_full.new.self.keys c.in_ok-index.index stored.0 c.in_ok-clone.field-0 name stored.1 stored.2 (search rules)))
    ∙ ap accepted (sym (ap type_of c.in_ok-boxed.ensures ∙ type_of-free c.in_ok-number_of.field-0 ∙ ap O.free c.in_ok-number_of.ensures))

pub returns-clause-kept : goal.returns-clause-kept
returns-clause-kept c = λ vs h x k e. h x k (taken-stays c.args.self.now.names.keys c.insert_full.new.self.keys c.in_ok-clone.field-0 x k c.in_ok-index.ensures.keys e)
