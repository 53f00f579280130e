use Rattle.std.proofs.Common.{ap, sym, refl, ◌∙◌}
use Rattle.indexmap.proofs.CallerLemmas.{insert_entry-new}
use Rattle.sml_graph.specs.Rows.{field_list}
use Rattle.sml_graph.proofs.Rowing.{field-absent, field-present, field_list-append, added-distinct}
use Rattle.sml_graph.proofs.fields.Fields.add.Goals as goal

pub returns-in-Some-clause-known : goal.returns-in-Some-clause-known
returns-in-Some-clause-known c = (refl, field-present _ (λ x y. refl) c.args.label c.in-Some.found.now c.args.self.now.map.entries (sym c.in-Some.ensures.value))

pub invariant_of-self : goal.invariant_of-self
invariant_of-self c =
    let es = c.args.self.now.map.entries in
    let none = sym c.in_default.ensures.value in
    record {
      distinct = added-distinct c.insert.result es c.insert.new.self.entries _ c.args.label c.args.kid c.insert.ensures.entries c.insert.ensures.err
          (insert_entry-new _ c.args.self.now.map c.args.label c.args.kid none) c.args.self.now.distinct (field-absent _ (λ x y. refl) c.args.label es none);
    }

pub returns-clause-new : goal.returns-clause-new
returns-clause-new c _ =
    ap field_list (c.in_ok-insert.ensures.entries ∙ insert_entry-new _ c.args.self.now.map c.args.label c.args.kid (sym c.in_default.ensures.value))
    ∙ field_list-append c.args.self.now.map.entries c.args.label c.args.kid
