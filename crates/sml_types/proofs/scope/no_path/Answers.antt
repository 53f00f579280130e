use Rattle.std.proofs.Common.{◌≡◌, map, take, ap, ◌∙◌, sym, subst, Some}
use Rattle.std.proofs.lemmas.List.{take-map}
use Rattle.sml_lex.specs.declared.fault.Code.TheVariants.{E3}
use Rattle.sml_tree.specs.Views.{ident_of}
use Rattle.sml_rules.specs.Answers.{dotted}
use Rattle.sml_types.specs.Answered.{IsFault}
use Rattle.sml_types.proofs.Paths.{or_memory}
use Rattle.sml_types.proofs.scope.no_path.Goals as goal

pub returns-in-Ok : goal.returns-in-Ok
returns-in-Ok c =
    let path = c.args.long.now.path.items in
    let spelt : c.in-Ok.text.items ≡ dotted (take c.args.count (map ident_of path)) =
    c.in-Ok.ensures ∙ ap (λ l. dotted (map ident_of (take c.args.count l))) c.deref.ensures.value ∙ ap dotted (sym (take-map ident_of c.args.count path)) in
    or_memory c.fault_about.result (record { code = E3; place = c.args.long.now.place; detail = Some (dotted (take c.args.count (map ident_of path))) })
    (subst (λ t. IsFault c.fault_about.result (record { code = E3; place = c.args.long.now.place; detail = Some t })) spelt c.fault_about.ensures)
